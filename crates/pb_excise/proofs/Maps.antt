-- The map of what an excise leaves is the map without the span.
use Rattle.std.proofs.Common.{◌≡◌, ℕ, ◌+◌, List, [], ◌∷◌, ◌++◌, Bool, true, false, cond, length, refl, ap, sym, ◌∙◌}
use Rattle.std.proofs.lemmas.List.{map-append}
use Rattle.std.specs.Prelude.{not, ◌&&◌, ◌||◌, map, Some, None, unwrap_or}
use Rattle.std.specs.List.{list_any}
use Rattle.std.specs.Option.{option_or}
use Rattle.std.specs.FinMap.{empty, get, get-empty}
use Rattle.std.proofs.Math.Bool.{or-true}
use Rattle.pb_keys.specs.Key.{key_cmp}
use Rattle.pb_keys.specs.Map.{Map, without}
use Rattle.pb_keys.specs.Span.{KeySpan, holds_key, overlap}
use Rattle.pb_keys.proofs.MapFacts.{get-without, same_pairs}
use Rattle.pb_rows.specs.Layer.{KeyLayer}
use Rattle.pb_rows.specs.Verdict.{Verdict, verdict, verdicts}
use Rattle.pb_rows.specs.Viewed.{mapped, viewed}
use Rattle.pb_rows.proofs.MappedVerdicts.{verdict-narrower}
use Rattle.pb_rows.proofs.VerdictLaws.{get-applied_newest_first, verdicts-append}
use Rattle.pb_rows.proofs.ViewLaws.{holds-apart, verdict-bounded}
use Rattle.pb_span_cases.specs.Remainder.{remains}
use Rattle.pb_span_cases.proofs.RemainLaws.{held_by_remains}
use Rattle.pb_version.specs.Version.{TableView, VersionView, all_tables, flattened}
use Rattle.pb_version.specs.Meaning.{layer_of_table, map_of}
use Rattle.pb_version.proofs.Levels.{flattened_cons}
use Rattle.pb_version.proofs.MeaningLaws.{map_of-newest_first}
use Rattle.pb_excise.specs.Excised.{parts_of, numbered_parts, left_of, parts_count, excised_tables, excised_levels, excised}

-- ---- verdicts under a cut

-- one of two parts decides, or none does
of_parts : (a b : Bool) (found : Verdict) → option_or (cond a found None) (cond b found None) ≡ cond (a || b) found None
of_parts true true (Some said) = refl
of_parts true true None = refl
of_parts true false (Some said) = refl
of_parts true false None = refl
of_parts false b found = refl

-- what is in the table and not in the cut, of a table that says nothing elsewhere
of_rest : (h c : Bool) (found : Verdict) → (h ≡ false → found ≡ None) → cond (h && not c) found None ≡ cond c None found
of_rest true true found silent = refl
of_rest true false found silent = refl
of_rest false true found silent = refl
of_rest false false found silent = sym (silent refl)

-- both under the cut
of_both : (c : Bool) (a b : Verdict) → option_or (cond c None a) (cond c None b) ≡ cond c None (option_or a b)
of_both true a b = refl
of_both false a b = refl

not_both : (a b : Bool) → (a && b) ≡ false → b ≡ true → a ≡ false
not_both true b e d = let bad : true ≡ false = sym d ∙ e in cc
not_both false b e d = refl

module _ (layers : ℕ → KeyLayer) (cut : KeySpan) (key : List ℕ) where
  abbrev says : TableView → Verdict
  says t = verdict (layer_of_table layers t) key

  abbrev all_say : List TableView → Verdict
  all_say ts = verdicts (map (layer_of_table layers) ts) key

  abbrev is_cut : Bool
  is_cut = holds_key cut key

  silent_outside : (t : TableView) → holds_key t.view.bounds key ≡ false → says t ≡ None
  unfolding viewed
  silent_outside t outside =
      verdict-bounded t.view.bounds (mapped t.view (layers t.backing)) key
      ∙ ap (λ b. cond b (verdict (mapped t.view (layers t.backing)) key) None) outside

  all_append : (ts us : List TableView) → all_say (ts ++ us) ≡ option_or (all_say ts) (all_say us)
  all_append ts us =
      ap (λ ls. verdicts ls key) (map-append (layer_of_table layers) ts us)
      ∙ verdicts-append (map (layer_of_table layers) ts) (map (layer_of_table layers) us) key

  -- parts of a table within its bounds say what it says, where one of them holds the key
  parts_say : (t : TableView) (first : ℕ) (parts : List KeySpan) →
      ((k : List ℕ) → list_any (λ part. holds_key part k) parts ≡ true → holds_key t.view.bounds k ≡ true) →
      all_say (numbered_parts t first parts) ≡ cond (list_any (λ part. holds_key part key) parts) (says t) None
  parts_say t first [] within = refl
  parts_say t first (part ∷ parts) within =
      (λ i. option_or
      (verdict-narrower part t.view (layers t.backing) key
      (λ k h. within k (ap (λ b. b || list_any (λ other. holds_key other k) parts) h)) i)
      (parts_say t (first + 1) parts (λ k h. within k (ap (λ b. holds_key part k || b) h ∙ or-true (holds_key part k))) i))
      ∙ of_parts (holds_key part key) (list_any (λ other. holds_key other key) parts) (says t)

  within_table : (t : TableView) (k : List ℕ) → list_any (λ part. holds_key part k) (remains t.view.bounds cut) ≡ true →
      holds_key t.view.bounds k ≡ true
  within_table t k h = first_of (holds_key t.view.bounds k) (not (holds_key cut k)) (sym (held_by_remains t.view.bounds cut k) ∙ h)
    where
      first_of : (a b : Bool) → (a && b) ≡ true → a ≡ true
      first_of true b e = refl
      first_of false b e = e

  -- what stands where the table stood says what it says, and nothing inside the cut
  left_says : (t : TableView) (first : ℕ) → all_say (left_of cut first t) ≡ cond is_cut None (says t)
  left_says t first =
      elim (overlap t.view.bounds cut)
      as (λ b. overlap t.view.bounds cut ≡ b →
      all_say (cond b (numbered_parts t first (remains t.view.bounds cut)) (t ∷ [])) ≡ cond is_cut None (says t)) [
        | true ↦ λ e.
            parts_say t first (remains t.view.bounds cut) (within_table t)
            ∙ ap (λ b. cond b (says t) None) (held_by_remains t.view.bounds cut key)
            ∙ of_rest (holds_key t.view.bounds key) is_cut (says t) (silent_outside t)
        | false ↦ λ e. whole_says t e
      ] refl
    where
      or_none : (a : Verdict) → option_or a None ≡ a
      or_none (Some said) = refl
      or_none None = refl

      whole_says : (t : TableView) → overlap t.view.bounds cut ≡ false → option_or (says t) None ≡ cond is_cut None (says t)
      whole_says t e =
          or_none (says t)
          ∙ elim is_cut as (λ b. is_cut ≡ b → says t ≡ cond b None (says t)) [
            | true ↦ λ held. silent_outside t (not_both (holds_key t.view.bounds key) is_cut (holds-apart t.view.bounds cut key e) held)
            | false ↦ λ _. refl
          ] refl

  under_cut : (b : Bool) → cond {A = Verdict} b None None ≡ None
  under_cut true = refl
  under_cut false = refl

  tables_say : (first : ℕ) (ts : List TableView) → all_say (excised_tables cut first ts) ≡ cond is_cut None (all_say ts)
  tables_say first [] = sym (under_cut is_cut)
  tables_say first (t ∷ ts) =
      all_append (left_of cut first t) (excised_tables cut (first + length (parts_of cut t)) ts)
      ∙ (λ i. option_or (left_says t first i) (tables_say (first + length (parts_of cut t)) ts i))
      ∙ of_both is_cut (says t) (all_say ts)

  levels_say : (first : ℕ) (ls : List (List TableView)) →
      all_say (flattened (excised_levels cut first ls)) ≡ cond is_cut None (all_say (flattened ls))
  levels_say first [] = sym (under_cut is_cut)
  levels_say first (ts ∷ ls) =
      ap all_say (flattened_cons (excised_tables cut first ts) (excised_levels cut (first + parts_count cut ts) ls))
      ∙ all_append (excised_tables cut first ts) (flattened (excised_levels cut (first + parts_count cut ts) ls))
      ∙ (λ i. option_or (tables_say first ts i) (levels_say (first + parts_count cut ts) ls i))
      ∙ of_both is_cut (all_say ts) (all_say (flattened ls))
      ∙ ap (cond is_cut None) (sym (ap all_say (flattened_cons ts ls) ∙ all_append ts (flattened ls)))

abbrev nothing : Map
nothing = empty

of_nothing : (b : Bool) (found : Verdict) (key : List ℕ) →
    unwrap_or (cond b None found) (get nothing key) ≡ cond b None (unwrap_or found (get nothing key))
of_nothing true found key = get-empty key_cmp key
of_nothing false found key = refl

pub excised_map : (v : VersionView) (cut : KeySpan) (first : ℕ) (layers : ℕ → KeyLayer) →
    map_of (excised v cut first) layers ≡ without (map_of v layers) cut
unfolding excised
excised_map v cut first layers = same_pairs (map_of (excised v cut first) layers) (without (map_of v layers) cut) (λ key.
    ap (λ m. get m key) (map_of-newest_first (excised v cut first) layers)
    ∙ get-applied_newest_first (map (layer_of_table layers) (flattened (excised_levels cut first v.levels))) nothing key
    ∙ ap (λ o. unwrap_or o (get nothing key)) (levels_say layers cut key first v.levels)
    ∙ of_nothing (holds_key cut key) (verdicts (map (layer_of_table layers) (all_tables v)) key) key
    ∙ ap (cond (holds_key cut key) None)
    (sym (ap (λ m. get m key) (map_of-newest_first v layers)
    ∙ get-applied_newest_first (map (layer_of_table layers) (all_tables v)) nothing key))
    ∙ sym (get-without (map_of v layers) cut key))
