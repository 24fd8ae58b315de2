-- What is lent says, with the upper layer above it, what the lender's map has in the span.
use Rattle.std.proofs.Common.{◌≡◌, ℕ, ◌≤◌, zero, suc, List, [], ◌∷◌, take, drop, length, Bool, true, false, cond, refl, ap, sym, ◌∙◌, arith}
use Rattle.std.proofs.Math.Bool.{and_comm}
use Rattle.std.proofs.lemmas.Bool.{and_parts}
use Rattle.std.proofs.lemmas.List.{map-append, drop-map}
use Rattle.std.specs.Prelude.{◌&&◌, map, Some, None, unwrap_or, slice_index_or}
use Rattle.std.specs.List.{filter, flat_map}
use Rattle.std.specs.Option.{option_or}
use Rattle.std.specs.FinMap.{empty, get, get-empty}
use Rattle.pb_keys.specs.Key.{key_cmp}
use Rattle.pb_keys.specs.Map.{Map, cut}
use Rattle.pb_keys.specs.Span.{KeySpan, holds_key, overlap}
use Rattle.pb_keys.proofs.MapFacts.{get-cut, same_pairs}
use Rattle.pb_keys.proofs.Tests.{second_is_false}
use Rattle.pb_rows.specs.Applied.{applied, applied_newest_first}
use Rattle.pb_rows.specs.Layer.{KeyLayer}
use Rattle.pb_rows.specs.Over.{over_all}
use Rattle.pb_rows.specs.Verdict.{Verdict, verdict, verdicts}
use Rattle.pb_rows.proofs.LayeringLaws.{verdict-over_all}
use Rattle.pb_rows.proofs.MappedVerdicts.{verdict-narrower}
use Rattle.pb_rows.proofs.VerdictLaws.{get-applied, get-applied_newest_first, verdicts-append, option_or_groups, one_after_other}
use Rattle.pb_rows.proofs.ViewLaws.{holds-part, holds-apart, verdict-plain_view}
use Rattle.pb_version.specs.Version.{TableView, VersionView, version_of, all_tables, tables_of_level}
use Rattle.pb_version.specs.InTurn.{tables_say, levels_say}
use Rattle.pb_version.specs.Meaning.{layer_of_table, map_of}
use Rattle.pb_version.proofs.InTurn.{levels_in_turn}
use Rattle.pb_version.proofs.MeaningLaws.{map_of-newest_first}
use Rattle.pb_version.proofs.OnTop.{silent_outside}
use Rattle.pb_lend.specs.Lent.{cut_view, cut_table, lent_of, lent_levels, on_level, lent_tables, tables_above, IsUpper, upper_of, table_layers, bundle_map}

-- ---- verdicts within a span

-- bounds that hold the key, and the span, of a table that says nothing outside its bounds
within_both : (bounds held : Bool) (found : Verdict) → (bounds ≡ false → found ≡ None) →
    cond (bounds && held) found None ≡ cond held found None
within_both true held found silent = refl
within_both false true found silent = sym (silent refl)
within_both false false found silent = refl

both_within : (held : Bool) (a b : Verdict) → option_or (cond held a None) (cond held b None) ≡ cond held (option_or a b) None
both_within true a b = refl
both_within false a b = refl

nothing_within : (held : Bool) → None ≡ cond {A = Verdict} held None None
nothing_within true = refl
nothing_within false = refl

silent_within : (held : Bool) (found rest : Verdict) → (held ≡ true → found ≡ None) →
    cond held rest None ≡ cond held (option_or found rest) None
silent_within true found rest silent = ap (λ o. option_or o rest) (sym (silent refl))
silent_within false found rest silent = refl

module _ (layers : ℕ → KeyLayer) (span : KeySpan) (key : List ℕ) where
  abbrev held : Bool
  held = holds_key span key

  abbrev says : TableView → Verdict
  says t = verdict (layer_of_table layers t) key

  -- ---- a level

  -- through its cut view a table says in the span what it says through its own
  cut_says : (t : TableView) → says (cut_table span t) ≡ cond held (says t) None
  cut_says t =
      verdict-narrower (cut_view t.view span).bounds t.view (layers t.backing) key
      (λ k h. (and_parts (holds_key t.view.bounds k) (holds_key span k) (sym (holds-part t.view.bounds span k) ∙ h)).0)
      ∙ ap (λ b. cond b (says t) None) (holds-part t.view.bounds span key)
      ∙ within_both (holds_key t.view.bounds key) held (says t) (silent_outside layers key t)

  -- a table that doesn't overlap the span says nothing in it
  silent_beside : (t : TableView) → overlap t.view.bounds span ≡ false → held ≡ true → says t ≡ None
  silent_beside t beside h =
      silent_outside layers key t
      (second_is_false held (holds_key t.view.bounds key)
      (and_comm held (holds_key t.view.bounds key) ∙ holds-apart t.view.bounds span key beside) h)

  -- what is lent of tables says in the span what they say, in their order
  lent_say : (ts : List TableView) → tables_say layers (lent_of span ts) key ≡ cond held (tables_say layers ts key) None
  lent_say [] = nothing_within held
  lent_say (t ∷ ts) =
      let others = filter (λ (u : TableView). overlap u.view.bounds span) ts in
      elim (overlap t.view.bounds span) as (λ b. overlap t.view.bounds span ≡ b →
      tables_say layers (map (cut_table span) (cond b (t ∷ others) others)) key
      ≡ cond held (option_or (says t) (tables_say layers ts key)) None) [
        | true ↦ λ e. (λ i. option_or (cut_says t i) (lent_say ts i)) ∙ both_within held (says t) (tables_say layers ts key)
        | false ↦ λ e. lent_say ts ∙ silent_within held (says t) (tables_say layers ts key) (silent_beside t e)
      ] refl

  -- ---- levels

  without_level : (level : ℕ) (ts : List TableView) → table_layers layers (on_level level ts) ≡ map (layer_of_table layers) ts
  without_level level [] = refl
  without_level level (t ∷ ts) = ap (λ ls. layer_of_table layers t ∷ ls) (without_level level ts)

  -- level after level, wherever they stand
  each_says : (tables_at : ℕ → List TableView) (levels : List ℕ) →
      verdicts (table_layers layers (flat_map (λ level. on_level level (lent_of span (tables_at level))) levels)) key
      ≡ cond held (levels_say layers (map tables_at levels) key) None
  each_says tables_at [] = nothing_within held
  each_says tables_at (level ∷ levels) =
      let here = on_level level (lent_of span (tables_at level)) in
      let rest = flat_map (λ n. on_level n (lent_of span (tables_at n))) levels in
      ap (λ ls. verdicts ls key) (map-append (λ (lent : ℕ × TableView). layer_of_table layers lent.1) here rest)
      ∙ verdicts-append (table_layers layers here) (table_layers layers rest) key
      ∙ (λ i. option_or
      ((ap (λ ls. verdicts ls key) (without_level level (lent_of span (tables_at level))) ∙ lent_say (tables_at level)) i)
      (each_says tables_at levels i))
      ∙ both_within held (tables_say layers (tables_at level) key) (levels_say layers (map tables_at levels) key)

-- ---- as many levels as there may be

-- with empty levels behind the last, up to so many
abbrev filled_up : ℕ → List (List TableView) → List (List TableView)
filled_up zero ls = []
filled_up (suc n) [] = [] ∷ filled_up n []
filled_up (suc n) (ts ∷ ls) = ts ∷ filled_up n ls

seven_levels : (ls : List (List TableView)) → length ls ≤ 7 → map (λ level. slice_index_or ls level []) (lent_levels 0) ≡ filled_up 7 ls
seven_levels [] h = refl
seven_levels (l0 ∷ []) h = refl
seven_levels (l0 ∷ l1 ∷ []) h = refl
seven_levels (l0 ∷ l1 ∷ l2 ∷ []) h = refl
seven_levels (l0 ∷ l1 ∷ l2 ∷ l3 ∷ []) h = refl
seven_levels (l0 ∷ l1 ∷ l2 ∷ l3 ∷ l4 ∷ []) h = refl
seven_levels (l0 ∷ l1 ∷ l2 ∷ l3 ∷ l4 ∷ l5 ∷ []) h = refl
seven_levels (l0 ∷ l1 ∷ l2 ∷ l3 ∷ l4 ∷ l5 ∷ l6 ∷ []) h = refl
seven_levels (l0 ∷ l1 ∷ l2 ∷ l3 ∷ l4 ∷ l5 ∷ l6 ∷ l7 ∷ ls) h = absurd (omega (arith, h))

module _ (layers : ℕ → KeyLayer) (key : List ℕ) where
  filled_says : (n from : ℕ) (ls : List (List TableView)) → length ls ≤ n →
      levels_say layers (drop from (filled_up n ls)) key ≡ levels_say layers (drop from ls) key
  filled_says zero from [] h = refl
  filled_says zero from (ts ∷ ls) h = absurd (omega arith)
  filled_says (suc n) zero [] h = filled_says n zero [] (omega arith)
  filled_says (suc n) zero (ts ∷ ls) h = ap (option_or (tables_say layers ts key)) (filled_says n zero ls (omega arith))
  filled_says (suc n) (suc from) [] h = filled_says n from [] (omega arith) ∙ none_left from
    where
      none_left : (from : ℕ) → levels_say layers (drop from []) key ≡ None
      none_left zero = refl
      none_left (suc from) = refl
  filled_says (suc n) (suc from) (ts ∷ ls) h = filled_says n from ls (omega arith)

  -- those up to a level, and those from it on
  parted : (from : ℕ) (ls : List (List TableView)) →
      levels_say layers ls key ≡ option_or (levels_say layers (take from ls) key) (levels_say layers (drop from ls) key)
  parted zero ls = refl
  parted (suc from) [] = refl
  parted (suc from) (ts ∷ ls) =
      ap (option_or (tables_say layers ts key)) (parted from ls)
      ∙ sym (option_or_groups (tables_say layers ts key) (levels_say layers (take from ls) key) (levels_say layers (drop from ls) key))

  above_say : (v : VersionView) (from : ℕ) → tables_say layers (tables_above v from) key ≡ levels_say layers (take from v.levels) key
  above_say v from = levels_in_turn (version_of (take from v.levels) v.backings v.five) layers key

  all_say : (v : VersionView) (from : ℕ) →
      tables_say layers (all_tables v) key
      ≡ option_or (tables_say layers (tables_above v from) key) (levels_say layers (drop from v.levels) key)
  all_say v from =
      levels_in_turn v layers key
      ∙ parted from v.levels
      ∙ ap (λ o. option_or o (levels_say layers (drop from v.levels) key)) (sym (above_say v from))

  -- the tables that are lent say in the span what the levels say that are lent
  pub lent_tables_say : (v : VersionView) (from : ℕ) (span : KeySpan) → length v.levels ≤ 7 →
      verdicts (table_layers layers (lent_tables v from span)) key
      ≡ cond (holds_key span key) (levels_say layers (drop from v.levels) key) None
  lent_tables_say v from span few =
      each_says layers span key (tables_of_level v) (lent_levels from)
      ∙ ap (λ o. cond (holds_key span key) o None)
      (ap (λ ls. levels_say layers ls key)
      (sym (drop-map (tables_of_level v) from (lent_levels 0)) ∙ ap (drop from) (seven_levels v.levels few))
      ∙ filled_says 7 from v.levels few)

-- ---- the map

abbrev none : Map
none = empty

-- what layers make of nothing
made_of : (layers : List KeyLayer) (key : List ℕ) → get (applied_newest_first layers none) key ≡ unwrap_or (verdicts layers key) None
made_of layers key = get-applied_newest_first layers none key ∙ ap (unwrap_or (verdicts layers key)) (get-empty key_cmp key)

-- the upper layer first, and then the tables
pub bundle_has : (upper : KeyLayer) (tables : List (ℕ × TableView)) (layers : ℕ → KeyLayer) (key : List ℕ) →
    get (bundle_map upper tables layers) key ≡ unwrap_or (option_or (verdict upper key) (verdicts (table_layers layers tables) key)) None
bundle_has upper tables layers key =
    get-applied upper (applied_newest_first (table_layers layers tables) none) key
    ∙ ap (unwrap_or (verdict upper key)) (made_of (table_layers layers tables) key)
    ∙ one_after_other (verdict upper key) (verdicts (table_layers layers tables) key) None

-- the memtable's layer, what is above and what is lent, where the span holds the key and where it doesn't
both_maps : (held : Bool) (newest above lent : Verdict) →
    unwrap_or (option_or (cond held (option_or newest above) None) (cond held lent None)) None
    ≡ cond held (unwrap_or newest (unwrap_or (option_or above lent) None)) None
both_maps true (Some found) above lent = refl
both_maps true None above lent = refl
both_maps false newest above lent = refl

module _ (v : VersionView) (upper newest : KeyLayer) (from : ℕ) (layers : ℕ → KeyLayer) (span : KeySpan) (few : length v.levels ≤ 7)
    (is_upper : IsUpper upper newest v from layers span) where
  abbrev above : List ℕ → Verdict
  above key = tables_say layers (tables_above v from) key

  abbrev deeper : List ℕ → Verdict
  deeper key = levels_say layers (drop from v.levels) key

  lender_has : (key : List ℕ) →
      get (applied newest (map_of v layers)) key ≡ unwrap_or (verdict newest key) (unwrap_or (option_or (above key) (deeper key)) None)
  lender_has key =
      get-applied newest (map_of v layers) key
      ∙ ap (unwrap_or (verdict newest key))
      (ap (λ m. get m key) (map_of-newest_first v layers)
      ∙ made_of (map (layer_of_table layers) (all_tables v)) key
      ∙ ap (λ o. unwrap_or o None) (all_say layers key v from))

  pub cut_map : bundle_map upper (lent_tables v from span) layers ≡ cut (applied newest (map_of v layers)) span
  cut_map = same_pairs (bundle_map upper (lent_tables v from span) layers) (cut (applied newest (map_of v layers)) span) (λ key.
      bundle_has upper (lent_tables v from span) layers key
      ∙ (λ i. unwrap_or (option_or (is_upper key i) (lent_tables_say layers key v from span few i)) None)
      ∙ both_maps (holds_key span key) (verdict newest key) (above key) (deeper key)
      ∙ ap (λ o. cond (holds_key span key) o None) (sym (lender_has key))
      ∙ sym (get-cut (applied newest (map_of v layers)) span key))

-- what is read, put over one another and seen through the span
pub upper_is : (v : VersionView) (newest : KeyLayer) (from : ℕ) (layers : ℕ → KeyLayer) (span : KeySpan) →
    IsUpper (upper_of newest v from layers span) newest v from layers span
upper_is v newest from layers span key =
    let read = newest ∷ map (layer_of_table layers) (tables_above v from) in
    verdict-plain_view span (over_all read) key ∙ ap (λ o. cond (holds_key span key) o None) (verdict-over_all read key)
