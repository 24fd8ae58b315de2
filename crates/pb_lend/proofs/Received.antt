-- A bundle says nothing outside its span, so it may be put in the place of that span in any map.
use Rattle.std.proofs.Common.{◌≡◌, ℕ, ◌≤◌, List, [], ◌∷◌, length, Bool, true, false, cond, refl, ap, sym, ◌∙◌}
use Rattle.std.proofs.lemmas.Bool.{and_right}
use Rattle.std.proofs.lemmas.List.Elements.{All-nil, All-cons, All-head, All-tail, All-append, All-map}
use Rattle.std.specs.Prelude.{Option, Some, None, unwrap_or, All}
use Rattle.std.specs.List.{flat_map}
use Rattle.std.specs.Option.{option_or}
use Rattle.std.specs.FinMap.{empty, get, get-empty}
use Rattle.pb_keys.specs.Key.{key_cmp}
use Rattle.pb_keys.specs.Map.{Map, cut, without}
use Rattle.pb_keys.specs.Span.{KeySpan, holds_key}
use Rattle.pb_keys.proofs.MapFacts.{get-without, same_pairs}
use Rattle.pb_rows.specs.Applied.{applied, applied_newest_first}
use Rattle.pb_rows.specs.Changing.{after}
use Rattle.pb_rows.specs.Changing.Changing.{Receive}
use Rattle.pb_rows.specs.Layer.{KeyLayer}
use Rattle.pb_rows.specs.Verdict.{Verdict, verdicts}
use Rattle.pb_rows.proofs.ChangingLaws.{get-receive}
use Rattle.pb_rows.proofs.VerdictLaws.{get-applied_newest_first}
use Rattle.pb_rows.proofs.ViewLaws.{holds-part}
use Rattle.pb_version.specs.Version.{TableView, VersionView, tables_of_level}
use Rattle.pb_version.specs.Meaning.{layer_of_table, map_of}
use Rattle.pb_version.proofs.OnTop.{silent_outside}
use Rattle.pb_lend.specs.Lent.{cut_table, lent_of_level, lent_levels, on_level, lent_tables, read_says, IsUpper, table_layers, bundle_layers}
use Rattle.pb_lend.specs.Received.{IsSilentOutside, received}
use Rattle.pb_lend.proofs.CutMaps.{cut_map}
use Rattle.pb_lend.proofs.CutViews.{each_lent}

-- ---- nothing is said outside

module _ (layers : ℕ → KeyLayer) (span : KeySpan) where
  abbrev Silent : TableView → Type 0
  Silent t = IsSilentOutside span (layer_of_table layers t)

  -- the cut bounds hold no key that the span doesn't
  cut_silent : (t : TableView) → Silent (cut_table span t)
  cut_silent t key outside =
      silent_outside layers key (cut_table span t)
      (holds-part t.view.bounds span key ∙ and_right (holds_key t.view.bounds key) (holds_key span key) outside)

  abbrev IsSilent : ℕ × TableView → Type 0
  IsSilent lent = Silent lent.1

  levels_silent : (v : VersionView) (levels : List ℕ) →
      All IsSilent (flat_map (λ level. on_level level (lent_of_level v level span)) levels)
  levels_silent v [] = All-nil IsSilent
  levels_silent v (level ∷ levels) =
      All-append IsSilent (on_level level (lent_of_level v level span)) (flat_map (λ n. on_level n (lent_of_level v n span)) levels)
      (All-map IsSilent (λ (t : TableView). (level, t)) (lent_of_level v level span)
      (each_lent Silent span cut_silent (tables_of_level v level)))
      (levels_silent v levels)

  pub lent_silent : (v : VersionView) (from : ℕ) → All IsSilent (lent_tables v from span)
  lent_silent v from = levels_silent v (lent_levels from)

pub upper_silent : (v : VersionView) (upper newest : KeyLayer) (from : ℕ) (layers : ℕ → KeyLayer) (span : KeySpan) →
    IsUpper upper newest v from layers span → IsSilentOutside span upper
upper_silent v upper newest from layers span is key outside =
    is key ∙ ap (λ b. cond b (read_says newest v from layers key) None) outside

-- ---- in the place of a span

silent_say : (span : KeySpan) (layers : List KeyLayer) (key : List ℕ) → All (IsSilentOutside span) layers → holds_key span key ≡ false →
    verdicts layers key ≡ None
silent_say span [] key silent outside = refl
silent_say span (layer ∷ older) key silent outside =
    ap (λ o. option_or o (verdicts older key)) (All-head (IsSilentOutside span) layer older silent key outside)
    ∙ silent_say span older key (All-tail (IsSilentOutside span) layer older silent) outside

-- what the layers say of a key, the map that they make, and what stood there
in_place : (held : Bool) (said : Verdict) (made old : Option (List ℕ)) → made ≡ None → (held ≡ false → said ≡ None) →
    unwrap_or said (cond held None old) ≡ option_or (unwrap_or said made) (cond held None old)
in_place true (Some (Some value)) made old is silent = refl
in_place true (Some None) made old is silent = refl
in_place true None made old is silent = ap (λ o. option_or o None) (sym is)
in_place false said made old is silent =
    ap (λ o. unwrap_or o old) (silent refl)
    ∙ ap (λ o. option_or o old) (sym is)
    ∙ ap (λ o. option_or (unwrap_or o made) old) (sym (silent refl))

abbrev nothing : Map
nothing = empty

pub is_received : (m : Map) (span : KeySpan) (layers : List KeyLayer) → All (IsSilentOutside span) layers →
    received m span layers ≡ after m (Receive span (applied_newest_first layers empty))
is_received m span layers silent =
    let sub = applied_newest_first layers nothing in
    same_pairs (received m span layers) (after m (Receive span sub)) (λ key.
    get-applied_newest_first layers (without m span) key
    ∙ ap (unwrap_or (verdicts layers key)) (get-without m span key)
    ∙ in_place (holds_key span key) (verdicts layers key) (get nothing key) (get m key) (get-empty key_cmp key)
    (silent_say span layers key silent)
    ∙ ap (λ o. option_or o (cond (holds_key span key) None (get m key))) (sym (get-applied_newest_first layers nothing key))
    ∙ sym (get-receive span sub m key))

pub bundle_received : (m : Map) (v : VersionView) (upper newest : KeyLayer) (from : ℕ) (layers : ℕ → KeyLayer) (span : KeySpan) →
    length v.levels ≤ 7 → IsUpper upper newest v from layers span →
    received m span (bundle_layers upper (lent_tables v from span) layers)
    ≡ after m (Receive span (cut (applied newest (map_of v layers)) span))
bundle_received m v upper newest from layers span few is =
    is_received m span (bundle_layers upper (lent_tables v from span) layers)
    (All-cons (IsSilentOutside span) upper (table_layers layers (lent_tables v from span)) (upper_silent v upper newest from layers span is)
    (All-map (IsSilentOutside span) (λ (lent : ℕ × TableView). layer_of_table layers lent.1) (lent_tables v from span)
    (lent_silent layers span v from)))
    ∙ ap (λ sub. after m (Receive span sub)) (cut_map v upper newest from layers span few is)
