-- The tables of a version, the newest first, make its map.
use Rattle.std.proofs.Common.{◌≡◌, ℕ, List, [], ◌∷◌, ◌++◌, refl, ap, ◌∙◌, reverse}
use Rattle.std.proofs.lemmas.List.{reverse-append, map-append}
use Rattle.std.specs.Prelude.{map}
use Rattle.std.specs.FinMap.{empty}
use Rattle.pb_keys.specs.Map.{Map}
use Rattle.pb_rows.specs.Layer.{KeyLayer}
use Rattle.pb_rows.specs.Applied.{applied, applied_in_turn, applied_newest_first}
use Rattle.pb_version.specs.Version.{TableView, VersionView, all_tables}
use Rattle.pb_version.specs.Meaning.{layer_of_table, map_of}

in_turn_append : (xs ys : List KeyLayer) (m : Map) → applied_in_turn (xs ++ ys) m ≡ applied_in_turn ys (applied_in_turn xs m)
in_turn_append [] ys m = refl
in_turn_append (x ∷ xs) ys m = in_turn_append xs ys (applied x m)

in_turn_reversed : (f : TableView → KeyLayer) (ts : List TableView) (m : Map) → applied_in_turn (map f (reverse ts)) m ≡ applied_newest_first (map f ts) m
in_turn_reversed f [] m = refl
in_turn_reversed f (t ∷ ts) m =
    ap (λ us. applied_in_turn (map f us) m) (reverse-append (t ∷ []) ts)
    ∙ ap (λ ls. applied_in_turn ls m) (map-append f (reverse ts) (t ∷ []))
    ∙ in_turn_append (map f (reverse ts)) (f t ∷ []) m
    ∙ ap (applied (f t)) (in_turn_reversed f ts m)

pub map_of-newest_first : (v : VersionView) (layers : ℕ → KeyLayer) → map_of v layers ≡ applied_newest_first (map (layer_of_table layers) (all_tables v)) empty
unfolding map_of
map_of-newest_first v layers = in_turn_reversed (layer_of_table layers) (all_tables v) empty
