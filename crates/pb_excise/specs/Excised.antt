-- What an excise leaves of a version.
use Rattle.std.specs.Prelude.{◌≡◌, ℕ, ◌+◌, List, [], ◌∷◌, ◌++◌, length, map, Bool, true, not, ◌&&◌, if◌then◌else◌, Contains}
use Rattle.std.specs.List.{filter}
use Rattle.pb_edit.specs.Edit.{CreatedItem}
use Rattle.pb_edit.specs.Grammar.{created_below}
use Rattle.pb_keys.specs.Span.{KeySpan, overlap}
use Rattle.pb_rows.specs.Layer.{KeyLayer}
use Rattle.pb_rows.specs.Viewed.{MapsWithin, with_bounds}
use Rattle.pb_span_cases.specs.Remainder.{remains}
use Rattle.pb_version.specs.Version.{TableView, VersionView, version_of, all_tables, flattened}
use Rattle.pb_version.specs.Edited.{all_placed}
use Rattle.pb_version.specs.Rules.{has_virtual}
use Rattle.pb_version.specs.Stored.{backing_of}

-- what the cut leaves of a table that it overlaps
abbrev pub parts_of : KeySpan → TableView → List KeySpan
parts_of cut t = if overlap t.view.bounds cut then remains t.view.bounds cut else []

-- a virtual table that shows a part of what the table shows
abbrev pub part_table : TableView → ℕ → KeySpan → TableView
part_table t number bounds = record t { number = number; view = with_bounds bounds t.view; is_virtual = true }

-- one for each of these bounds, numbered on
abbrev pub numbered_parts : TableView → ℕ → List KeySpan → List TableView
numbered_parts t first [] = []
numbered_parts t first (bounds ∷ others) = part_table t first bounds ∷ numbered_parts t (first + 1) others

-- what stands where a table stood: itself, or its parts
abbrev pub left_of : KeySpan → ℕ → TableView → List TableView
left_of cut first t = if overlap t.view.bounds cut then numbered_parts t first (remains t.view.bounds cut) else t ∷ []

-- how many parts the cut leaves of these tables
abbrev pub parts_count : KeySpan → List TableView → ℕ
parts_count cut [] = 0
parts_count cut (t ∷ ts) = length (parts_of cut t) + parts_count cut ts

-- how many tables stand then in the place of these
abbrev pub left_count : KeySpan → List TableView → ℕ
left_count cut [] = 0
left_count cut (t ∷ ts) = (if overlap t.view.bounds cut then length (remains t.view.bounds cut) else 1) + left_count cut ts

-- numbered on in the order of the tables, left before right
abbrev pub excised_tables : KeySpan → ℕ → List TableView → List TableView
excised_tables cut first [] = []
excised_tables cut first (t ∷ ts) = left_of cut first t ++ excised_tables cut (first + length (parts_of cut t)) ts

-- and over all levels
abbrev pub excised_levels : KeySpan → ℕ → List (List TableView) → List (List TableView)
excised_levels cut first [] = []
excised_levels cut first (tables ∷ deeper) = excised_tables cut first tables ∷ excised_levels cut (first + parts_count cut tables) deeper

-- the backings of the physical tables that the cut overlaps
abbrev pub is_carved : KeySpan → TableView → Bool
is_carved cut t = overlap t.view.bounds cut && not t.is_virtual

abbrev pub carved : KeySpan → VersionView → List CreatedItem
carved cut v = map backing_of (filter (is_carved cut) (all_tables v))

-- the version without the cut: of the backings, with those of carved tables, what a virtual table still shows
unfoldable pub excised : VersionView → KeySpan → ℕ → VersionView
excised v cut first = version_of
    (excised_levels cut first v.levels)
    (filter (λ b. has_virtual (flattened (excised_levels cut first v.levels)) b.number)
    (all_placed created_below (carved cut v) v.backings))
    v.five

-- a table shows what one of these tables shows, of the same backing, and keys and ends keep their limits where they do there
pub record ShowsWhatStood (tables : List TableView) (part : TableView) : Type 0 where
  pub table : TableView
  pub stood : Contains tables table
  pub backing : part.backing ≡ table.backing
  pub size : part.size ≡ table.size
  pub within : (layer : KeyLayer) → MapsWithin table.view layer → MapsWithin part.view layer
