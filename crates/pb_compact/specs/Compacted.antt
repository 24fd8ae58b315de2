-- What a compaction writes, how it is judged, and the version after it.
use Rattle.std.specs.Prelude.{◌≡◌, ◌≢◌, ℕ, ◌+◌, List, [], ◌∷◌, map, filter, min, Bool, true, false, not, ◌&&◌, ◌==◌, nat_lt, if◌then◌else◌, Option, Some, None, All, unwrap_or}
use Rattle.std.specs.List.{list_any, list_all}
use Rattle.std.specs.Option.{option_or}
use Rattle.pb_edit.specs.Edit.{DeletedItem, PhysicalItem, VersionEdit}
use Rattle.pb_edit.specs.Grammar.{deleted_below}
use Rattle.pb_keys.specs.Span.{KeySpan, span_of, overlap}
use Rattle.pb_rows.specs.Hull.{hull_of}
use Rattle.pb_rows.specs.Layer.{KeyLayer, IsLayer}
use Rattle.pb_rows.specs.Over.{over_all}
use Rattle.pb_rows.specs.Viewed.{MapsWithin}
use Rattle.pb_version.specs.Version.{TableView, VersionView, tables_of_level, all_tables}
use Rattle.pb_version.specs.Above.{lies_within}
use Rattle.pb_version.specs.Edited.{all_placed, each_level, edited, comes_before}
use Rattle.pb_version.specs.Judged.{any_level}
use Rattle.pb_version.specs.Meaning.{layer_of_table}
use Rattle.pb_version.specs.Rules.{has_number, has_backing, are_all_apart, are_distinct, each_pair, is_plain_view}
use Rattle.pb_version.specs.State.{other_number}
use Rattle.pb_compact.specs.Chosen.{Chosen, hull_of_tables}
use Rattle.pb_compact.specs.Outputs.{outputs_of, values_alone}

-- a new table with the layer in it
pub record OutputView : Type 0 where
  pub number : ℕ
  pub size : ℕ
  pub layer : KeyLayer

-- so many of the outputs are begun; the backings that go with the inputs
pub record CompactionView : Type 0 where
  pub chosen : Chosen
  pub outputs : List OutputView
  pub begun : ℕ
  pub freed : List ℕ

-- ---- what it writes

-- newest first put over one another, without deletions unless these are kept
abbrev pub merged_of : Bool → List KeyLayer → KeyLayer
merged_of keeps layers = if keeps then over_all layers else values_alone (over_all layers)

abbrev pub input_tables : Chosen → List TableView
input_tables chosen = map (λ input. input.1) chosen.inputs

-- of what the inputs show
abbrev pub merged_inputs : (ℕ → KeyLayer) → Chosen → KeyLayer
merged_inputs layers chosen = merged_of chosen.keeps_deletions (map (layer_of_table layers) (input_tables chosen))

-- ---- how it is judged at the install

abbrev pub least : List ℕ → Option ℕ
least [] = None
least (n ∷ ns) = Some (min n (unwrap_or (least ns) n))

-- whether an input on the level has the table's number
abbrev pub is_input : Chosen → ℕ → TableView → Bool
is_input chosen level t = list_any (λ input. input.0 == level && input.1.number == t.number) chosen.inputs

abbrev pub is_missing : VersionView → (ℕ × TableView) → Bool
is_missing v input = not (has_number (tables_of_level v input.0) input.1.number)

-- a table of the next level that is no input and overlaps one of the outputs' hulls
abbrev pub is_in_the_way : Chosen → List KeySpan → TableView → Bool
is_in_the_way chosen hulls t = not (is_input chosen (chosen.level + 1) t) && list_any (λ hull. overlap t.view.bounds hull) hulls

-- the least input that isn't there, else the least table that is in the way
abbrev pub judged : VersionView → Chosen → List KeySpan → Option ℕ
judged v chosen hulls = option_or
    (least (map (λ input. input.1.number) (filter (is_missing v) chosen.inputs)))
    (least (map (λ t. t.number) (filter (is_in_the_way chosen hulls) (tables_of_level v (chosen.level + 1)))))

-- whether the span lies within the hull, if there is one
abbrev pub is_within : Option KeySpan → KeySpan → Bool
is_within None span = false
is_within (Some hull) span = lies_within span hull

-- each within the hull of the inputs' bounds
abbrev pub LieWithinInputs : Chosen → List KeySpan → Type 0
LieWithinInputs chosen spans = All (λ span. is_within (hull_of_tables (input_tables chosen)) span ≡ true) spans

-- ---- the edit

-- whether a virtual table that is no input shows the backing
abbrev pub is_shown_beside : VersionView → Chosen → ℕ → Bool
is_shown_beside v chosen backing =
    any_level (λ level tables. list_any (λ t. t.is_virtual && t.backing == backing && not (is_input chosen level t)) tables) 0 v.levels

-- the backings of which every virtual table is an input
abbrev pub freed : VersionView → Chosen → List ℕ
freed v chosen = map (λ b. b.number) (filter (λ b. not (is_shown_beside v chosen b.number)) v.backings)

-- of the layer; an output has one
abbrev pub output_hull : OutputView → KeySpan
output_hull output = unwrap_or (hull_of output.layer) (span_of [] [])

abbrev pub output_hulls : CompactionView → List KeySpan
output_hulls c = map output_hull c.outputs

abbrev pub input_item : (ℕ × TableView) → DeletedItem
input_item input = record { level = input.0; number = input.1.number }

-- its rank is its number
abbrev pub output_item : ℕ → OutputView → PhysicalItem
output_item level output = record {
  level = level;
  number = output.number;
  rank = output.number;
  size = output.size;
  lo = (output_hull output).lo;
  hi = (output_hull output).hi;
}

-- the inputs go, by level and number, the outputs come to the next level, and the backings go that no other table shows
abbrev pub compaction_edit : CompactionView → VersionEdit
compaction_edit c = record {
  accepted = None;
  next = None;
  log = None;
  flushed = None;
  format = None;
  deleted = all_placed deleted_below (map input_item c.chosen.inputs) [];
  physical = map (output_item (c.chosen.level + 1)) c.outputs;
  virtuals = [];
  created = [];
  removed = c.freed;
}

unfoldable pub compacted : VersionView → CompactionView → VersionView
compacted v c = edited v (compaction_edit c)

-- ---- what the laws ask

-- what the rules of edits leave true of the levels of a version, however many there are: bounds are spans, numbers are a table's own,
-- the tables of a level are apart, and they stand in the order of the level
pub record AreInPlace (v : VersionView) : Type 0 where
  pub views : list_all (λ t. is_plain_view t.view) (all_tables v) ≡ true
  pub numbered : each_pair other_number (all_tables v) ≡ true
  pub apart : list_all (λ apart. apart) (each_level are_all_apart 0 v.levels) ≡ true
  pub sorted : list_all (λ sorted. sorted) (each_level (λ level tables. each_pair (comes_before level) tables) 0 v.levels) ≡ true

-- the backing stands for a layer in form, of which the view keeps each key and each end within its limit
pub record IsReadable (layers : ℕ → KeyLayer) (t : TableView) : Type 0 where
  pub layer : IsLayer (layers t.backing)
  pub within : MapsWithin t.view (layers t.backing)

-- the outputs have the merged inputs, and each number stands for its output's layer
pub record HoldsMerged (layers : ℕ → KeyLayer) (c : CompactionView) : Type 0 where
  pub readable : All (IsReadable layers) (input_tables c.chosen)
  pub merged : map (λ output. output.layer) c.outputs ≡ outputs_of (merged_inputs layers c.chosen)
  pub stored : All (λ output. layers output.number ≡ output.layer) c.outputs

-- the first edit was made, and the outputs' numbers are reserved, differ, and are no table's and no backing's
pub record MayInstall (v : VersionView) (c : CompactionView) : Type 0 where
  pub begun : v.five.format ≢ 0
  pub distinct : are_distinct (map (λ output. output.number) c.outputs) ≡ true
  pub reserved : list_all (λ output. nat_lt output.number v.five.next) c.outputs ≡ true
  pub tables : list_all (λ output. not (has_number (all_tables v) output.number)) c.outputs ≡ true
  pub backings : list_all (λ output. not (has_backing v.backings output.number)) c.outputs ≡ true
