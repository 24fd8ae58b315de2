-- The edit of a flush: one new table on level 0, of what the log had up to a count.
use Rattle.std.specs.Prelude.{◌≡◌, ℕ, ◌<◌, ◌≤◌, [], ◌∷◌, ◌==◌, nat_lt, true, if◌then◌else◌, Some, None}
use Rattle.std.specs.List.{list_all}
use Rattle.pb_edit.specs.Edit.{PhysicalItem, VersionEdit}
use Rattle.pb_keys.specs.Span.{KeySpan, IsSpan}
use Rattle.pb_rows.specs.Layer.{KeyLayer}
use Rattle.pb_version.specs.Version.{TableView, VersionView, all_tables}
use Rattle.pb_version.specs.Edited.{physical_table}
use Rattle.pb_version.specs.State.{is_below_next}
use Rattle.pb_version.specs.Examples.{with_physical}

-- its rank is its number
abbrev pub flush_item : ℕ → ℕ → KeySpan → PhysicalItem
flush_item number size hull = record { level = 0; number = number; rank = number; size = size; lo = hull.lo; hi = hull.hi }

abbrev pub flush_edit : ℕ → ℕ → ℕ → ℕ → KeySpan → VersionEdit
flush_edit count log number size hull = with_physical (Some count) None (Some log) (Some count) None (flush_item number size hull ∷ [])

abbrev pub flush_table : ℕ → ℕ → KeySpan → TableView
flush_table number size hull = physical_table (flush_item number size hull)

-- the layers, but for this one
abbrev pub with_layer : (ℕ → KeyLayer) → ℕ → KeyLayer → ℕ → KeyLayer
with_layer layers number layer n = if n == number then layer else layers n

-- the first edit was made; all numbers and ranks in use are below the new number; it and the log's are reserved; the count
-- doesn't fall; and the new table's bounds are a span
pub record MayFlush (v : VersionView) (count log number : ℕ) (hull : KeySpan) : Type 0 where
  pub begun : v.five.format ≡ 1
  pub tables : list_all (is_below_next number) (all_tables v) ≡ true
  pub backings : list_all (λ b. nat_lt b.number number) v.backings ≡ true
  pub reserved : number < v.five.next
  pub log_reserved : log < v.five.next
  pub rises : v.five.accepted ≤ count
  pub bounds : IsSpan hull
