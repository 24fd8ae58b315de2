-- Rows of which one suffix in the place of their own would make one key: those with the prefix of the row before.
use Rattle.std.specs.Prelude.{◌≡◌, ◌≢◌, ℕ, ◌-◌, ◌<◌, ◌≤◌, List, length, slice_index_or}
use Rattle.std.specs.List.{AllAdjacentBelow}
use Rattle.pb_keys.specs.Key.{prefix_of}
use Rattle.pb_rows.specs.Layer.{KeyRow}

abbrev pub HaveOwnPrefix : KeyRow → KeyRow → Type 0
HaveOwnPrefix r s = prefix_of r.key ≢ prefix_of s.key

-- none of the first n rows has the prefix of the row before
abbrev pub HasNoClashUpTo : List KeyRow → ℕ → Type 0
HasNoClashUpTo rows n = AllAdjacentBelow HaveOwnPrefix rows n

abbrev pub HasNoClash : List KeyRow → Type 0
HasNoClash rows = HasNoClashUpTo rows (length rows)

-- the row at this place is the first that has the prefix of the row before
pub record IsFirstClash (rows : List KeyRow) (at : ℕ) : Type 0 where
  pub behind : 1 ≤ at
  pub within : at < length rows
  pub before : HasNoClashUpTo rows at
  pub clashes : (d : KeyRow) → prefix_of (slice_index_or rows (at - 1) d).key ≡ prefix_of (slice_index_or rows at d).key
