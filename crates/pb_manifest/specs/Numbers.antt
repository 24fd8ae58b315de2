-- Numbers are reserved in blocks, each by an edit of its own, before any number of the block is drawn.
use Rattle.std.specs.Prelude.{◌≡◌, ℕ, ◌+◌, ◌-◌, ◌*◌, ◌/◌, ◌<◌, ◌≤◌, ◌^◌, List, [], Some, None}
use Rattle.pb_edit.specs.Edit.{VersionEdit}
use Rattle.pb_manifest.specs.Manifest.{ManifestView}
use Rattle.pb_version.specs.Version.{VersionView}
use Rattle.pb_version.specs.Fold.{FoldsTo}

-- a block has 64 numbers: the end of the last, where whole blocks are put behind next until they reach an end
abbrev pub block_end : ℕ → ℕ → ℕ
block_end next end = next + 64 * ((end - next + 63) / 64)

-- a block is wanted, and the last would end at 2^62 or above
abbrev pub IsSpent : ℕ → ℕ → Type 0
IsSpent next end = (next < end) × (2 ^ 62 ≤ block_end next end)

-- the end of the last of the whole blocks behind next that end below 2^62, next itself where none does
abbrev pub last_block_end : ℕ → ℕ
last_block_end next = next + 64 * ((2 ^ 62 - 1 - next) / 64)

abbrev pub with_next : ℕ → VersionView → VersionView
with_next next version = record version { five = record version.five { next = next } }

-- the edit that reserves the numbers below this one, and does nothing else
abbrev pub reservation : ℕ → VersionEdit
reservation next = record {
  accepted = None;
  next = Some next;
  log = None;
  flushed = None;
  format = None;
  deleted = [];
  physical = [];
  virtuals = [];
  created = [];
  removed = [];
}

-- some edits fold to the version
abbrev pub IsFolded : VersionView → Type 0
IsFolded version = (edits : List VersionEdit) × FoldsTo edits version

-- the same two files, and the same number to draw
pub record SameNumbers (old new : ManifestView) : Type 0 where
  pub number : new.number ≡ old.number
  pub catalogue : new.catalogue ≡ old.catalogue
  pub next : new.next ≡ old.next

-- nothing of the version changes but the end of the reserved numbers, which doesn't fall
pub record OnlyReserves (old new : VersionView) : Type 0 where
  pub only : new ≡ with_next new.five.next old
  pub raised : old.five.next ≤ new.five.next
