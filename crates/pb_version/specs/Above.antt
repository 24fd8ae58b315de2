-- What a command adds to a version while a compaction runs beside it: nothing that the compaction's inputs would hide.
use Rattle.std.specs.Prelude.{◌≡◌, ℕ, ◌<◌, ◌≤◌, ◌⊎◌, Bool, true, false, ◌&&◌, All, Contains}
use Rattle.pb_keys.specs.Order.{is_upto}
use Rattle.pb_keys.specs.Span.{KeySpan, overlap}
use Rattle.pb_version.specs.Version.{TableView, VersionView, tables_of_level}

-- whether the span lies within the other
abbrev pub lies_within : KeySpan → KeySpan → Bool
lies_within inner outer = is_upto outer.lo inner.lo && is_upto inner.hi outer.hi

-- the part has the table's rank and backing, and lies within its bounds
pub record IsPartOf (table part : TableView) : Type 0 where
  pub rank : part.rank ≡ table.rank
  pub backing : part.backing ≡ table.backing
  pub within : lies_within part.view.bounds table.view.bounds ≡ true

-- a part of a table that stood on the level and has gone from it
pub record ReplacesOne (old new : VersionView) (level : ℕ) (t : TableView) : Type 0 where
  pub table : TableView
  pub stood : Contains (tables_of_level old level) table
  pub gone : ¬ (Contains (tables_of_level new level) table)
  pub part : IsPartOf table t

-- on level 0, with a rank above those of all that stood there
pub record IsNewest (old : VersionView) (level : ℕ) (t : TableView) : Type 0 where
  pub first : level ≡ 0
  pub newest : All (λ u. u.rank < t.rank) (tables_of_level old 0)

-- deeper, where no table overlaps it that stands in both versions, there or above
pub record IsClear (old new : VersionView) (level : ℕ) (t : TableView) : Type 0 where
  pub deeper : 1 ≤ level
  pub clear : (above : ℕ) → above ≤ level →
      All (λ u. Contains (tables_of_level new above) u → overlap t.view.bounds u.view.bounds ≡ false) (tables_of_level old above)

-- a table of the new version stood on its level, replaces one that did, is the newest of level 0, or is clear of what stays
abbrev pub MayStand : VersionView → VersionView → ℕ → TableView → Type 0
MayStand old new level t =
    Contains (tables_of_level old level) t ⊎ ReplacesOne old new level t ⊎ IsNewest old level t ⊎ IsClear old new level t

pub record AddsAbove (old new : VersionView) : Type 0 where
  pub each : (level : ℕ) → All (MayStand old new level) (tables_of_level new level)

-- ---- from one version to the next, and to the one behind it

-- the table stood on this level of the first version no more than of the middle one; on level 0 it is a part of one that went, or newer than all
-- that stood there first
pub record IsLater (first middle last : VersionView) (level : ℕ) (t : TableView) : Type 0 where
  pub new : ¬ (Contains (tables_of_level first level) t)
  pub rank : level ≡ 0 → ReplacesOne middle last level t ⊎ All (λ u. u.rank < t.rank) (tables_of_level first 0)

-- what comes to the last version was new to the first too
pub record ComesLater (first middle last : VersionView) : Type 0 where
  pub each : (level : ℕ) →
      All (λ t. Contains (tables_of_level middle level) t ⊎ IsLater first middle last level t) (tables_of_level last level)
