-- When the edit of an excise breaks no rule.
use Rattle.std.specs.Prelude.{◌≡◌, ◌≢◌, ℕ, ◌+◌, ◌≤◌, length, None}
use Rattle.pb_edit.specs.Edit.{VersionEdit}
use Rattle.pb_keys.specs.Span.{KeySpan}
use Rattle.pb_version.specs.Version.{VersionView, all_tables}
use Rattle.pb_version.specs.Rules.{first_broken}
use Rattle.pb_excise.specs.Excised.{parts_count, excised}
use Rattle.pb_excise.specs.Planned.{with_count}
use Rattle.pb_excise.specs.Unused.{AreUnusedFrom}

-- the first edit was made; the count doesn't fall; and the numbers of the parts are reserved, and from the first of them on none is
-- a table's or a backing's
pub record MayExcise (v : VersionView) (cut : KeySpan) (first accepted : ℕ) : Type 0 where
  pub begun : v.five.format ≢ 0
  pub rises : v.five.accepted ≤ accepted
  pub reserved : first + parts_count cut (all_tables v) ≤ v.five.next
  pub unused : AreUnusedFrom v first

-- with each such count, where at most 4,096 tables stand then
abbrev pub BreaksNoRule : VersionView → KeySpan → ℕ → VersionEdit → Type 0
BreaksNoRule v cut first edit =
    (accepted : ℕ) → MayExcise v cut first accepted → length (all_tables (excised v cut first)) ≤ 4096 →
    first_broken v (with_count accepted edit) ≡ None
