-- A bundle received: in the place of a span, beside all that an excise of the span leaves.
use Rattle.std.specs.Prelude.{◌≡◌, ◌⊎◌, ℕ, ◌≤◌, List, None, false, All, Contains}
use Rattle.pb_keys.specs.Map.{Map, without}
use Rattle.pb_keys.specs.Span.{KeySpan, holds_key, overlap}
use Rattle.pb_rows.specs.Applied.{applied_newest_first}
use Rattle.pb_rows.specs.Layer.{KeyLayer}
use Rattle.pb_rows.specs.Verdict.{verdict}
use Rattle.pb_span_cases.specs.Remainder.{remains}
use Rattle.pb_version.specs.Version.{TableView, VersionView, tables_of_level}
use Rattle.pb_version.specs.Above.{IsNewest}
use Rattle.pb_lend.specs.Lent.{lent_of_level}

-- ---- what it does to a map

-- the layer says nothing of a key that the span doesn't hold
abbrev pub IsSilentOutside : KeySpan → KeyLayer → Type 0
IsSilentOutside span layer = (key : List ℕ) → holds_key span key ≡ false → verdict layer key ≡ None

-- the map with these layers, the first the newest, in the place of a span
abbrev pub received : Map → KeySpan → List KeyLayer → Map
received m span layers = applied_newest_first layers (without m span)

-- ---- what stands beside it

-- the table doesn't overlap the span, or its bounds are a part that an excise of the span leaves of some bounds
abbrev pub StandsBeside : KeySpan → TableView → Type 0
StandsBeside span t = (overlap t.view.bounds span ≡ false) ⊎ ((whole : KeySpan) × Contains (remains whole span) t.view.bounds)

-- each table of the version does
pub record IsWithoutSpan (v : VersionView) (span : KeySpan) : Type 0 where
  pub each : (level : ℕ) → All (StandsBeside span) (tables_of_level v level)

-- on level 1 or deeper, seen as a table that is lent of this level
pub record IsLentTo (lender : VersionView) (span : KeySpan) (level : ℕ) (t : TableView) : Type 0 where
  pub deeper : 1 ≤ level
  pub table : TableView
  pub lent : Contains (lent_of_level lender level span) table
  pub view : t.view ≡ table.view

-- each table of the new version stood on its level, is one of the bundle's, or is newer than all that stood on level 0, as
-- the upper layer's is
pub record AddsBundle (lender : VersionView) (span : KeySpan) (old new : VersionView) : Type 0 where
  pub each : (level : ℕ) →
      All (λ t. Contains (tables_of_level old level) t ⊎ IsNewest old level t ⊎ IsLentTo lender span level t) (tables_of_level new level)
