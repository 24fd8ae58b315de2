-- What is lent of a span: tables as they are from some level on, and all that is newer as one layer above them.
use Rattle.std.specs.Prelude.{◌≡◌, ℕ, List, [], ◌∷◌, drop, take, map, Bool, not, ◌||◌, None, if◌then◌else◌}
use Rattle.std.specs.FinMap.{empty}
use Rattle.std.specs.List.{filter, flat_map, list_all}
use Rattle.std.specs.Option.{option_or}
use Rattle.pb_keys.specs.Map.{Map}
use Rattle.pb_keys.specs.Order.{lesser, greater}
use Rattle.pb_keys.specs.Span.{KeySpan, span_of, holds_key, overlap}
use Rattle.pb_keys.specs.View.{KeyView}
use Rattle.pb_rows.specs.Applied.{applied, applied_newest_first}
use Rattle.pb_rows.specs.Layer.{KeyLayer}
use Rattle.pb_rows.specs.Over.{over_all}
use Rattle.pb_rows.specs.Verdict.{Verdict, verdict}
use Rattle.pb_rows.specs.Viewed.{viewed, plain_view, with_bounds}
use Rattle.pb_version.specs.Version.{TableView, VersionView, tables_of_level, flattened}
use Rattle.pb_version.specs.InTurn.{tables_say}
use Rattle.pb_version.specs.Meaning.{layer_of_table}

-- ---- the least level that is lent

-- the table doesn't overlap the span, or it stands over a remote backing
abbrev pub may_be_lent : (ℕ → Bool) → KeySpan → TableView → Bool
may_be_lent is_remote span t = not (overlap t.view.bounds span) || is_remote t.backing

-- each table of the level that overlaps the span stands over a remote backing
abbrev pub level_is_remote : VersionView → (ℕ → Bool) → ℕ → KeySpan → Bool
level_is_remote v is_remote level span = list_all (may_be_lent is_remote span) (tables_of_level v level)

-- 7 for none, or 6 where level 6 is remote, or 5 where both are
abbrev pub least_lent : VersionView → (ℕ → Bool) → KeySpan → ℕ
least_lent v is_remote span =
    if level_is_remote v is_remote 6 span then (if level_is_remote v is_remote 5 span then 5 else 6) else 7

-- ---- the tables that are lent

-- the same parts, through bounds from the greater start to the lesser end
abbrev pub cut_view : KeyView → KeySpan → KeyView
cut_view view span = with_bounds (span_of (greater view.bounds.lo span.lo) (lesser view.bounds.hi span.hi)) view

abbrev pub cut_table : KeySpan → TableView → TableView
cut_table span t = record t { view = cut_view t.view span }

-- those that overlap the span, each with its view cut
abbrev pub lent_of : KeySpan → List TableView → List TableView
lent_of span tables = map (cut_table span) (filter (λ t. overlap t.view.bounds span) tables)

abbrev pub lent_of_level : VersionView → ℕ → KeySpan → List TableView
lent_of_level v level span = lent_of span (tables_of_level v level)

-- from this one to 6
abbrev pub lent_levels : ℕ → List ℕ
lent_levels from = drop from (0 ∷ 1 ∷ 2 ∷ 3 ∷ 4 ∷ 5 ∷ 6 ∷ [])

-- each with its level
abbrev pub on_level : ℕ → List TableView → List (ℕ × TableView)
on_level level tables = map (λ t. (level, t)) tables

-- level by level, and each level's as they stand there: by start
abbrev pub lent_tables : VersionView → ℕ → KeySpan → List (ℕ × TableView)
lent_tables v from span = flat_map (λ level. on_level level (lent_of_level v level span)) (lent_levels from)

-- ---- the tables that are read

-- all those of lesser levels, the newest first
abbrev pub tables_above : VersionView → ℕ → List TableView
tables_above v from = flattened (take from v.levels)

-- what is read says: the memtable's layer, or else the tables above the levels that are lent
abbrev pub read_says : KeyLayer → VersionView → ℕ → (ℕ → KeyLayer) → List ℕ → Verdict
read_says newest v from layers key = option_or (verdict newest key) (tables_say layers (tables_above v from) key)

-- the layer says what is read says, where the span holds the key, and nothing elsewhere
abbrev pub IsUpper : KeyLayer → KeyLayer → VersionView → ℕ → (ℕ → KeyLayer) → KeySpan → Type 0
IsUpper upper newest v from layers span =
    (key : List ℕ) → verdict upper key ≡ (if holds_key span key then read_says newest v from layers key else None)

-- one such layer: all that is read, the newer over the older, seen through the span
abbrev pub upper_of : KeyLayer → VersionView → ℕ → (ℕ → KeyLayer) → KeySpan → KeyLayer
upper_of newest v from layers span = viewed (plain_view span) (over_all (newest ∷ map (layer_of_table layers) (tables_above v from)))

-- what the tables show, the first the newest
abbrev pub table_layers : (ℕ → KeyLayer) → List (ℕ × TableView) → List KeyLayer
table_layers layers tables = map (λ lent. layer_of_table layers lent.1) tables

-- the upper layer is the newest
abbrev pub bundle_layers : KeyLayer → List (ℕ × TableView) → (ℕ → KeyLayer) → List KeyLayer
bundle_layers upper tables layers = upper ∷ table_layers layers tables

-- the upper layer applied to what the tables stand for
abbrev pub bundle_map : KeyLayer → List (ℕ × TableView) → (ℕ → KeyLayer) → Map
bundle_map upper tables layers = applied upper (applied_newest_first (table_layers layers tables) empty)
