-- The view of each table of a version is in form, and bounds alone.
use Rattle.std.proofs.Common.{◌≡◌, Bool, true, length}
use Rattle.std.proofs.lemmas.List.Elements.{All-weaker}
use Rattle.std.proofs.lemmas.List.Sums.{AllPass-from_list_all}
use Rattle.std.specs.Prelude.{◌==◌, ◌&&◌, All}
use Rattle.std.proofs.lemmas.List.{nil_from_length}
use Rattle.std.proofs.lemmas.Bool.{eqb-true}
use Rattle.pb_keys.specs.View.{KeyView, IsView, is_view}
use Rattle.pb_keys.proofs.Forms.{view_says}
use Rattle.pb_rows.specs.Viewed.{plain_view}
use Rattle.pb_version.specs.Version.{TableView, VersionView, all_tables}
use Rattle.pb_version.specs.Rules.{has_no_parts, is_plain_view}
use Rattle.pb_version.specs.State.{IsVersion}
use Rattle.pb_version.proofs.Lists.{left, right}

bounds_alone : (view : KeyView) → has_no_parts view ≡ true → view ≡ plain_view view.bounds
bounds_alone view e = λ i. record {
  bounds = view.bounds;
  prefix = nil_from_length view.prefix (eqb-true (length view.prefix) 0 (left (length view.prefix == 0) (length view.suffix == 0) e)) i;
  suffix = nil_from_length view.suffix (eqb-true (length view.suffix) 0 (right (length view.prefix == 0) (length view.suffix == 0) e)) i;
}

pub viewed_by_bounds : (v : VersionView) → IsVersion v → All (λ t. IsView t.view × (t.view ≡ plain_view t.view.bounds)) (all_tables v)
viewed_by_bounds v is =
    All-weaker (λ (t : TableView). is_plain_view t.view ≡ true) (λ (t : TableView). IsView t.view × (t.view ≡ plain_view t.view.bounds))
    (λ t e. (view_says t.view (left (is_view t.view) (has_no_parts t.view) e), bounds_alone t.view (right (is_view t.view) (has_no_parts t.view) e)))
    (all_tables v) (AllPass-from_list_all (λ (t : TableView). is_plain_view t.view) (all_tables v) is.views)
