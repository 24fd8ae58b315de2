-- V3: the bounds of a part are a span, and its prefix and suffix are those of its table.
use Rattle.std.proofs.Common.{◌≡◌, ℕ, true, ap, sym, ◌∙◌}
use Rattle.std.specs.Prelude.{◌&&◌}
use Rattle.std.specs.List.{list_all}
use Rattle.pb_keys.specs.Span.{KeySpan, IsSpan, is_span}
use Rattle.pb_keys.specs.View.{is_mapping, is_view}
use Rattle.pb_keys.proofs.Forms.{span_tests, span_says}
use Rattle.pb_rows.specs.Viewed.{with_bounds}
use Rattle.pb_span_cases.specs.Remainder.{remains}
use Rattle.pb_span_cases.proofs.RemainLaws.{remains_in_form}
use Rattle.pb_version.specs.Version.{TableView, VersionView, all_tables}
use Rattle.pb_version.specs.Rules.{is_plain_view, has_no_parts, keeps_v3}
use Rattle.pb_version.specs.State.{IsVersion}
use Rattle.pb_version.proofs.Lists.{left, right}
use Rattle.pb_version.proofs.Kept.{view_span}
use Rattle.pb_excise.proofs.SameLists.{all_of}
use Rattle.pb_excise.proofs.NewTables.{edit, new_are, each_part, in_all}

plain_part : (t : TableView) (bounds : KeySpan) → is_plain_view t.view ≡ true → is_span bounds ≡ true →
    is_plain_view (with_bounds bounds t.view) ≡ true
plain_part t bounds view span = λ i.
    (left (is_mapping t.view) (is_span t.view.bounds) (left (is_view t.view) (has_no_parts t.view) view) i && span i)
    && right (is_view t.view) (has_no_parts t.view) view i

pub all_v3 : (v : VersionView) (is : IsVersion v) (cut : KeySpan) → IsSpan cut → (first accepted : ℕ) →
    keeps_v3 v (edit v is cut first accepted) ≡ true
all_v3 v is cut cut_is first accepted =
    ap (list_all (λ (t : TableView). is_plain_view t.view)) (new_are v is cut first accepted)
    ∙ each_part cut (λ (t : TableView). is_plain_view t.view) first (all_tables v) (λ p it.
    let view = all_of (λ (t : TableView). is_plain_view t.view) (all_tables v) it.table is.views it.stood in
    let table_is = span_says it.table.view.bounds (view_span it.table view) in
    sym (ap (λ (t : TableView). is_plain_view t.view) it.is)
    ∙ plain_part it.table it.bounds view
    (span_tests it.bounds (in_all IsSpan (remains it.table.view.bounds cut) it.bounds
    (remains_in_form it.table.view.bounds cut table_is cut_is) it.remain)))
