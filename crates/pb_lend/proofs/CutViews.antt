-- Cut views: they keep limits and form; and what holds of each table through its cut view holds of all that are lent.
use Rattle.std.proofs.Common.{◌≡◌, List, [], ◌∷◌, ◌++◌, true, false, cond, subst}
use Rattle.std.proofs.lemmas.List.Elements.{All-nil, All-cons, All-head}
use Rattle.std.specs.Prelude.{map, All}
use Rattle.std.specs.List.{filter}
use Rattle.pb_keys.specs.Order.{lesser, greater}
use Rattle.pb_keys.specs.Span.{KeySpan, IsSpan, span_of, overlap}
use Rattle.pb_keys.specs.View.{KeyView, IsView}
use Rattle.pb_rows.specs.Layer.{KeyLayer}
use Rattle.pb_rows.specs.Viewed.{MapsWithin}
use Rattle.pb_rows.proofs.Parts.{parts_in_form}
use Rattle.pb_version.specs.Version.{TableView}
use Rattle.pb_lend.specs.Lent.{cut_view, cut_table, lent_of}

pub cut_within : (view : KeyView) (span : KeySpan) (layer : KeyLayer) → MapsWithin view layer → MapsWithin (cut_view view span) layer
cut_within view span layer is = record { keys = is.keys; ends = is.ends; apart = is.apart }

-- they are the one part of the span within the bounds
pub cut_is_span : (view : KeyView) (span : KeySpan) → IsSpan view.bounds → IsSpan span → overlap view.bounds span ≡ true →
    IsSpan (cut_view view span).bounds
cut_is_span view span bounds_is span_is both =
    let part = span_of (greater view.bounds.lo span.lo) (lesser view.bounds.hi span.hi) in
    All-head IsSpan part []
    (subst (λ b. All IsSpan (cond b (part ∷ []) [] ++ [])) both
    (parts_in_form view.bounds (span ∷ []) (λ some. bounds_is) (All-cons IsSpan span [] span_is (All-nil IsSpan))))

pub cut_is_view : (view : KeyView) (span : KeySpan) → IsView view → IsSpan span → overlap view.bounds span ≡ true →
    IsView (cut_view view span)
cut_is_view view span is span_is both = record {
  mapping = record { prefix = is.mapping.prefix; suffix = is.mapping.suffix };
  bounds = cut_is_span view span is.bounds span_is both;
}

pub each_lent : (P : TableView → Type 0) (span : KeySpan) → ((t : TableView) → P (cut_table span t)) → (ts : List TableView) →
    All P (lent_of span ts)
each_lent P span has [] = All-nil P
each_lent P span has (t ∷ ts) =
    let others = filter (λ (u : TableView). overlap u.view.bounds span) ts in
    elim (overlap t.view.bounds span) as (λ b. All P (map (cut_table span) (cond b (t ∷ others) others))) [
      | true ↦ All-cons P (cut_table span t) (map (cut_table span) others) (has t) (each_lent P span has ts)
      | false ↦ each_lent P span has ts
    ]
