-- What bounds alone show of a layer.
use Rattle.std.proofs.Common.{◌≡◌, ℕ, List, sym, ap, ◌∙◌, subst, refl, inl, arith}
use Rattle.std.proofs.lemmas.List.Elements.{All-nil}
use Rattle.std.specs.Prelude.{◌≢◌}
use Rattle.pb_keys.specs.Key.{at_sign}
use Rattle.pb_keys.specs.Span.{KeySpan, IsSpan}
use Rattle.pb_keys.specs.View.{KeyView, IsView}
use Rattle.pb_rows.specs.Layer.{KeyLayer, IsLayer}
use Rattle.pb_rows.specs.Viewed.{bounded, mapped, viewed, plain_view, MapsWithin}
use Rattle.pb_rows.proofs.ViewLaws.{mapped-plain_view}
use Rattle.pb_rows.proofs.ViewedForm.{plain_view_keeps, viewed_is_layer}
use Rattle.pb_table.specs.Spells.{Spells}
use Rattle.pb_virtual.specs.Shown.{IsViewable, IsShown}

pub plain_is_view : (bounds : KeySpan) → IsSpan bounds → IsView (plain_view bounds)
plain_is_view bounds is = record {
  mapping = record {
    prefix = record { within = omega arith; plain = All-nil (λ (b : ℕ). b ≢ at_sign) };
    suffix = inl refl;
  };
  bounds = is;
}

-- through bounds alone nothing is mapped
pub bounded_is_viewed : (view : KeyView) (layer : KeyLayer) → view ≡ plain_view view.bounds → bounded view.bounds layer ≡ viewed view layer
unfolding viewed
bounded_is_viewed view layer plain =
    ap (bounded view.bounds) (sym (mapped-plain_view view.bounds layer) ∙ ap (λ v. mapped v layer) (sym plain))

pub bounded_is_layer : (bounds : KeySpan) (layer : KeyLayer) → IsSpan bounds → IsLayer layer → IsLayer (bounded bounds layer)
bounded_is_layer bounds layer is of =
    subst IsLayer (sym (bounded_is_viewed (plain_view bounds) layer refl))
    (viewed_is_layer (plain_view bounds) layer (plain_is_view bounds is) of (plain_view_keeps bounds layer of))

-- through bounds alone each table keeps its limits
pub is_viewable : (view : KeyView) (bytes : List ℕ) (layer : KeyLayer) → view ≡ plain_view view.bounds → Spells bytes layer → IsViewable view bytes layer
is_viewable view bytes layer plain spelled = record {
  spelled = spelled;
  within = subst (λ v. MapsWithin v layer) (sym plain) (plain_view_keeps view.bounds layer spelled.of.in_form);
}

pub is_shown : (view : KeyView) (bytes : List ℕ) (behind layer : KeyLayer) → view ≡ plain_view view.bounds → Spells bytes behind
    → layer ≡ bounded view.bounds behind → IsShown view bytes layer
is_shown view bytes behind layer plain spelled same = record {
  behind = behind;
  viewable = is_viewable view bytes behind plain spelled;
  same = same ∙ bounded_is_viewed view behind plain;
}
