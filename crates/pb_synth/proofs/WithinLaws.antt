-- A layer maps within where it keeps its limits and has no clash.
use Rattle.std.proofs.Common.{◌≡◌, ℕ, ◌≤◌, List, [], ◌∷◌, true, ap, ◌∙◌, inl, inr}
use Rattle.std.specs.Prelude.{◌↔◌, ◌⊎◌, length, not}
use Rattle.std.specs.declared.cmp.Ordering.TheVariants.{Less}
use Rattle.pb_keys.specs.Key.{IsKey, key_cmp, prefix_of}
use Rattle.pb_keys.specs.Order.{is_upto}
use Rattle.pb_keys.specs.Span.{KeySpan, IsSpan}
use Rattle.pb_keys.specs.View.{KeyView, IsMapping}
use Rattle.pb_keys.proofs.KeyFacts.{prefixes_ascend}
use Rattle.pb_rows.specs.Layer.{KeyLayer, IsLayer}
use Rattle.pb_rows.specs.Viewed.{mapped_key, mapped_span, MapsWithin}
use Rattle.pb_rows.proofs.MappedLaws.{prefix_of-mapped_key, below-behind}
use Rattle.pb_synth.specs.Clash.{HasNoClash}
use Rattle.pb_synth.specs.Limits.{HasShortEnds, KeepsLimits, StayApart}
use Rattle.pb_synth.proofs.MappedForms.{mapped_is_key, mapped_is_span}
use Rattle.pb_synth.proofs.ClashLaws.{apart_without_clash, no_clash_apart, apart_by_own}

pub key_decides : (view : KeyView) (key : List ℕ) → IsMapping view → IsKey key → IsKey (mapped_key view key) ↔ (length (mapped_key view key) ≤ 1024)
key_decides view key mapping is = (λ mapped. mapped.within, mapped_is_key view key mapping is)

pub span_decides : (view : KeyView) (span : KeySpan) → IsMapping view → IsSpan span → IsSpan (mapped_span view span) ↔ HasShortEnds (mapped_span view span)
span_decides view span mapping is = (λ mapped. record { lo = mapped.lo.within; hi = mapped.hi.within }, mapped_is_span view span mapping is)

pub limits_kept : (view : KeyView) (layer : KeyLayer) → MapsWithin view layer → KeepsLimits view layer
limits_kept view layer within = record {
  keys = λ k d h. (within.keys k d h).within;
  ends = λ k d h. record { lo = (within.ends k d h).lo.within; hi = (within.ends k d h).hi.within };
}

pub without_clash : (suffix : List ℕ) (view : KeyView) (layer : KeyLayer) → view.suffix ≡ suffix → MapsWithin view layer → (view.suffix ≡ []) ⊎ HasNoClash layer.rows
without_clash [] view layer is within = inl is
without_clash (c ∷ cs) view layer is within = inr (no_clash_apart view layer.rows (λ none. cc) within.apart)

apart_either : (view : KeyView) (layer : KeyLayer) → IsMapping view → IsLayer layer → (view.suffix ≡ []) ⊎ HasNoClash layer.rows → StayApart view layer.rows
apart_either view layer mapping of (inl none) = apart_by_own view layer.rows none of.rise
apart_either view layer mapping of (inr none) = apart_without_clash view layer.rows mapping of.rise none

pub maps_from_limits : (view : KeyView) (layer : KeyLayer) → IsMapping view → IsLayer layer → KeepsLimits view layer → (view.suffix ≡ []) ⊎ HasNoClash layer.rows → MapsWithin view layer
maps_from_limits view layer mapping of kept none = record {
  keys = λ k d h. mapped_is_key view _ mapping (of.keys k d h) (kept.keys k d h);
  ends = λ k d h. mapped_is_span view _ mapping (of.spans k d h) (kept.ends k d h);
  apart = apart_either view layer mapping of none;
}

pub prefixes_rise : (view : KeyView) (a b : List ℕ) → IsMapping view → key_cmp a b ≡ Less → is_upto (prefix_of (mapped_key view a)) (prefix_of (mapped_key view b)) ≡ true
prefixes_rise view a b mapping less =
    (λ i. is_upto (prefix_of-mapped_key view a mapping i) (prefix_of-mapped_key view b mapping i))
    ∙ ap not (below-behind view.prefix (prefix_of b) (prefix_of a) ∙ prefixes_ascend a b less)
