use Rattle.std.proofs.Common.{◌≡◌, ◌≤◌, [], length, refl, sym, subst}
use Rattle.std.specs.Prelude.{◌⊎◌, All}
use Rattle.pb_rows.specs.Viewed.{mapped_key, mapped_span}
use Rattle.pb_synth.specs.Clash.{HasNoClash}
use Rattle.pb_synth.specs.Limits.{HasShortEnds}
use Rattle.pb_synth.proofs.WithinLaws.{without_clash, maps_from_limits}
use Rattle.pb_synth.proofs.limits.maps_within.Goals as goal

pub returns : goal.returns
returns c =
    let view = c.args.view.now in let layer = c.args.layer.now in
    let keys = subst (All (λ row. length (mapped_key view row.key) ≤ 1024)) c.rows.ensures.value (c.have_short_keys.ensures.0 c.if-not-have_short_keys.false) in
    let ends = subst (All (λ span. HasShortEnds (mapped_span view span))) c.dels.ensures.value (c.have_short_ends.ensures.0 c.if-not-have_short_ends.false) in (
      λ apart. maps_from_limits view layer c.requires c.rows.ensures.in_form (record { keys = keys; ends = ends }) (subst (λ rows. (view.suffix ≡ []) ⊎ HasNoClash rows) c.rows-2.ensures.value (c.stay_apart.ensures.0 apart)),
      λ within. c.stay_apart.ensures.1 (subst (λ rows. (view.suffix ≡ []) ⊎ HasNoClash rows) (sym c.rows-2.ensures.value) (without_clash view.suffix view layer refl within)),
    )
