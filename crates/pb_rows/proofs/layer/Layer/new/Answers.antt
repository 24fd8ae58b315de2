use Rattle.std.proofs.Common.{◌≡◌, subst, rules}
use Rattle.pb_rows.specs.Layer.{IsFirstFall, Rise}
use Rattle.pb_rows.proofs.CheckLaws.{first_fall_is_one, no_fall}
use Rattle.pb_rows.proofs.layer.Layer.new.Goals as goal

pub returns-in-Some-clause-bad_row : goal.returns-in-Some-clause-bad_row
returns-in-Some-clause-bad_row c =
    let fall = subst (λ rows. IsFirstFall rows c.in-Some.at) c.deref-2.ensures.value c.in-Some.ensures.answer in
    λ at. (
      λ e. let same : c.in-Some.at ≡ at = cc in (search rules, subst (IsFirstFall c.args.rows.items) same fall),
      λ (apart, other). let same = first_fall_is_one c.args.rows.items c.in-Some.at at fall other in cc,
    )

pub returns-in-Some-clause-taken : goal.returns-in-Some-clause-taken
returns-in-Some-clause-taken c =
    let fall = subst (λ rows. IsFirstFall rows c.in-Some.at) c.deref-2.ensures.value c.in-Some.ensures.answer in
    λ apart rise. absurd (no_fall c.args.rows.items c.in-Some.at rise fall)

pub returns-in-None-clause-bad_row : goal.returns-in-None-clause-bad_row
returns-in-None-clause-bad_row c =
    let rise = subst Rise c.deref-2.ensures.value c.in-None.ensures.answer in
    λ at. (λ e. cc, λ (apart, fall). absurd (no_fall c.args.rows.items at rise fall))
