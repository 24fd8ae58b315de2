use Rattle.std.proofs.Common.{rules, ℕ, length, ap, subst, sym, arith, length-append}
use Rattle.pb_names.specs.Identity.{Identity, IsObject}
use Rattle.pb_names.specs.Spelling.{object_name}
use Rattle.pb_names.proofs.SpellingLemmas.{length-decimal-store, length-decimal-drawn}
use Rattle.pb_names.proofs.shared_object.object.Goals as goal

pub push_number-requires : goal.push_number-requires
push_number-requires c =
    let id : Identity = record { creator = c.id.inside.creator; number = c.id.inside.number } in
    let in_range : IsObject id = subst IsObject (sym c.id.view_is) c.requires in
    omega (
      arith,
      ap length c.push.ensures,
      length-append {A = ℕ},
      ap length c.empty-name.ensures,
      length-decimal-store id.creator in_range.creator,
    )

pub push-requires-2-clause-room : goal.push-requires-2-clause-room
push-requires-2-clause-room c =
    let id : Identity = record { creator = c.id.inside.creator; number = c.id.inside.number } in
    let in_range : IsObject id = subst IsObject (sym c.id.view_is) c.requires in
    omega (
      arith,
      ap length c.push_number.ensures,
      ap length c.push.ensures,
      length-append {A = ℕ},
      ap length c.empty-name.ensures,
      length-decimal-store id.creator in_range.creator,
    )

pub push_number-requires-2 : goal.push_number-requires-2
push_number-requires-2 c =
    let id : Identity = record { creator = c.id.inside.creator; number = c.id.inside.number } in
    let in_range : IsObject id = subst IsObject (sym c.id.view_is) c.requires in
    omega (
      arith,
      ap length c.push-2.ensures,
      ap length c.push_number.ensures,
      ap length c.push.ensures,
      length-append {A = ℕ},
      ap length c.empty-name.ensures,
      length-decimal-store id.creator in_range.creator,
      length-decimal-drawn id.number in_range.number,
    )

pub returns : goal.returns
unfolding object_name
returns c = search rules
