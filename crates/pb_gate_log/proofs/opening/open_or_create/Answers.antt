use Rattle.std.proofs.Common.{ℕ, List, Option, IsSome, ap, ◌∙◌, sym, subst}
use Rattle.pb_devices.specs.Counts.{HasCauseAs}
use Rattle.pb_devices.specs.Faults.{IsDiskFault}
use Rattle.pb_devices.specs.Reads.{IsLength}
use Rattle.pb_gate_log.specs.Calls.{IsOpenedOrMade}
use Rattle.pb_gate_log.specs.EachLog.{LogPlace}
use Rattle.pb_gate_log.proofs.EitherStates.{if_ok-map, is_made_either, is_opened_either, length_none, length_some, makes_either, opens_either, settled_either, stays_either}
use Rattle.pb_gate_log.proofs.opening.open_or_create.Goals as goal

pub returns-in_default-clause-opens : goal.returns-in_default-clause-opens
returns-in_default-clause-opens g c told =
    stays_either c.args.file (g.D.Disk.contents c.args.disk.now) (g.D.Disk.contents c.len.new.self) (c.requires told) (c.in_default.ensures.kept told)

pub open-requires-clause-there : goal.open-requires-clause-there
open-requires-clause-there g c told =
    let old = g.D.Disk.contents c.args.disk.now in
    let file = c.args.file in
    let stays = c.in-Ok.ensures.kept told in
    let sized = subst (λ (n : List ℕ). IsLength c.in-Ok.found (old.seen n)) c.as_str.ensures.value (c.in-Ok.ensures.ok told) in
    subst (λ (s : Option (List ℕ)). IsSome s) (sym (stays file).seen) (length_some c.in-Ok.found (old.seen file) (sym c.is_some.ensures ∙ c.if-is_some.true) sized)

pub open-requires-clause-settled : goal.open-requires-clause-settled
open-requires-clause-settled g c told =
    settled_either c.args.file (g.D.Disk.contents c.args.disk.now) (g.D.Disk.contents c.len.new.self) (c.requires told) (c.in-Ok.ensures.kept told)

pub returns-then-is_some-clause-ok : goal.returns-then-is_some-clause-ok
returns-then-is_some-clause-ok g c told =
    let old = g.D.Disk.contents c.args.disk.now in
    let mid = g.D.Disk.contents c.len.new.self in
    let new = g.D.Disk.contents c.open.new.disk in
    if_ok-map c.open.result _ _
    (λ opened is. is_opened_either c.args.file old mid (c.requires told) (c.in-Ok.ensures.kept told) opened.1.items opened.0 new is)
    (c.open.ensures.ok told)

pub returns-then-is_some-clause-opens : goal.returns-then-is_some-clause-opens
returns-then-is_some-clause-opens g c told =
    let old = g.D.Disk.contents c.args.disk.now in
    let file = c.args.file in
    let sized = subst (λ (n : List ℕ). IsLength c.in-Ok.found (old.seen n)) c.as_str.ensures.value (c.in-Ok.ensures.ok told) in
    opens_either file old (g.D.Disk.contents c.len.new.self) (c.requires told) (c.in-Ok.ensures.kept told) (g.D.Disk.contents c.open.new.disk)
    (length_some c.in-Ok.found (old.seen file) (sym c.is_some.ensures ∙ c.if-is_some.true) sized) (c.open.ensures.opens told)

pub returns-then-is_some-clause-cause : goal.returns-then-is_some-clause-cause
returns-then-is_some-clause-cause g c =
    subst (λ n. HasCauseAs IsDiskFault n (g.D.Disk.fault_count c.open.new.disk) c.open.result) (c.in-Ok.ensures.cause.calm tt) c.open.ensures.cause

pub create-requires : goal.create-requires
create-requires g c told =
    let old = g.D.Disk.contents c.args.disk.now in
    let file = c.args.file in
    let stays = c.in-Ok.ensures.kept told in
    let sized = subst (λ (n : List ℕ). IsLength c.in-Ok.found (old.seen n)) c.as_str.ensures.value (c.in-Ok.ensures.ok told) in
    (stays file).seen ∙ length_none c.in-Ok.found (old.seen file) (λ is. (let no = sym c.is_some.ensures ∙ c.if-is_some.false in cc)) sized

pub returns-in_default-create-clause-opens : goal.returns-in_default-create-clause-opens
returns-in_default-create-clause-opens g c told =
    let old = g.D.Disk.contents c.args.disk.now in
    let file = c.args.file in
    let sized = subst (λ (n : List ℕ). IsLength c.in-Ok.found (old.seen n)) c.as_str.ensures.value (c.in-Ok.ensures.ok told) in
    let none = length_none c.in-Ok.found (old.seen file) (λ is. (let no = sym c.is_some.ensures ∙ c.if-is_some.false in cc)) sized in
    makes_either file old (g.D.Disk.contents c.len.new.self) (c.requires told) (c.in-Ok.ensures.kept told) (g.D.Disk.contents c.create.new.disk) none (c.in_default-create.ensures.makes told)

pub returns-clause-ok : goal.returns-clause-ok
returns-clause-ok g c told =
    let old = g.D.Disk.contents c.args.disk.now in
    let file = c.args.file in
    let sized = subst (λ (n : List ℕ). IsLength c.in-Ok.found (old.seen n)) c.as_str.ensures.value (c.in-Ok.ensures.ok told) in
    let none = length_none c.in-Ok.found (old.seen file) (λ is. (let no = sym c.is_some.ensures ∙ c.if-is_some.false in cc)) sized in
    subst (λ (l : List (List ℕ)). IsOpenedOrMade file l c.in-Ok-create.log old (g.D.Disk.contents c.create.new.disk)) (sym c.new.ensures.items)
    (is_made_either file old (g.D.Disk.contents c.len.new.self) (c.requires told) (c.in-Ok.ensures.kept told) c.in-Ok-create.log (g.D.Disk.contents c.create.new.disk)
    (ap (λ (l : LogPlace). l.file) c.in-Ok-create.ensures.place) none (c.in-Ok-create.ensures.ok told))

pub returns-clause-opens : goal.returns-clause-opens
returns-clause-opens g c told =
    let old = g.D.Disk.contents c.args.disk.now in
    let file = c.args.file in
    let sized = subst (λ (n : List ℕ). IsLength c.in-Ok.found (old.seen n)) c.as_str.ensures.value (c.in-Ok.ensures.ok told) in
    let none = length_none c.in-Ok.found (old.seen file) (λ is. (let no = sym c.is_some.ensures ∙ c.if-is_some.false in cc)) sized in
    makes_either file old (g.D.Disk.contents c.len.new.self) (c.requires told) (c.in-Ok.ensures.kept told) (g.D.Disk.contents c.create.new.disk) none (c.in-Ok-create.ensures.makes told)
