use Rattle.std.proofs.Common.{List, ℕ, subst}
use Rattle.pb_gate_log.specs.Calls.{IsOpened}
use Rattle.pb_names.specs.Spelling.{current_name}
use Rattle.pb_payloads.specs.Current.{SaysCurrent, pointer_to}
use Rattle.pb_manifest.proofs.Opened.{is_found}
use Rattle.pb_keys.proofs.Options.{some_has}
use Rattle.pb_manifest.proofs.open.find.Goals as goal

pub returns-clause-found : goal.returns-clause-found
returns-clause-found g c = λ told.
    let old = g.D.Disk.contents c.args.disk.now in
    let mid = g.D.Disk.contents c.open_current.new.disk in
    let number = c.in_ok-manifest.manifest in
    let catalogue = c.in_ok-manifest.catalogue in
    let opened =
    some_has c.in_ok-current.field-0 (λ o. IsOpened current_name o.1.items o.0 old mid) (c.in-Some.current, c.in-Some.pointers)
    c.in-Some.is (c.in_ok-current.ensures.ok told) in
    is_found old mid c.in-Some.pointers.items opened.had (c.in_ok-current.ensures.opens told).others (g.D.Disk.contents c.named.new.disk)
    c.in-Some.current number catalogue opened
    (c.in_ok-manifest.ensures.stays told) (subst (λ (l : List (List ℕ)). SaysCurrent l (pointer_to number catalogue))
    c.deref.ensures.value c.in_ok-manifest.ensures.names)
    (c.in_ok-manifest.ensures.there told)

pub returns-clause-low : goal.returns-clause-low
returns-clause-low g c = (c.in_ok-manifest.ensures.names.in_form.manifest, c.in_ok-manifest.ensures.names.in_form.catalogue)
