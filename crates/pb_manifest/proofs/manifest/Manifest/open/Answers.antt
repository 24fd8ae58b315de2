use Rattle.std.proofs.Common.{◌<◌, ◌^◌, ap, ◌∙◌, rules}
use Rattle.pb_names.specs.Spelling.{current_name}
use Rattle.pb_version.specs.Version.{FiveNumbers}
use Rattle.pb_manifest.specs.Manifest.{manifest_name}
use Rattle.pb_manifest.proofs.Opened.{are_named, had_version, is_opening, manifest_settled, opened_manifest, read_keeps, read_settled, read_unnamed, settled_log, unnamed_kept, unread_is_damaged}
use Rattle.pb_manifest.proofs.Opening.{all_settled, first_kept, not_damaged}
use Rattle.pb_keys.proofs.Options.{some_has}
use Rattle.pb_manifest.proofs.manifest.Manifest.open.Goals as goal
use Rattle.pb_payloads.specs.Current.{pointer_to}

pub find-requires : goal.find-requires
find-requires g c told = c.requires told current_name

pub returns-in_err-current-clause-crash : goal.returns-in_err-current-clause-crash
returns-in_err-current-clause-crash g c told =
    first_kept (g.D.Disk.contents c.args.disk.now) (g.D.Disk.contents c.find.new.disk) (c.requires told)
    (c.in_err-current.ensures.opens told)

pub returns-in_err-current-clause-others : goal.returns-in_err-current-clause-others
returns-in_err-current-clause-others g c told =
    unnamed_kept (g.D.Disk.contents c.args.disk.now) (g.D.Disk.contents c.find.new.disk) (c.in_err-current.ensures.opens told).others

pub returns-in_default-clause-others : goal.returns-in_default-clause-others
returns-in_default-clause-others g c told =
    unnamed_kept (g.D.Disk.contents c.args.disk.now) (g.D.Disk.contents c.find.new.disk) (c.in_ok-current.ensures.opens told).others

pub returns-in_default-clause-settled : goal.returns-in_default-clause-settled
returns-in_default-clause-settled g c told =
    all_settled (g.D.Disk.contents c.args.disk.now) (g.D.Disk.contents c.find.new.disk) (c.requires told)
    (c.in_ok-current.ensures.opens told) (c.in_ok-current.ensures.settled told)

pub returns-in_default-clause-crash : goal.returns-in_default-clause-crash
returns-in_default-clause-crash g c told =
    first_kept (g.D.Disk.contents c.args.disk.now) (g.D.Disk.contents c.find.new.disk) (c.requires told)
    (c.in_ok-current.ensures.opens told)

pub read_version-requires-clause-settled : goal.read_version-requires-clause-settled
read_version-requires-clause-settled g c told =
    let old = g.D.Disk.contents c.args.disk.now in
    let mid = g.D.Disk.contents c.find.new.disk in
    let current = c.in-Some.current in
    let number = c.in-Some.number in
    let catalogue = c.in-Some.catalogue in
    let state =
    is_opening old mid (c.requires told) (c.in_ok-current.ensures.opens told)
    c.in_ok-current.field-0 current number catalogue c.in-Some.is (c.in_ok-current.ensures.found told) in
    manifest_settled old mid current number catalogue state

pub returns-in_err-log-clause-damaged : goal.returns-in_err-log-clause-damaged
returns-in_err-log-clause-damaged g c told file is =
    let old = g.D.Disk.contents c.args.disk.now in
    let mid = g.D.Disk.contents c.find.new.disk in
    let current = c.in-Some.current in
    let number = c.in-Some.number in
    let catalogue = c.in-Some.catalogue in
    let state =
    is_opening old mid (c.requires told) (c.in_ok-current.ensures.opens told)
    c.in_ok-current.field-0 current number catalogue c.in-Some.is (c.in_ok-current.ensures.found told) in
    unread_is_damaged old mid current number catalogue state file (c.read_version.ensures.damaged told file (search rules))

pub returns-in_err-log-clause-crash : goal.returns-in_err-log-clause-crash
returns-in_err-log-clause-crash g c told =
    let old = g.D.Disk.contents c.args.disk.now in
    let mid = g.D.Disk.contents c.find.new.disk in
    let current = c.in-Some.current in
    let number = c.in-Some.number in
    let catalogue = c.in-Some.catalogue in
    let state =
    is_opening old mid (c.requires told) (c.in_ok-current.ensures.opens told)
    c.in_ok-current.field-0 current number catalogue c.in-Some.is (c.in_ok-current.ensures.found told) in
    read_keeps old mid current number catalogue state (g.D.Disk.contents c.read_version.new.disk) (c.in_err-log.ensures.opens told)

pub returns-in_err-log-clause-others : goal.returns-in_err-log-clause-others
returns-in_err-log-clause-others g c told =
    let old = g.D.Disk.contents c.args.disk.now in
    let mid = g.D.Disk.contents c.find.new.disk in
    let current = c.in-Some.current in
    let number = c.in-Some.number in
    let catalogue = c.in-Some.catalogue in
    let state =
    is_opening old mid (c.requires told) (c.in_ok-current.ensures.opens told)
    c.in_ok-current.field-0 current number catalogue c.in-Some.is (c.in_ok-current.ensures.found told) in
    read_unnamed old mid current number catalogue state (g.D.Disk.contents c.read_version.new.disk) (c.in_err-log.ensures.opens told)

pub returns-clause-version : goal.returns-clause-version
returns-clause-version g c told =
    let old = g.D.Disk.contents c.args.disk.now in
    let mid = g.D.Disk.contents c.find.new.disk in
    let current = c.in-Some.current in
    let number = c.in-Some.number in
    let catalogue = c.in-Some.catalogue in
    let state =
    is_opening old mid (c.requires told) (c.in_ok-current.ensures.opens told)
    c.in_ok-current.field-0 current number catalogue c.in-Some.is (c.in_ok-current.ensures.found told) in
    had_version old mid current number catalogue state c.in_ok-log.version (c.in_ok-log.ensures.says told) c.in_ok-log.ensures.own

pub returns-clause-kept : goal.returns-clause-kept
returns-clause-kept g c told =
    let old = g.D.Disk.contents c.args.disk.now in
    let mid = g.D.Disk.contents c.find.new.disk in
    let current = c.in-Some.current in
    let number = c.in-Some.number in
    let catalogue = c.in-Some.catalogue in
    let state =
    is_opening old mid (c.requires told) (c.in_ok-current.ensures.opens told)
    c.in_ok-current.field-0 current number catalogue c.in-Some.is (c.in_ok-current.ensures.found told) in
    opened_manifest old mid current number catalogue state (g.D.Disk.contents c.read_version.new.disk) (c.in_ok-log.ensures.opens told)
    c.in_ok-log.version c.reserved.inside.next c.in_ok-log.first c.in_ok-log.log
    (ap (λ (f : FiveNumbers). f.next) (c.reserved.view_is ∙ c.five.ensures.value)) (c.in_ok-log.ensures.first told) (c.in_ok-log.ensures.ok told)
    (c.in_ok-log.ensures.says told) c.in_ok-log.ensures.own

pub returns-clause-undamaged : goal.returns-clause-undamaged
returns-clause-undamaged g c told file damaged =
    let old = g.D.Disk.contents c.args.disk.now in
    let mid = g.D.Disk.contents c.find.new.disk in
    let current = c.in-Some.current in
    let number = c.in-Some.number in
    let catalogue = c.in-Some.catalogue in
    let state =
    is_opening old mid (c.requires told) (c.in_ok-current.ensures.opens told)
    c.in_ok-current.field-0 current number catalogue c.in-Some.is (c.in_ok-current.ensures.found told) in
    not_damaged old.seen (pointer_to number catalogue) c.in_ok-log.version file (are_named old mid current number catalogue state)
    (had_version old mid current number catalogue state c.in_ok-log.version (c.in_ok-log.ensures.says told) c.in_ok-log.ensures.own) damaged

pub returns-clause-settled : goal.returns-clause-settled
returns-clause-settled g c told =
    let old = g.D.Disk.contents c.args.disk.now in
    let mid = g.D.Disk.contents c.find.new.disk in
    let current = c.in-Some.current in
    let number = c.in-Some.number in
    let catalogue = c.in-Some.catalogue in
    let state =
    is_opening old mid (c.requires told) (c.in_ok-current.ensures.opens told)
    c.in_ok-current.field-0 current number catalogue c.in-Some.is (c.in_ok-current.ensures.found told) in
    read_settled old mid current number catalogue state (g.D.Disk.contents c.read_version.new.disk) (c.in_ok-log.ensures.opens told)
    (c.in_ok-current.ensures.settled told)
    (settled_log (manifest_name number) _ c.in_ok-log.log mid (g.D.Disk.contents c.read_version.new.disk) (c.in_ok-log.ensures.ok told))

pub returns-clause-crash : goal.returns-clause-crash
returns-clause-crash g c told =
    let old = g.D.Disk.contents c.args.disk.now in
    let mid = g.D.Disk.contents c.find.new.disk in
    let current = c.in-Some.current in
    let number = c.in-Some.number in
    let catalogue = c.in-Some.catalogue in
    let state =
    is_opening old mid (c.requires told) (c.in_ok-current.ensures.opens told)
    c.in_ok-current.field-0 current number catalogue c.in-Some.is (c.in_ok-current.ensures.found told) in
    read_keeps old mid current number catalogue state (g.D.Disk.contents c.read_version.new.disk) (c.in_ok-log.ensures.opens told)

pub returns-clause-others : goal.returns-clause-others
returns-clause-others g c told =
    let old = g.D.Disk.contents c.args.disk.now in
    let mid = g.D.Disk.contents c.find.new.disk in
    let current = c.in-Some.current in
    let number = c.in-Some.number in
    let catalogue = c.in-Some.catalogue in
    let state =
    is_opening old mid (c.requires told) (c.in_ok-current.ensures.opens told)
    c.in_ok-current.field-0 current number catalogue c.in-Some.is (c.in_ok-current.ensures.found told) in
    read_unnamed old mid current number catalogue state (g.D.Disk.contents c.read_version.new.disk) (c.in_ok-log.ensures.opens told)

pub returns-clause-low : goal.returns-clause-low
returns-clause-low g c =
    some_has c.in_ok-current.field-0 (λ named. (named.1 < 2 ^ 62) × (named.2 < 2 ^ 62))
    (c.in-Some.current, c.in-Some.number, c.in-Some.catalogue) c.in-Some.is
    c.in_ok-current.ensures.low
