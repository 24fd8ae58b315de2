use Rattle.std.proofs.Common.{◌≡◌, ℕ, ◌+◌, ◌<◌, List, ◌++◌, suc, length, drop, sym, ap, ◌∙◌, subst, arith}
use Rattle.std.specs.Prelude.{not, if◌then◌else◌}
use Rattle.std.proofs.lemmas.Result.{err_from_is_err_and}
use Rattle.pb_folder.specs.Listed.{folder_of, objects_of}
use Rattle.pb_payloads.specs.Places.{bytes_of}
use Rattle.pb_rows.specs.Layer.{KeyLayer}
use Rattle.pb_version.specs.Version.{TableView, VersionView, flattened, tables_of_level}
use Rattle.pb_folder_reader.specs.AtFault.{IsShownAtFault}
use Rattle.pb_folder_reader.specs.Tables.{AllShow}
use Rattle.pb_folder_reader.proofs.Levels.{drop_level, all_show, fault_front, fault_back}
use Rattle.pb_folder_reader.proofs.Results.{if_damaged}
use Rattle.pb_folder_reader.proofs.tables.+shown_from.Goals as goal

-- the tables of a level, and those of the levels behind it
splits : (v : VersionView) (level : ℕ) (tables : List TableView) → level < length v.levels → tables ≡ tables_of_level v level →
    flattened (drop level v.levels) ≡ tables ++ flattened (drop (level + 1) v.levels)
splits v level tables below same =
    let next : suc level ≡ level + 1 = omega arith in
    drop_level v.levels level below ∙ (λ i. sym same i ++ flattened (drop (next i) v.levels))

pub returns-in_err-shown-clause-err : goal.returns-in_err-shown-clause-err
returns-in_err-shown-clause-err t c =
    let p = err_from_is_err_and c.from_residual.result c.from_residual.ensures.1 in
    let folder = folder_of c.args.files.now in
    let objects = objects_of c.args.objects.now in
    let entries = c.args.entries.now in
    let v = c.args.version.now in
    let here = c.tables-tables.result.now in
    let deeper = flattened (drop (c.args.level + 1) v.levels) in
    let below : c.args.level < length v.levels = omega (arith, c.requires, c.if-level-eq7.false, c.tables-tables.ensures.in_form.levels) in
    let split = splits v c.args.level here below c.tables-tables.ensures.value in
    let told = if_damaged c.in_err-shown.field-0.0 (IsShownAtFault folder objects entries here)
    (IsShownAtFault folder objects entries (flattened (drop c.args.level v.levels)))
    (λ file is. subst (λ (ts : List TableView). IsShownAtFault folder objects entries ts file) (sym split) (fault_front folder objects entries here deeper file is))
    c.in_err-shown.ensures.err in
    rw (p.1, p.2) told

pub returns-in_err-deeper-clause-err : goal.returns-in_err-deeper-clause-err
returns-in_err-deeper-clause-err t c =
    let p = err_from_is_err_and c.from_residual-in_err-deeper.result c.from_residual-in_err-deeper.ensures.1 in
    let folder = folder_of c.args.files.now in
    let objects = objects_of c.args.objects.now in
    let entries = c.args.entries.now in
    let v = c.args.version.now in
    let here = c.tables-tables.result.now in
    let deeper = flattened (drop (c.args.level + 1) v.levels) in
    let below : c.args.level < length v.levels = omega (arith, c.requires, c.if-level-eq7.false, c.tables-tables.ensures.in_form.levels) in
    let split = splits v c.args.level here below c.tables-tables.ensures.value in
    let told = if_damaged c.in_err-deeper.field-0.0 (IsShownAtFault folder objects entries deeper)
    (IsShownAtFault folder objects entries (flattened (drop c.args.level v.levels)))
    (λ file is. subst (λ (ts : List TableView). IsShownAtFault folder objects entries ts file) (sym split) (fault_back folder objects entries here deeper file is))
    c.in_err-deeper.ensures.err in
    rw (p.1, p.2) told

pub returns-clause-ok : goal.returns-clause-ok
returns-clause-ok t c =
    let places = bytes_of (folder_of c.args.files.now) (objects_of c.args.objects.now) c.args.entries.now in
    let v = c.args.version.now in
    let here = c.tables-tables.result.now in
    let deeper = flattened (drop (c.args.level + 1) v.levels) in
    let below : c.args.level < length v.levels = omega (arith, c.requires, c.if-level-eq7.false, c.tables-tables.ensures.in_form.levels) in
    let split = splits v c.args.level here below c.tables-tables.ensures.value in
    let shown = all_show places here deeper c.in_ok-shown.shown.items c.in_ok-deeper.deeper.items c.in_ok-shown.ensures.ok c.in_ok-deeper.ensures.ok in
    let ok = c.is_err.ensures.negation ∙ ap not c.if-is_err.false in
    let items = c.append.ensures.items ∙ ap (λ b. if b then c.in_ok-shown.shown.items ++ c.in_ok-deeper.deeper.items else c.in_ok-shown.shown.items) ok in
    subst (λ (tables : List TableView). AllShow places tables c.append.new.self.items) (sym split)
    (subst (λ (layers : List KeyLayer). AllShow places (here ++ deeper) layers) (sym items) shown)
