use Rattle.std.proofs.Common.{◌≡◌, List, map, sym, ap, ◌∙◌, subst}
use Rattle.std.specs.FinMap.{empty}
use Rattle.std.specs.Prelude.{IsTrue}
use Rattle.std.proofs.lemmas.Result.{err_from_is_err_and}
use Rattle.pb_folder.specs.Listed.{folder_of, objects_of}
use Rattle.pb_folder.specs.Meaning.{after_log, said_count}
use Rattle.pb_folder.specs.Said.{Said}
use Rattle.pb_names.specs.Spelling.{file_name}
use Rattle.pb_names.specs.declared.file_kind.FileKind.TheVariants.{Catalogue}
use Rattle.pb_payloads.specs.Catalogue.{Entries}
use Rattle.pb_payloads.specs.Current.{Pointer, pointer_to}
use Rattle.pb_payloads.specs.Places.{bytes_of}
use Rattle.pb_rows.specs.Applied.{applied_newest_first}
use Rattle.pb_rows.specs.Layer.{KeyLayer}
use Rattle.pb_wal.specs.Changes.{entry_of}
use Rattle.pb_folder_reader.specs.AtFault.{AreTablesAtFault, IsAtFault, IsSaidAtFault}
use Rattle.pb_folder_reader.specs.AtFault.IsAtFault.{OfWords, OfTables, OfStanding}
use Rattle.pb_folder_reader.specs.Said.{IsRead, said_of}
use Rattle.pb_folder_reader.specs.Tables.{ShowsAll}
use Rattle.pb_folder_reader.proofs.Meanings.{means_of}
use Rattle.pb_folder_reader.proofs.Results.{if_damaged}
use Rattle.pb_folder_reader.proofs.standing.named_stands.Goals as goal

pub returns-in_err-said-clause-fault : goal.returns-in_err-said-clause-fault
returns-in_err-said-clause-fault c =
    let p = err_from_is_err_and c.from_residual.result c.from_residual.ensures.1 in
    let folder = folder_of c.args.files.now in
    let objects = objects_of c.args.objects.now in
    let pointer = pointer_to c.args.manifest c.args.catalogue in
    let told = if_damaged c.in_err-said.field-0.0 (IsSaidAtFault folder c.args.id pointer) (IsAtFault folder objects c.args.id)
    (λ file is. OfWords pointer c.requires is) c.in_err-said.ensures.err in
    rw (p.1, p.2) told

pub returns-in_err-shown-clause-fault : goal.returns-in_err-shown-clause-fault
returns-in_err-shown-clause-fault c =
    let p = err_from_is_err_and c.from_residual-in_err-shown.result c.from_residual-in_err-shown.ensures.1 in
    let folder = folder_of c.args.files.now in
    let objects = objects_of c.args.objects.now in
    let own = said_of (pointer_to c.said.inside.manifest c.said.inside.catalogue) c.said.inside.version c.said.inside.entries.items c.said.inside.log.items in
    let read = subst (IsRead folder c.args.id) (sym c.said.view_is) (c.in_ok-said.ensures.ok c.requires) in
    let told = if_damaged c.in_err-shown.field-0.0 (AreTablesAtFault folder objects c.deref.result.now c.said.inside.version) (IsAtFault folder objects c.args.id)
    (λ file is. OfTables own read (subst (λ (entries : Entries). AreTablesAtFault folder objects entries c.said.inside.version file) c.deref.ensures.value is))
    c.in_err-shown.ensures.err in
    rw (p.1, p.2) told

pub returns-then-not-are_none-clause-fault : goal.returns-then-not-are_none-clause-fault
returns-then-not-are_none-clause-fault c =
    let folder = folder_of c.args.files.now in
    let own = said_of (pointer_to c.said.inside.manifest c.said.inside.catalogue) c.said.inside.version c.said.inside.entries.items c.said.inside.log.items in
    let read = subst (IsRead folder c.args.id) (sym c.said.view_is) (c.in_ok-said.ensures.ok c.requires) in
    let pointer : own.pointer ≡ pointer_to c.args.manifest c.args.catalogue = ap (λ (s : Said). s.pointer) c.said.view_is ∙ c.in_ok-said.ensures.pointer in
    OfStanding own read
    (λ none.
    let yes : IsTrue c.are_none.result = c.are_none.ensures.1 (c.deref-2.ensures.value ∙ none) in
    let tested = c.if-not-are_none.true in
    cc)
    (c.file.ensures ∙ ap (λ (p : Pointer). file_name Catalogue p.catalogue) (sym pointer))

pub returns-clause-ok : goal.returns-clause-ok
returns-clause-ok c =
    let folder = folder_of c.args.files.now in
    let objects = objects_of c.args.objects.now in
    let pointer = pointer_to c.said.inside.manifest c.said.inside.catalogue in
    let version = c.said.inside.version in
    let entries : Entries = c.said.inside.entries.items in
    let log = c.said.inside.log.items in
    let shown = c.in_ok-shown.shown.items in
    let read = subst (IsRead folder c.args.id) (sym c.said.view_is) (c.in_ok-said.ensures.ok c.requires) in
    let yes : IsTrue c.are_none.result = (let tested = c.if-not-are_none.false in cc) in
    let bare = sym c.deref-2.ensures.value ∙ c.are_none.ensures.0 yes in
    let shows = subst (λ (list : Entries). ShowsAll (bytes_of folder objects list) version shown) c.deref.ensures.value c.in_ok-shown.ensures.ok in
    let count = c.count_of.ensures in
    let start = c.in_ok-pairs.ensures in
    let pairs = c.in_ok-apply_log.ensures shows.layers in
    means_of folder objects c.args.id pointer version entries log shown read bare shows c.count_of.result c.apply_log.new.pairs
    (count ∙ ap said_count (sym c.said.view_is))
    (pairs
    ∙ (λ i. after_log shows.layers ((start ∙ ap (λ (layers : List KeyLayer). applied_newest_first layers empty) c.deref-3.ensures.value) i) (map entry_of (c.deref-4.ensures.value i))))
