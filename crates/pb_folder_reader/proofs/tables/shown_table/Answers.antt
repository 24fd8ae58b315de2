use Rattle.std.proofs.Common.{ap, ◌∙◌, inr}
use Rattle.pb_folder.specs.Listed.{folder_of, objects_of}
use Rattle.pb_names.specs.Spelling.{file_name}
use Rattle.pb_names.specs.declared.file_kind.FileKind.TheVariants.{Table}
use Rattle.pb_payloads.specs.Places.{bytes_of}
use Rattle.pb_rows.specs.Viewed.{MapsWithin}
use Rattle.pb_version.specs.Version.{TableView}
use Rattle.pb_folder_reader.proofs.Layers.{no_shown}
use Rattle.pb_keys.proofs.Options.{none_has}
use Rattle.pb_folder_reader.proofs.tables.shown_table.Goals as goal

pub returns-clause-err : goal.returns-clause-err
returns-clause-err c = inr (
  c.file.ensures ∙ ap (λ (t : TableView). file_name Table t.backing) c.table.view_is,
  λ layer behind mapped.
      no_shown (bytes_of (folder_of c.args.files.now) (objects_of c.args.objects.now) c.args.entries.now) c.args.table.now _ c.in_ok-layer.layer layer c.table.view_is
      c.in_ok-layer.ensures.ok
      (none_has c.in_ok-shown.field-0 (MapsWithin c.table.inside.view c.in_ok-layer.layer → ⊥) c.in-None.is c.in_ok-shown.ensures.none)
      behind mapped,
)
