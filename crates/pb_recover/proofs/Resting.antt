-- What the images say where the parts of a store are at rest.
use Rattle.std.proofs.Common.{◌≡◌, ◌<◌, ℕ, List, sym, subst}
use Rattle.std.specs.List.{All}
use Rattle.std.proofs.lemmas.List.Elements.{All-nil}
use Rattle.pb_devices.specs.Contents.{Contents, Folder, IsImage}
use Rattle.pb_names.specs.Spelling.{file_name}
use Rattle.pb_names.specs.declared.file_kind.FileKind.TheVariants.{Log}
use Rattle.pb_payloads.specs.Catalogue.{SaysCatalogue, with_id}
use Rattle.pb_payloads.specs.Catalogued.{Standing}
use Rattle.pb_payloads.specs.Log.{SaysLog}
use Rattle.pb_folder.specs.Said.{Says}
use Rattle.pb_manifest.specs.Manifest.{catalogue_name}
use Rattle.pb_manifest.proofs.Folders.{each_has_at, each_says, has_such}
use Rattle.pb_recover.specs.Calls.{AreAtRest}
use Rattle.pb_recover.specs.Files.{StoreFiles, said_of}
use Rattle.pb_recover.proofs.Files.{nothing_waits}

module _ (files : StoreFiles) (disk : Contents) (rest : AreAtRest files disk) (folder : Folder) (image : IsImage disk folder) where
  pub rest_says : Says folder files.provider.catalogue.id (said_of files rest.entries)
  rest_says =
      let manifest = each_says files.manifest files.version disk rest.manifest folder image in
      let catalogue = rest.catalogue in
      record {
        current = manifest.current;
        manifest = manifest.manifest;
        catalogue =
            has_such catalogue.payloads (folder (catalogue_name files.manifest.catalogue))
            (λ list. SaysCatalogue list (with_id files.provider.catalogue.id files.provider.catalogue.entries))
            (each_has_at files.provider.catalogue.log catalogue.payloads disk (catalogue_name files.manifest.catalogue) rest.catalogue_file
            catalogue.log folder image)
            catalogue.says;
        log =
            has_such rest.payloads (folder (file_name Log files.version.five.log))
            (λ list. SaysLog files.version.five.flushed list rest.entries)
            (each_has_at files.log rest.payloads disk (file_name Log files.version.five.log) rest.log_file rest.log folder image)
            rest.says_log;
        reserved = rest.manifest.own;
        entered = subst (All (λ (entry : ℕ × Standing). entry.0 < files.version.five.next)) (sym rest.bare) (All-nil _);
        bare = rest.bare;
        waits = nothing_waits rest.entries rest.says_log.in_form;
      }
