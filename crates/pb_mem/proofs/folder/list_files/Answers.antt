use Rattle.std.proofs.Common.{◌≡◌, List, [], ◌++◌, map, string_bytes, sym, ap, subst, ◌∙◌, append-nil}
use Rattle.std.specs.Map.Iter.{deref_pair}
use Rattle.std.proofs.lemmas.Map.Iter.{rest_all}
use Rattle.pb_devices.specs.Reads.{AreNames}
use Rattle.pb_mem.specs.Named.{by_name}
use Rattle.pb_mem.specs.Slots.{contents_in}
use Rattle.pb_mem.proofs.FolderLemmas.{file_names, are_names}
use Rattle.pb_mem.proofs.folder.list_files.Goals as goal

pub returns-clause-ok : goal.returns-clause-ok
returns-clause-ok c =
    let ended : c.loop-name.name-iterator ≡ [] = rest_all deref_pair c.loop-name.name-iterator c.next.new.self c.next.result c.in-None.is c.next.ensures.steps in
    let names = map string_bytes c.loop-name.names.items in
    subst (λ (all : List _). AreNames all (contents_in (by_name (λ s. s) c.args.slots.now.entries)).seen)
    (sym (sym (append-nil names) ∙ ap (λ (left : List _). names ++ file_names left) (sym ended) ∙ c.loop-name.invariant))
    (are_names c.args.slots.now c.iter-name-items.ensures.ordered)
