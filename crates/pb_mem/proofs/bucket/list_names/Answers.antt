use Rattle.std.proofs.Common.{◌≡◌, List, [], ◌++◌, map, filter, string_bytes, sym, ap, ◌∙◌, append-nil}
use Rattle.std.specs.Map.Iter.{deref}
use Rattle.std.proofs.lemmas.Map.Iter.{rest_all}
use Rattle.pb_devices.specs.Objects.{begins_with}
use Rattle.pb_mem.proofs.NamedLemmas.{keys-by_name}
use Rattle.pb_mem.proofs.bucket.list_names.Goals as goal

pub returns-clause-ok : goal.returns-clause-ok
returns-clause-ok c =
    let ended : c.loop-name.name-iterator ≡ [] = rest_all deref c.loop-name.name-iterator c.next.new.self c.next.result c.in-None.is c.next.ensures.steps in
    let names = map string_bytes c.loop-name.names.items in
    sym (append-nil names)
    ∙ ap (λ (left : List _). names ++ filter (begins_with c.args.prefix.now) (map string_bytes left)) (sym ended)
    ∙ c.loop-name.invariant
    ∙ ap (filter (begins_with c.args.prefix.now)) (sym (keys-by_name (λ v. v.items) c.args.objects.now.entries c.keys-name-items.ensures.ordered))
