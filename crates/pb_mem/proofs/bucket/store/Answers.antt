use Rattle.std.proofs.Common.{string_bytes}
use Rattle.pb_mem.proofs.NamedLemmas.{by_name-insert}
use Rattle.pb_mem.proofs.bucket.store.Goals as goal

pub returns-clause-ok : goal.returns-clause-ok
returns-clause-ok c =
    rw (← c.in_ok-name.ensures.ok, ← c.in_ok-bytes.ensures.items)
    (by_name-insert (λ v. v.items) (string_bytes c.in_ok-name.name) c.args.objects.now c.insert.new.self c.in_ok-bytes.bytes c.in_ok-insert.ensures.updates)
