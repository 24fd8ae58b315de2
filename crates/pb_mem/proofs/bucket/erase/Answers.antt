use Rattle.pb_mem.proofs.NamedLemmas.{by_name-remove}
use Rattle.pb_mem.proofs.bucket.erase.Goals as goal

pub returns : goal.returns
returns c = by_name-remove (λ v. v.items) c.args.name.now c.args.objects.now c.remove.new.self c.remove.ensures.updates
