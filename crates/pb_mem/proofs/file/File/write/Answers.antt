use Rattle.std.proofs.Common.{◌≤◌, length, ap, ◌∙◌, arith}
use Rattle.std.proofs.lemmas.Grind.{common_steps}
use Rattle.pb_mem.specs.Files.{durable_bytes}
use Rattle.pb_mem.proofs.FileLemmas.{durable-written}
use Rattle.pb_mem.proofs.file.File.write.Goals as goal

pub returns-clause-ok : goal.returns-clause-ok
returns-clause-ok c = grind (arith, common_steps)

pub returns-clause-durable : goal.returns-clause-durable
returns-clause-durable c =
    let fits : c.args.self.now.durable_len ≤ length c.args.self.now.seen = rw (← c.self.view_is) (omega arith) in
    ap durable_bytes (returns-clause-ok c) ∙ durable-written c.args.self.now c.args.at c.args.bytes.now fits c.requires
