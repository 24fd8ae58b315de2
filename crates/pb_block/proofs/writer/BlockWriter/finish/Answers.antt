use Rattle.std.proofs.Common.{◌≡◌, ◌≤◌, ◌++◌, ◌/◌, ℕ, length, arith, rules, ap, ◌∙◌}
use Rattle.pb_block.proofs.WriteLaws.{restarts_few, finished, finished_block}
use Rattle.pb_block.proofs.writer.BlockWriter.finish.Goals as goal

pub returns-in_err-extend_from_slice-clause-block : goal.returns-in_err-extend_from_slice-clause-block
returns-in_err-extend_from_slice-clause-block g c =
    finished_block g.row.R _ _ _ c.self.inside.count c.args.self c.self.invariant c.self.view_is c.requires

pub returns-in_err-extend_from_slice-2-clause-block : goal.returns-in_err-extend_from_slice-2-clause-block
returns-in_err-extend_from_slice-2-clause-block g c =
    finished_block g.row.R _ _ _ c.self.inside.count c.args.self c.self.invariant c.self.view_is c.requires

pub returns-in_err-bytes-clause-block : goal.returns-in_err-bytes-clause-block
returns-in_err-bytes-clause-block g c =
    finished_block g.row.R _ _ _ c.self.inside.count c.args.self c.self.invariant c.self.view_is c.requires

pub returns-clause-block : goal.returns-clause-block
returns-clause-block g c = finished_block g.row.R _ _ _ c.self.inside.count c.args.self c.self.invariant c.self.view_is c.requires

pub overflow_cast-count : goal.overflow_cast-count
overflow_cast-count g c =
    let few = restarts_few g.row.R _ _ _ c.self.inside.count c.self.invariant in
    let size : c.len-count.result ≤ 4194304 = omega (arith, c.len-count.ensures, c.self.inside.restarts.ok.0) in
    search rules

pub returns-clause-ok : goal.returns-clause-ok
returns-clause-ok g c =
    let count = c.len-count.result / 4 in
    let size : count ≡ length c.self.inside.restarts.items / 4 =
    ap (λ (n : ℕ). n / 4) (c.len-count.ensures ∙ c.self.inside.restarts.ok.0) in
    let others = c.as_slice.ensures.value in
    let front = c.in_ok-extend_from_slice.ensures.items ∙ (λ i. c.self.inside.entries.items ++ others i) in
    let whole = c.in_ok-extend_from_slice-2.ensures.items ∙ (λ i. front i ++ c.be32.ensures i) in
    finished g.row.R c.self.inside.entries.items c.self.inside.restarts.items c.self.inside.last_key.items c.self.inside.count count
    c.args.self c.in_ok-bytes.bytes c.self.invariant c.self.view_is size
    (c.in_ok-bytes.ensures.ok ∙ whole)
