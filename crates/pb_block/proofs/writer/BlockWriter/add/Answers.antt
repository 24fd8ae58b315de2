use Rattle.std.proofs.Common.{◌≤◌, ◌++◌, ◌+◌, ◌∷◌, ℕ, List, [], Bor, rules, subst, ap, sym, ◌∙◌}
use Rattle.std.specs.Prelude.{◌==◌, ◌%◌, if◌then◌else◌}
use Rattle.std.specs.Option.{option_map}
use Rattle.pb_bytes.specs.BigEndian.{be32}
use Rattle.pb_block.specs.Blocks.{BlockRow, shared_at, entry_spelling}
use Rattle.pb_block.specs.Runs.{MayBeAdded, IsWritten}
use Rattle.pb_block.proofs.WriteLaws.{written_push, written_few}
use Rattle.pb_block.proofs.writer.BlockWriter.add.Goals as goal

pub overflow_add-self : goal.overflow_add-self
overflow_add-self g c =
    let few : c.self.inside.count ≤ 1048576 =
    written_few g.row.R c.self.inside.entries.items c.self.inside.restarts.items c.self.inside.last_key.items c.self.inside.count
    c.self.invariant in
    search rules

pub invariant_of-self-2 : goal.invariant_of-self-2
invariant_of-self-2 g c =
    let front = c.self.inside.entries.items in
    let count = c.self.inside.count in
    let value = option_map (λ (bytes : Bor (List ℕ)). bytes.now) c.args.value in
    let row : BlockRow = record { key = c.args.key.now; value = value } in
    let is_key = c.as_bytes-bytes.ensures.value in
    let is_last = c.as_slice.ensures.value in
    let shared = c.shared_of-shared.ensures.shared ∙ (λ i. shared_at g.row.R count (is_last i) (is_key i)) in
    let is_front = c.in_ok-put_entry.ensures.ok ∙ (λ i. front ++ entry_spelling (shared i) (record { key = is_key i; value = value })) in
    let is_at = c.len-at.ensures ∙ c.self.inside.entries.ok.0 in
    let is_others = c.add_restart.ensures ∙ (λ i. c.reserve.ensures.items i ++ (if count % g.row.R == 0 then be32 (is_at i) else [])) in
    let may = subst (λ (rows : List BlockRow). MayBeAdded g.row.R rows c.args.key.now value) (sym c.self.view_is) c.requires in
    let more = written_push g.row.R front c.self.inside.restarts.items c.self.inside.last_key.items count row c.put_entry.new.out.items
    c.add_restart.new.restarts.items c.self.invariant may
    c.as_bytes-bytes.ensures.in_form is_front is_others in
    subst (λ (last : List ℕ). IsWritten g.row.R c.put_entry.new.out.items c.add_restart.new.restarts.items last (count + 1))
    (sym (c.put_key.ensures ∙ is_key)) more.written

pub returns-clause-ok : goal.returns-clause-ok
returns-clause-ok g c =
    let front = c.self.inside.entries.items in
    let count = c.self.inside.count in
    let value = option_map (λ (bytes : Bor (List ℕ)). bytes.now) c.args.value in
    let row : BlockRow = record { key = c.args.key.now; value = value } in
    let is_key = c.as_bytes-bytes.ensures.value in
    let is_last = c.as_slice.ensures.value in
    let shared = c.shared_of-shared.ensures.shared ∙ (λ i. shared_at g.row.R count (is_last i) (is_key i)) in
    let is_front = c.in_ok-put_entry.ensures.ok ∙ (λ i. front ++ entry_spelling (shared i) (record { key = is_key i; value = value })) in
    let is_at = c.len-at.ensures ∙ c.self.inside.entries.ok.0 in
    let is_others = c.add_restart.ensures ∙ (λ i. c.reserve.ensures.items i ++ (if count % g.row.R == 0 then be32 (is_at i) else [])) in
    let may = subst (λ (rows : List BlockRow). MayBeAdded g.row.R rows c.args.key.now value) (sym c.self.view_is) c.requires in
    let more = written_push g.row.R front c.self.inside.restarts.items c.self.inside.last_key.items count row c.put_entry.new.out.items
    c.add_restart.new.restarts.items c.self.invariant may
    c.as_bytes-bytes.ensures.in_form is_front is_others in
    more.are ∙ ap (λ (rows : List BlockRow). rows ++ row ∷ []) c.self.view_is
