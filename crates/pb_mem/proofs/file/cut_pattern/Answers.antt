use Rattle.std.proofs.Common.{◌≡◌, length, take, vec_len, refl, sym, ap, ◌∙◌, arith, rules}
use Rattle.std.proofs.lemmas.Grind.{common_steps}
use Rattle.pb_mem.specs.Files.{FileView, durable_bytes, pattern_len, IsPatternedOver}
use Rattle.pb_mem.specs.Seen.{length-durable}
use Rattle.pb_mem.proofs.FileLemmas.{patterned-cut}
use Rattle.pb_mem.proofs.file.cut_pattern.Goals as goal

pub returns : goal.returns
returns c =
    let file : FileView = record { seen = c.args.bytes.now.items; durable_len = c.args.durable_len; saved = c.args.saved.now } in
    let filling : IsPatternedOver c.args.pick file c.fill_pending.new.bytes = rw c.deref_mut.ensures.value at c.fill_pending.ensures in
    let durable : length (durable_bytes file) ≡ c.args.durable_len = omega (arith, length-durable file) in
    let size : vec_len c.args.bytes.now ≡ length c.args.bytes.now.items = sym c.deref_mut.ensures.len ∙ ap length c.deref_mut.ensures.value in
    let left : c.pattern_left-left.result ≡ pattern_len c.args.pick file = c.pattern_left-left.ensures ∙ rw (durable, c.len.ensures, size) refl in
    let cut : c.truncate.new.self.items ≡ take c.pattern_left-left.result c.fill_pending.new.bytes = first_of (search rules, grind (arith, common_steps)) in
    patterned-cut c.args.pick file c.fill_pending.new.bytes c.truncate.new.self.items c.pattern_left-left.result (omega (arith, ap length c.deref_mut.ensures.value)) filling left cut
