use Rattle.std.proofs.Common.{refl, append_assoc}
use Rattle.pb_bytes.proofs.VarintLemmas.{field-parts}
use Rattle.pb_bytes.proofs.field.put_field.Goals as goal

pub returns-clause-ok : goal.returns-clause-ok
returns-clause-ok c =
    rw (c.in_default.ensures.items, c.in_ok-put_varint.ensures.ok, field-parts c.args.bytes.now, append_assoc) refl
