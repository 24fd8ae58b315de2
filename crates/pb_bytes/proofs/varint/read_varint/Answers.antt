use Rattle.pb_bytes.proofs.ReadingLemmas.{varint_at-within, varint_at-spelled, varint_at-unspelled}
use Rattle.pb_bytes.proofs.varint.read_varint.Goals as goal

pub returns-clause-within : goal.returns-clause-within
returns-clause-within c = varint_at-within c.args.from.now c.read_groups.result c.read_groups.ensures

pub returns-clause-found : goal.returns-clause-found
returns-clause-found c = varint_at-spelled c.args.from.now c.read_groups.result c.read_groups.ensures

pub returns-clause-none : goal.returns-clause-none
returns-clause-none c = varint_at-unspelled c.args.from.now c.read_groups.result c.read_groups.ensures
