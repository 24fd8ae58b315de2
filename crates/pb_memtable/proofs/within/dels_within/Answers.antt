use Rattle.std.proofs.Common.{◌∙◌}
use Rattle.pb_memtable.proofs.HeldParts.{parts-between}
use Rattle.pb_memtable.proofs.Joins.{apart_between}
use Rattle.pb_memtable.proofs.within.dels_within.Goals as goal

pub returns-clause-exact : goal.returns-clause-exact
returns-clause-exact c =
    c.in_ok-parts.ensures.exact ∙ parts-between c.args.span.now c.args.dels.now c.overlapped_by-from.result.0
    c.overlapped_by-from.result.1 c.overlapped_by-from.ensures

pub returns-clause-apart : goal.returns-clause-apart
returns-clause-apart c =
    c.in_ok-parts.ensures.apart (apart_between c.args.dels.now c.overlapped_by-from.result.0 c.overlapped_by-from.result.1
    c.overlapped_by-from.ensures.within c.requires.apart)
