use Rattle.pb_span_cases.proofs.TableFacts.{named_line, listed_line}
use Rattle.pb_span_cases.proofs.remainder.line_of.Goals as goal

pub returns-clause-named : goal.returns-clause-named
returns-clause-named c = rw c.place_of.ensures (named_line c.args.rel _)

pub returns-clause-listed : goal.returns-clause-listed
returns-clause-listed c = rw c.place_of.ensures (listed_line c.args.rel _)
