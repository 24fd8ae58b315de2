use Rattle.pb_span_cases.proofs.SignFacts.{exactly_one_case}
use Rattle.pb_span_cases.proofs.TableFacts.{exactly_one_line}
use Rattle.pb_span_cases.proofs.laws.exactly_one.Goals as goal

pub returns : goal.returns
returns c = record { relation = exactly_one_case; line = exactly_one_line }
