use Rattle.std.proofs.Common.{arith}
use Rattle.pb_version.proofs.Short.{edit_short}
use Rattle.pb_version.proofs.laws.an_edit_is_short.Goals as goal

pub returns-clause-fits : goal.returns-clause-fits
returns-clause-fits c = λ v edit is form unbroken. omega (arith, edit_short v edit is form unbroken)

pub returns-clause-most : goal.returns-clause-most
returns-clause-most c = edit_short
