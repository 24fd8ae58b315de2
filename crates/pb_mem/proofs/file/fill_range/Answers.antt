use Rattle.std.proofs.Common.{inl, inr, arith}
use Rattle.std.proofs.lemmas.Bool.{cases_lt}
use Rattle.pb_mem.proofs.file.fill_range.Goals as goal

pub returns-clause-outside : goal.returns-clause-outside
returns-clause-outside c = λ place apart. c.loop-place.invariant.outside place
    (elim apart [
      | inl front ↦ inl front
      | inr behind ↦ elim c.loop-place.invariant.reach [
        | inl below ↦ inr (omega arith)
        | inr same ↦ elim (cases_lt place c.args.from) [ inl front ↦ inl front | inr from ↦ inr (omega arith) ]
      ]
    ])
