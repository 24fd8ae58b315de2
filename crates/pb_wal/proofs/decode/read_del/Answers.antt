use Rattle.std.proofs.Common.{refl, ap, arith, Ok}
use Rattle.pb_payloads.specs.Logged.Logged.{Del}
use Rattle.pb_wal.proofs.Answered.{err_is_none, error_is_none, some_is_none}
use Rattle.pb_wal.proofs.ContentLemmas.{del_key}
use Rattle.pb_wal.proofs.decode.read_del.Goals as goal

pub returns-in_default-2-clause-none : goal.returns-in_default-2-clause-none
returns-in_default-2-clause-none c = (
  λ _ logged behind. c.in_ok-key.ensures.none.0 (ap Ok c.in_default-2.is)
      (del_key c.args.from.now c.in-Some.key.now logged (omega arith) c.in-Some.ensures.found behind),
  λ _. refl,
)

pub returns-in_err-key-clause-none : goal.returns-in_err-key-clause-none
returns-in_err-key-clause-none c = (
  λ same. absurd (err_is_none _ c.from_residual.ensures.0 same),
  λ none. absurd (error_is_none _ (c.in_err-key.ensures.none.1
      (λ is. none (Del c.in-Some.key.now) (record { same_kind = refl; spelled = c.in-Some.ensures.found; content = is })))),
)

pub returns-clause-none : goal.returns-clause-none
returns-clause-none c = (
  λ same. absurd (some_is_none _ same),
  λ none. absurd (none (Del c.in-Some.key.now) (record {
    same_kind = refl;
    spelled = c.in-Some.ensures.found;
    content = rw c.in-Some-2.is at c.in_ok-key.ensures.in_form;
  })),
)
