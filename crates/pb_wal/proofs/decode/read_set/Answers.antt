use Rattle.std.proofs.Common.{refl, ap, arith, Ok}
use Rattle.pb_payloads.specs.Logged.Logged.{Set}
use Rattle.pb_wal.proofs.Answered.{err_is_none, error_is_none, some_is_none}
use Rattle.pb_wal.proofs.ContentLemmas.{set_key, set_value}
use Rattle.pb_wal.proofs.decode.read_set.Goals as goal

pub returns-then-value-gt-MAX_VALUE-clause-none : goal.returns-then-value-gt-MAX_VALUE-clause-none
returns-then-value-gt-MAX_VALUE-clause-none c = (
  λ _ logged behind.
      let short = set_value c.args.from.now c.in-Some.key.now c.in-Some.value.now logged (omega arith) c.in-Some.ensures.found behind in
      omega (arith, c.if-value-gt-MAX_VALUE.true),
  λ _. refl,
)

pub returns-in_default-2-clause-none : goal.returns-in_default-2-clause-none
returns-in_default-2-clause-none c = (
  λ _ logged behind. c.in_ok-key.ensures.none.0 (ap Ok c.in_default-2.is)
      (set_key c.args.from.now c.in-Some.key.now c.in-Some.value.now logged (omega arith) c.in-Some.ensures.found behind),
  λ _. refl,
)

pub returns-in_err-key-clause-none : goal.returns-in_err-key-clause-none
returns-in_err-key-clause-none c = (
  λ same. absurd (err_is_none _ c.from_residual.ensures.0 same),
  λ none. absurd (error_is_none _ (c.in_err-key.ensures.none.1
      (λ is. none (Set c.in-Some.key.now c.in-Some.value.now)
      (record { same_kind = refl; spelled = c.in-Some.ensures.found; content = (is, omega (arith, c.if-value-gt-MAX_VALUE.false)) })))),
)

pub returns-in_err-value-clause-none : goal.returns-in_err-value-clause-none
returns-in_err-value-clause-none c = (
  λ same. absurd (err_is_none _ c.from_residual-in_err-value.ensures.0 same),
  λ none. absurd (none (Set c.in-Some.key.now c.in-Some.value.now) (record {
    same_kind = refl;
    spelled = c.in-Some.ensures.found;
    content = (rw c.in-Some-2.is at c.in_ok-key.ensures.in_form, omega (arith, c.if-value-gt-MAX_VALUE.false));
  })),
)

pub returns-clause-none : goal.returns-clause-none
returns-clause-none c = (
  λ same. absurd (some_is_none _ same),
  λ none. absurd (none (Set c.in-Some.key.now c.in-Some.value.now) (record {
    same_kind = refl;
    spelled = c.in-Some.ensures.found;
    content = (rw c.in-Some-2.is at c.in_ok-key.ensures.in_form, omega (arith, c.if-value-gt-MAX_VALUE.false));
  })),
)
