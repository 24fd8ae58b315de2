use Rattle.std.proofs.Common.{refl, ap, arith, Ok}
use Rattle.pb_keys.specs.Span.{span_of}
use Rattle.pb_payloads.specs.Logged.Logged.{DelRange}
use Rattle.pb_wal.proofs.Answered.{err_is_none, error_is_none, some_is_none}
use Rattle.pb_wal.proofs.ContentLemmas.{del_range_span}
use Rattle.pb_wal.proofs.decode.read_del_range.Goals as goal

pub returns-in_default-2-clause-none : goal.returns-in_default-2-clause-none
returns-in_default-2-clause-none c = (
  λ _ logged behind. c.in_ok-span.ensures.none.0 (ap Ok c.in_default-2.is)
      (del_range_span c.args.from.now c.in-Some.lo.now c.in-Some.hi.now logged (omega arith) c.in-Some.ensures.found behind),
  λ _. refl,
)

pub returns-in_err-span-clause-none : goal.returns-in_err-span-clause-none
returns-in_err-span-clause-none c = (
  λ same. absurd (err_is_none _ c.from_residual.ensures.0 same),
  λ none. absurd (error_is_none _ (c.in_err-span.ensures.none.1
      (λ is. none (DelRange (span_of c.in-Some.lo.now c.in-Some.hi.now))
      (record { same_kind = refl; spelled = c.in-Some.ensures.found; content = is })))),
)

pub returns-clause-none : goal.returns-clause-none
returns-clause-none c = (
  λ same. absurd (some_is_none _ same),
  λ none. absurd (none (DelRange (span_of c.in-Some.lo.now c.in-Some.hi.now)) (record {
    same_kind = refl;
    spelled = c.in-Some.ensures.found;
    content = rw c.in-Some-2.is at c.in_ok-span.ensures.in_form;
  })),
)
