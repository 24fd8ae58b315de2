use Rattle.std.proofs.Common.{refl, sym, ap, ◌∙◌, arith, ◌++◌, List, ℕ, Ok, Some}
use Rattle.pb_bytes.proofs.ReadingLemmas.{one_varint}
use Rattle.pb_bytes.specs.Varint.{varint}
use Rattle.pb_payloads.specs.Logged.{command_spelling}
use Rattle.pb_wal.specs.Changes.{logged_of}
use Rattle.pb_wal.proofs.Answered.{err_is_none, error_is_none, some_is_none}
use Rattle.pb_wal.proofs.DecodedLaws.{decoded}
use Rattle.pb_wal.proofs.entry.Entry.decode.Goals as goal

pub returns-in_default-2-clause-none : goal.returns-in_default-2-clause-none
returns-in_default-2-clause-none c = (
  λ _ entry in_form spelled.
      let low = c.in-Some.ensures.below in
      let entry_low = in_form.low in
      let behind = one_varint c.in-Some.count entry.count c.in-Some.rest.now (command_spelling entry.command) (omega arith) (omega arith)
      (sym c.in-Some.ensures.found ∙ spelled) in
      c.in_ok-change.ensures.none.0 (ap Ok c.in_default-2.is) entry.command (record { spelled = behind.1; command = in_form.command }),
  λ _. refl,
)

pub returns-in_default-2-clause-exact : goal.returns-in_default-2-clause-exact
returns-in_default-2-clause-exact c = λ entry in_form spelled. absurd ((returns-in_default-2-clause-none c).0 refl entry in_form spelled)

pub returns-in_err-change-clause-none : goal.returns-in_err-change-clause-none
returns-in_err-change-clause-none c = (
  λ same. absurd (err_is_none _ c.from_residual.ensures.0 same),
  λ none. absurd (error_is_none _ (c.in_err-change.ensures.none.1 (λ logged behind.
      none (record { count = c.in-Some.count; command = logged }) (record { low = c.in-Some.ensures.below; command = behind.command })
      (c.in-Some.ensures.found ∙ ap (λ (l : List ℕ). varint c.in-Some.count ++ l) behind.spelled)))),
)

pub returns-clause-none : goal.returns-clause-none
returns-clause-none c =
    let behind = rw c.in-Some-2.is at c.in_ok-change.ensures.some in (
      λ same. absurd (some_is_none _ same),
      λ none. absurd (none (record { count = c.in-Some.count; command = logged_of c.in-Some-2.change })
          (record { low = c.in-Some.ensures.below; command = behind.command })
          (c.in-Some.ensures.found ∙ ap (λ (l : List ℕ). varint c.in-Some.count ++ l) behind.spelled)),
    )

pub returns-clause-exact : goal.returns-clause-exact
returns-clause-exact c = λ entry in_form spelled.
    let behind = rw c.in-Some-2.is at c.in_ok-change.ensures.some in
    decoded c.args.from.now (Some (record { count = c.in-Some.count; change = c.in-Some-2.change })) entry
    (c.in-Some.ensures.found ∙ ap (λ (l : List ℕ). varint c.in-Some.count ++ l) behind.spelled)
    (record { low = c.in-Some.ensures.below; command = behind.command }) tt in_form spelled
