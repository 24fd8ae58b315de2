-- What the family's machine says of an `open`.
use Rattle.std.proofs.Common.{ℕ, ◌+◌, true, None, refl, sym, ap, ◌∙◌}
use Rattle.pb_keys.specs.Map.{Map}
use Rattle.pb_reply.specs.declared.refusal.Refusal.TheVariants.{AlreadyOpen, Damaged, DiskFault, NoMemory}
use Rattle.pb_reply.specs.declared.reply.Reply.{Reply}
use Rattle.pb_reply.specs.declared.reply.Reply.TheVariants.{Opened, Refused}
use Rattle.pb_machine.specs.Family.{StoreState, Open as OpenPhase, start, with_store}
use Rattle.pb_machine.specs.After.{found_history}
use Rattle.pebble_cli.specs.Lines.{store_a}
use Rattle.pebble_cli.specs.Store.{Held}
use Rattle.pebble_cli.specs.StoreStates.{Opens}
use Rattle.pebble_cli.specs.declared.step.Step.TheVariants as step
use Rattle.pebble_cli.specs.declared.store.Store.{Store}
use Rattle.pebble_cli.specs.declared.store.Store.TheVariants.{Closed, Open, Down}
use Rattle.pebble_cli.proofs.Alone.{Past, shown, family_put}
use Rattle.pebble_cli.proofs.Moves.{Moves, low, no}

-- ---- openings

abbrev opened_state : Past → ℕ → ℕ → StoreState
opened_state past found count =
    record {
      phase = OpenPhase;
      opening = past.opening + 1;
      history = record { has_begun = true; count = count; map = (found_history past.history found).map; pending = None };
      fg = None;
      bg = None;
    }

pub already : (maps : ℕ → Map) (held : Held) (past : Past) → Moves maps (Open held) past step.Open (Refused AlreadyOpen) (Open held)
already maps held past = record {
  judged = refl;
  answered = refl;
  moved = family_put maps (shown (Open held) past) (shown (Open held) past);
  met = tt;
  counted = low;
  must = λ _ is. no is;
  only = λ _ is. no is;
}

pub opens_closed : (maps : ℕ → Map) (past : Past) (reply : Reply) (after : Store) → Opens reply after
    → Moves maps Closed past step.Open reply after
opens_closed maps past (Opened n) (Open held) is = record {
  judged = refl;
  answered = refl;
  moved = family_put maps (shown Closed past) (opened_state past n n)
      ∙ ap (λ (count : ℕ). with_store (start maps) store_a (opened_state past n count)) (sym is.0);
  met = tt;
  counted = is.1;
  must = λ opened _. no opened;
  only = λ opened _. no opened;
}
opens_closed maps past (Refused (Damaged file)) Closed is = record {
  judged = refl;
  answered = refl;
  moved = family_put maps (shown Closed past) (shown Closed past);
  met = refl;
  counted = low;
  must = λ opened _. no opened;
  only = λ opened _. no opened;
}
opens_closed maps past (Refused DiskFault) Closed is = record {
  judged = refl;
  answered = refl;
  moved = family_put maps (shown Closed past) (shown Closed past);
  met = refl;
  counted = low;
  must = λ opened _. no opened;
  only = λ opened _. no opened;
}
opens_closed maps past (Refused NoMemory) Closed is = record {
  judged = refl;
  answered = refl;
  moved = family_put maps (shown Closed past) (shown Closed past);
  met = refl;
  counted = low;
  must = λ opened _. no opened;
  only = λ opened _. no opened;
}
opens_closed maps past reply after is = absurd is

pub opens_down : (maps : ℕ → Map) (past : Past) (reply : Reply) (after : Store) → Opens reply after → Moves maps Down past step.Open reply after
opens_down maps past (Opened n) (Open held) is = record {
  judged = refl;
  answered = refl;
  moved = family_put maps (shown Down past) (opened_state past n n)
      ∙ ap (λ (count : ℕ). with_store (start maps) store_a (opened_state past n count)) (sym is.0);
  met = tt;
  counted = is.1;
  must = λ opened _. no opened;
  only = λ opened _. no opened;
}
opens_down maps past (Refused (Damaged file)) Closed is = record {
  judged = refl;
  answered = refl;
  moved = family_put maps (shown Down past) (shown Closed past);
  met = refl;
  counted = low;
  must = λ opened _. no opened;
  only = λ opened _. no opened;
}
opens_down maps past (Refused DiskFault) Closed is = record {
  judged = refl;
  answered = refl;
  moved = family_put maps (shown Down past) (shown Closed past);
  met = refl;
  counted = low;
  must = λ opened _. no opened;
  only = λ opened _. no opened;
}
opens_down maps past (Refused NoMemory) Closed is = record {
  judged = refl;
  answered = refl;
  moved = family_put maps (shown Down past) (shown Closed past);
  met = refl;
  counted = low;
  must = λ opened _. no opened;
  only = λ opened _. no opened;
}
opens_down maps past reply after is = absurd is
