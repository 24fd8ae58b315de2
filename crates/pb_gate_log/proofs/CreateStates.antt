-- What the making of a log leaves after each of its steps.
use Rattle.std.proofs.Common.{◌⊎◌, ℕ, List, [], ◌∷◌, Ok, Err, refl, ◌∙◌, inl, inr, arith}
use Rattle.pb_devices.specs.Contents.{Contents, MayLeave}
use Rattle.pb_devices.specs.DiskCalls.{AllSettled, IsCreated, Stays}
use Rattle.pb_devices.proofs.Images.{created_image, stays_image}
use Rattle.pb_devices.proofs.Kept.{barred_kept, created_kept, created_or_kept, kept_then, stays_kept}
use Rattle.pb_gate_log.specs.Calls.{Makes}
use Rattle.pb_gate_log.specs.EachLog.{EachLog}
use Rattle.pb_gate_log.specs.Steps.{IsDurable, Overwrites}
use Rattle.pb_gate_log.proofs.LogLemmas.{new_log, short_payloads}
use Rattle.pb_gate_log.proofs.LogStates.{bytes_have, each_has, each_log, log_at, torn_has}
use Rattle.pb_gate_log.proofs.PendingLemmas.{created_durable, durable_image, settled_durable}

module _ (file : List ℕ) (old mid : Contents) where
  -- the file was made, or nothing was
  pub makes_or_stays : IsCreated old mid file ⊎ Stays old mid → Makes file old mid
  makes_or_stays either = record {
    crash = λ image left. elim either [
      | inl created ↦ elim (created_image old mid file image created left) [
        | inl before ↦ inl before
        | inr is ↦ inr (bytes_have [] [] image (short_payloads [] (omega arith)) is)
      ]
      | inr stays ↦ inl (stays_image old mid file image (stays file) left)
    ];
    others = created_or_kept old mid file either;
  }

  module _ (created : IsCreated old mid file) (wrote : Contents) where
    -- the gate was not written, or not synced
    pub makes_no_gate : {T E : Type 0} (error : E) → Overwrites file 0 (0 ∷ []) mid wrote {T = T} {E = E} (Err error) → Makes file old wrote
    makes_no_gate error writes = record {
      crash = λ image left. elim (writes.crash [] image (created_durable old mid file created) left) [
        | inl before ↦ inl (created.earlier image before)
        | inr torn ↦ inr (torn_has 0 1 [] [] image (λ bytes is. let short = is.no_longer in short_payloads bytes (omega arith)) torn)
      ];
      others = kept_then old mid wrote file (created_kept old mid file created) writes.others;
    }

    module _ {T E : Type 0} (value : T) (writes : Overwrites file 0 (0 ∷ []) mid wrote {T = T} {E = E} (Ok value)) (new : Contents) where
      written : IsDurable (0 ∷ []) wrote file
      written = writes.ok [] (created_durable old mid file created)

      -- the barrier failed: the creation is still pending
      pub makes_no_barrier : Stays wrote new → Makes file old new
      makes_no_barrier stays = record {
        crash = λ image left. elim (durable_image (0 ∷ []) wrote file image written (stays_image wrote new file image (stays file) left)) [
          | inl before ↦ inl (created.earlier image (writes.earlier image before))
          | inr is ↦ inr (bytes_have (0 ∷ []) [] image (short_payloads (0 ∷ []) (omega arith)) is)
        ];
        others =
            kept_then old wrote new file
            (kept_then old mid wrote file (created_kept old mid file created) writes.others) (stays_kept wrote new file stays);
      }

      module _ (barred : AllSettled wrote new) where
        pub each_made : EachLog (log_at file 0 1) [] new
        each_made =
            each_log (log_at file 0 1) [] (0 ∷ []) new (settled_durable (0 ∷ []) new file (barred.settled file) (barred.seen file ∙ written.seen))
            (barred.settled file).nothing_earlier new_log refl

        pub makes_whole : ((other : List ℕ) → MayLeave wrote other (wrote.seen other)) → Makes file old new
        makes_whole seen = record {
          crash = λ image left. inr (each_has (log_at file 0 1) [] new each_made image left);
          others =
              kept_then old wrote new file
              (kept_then old mid wrote file (created_kept old mid file created) writes.others) (barred_kept wrote new file seen barred);
        }
