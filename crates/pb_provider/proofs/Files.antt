-- A table's file that is made: created, written, synced, and behind a barrier.
use Rattle.std.proofs.Common.{◌≡◌, ℕ, ◌⊎◌, ◌+◌, List, [], ◌++◌, take, drop, length, Option, Some, None, sym, ap, ◌∙◌, subst, inl, inr}
use Rattle.std.proofs.Math.Seq.{drop-nil}
use Rattle.std.proofs.lemmas.List.{append-nil}
use Rattle.pb_devices.specs.Contents.{Contents, HasFile, MayLeave}
use Rattle.pb_devices.specs.DiskCalls.{AllSettled, IsCreated, IsOver, IsSynced, IsWritten, over}
use Rattle.pb_devices.proofs.Images.{synced_image}
use Rattle.pb_provider.specs.Files.{IsWhole}

-- bytes over none are these bytes
over_none : (bytes : List ℕ) → over [] 0 bytes ≡ bytes
over_none bytes = ap (λ l. bytes ++ l) (drop-nil (0 + length bytes)) ∙ append-nil bytes

pub whole : (name bytes : List ℕ) (old made written new : Contents) → IsCreated old made name → IsWritten made written name 0 (length bytes) → IsOver made written name 0 bytes → IsSynced written new name → IsWhole name bytes old new
whole name bytes old made written new created write over synced =
    let seen : written.seen name ≡ Some bytes = over [] created.seen ∙ ap Some (over_none bytes) in
    record {
      seen = synced.seen ∙ seen;
      left = λ image left.
          elim (synced_image written new name image bytes seen synced left) [
            | inl earlier ↦ inl (created.earlier image (write.earlier image earlier))
            | inr same ↦ inr same
          ];
    }

pub has_file : (name bytes : List ℕ) (old mid new : Contents) → IsWhole name bytes old mid → AllSettled mid new → HasFile name bytes new
has_file name bytes old mid new is settled = record { seen = settled.seen name ∙ is.seen; settled = settled.settled name }
