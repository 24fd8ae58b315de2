-- The payloads of a log's file, and what an opening leaves of them.
use Rattle.std.proofs.Common.{ℕ, List, Option, IsSome, sym, subst, inl, inr}
use Rattle.pb_devices.specs.Contents.{Contents, IsSettled}
use Rattle.pb_devices.specs.DiskCalls.{Stays}
use Rattle.pb_devices.proofs.Images.{settled_image, stays_image}
use Rattle.pb_devices.proofs.Kept.{kept_then, stays_kept}
use Rattle.pb_gate_log.specs.Calls.{Opens}
use Rattle.pb_gate_log.specs.Payloads.{HasList, payloads_in}
use Rattle.pb_gate_log.proofs.FilePayloads.{has_own}
use Rattle.pb_manifest.specs.Found.{KeepsPayloadsOf}
use Rattle.pb_manifest.specs.Steps.{OpensIfThere}

pub said_still : (file image : Option (List ℕ)) → IsSome file → HasList (payloads_in file) image → KeepsPayloadsOf file image
said_still file image there has = inr (payloads_in file, has_own file there, has)

-- calls that leave all as it was open nothing
pub stays_there : (old new : Contents) (name : List ℕ) → IsSettled old name → Stays old new → OpensIfThere name old new
stays_there old new name settled stays = record {
  crash = λ image left. inl (settled_image old name image settled (stays_image old new name image (stays name) left));
  others = stays_kept old new name stays;
}

-- a log that is there is opened, after calls that leave all as it was
pub opened_there : (old mid new : Contents) (name : List ℕ) → IsSome (old.seen name) → Stays old mid → Opens name mid new
    → OpensIfThere name old new
opened_there old mid new name there stays opens = record {
  crash = λ image left.
      let file = old.seen name in
      said_still file image there
      (opens.crash (payloads_in file) (subst (λ (f : Option (List ℕ)). HasList (payloads_in file) f) (sym (stays name).seen)
      (has_own file there)) image left);
  others = kept_then old mid new name (stays_kept old mid name stays) opens.others;
}

-- and it stays so
pub there_stays : (old mid new : Contents) (name : List ℕ) → OpensIfThere name old mid → Stays mid new → OpensIfThere name old new
there_stays old mid new name opens stays = record {
  crash = λ image left. opens.crash image (stays_image mid new name image (stays name) left);
  others = kept_then old mid new name opens.others (stays_kept mid new name stays);
}
