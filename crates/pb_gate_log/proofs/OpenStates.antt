-- What the opening of a log leaves: after reads, after a shutting that failed, and once it is open.
use Rattle.std.proofs.Common.{◌≡◌, ◌⊎◌, ℕ, List, Option, Some, None, IsSome, refl, sym, ◌∙◌, subst, inl, inr}
use Rattle.pb_devices.specs.Contents.{Contents, MayLeave, IsSettled, KeepsOthers}
use Rattle.pb_devices.specs.DiskCalls.{Stays}
use Rattle.pb_devices.proofs.Images.{settled_image, stays_image}
use Rattle.pb_devices.proofs.Kept.{kept_then, stays_kept}
use Rattle.pb_devices.proofs.Options.{is_some_and}
use Rattle.pb_gate_log.specs.Calls.{IsOpened, Opens}
use Rattle.pb_gate_log.specs.Payloads.{HasList, payloads}
use Rattle.pb_gate_log.specs.Steps.{EndsAt, IsShut}
use Rattle.pb_gate_log.proofs.LogLemmas.{EndsAt-payloads}
use Rattle.pb_gate_log.proofs.LogStates.{bytes_have, each_log, log_at}

-- the bytes of a file that is there
pub is_there : (file : Option (List ℕ)) → IsSome file → (bytes : List ℕ) × (file ≡ Some bytes)
is_there None there = cc
is_there (Some bytes) there = (bytes, refl)

module _ (file : List ℕ) (old read : Contents) (settled : IsSettled old file) (stays : Stays old read) where
  -- nothing but reads
  pub opens_read : Opens file old read
  opens_read = record {
    crash = λ list has image left.
        subst (λ (i : Option (List ℕ)). HasList list i) (sym (settled_image old file image settled (stays_image old read file image (stays file) left))) has;
    others = stays_kept old read file stays;
  }

  module _ (start : List ℕ) (there : old.seen file ≡ Some start) (gate : ℕ) (found : List (List ℕ)) (ends : EndsAt gate found start) (new : Contents) where
    closing_has : (list : List (List ℕ)) (image : Option (List ℕ)) → payloads start ≡ list → read.earlier file image ⊎ HasList found image → HasList list image
    closing_has list image stand left =
        elim left [
          | inl before ↦ absurd (settled.nothing_earlier image ((stays file).earlier image before))
          | inr has ↦ subst (λ (l : List (List ℕ)). HasList l image) (sym (EndsAt-payloads gate found start ends) ∙ stand) has
        ]

    -- the last gate was shut, or that failed
    pub opens_shut : ((image : Option (List ℕ)) → MayLeave new file image → read.earlier file image ⊎ HasList found image) → KeepsOthers read new file → Opens file old new
    opens_shut each others = record {
      crash = λ list has image left.
          closing_has list image (is_some_and (old.seen file) (λ bytes. payloads bytes ≡ list) start there has) (each image left);
      others = kept_then old read new file (stays_kept old read file stays) others;
    }

    pub is_opened : (len : ℕ) → IsShut gate found len new file → ((image : Option (List ℕ)) → new.earlier file image → read.earlier file image)
        → IsOpened file found (log_at file gate len) old new
    is_opened len shut earlier = record {
      name = refl;
      had = bytes_have start found (old.seen file) (EndsAt-payloads gate found start ends) there;
      each =
          each_log (log_at file gate len) found shut.bytes new shut.durable
          (λ image is. settled.nothing_earlier image ((stays file).earlier image (earlier image is))) shut.log shut.sized;
    }
