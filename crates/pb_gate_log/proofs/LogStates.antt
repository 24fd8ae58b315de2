-- Which list each image of the file stands for, between the device calls.
use Rattle.std.proofs.Common.{◌≡◌, ◌⊎◌, ℕ, ◌<◌, List, [], ◌∷◌, length, Option, Some, IsSomeAnd, sym, ap, ◌∙◌, subst, inl, inr, arith}
use Rattle.std.proofs.lemmas.Option.{same_Some}
use Rattle.pb_bytes.specs.BigEndian.{number_of}
use Rattle.pb_devices.specs.Contents.{Contents, MayLeave, KeptAt, KeepsOthers}
use Rattle.pb_devices.proofs.Options.{some_of, of_some}
use Rattle.pb_gate_log.specs.Payloads.{HasList, max_payload, payloads}
use Rattle.pb_gate_log.specs.Steps.{Torn, IsDurable}
use Rattle.pb_gate_log.specs.LogFile.{IsLogFile}
use Rattle.pb_gate_log.specs.EachLog.{LogPlace, EachLog, EachHas}
use Rattle.pb_gate_log.proofs.LogLemmas.{log_payloads}
use Rattle.pb_gate_log.proofs.PendingLemmas.{durable_image, durable_settled, settled_durable}

-- each torn image has the list, so this image has
pub torn_has : (from to : ℕ) (start : List ℕ) (list : List (List ℕ)) (image : Option (List ℕ)) → ((bytes : List ℕ) → Torn from to start bytes → payloads bytes ≡ list) → IsSomeAnd image (Torn from to start) → HasList list image
torn_has from to start list image each torn =
    let found = some_of image (Torn from to start) torn in
    of_some image (λ bytes. payloads bytes ≡ list) found.0 found.1 (each found.0 found.2)

pub bytes_have : (bytes : List ℕ) (list : List (List ℕ)) (image : Option (List ℕ)) → payloads bytes ≡ list → image ≡ Some bytes → HasList list image
bytes_have bytes list image stand is = of_some image (λ b. payloads b ≡ list) bytes is stand

-- where nothing is pending, each image has the list of the file's bytes
pub durable_has : (bytes : List ℕ) (list : List (List ℕ)) (first disk : Contents) (name : List ℕ) (image : Option (List ℕ)) → ((other : Option (List ℕ)) → disk.earlier name other → first.earlier name other) → IsDurable bytes disk name → payloads bytes ≡ list → MayLeave disk name image → first.earlier name image ⊎ HasList list image
durable_has bytes list first disk name image earlier durable stand left =
    elim (durable_image bytes disk name image durable left) [
      | inl before ↦ inl (earlier image before)
      | inr is ↦ inr (bytes_have bytes list image stand is)
    ]

-- after a write that a power cut may tear
pub torn_or_earlier : (from to : ℕ) (start : List ℕ) (list : List (List ℕ)) (first : Contents) (middle : Option (List ℕ) → Type 0) (name : List ℕ) (image : Option (List ℕ)) → ((other : Option (List ℕ)) → middle other → first.earlier name other) → ((bytes : List ℕ) → Torn from to start bytes → payloads bytes ≡ list) → middle image ⊎ IsSomeAnd image (Torn from to start) → first.earlier name image ⊎ HasList list image
torn_or_earlier from to start list first middle name image earlier each left =
    elim left [
      | inl before ↦ inl (earlier image before)
      | inr torn ↦ inr (torn_has from to start list image each torn)
    ]

pub four_ones : max_payload < number_of (255 ∷ 255 ∷ 255 ∷ 255 ∷ [])
unfolding number_of
four_ones = omega arith

-- the file is at rest: reads and every image are this log
pub each_log : (log : LogPlace) (list : List (List ℕ)) (bytes : List ℕ) (disk : Contents) → IsDurable bytes disk log.file → ((image : Option (List ℕ)) → disk.earlier log.file image → ⊥) → IsLogFile log.gate list bytes → length bytes ≡ log.len → EachLog log list disk
each_log log list bytes disk durable last is sized = record {
  seen = of_some (disk.seen log.file) (IsLogFile log.gate list) bytes durable.seen is;
  images = λ image left.
      elim (durable_image bytes disk log.file image durable left) [
        | inl before ↦ absurd (last image before)
        | inr same ↦ of_some image (IsLogFile log.gate list) bytes same is
      ];
  settled = durable_settled bytes disk log.file durable last;
  sized = λ found there. let same : found ≡ bytes = same_Some found bytes (sym there ∙ durable.seen) in ap length same ∙ sized;
}

-- what a log at rest has in its file
pub record AtRest (log : LogPlace) (list : List (List ℕ)) (disk : Contents) : Type 0 where
  pub bytes : List ℕ
  pub durable : IsDurable bytes disk log.file
  pub last : (image : Option (List ℕ)) → disk.earlier log.file image → ⊥
  pub is : IsLogFile log.gate list bytes
  pub sized : length bytes ≡ log.len

pub at_rest : (log : LogPlace) (list : List (List ℕ)) (disk : Contents) → EachLog log list disk → AtRest log list disk
at_rest log list disk each =
    let found = some_of (disk.seen log.file) (IsLogFile log.gate list) each.seen in
    record { bytes = found.0; durable = settled_durable found.0 disk log.file each.settled found.1; last = each.settled.nothing_earlier; is = found.2; sized = each.sized found.0 found.1 }

-- each image stands for the list
pub each_has : (log : LogPlace) (list : List (List ℕ)) (disk : Contents) → EachLog log list disk → EachHas list disk log.file
each_has log list disk each image left =
    let found = some_of image (IsLogFile log.gate list) (each.images image left) in
    bytes_have found.0 list image (log_payloads log.gate list found.0 found.2) found.1

-- a log is kept wherever its file is
pub each_kept_at : (log : LogPlace) (list : List (List ℕ)) (old new : Contents) → KeptAt old new log.file → EachLog log list old → EachLog log list new
each_kept_at log list old new kept each = record {
  seen = subst (λ (s : Option (List ℕ)). IsSomeAnd s (IsLogFile log.gate list)) (sym kept.reads) each.seen;
  images = λ image left. each.images image (kept.images image left);
  settled = kept.settled each.settled;
  sized = λ bytes there. each.sized bytes (sym kept.reads ∙ there);
}

-- as after a call on another file
pub each_kept : (log : LogPlace) (list : List (List ℕ)) (old new : Contents) (name : List ℕ) → (log.file ≡ name → ⊥) → KeepsOthers old new name → EachLog log list old → EachLog log list new
each_kept log list old new name apart kept each = each_kept_at log list old new (kept log.file apart) each

abbrev pub log_at : List ℕ → ℕ → ℕ → LogPlace
log_at file gate len = record { file = file; gate = gate; len = len }
