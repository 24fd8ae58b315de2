-- What each call of a disk keeps of a name, and what is kept goes on: through further calls, to files and to images.
use Rattle.std.proofs.Common.{◌≡◌, ℕ, ◌⊎◌, inl, inr, if◌then◌else◌, Bool, true, false, List, Option, Some, IsTrue, refl, ◌∙◌}
use Rattle.pb_devices.specs.BeforeOrAfter.{IsBeforeOrAfter}
use Rattle.pb_devices.specs.Contents.{Contents, Folder, MayLeave, IsImage, HasFile, KeptAt, KeptBut, KeepsOthers, with_seen}
use Rattle.pb_devices.specs.DiskCalls.{StaysAt, Stays, OthersStay, IsCreated, IsWritten, IsSynced, AllSettled, IsRemoved}
use Rattle.pb_devices.proofs.Images.{settled_image, barred_image, stays_image, stays_settled}

pub stays_same : (disk : Contents) → Stays disk disk
stays_same disk name = record { seen = refl; durable = refl; pending = λ at is. is; earlier = λ image is. is }

pub stays_then : (first mid last : Contents) → Stays first mid → Stays mid last → Stays first last
stays_then first mid last a b name = record {
  seen = (b name).seen ∙ (a name).seen;
  durable = (b name).durable ∙ (a name).durable;
  pending = λ at is. (a name).pending at ((b name).pending at is);
  earlier = λ image is. (a name).earlier image ((b name).earlier image is);
}

-- One name.

pub kept_at_same : (disk : Contents) (name : List ℕ) → KeptAt disk disk name
kept_at_same disk name = record { reads = refl; images = λ image left. left; settled = λ is. is }

pub kept_at_then : (first mid last : Contents) (name : List ℕ) → KeptAt first mid name → KeptAt mid last name → KeptAt first last name
kept_at_then first mid last name a b = record {
  reads = b.reads ∙ a.reads;
  images = λ image left. a.images image (b.images image left);
  settled = λ is. b.settled (a.settled is);
}

pub stays_kept_at : (old new : Contents) (name : List ℕ) → StaysAt old new name → KeptAt old new name
stays_kept_at old new name stays = record {
  reads = stays.seen;
  images = λ image. stays_image old new name image stays;
  settled = stays_settled old new name stays;
}

-- after a barrier, of every name
pub barred_kept_at : (old new : Contents) (name : List ℕ) → MayLeave old name (old.seen name) → AllSettled old new → KeptAt old new name
barred_kept_at old new name seen barred = record {
  reads = barred.seen name;
  images = λ image. barred_image old new name image seen barred;
  settled = λ _. barred.settled name;
}

-- All names but those that are touched.

pub kept_but_same : (IsTouched : List ℕ → Type 0) (disk : Contents) → KeptBut IsTouched disk disk
kept_but_same IsTouched disk name _ = kept_at_same disk name

pub kept_but_then : (IsTouched : List ℕ → Type 0) (first mid last : Contents) → KeptBut IsTouched first mid → KeptBut IsTouched mid last → KeptBut IsTouched first last
kept_but_then IsTouched first mid last a b name apart = kept_at_then first mid last name (a name apart) (b name apart)

-- more names may be touched
pub kept_but_more : (IsTouched IsMore : List ℕ → Type 0) (old new : Contents) → ((name : List ℕ) → IsTouched name → IsMore name) → KeptBut IsTouched old new → KeptBut IsMore old new
kept_but_more IsTouched IsMore old new more kept name apart = kept name (λ is. apart (more name is))

pub stays_kept_but : (IsTouched : List ℕ → Type 0) (old new : Contents) → Stays old new → KeptBut IsTouched old new
stays_kept_but IsTouched old new stays name _ = stays_kept_at old new name (stays name)

pub barred_kept_but : (IsTouched : List ℕ → Type 0) (old new : Contents) → ((name : List ℕ) → MayLeave old name (old.seen name)) → AllSettled old new → KeptBut IsTouched old new
barred_kept_but IsTouched old new seen barred name _ = barred_kept_at old new name (seen name) barred

-- All names but one.

pub kept_same : (disk : Contents) (name : List ℕ) → KeepsOthers disk disk name
kept_same disk name = kept_but_same (λ other. other ≡ name) disk

pub kept_then : (first mid last : Contents) (name : List ℕ) → KeepsOthers first mid name → KeepsOthers mid last name → KeepsOthers first last name
kept_then first mid last name = kept_but_then (λ other. other ≡ name) first mid last

pub others_kept : (old new : Contents) (name : List ℕ) → OthersStay old new name → KeepsOthers old new name
others_kept old new name stay other apart = stays_kept_at old new other (stay other apart)

pub stays_kept : (old new : Contents) (name : List ℕ) → Stays old new → KeepsOthers old new name
stays_kept old new name = stays_kept_but (λ other. other ≡ name) old new

pub created_kept : (old new : Contents) (name : List ℕ) → IsCreated old new name → KeepsOthers old new name
created_kept old new name created = others_kept old new name created.others

pub written_kept : (old new : Contents) (name : List ℕ) (at n : ℕ) → IsWritten old new name at n → KeepsOthers old new name
written_kept old new name at n written = others_kept old new name written.others

pub synced_kept : (old new : Contents) (name : List ℕ) → IsSynced old new name → KeepsOthers old new name
synced_kept old new name synced = others_kept old new name synced.others

pub removed_kept : (old new : Contents) (name : List ℕ) → IsRemoved old new name → KeepsOthers old new name
removed_kept old new name removed = others_kept old new name removed.others

pub barred_kept : (old new : Contents) (name : List ℕ) → ((other : List ℕ) → MayLeave old other (old.seen other)) → AllSettled old new → KeepsOthers old new name
barred_kept old new name = barred_kept_but (λ other. other ≡ name) old new

-- a creation or removal that failed has happened or not
pub created_or_kept : (old new : Contents) (name : List ℕ) → IsCreated old new name ⊎ Stays old new → KeepsOthers old new name
created_or_kept old new name either =
    elim either [ inl created ↦ created_kept old new name created | inr stays ↦ stays_kept old new name stays ]

pub removed_or_kept : (old new : Contents) (name : List ℕ) → IsRemoved old new name ⊎ Stays old new → KeepsOthers old new name
removed_or_kept old new name either =
    elim either [ inl removed ↦ removed_kept old new name removed | inr stays ↦ stays_kept old new name stays ]

-- Files, images and facts.

pub file_image : (name bytes : List ℕ) (disk : Contents) (image : Option (List ℕ)) → HasFile name bytes disk → MayLeave disk name image → image ≡ Some bytes
file_image name bytes disk image has left = settled_image disk name image has.settled left ∙ has.seen

pub file_kept_at : (name bytes : List ℕ) (old new : Contents) → KeptAt old new name → HasFile name bytes old → HasFile name bytes new
file_kept_at name bytes old new kept has = record { seen = kept.reads ∙ has.seen; settled = kept.settled has.settled }

-- an image of what is there now, with what reads gave in the place of what may have changed, was an image before
pub with_seen_image : (old new : Contents) (is_changed : List ℕ → Bool) (folder : Folder) → ((name : List ℕ) → MayLeave old name (old.seen name))
    → KeptBut (λ name. IsTrue (is_changed name)) old new → IsImage new folder → IsImage old (with_seen old is_changed folder)
with_seen_image old new is_changed folder seen kept image name =
    elim (is_changed name) as (λ (b : Bool). is_changed name ≡ b → MayLeave old name (if b then old.seen name else folder name)) [
      | true ↦ λ _. seen name
      | false ↦ λ is. (kept name (λ told. cc)).images (folder name) (image name)
    ] refl

-- a fact of the old or of the new is one of what is made of them
pub before_or_after-map : {A B : Type 0} (Is : A → Type 0) (Has : B → Type 0) (f : A → B) (before after : A) → ((a : A) → Is a → Has (f a))
    → IsBeforeOrAfter Is before after → IsBeforeOrAfter Has (f before) (f after)
before_or_after-map Is Has f before after made either = elim either [ inl was ↦ inl (made before was) | inr is ↦ inr (made after is) ]
