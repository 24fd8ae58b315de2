-- The steps of an opening: a log is opened, and a leftover is removed.
use Rattle.std.proofs.Common.{◌≡◌, ◌<◌, ◌^◌, ℕ, List, None, IsSome, inl, inr, refl, sym, subst}
use Rattle.std.specs.Prelude.{◌⊎◌, IsTrue}
use Rattle.std.specs.Str.{bytes_eq}
use Rattle.std.proofs.lemmas.Bool.{cond-false, cond-true, false_from_ne_true}
use Rattle.std.proofs.lemmas.Slice.Eq.{bytes_eq-Decides}
use Rattle.pb_devices.specs.Contents.{Contents, Folder, IsImage, KeepsOthers, MayLeave, with_seen}
use Rattle.pb_devices.specs.DiskCalls.{IsRemoved, Stays}
use Rattle.pb_devices.proofs.Images.{removed_image}
use Rattle.pb_devices.proofs.Kept.{kept_but_more, removed_kept, stays_kept_at, with_seen_image}
use Rattle.pb_names.specs.NumberedFile.{IsNumberedFile}
use Rattle.pb_names.specs.Spelling.{file_name}
use Rattle.pb_names.specs.declared.file_kind.FileKind.{FileKind}
use Rattle.pb_names.specs.declared.file_kind.FileKind.TheVariants.{Table}
use Rattle.pb_names.proofs.NumberedFileLemmas.{files_are_numbered}
use Rattle.pb_gate_log.specs.Calls.{Opens}
use Rattle.pb_gate_log.specs.Payloads.{HasList, payloads_in}
use Rattle.pb_gate_log.proofs.FilePayloads.{has_own}
use Rattle.pb_folder.specs.Said.{Said, Says}
use Rattle.pb_folder.proofs.OneMeaning.{new_says_nothing}
use Rattle.pb_manifest.proofs.Opening.{same_or}
use Rattle.pb_recover.specs.Reopened.{IsBegun, IsGateLog, IsNamedBy, IsReopened, IsSwept, IsSweptAt, Reopens}
use Rattle.pb_recover.specs.Reopened.IsSweptAt.{Same, Relisted, Gone}
use Rattle.pb_recover.proofs.Chain.{kept}
use Rattle.pb_recover.proofs.Swept.{says_after}

pub numbered_log : (kind : FileKind) (n : ℕ) → (kind ≡ Table → ⊥) → n < 2 ^ 64 → IsGateLog (file_name kind n)
numbered_log kind n other fits = inr (kind, other, files_are_numbered kind n fits)

-- ---- one name that has changed

module _ (id : ℕ) (name : List ℕ) (old new : Contents) (seen : (other : List ℕ) → MayLeave old other (old.seen other))
    (others : KeepsOthers old new name) where
  -- an image now, with what reads gave of the name
  was : Folder → Folder
  was folder = with_seen old (λ other. bytes_eq other name) folder

  was_image : (folder : Folder) → IsImage new folder → IsImage old (was folder)
  unfolding was
  was_image folder image =
      with_seen_image old new (λ other. bytes_eq other name) folder seen
      (kept_but_more (λ other. other ≡ name) (λ other. IsTrue (bytes_eq other name)) old new
      (λ other e. (bytes_eq-Decides other name).1 e) others)
      image

  was_own : (folder : Folder) → was folder name ≡ old.seen name
  unfolding was
  was_own folder = cond-true (bytes_eq name name) (old.seen name) (folder name) ((bytes_eq-Decides name name).1 refl)

  was_other : (folder : Folder) (other : List ℕ) → (other ≡ name → ⊥) → folder other ≡ was folder other
  unfolding was
  was_other folder other apart =
      sym (cond-false (bytes_eq other name) (old.seen other) (folder other)
      (false_from_ne_true (bytes_eq other name) (λ told. apart ((bytes_eq-Decides other name).0 told))))

  -- it is swept there alone
  was_swept : (folder : Folder) → IsSweptAt id (was folder) folder name → IsSwept id (was folder) folder
  was_swept folder own other =
      elim (same_or other name) [
        | inl e ↦ subst (IsSweptAt id (was folder) folder) (sym e) own
        | inr apart ↦ Same (was_other folder other apart)
      ]

  opened_at : (folder : Folder) → IsImage new folder → IsGateLog name → IsSome (old.seen name) → Opens name old new
      → IsSweptAt id (was folder) folder name
  opened_at folder image log there opens =
      let own = has_own (old.seen name) there in
      Relisted log
      (
      record {
        list = payloads_in (old.seen name);
        first = subst (HasList (payloads_in (old.seen name))) (sym (was_own folder)) own;
        second = opens.crash (payloads_in (old.seen name)) own (folder name) (image name);
      }
      )

  pub opened : IsGateLog name → IsSome (old.seen name) → Opens name old new → Reopens id old new
  opened log there opens folder image =
      record { folder = was folder; image = was_image folder image; left = inl (was_swept folder (opened_at folder image log there opens)) }

  -- nothing has changed where the name has an image that it had
  same_image : (folder : Folder) → IsImage new folder → MayLeave old name (folder name) → IsImage old folder
  same_image folder image own other =
      elim (same_or other name) [
        | inl e ↦ subst (λ (n : List ℕ). MayLeave old n (folder n)) (sym e) own
        | inr apart ↦ (others other apart).images (folder other) (image other)
      ]

  module _ (said : Said) (numbered : IsNumberedFile name) (unnamed : IsNamedBy said name → ⊥)
      (words : (folder : Folder) → IsImage old folder → Says folder id said) where
    left_by : (folder : Folder) → IsImage new folder → MayLeave old name (folder name) ⊎ (folder name ≡ None) → IsReopened id (IsImage old) folder
    left_by folder image (inl own) =
        record { folder = folder; image = same_image folder image own; left = inl (λ other. Same refl) }
    left_by folder image (inr none) =
        record {
          folder = was folder;
          image = was_image folder image;
          left =
              inl (was_swept folder
              (Gone (record { numbered = numbered; said = said; says = words (was folder) (was_image folder image); unnamed = unnamed }) none));
        }

    pub removed : IsRemoved old new name → Reopens id old new
    removed is folder image = left_by folder image (removed_image old new name (folder name) is (image name))

pub removed_or_left : (id : ℕ) (said : Said) (name : List ℕ) (old new : Contents) → ((other : List ℕ) → MayLeave old other (old.seen other))
    → IsNumberedFile name → (IsNamedBy said name → ⊥) → ((folder : Folder) → IsImage old folder → Says folder id said)
    → IsRemoved old new name ⊎ Stays old new → Reopens id old new
removed_or_left id said name old new seen numbered unnamed words (inl is) =
    removed id name old new seen (removed_kept old new name is) said numbered unnamed words is
removed_or_left id said name old new seen numbered unnamed words (inr stays) =
    kept old new id (λ other. stays_kept_at old new other (stays other))

-- ---- words

said_after : (id : ℕ) (said : Said) (before now : Folder) → Says before id said → IsSwept id before now ⊎ IsBegun id before now → Says now id said
said_after id said before now says (inl swept) = says_after id before now swept said says
said_after id said before now says (inr begun) = absurd (new_says_nothing before id said begun.new says)

pub words_stay : (id : ℕ) (said : Said) (old new : Contents) → ((folder : Folder) → IsImage old folder → Says folder id said) → Reopens id old new
    → (folder : Folder) → IsImage new folder → Says folder id said
words_stay id said old new words reopens folder image =
    let start = reopens folder image in
    said_after id said start.folder folder (words start.folder start.image) start.left
