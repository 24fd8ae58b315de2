-- Openings one after the other, and what leaves a folder as it is.
use Rattle.std.proofs.Common.{◌≡◌, ℕ, List, inl, inr, refl, sym, ◌∙◌, subst}
use Rattle.std.specs.Prelude.{◌⊎◌}
use Rattle.pb_devices.specs.Contents.{Contents, Folder, KeptAt, MayLeave}
use Rattle.pb_devices.specs.DiskCalls.{AllSettled}
use Rattle.pb_devices.proofs.Kept.{barred_kept_at}
use Rattle.pb_names.specs.NumberedFile.{IsNumberedFile}
use Rattle.pb_names.specs.Spelling.{current_name}
use Rattle.pb_gate_log.specs.NewFolder.{IsNew}
use Rattle.pb_gate_log.specs.Payloads.{HasList}
use Rattle.pb_folder.specs.Said.{Says}
use Rattle.pb_recover.specs.First.{first_said}
use Rattle.pb_recover.specs.Reopened.{IsBegun, IsLeftover, IsSwept, IsSweptAt, Reopens}
use Rattle.pb_recover.specs.Reopened.IsSweptAt.{Same, Relisted, Gone}
use Rattle.pb_recover.specs.Standing.{SameStanding, SameWords}
use Rattle.pb_recover.proofs.Begun.{begun_shows, begun_stands}
use Rattle.pb_recover.proofs.Lists.{one_list}
use Rattle.pb_recover.proofs.Names.{log_numbered}
use Rattle.pb_recover.proofs.Swept.{new_after, new_before, says_after, says_before, swept_shows, swept_stands}

-- ---- swept twice

module _ (id : ℕ) (first mid last : Folder) (swept : IsSwept id first mid) where
  -- what is left over after a sweep was so before
  left_before : (name : List ℕ) → IsLeftover id mid name → IsLeftover id first name
  left_before name left =
      let says = says_before id first mid swept left.said left.says in
      record { numbered = left.numbered; said = left.said; says = says; unnamed = left.unnamed }

  swept_at : (name : List ℕ) → IsSweptAt id first mid name → IsSweptAt id mid last name → IsSweptAt id first last name
  swept_at name one (Gone left none) = Gone (left_before name left) none
  swept_at name (Same e) (Same f) = Same (f ∙ e)
  swept_at name (Same e) (Relisted log both) =
      Relisted log (record { list = both.list; first = subst (HasList both.list) e both.first; second = both.second })
  swept_at name (Relisted log both) (Same f) =
      Relisted log (record { list = both.list; first = both.first; second = subst (HasList both.list) (sym f) both.second })
  swept_at name (Relisted log both) (Relisted again other) =
      Relisted log (
      record {
        list = both.list;
        first = both.first;
        second =
            subst (λ (list : List (List ℕ)). HasList list (last name)) (one_list (mid name) other.list both.list other.first both.second)
            other.second;
      }
      )
  swept_at name (Gone left none) (Same f) = Gone left (f ∙ none)
  swept_at name (Gone left none) (Relisted log both) = absurd (subst (HasList both.list) none both.first)

  swept_twice : IsSwept id mid last → IsSwept id first last
  swept_twice again name = swept_at name (swept name) (again name)

-- ---- begun, and then swept or begun again

module _ (id : ℕ) (before now : Folder) where
  -- a sweep touches gate logs and numbered files alone
  other_same : (name : List ℕ) → (name ≡ current_name → ⊥) → (IsNumberedFile name → ⊥) → IsSweptAt id before now name
      → now name ≡ before name
  other_same name pointer numbered (Same e) = e
  other_same name pointer numbered (Relisted log both) = absurd (numbered (log_numbered name log pointer))
  other_same name pointer numbered (Gone left none) = absurd (numbered left.numbered)

  made_after : IsSwept id before now → IsNew before ⊎ Says before id first_said → IsNew now ⊎ Says now id first_said
  made_after swept (inl new) = inl (new_after id before now swept new)
  made_after swept (inr says) = inr (says_after id before now swept first_said says)

module _ (id : ℕ) (first mid last : Folder) where
  begun_swept : IsBegun id first mid → IsSwept id mid last → IsBegun id first last
  begun_swept begun swept = record {
    new = begun.new;
    others = λ name pointer numbered. other_same id mid last name pointer numbered (swept name) ∙ begun.others name pointer numbered;
    made = made_after id mid last swept begun.made;
  }

  swept_begun : IsSwept id first mid → IsBegun id mid last → IsBegun id first last
  swept_begun swept begun = record {
    new = new_before id first mid swept begun.new;
    others = λ name pointer numbered. begun.others name pointer numbered ∙ other_same id first mid name pointer numbered (swept name);
    made = begun.made;
  }

  begun_twice : IsBegun id first mid → IsBegun id mid last → IsBegun id first last
  begun_twice begun again = record {
    new = begun.new;
    others = λ name pointer numbered. again.others name pointer numbered ∙ begun.others name pointer numbered;
    made = again.made;
  }

  both_left : IsSwept id first mid ⊎ IsBegun id first mid → IsSwept id mid last ⊎ IsBegun id mid last
      → IsSwept id first last ⊎ IsBegun id first last
  both_left (inl swept) (inl again) = inl (swept_twice id first mid last swept again)
  both_left (inl swept) (inr begun) = inr (swept_begun swept begun)
  both_left (inr begun) (inl swept) = inr (begun_swept begun swept)
  both_left (inr begun) (inr again) = inr (begun_twice begun again)

-- ---- disks

pub chained : (old mid new : Contents) (id : ℕ) → Reopens id old mid → Reopens id mid new → Reopens id old new
chained old mid new id one other folder image =
    let between = other folder image in
    let start = one between.folder between.image in
    record {
      folder = start.folder;
      image = start.image;
      left = both_left id start.folder between.folder folder start.left between.left;
    }

pub stood : (old new : Contents) (id : ℕ) → Reopens id old new → SameStanding id old new
stood old new id reopens folder image =
    let start = reopens folder image in
    record {
      folder = start.folder;
      image = start.image;
      same = λ objects n m.
          elim start.left [
            | inl swept ↦ swept_stands id start.folder folder swept objects n m
            | inr begun ↦ begun_stands id start.folder folder begun objects n m
          ];
    }

pub shown : (old new : Contents) (id : ℕ) → Reopens id old new → SameWords id old new
shown old new id reopens folder image =
    let start = reopens folder image in
    record {
      folder = start.folder;
      image = start.image;
      same = λ words shows.
          elim start.left [
            | inl swept ↦ inl (swept_shows id start.folder folder swept words shows)
            | inr begun ↦ begun_shows id start.folder folder begun words shows
          ];
    }

-- where each name is kept, each image was one
pub kept : (old new : Contents) (id : ℕ) → ((name : List ℕ) → KeptAt old new name) → Reopens id old new
kept old new id keeps folder image =
    record { folder = folder; image = λ name. (keeps name).images (folder name) (image name); left = inl (λ name. Same refl) }

pub barred : (old new : Contents) (id : ℕ) → ((name : List ℕ) → MayLeave old name (old.seen name)) → AllSettled old new → Reopens id old new
barred old new id seen settled = kept old new id (λ name. barred_kept_at old new name (seen name) settled)
