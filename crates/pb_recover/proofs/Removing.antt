-- What removals of files do to a folder, one after the other.
use Rattle.std.proofs.Common.{◌≡◌, ◌<◌, ◌≤◌, ◌+◌, ℕ, List, [], ◌∷◌, ◌++◌, length, get_or, map, take, Option, Some, None, IsSome, inl, inr, refl, sym, ap, ◌∙◌, subst, arith}
use Rattle.std.specs.List.{Contains}
use Rattle.std.specs.Prelude.{◌⊎◌}
use Rattle.std.proofs.lemmas.Grind.{take_at_read}
use Rattle.std.proofs.lemmas.List.{map-append, take_all}
use Rattle.std.proofs.lemmas.List.Elements.{Contains-push_cases}
use Rattle.pb_devices.specs.Contents.{Contents, KeptBut, MayLeave}
use Rattle.pb_devices.specs.DiskCalls.{AllSettled, IsRemoved, Stays}
use Rattle.pb_devices.proofs.Images.{removed_image, stays_settled}
use Rattle.pb_devices.proofs.Kept.{barred_kept_at, kept_at_then, kept_but_then, removed_kept, stays_kept_at, stays_then}
use Rattle.pb_manifest.proofs.Opening.{same_or}
use Rattle.pb_devices.specs.Reads.{AreNames}
use Rattle.pb_recover.specs.Calls.{AreGone, IsCalm, Removes}

-- ---- one removal after the other

module _ (IsGone : List ℕ → Type 0) where
  pub removes_nothing : (old new : Contents) → Stays old new → Removes IsGone old new
  removes_nothing old new stays = record {
    others = λ name _. stays_kept_at old new name (stays name);
    crash = λ name image left. inl ((stays_kept_at old new name (stays name)).images image left);
    absent = λ name none. (stays name).seen ∙ none;
  }

  removed_at : (old new : Contents) (name : List ℕ) (image : Option (List ℕ)) → IsGone name → MayLeave old name image ⊎ (image ≡ None)
      → MayLeave old name image ⊎ ((image ≡ None) × IsGone name)
  removed_at old new name image gone (inl own) = inl own
  removed_at old new name image gone (inr none) = inr (none, gone)

  pub removes_one : (old new : Contents) (name : List ℕ) → IsGone name → IsRemoved old new name ⊎ Stays old new → Removes IsGone old new
  removes_one old new name gone (inr stays) = removes_nothing old new stays
  removes_one old new name gone (inl is) = record {
    others = λ other apart. removed_kept old new name is other (λ e. apart (subst IsGone (sym e) gone));
    crash = λ other image left.
        elim (same_or other name) [
          | inl e ↦
              removed_at old new other image (subst IsGone (sym e) gone)
              (subst (λ (n : List ℕ). MayLeave old n image ⊎ (image ≡ None)) (sym e)
              (removed_image old new name image is (subst (λ (n : List ℕ). MayLeave new n image) e left)))
          | inr apart ↦ inl ((removed_kept old new name is other apart).images image left)
        ];
    absent = λ other none.
        elim (same_or other name) [
          | inl e ↦ subst (λ (n : List ℕ). new.seen n ≡ None) (sym e) is.seen
          | inr apart ↦ (is.others other apart).seen ∙ none
        ];
  }

  removed_then : (old mid : Contents) (name : List ℕ) (image : Option (List ℕ)) → Removes IsGone old mid
      → MayLeave mid name image ⊎ ((image ≡ None) × IsGone name) → MayLeave old name image ⊎ ((image ≡ None) × IsGone name)
  removed_then old mid name image one (inl left) = one.crash name image left
  removed_then old mid name image one (inr gone) = inr gone

  pub removes_then : (old mid new : Contents) → Removes IsGone old mid → Removes IsGone mid new → Removes IsGone old new
  removes_then old mid new one other = record {
    others = kept_but_then IsGone old mid new one.others other.others;
    crash = λ name image left. removed_then old mid name image one (other.crash name image left);
    absent = λ name none. other.absent name (one.absent name none);
  }

  -- behind a barrier
  pub removes_settled : (old mid new : Contents) → ((name : List ℕ) → MayLeave mid name (mid.seen name)) → Removes IsGone old mid
      → AllSettled mid new → Removes IsGone old new
  removes_settled old mid new seen one settled = record {
    others = λ name apart. kept_at_then old mid new name (one.others name apart) (barred_kept_at mid new name (seen name) settled);
    crash = λ name image left. one.crash name image ((barred_kept_at mid new name (seen name) settled).images image left);
    absent = λ name none. settled.seen name ∙ one.absent name none;
  }

-- ---- files of a list of names

-- those among these names aren't there
abbrev pub AreGoneOf : (List ℕ → Type 0) → List (List ℕ) → Contents → Type 0
AreGoneOf IsGone names disk = (name : List ℕ) → Contains names name → IsGone name → disk.seen name ≡ None

-- a name among the first so many and one more is among them, or is that one
passed : {X : Type 0} (f : X → List ℕ) (xs : List X) (i : ℕ) (x : X) (name : List ℕ) → i < length xs → x ≡ get_or xs i x
    → Contains (map f (take (i + 1) xs)) name → Contains (map f (take i xs)) name ⊎ (f x ≡ name)
passed f xs i x name within is among =
    let next : map f (take (i + 1) xs) ≡ map f (take i xs) ++ f x ∷ [] =
    ap (map f) (take_at_read xs i x within).1
    ∙ map-append f (take i xs) (get_or xs i x ∷ [])
    ∙ ap (λ y. map f (take i xs) ++ f y ∷ []) (sym is) in
    Contains-push_cases (map f (take i xs)) (f x) name (subst (λ (l : List (List ℕ)). Contains l name) next among)

module _ (IsGone : List ℕ → Type 0) where
  -- the next one is gone too, and what was gone before stays so
  pub gone_more : {X : Type 0} (f : X → List ℕ) (xs : List X) (i : ℕ) (x : X) (mid new : Contents) → i < length xs → x ≡ get_or xs i x
      → AreGoneOf IsGone (map f (take i xs)) mid → Removes IsGone mid new → (IsGone (f x) → new.seen (f x) ≡ None)
      → AreGoneOf IsGone (map f (take (i + 1) xs)) new
  gone_more f xs i x mid new within is before removes now name among gone =
      elim (passed f xs i x name within is among) [
        | inl earlier ↦ removes.absent name (before name earlier gone)
        | inr same ↦
            subst (λ (n : List ℕ). new.seen n ≡ None) same (now (subst IsGone (sym same) gone))
      ]

  -- to begin with, and at the end
  pub none_passed : (disk : Contents) → AreGoneOf IsGone [] disk
  none_passed disk name among gone = absurd (let within = among.1 in omega (arith, within))

  pub all_passed : {X : Type 0} (f : X → List ℕ) (xs : List X) (i : ℕ) (disk : Contents) → length xs ≤ i
      → AreGoneOf IsGone (map f (take i xs)) disk → AreGoneOf IsGone (map f xs) disk
  all_passed f xs i disk ended are name among =
      are name (subst (λ (l : List _). Contains (map f l) name) (sym (take_all i xs ended)) among)

  some_or_none : (file : Option (List ℕ)) → IsSome file ⊎ (file ≡ None)
  some_or_none None = inr refl
  some_or_none (Some bytes) = inl refl

  -- what is on the list of all names is gone, and the others weren't there
  pub all_gone : (names : List (List ℕ)) (old new : Contents) → AreNames names old.seen → Removes IsGone old new → AreGoneOf IsGone names new
      → AreGone IsGone new
  all_gone names old new listed removes passed name gone =
      elim (some_or_none (old.seen name)) [
        | inl there ↦ passed name ((listed.each name).1 there) gone
        | inr none ↦ removes.absent name none
      ]

  -- behind a list of the names
  module _ (names : List (List ℕ)) (old listed new : Contents) (stays : Stays old listed) (removes : Removes IsGone listed new) where
    pub removes_listed : Removes IsGone old new
    removes_listed = removes_then IsGone old listed new (removes_nothing IsGone old listed stays) removes

    pub listed_gone : AreNames names old.seen → AreGoneOf IsGone names new → AreGone IsGone new
    listed_gone are = all_gone names old new are removes_listed

  pub settled_gone : (mid new : Contents) → AllSettled mid new → AreGone IsGone mid → AreGone IsGone new
  settled_gone mid new settled are name gone = settled.seen name ∙ are name gone

-- ---- a folder that stays

pub stays_calm : (old new : Contents) → Stays old new → IsCalm old → IsCalm new
stays_calm old new stays calm name = stays_settled old new name (stays name) (calm name)
