-- What holds where a rotation is due.
use Rattle.std.proofs.Common.{◌≡◌, ℕ, ◌+◌, ◌≤◌, ◌<◌, ◌^◌, Bool, true, false, Err, refl, sym, ap, ◌∙◌, subst, inl, inr, arith}
use Rattle.std.proofs.lemmas.Bool.Decides.{nat_tests}
use Rattle.std.proofs.lemmas.Bool.{and_parts, false≢true}
use Rattle.std.specs.Prelude.{not, ◌&&◌, ◌==◌, nat_lt, if◌then◌else◌, Option, None}
use Rattle.pb_edit.specs.Edit.{VersionEdit}
use Rattle.pb_version.specs.declared.broken.Broken.{Broken}
use Rattle.pb_version.specs.Edited.{edited}
use Rattle.pb_version.specs.Rules.{first_broken}
use Rattle.pb_version.specs.Version.{VersionView}
use Rattle.pb_devices.specs.Contents.{Contents, Folder, IsImage, KeepsOthers}
use Rattle.pb_manifest.specs.Manifest.{EachManifest, EachSays, ManifestView, SaysFolder, manifest_name}
use Rattle.pb_manifest.specs.Numbers.{IsSpent, OnlyReserves, block_end, with_next}
use Rattle.pb_manifest.specs.Rotation.{SaysAround, SaysOne, does_more, end_behind_draw, is_due, is_mostly_history, may_draw, may_precede, next_after, number_after, version_before}
use Rattle.pb_manifest.proofs.Kept.{next_stays}
use Rattle.pb_manifest.proofs.Blocks.{only_none}
use Rattle.pb_manifest.proofs.Folders.{each_says}
use Rattle.pb_manifest.specs.Judged.{Judges}
use Rattle.pb_manifest.specs.declared.error.CommitError.{CommitError}
use Rattle.pb_manifest.specs.declared.error.CommitError.TheVariants as error
use Rattle.pb_manifest.proofs.Rotating.{other_number}
use Rattle.pb_manifest.proofs.Raised.{raised_breaks_no_more}

not_0 : (format : ℕ) → not (format == 0) ≡ true → format ≡ 0 → ⊥
not_0 format some none = grind (arith, nat_tests)

low_of : (end : ℕ) → nat_lt end (2 ^ 62) ≡ true → end < 2 ^ 62
low_of end low = grind (arith, nat_tests)

module _ (manifest : ManifestView) (version : VersionView) (edit : VersionEdit) (due : is_due manifest version edit ≡ true) where
  parts : (is_mostly_history manifest.log.len manifest.first && not (version.five.format == 0) && does_more edit ≡ true)
      × (may_draw (end_behind_draw manifest version) edit ≡ true)
  parts =
      and_parts (is_mostly_history manifest.log.len manifest.first && not (version.five.format == 0) && does_more edit)
      (may_draw (end_behind_draw manifest version) edit) due

  pub due_begun : version.five.format ≡ 0 → ⊥
  due_begun =
      not_0 version.five.format
      (and_parts (is_mostly_history manifest.log.len manifest.first) (not (version.five.format == 0))
      (and_parts (is_mostly_history manifest.log.len manifest.first && not (version.five.format == 0)) (does_more edit) parts.0).0).1

  draws : (nat_lt (end_behind_draw manifest version) (2 ^ 62) ≡ true) × (may_precede (end_behind_draw manifest version) edit.next ≡ true)
  draws = and_parts (nat_lt (end_behind_draw manifest version) (2 ^ 62)) (may_precede (end_behind_draw manifest version) edit.next) parts.1

  pub due_low : end_behind_draw manifest version < 2 ^ 62
  due_low = low_of (end_behind_draw manifest version) draws.0

  pub due_unspent : IsSpent version.five.next (manifest.next + 1) → ⊥
  due_unspent spent =
      let low = due_low in
      let high = spent.1 in
      omega (arith, low, high)

  above : version.five.next ≤ end_behind_draw manifest version
  above = omega arith

  -- the edit breaks no rule behind the draw either
  pub due_unbroken : first_broken version edit ≡ None → first_broken (with_next (end_behind_draw manifest version) version) edit ≡ None
  due_unbroken = raised_breaks_no_more version edit (end_behind_draw manifest version) above draws.1

reaches : (next end : ℕ) → end ≤ block_end next end
reaches next end = omega arith

-- ---- what an image says

-- the version, with more numbers reserved, by the manifest of before
pub around_before : (manifest : ManifestView) (version before : VersionView) (edit : VersionEdit) (folder : Folder)
    → OnlyReserves version before → manifest.number < before.five.next
    → SaysFolder manifest.number manifest.catalogue before folder → SaysAround manifest version edit folder
around_before manifest version before edit folder reserves own says = record {
  number = manifest.number;
  either = inl refl;
  said = before;
  says = says;
  own = own;
  before = before;
  reserves = reserves;
  around = inl refl;
}

-- nothing was reserved
pub around_each : (manifest : ManifestView) (version : VersionView) (edit : VersionEdit) (disk : Contents) → EachManifest manifest version disk
    → (folder : Folder) → IsImage disk folder → SaysAround manifest version edit folder
around_each manifest version edit disk each folder image =
    around_before manifest version version edit folder (only_none version) each.own (each_says manifest version disk each folder image)

-- ---- in place

-- or the version after the edit, where that may be
pub around_in_place : (manifest : ManifestView) (version : VersionView) (edit : VersionEdit) (old new : Contents)
    → EachManifest manifest version old → first_broken version edit ≡ None
    → EachSays manifest.number manifest.catalogue version (edited version edit) new
    → (folder : Folder) → IsImage new folder → SaysAround manifest version edit folder
around_in_place manifest version edit old new each unbroken says folder image =
    elim (says folder image) [
      | inl before ↦ around_before manifest version version edit folder (only_none version) each.own before
      | inr after ↦ record {
        number = manifest.number;
        either = inl refl;
        said = edited version edit;
        says = after;
        own = let own = each.own in let stays = next_stays version edit unbroken in omega arith;
        before = version;
        reserves = only_none version;
        around = inr refl;
      }
    ]

-- the edit was refused: nothing has changed
pub around_refused : (manifest : ManifestView) (version : VersionView) (edit : VersionEdit) (old new : Contents)
    → EachManifest manifest version old → (folder : Folder) → new ≡ old → IsImage new folder → SaysAround manifest version edit folder
around_refused manifest version edit old new each folder same image =
    around_each manifest version edit old each folder (subst (λ (d : Contents). IsImage d folder) same image)

-- ---- behind a draw

-- the draw was refused: its block is in the image or not
pub around_draw : (manifest : ManifestView) (version drawn : VersionView) (edit : VersionEdit) (disk : Contents)
    → manifest.number < version.five.next → OnlyReserves version drawn
    → EachSays manifest.number manifest.catalogue drawn (with_next (drawn.five.next + 64) drawn) disk
    → (folder : Folder) → IsImage disk folder → SaysAround manifest version edit folder
around_draw manifest version drawn edit disk own only says folder image =
    let raised = only.raised in
    let more : OnlyReserves version (with_next (drawn.five.next + 64) drawn) =
    record { only = ap (with_next (drawn.five.next + 64)) only.only; raised = omega arith } in
    elim (says folder image) [
      | inl before ↦ around_before manifest version drawn edit folder only (omega arith) before
      | inr with_block ↦ around_before manifest version (with_next (drawn.five.next + 64) drawn) edit folder more (omega arith) with_block
    ]

-- the number was drawn: the old manifest, or the new one without the edit or with it
pub around_turned : (manifest : ManifestView) (version drawn : VersionView) (edit : VersionEdit) (folder : Folder)
    → manifest.number < version.five.next → manifest.next < drawn.five.next → OnlyReserves version drawn
    → first_broken drawn edit ≡ None
    → SaysOne manifest.number manifest.next manifest.catalogue drawn (edited drawn edit) folder → SaysAround manifest version edit folder
around_turned manifest version drawn edit folder own own_next only unbroken says =
    let raised = only.raised in
    let stays = next_stays drawn edit unbroken in
    elim says [
      | inl by_old ↦ around_before manifest version drawn edit folder only (omega arith) by_old
      | inr by_new ↦ elim by_new [
        | inl before ↦ record {
          number = manifest.next;
          either = inr refl;
          said = drawn;
          says = before;
          own = own_next;
          before = drawn;
          reserves = only;
          around = inl refl;
        }
        | inr after ↦ record {
          number = manifest.next;
          either = inr refl;
          said = edited drawn edit;
          says = after;
          own = omega arith;
          before = drawn;
          reserves = only;
          around = inr refl;
        }
      ]
    ]

-- ---- what a draw of one leaves

module _ (manifest : ManifestView) (version drawn : VersionView) (only : OnlyReserves version drawn)
    (ends : drawn.five.next ≡ block_end version.five.next (manifest.next + 1)) where
  pub drawn_is : drawn ≡ with_next (end_behind_draw manifest version) version
  drawn_is = only.only ∙ ap (λ n. with_next n version) ends

  pub drawn_begun : (version.five.format ≡ 0 → ⊥) → drawn.five.format ≡ 0 → ⊥
  drawn_begun begun none = begun (sym (ap (λ (v : VersionView). v.five.format) only.only) ∙ none)

  pub drawn_unbroken : (edit : VersionEdit) → is_due manifest version edit ≡ true → first_broken version edit ≡ None
      → first_broken drawn edit ≡ None
  drawn_unbroken edit due unbroken =
      subst (λ (v : VersionView). first_broken v edit ≡ None) (sym drawn_is) (due_unbroken manifest version edit due unbroken)

  pub drawn_low : (edit : VersionEdit) → is_due manifest version edit ≡ true → (number : ℕ) → number ≡ manifest.next → number < 2 ^ 62
  drawn_low edit due number is =
      let low = due_low manifest version edit due in
      let reached : manifest.next + 1 ≤ end_behind_draw manifest version = reaches version.five.next (manifest.next + 1) in
      omega arith

  pub drawn_own : (number : ℕ) → number ≡ manifest.next → number < drawn.five.next
  drawn_own number is =
      let reached : manifest.next + 1 ≤ block_end version.five.next (manifest.next + 1) = reaches version.five.next (manifest.next + 1) in
      omega (arith, ends)

-- the new manifest's file isn't there behind the draw either
pub still_unmade : (manifest : ManifestView) (version : VersionView) (old mid : Contents) (number : ℕ) → number ≡ manifest.next
    → EachManifest manifest version old → old.seen (manifest_name manifest.next) ≡ None → KeepsOthers old mid (manifest_name manifest.number)
    → mid.seen (manifest_name number) ≡ None
still_unmade manifest version old mid number is each unmade kept =
    let other = other_number manifest version old manifest.next each unmade in
    ap (λ n. mid.seen (manifest_name n)) is ∙ (kept (manifest_name manifest.next) (λ same. other (sym same))).reads ∙ unmade

-- an error of a draw that is no want of numbers, and of no rule
pub judged_draw : (T : Type 0) (first : Option Broken) (e : CommitError) → first ≡ None → ((rule : Broken) → e ≡ error.Broken rule → ⊥)
    → (e ≡ error.Spent → ⊥) → Judges {T = T} first (Err e)
judged_draw T first error.Disk none never unspent = none
judged_draw T first (error.Broken rule) none never unspent = absurd (never rule refl)
judged_draw T first error.Spent none never unspent = absurd (unspent refl)
judged_draw T first error.NoMemory none never unspent = tt

-- ---- where none is due

pub not_due : (manifest : ManifestView) (version : VersionView) (edit : VersionEdit)
    → is_mostly_history manifest.log.len manifest.first ≡ false → is_due manifest version edit ≡ true → ⊥
not_due manifest version edit young due =
    let mostly =
    (and_parts (is_mostly_history manifest.log.len manifest.first) (not (version.five.format == 0))
    (and_parts (is_mostly_history manifest.log.len manifest.first && not (version.five.format == 0)) (does_more edit)
    (and_parts (is_mostly_history manifest.log.len manifest.first && not (version.five.format == 0) && does_more edit)
    (may_draw (end_behind_draw manifest version) edit) due).0).0).0 in
    false≢true (sym young ∙ mostly)

unless : {A : Type 0} (test : Bool) (a b : A) → (test ≡ true → ⊥) → (if test then a else b) ≡ b
unless true a b never = absurd (never refl)
unless false a b never = refl

when : {A : Type 0} (test : Bool) (a b : A) → test ≡ true → (if test then a else b) ≡ a
when true a b is = refl
when false a b is = cc

module _ (manifest : ManifestView) (version : VersionView) (edit : VersionEdit) where
  module _ (never : is_due manifest version edit ≡ true → ⊥) where
    pub same_before : version_before manifest version edit ≡ version
    same_before =
        unless (is_due manifest version edit) (with_next (end_behind_draw manifest version) version) version never

    pub same_number_after : number_after manifest version edit ≡ manifest.number
    same_number_after = unless (is_due manifest version edit) manifest.next manifest.number never

    pub same_next_after : next_after manifest version edit ≡ manifest.next
    same_next_after = unless (is_due manifest version edit) (manifest.next + 1) manifest.next never

  module _ (due : is_due manifest version edit ≡ true) where
    pub raised_before : version_before manifest version edit ≡ with_next (end_behind_draw manifest version) version
    raised_before = when (is_due manifest version edit) (with_next (end_behind_draw manifest version) version) version due

    pub drawn_number_after : number_after manifest version edit ≡ manifest.next
    drawn_number_after = when (is_due manifest version edit) manifest.next manifest.number due

    pub one_more_after : next_after manifest version edit ≡ manifest.next + 1
    one_more_after = when (is_due manifest version edit) (manifest.next + 1) manifest.next due
