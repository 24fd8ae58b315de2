-- Blocks of numbers, one after the other.
use Rattle.std.proofs.Common.{◌≡◌, ℕ, ◌+◌, ◌<◌, ◌≤◌, ◌^◌, refl, sym, ap, ◌∙◌, subst, arith}
use Rattle.pb_devices.specs.Contents.{Contents, KeepsOthers}
use Rattle.pb_devices.proofs.Kept.{kept_then}
use Rattle.pb_edit.specs.Edit.{VersionEdit}
use Rattle.pb_version.specs.Version.{VersionView}
use Rattle.pb_version.specs.Edited.{edited}
use Rattle.pb_manifest.specs.Manifest.{ManifestView, EachSays, manifest_name}
use Rattle.pb_manifest.specs.Numbers.{IsSpent, OnlyReserves, SameNumbers, block_end, last_block_end, reservation, with_next}
use Rattle.pb_manifest.proofs.Reserved.{reserved}

-- ---- ends

pub next_block : (next end : ℕ) → next < end → block_end (next + 64) end ≡ block_end next end
next_block next end below = omega arith

pub no_block : (next end : ℕ) → end ≤ next → block_end next end ≡ next
no_block next end reached = omega arith

pub last_block : (next end : ℕ) → next < end → next + 64 ≤ block_end next end
last_block next end below = omega arith

pub next_last : (next : ℕ) → next + 64 < 2 ^ 62 → last_block_end (next + 64) ≡ last_block_end next
next_last next low = omega arith

pub none_behind : (next : ℕ) → 2 ^ 62 ≤ next + 64 → last_block_end next ≡ next
none_behind next full = omega arith

pub spent_by_far : (next end : ℕ) → next < end → 2 ^ 62 ≤ end → IsSpent next end
spent_by_far next end below far = (below, omega arith)

-- ---- one block

pub block_after : (old new : VersionView) (edit : VersionEdit) (next : ℕ) → edit ≡ reservation next → new ≡ edited old edit
    → new ≡ with_next next old
block_after old new edit next is after = after ∙ ap (edited old) is ∙ reserved old next

-- the block that may be reserved where the version stayed
pub block_says : (number catalogue : ℕ) (disk : Contents) (old new : VersionView) (edit : VersionEdit)
    → edit ≡ reservation (old.five.next + 64) → new ≡ old → EachSays number catalogue old (edited old edit) disk
    → EachSays number catalogue new (with_next (new.five.next + 64) new) disk
block_says number catalogue disk old new edit is same says =
    subst (λ (v : VersionView). EachSays number catalogue v (with_next (v.five.next + 64) v) disk) (sym same)
    (subst (λ (v : VersionView). EachSays number catalogue old v disk) (ap (edited old) is ∙ reserved old (old.five.next + 64)) says)

-- ---- one after the other

pub numbers_then : (first mid last : ManifestView) → SameNumbers first mid → SameNumbers mid last → SameNumbers first last
numbers_then first mid last a b = record {
  number = b.number ∙ a.number;
  catalogue = b.catalogue ∙ a.catalogue;
  next = b.next ∙ a.next;
}

pub only_none : (version : VersionView) → OnlyReserves version version
only_none version = record { only = refl; raised = omega arith }

pub only_then : (first mid last : VersionView) → OnlyReserves first mid → last ≡ with_next (mid.five.next + 64) mid
    → OnlyReserves first last
only_then first mid last a is =
    let next : last.five.next ≡ mid.five.next + 64 = ap (λ (v : VersionView). v.five.next) is in
    let above = a.raised in
    record {
      only = is ∙ ap (with_next (mid.five.next + 64)) a.only ∙ ap (λ n. with_next n first) (sym next);
      raised = omega arith;
    }

pub others_then : (first mid last : Contents) (old new : ManifestView) → SameNumbers old new
    → KeepsOthers first mid (manifest_name old.number) → KeepsOthers mid last (manifest_name new.number)
    → KeepsOthers first last (manifest_name old.number)
others_then first mid last old new same a b =
    kept_then first mid last (manifest_name old.number) a
    (subst (λ n. KeepsOthers mid last (manifest_name n)) same.number b)

-- by the numbers of before
pub says_before : (old new : ManifestView) (one other : VersionView) (disk : Contents) → SameNumbers old new
    → EachSays new.number new.catalogue one other disk → EachSays old.number old.catalogue one other disk
says_before old new one other disk same says =
    subst (λ n. EachSays n old.catalogue one other disk) same.number
    (subst (λ n. EachSays new.number n one other disk) same.catalogue says)
