-- What each image of a folder says where a commit or a draw of the three steps fails.
use Rattle.std.proofs.Common.{◌≡◌, ℕ, ◌+◌, Result, Ok, Err, ap, subst, arith, inl, inr}
use Rattle.pb_devices.specs.Contents.{Contents, Folder, IsImage}
use Rattle.pb_devices.specs.DiskCalls.{Stays}
use Rattle.pb_devices.proofs.Kept.{stays_kept_at}
use Rattle.pb_edit.specs.Edit.{VersionEdit}
use Rattle.pb_manifest.specs.Manifest.{EachManifest, EachSays, ManifestView, manifest_name}
use Rattle.pb_manifest.proofs.Folders.{manifest_kept}
use Rattle.pb_names.specs.Spelling.{current_name}
use Rattle.pb_manifest.specs.Numbers.{OnlyReserves, with_next}
use Rattle.pb_version.specs.Edited.{edited}
use Rattle.pb_version.specs.Version.{VersionView}
use Rattle.pb_crash_tests.specs.Steps.{SaysAfter, SaysReserved, after_first, after_both}

named : (one other : VersionView) (number catalogue : ℕ) (disk : Contents) → number ≡ 1 → catalogue ≡ 2 → EachSays number catalogue one other disk → EachSays 1 2 one other disk
named one other number catalogue disk first second says =
    subst (λ (n : ℕ). EachSays 1 n one other disk) second (subst (λ (n : ℕ). EachSays n catalogue one other disk) first says)

pub commit_left : (first second : VersionEdit) (number catalogue : ℕ) (version : VersionView) (disk : Contents)
    → number ≡ 1 → catalogue ≡ 2 → version ≡ after_first first → EachSays number catalogue version (edited version second) disk
    → (folder : Folder) → IsImage disk folder → SaysAfter first second 1 folder
commit_left first second number catalogue version disk one two is says =
    subst (λ (v : VersionView). EachSays 1 2 v (edited v second) disk) is (named version (edited version second) number catalogue disk one two says)

-- a reservation behind another is one
one_more : (version after : VersionView) → OnlyReserves version after → OnlyReserves version (with_next (after.five.next + 64) after)
one_more version after only = record {
  only = ap (with_next (after.five.next + 64)) only.only;
  raised = omega (arith, only.raised);
}

pub draw_left : (first second : VersionEdit) (number catalogue : ℕ) (before after : VersionView) (disk : Contents)
    → number ≡ 1 → catalogue ≡ 2 → before ≡ after_both first second → OnlyReserves before after
    → EachSays number catalogue after (with_next (after.five.next + 64) after) disk
    → (folder : Folder) → IsImage disk folder → SaysReserved (after_both first second) folder
draw_left first second number catalogue before after disk one two is only says folder image =
    let reserves = subst (λ (v : VersionView). OnlyReserves v after) is only in
    elim (named after (with_next (after.five.next + 64) after) number catalogue disk one two says folder image) [
      | inl same ↦ record { reserved = after; only = reserves; says = same }
      | inr more ↦ record {
        reserved = with_next (after.five.next + 64) after;
        only = one_more (after_both first second) after reserves;
        says = more;
      }
    ]

-- ---- an answer that is no error

pub never_err : {T E : Type 0} (value : T) (error : E) → ◌≡◌ {A = Result T E} (Ok value) (Err error) → ⊥
never_err value error is = cc

-- ---- behind a call that changes nothing

pub still_kept : (manifest : ManifestView) (version : VersionView) (old new : Contents) → Stays old new → EachManifest manifest version old
    → EachManifest manifest version new
still_kept manifest version old new stays =
    manifest_kept manifest version old new (stays_kept_at old new current_name (stays current_name))
    (stays_kept_at old new (manifest_name manifest.number) (stays (manifest_name manifest.number)))
