-- When a commit rotates the manifest, and what stands then.
use Rattle.std.specs.Prelude.{◌≡◌, ℕ, ◌+◌, ◌*◌, ◌<◌, ◌^◌, ◌⊎◌, List, ◌∷◌, length, Bool, true, not, ◌&&◌, ◌||◌, ◌==◌, nat_le, nat_lt, if◌then◌else◌, Option, Some, None, is_some}
use Rattle.pb_devices.specs.BeforeOrAfter.{IsBeforeOrAfter}
use Rattle.pb_devices.specs.Contents.{Contents, Folder, IsImage, KeptBut}
use Rattle.pb_edit.specs.Edit.{VersionEdit}
use Rattle.pb_edit.specs.Grammar.{edit_spelling}
use Rattle.pb_gate_log.specs.EachLog.{LogPlace}
use Rattle.pb_gate_log.specs.Payloads.{HasPayloads}
use Rattle.pb_names.specs.Spelling.{current_name}
use Rattle.pb_version.specs.Edited.{edited}
use Rattle.pb_version.specs.Version.{VersionView}
use Rattle.pb_manifest.specs.Manifest.{ManifestView, SaysFolder, manifest_name}
use Rattle.pb_manifest.specs.Numbers.{OnlyReserves, block_end, with_next}

-- ---- when

-- the file has at least 1,048,576 bytes, and at least four times as many as its first payload
abbrev pub is_mostly_history : ℕ → ℕ → Bool
is_mostly_history len first = nat_le 1048576 len && nat_le (4 * first) len

abbrev pub has_other_numbers : VersionEdit → Bool
has_other_numbers edit = is_some edit.accepted || is_some edit.log || is_some edit.flushed || is_some edit.format

abbrev pub has_lists : VersionEdit → Bool
has_lists edit =
    not (length edit.deleted == 0) || not (length edit.physical == 0) || not (length edit.virtuals == 0)
    || not (length edit.created == 0) || not (length edit.removed == 0)

-- the edit does more than reserve numbers
abbrev pub does_more : VersionEdit → Bool
does_more edit = has_other_numbers edit || has_lists edit

-- the end of the reserved numbers once one more is drawn
abbrev pub end_behind_draw : ManifestView → VersionView → ℕ
end_behind_draw manifest version = block_end version.five.next (manifest.next + 1)

-- the numbers below an end may be reserved before an edit that has this one
abbrev pub may_precede : ℕ → Option ℕ → Bool
may_precede end None = true
may_precede end (Some next) = nat_le end next

-- one more number may be drawn, and the edit breaks no rule behind that
abbrev pub may_draw : ℕ → VersionEdit → Bool
may_draw end edit = nat_lt end (2 ^ 62) && may_precede end edit.next

-- most of the manifest is history, the version had its first edit, the edit does more than reserve numbers, and a number is left
abbrev pub is_due : ManifestView → VersionView → VersionEdit → Bool
is_due manifest version edit =
    is_mostly_history manifest.log.len manifest.first && not (version.five.format == 0) && does_more edit
    && may_draw (end_behind_draw manifest version) edit

-- ---- what

-- the version just before the edit
abbrev pub version_before : ManifestView → VersionView → VersionEdit → VersionView
version_before manifest version edit =
    if is_due manifest version edit then with_next (end_behind_draw manifest version) version else version

-- the manifest that has the edit
abbrev pub number_after : ManifestView → VersionView → VersionEdit → ℕ
number_after manifest version edit = if is_due manifest version edit then manifest.next else manifest.number

-- the number that is drawn next
abbrev pub next_after : ManifestView → VersionView → VersionEdit → ℕ
next_after manifest version edit = if is_due manifest version edit then manifest.next + 1 else manifest.next

-- the first payload of the manifest of this number is the edit
abbrev pub FirstIs : Folder → ℕ → VersionEdit → Type 0
FirstIs folder number edit =
    HasPayloads folder (manifest_name number) (λ list. (others : List (List ℕ)) × (list ≡ edit_spelling edit ∷ others))

-- an image in a commit, or behind it: by the old manifest or the new one it says the version before the edit or after it,
-- perhaps with more numbers reserved
pub record SaysAround (manifest : ManifestView) (version : VersionView) (edit : VersionEdit) (folder : Folder) : Type 0 where
  pub number : ℕ
  pub either : (number ≡ manifest.number) ⊎ (number ≡ manifest.next)
  pub said : VersionView
  pub says : SaysFolder number manifest.catalogue said folder
  pub own : number < said.five.next
  pub before : VersionView
  pub reserves : OnlyReserves version before
  pub around : IsBeforeOrAfter (λ v. said ≡ v) before (edited before edit)

-- each name is kept but the current pointer and the manifests of these two numbers
abbrev pub KeepsAllButManifests : Contents → Contents → ℕ → ℕ → Type 0
KeepsAllButManifests old new one other =
    KeptBut (λ name. (name ≡ current_name) ⊎ ((name ≡ manifest_name one) ⊎ (name ≡ manifest_name other))) old new

-- ---- between the steps

-- the manifest behind the pointer that was turned to it: its number, its log and the length of its first payload
abbrev pub turned_to : ℕ → LogPlace × ℕ → ManifestView → ManifestView
turned_to number turned manifest = record manifest { number = number; first = turned.1; log = turned.0 }

-- each image says the version, by the manifest of the one number or of the other
abbrev pub EachSaysBy : ℕ → ℕ → ℕ → VersionView → Contents → Type 0
EachSaysBy one other catalogue version disk =
    (folder : Folder) → IsImage disk folder → IsBeforeOrAfter (λ number. SaysFolder number catalogue version folder) one other

-- the old version by either manifest, or the new version by the new manifest
abbrev pub SaysOne : ℕ → ℕ → ℕ → VersionView → VersionView → Folder → Type 0
SaysOne one other catalogue old new folder =
    SaysFolder one catalogue old folder ⊎ IsBeforeOrAfter (λ version. SaysFolder other catalogue version folder) old new
