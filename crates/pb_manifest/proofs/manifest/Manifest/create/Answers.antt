use Rattle.std.proofs.Common.{◌≡◌, ℕ, ◌<◌, length, arith, sym, ap, ◌∙◌, subst, inl, inr}
use Rattle.pb_gate_log.specs.Payloads.{payloads_in}
use Rattle.pb_manifest.specs.Manifest.{EachManifest, ManifestView}
use Rattle.pb_names.specs.Spelling.{current_name}
use Rattle.pb_version.specs.Edited.{edited}
use Rattle.pb_version.specs.Version.{VersionView, empty_version}
use Rattle.pb_manifest.specs.Numbers.{IsFolded}
use Rattle.pb_manifest.proofs.Kept.{folded_first}
use Rattle.pb_manifest.proofs.Creating.{first_drawn, first_low, made_whole, payloads_before, whole_or_before}
use Rattle.pb_manifest.proofs.manifest.Manifest.create.Goals as goal

pub returns-in_err-version-clause-crash : goal.returns-in_err-version-clause-crash
returns-in_err-version-clause-crash g c = λ told folder image.
    inl (payloads_before (g.D.Disk.contents c.args.disk.now) (folder current_name) (c.requires.settled told) (image current_name))

pub returns-in_err-pointer-clause-crash : goal.returns-in_err-pointer-clause-crash
returns-in_err-pointer-clause-crash g c = λ told folder image.
    inl (payloads_before (g.D.Disk.contents c.args.disk.now) (folder current_name) (c.requires.settled told) (image current_name))

pub write_manifest-requires-clause-low : goal.write_manifest-requires-clause-low
write_manifest-requires-clause-low g c =
    first_low c.args.first.now c.args.number c.args.next c.in_ok-version.ensures.judged c.requires.edit c.requires.next c.requires.number

pub returns-in_err-log-clause-crash : goal.returns-in_err-log-clause-crash
returns-in_err-log-clause-crash g c = λ told folder image.
    let unbroken = c.in_ok-version.ensures.judged in
    let low = first_low c.args.first.now c.args.number c.args.next unbroken c.requires.edit c.requires.next c.requires.number in
    elim (c.in_err-log.ensures.crash told folder image) [
      | inl same ↦ inl same
      | inr both ↦ inr (
          whole_or_before c.args.number c.args.catalogue c.args.next c.args.first.now c.as_slice.result.now c.as_slice-2.result.now c.requires.edit unbroken
          (c.as_slice.ensures.value ∙ c.in_ok-version.ensures.spelled) (c.as_slice-2.ensures.value ∙ c.in_ok-pointer.ensures)
          low c.requires.catalogue
          (payloads_in ((g.D.Disk.contents c.args.disk.now).seen current_name)) folder both.0 both.1)
    ]

pub returns-clause-folded : goal.returns-clause-folded
returns-clause-folded g c =
    subst IsFolded (sym c.in_ok-version.ensures.version) (folded_first c.args.first.now c.in_ok-version.ensures.judged)

pub returns-clause-own : goal.returns-clause-own
returns-clause-own g c =
    let reached = first_drawn c.args.first.now c.args.next c.in_ok-version.ensures.judged c.requires.next in
    subst (λ (v : VersionView). c.args.number < v.five.next) (sym c.in_ok-version.ensures.version)
    (omega (arith, reached, c.requires.number))

pub returns-clause-low : goal.returns-clause-low
returns-clause-low g c =
    (first_low c.args.first.now c.args.number c.args.next c.in_ok-version.ensures.judged c.requires.edit c.requires.next c.requires.number, c.requires.catalogue)

pub returns-clause-kept : goal.returns-clause-kept
returns-clause-kept g c = λ told.
    let unbroken = c.in_ok-version.ensures.judged in
    let low = first_low c.args.first.now c.args.number c.args.next unbroken c.requires.edit c.requires.next c.requires.number in
    let new = g.D.Disk.contents c.write_manifest.new.disk in
    let made : ℕ → ManifestView = λ first. record { number = c.args.number; catalogue = c.args.catalogue; next = c.args.next; first = first; log = c.in_ok-log.log; current = c.in_ok-log.current } in
    let sized : length c.as_slice.result.now ≡ c.len.result =
    ap length c.as_slice.ensures.value ∙ sym (c.len.ensures ∙ c.in_ok-version.edit.ok.0) in
    subst (λ (v : VersionView). EachManifest (made c.len.result) v new) (sym c.in_ok-version.ensures.version)
    (subst (λ (n : ℕ). EachManifest (made n) (edited empty_version c.args.first.now) new) sized
    (made_whole c.args.number c.args.catalogue c.args.next c.args.first.now c.as_slice.result.now c.as_slice-2.result.now c.requires.edit unbroken
    (c.as_slice.ensures.value ∙ c.in_ok-version.ensures.spelled) (c.as_slice-2.ensures.value ∙ c.in_ok-pointer.ensures)
    low c.requires.catalogue
    c.in_ok-log.log c.in_ok-log.current (payloads_in ((g.D.Disk.contents c.args.disk.now).seen current_name)) new
    (c.in_ok-log.ensures.log told) (c.in_ok-log.ensures.current told) c.requires.next c.requires.number))

pub returns-clause-crash : goal.returns-clause-crash
returns-clause-crash g c = λ told folder image.
    let unbroken = c.in_ok-version.ensures.judged in
    let low = first_low c.args.first.now c.args.number c.args.next unbroken c.requires.edit c.requires.next c.requires.number in
    elim (c.in_ok-log.ensures.crash told folder image) [
      | inl same ↦ inl same
      | inr both ↦ inr (
          whole_or_before c.args.number c.args.catalogue c.args.next c.args.first.now c.as_slice.result.now c.as_slice-2.result.now c.requires.edit unbroken
          (c.as_slice.ensures.value ∙ c.in_ok-version.ensures.spelled) (c.as_slice-2.ensures.value ∙ c.in_ok-pointer.ensures)
          low c.requires.catalogue
          (payloads_in ((g.D.Disk.contents c.args.disk.now).seen current_name)) folder both.0 both.1)
    ]
