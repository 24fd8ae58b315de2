-- What holds of a version after an edit that breaks no rule, and of one that edits fold to.
use Rattle.std.proofs.Common.{◌≡◌, ℕ, ◌≤◌, List, [], ◌∷◌, ◌++◌, Bool, true, false, refl, subst, arith}
use Rattle.std.proofs.lemmas.Bool.{and_parts, leb-true}
use Rattle.std.proofs.lemmas.Bool.Decides.{nat_tests}
use Rattle.std.specs.Prelude.{not, ◌&&◌, ◌||◌, ◌==◌, nat_le, nat_lt, if◌then◌else◌, Option, Some, None, is_some}
use Rattle.pb_edit.specs.Edit.{VersionEdit}
use Rattle.pb_version.specs.declared.broken.Broken.{Broken}
use Rattle.pb_version.specs.declared.broken.Broken.TheVariants.{V1, V2, V3, V4, V5, V6, V7, V8, V9}
use Rattle.pb_version.specs.Version.{FiveNumbers, VersionView, empty_version}
use Rattle.pb_version.specs.Edited.{edited, five_after}
use Rattle.pb_version.specs.Rules.{keeps_v1, keeps_v2, keeps_v3, keeps_v4, keeps_v5, keeps_v6, keeps_v7, keeps_v8, keeps_v9, none_of_four_falls, fit_each_other, has_all_five, first_broken}
use Rattle.pb_version.specs.Fold.{FoldsFrom, FoldsTo}
use Rattle.pb_version.proofs.FoldLaws.{folds_first, folds_further}
use Rattle.pb_version.specs.SaysVersion.{SaysVersion}
use Rattle.pb_manifest.specs.Numbers.{IsFolded}

-- ---- tests

-- the answer of nine tests, one after the other
abbrev pub first_of_nine : Bool → Bool → Bool → Bool → Bool → Bool → Bool → Bool → Bool → Option Broken
first_of_nine a b c d e f g h i =
    if not a then Some V1
    else if not b then Some V2
    else if not c then Some V3
    else if not d then Some V4
    else if not e then Some V5
    else if not f then Some V6
    else if not g then Some V7
    else if not h then Some V8
    else if not i then Some V9
    else None

-- the rules on the version as it stands after the edit
after_kept : (a b c d e f g h i : Bool) → first_of_nine a b c d e f g h i ≡ None → (f ≡ true) × (g ≡ true) × (h ≡ true) × (i ≡ true)
after_kept true true true true true true true true true none = (refl, refl, refl, refl)
after_kept true true true true true true true true false none = cc
after_kept true true true true true true true false i none = cc
after_kept true true true true true true false h i none = cc
after_kept true true true true true false g h i none = cc
after_kept true true true true false f g h i none = cc
after_kept true true true false e f g h i none = cc
after_kept true true false d e f g h i none = cc
after_kept true false c d e f g h i none = cc
after_kept false b c d e f g h i none = cc

-- ---- a version after an edit

last_rules : (old : VersionView) (edit : VersionEdit) → first_broken old edit ≡ None
    → (keeps_v6 old edit ≡ true) × (keeps_v7 old edit ≡ true) × (keeps_v8 old edit ≡ true) × (keeps_v9 old edit ≡ true)
unfolding first_broken
last_rules old edit none =
    after_kept (keeps_v1 old edit) (keeps_v2 old edit) (keeps_v3 old edit) (keeps_v4 old edit) (keeps_v5 old edit) (keeps_v6 old edit)
    (keeps_v7 old edit) (keeps_v8 old edit) (keeps_v9 old edit) none

five_kept : (old new : FiveNumbers) (c : Bool) → (none_of_four_falls old new && fit_each_other new && c) ≡ true
    → (none_of_four_falls old new ≡ true) × (fit_each_other new ≡ true)
five_kept old new c is = and_parts (none_of_four_falls old new) (fit_each_other new) (and_parts (none_of_four_falls old new && fit_each_other new) c is).0

fits_after : (old : VersionView) (edit : VersionEdit) → first_broken old edit ≡ None → fit_each_other (edited old edit).five ≡ true
unfolding edited
fits_after old edit none =
    (five_kept old.five (five_after old.five edit) (not (old.five.format == 0) || has_all_five edit) (last_rules old edit none).2).1

next_kept : (a b c d e f g h : ℕ) → (nat_le a b && nat_le c d && nat_le e f && nat_le g h) ≡ true → c ≤ d
next_kept a b c d e f g h is =
    leb-true c d (and_parts (nat_le a b) (nat_le c d) (and_parts (nat_le a b && nat_le c d) (nat_le e f)
    (and_parts (nat_le a b && nat_le c d && nat_le e f) (nat_le g h) is).0).0).1

-- the reserved numbers stay reserved
pub next_stays : (old : VersionView) (edit : VersionEdit) → first_broken old edit ≡ None → old.five.next ≤ (edited old edit).five.next
unfolding edited
next_stays old edit none =
    let new = five_after old.five edit in
    let kept = five_kept old.five new (not (old.five.format == 0) || has_all_five edit) (last_rules old edit none).2 in
    next_kept old.five.accepted new.accepted old.five.next new.next old.five.flushed new.flushed old.five.format new.format kept.0

-- ---- a version that edits fold to

folded_fits : (old new : VersionView) (edit : VersionEdit) (edits : List VersionEdit) → FoldsFrom old (edit ∷ edits) new
    → fit_each_other new.five ≡ true
folded_fits old new edit [] folds = subst (λ (v : VersionView). fit_each_other v.five ≡ true) folds.1 (fits_after old edit folds.0)
folded_fits old new edit (next ∷ edits) folds = folded_fits (edited old edit) new next edits folds.1

fits_from : (edits : List VersionEdit) (version : VersionView) → FoldsTo edits version → fit_each_other version.five ≡ true
fits_from [] version folds = absurd (folds.some refl)
fits_from (edit ∷ edits) version folds = folded_fits empty_version version edit edits folds.folds

format_is : (flushed accepted log next format : ℕ) → (nat_le flushed accepted && nat_lt log next && format == 1) ≡ true → format ≡ 1
format_is flushed accepted log next format is = grind (arith, nat_tests)

-- has format 1
pub folded_format : (version : VersionView) → IsFolded version → version.five.format ≡ 1
folded_format version folded =
    let five = version.five in
    format_is five.flushed five.accepted five.log five.next five.format (fits_from folded.0 version folded.1)

pub folded_further : (version : VersionView) (edit : VersionEdit) → IsFolded version → first_broken version edit ≡ None
    → IsFolded (edited version edit)
folded_further version edit folded unbroken = (folded.0 ++ edit ∷ [], folds_further folded.0 version edit folded.1 unbroken)

pub folded_first : (edit : VersionEdit) → first_broken empty_version edit ≡ None → IsFolded (edited empty_version edit)
folded_first edit unbroken = (edit ∷ [], folds_first edit unbroken)

pub folded_by : (payloads : List (List ℕ)) (version : VersionView) → SaysVersion payloads version → IsFolded version
folded_by payloads version says = (says.edits, says.folds)

-- ---- the first edit

-- has all five numbers
pub first_has_next : (edit : VersionEdit) → first_broken empty_version edit ≡ None → is_some edit.next ≡ true
first_has_next edit none =
    let kept = (last_rules empty_version edit none).2 in
    let all_five : has_all_five edit ≡ true = (and_parts _ _ kept).1 in
    (and_parts (is_some edit.accepted) (is_some edit.next)
    (and_parts (is_some edit.accepted && is_some edit.next) (is_some edit.log)
    (and_parts (is_some edit.accepted && is_some edit.next && is_some edit.log) (is_some edit.flushed)
    (and_parts (is_some edit.accepted && is_some edit.next && is_some edit.log && is_some edit.flushed) (is_some edit.format)
    all_five).0).0).0).1
