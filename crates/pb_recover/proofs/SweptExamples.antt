-- Which folders are that of a store after a flush, swept.
use Rattle.std.proofs.Common.{◌≡◌, ℕ, Bool, true, false, List, [], ◌∷◌, get_or, Option, Some, None, inl, inr, refl, sym, ap, ◌∙◌, subst, arith}
use Rattle.std.specs.Fmt.{digits}
use Rattle.std.specs.FinMap.{empty, insert}
use Rattle.std.specs.Prelude.{◌⊎◌, ◌||◌, ◌==◌, codes, nat_eq}
use Rattle.std.specs.Cmp.Lexicographic.{pointwise, same_text}
use Rattle.std.proofs.lemmas.Bool.{cases_Bool, cond-false, eqb-true}
use Rattle.pb_bytes.specs.BigEndian.{number_of}
use Rattle.pb_devices.specs.Contents.{Folder}
use Rattle.pb_gate_log.specs.NewFolder.{IsNew}
use Rattle.pb_gate_log.specs.Payloads.{payloads, payloads_of}
use Rattle.pb_keys.specs.Map.{Map}
use Rattle.pb_names.specs.Spelling.{current_name, file_name}
use Rattle.pb_names.specs.declared.file_kind.FileKind.TheVariants.{Log, Table}
use Rattle.pb_names.proofs.NumberedFileLemmas.{files_are_numbered}
use Rattle.pb_folder.specs.Examples.{table_of_a, flushed_files, flushed_manifest, first_current, first_catalogue}
use Rattle.pb_folder.specs.Listed.{Files, folder_of}
use Rattle.pb_folder.specs.Said.{Said, Says}
use Rattle.pb_folder.specs.Shown.{is_named}
use Rattle.pb_folder.specs.StandsFor.{StandsFor}
use Rattle.pb_folder.proofs.AlikeLaws.{words_carried}
use Rattle.pb_folder.proofs.Examples.{a_flush, first_pointer, flushed_said, says_flushed_all}
use Rattle.pb_folder.proofs.OneMeaning.{new_says_nothing, one_meaning}
use Rattle.pb_folder.proofs.SaidLaws.{one_said}
use Rattle.pb_recover.specs.Reopened.{IsBegun, IsLeftover, IsNamedBy, IsReopened, IsSwept, IsSweptAt}
use Rattle.pb_recover.specs.Reopened.IsNamedBy.{IsManifest, IsCatalogue, IsLog, IsTable}
use Rattle.pb_recover.specs.Reopened.IsSweptAt.{Same, Relisted, Gone}
use Rattle.pb_recover.specs.Standing.{ShownBefore, StillShows, StoodBefore}
use Rattle.pb_recover.proofs.Names.{current_unnumbered, table_apart}

abbrev flushed : Folder
flushed = folder_of flushed_files

-- the file of this name has these bytes, whatever it had
abbrev with_file : List ℕ → List ℕ → Folder
with_file name bytes = folder_of ((name, bytes) ∷ flushed_files)

-- a folder that differs at one name alone
swept_but : (name : List ℕ) (before now : Folder) → IsSweptAt 1 before now name
    → ((other : List ℕ) → pointwise nat_eq name other ≡ false → now other ≡ before other) → IsSwept 1 before now
swept_but name before now at others other =
    elim (cases_Bool (pointwise nat_eq name other)) [
      | inl same ↦ subst (IsSweptAt 1 before now) (same_text name other (sym same)) at
      | inr apart ↦ Same (others other apart)
    ]

-- at any other name
behind : (name bytes other : List ℕ) → pointwise nat_eq name other ≡ false → with_file name bytes other ≡ flushed other
behind name bytes other apart = cond-false (pointwise nat_eq name other) (Some bytes) (flushed other) apart

-- ---- a gate

torn_payloads : payloads (7 ∷ []) ≡ []
unfolding payloads payloads_of
torn_payloads = refl

shut_payloads : payloads (0 ∷ []) ≡ []
unfolding payloads payloads_of
shut_payloads = refl

-- the gate of the log was torn, and is shut
pub a_shut_gate_is_swept : IsSwept 1 (with_file (codes "5.log") (7 ∷ [])) (with_file (codes "5.log") (0 ∷ []))
unfolding file_name digits
a_shut_gate_is_swept =
    swept_but (codes "5.log") (with_file (codes "5.log") (7 ∷ [])) (with_file (codes "5.log") (0 ∷ []))
    (Relisted (inr (Log, (λ e. cc), files_are_numbered Log 5 (omega arith)))
    (record { list = []; first = torn_payloads; second = shut_payloads }))
    (λ other apart. behind (codes "5.log") (0 ∷ []) other apart ∙ sym (behind (codes "5.log") (7 ∷ []) other apart))

-- ---- what is left over, and what is named

or_none : (b : Bool) → (b || false) ≡ true → b ≡ true
or_none true is = is
or_none false is = is

-- the one number that the version stores
the_table : (number : ℕ) → is_named flushed_said number ≡ true → 4 ≡ number
unfolding flushed_said
the_table number is = eqb-true 4 number (or_none (4 == number) is)

first_byte : (name other : List ℕ) → name ≡ other → get_or name 0 0 ≡ get_or other 0 0
first_byte name other e = ap (λ text. get_or text 0 0) e

nine_unnamed : IsNamedBy flushed_said (codes "9.tbl") → ⊥
unfolding flushed_said first_pointer file_name digits
nine_unnamed (IsManifest e) = let same = first_byte _ _ e in omega (arith, same)
nine_unnamed (IsCatalogue e) = let same = first_byte _ _ e in omega (arith, same)
nine_unnamed (IsLog e) = let same = first_byte _ _ e in omega (arith, same)
nine_unnamed (IsTable number is e) =
    let same = first_byte _ _ (e ∙ ap (file_name Table) (sym (the_table number is))) in
    omega (arith, same)

-- a log with the number of a table is a leftover
pub four_log_unnamed : IsNamedBy flushed_said (codes "4.log") → ⊥
unfolding flushed_said first_pointer file_name digits
four_log_unnamed (IsManifest e) = let same = first_byte _ _ e in omega (arith, same)
four_log_unnamed (IsCatalogue e) = let same = first_byte _ _ e in omega (arith, same)
four_log_unnamed (IsLog e) = let same = first_byte _ _ e in omega (arith, same)
four_log_unnamed (IsTable number is e) =
    let same : 108 ≡ 116 = ap (λ text. get_or text 2 0) (e ∙ ap (file_name Table) (sym (the_table number is))) in
    omega (arith, same)

pub four_named : IsNamedBy flushed_said (codes "4.tbl")
unfolding flushed_said file_name digits
four_named = IsTable 4 refl refl

-- so the table that the version stores is none
four_kept : IsLeftover 1 flushed (codes "4.tbl") → ⊥
four_kept left =
    let same = one_said flushed 1 1 flushed_said left.said says_flushed_all left.says in
    left.unnamed (subst (λ (said : Said). IsNamedBy said (codes "4.tbl")) same four_named)

-- a table that no version stores
abbrev with_leftover : Folder
with_leftover = with_file (codes "9.tbl") table_of_a

still_says : Says with_leftover 1 flushed_said
unfolding flushed_said first_pointer current_name file_name digits
still_says =
    words_carried flushed with_leftover 1 flushed_said (λ list has. has) (λ list has. has) (λ list has. has) (λ list has. has)
    says_flushed_all

nine_left : IsLeftover 1 with_leftover (codes "9.tbl")
unfolding file_name digits
nine_left =
    record {
      numbered = record { kind = Table; is = files_are_numbered Table 9 (omega arith) };
      said = flushed_said;
      says = still_says;
      unnamed = nine_unnamed;
    }

pub a_leftover_is_swept : IsSwept 1 with_leftover flushed
a_leftover_is_swept =
    swept_but (codes "9.tbl") with_leftover flushed (Gone nine_left refl)
    (λ other apart. sym (behind (codes "9.tbl") table_of_a other apart))

-- ---- what no sweep does

-- a byte of a file
byte : ℕ → Option (List ℕ) → ℕ
byte at None = 0
byte at (Some bytes) = get_or bytes at 0

abbrev changed_table : List ℕ
changed_table = 1 ∷ 0 ∷ 1 ∷ 1 ∷ 97 ∷ 1 ∷ 1 ∷ 50 ∷ []

changed_at : IsSweptAt 1 flushed (with_file (codes "4.tbl") changed_table) (codes "4.tbl") → ⊥
unfolding file_name digits byte
changed_at (Same e) = let same : 50 ≡ 49 = ap (byte 7) e in omega (arith, same)
changed_at (Relisted log both) = table_apart 4 log
changed_at (Gone left none) = cc

pub a_changed_table_is_not_swept : IsSwept 1 flushed (with_file (codes "4.tbl") changed_table) → ⊥
a_changed_table_is_not_swept swept = changed_at (swept (codes "4.tbl"))

abbrev without_log : Files
without_log =
    (codes "CURRENT", first_current) ∷ (codes "1.man", flushed_manifest) ∷ (codes "2.cat", first_catalogue)
    ∷ (codes "4.tbl", table_of_a) ∷ []

gone_at : IsSweptAt 1 flushed (folder_of without_log) (codes "5.log") → ⊥
unfolding flushed_said file_name digits
gone_at (Same e) = cc
gone_at (Relisted log both) = absurd both.second
gone_at (Gone left none) =
    let same = one_said flushed 1 1 flushed_said left.said says_flushed_all left.says in
    left.unnamed (subst (λ (said : Said). IsNamedBy said (codes "5.log")) same (IsLog refl))

pub a_log_that_is_gone_is_not_swept : IsSwept 1 flushed (folder_of without_log) → ⊥
a_log_that_is_gone_is_not_swept swept = gone_at (swept (codes "5.log"))

abbrev emptied : Folder
emptied = with_file (codes "CURRENT") (0 ∷ [])

emptied_at : IsSweptAt 1 flushed emptied current_name → ⊥
unfolding current_name payloads payloads_of number_of byte
emptied_at (Same e) = let same : 0 ≡ 1 = ap (byte 0) e in omega (arith, same)
emptied_at (Relisted log both) =
    let lists : ◌≡◌ {A = List (List ℕ)} ((1 ∷ 2 ∷ []) ∷ []) [] = both.first ∙ sym both.second in
    absurd (cc)
emptied_at (Gone left none) = current_unnumbered left.numbered

pub an_emptied_pointer_is_not_swept : IsSwept 1 flushed emptied → ⊥
an_emptied_pointer_is_not_swept swept = emptied_at (swept current_name)

-- nor does an emptied pointer leave the words and the meaning
emptied_is_new : IsNew emptied
unfolding current_name payloads payloads_of
emptied_is_new = refl

flushed_is_old : IsNew flushed → ⊥
unfolding current_name payloads payloads_of number_of
flushed_is_old new = cc

still_shown : (before : Folder) → before ≡ flushed → StillShows 1 before emptied (Some flushed_said) → ⊥
still_shown before is (inl says) = new_says_nothing emptied 1 flushed_said emptied_is_new says
still_shown before is (inr new) = flushed_is_old (subst IsNew is new.0)

pub an_emptied_pointer_changes_the_words : ShownBefore 1 (λ folder. folder ≡ flushed) emptied → ⊥
an_emptied_pointer_changes_the_words before =
    still_shown before.folder before.image
    (before.same (Some flushed_said) (subst (λ (folder : Folder). Says folder 1 flushed_said) (sym before.image) says_flushed_all))

pub an_emptied_pointer_changes_the_meaning : StoodBefore 1 (λ folder. folder ≡ flushed) emptied → ⊥
an_emptied_pointer_changes_the_meaning before =
    let pairs : Map = insert empty (97 ∷ []) (49 ∷ []) in
    let stands : StandsFor emptied empty 1 2 pairs =
    (before.same empty 2 pairs).0 (subst (λ (folder : Folder). StandsFor folder empty 1 2 pairs) (sym before.image) (a_flush empty)) in
    let none : (2 ≡ 0) × (pairs ≡ empty) = one_meaning emptied empty 1 1 2 0 pairs empty stands (inl (emptied_is_new, refl, refl)) in
    omega (arith, none.0)

-- so no opening leaves it
left_as : (before : Folder) → before ≡ flushed → IsSwept 1 before emptied ⊎ IsBegun 1 before emptied → ⊥
left_as before is (inl swept) = an_emptied_pointer_is_not_swept (subst (λ (folder : Folder). IsSwept 1 folder emptied) is swept)
left_as before is (inr begun) = flushed_is_old (subst IsNew is begun.new)

pub an_emptied_pointer_is_not_reopened : IsReopened 1 (λ folder. folder ≡ flushed) emptied → ⊥
an_emptied_pointer_is_not_reopened reopened = left_as reopened.folder reopened.image reopened.left

-- and what is left as it is says and means the same
pub the_same_is_reopened : IsReopened 1 (λ folder. folder ≡ flushed) flushed
the_same_is_reopened = record { folder = flushed; image = refl; left = inl (λ name. Same refl) }

pub the_same_shows_the_words : ShownBefore 1 (λ folder. folder ≡ flushed) flushed
the_same_shows_the_words = record { folder = flushed; image = refl; same = λ words shows. inl shows }

pub the_same_means_the_same : StoodBefore 1 (λ folder. folder ≡ flushed) flushed
the_same_means_the_same = record { folder = flushed; image = refl; same = λ objects n m. (λ stands. stands, λ stands. stands) }
