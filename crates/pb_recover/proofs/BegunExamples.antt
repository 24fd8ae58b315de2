-- What an empty folder may become.
use Rattle.std.proofs.Common.{◌≡◌, ◌<◌, ◌^◌, ℕ, List, [], ◌∷◌, length, Some, inl, inr, refl, sym, ap, ◌∙◌, subst, arith, length-append}
use Rattle.std.specs.Fmt.{digits}
use Rattle.std.specs.Prelude.{codes, nat_eq}
use Rattle.std.specs.Cmp.Lexicographic.{pointwise, same_text}
use Rattle.std.proofs.lemmas.Bool.{cases_Bool, cond-false}
use Rattle.pb_names.specs.NumberedFile.{IsNumberedFile}
use Rattle.pb_names.specs.Spelling.{current_name, ending, file_name}
use Rattle.pb_names.specs.declared.file_kind.FileKind.{FileKind}
use Rattle.pb_names.specs.declared.file_kind.FileKind.TheVariants.{Manifest, Catalogue, Log}
use Rattle.pb_names.proofs.NumberedFileLemmas.{files_are_numbered}
use Rattle.pb_names.proofs.SpellingLemmas.{length-ending}
use Rattle.pb_payloads.proofs.LoggedLaws as logged
use Rattle.pb_folder.specs.Examples.{store_with_log, empty_log, first_current, first_manifest, first_catalogue}
use Rattle.pb_folder.specs.Listed.{Files, folder_of}
use Rattle.pb_folder.specs.Said.{Says}
use Rattle.pb_folder.proofs.Examples.{empty_payloads, first_pointer, said_with, says_with}
use Rattle.pb_recover.specs.First.{first_said}
use Rattle.pb_recover.specs.Reopened.{IsBegun}

-- a file of another name
pub past : (file : List ℕ × List ℕ) (files : Files) (name : List ℕ) → (file.0 ≡ name → ⊥)
    → folder_of (file ∷ files) name ≡ folder_of files name
past file files name apart =
    elim (cases_Bool (pointwise nat_eq file.0 name)) [
      | inl same ↦ absurd (apart (same_text file.0 name (sym same)))
      | inr other ↦ cond-false (pointwise nat_eq file.0 name) (Some file.1) (folder_of files name) other
    ]

numbered : (kind : FileKind) (number : ℕ) → number < 2 ^ 64 → IsNumberedFile (file_name kind number)
numbered kind number fits = record { kind = kind; is = files_are_numbered kind number fits }

pub is_first : Says (folder_of (store_with_log empty_log)) 1 first_said
unfolding said_with first_pointer
is_first = says_with empty_log [] [] empty_payloads (logged.empty_log 0) refl

abbrev pub behind_catalogue : Files
behind_catalogue = (codes "3.log", empty_log) ∷ []

abbrev pub behind_manifest : Files
behind_manifest = (codes "2.cat", first_catalogue) ∷ behind_catalogue

abbrev pub behind_pointer : Files
behind_pointer = (codes "1.man", first_manifest) ∷ behind_manifest

pub a_new_store_is_begun : IsBegun 1 (folder_of []) (folder_of (store_with_log empty_log))
unfolding current_name file_name digits
a_new_store_is_begun =
    record {
      new = refl;
      others = λ name pointer none.
          past (codes "CURRENT", first_current) behind_pointer name (λ e. pointer (sym e))
          ∙ past (codes "1.man", first_manifest) behind_manifest name
          (λ e. none (subst IsNumberedFile e (numbered Manifest 1 (omega arith))))
          ∙ past (codes "2.cat", first_catalogue) behind_catalogue name
          (λ e. none (subst IsNumberedFile e (numbered Catalogue 2 (omega arith))))
          ∙ past (codes "3.log", empty_log) [] name (λ e. none (subst IsNumberedFile e (numbered Log 3 (omega arith))));
      made = inr is_first;
    }

-- another file is none of an opening's
x_unnumbered : IsNumberedFile (codes "x") → ⊥
x_unnumbered numbered =
    let file = numbered.is in
    omega (arith, ap length file.whole, length-append file.digits (ending numbered.kind), length-ending numbered.kind)

pub another_file_is_not_begun : IsBegun 1 (folder_of []) (folder_of ((codes "x", []) ∷ [])) → ⊥
unfolding current_name
another_file_is_not_begun begun =
    let made = begun.others (codes "x") (λ e. let same = ap length e in omega (arith, same)) x_unnumbered in
    absurd (cc)
