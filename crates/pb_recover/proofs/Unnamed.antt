-- Which numbered files words leave unnamed.
use Rattle.std.proofs.Common.{◌≡◌, ◌<◌, ◌^◌, ℕ, List, Bool, true, false, Option, Some, None, refl, sym, subst, ◌∙◌, arith}
use Rattle.std.specs.Prelude.{◌==◌, ◌↔◌, not}
use Rattle.std.proofs.lemmas.Bool.Decides.{nat_tests}
use Rattle.pb_folder.specs.Said.{Said}
use Rattle.pb_folder.specs.Shown.{is_named}
use Rattle.pb_names.specs.NumberedFile.{IsFileOf}
use Rattle.pb_names.specs.Spelling.{file_name}
use Rattle.pb_names.specs.declared.file_kind.FileKind.{FileKind}
use Rattle.pb_names.specs.declared.file_kind.FileKind.TheVariants.{Manifest, Catalogue, Log, Table}
use Rattle.pb_names.proofs.Makers.{file_name-injective}
use Rattle.pb_names.proofs.NumberedFileLemmas.{files_are_numbered, kinds_are_apart}
use Rattle.pb_version.specs.State.{IsVersion}
use Rattle.pb_version.specs.Version.{VersionView}
use Rattle.pb_recover.specs.Calls.{IsUnnamed, words_of}
use Rattle.pb_recover.specs.Reopened.{IsNamedBy}
use Rattle.pb_recover.specs.Reopened.IsNamedBy.{IsManifest, IsCatalogue, IsLog, IsTable}
use Rattle.pb_recover.proofs.Reserved.{stored_below}

-- the words name the file of this kind and number
abbrev pub NamesFile : Said → FileKind → ℕ → Type 0
NamesFile said Manifest n = n ≡ said.pointer.manifest
NamesFile said Catalogue n = n ≡ said.pointer.catalogue
NamesFile said Log n = n ≡ said.version.five.log
NamesFile said Table n = is_named said n ≡ true

-- the numbers that words name fit in 64 bits
pub record AreLow (said : Said) : Type 0 where
  pub manifest : said.pointer.manifest < 2 ^ 64
  pub catalogue : said.pointer.catalogue < 2 ^ 64
  pub log : said.version.five.log < 2 ^ 64
  pub tables : (n : ℕ) → is_named said n ≡ true → n < 2 ^ 64

module _ (said : Said) where
  pub named_by : (kind : FileKind) (n : ℕ) (name : List ℕ) → name ≡ file_name kind n → NamesFile said kind n → IsNamedBy said name
  named_by Manifest n name is e = IsManifest (subst (λ (k : ℕ). name ≡ file_name Manifest k) e is)
  named_by Catalogue n name is e = IsCatalogue (subst (λ (k : ℕ). name ≡ file_name Catalogue k) e is)
  named_by Log n name is e = IsLog (subst (λ (k : ℕ). name ≡ file_name Log k) e is)
  named_by Table n name is e = IsTable n e is

  module _ (low : AreLow said) where
    names_kind : (kind other : FileKind) (n m : ℕ) (name : List ℕ) → n < 2 ^ 64 → m < 2 ^ 64 → name ≡ file_name kind n → name ≡ file_name other m
        → NamesFile said other m → NamesFile said kind n
    names_kind kind other n m name fits low is e names =
        let same = file_name-injective kind other n m fits low (sym is ∙ e) in
        subst (λ (k : FileKind). NamesFile said k n) (sym same.0) (subst (λ (k : ℕ). NamesFile said other k) (sym same.1) names)

    pub names_file : (kind : FileKind) (n : ℕ) (name : List ℕ) → n < 2 ^ 64 → name ≡ file_name kind n → IsNamedBy said name
        → NamesFile said kind n
    names_file kind n name fits is (IsManifest e) = names_kind kind Manifest n said.pointer.manifest name fits low.manifest is e refl
    names_file kind n name fits is (IsCatalogue e) = names_kind kind Catalogue n said.pointer.catalogue name fits low.catalogue is e refl
    names_file kind n name fits is (IsLog e) = names_kind kind Log n said.version.five.log name fits low.log is e refl
    names_file kind n name fits is (IsTable m names e) = names_kind kind Table n m name fits (low.tables m names) is e names

    -- a name whose number doesn't fit is nobody's
    pub names_none : (name : List ℕ) → ((kind : FileKind) (n : ℕ) → n < 2 ^ 64 → name ≡ file_name kind n → ⊥) → IsNamedBy said name → ⊥
    names_none name none (IsManifest e) = none Manifest said.pointer.manifest low.manifest e
    names_none name none (IsCatalogue e) = none Catalogue said.pointer.catalogue low.catalogue e
    names_none name none (IsLog e) = none Log said.version.five.log low.log e
    names_none name none (IsTable m names e) = none Table m (low.tables m names) e

pub no_number : (kind : FileKind) (number : Option ℕ) (name : List ℕ) → IsFileOf kind name
    → ((n : ℕ) → (number ≡ Some n) ↔ ((n < 2 ^ 64) × (name ≡ file_name kind n))) → number ≡ None
    → (other : FileKind) (n : ℕ) → n < 2 ^ 64 → name ≡ file_name other n → ⊥
no_number kind number name of tells none other n fits e =
    let same : kind ≡ other = kinds_are_apart kind other name of (subst (IsFileOf other) (sym e) (files_are_numbered other n fits)) in
    let found : number ≡ Some n = (tells n).1 (fits, subst (λ (k : FileKind). name ≡ file_name k n) (sym same) e) in
    cc

-- ---- tests

pub is_other : (m n : ℕ) → not (m == n) ≡ true → m ≡ n → ⊥
is_other m n other same = grind (arith, nat_tests)

pub passes : (b : Bool) → not b ≡ false → b ≡ true
passes true is = refl
passes false is = absurd (cc)

pub fails : (b : Bool) → not b ≡ true → b ≡ true → ⊥
fails true failed is = cc
fails false failed is = cc

-- ---- the words of a store that was read

module _ (manifest catalogue : ℕ) (version : VersionView) (form : IsVersion version) (manifest_fits : manifest < 2 ^ 64)
    (catalogue_fits : catalogue < 2 ^ 64) where
  low : AreLow (words_of manifest catalogue version)
  low =
      let numbers = form.numbers in
      record {
        manifest = manifest_fits;
        catalogue = catalogue_fits;
        log = omega (arith, numbers.log);
        tables = λ n is. omega (arith, stored_below version form n is, numbers.next);
      }

  pub unnamed : (kind : FileKind) (n : ℕ) (name : List ℕ) → (n < 2 ^ 64) × (name ≡ file_name kind n)
      → (NamesFile (words_of manifest catalogue version) kind n → ⊥) → IsUnnamed manifest catalogue version name
  unnamed kind n name is other = record {
    numbered = record { kind = kind; is = subst (IsFileOf kind) (sym is.1) (files_are_numbered kind n is.0) };
    unnamed = λ named. other (names_file (words_of manifest catalogue version) low kind n name is.0 is.1 named);
  }

  -- where no number of 64 bits is told
  pub unnumbered : (kind : FileKind) (number : Option ℕ) (name : List ℕ) → IsFileOf kind name
      → ((n : ℕ) → (number ≡ Some n) ↔ ((n < 2 ^ 64) × (name ≡ file_name kind n))) → number ≡ None
      → IsUnnamed manifest catalogue version name
  unnumbered kind number name of tells none = record {
    numbered = record { kind = kind; is = of };
    unnamed = names_none (words_of manifest catalogue version) low name (no_number kind number name of tells none);
  }
