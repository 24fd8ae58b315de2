-- The names of the numbered files of a folder: digits, and one of four endings.
use Rattle.std.specs.Prelude.{◌≡◌, ℕ, ◌≤◌, ◌<◌, ◌^◌, List, ◌++◌, length, slice_index, All}
use Rattle.std.specs.Char.{IsAsciiDigit}
use Rattle.pb_names.specs.Spelling.{ending, file_name}
use Rattle.pb_names.specs.declared.file_kind.FileKind.{FileKind}

-- decimal digits, without a leading zero but for `0` alone
pub record IsShortestNumeral (digits : List ℕ) : Type 0 where
  pub not_empty : 1 ≤ length digits
  pub all : All IsAsciiDigit digits
  pub shortest : slice_index digits 0 ≡ 48 → length digits ≡ 1

-- a name of this kind: a number in its shortest spelling, however great, and the kind's ending
pub record IsFileOf (kind : FileKind) (name : List ℕ) : Type 0 where
  pub digits : List ℕ
  pub numeral : IsShortestNumeral digits
  pub whole : name ≡ digits ++ ending kind

-- a name of one of the four kinds
pub record IsNumberedFile (name : List ℕ) : Type 0 where
  pub kind : FileKind
  pub is : IsFileOf kind name

-- what `file` spells is such a name
abbrev pub FilesAreNumbered : Type 0
FilesAreNumbered = (kind : FileKind) (number : ℕ) → number < 2 ^ 64 → IsFileOf kind (file_name kind number)

-- and no name is of two kinds
abbrev pub KindsAreApart : Type 0
KindsAreApart = (one other : FileKind) (name : List ℕ) → IsFileOf one name → IsFileOf other name → one ≡ other
