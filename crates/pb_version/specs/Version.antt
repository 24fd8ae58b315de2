-- Versions: the tables of each level, the backings, and five numbers.
use Rattle.std.specs.Prelude.{ℕ, List, [], ◌∷◌, ◌++◌, Bool, ◌==◌, if◌then◌else◌, Option, Some, None, replicate, slice_index_or}
use Rattle.pb_edit.specs.Edit.{CreatedItem}
use Rattle.pb_keys.specs.View.{KeyView}

-- what a view shows of a backing, whose kept size this is; a physical table's backing is its own bytes, of its own number
pub record TableView : Type 0 where
  pub number : ℕ
  pub rank : ℕ
  pub backing : ℕ
  pub size : ℕ
  pub view : KeyView
  pub is_virtual : Bool

-- numbers below next are reserved; format 0 stands before the first edit
pub record FiveNumbers : Type 0 where
  pub accepted : ℕ
  pub next : ℕ
  pub log : ℕ
  pub flushed : ℕ
  pub format : ℕ

-- level 0 comes first; backings, with their sizes, ascend by number
pub record VersionView : Type 0 where
  pub levels : List (List TableView)
  pub backings : List CreatedItem
  pub five : FiveNumbers

-- of these
abbrev pub version_of : List (List TableView) → List CreatedItem → FiveNumbers → VersionView
version_of levels backings five = record { levels = levels; backings = backings; five = five }

-- before the first edit
abbrev pub empty_version : VersionView
empty_version = record {
  levels = replicate 7 [];
  backings = [];
  five = record { accepted = 0; next = 0; log = 0; flushed = 0; format = 0 };
}

-- none where there is no such level
abbrev pub tables_of_level : VersionView → ℕ → List TableView
tables_of_level v level = slice_index_or v.levels level []

abbrev pub flattened : {X : Type 0} → List (List X) → List X
flattened [] = []
flattened (xs ∷ []) = xs
flattened (xs ∷ ys ∷ others) = xs ++ flattened (ys ∷ others)

-- level by level
abbrev pub all_tables : VersionView → List TableView
all_tables v = flattened v.levels

-- the size of the backing of this number, if there is one
abbrev pub size_of : List CreatedItem → ℕ → Option ℕ
size_of [] number = None
size_of (b ∷ bs) number = if b.number == number then Some b.size else size_of bs number
