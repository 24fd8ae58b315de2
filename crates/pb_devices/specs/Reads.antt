-- What reads give of a file or an object.
use Rattle.std.specs.Prelude.{◌≡◌, ℕ, ◌-◌, ◌≤◌, ◌++◌, ◌↔◌, min, List, [], ◌∷◌, length, take, drop, Contains, Option, Some, None, IsSome, IsSomeAnd, IfSome, unwrap_or}
use Rattle.std.specs.declared.cmp.Ordering.TheVariants.{Less}
use Rattle.std.specs.Ordering.{nat_cmp}
use Rattle.std.specs.Cmp.Lexicographic.{slice_cmp}
use Rattle.pb_devices.specs.Contents.{Folder}

-- how long the file is, none where there is none
abbrev pub IsLength : Option ℕ → Option (List ℕ) → Type 0
IsLength found None = found ≡ None
IsLength found (Some bytes) = found ≡ Some (length bytes)

-- a place within the file or at its end
abbrev pub IsWithin : ℕ → Option (List ℕ) → Type 0
IsWithin at file = IsSomeAnd file (λ bytes. at ≤ length bytes)

-- how many bytes a read of n bytes from a place on gives
abbrev pub read_len : Option (List ℕ) → ℕ → ℕ → ℕ
read_len file at n = min n (length (unwrap_or file []) - at)

-- a piece after a read into it from a place on
abbrev pub read_into : Option (List ℕ) → ℕ → List ℕ → List ℕ
read_into file at piece = take (length piece) (drop at (unwrap_or file [])) ++ drop (length (unwrap_or file []) - at) piece

-- a read of n bytes of an object from a place on found so many, none where there is no object
abbrev pub IsFound : Option ℕ → Option (List ℕ) → ℕ → ℕ → Type 0
IsFound found None at n = found ≡ None
IsFound found (Some bytes) at n = found ≡ Some (min n (length bytes - at))

-- what is read fits the piece of n bytes that it is read into
abbrev pub Fits : ℕ → Option ℕ → Type 0
Fits n found = IfSome found (λ m. m ≤ n)

-- each name is below the next, byte by byte
abbrev pub IsAscending : List (List ℕ) → Type 0
IsAscending [] = Unit {0}
IsAscending (name ∷ []) = Unit {0}
IsAscending (name ∷ next ∷ names) = (slice_cmp nat_cmp name next ≡ Less) × IsAscending (next ∷ names)

-- the names of the files that are there, strictly ascending
pub record AreNames (names : List (List ℕ)) (files : Folder) : Type 0 where
  pub ascending : IsAscending names
  pub each : (name : List ℕ) → Contains names name ↔ IsSome (files name)
