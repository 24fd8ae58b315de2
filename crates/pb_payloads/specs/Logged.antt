-- What a command log keeps of a changing command, and how it is spelled.
use Rattle.std.specs.Prelude.{ℕ, ◌<◌, ◌≤◌, ◌^◌, List, [], ◌∷◌, ◌++◌, length, All, Option, Some, None, IfSome}
use Rattle.std.specs.List.{AllAdjacentBelow}
use Rattle.pb_bytes.specs.Varint.{varint, field}
use Rattle.pb_keys.specs.Key.{IsKey}
use Rattle.pb_keys.specs.Span.{KeySpan, IsSpan}
use Rattle.pb_keys.specs.Value.{IsValue}

-- a local table whose ingest waits in the log
pub record Waiting : Type 0 where
  pub number : ℕ
  pub size : ℕ

-- an ingest removes its span first, where it has one
pub data Logged : Type 0 where
  Set : (key : List ℕ) (value : List ℕ) → Logged
  Del : (key : List ℕ) → Logged
  DelRange : (span : KeySpan) → Logged
  Ingest : (span : Option KeySpan) (tables : List Waiting) → Logged

-- the byte that tells the commands apart
abbrev pub kind_of : Logged → ℕ
kind_of (Set key value) = 1
kind_of (Del key) = 2
kind_of (DelRange span) = 3
kind_of (Ingest span tables) = 4

-- the greatest kind that a log has; the others are refused
abbrev pub last_kind : ℕ
last_kind = 3

abbrev pub ends_spelling : KeySpan → List ℕ
ends_spelling span = field span.lo ++ field span.hi

abbrev pub removed_spelling : Option KeySpan → List ℕ
removed_spelling None = 0 ∷ []
removed_spelling (Some span) = 1 ∷ ends_spelling span

abbrev pub waiting_spelling : List Waiting → List ℕ
waiting_spelling [] = []
waiting_spelling (table ∷ tables) = varint table.number ++ varint table.size ++ waiting_spelling tables

-- what stands behind the kind
abbrev pub content_of : Logged → List ℕ
content_of (Set key value) = field key ++ field value
content_of (Del key) = field key
content_of (DelRange span) = ends_spelling span
content_of (Ingest span tables) = removed_spelling span ++ varint (length tables) ++ waiting_spelling tables

abbrev pub command_spelling : Logged → List ℕ
command_spelling logged = kind_of logged ∷ content_of logged

-- a payload: the count of commands up to this one, the kind and the content
abbrev pub logged_spelling : ℕ → Logged → List ℕ
logged_spelling count logged = varint count ++ command_spelling logged

abbrev pub AreInOrder : List Waiting → Type 0
AreInOrder tables = AllAdjacentBelow (λ one next. one.number < next.number) tables (length tables)

pub record AreWaiting (tables : List Waiting) : Type 0 where
  pub some : 1 ≤ length tables
  pub few : length tables < 2 ^ 62
  pub numbers : All (λ table. table.number < 2 ^ 62) tables
  pub sizes : All (λ table. table.size < 2 ^ 62) tables
  pub rise : AreInOrder tables

-- keys are keys, values have at most 65,536 bytes, and two ends are a span's
abbrev pub IsContent : Logged → Type 0
IsContent (Set key value) = IsKey key × IsValue value
IsContent (Del key) = IsKey key
IsContent (DelRange span) = IsSpan span
IsContent (Ingest span tables) = IfSome span IsSpan × AreWaiting tables

pub record IsCommand (logged : Logged) : Type 0 where
  pub kind : kind_of logged ≤ last_kind
  pub content : IsContent logged

-- the grammar of a payload
pub record IsLogged (count : ℕ) (logged : Logged) : Type 0 where
  pub low : count < 2 ^ 62
  pub command : IsCommand logged
