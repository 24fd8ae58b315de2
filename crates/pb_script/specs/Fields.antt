-- A field is what the first words say, and the words behind them.
use Rattle.std.specs.Prelude.{ℕ, ◌==◌, if◌then◌else◌, List, [], ◌∷◌, length, take, drop, Option, Some, None}
use Rattle.std.specs.Str.{bytes_eq}
use Rattle.pb_script.specs.Answers.{◌>>=◌}
use Rattle.pb_script.specs.Strings.{string_of, name_of, store_of, level_of}

abbrev pub Field : Type 0 → Type 0
Field A = A × List (List ℕ)

unfoldable pub word_at : List (List ℕ) → Option (Field (List ℕ))
word_at [] = None
word_at (word ∷ words) = Some (word, words)

unfoldable pub string_at : List (List ℕ) → Option (Field (List ℕ))
string_at words = do
  word ← word_at words
  string ← string_of word.0
  Some (string, word.1)

unfoldable pub name_at : List (List ℕ) → Option (Field (List ℕ))
name_at words = do
  word ← word_at words
  name ← name_of word.0
  Some (name, word.1)

unfoldable pub store_at : List (List ℕ) → Option (Field ℕ)
store_at words = do
  word ← word_at words
  store ← store_of word.0
  Some (store, word.1)

unfoldable pub level_at : List (List ℕ) → Option (Field ℕ)
level_at words = do
  word ← word_at words
  level ← level_of word.0
  Some (level, word.1)

-- two byte strings, as a key and its value or the ends of a span
unfoldable pub pair_at : List (List ℕ) → Option (Field (List ℕ × List ℕ))
pair_at words = do
  first ← string_at words
  second ← string_at first.1
  Some ((first.0, second.0), second.1)

-- this word, and the words behind it
unfoldable pub behind : List ℕ → List (List ℕ) → Option (List (List ℕ))
behind keyword words = do
  word ← word_at words
  if bytes_eq word.0 keyword then Some word.1 else None

-- no word is left
unfoldable pub at_end : List (List ℕ) → Option (Unit {0})
at_end [] = Some tt
at_end (word ∷ words) = None

-- a byte string behind a label, where the first word begins with the label
unfoldable pub labelled_at : List ℕ → List (List ℕ) → Option (Field (Option (List ℕ)))
labelled_at label [] = Some (None, [])
labelled_at label (word ∷ words) =
    if bytes_eq (take (length label) word) label then (do
      string ← string_of (drop (length label) word)
      Some (Some string, words))
    else Some (None, word ∷ words)

-- the words are names, all of them
unfoldable pub names_of : List (List ℕ) → Option (List (List ℕ))
names_of [] = Some []
names_of (word ∷ words) = do
  name ← name_of word
  names ← names_of words
  Some (name ∷ names)

-- one or more
unfoldable pub some_names_of : List (List ℕ) → Option (List (List ℕ))
some_names_of words = do
  names ← names_of words
  if length names == 0 then None else Some names
