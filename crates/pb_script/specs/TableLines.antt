-- The lines of a table's block, by their words.
use Rattle.std.specs.Prelude.{ℕ, Bool, false, if◌then◌else◌, List, [], ◌∷◌, Option, Some, None, codes}
use Rattle.std.specs.Str.{bytes_eq}
use Rattle.pb_script.specs.Answers.{◌>>=◌, ◌>>◌}
use Rattle.pb_script.specs.Words.{words_of}
use Rattle.pb_script.specs.Fields.{word_at, string_at, pair_at, at_end}
use Rattle.pb_script.specs.declared.table_line.TableLine.{TableLine}
use Rattle.pb_script.specs.declared.table_line.TableLine.TheVariants.{Set, Del, DelRange}

unfoldable pub table_set_of : List (List ℕ) → Option TableLine
table_set_of words = do
  pair ← pair_at words
  at_end pair.1
  Some (Set pair.0.0 pair.0.1)

unfoldable pub table_del_of : List (List ℕ) → Option TableLine
table_del_of words = do
  key ← string_at words
  at_end key.1
  Some (Del key.0)

unfoldable pub table_del_range_of : List (List ℕ) → Option TableLine
table_del_range_of words = do
  ends ← pair_at words
  at_end ends.1
  Some (DelRange ends.0.0 ends.0.1)

unfoldable pub table_line_named : List ℕ → List (List ℕ) → Option TableLine
table_line_named name words =
    if bytes_eq name (codes "set") then table_set_of words
    else if bytes_eq name (codes "del") then table_del_of words
    else if bytes_eq name (codes "delrange") then table_del_range_of words
    else None

-- what a line of a block says that is not skipped and does not end the block
unfoldable pub table_line_of : List ℕ → Option TableLine
table_line_of text = do
  name ← word_at (words_of text)
  table_line_named name.0 name.1

-- the one word `end`
abbrev pub are_end : List (List ℕ) → Bool
are_end (word ∷ []) = bytes_eq word (codes "end")
are_end words = false

unfoldable pub is_end : List ℕ → Bool
is_end text = are_end (words_of text)
