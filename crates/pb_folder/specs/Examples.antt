-- Folders that the laws compute with.
use Rattle.std.specs.Prelude.{ℕ, List, [], ◌∷◌, codes}
use Rattle.pb_folder.specs.Listed.{Files}

-- the entry 1 2: the manifest 1 and the catalogue 2
abbrev pub first_current : List ℕ
first_current = 1 ∷ 0 ∷ 0 ∷ 0 ∷ 2 ∷ 1 ∷ 2 ∷ 0 ∷ []

-- accepted 0, next 64, log 3, flushed 0, format 1
abbrev pub first_manifest : List ℕ
first_manifest = 1 ∷ 0 ∷ 0 ∷ 0 ∷ 10 ∷ 1 ∷ 0 ∷ 2 ∷ 64 ∷ 3 ∷ 3 ∷ 4 ∷ 0 ∷ 5 ∷ 1 ∷ 0 ∷ []

-- the id 1
abbrev pub first_catalogue : List ℕ
first_catalogue = 1 ∷ 0 ∷ 0 ∷ 0 ∷ 2 ∷ 1 ∷ 1 ∷ 0 ∷ []

-- a new store, with this log
abbrev pub store_with_log : List ℕ → Files
store_with_log log =
    (codes "CURRENT", first_current) ∷ (codes "1.man", first_manifest) ∷ (codes "2.cat", first_catalogue) ∷ (codes "3.log", log) ∷ []

abbrev pub empty_log : List ℕ
empty_log = 0 ∷ []

-- one command, which sets a to 1
abbrev pub log_of_a_set : List ℕ
log_of_a_set = 1 ∷ 0 ∷ 0 ∷ 0 ∷ 6 ∷ 1 ∷ 1 ∷ 1 ∷ 97 ∷ 1 ∷ 49 ∷ 0 ∷ []

-- and then an edit: accepted 2, log 5, flushed 2, and on level 0 the table 4 of 8 bytes from a up to b
abbrev pub flushed_manifest : List ℕ
flushed_manifest =
    1 ∷ 0 ∷ 0 ∷ 0 ∷ 10 ∷ 1 ∷ 0 ∷ 2 ∷ 64 ∷ 3 ∷ 3 ∷ 4 ∷ 0 ∷ 5 ∷ 1
    ∷ 1 ∷ 0 ∷ 0 ∷ 0 ∷ 15 ∷ 1 ∷ 2 ∷ 3 ∷ 5 ∷ 4 ∷ 2 ∷ 7 ∷ 0 ∷ 4 ∷ 4 ∷ 8 ∷ 1 ∷ 97 ∷ 1 ∷ 98
    ∷ 0 ∷ []

-- the row a to 1
abbrev pub table_of_a : List ℕ
table_of_a = 1 ∷ 0 ∷ 1 ∷ 1 ∷ 97 ∷ 1 ∷ 1 ∷ 49 ∷ []

-- the store after a flush
abbrev pub flushed_files : Files
flushed_files =
    (codes "CURRENT", first_current) ∷ (codes "1.man", flushed_manifest) ∷ (codes "2.cat", first_catalogue) ∷ (codes "4.tbl", table_of_a)
    ∷ (codes "5.log", empty_log) ∷ []
