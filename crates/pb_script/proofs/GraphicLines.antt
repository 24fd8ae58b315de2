-- Lines that say something have no word with a byte off 0x21 to 0x7E.
use Rattle.std.proofs.Common.{ℕ, List, [], ◌∷◌, Option, Some, None, refl}
use Rattle.std.specs.Prelude.{IfSome, codes}
use Rattle.pb_script.specs.Answers.{◌>>=◌}
use Rattle.pb_script.specs.Words.{words_of}
use Rattle.pb_script.specs.Strings.{store_of}
use Rattle.pb_script.specs.Fields.{word_at, string_at, name_at, store_at, level_at, pair_at, behind, labelled_at, some_names_of}
use Rattle.pb_script.specs.Commands.{set_of, del_of, del_range_of, get_of, scan_of, flush_of, compact_of, release_of, ingest_of, excise_of, ingest_excise_of, external_of, lend_of, receive_of, pin_of, sharing_named, tables_named, command_named, command_of, is_started}
use Rattle.pb_script.specs.Lines.{store_alone, name_alone, open_of, close_of, stop_of, levels_of, lane_of, turn_of, start_of, whole_named, table_of, export_of, drop_of, get_at_of, unpin_of, objects_of, calls_of, family_line, line_named, line_of}
use Rattle.pb_script.specs.TableLines.{table_set_of, table_del_of, table_del_range_of, table_line_named, table_line_of}
use Rattle.pb_script.proofs.Formed.{bind_if, cond_if}
use Rattle.pb_script.proofs.GraphicWords.{IsGraphic, AreGraphic, store_graphic, string_field, name_field, store_field, level_field, pair_field, keyword_field, labelled_field, some_names_graphic, end_if, keyword_first}

-- what all words behind a field say
imply_then : {A B : Type 0} (P Q : Type 0) (o : Option A) (f : A → B) → IfSome o (λ x. P) → (P → Q)
    → IfSome (o >>= λ (x : A). Some (f x)) (λ x. Q)
imply_then P Q None f is next = tt
imply_then P Q (Some x) f is next = next is

set_words : (words : List (List ℕ)) → IfSome (set_of words) (λ x. AreGraphic words)
unfolding set_of
set_words words =
    bind_if (λ x. AreGraphic x.1 → AreGraphic words) _ (pair_at words) _ (pair_field words) (λ a p.
    end_if (AreGraphic words) a.1 _ (λ more. p more))

del_words : (words : List (List ℕ)) → IfSome (del_of words) (λ x. AreGraphic words)
unfolding del_of
del_words words =
    bind_if (λ x. AreGraphic x.1 → AreGraphic words) _ (string_at words) _ (string_field words) (λ a p.
    end_if (AreGraphic words) a.1 _ (λ more. p more))

del_range_words : (words : List (List ℕ)) → IfSome (del_range_of words) (λ x. AreGraphic words)
unfolding del_range_of
del_range_words words =
    bind_if (λ x. AreGraphic x.1 → AreGraphic words) _ (pair_at words) _ (pair_field words) (λ a p.
    end_if (AreGraphic words) a.1 _ (λ more. p more))

get_words : (words : List (List ℕ)) → IfSome (get_of words) (λ x. AreGraphic words)
unfolding get_of
get_words words =
    bind_if (λ x. AreGraphic x.1 → AreGraphic words) _ (string_at words) _ (string_field words) (λ a p.
    end_if (AreGraphic words) a.1 _ (λ more. p more))

scan_words : (words : List (List ℕ)) → IfSome (scan_of words) (λ x. AreGraphic words)
unfolding scan_of
scan_words words =
    bind_if (λ x. AreGraphic x.1 → AreGraphic words) _ (pair_at words) _ (pair_field words) (λ a p.
    end_if (AreGraphic words) a.1 _ (λ more. p more))

flush_words : (words : List (List ℕ)) → IfSome (flush_of words) (λ x. AreGraphic words)
unfolding flush_of
flush_words words =
    end_if (AreGraphic words) words _ (λ more. more)

compact_words : (words : List (List ℕ)) → IfSome (compact_of words) (λ x. AreGraphic words)
unfolding compact_of
compact_words words =
    bind_if (λ x. AreGraphic x.1 → AreGraphic words) _ (level_at words) _ (level_field words) (λ a p.
    bind_if (λ x. AreGraphic x.1 → AreGraphic a.1) _ (pair_at a.1) _ (pair_field a.1) (λ b q.
    end_if (AreGraphic words) b.1 _ (λ more. p (q more))))

release_words : (words : List (List ℕ)) → IfSome (release_of words) (λ x. AreGraphic words)
unfolding release_of
release_words words =
    end_if (AreGraphic words) words _ (λ more. more)

excise_words : (words : List (List ℕ)) → IfSome (excise_of words) (λ x. AreGraphic words)
unfolding excise_of
excise_words words =
    bind_if (λ x. AreGraphic x.1 → AreGraphic words) _ (pair_at words) _ (pair_field words) (λ a p.
    end_if (AreGraphic words) a.1 _ (λ more. p more))

receive_words : (words : List (List ℕ)) → IfSome (receive_of words) (λ x. AreGraphic words)
unfolding receive_of
receive_words words =
    bind_if (λ x. AreGraphic x.1 → AreGraphic words) _ (name_at words) _ (name_field words) (λ a p.
    end_if (AreGraphic words) a.1 _ (λ more. p more))

lend_words : (words : List (List ℕ)) → IfSome (lend_of words) (λ x. AreGraphic words)
unfolding lend_of
lend_words words =
    bind_if (λ x. AreGraphic x.1 → AreGraphic words) _ (pair_at words) _ (pair_field words) (λ a p.
    bind_if (λ x. AreGraphic x → AreGraphic a.1) _ (behind (codes "as") a.1) _ (keyword_field (codes "as") refl a.1) (λ b q.
    bind_if (λ x. AreGraphic x.1 → AreGraphic b) _ (name_at b) _ (name_field b) (λ c r.
    end_if (AreGraphic words) c.1 _ (λ more. p (q (r more))))))

pin_words : (words : List (List ℕ)) → IfSome (pin_of words) (λ x. AreGraphic words)
unfolding pin_of
pin_words words =
    bind_if (λ x. AreGraphic x → AreGraphic words) _ (behind (codes "as") words) _ (keyword_field (codes "as") refl words) (λ a p.
    bind_if (λ x. AreGraphic x.1 → AreGraphic a) _ (name_at a) _ (name_field a) (λ b q.
    end_if (AreGraphic words) b.1 _ (λ more. p (q more))))

external_words : (words : List (List ℕ)) → IfSome (external_of words) (λ x. AreGraphic words)
unfolding external_of
external_words words =
    bind_if (λ x. AreGraphic x.1 → AreGraphic words) _ (name_at words) _ (name_field words) (λ a p.
    bind_if (λ x. AreGraphic x.1 → AreGraphic a.1) _ (pair_at a.1) _ (pair_field a.1) (λ b q.
    bind_if (λ x. AreGraphic x.1 → AreGraphic b.1) _ (labelled_at (codes "prefix=") b.1) _ (labelled_field (codes "prefix=") refl b.1)
    (λ c r.
    bind_if (λ x. AreGraphic x.1 → AreGraphic c.1) _ (labelled_at (codes "suffix=") c.1) _ (labelled_field (codes "suffix=") refl c.1)
    (λ d s.
    end_if (AreGraphic words) d.1 _ (λ more. p (q (r (s more))))))))

ingest_words : (words : List (List ℕ)) → IfSome (ingest_of words) (λ x. AreGraphic words)
unfolding ingest_of
ingest_words words =
    imply_then (AreGraphic words) (AreGraphic words) (some_names_of words) _ (some_names_graphic words) (λ more. more)

ingest_excise_words : (words : List (List ℕ)) → IfSome (ingest_excise_of words) (λ x. AreGraphic words)
unfolding ingest_excise_of
ingest_excise_words words =
    bind_if (λ x. AreGraphic x.1 → AreGraphic words) _ (pair_at words) _ (pair_field words) (λ a p.
    imply_then (AreGraphic a.1) (AreGraphic words) (some_names_of a.1) _ (some_names_graphic a.1) (λ more. p more))

sharing_named_words : (name : List ℕ) (words : List (List ℕ)) → IfSome (sharing_named name words) (λ x. IsGraphic name × AreGraphic words)
unfolding sharing_named
sharing_named_words name words =
    keyword_first (AreGraphic words) name (codes "external") refl _ _ (external_words words) (
    keyword_first (AreGraphic words) name (codes "lend") refl _ _ (lend_words words) (
    keyword_first (AreGraphic words) name (codes "receive") refl _ _ (receive_words words) (
    keyword_first (AreGraphic words) name (codes "pin") refl _ _ (pin_words words) (
    tt))))

tables_named_words : (name : List ℕ) (words : List (List ℕ)) → IfSome (tables_named name words) (λ x. IsGraphic name × AreGraphic words)
unfolding tables_named
tables_named_words name words =
    keyword_first (AreGraphic words) name (codes "flush") refl _ _ (flush_words words) (
    keyword_first (AreGraphic words) name (codes "compact") refl _ _ (compact_words words) (
    keyword_first (AreGraphic words) name (codes "release") refl _ _ (release_words words) (
    keyword_first (AreGraphic words) name (codes "ingest") refl _ _ (ingest_words words) (
    keyword_first (AreGraphic words) name (codes "excise") refl _ _ (excise_words words) (
    keyword_first (AreGraphic words) name (codes "ingestexcise") refl _ _ (ingest_excise_words words) (
    sharing_named_words name words))))))

command_named_words : (name : List ℕ) (words : List (List ℕ)) → IfSome (command_named name words) (λ x. IsGraphic name × AreGraphic words)
unfolding command_named
command_named_words name words =
    keyword_first (AreGraphic words) name (codes "set") refl _ _ (set_words words) (
    keyword_first (AreGraphic words) name (codes "del") refl _ _ (del_words words) (
    keyword_first (AreGraphic words) name (codes "delrange") refl _ _ (del_range_words words) (
    keyword_first (AreGraphic words) name (codes "get") refl _ _ (get_words words) (
    keyword_first (AreGraphic words) name (codes "scan") refl _ _ (scan_words words) (
    tables_named_words name words)))))

command_words : (words : List (List ℕ)) → IfSome (command_of words) (λ x. AreGraphic words)
unfolding command_of word_at
command_words [] = tt
command_words (name ∷ words) = command_named_words name words

table_set_words : (words : List (List ℕ)) → IfSome (table_set_of words) (λ x. AreGraphic words)
unfolding table_set_of
table_set_words words =
    bind_if (λ x. AreGraphic x.1 → AreGraphic words) _ (pair_at words) _ (pair_field words) (λ a p.
    end_if (AreGraphic words) a.1 _ (λ more. p more))

table_del_words : (words : List (List ℕ)) → IfSome (table_del_of words) (λ x. AreGraphic words)
unfolding table_del_of
table_del_words words =
    bind_if (λ x. AreGraphic x.1 → AreGraphic words) _ (string_at words) _ (string_field words) (λ a p.
    end_if (AreGraphic words) a.1 _ (λ more. p more))

table_del_range_words : (words : List (List ℕ)) → IfSome (table_del_range_of words) (λ x. AreGraphic words)
unfolding table_del_range_of
table_del_range_words words =
    bind_if (λ x. AreGraphic x.1 → AreGraphic words) _ (pair_at words) _ (pair_field words) (λ a p.
    end_if (AreGraphic words) a.1 _ (λ more. p more))

table_line_named_words : (name : List ℕ) (words : List (List ℕ))
    → IfSome (table_line_named name words) (λ x. IsGraphic name × AreGraphic words)
unfolding table_line_named
table_line_named_words name words =
    keyword_first (AreGraphic words) name (codes "set") refl _ _ (table_set_words words) (
    keyword_first (AreGraphic words) name (codes "del") refl _ _ (table_del_words words) (
    keyword_first (AreGraphic words) name (codes "delrange") refl _ _ (table_del_range_words words) (
    tt)))

table_line_from : (words : List (List ℕ)) → IfSome (word_at words >>= λ name. table_line_named name.0 name.1) (λ x. AreGraphic words)
unfolding word_at
table_line_from [] = tt
table_line_from (name ∷ words) = table_line_named_words name words

pub table_line_graphic : (text : List ℕ) → IfSome (table_line_of text) (λ x. AreGraphic (words_of text))
unfolding table_line_of
table_line_graphic text = table_line_from (words_of text)

store_alone_words : (words : List (List ℕ)) → IfSome (store_alone words) (λ x. AreGraphic words)
unfolding store_alone
store_alone_words words =
    bind_if (λ x. AreGraphic x.1 → AreGraphic words) _ (store_at words) _ (store_field words) (λ a p.
    end_if (AreGraphic words) a.1 _ (λ more. p more))

name_alone_words : (words : List (List ℕ)) → IfSome (name_alone words) (λ x. AreGraphic words)
unfolding name_alone
name_alone_words words =
    bind_if (λ x. AreGraphic x.1 → AreGraphic words) _ (name_at words) _ (name_field words) (λ a p.
    end_if (AreGraphic words) a.1 _ (λ more. p more))

open_words : (words : List (List ℕ)) → IfSome (open_of words) (λ x. AreGraphic words)
unfolding open_of
open_words words =
    imply_then (AreGraphic words) (AreGraphic words) (store_alone words) _ (store_alone_words words) (λ more. more)

close_words : (words : List (List ℕ)) → IfSome (close_of words) (λ x. AreGraphic words)
unfolding close_of
close_words words =
    imply_then (AreGraphic words) (AreGraphic words) (store_alone words) _ (store_alone_words words) (λ more. more)

stop_words : (words : List (List ℕ)) → IfSome (stop_of words) (λ x. AreGraphic words)
unfolding stop_of
stop_words words =
    imply_then (AreGraphic words) (AreGraphic words) (store_alone words) _ (store_alone_words words) (λ more. more)

levels_words : (words : List (List ℕ)) → IfSome (levels_of words) (λ x. AreGraphic words)
unfolding levels_of
levels_words words =
    imply_then (AreGraphic words) (AreGraphic words) (store_alone words) _ (store_alone_words words) (λ more. more)

lane_words : (words : List (List ℕ)) → IfSome (lane_of words) (λ x. AreGraphic words)
unfolding lane_of
lane_words [] = tt
lane_words (word ∷ words) =
    bind_if (λ x. AreGraphic x → AreGraphic (word ∷ words)) _ (behind (codes "bg") (word ∷ words)) _
    (keyword_field (codes "bg") refl (word ∷ words)) (λ a p.
    end_if (AreGraphic (word ∷ words)) a _ p)

turn_words : (words : List (List ℕ)) → IfSome (turn_of words) (λ x. AreGraphic words)
unfolding turn_of
turn_words words =
    bind_if (λ x. AreGraphic x.1 → AreGraphic words) _ (store_at words) _ (store_field words) (λ a p.
    imply_then (AreGraphic a.1) (AreGraphic words) (lane_of a.1) _ (lane_words a.1) (λ more. p more))

start_words : (words : List (List ℕ)) → IfSome (start_of words) (λ x. AreGraphic words)
unfolding start_of
start_words words =
    bind_if (λ x. AreGraphic x.1 → AreGraphic words) _ (store_at words) _ (store_field words) (λ a p.
    bind_if (λ x. AreGraphic a.1) _ (command_of a.1) _ (command_words a.1)
    (λ c q. cond_if (λ x. AreGraphic words) (is_started c) _ None (p q) tt))

whole_named_words : (first : List ℕ) (words : List (List ℕ)) → IfSome (whole_named first words) (λ x. IsGraphic first × AreGraphic words)
unfolding whole_named
whole_named_words first words =
    bind_if (λ x. IsGraphic first) _ (store_of first) _ (store_graphic first) (λ s p.
    bind_if (λ x. AreGraphic words) _ (command_of words) _ (command_words words) (λ c q. (p, q)))

table_words : (words : List (List ℕ)) → IfSome (table_of words) (λ x. AreGraphic words)
unfolding table_of
table_words words =
    imply_then (AreGraphic words) (AreGraphic words) (name_alone words) _ (name_alone_words words) (λ more. more)

drop_words : (words : List (List ℕ)) → IfSome (drop_of words) (λ x. AreGraphic words)
unfolding drop_of
drop_words words =
    imply_then (AreGraphic words) (AreGraphic words) (name_alone words) _ (name_alone_words words) (λ more. more)

unpin_words : (words : List (List ℕ)) → IfSome (unpin_of words) (λ x. AreGraphic words)
unfolding unpin_of
unpin_words words =
    imply_then (AreGraphic words) (AreGraphic words) (name_alone words) _ (name_alone_words words) (λ more. more)

export_words : (words : List (List ℕ)) → IfSome (export_of words) (λ x. AreGraphic words)
unfolding export_of
export_words words =
    bind_if (λ x. AreGraphic x.1 → AreGraphic words) _ (name_at words) _ (name_field words) (λ a p.
    imply_then (AreGraphic a.1) (AreGraphic words) (name_alone a.1) _ (name_alone_words a.1) (λ more. p more))

get_at_words : (words : List (List ℕ)) → IfSome (get_at_of words) (λ x. AreGraphic words)
unfolding get_at_of
get_at_words words =
    bind_if (λ x. AreGraphic x.1 → AreGraphic words) _ (name_at words) _ (name_field words) (λ a p.
    bind_if (λ x. AreGraphic x.1 → AreGraphic a.1) _ (string_at a.1) _ (string_field a.1) (λ b q.
    end_if (AreGraphic words) b.1 _ (λ more. p (q more))))

objects_words : (words : List (List ℕ)) → IfSome (objects_of words) (λ x. AreGraphic words)
unfolding objects_of
objects_words words =
    end_if (AreGraphic words) words _ (λ more. more)

calls_words : (words : List (List ℕ)) → IfSome (calls_of words) (λ x. AreGraphic words)
unfolding calls_of
calls_words words =
    end_if (AreGraphic words) words _ (λ more. more)

family_line_words : (name : List ℕ) (words : List (List ℕ)) → IfSome (family_line name words) (λ x. IsGraphic name × AreGraphic words)
unfolding family_line
family_line_words name words =
    keyword_first (AreGraphic words) name (codes "table") refl _ _ (table_words words) (
    keyword_first (AreGraphic words) name (codes "export") refl _ _ (export_words words) (
    keyword_first (AreGraphic words) name (codes "drop") refl _ _ (drop_words words) (
    keyword_first (AreGraphic words) name (codes "get") refl _ _ (get_at_words words) (
    keyword_first (AreGraphic words) name (codes "unpin") refl _ _ (unpin_words words) (
    keyword_first (AreGraphic words) name (codes "objects") refl _ _ (objects_words words) (
    keyword_first (AreGraphic words) name (codes "calls") refl _ _ (calls_words words) (
    whole_named_words name words)))))))

line_named_words : (name : List ℕ) (words : List (List ℕ)) → IfSome (line_named name words) (λ x. IsGraphic name × AreGraphic words)
unfolding line_named
line_named_words name words =
    keyword_first (AreGraphic words) name (codes "open") refl _ _ (open_words words) (
    keyword_first (AreGraphic words) name (codes "close") refl _ _ (close_words words) (
    keyword_first (AreGraphic words) name (codes "stop") refl _ _ (stop_words words) (
    keyword_first (AreGraphic words) name (codes "turn") refl _ _ (turn_words words) (
    keyword_first (AreGraphic words) name (codes "levels") refl _ _ (levels_words words) (
    keyword_first (AreGraphic words) name (codes "start") refl _ _ (start_words words) (
    family_line_words name words))))))

line_from : (words : List (List ℕ)) → IfSome (word_at words >>= λ first. line_named first.0 first.1) (λ x. AreGraphic words)
unfolding word_at
line_from [] = tt
line_from (name ∷ words) = line_named_words name words

pub line_graphic : (text : List ℕ) → IfSome (line_of text) (λ x. AreGraphic (words_of text))
unfolding line_of
line_graphic text = line_from (words_of text)
