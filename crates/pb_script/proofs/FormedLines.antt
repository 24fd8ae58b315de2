-- Each command, line and line of a block that is read is in form.
use Rattle.std.proofs.Common.{ℕ, ◌≤◌, List}
use Rattle.std.specs.Prelude.{IfSome, codes}
use Rattle.std.specs.Str.{bytes_eq}
use Rattle.pb_names.specs.Grammar.{IsName}
use Rattle.pb_names.specs.Identity.{IsStore}
use Rattle.pb_script.specs.Words.{words_of}
use Rattle.pb_script.specs.Strings.{store_of}
use Rattle.pb_script.specs.Fields.{word_at, string_at, name_at, store_at, level_at, pair_at, behind, at_end, labelled_at, some_names_of}
use Rattle.pb_script.specs.Commands.{set_of, del_of, del_range_of, get_of, scan_of, flush_of, compact_of, release_of, ingest_of, excise_of, ingest_excise_of, external_of, lend_of, receive_of, pin_of, sharing_named, tables_named, command_named, command_of, is_started}
use Rattle.pb_script.specs.Lines.{store_alone, name_alone, open_of, close_of, stop_of, levels_of, lane_of, turn_of, start_of, whole_named, table_of, export_of, drop_of, get_at_of, unpin_of, objects_of, calls_of, family_line, line_named, line_of}
use Rattle.pb_script.specs.TableLines.{table_set_of, table_del_of, table_del_range_of, table_line_named, table_line_of}
use Rattle.pb_script.specs.Form.{IsString, AreTables, IsCommand, IsTableLine, IsLine}
use Rattle.pb_script.specs.declared.line.Line.TheVariants.{Start}
use Rattle.pb_script.proofs.Formed.{bind_if, any_if, then_if, cond_if, test_if, store_formed, string_in, name_in, store_in, level_in, pair_in, labelled_in, some_names_in}

abbrev Strings : (List ℕ × List ℕ) × List (List ℕ) → Type 0
Strings x = IsString x.0.0 × IsString x.0.1

set_in : (words : List (List ℕ)) → IfSome (set_of words) IsCommand
unfolding set_of
set_in words = bind_if Strings IsCommand (pair_at words) _ (pair_in words) (λ x p. then_if IsCommand (at_end x.1) _ p)

del_range_in : (words : List (List ℕ)) → IfSome (del_range_of words) IsCommand
unfolding del_range_of
del_range_in words = bind_if Strings IsCommand (pair_at words) _ (pair_in words) (λ x p. then_if IsCommand (at_end x.1) _ p)

scan_in : (words : List (List ℕ)) → IfSome (scan_of words) IsCommand
unfolding scan_of
scan_in words = bind_if Strings IsCommand (pair_at words) _ (pair_in words) (λ x p. then_if IsCommand (at_end x.1) _ p)

excise_in : (words : List (List ℕ)) → IfSome (excise_of words) IsCommand
unfolding excise_of
excise_in words = bind_if Strings IsCommand (pair_at words) _ (pair_in words) (λ x p. then_if IsCommand (at_end x.1) _ p)

del_in : (words : List (List ℕ)) → IfSome (del_of words) IsCommand
unfolding del_of
del_in words = bind_if (λ x. IsString x.0) IsCommand (string_at words) _ (string_in words) (λ x p. then_if IsCommand (at_end x.1) _ p)

get_in : (words : List (List ℕ)) → IfSome (get_of words) IsCommand
unfolding get_of
get_in words = bind_if (λ x. IsString x.0) IsCommand (string_at words) _ (string_in words) (λ x p. then_if IsCommand (at_end x.1) _ p)

receive_in : (words : List (List ℕ)) → IfSome (receive_of words) IsCommand
unfolding receive_of
receive_in words = bind_if (λ x. IsName x.0) IsCommand (name_at words) _ (name_in words) (λ x p. then_if IsCommand (at_end x.1) _ p)

flush_in : (words : List (List ℕ)) → IfSome (flush_of words) IsCommand
unfolding flush_of
flush_in words = then_if IsCommand (at_end words) _ tt

release_in : (words : List (List ℕ)) → IfSome (release_of words) IsCommand
unfolding release_of
release_in words = then_if IsCommand (at_end words) _ tt

compact_in : (words : List (List ℕ)) → IfSome (compact_of words) IsCommand
unfolding compact_of
compact_in words = bind_if (λ x. x.0 ≤ 5) IsCommand (level_at words) _ (level_in words) (λ l p. bind_if Strings IsCommand (pair_at l.1) _ (pair_in l.1) (λ x q. then_if IsCommand (at_end x.1) _ (p, q.0, q.1)))

ingest_in : (words : List (List ℕ)) → IfSome (ingest_of words) IsCommand
unfolding ingest_of
ingest_in words = bind_if AreTables IsCommand (some_names_of words) _ (some_names_in words) (λ x p. p)

ingest_excise_in : (words : List (List ℕ)) → IfSome (ingest_excise_of words) IsCommand
unfolding ingest_excise_of
ingest_excise_in words = bind_if Strings IsCommand (pair_at words) _ (pair_in words) (λ x p. bind_if AreTables IsCommand (some_names_of x.1) _ (some_names_in x.1) (λ t q. (p.0, p.1, q)))

external_in : (words : List (List ℕ)) → IfSome (external_of words) IsCommand
unfolding external_of
external_in words =
    bind_if (λ x. IsName x.0) IsCommand (name_at words) _ (name_in words) (λ n p.
    bind_if Strings IsCommand (pair_at n.1) _ (pair_in n.1) (λ x q.
    bind_if (λ x. IfSome x.0 IsString) IsCommand (labelled_at (codes "prefix=") x.1) _ (labelled_in (codes "prefix=") x.1) (λ l r.
    bind_if (λ x. IfSome x.0 IsString) IsCommand (labelled_at (codes "suffix=") l.1) _ (labelled_in (codes "suffix=") l.1) (λ m s.
    then_if IsCommand (at_end m.1) _ (p, q.0, q.1, r, s)))))

lend_in : (words : List (List ℕ)) → IfSome (lend_of words) IsCommand
unfolding lend_of
lend_in words =
    bind_if Strings IsCommand (pair_at words) _ (pair_in words) (λ x p.
    any_if IsCommand (behind (codes "as") x.1) _ (λ rest.
    bind_if (λ x. IsName x.0) IsCommand (name_at rest) _ (name_in rest) (λ n q. then_if IsCommand (at_end n.1) _ (p.0, p.1, q))))

pin_in : (words : List (List ℕ)) → IfSome (pin_of words) IsCommand
unfolding pin_of
pin_in words = any_if IsCommand (behind (codes "as") words) _ (λ rest. bind_if (λ x. IsName x.0) IsCommand (name_at rest) _ (name_in rest) (λ n q. then_if IsCommand (at_end n.1) _ q))

sharing_named_in : (name : List ℕ) (words : List (List ℕ)) → IfSome (sharing_named name words) IsCommand
unfolding sharing_named
sharing_named_in name words = cond_if IsCommand (bytes_eq name (codes "external")) _ _ (external_in words) (cond_if IsCommand (bytes_eq name (codes "lend")) _ _ (lend_in words) (cond_if IsCommand (bytes_eq name (codes "receive")) _ _ (receive_in words) (cond_if IsCommand (bytes_eq name (codes "pin")) _ _ (pin_in words) (tt))))

tables_named_in : (name : List ℕ) (words : List (List ℕ)) → IfSome (tables_named name words) IsCommand
unfolding tables_named
tables_named_in name words = cond_if IsCommand (bytes_eq name (codes "flush")) _ _ (flush_in words) (cond_if IsCommand (bytes_eq name (codes "compact")) _ _ (compact_in words) (cond_if IsCommand (bytes_eq name (codes "release")) _ _ (release_in words) (cond_if IsCommand (bytes_eq name (codes "ingest")) _ _ (ingest_in words) (cond_if IsCommand (bytes_eq name (codes "excise")) _ _ (excise_in words) (cond_if IsCommand (bytes_eq name (codes "ingestexcise")) _ _ (ingest_excise_in words) (sharing_named_in name words))))))

command_named_in : (name : List ℕ) (words : List (List ℕ)) → IfSome (command_named name words) IsCommand
unfolding command_named
command_named_in name words = cond_if IsCommand (bytes_eq name (codes "set")) _ _ (set_in words) (cond_if IsCommand (bytes_eq name (codes "del")) _ _ (del_in words) (cond_if IsCommand (bytes_eq name (codes "delrange")) _ _ (del_range_in words) (cond_if IsCommand (bytes_eq name (codes "get")) _ _ (get_in words) (cond_if IsCommand (bytes_eq name (codes "scan")) _ _ (scan_in words) (tables_named_in name words)))))

command_in : (words : List (List ℕ)) → IfSome (command_of words) IsCommand
unfolding command_of
command_in words = any_if IsCommand (word_at words) _ (λ x. command_named_in x.0 x.1)

table_set_in : (words : List (List ℕ)) → IfSome (table_set_of words) IsTableLine
unfolding table_set_of
table_set_in words = bind_if Strings IsTableLine (pair_at words) _ (pair_in words) (λ x p. then_if IsTableLine (at_end x.1) _ p)

table_del_range_in : (words : List (List ℕ)) → IfSome (table_del_range_of words) IsTableLine
unfolding table_del_range_of
table_del_range_in words = bind_if Strings IsTableLine (pair_at words) _ (pair_in words) (λ x p. then_if IsTableLine (at_end x.1) _ p)

table_del_in : (words : List (List ℕ)) → IfSome (table_del_of words) IsTableLine
unfolding table_del_of
table_del_in words = bind_if (λ x. IsString x.0) IsTableLine (string_at words) _ (string_in words) (λ x p. then_if IsTableLine (at_end x.1) _ p)

table_line_named_in : (name : List ℕ) (words : List (List ℕ)) → IfSome (table_line_named name words) IsTableLine
unfolding table_line_named
table_line_named_in name words = cond_if IsTableLine (bytes_eq name (codes "set")) _ _ (table_set_in words) (cond_if IsTableLine (bytes_eq name (codes "del")) _ _ (table_del_in words) (cond_if IsTableLine (bytes_eq name (codes "delrange")) _ _ (table_del_range_in words) (tt)))

pub table_line_in : (text : List ℕ) → IfSome (table_line_of text) IsTableLine
unfolding table_line_of
table_line_in text = any_if IsTableLine (word_at (words_of text)) _ (λ x. table_line_named_in x.0 x.1)

store_alone_in : (words : List (List ℕ)) → IfSome (store_alone words) IsStore
unfolding store_alone
store_alone_in words = bind_if (λ x. IsStore x.0) IsStore (store_at words) _ (store_in words) (λ x p. then_if IsStore (at_end x.1) _ p)

name_alone_in : (words : List (List ℕ)) → IfSome (name_alone words) IsName
unfolding name_alone
name_alone_in words = bind_if (λ x. IsName x.0) IsName (name_at words) _ (name_in words) (λ x p. then_if IsName (at_end x.1) _ p)

open_in : (words : List (List ℕ)) → IfSome (open_of words) IsLine
unfolding open_of
open_in words = bind_if IsStore IsLine (store_alone words) _ (store_alone_in words) (λ x p. p)

close_in : (words : List (List ℕ)) → IfSome (close_of words) IsLine
unfolding close_of
close_in words = bind_if IsStore IsLine (store_alone words) _ (store_alone_in words) (λ x p. p)

stop_in : (words : List (List ℕ)) → IfSome (stop_of words) IsLine
unfolding stop_of
stop_in words = bind_if IsStore IsLine (store_alone words) _ (store_alone_in words) (λ x p. p)

levels_in : (words : List (List ℕ)) → IfSome (levels_of words) IsLine
unfolding levels_of
levels_in words = bind_if IsStore IsLine (store_alone words) _ (store_alone_in words) (λ x p. p)

drop_in : (words : List (List ℕ)) → IfSome (drop_of words) IsLine
unfolding drop_of
drop_in words = bind_if IsName IsLine (name_alone words) _ (name_alone_in words) (λ x p. p)

unpin_in : (words : List (List ℕ)) → IfSome (unpin_of words) IsLine
unfolding unpin_of
unpin_in words = bind_if IsName IsLine (name_alone words) _ (name_alone_in words) (λ x p. p)

objects_in : (words : List (List ℕ)) → IfSome (objects_of words) IsLine
unfolding objects_of
objects_in words = then_if IsLine (at_end words) _ tt

calls_in : (words : List (List ℕ)) → IfSome (calls_of words) IsLine
unfolding calls_of
calls_in words = then_if IsLine (at_end words) _ tt

turn_in : (words : List (List ℕ)) → IfSome (turn_of words) IsLine
unfolding turn_of
turn_in words = bind_if (λ x. IsStore x.0) IsLine (store_at words) _ (store_in words) (λ x p. any_if IsLine (lane_of x.1) _ (λ l. p))

start_in : (words : List (List ℕ)) → IfSome (start_of words) IsLine
unfolding start_of
start_in words =
    bind_if (λ x. IsStore x.0) IsLine (store_at words) _ (store_in words) (λ x p.
    bind_if IsCommand IsLine (command_of x.1) _ (command_in x.1) (λ c q. test_if IsLine (is_started c) (Start x.0 c) (λ is. (p, q, is))))

whole_in : (first : List ℕ) (words : List (List ℕ)) → IfSome (whole_named first words) IsLine
unfolding whole_named
whole_in first words = bind_if IsStore IsLine (store_of first) _ (store_formed first) (λ s p. bind_if IsCommand IsLine (command_of words) _ (command_in words) (λ c q. (p, q)))

table_in : (words : List (List ℕ)) → IfSome (table_of words) IsLine
unfolding table_of
table_in words = bind_if IsName IsLine (name_alone words) _ (name_alone_in words) (λ x p. (p, tt))

export_in : (words : List (List ℕ)) → IfSome (export_of words) IsLine
unfolding export_of
export_in words = bind_if (λ x. IsName x.0) IsLine (name_at words) _ (name_in words) (λ x p. bind_if IsName IsLine (name_alone x.1) _ (name_alone_in x.1) (λ n q. (p, q)))

get_at_in : (words : List (List ℕ)) → IfSome (get_at_of words) IsLine
unfolding get_at_of
get_at_in words =
    bind_if (λ x. IsName x.0) IsLine (name_at words) _ (name_in words) (λ x p.
    bind_if (λ x. IsString x.0) IsLine (string_at x.1) _ (string_in x.1) (λ k q. then_if IsLine (at_end k.1) _ (p, q)))

family_line_in : (name : List ℕ) (words : List (List ℕ)) → IfSome (family_line name words) IsLine
unfolding family_line
family_line_in name words = cond_if IsLine (bytes_eq name (codes "table")) _ _ (table_in words) (cond_if IsLine (bytes_eq name (codes "export")) _ _ (export_in words) (cond_if IsLine (bytes_eq name (codes "drop")) _ _ (drop_in words) (cond_if IsLine (bytes_eq name (codes "get")) _ _ (get_at_in words) (cond_if IsLine (bytes_eq name (codes "unpin")) _ _ (unpin_in words) (cond_if IsLine (bytes_eq name (codes "objects")) _ _ (objects_in words) (cond_if IsLine (bytes_eq name (codes "calls")) _ _ (calls_in words) (whole_in name words)))))))

line_named_in : (name : List ℕ) (words : List (List ℕ)) → IfSome (line_named name words) IsLine
unfolding line_named
line_named_in name words = cond_if IsLine (bytes_eq name (codes "open")) _ _ (open_in words) (cond_if IsLine (bytes_eq name (codes "close")) _ _ (close_in words) (cond_if IsLine (bytes_eq name (codes "stop")) _ _ (stop_in words) (cond_if IsLine (bytes_eq name (codes "turn")) _ _ (turn_in words) (cond_if IsLine (bytes_eq name (codes "levels")) _ _ (levels_in words) (cond_if IsLine (bytes_eq name (codes "start")) _ _ (start_in words) (family_line_in name words))))))

pub line_in : (text : List ℕ) → IfSome (line_of text) IsLine
unfolding line_of
line_in text = any_if IsLine (word_at (words_of text)) _ (λ x. line_named_in x.0 x.1)
