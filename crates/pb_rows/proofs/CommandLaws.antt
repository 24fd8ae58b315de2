-- The layer of a command does what the command does, and those of several as one do what the commands do in turn.
use Rattle.std.proofs.Common.{◌≡◌, ℕ, List, [], ◌∷◌, ◌++◌, reverse, refl, sym, ap, ◌∙◌}
use Rattle.std.specs.Prelude.{Option, Some, None, map, not}
use Rattle.std.specs.FinMap.{entries, insert, retain_keys}
use Rattle.std.specs.Option.{option_or}
use Rattle.pb_keys.specs.Map.{Map, without}
use Rattle.pb_keys.specs.Span.{KeySpan, holds_key}
use Rattle.pb_keys.proofs.MapFacts.{same_pairs}
use Rattle.pb_rows.specs.Applied.{applied, applied_newest_first, applied_in_turn, without_all, with_value, with_rows}
use Rattle.pb_rows.specs.Changing.{Changing, with_pairs, after, changed}
use Rattle.pb_rows.specs.Changing.Changing.{Set, Del, DelRange, Excise, Ingest, IngestExcise, External, Receive}
use Rattle.pb_rows.specs.ChangingLayers.{row_of, row_of_pair, layer_of_changing, with_changes, layer_of_changes}
use Rattle.pb_rows.specs.Layer.{KeyLayer, layer_of}
use Rattle.pb_rows.specs.Over.{over, over_all}
use Rattle.pb_rows.specs.Verdict.{verdict}
use Rattle.pb_keys.proofs.Tests.{or_false}
use Rattle.pb_rows.proofs.VerdictLaws.{get-without_all, get-applied_newest_first, verdict-over}
use Rattle.pb_rows.proofs.ChangingLaws.{get-applied_in_turn}
use Rattle.pb_rows.proofs.LayeringLaws.{applied-over, applied-over_all}

-- ---- one command

without_none : (m : Map) → without_all m [] ≡ m
without_none m = same_pairs (without_all m []) m (λ key. get-without_all m [] key)

without_one : (m : Map) (span : KeySpan) → without_all m (span ∷ []) ≡ without m span
without_one m span = λ i. retain_keys m (λ key. not (or_false (holds_key span key) i))

does-row : (key : List ℕ) (value : Option (List ℕ)) (m : Map) → applied (layer_of [] (row_of key value ∷ [])) m ≡ with_value m key value
unfolding applied
does-row key value m = ap (λ n. with_value n key value) (without_none m)

does-span : (span : KeySpan) (m : Map) → applied (layer_of (span ∷ []) []) m ≡ without m span
unfolding applied
does-span span m = without_one m span

newest_first_in_turn : (layers : List KeyLayer) (m : Map) → applied_newest_first (reverse layers) m ≡ applied_in_turn layers m
newest_first_in_turn layers m = same_pairs (applied_newest_first (reverse layers) m) (applied_in_turn layers m) (λ key.
    get-applied_newest_first (reverse layers) m key ∙ sym (get-applied_in_turn layers m key))

does-layers : (layers : List KeyLayer) (m : Map) → applied (over_all (reverse layers)) m ≡ applied_in_turn layers m
does-layers layers m = applied-over_all (reverse layers) m ∙ newest_first_in_turn layers m

rows_as_pairs : (m : Map) (pairs : List (List ℕ × List ℕ)) → with_rows m (map row_of_pair pairs) ≡ with_pairs m pairs
rows_as_pairs m [] = refl
rows_as_pairs m (pair ∷ pairs) = ap (λ n. insert n pair.0 pair.1) (rows_as_pairs m pairs)

does-pairs : (span : KeySpan) (pairs : List (List ℕ × List ℕ)) (m : Map) → applied (layer_of (span ∷ []) (map row_of_pair pairs)) m ≡ with_pairs (without m span) pairs
unfolding applied
does-pairs span pairs m = ap (λ n. with_rows n (map row_of_pair pairs)) (without_one m span) ∙ rows_as_pairs (without m span) pairs

pub does_the_command : (change : Changing) (m : Map) → applied (layer_of_changing change) m ≡ after m change
does_the_command (Set key value) m = does-row key (Some value) m
does_the_command (Del key) m = does-row key None m
does_the_command (DelRange span) m = does-span span m
does_the_command (Excise span) m = does-span span m
does_the_command (Ingest layers) m = does-layers layers m
does_the_command (IngestExcise span layers) m =
    applied-over (over_all (reverse layers)) (layer_of (span ∷ []) []) m
    ∙ ap (applied (over_all (reverse layers))) (does-span span m) ∙ does-layers layers (without m span)
does_the_command (External view layer) m = refl
does_the_command (Receive span sub) m = does-pairs span (entries sub) m

-- ---- several

does-changes : (layer : KeyLayer) (changes : List Changing) (m : Map) → applied (with_changes layer changes) m ≡ changed (applied layer m) changes
does-changes layer [] m = refl
does-changes layer (change ∷ changes) m =
    does-changes (over (layer_of_changing change) layer) changes m
    ∙ ap (λ n. changed n changes) (applied-over (layer_of_changing change) layer m ∙ does_the_command change (applied layer m))

does-nothing : (m : Map) → applied (layer_of [] []) m ≡ m
unfolding applied
does-nothing m = without_none m

pub does_the_commands : (changes : List Changing) (m : Map) → applied (layer_of_changes changes) m ≡ changed m changes
does_the_commands changes m = does-changes (layer_of [] []) changes m ∙ ap (λ n. changed n changes) (does-nothing m)

with_last : (layer : KeyLayer) (changes : List Changing) (change : Changing) → with_changes layer (changes ++ change ∷ []) ≡ over (layer_of_changing change) (with_changes layer changes)
with_last layer [] change = refl
with_last layer (first ∷ changes) change = with_last (over (layer_of_changing first) layer) changes change

-- the last command lies over the others
pub last_over_others : (changes : List Changing) (change : Changing) → layer_of_changes (changes ++ change ∷ []) ≡ over (layer_of_changing change) (layer_of_changes changes)
last_over_others changes change = with_last (layer_of [] []) changes change

pub last_says_first : (changes : List Changing) (change : Changing) (key : List ℕ) → verdict (layer_of_changes (changes ++ change ∷ [])) key ≡ option_or (verdict (layer_of_changing change) key) (verdict (layer_of_changes changes) key)
last_says_first changes change key =
    ap (λ layer. verdict layer key) (last_over_others changes change) ∙ verdict-over (layer_of_changing change) (layer_of_changes changes) key
