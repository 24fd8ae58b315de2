-- The layers of commands that are in form are in form.
use Rattle.std.proofs.Common.{◌≡◌, ℕ, ◌-◌, List, [], ◌∷◌, length, reverse, Bool, true, false, refl, sym, subst, arith}
use Rattle.std.specs.Prelude.{Option, Some, None, map, All, IfSome, T, ◌&&◌}
use Rattle.std.specs.FinMap.{entries, entries_sorted}
use Rattle.std.specs.FinMap.Entries.{below_all, is_sorted}
use Rattle.std.specs.Ordering.{is_lt}
use Rattle.std.specs.declared.cmp.Ordering.{Ordering}
use Rattle.std.specs.declared.cmp.Ordering.TheVariants.{Less, Equal, Greater}
use Rattle.std.proofs.lemmas.List.{get_or-reverse, length-reverse}
use Rattle.std.proofs.lemmas.List.Elements.{All-nil, All-cons, All-head, All-tail, All-map}
use Rattle.pb_keys.specs.Key.{IsKey, key_cmp}
use Rattle.pb_keys.specs.Map.{Map}
use Rattle.pb_keys.specs.Span.{KeySpan, IsSpan}
use Rattle.pb_keys.specs.Value.{IsValue}
use Rattle.pb_rows.specs.Changing.{Changing}
use Rattle.pb_rows.specs.Changing.Changing.{Set, Del, DelRange, Excise, Ingest, IngestExcise, External, Receive}
use Rattle.pb_rows.specs.ChangingLayers.{row_of, row_of_pair, layer_of_changing, with_changes, layer_of_changes, IsChanging}
use Rattle.pb_rows.specs.Layer.{KeyLayer, layer_of, IsLayer, IsShortRow, AreApart}
use Rattle.pb_rows.specs.Over.{over, over_all}
use Rattle.pb_rows.proofs.LayersOver.{empty_is_layer, layer-over, layer-over_all}
use Rattle.pb_rows.proofs.ViewedForm.{viewed_is_layer}
use Rattle.pb_rows.proofs.RowsOver.{Follow, Rising, rise_from_rising}

one_row : (key : List ℕ) (value : Option (List ℕ)) → IsKey key → IfSome value IsValue → IsLayer (layer_of [] (row_of key value ∷ []))
one_row key value is short = record {
  spans = All-nil IsSpan;
  apart = λ k d h. absurd (omega arith);
  keys = All-cons (λ row. IsKey row.key) (row_of key value) [] is (All-nil (λ row. IsKey row.key));
  rise = λ k d h. absurd (omega arith);
  short = All-cons IsShortRow (row_of key value) [] short (All-nil IsShortRow);
}

pub one_is_apart : (span : KeySpan) → AreApart (span ∷ [])
one_is_apart span k d h = absurd (omega arith)

one_span : (span : KeySpan) → IsSpan span → IsLayer (layer_of (span ∷ []) [])
one_span span is = record {
  spans = All-cons IsSpan span [] is (All-nil IsSpan);
  apart = one_is_apart span;
  keys = All-nil (λ row. IsKey row.key);
  rise = λ k d h. absurd (omega arith);
  short = All-nil IsShortRow;
}

in_reverse : (layers : List KeyLayer) → All IsLayer layers → All IsLayer (reverse layers)
in_reverse layers are k d h =
    let long : length (reverse layers) ≡ length layers = length-reverse layers in
    subst IsLayer (sym (get_or-reverse layers k d (omega arith))) (are (length layers - 1 - k) d (omega arith))

-- ---- the rows of a map

both_so : (a b : Bool) → T (a && b) → T a × T b
both_so true b h = (tt, h)
both_so false b h = absurd h

is_less : (o : Ordering) → T (is_lt o) → o ≡ Less
is_less Less h = refl
is_less Equal h = absurd h
is_less Greater h = absurd h

follow_pairs : (key : List ℕ) (pairs : List (List ℕ × List ℕ)) → T (below_all key_cmp key pairs) → Follow key (map row_of_pair pairs)
follow_pairs key [] below = All-nil (λ row. key_cmp key row.key ≡ Less)
follow_pairs key (pair ∷ pairs) below =
    let both = both_so (is_lt (key_cmp key pair.0)) (below_all key_cmp key pairs) below in
    All-cons (λ row. key_cmp key row.key ≡ Less) (row_of_pair pair) (map row_of_pair pairs) (is_less (key_cmp key pair.0) both.0) (follow_pairs key pairs both.1)

rising_pairs : (pairs : List (List ℕ × List ℕ)) → T (is_sorted key_cmp pairs) → Rising (map row_of_pair pairs)
rising_pairs [] sorted = tt
rising_pairs (pair ∷ pairs) sorted =
    let both = both_so (below_all key_cmp pair.0 pairs) (is_sorted key_cmp pairs) sorted in
    (follow_pairs pair.0 pairs both.0, rising_pairs pairs both.1)

of_pairs : (span : KeySpan) (sub : Map) → IsSpan span → All (λ pair. IsKey pair.0 × IsValue pair.1) (entries sub) → IsLayer (layer_of (span ∷ []) (map row_of_pair (entries sub)))
of_pairs span sub is are = record {
  spans = All-cons IsSpan span [] is (All-nil IsSpan);
  apart = one_is_apart span;
  keys = All-map (λ row. IsKey row.key) row_of_pair (entries sub) (λ k d h. (are k d h).0);
  rise = rise_from_rising (map row_of_pair (entries sub)) (rising_pairs (entries sub) (entries_sorted sub));
  short = All-map IsShortRow row_of_pair (entries sub) (λ k d h. (are k d h).1);
}

-- ---- each command, and several

pub changing_is_layer : (change : Changing) → IsChanging change → IsLayer (layer_of_changing change)
changing_is_layer (Set key value) is = one_row key (Some value) is.0 is.1
changing_is_layer (Del key) is = one_row key None is tt
changing_is_layer (DelRange span) is = one_span span is
changing_is_layer (Excise span) is = one_span span is
changing_is_layer (Ingest layers) is = layer-over_all (reverse layers) (in_reverse layers is)
changing_is_layer (IngestExcise span layers) is = layer-over (over_all (reverse layers)) (layer_of (span ∷ []) []) (layer-over_all (reverse layers) (in_reverse layers is.1)) (one_span span is.0)
changing_is_layer (External view layer) is = viewed_is_layer view layer is.in_form is.of is.within
changing_is_layer (Receive span sub) is = of_pairs span sub is.0 is.1

with_changes_is_layer : (layer : KeyLayer) (changes : List Changing) → IsLayer layer → All IsChanging changes → IsLayer (with_changes layer changes)
with_changes_is_layer layer [] is are = is
with_changes_is_layer layer (change ∷ changes) is are =
    with_changes_is_layer (over (layer_of_changing change) layer) changes
    (layer-over (layer_of_changing change) layer (changing_is_layer change (All-head IsChanging change changes are)) is) (All-tail IsChanging change changes are)

pub changes_are_layer : (changes : List Changing) → All IsChanging changes → IsLayer (layer_of_changes changes)
changes_are_layer changes are = with_changes_is_layer (layer_of [] []) changes empty_is_layer are
