-- The index with one more command.
use Rattle.std.proofs.Common.{◌≡◌, ℕ, ◌+◌, ◌<◌, List, [], ◌∷◌, ◌++◌, length, refl, sym, ap, ◌∙◌, subst, arith, length-append}
use Rattle.std.specs.Prelude.{All, not}
use Rattle.std.proofs.lemmas.List.{get_or_append_left, get_or_at}
use Rattle.std.proofs.lemmas.List.Elements.{All-head, All-tail, All-weaker, All-push, All-nil}
use Rattle.pb_keys.specs.Span.{KeySpan, IsSpan}
use Rattle.pb_memtable.specs.Index.{IsIndex}
use Rattle.pb_memtable.specs.Search.{change_at, row_of_change, rows_at, IsRow, IsRowPlace}
use Rattle.pb_memtable.specs.View.{layer_of_all}
use Rattle.pb_memtable.proofs.CommandLaws.{changes-push, over-row, over-span}
use Rattle.pb_rows.proofs.NormalSpans.{normal_from_apart, spans_from_normal, apart_from_normal, normal-union_of}
use Rattle.pb_rows.proofs.RowsOver.{rising_from_rise, rise_from_rising, rising-with_row, rising-filter}
use Rattle.pb_rows.specs.ChangingLayers.{layer_of_changing}
use Rattle.pb_rows.specs.Layer.{KeyRow, KeyLayer, AreApart, Rise, layer_of}
use Rattle.pb_rows.specs.Over.{over, with_row, with_span, uncovered}
use Rattle.pb_rows.specs.Verdict.{is_covered}
use Rattle.pb_wal.specs.Changes.{HasShortValue, changing_of}
use Rattle.pb_wal.specs.declared.entry.Change.{Change}
use Rattle.pb_wal.specs.declared.entry.Change.TheVariants.{Set, Del, DelRange}

-- ---- places stay where they are

pub change_more : (changes : List Change) (change : Change) (place : ℕ) → place < length changes → change_at (changes ++ change ∷ []) place ≡ change_at changes place
change_more changes change place within = get_or_append_left changes (change ∷ []) (Del []) place within

pub change_new : (changes : List Change) (change : Change) → change_at (changes ++ change ∷ []) (length changes) ≡ change
change_new changes change = get_or_at changes change [] (Del []) (length changes) refl

pub place_more : (changes : List Change) (change : Change) (place : ℕ) → IsRowPlace changes place → IsRowPlace (changes ++ change ∷ []) place
place_more changes change place is =
    let within : place < length changes = is.within in
    let longer : length (changes ++ change ∷ []) ≡ length changes + 1 = length-append changes (change ∷ []) in
    record { within = omega arith; row = subst IsRow (sym (change_more changes change place within)) is.row }

pub place_new : (changes : List Change) (change : Change) → IsRow change → IsRowPlace (changes ++ change ∷ []) (length changes)
place_new changes change is =
    let longer : length (changes ++ change ∷ []) ≡ length changes + 1 = length-append changes (change ∷ []) in
    record { within = omega arith; row = subst IsRow (sym (change_new changes change)) is }

pub rows_more : (changes : List Change) (change : Change) (places : List ℕ) → All (IsRowPlace changes) places → rows_at (changes ++ change ∷ []) places ≡ rows_at changes places
rows_more changes change [] are = refl
rows_more changes change (place ∷ places) are =
    (λ i. row_of_change (change_more changes change place (All-head (IsRowPlace changes) place places are).within i) ∷ rows_more changes change places (All-tail (IsRowPlace changes) place places are) i)

-- ---- with a row

row_layer : (change : Change) → IsRow change → layer_of_changing (changing_of change) ≡ layer_of [] (row_of_change change ∷ [])
row_layer (Set key value) is = refl
row_layer (Del key) is = refl
row_layer (DelRange span) is = absurd is

pub indexed_row : (changes : List Change) (places later : List ℕ) (dels : List KeySpan) (change : Change) → IsIndex changes places dels → IsRow change → HasShortValue change → All (IsRowPlace (changes ++ change ∷ [])) later → rows_at (changes ++ change ∷ []) later ≡ with_row (row_of_change change) (rows_at changes places) → IsIndex (changes ++ change ∷ []) later dels
indexed_row changes places later dels change index is short are rows =
    let layer : layer_of_all (changes ++ change ∷ []) ≡ layer_of (layer_of_all changes).dels (with_row (row_of_change change) (layer_of_all changes).rows) =
    changes-push changes change ∙ ap (λ l. over l (layer_of_all changes)) (row_layer change is) ∙ over-row (row_of_change change) (layer_of_all changes) in
    record {
      places = are;
      rows = rows ∙ ap (with_row (row_of_change change)) index.rows ∙ sym (ap (λ (l : KeyLayer). l.rows) layer);
      rise = subst Rise (sym rows) (rise_from_rising (with_row (row_of_change change) (rows_at changes places)) (rising-with_row (row_of_change change) (rows_at changes places) (rising_from_rise (rows_at changes places) index.rise)));
      dels = index.dels ∙ sym (ap (λ (l : KeyLayer). l.dels) layer);
      in_form = index.in_form;
      apart = index.apart;
      short = All-push HasShortValue changes change index.short short;
    }

-- ---- with a deletion

one_span : (span : KeySpan) → IsSpan span → All IsSpan (span ∷ [])
one_span span is = All-push IsSpan [] span (All-nil IsSpan) is

pub indexed_span : (changes : List Change) (places later : List ℕ) (dels spans : List KeySpan) (change : Change) (span : KeySpan) → IsIndex changes places dels → change ≡ DelRange span → HasShortValue change → IsSpan span → All (IsRowPlace changes) later → rows_at changes later ≡ uncovered (span ∷ []) (rows_at changes places) → spans ≡ with_span span dels → IsIndex (changes ++ change ∷ []) later spans
indexed_span changes places later dels spans change span index is_range short is are rows joined =
    let layer : layer_of_all (changes ++ change ∷ []) ≡ layer_of (with_span span (layer_of_all changes).dels) (uncovered (span ∷ []) (layer_of_all changes).rows) =
    changes-push changes change ∙ ap (λ (c : Change). over (layer_of_changing (changing_of c)) (layer_of_all changes)) is_range ∙ over-span span (layer_of_all changes) in
    let normal = normal-union_of (span ∷ []) dels (one_span span is) (normal_from_apart dels index.in_form index.apart) in
    let all_rows : rows_at (changes ++ change ∷ []) later ≡ uncovered (span ∷ []) (rows_at changes places) = rows_more changes change later are ∙ rows in
    record {
      places = All-weaker (IsRowPlace changes) (IsRowPlace (changes ++ change ∷ [])) (place_more changes change) later are;
      rows = all_rows ∙ ap (uncovered (span ∷ [])) index.rows ∙ sym (ap (λ (l : KeyLayer). l.rows) layer);
      rise = subst Rise (sym all_rows) (rise_from_rising (uncovered (span ∷ []) (rows_at changes places)) (rising-filter (λ (row : KeyRow). not (is_covered (span ∷ []) row.key)) (rows_at changes places) (rising_from_rise (rows_at changes places) index.rise)));
      dels = joined ∙ ap (with_span span) index.dels ∙ sym (ap (λ (l : KeyLayer). l.dels) layer);
      in_form = subst (All IsSpan) (sym joined) (spans_from_normal (with_span span dels) normal);
      apart = subst AreApart (sym joined) (apart_from_normal (with_span span dels) normal);
      short = All-push HasShortValue changes change index.short short;
    }

pub no_index : IsIndex [] [] []
no_index = record {
  places = All-nil (IsRowPlace []);
  rows = refl;
  rise = λ k d h. absurd (omega arith);
  dels = refl;
  in_form = All-nil IsSpan;
  apart = λ k d h. absurd (omega arith);
  short = All-nil HasShortValue;
}
