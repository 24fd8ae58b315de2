-- What a view shows: the rows and deletions that it maps into its bounds stand together.
use Rattle.std.proofs.Common.{◌≡◌, ℕ, ◌-◌, ◌≤◌, List, [], ◌∷◌, ◌++◌, length, get_or, take, drop, Bool, true, false, cond, refl, sym, ap, ◌∙◌, subst, arith, inl, inr}
use Rattle.std.specs.Prelude.{All, map, filter, not, ◌&&◌}
use Rattle.std.specs.List.{flat_map}
use Rattle.std.specs.List.Sorted.{IsPartitionPoint, IsPartitionedBy}
use Rattle.std.proofs.lemmas.Bool.{cases_lt, and_right, not-true, not-false}
use Rattle.pb_keys.specs.Order.{is_below}
use Rattle.pb_keys.specs.Key.{prefix_of}
use Rattle.pb_keys.specs.Span.{KeySpan, IsSpan, holds_key, overlap}
use Rattle.pb_keys.specs.View.{KeyView, IsMapping, IsView}
use Rattle.pb_keys.proofs.KeyFacts.{prefixes_ascend}
use Rattle.pb_keys.proofs.OrderFacts.{below_chain, below_one_way, below_upto, upto_below, upto_chain}
use Rattle.pb_keys.proofs.SpanFacts.{holds_key-ends, overlap-ends}
use Rattle.pb_rows.specs.Layer.{KeyRow, KeyLayer, Rise, AreApart, layer_of}
use Rattle.pb_rows.specs.Viewed.{mapped_key, mapped_row, mapped_span, part_within, cut_to, viewed}
use Rattle.pb_rows.proofs.LookLaws.{rows_rise, spans_follow}
use Rattle.pb_rows.proofs.MappedLaws.{prefix_of-mapped_key, below-behind}
use Rattle.pb_rows.proofs.Parts.{parts_in_form}
use Rattle.std.proofs.lemmas.List.Elements.{All-cons, All-nil, All-head}
use Rattle.pb_synth.specs.Parts.{shown_part}
use Rattle.pb_synth.proofs.Windows.{filter_window}

-- ---- rows

-- whether the view maps the row's key to one whose prefix is below the end
abbrev pub maps_below : List ℕ → List ℕ → KeyRow → Bool
maps_below prefix end row = is_below (prefix ++ prefix_of row.key) end

pub rows_parted : (rows : List KeyRow) (prefix end : List ℕ) → Rise rows → IsPartitionedBy (maps_below prefix end) rows
rows_parted rows prefix end rise i j d h k below =
    elim (cases_lt i j) [
      | inl before ↦
          let a = prefix_of (get_or rows i d).key in let b = prefix_of (get_or rows j d).key in
          upto_below (prefix ++ a) (prefix ++ b) end (below-behind prefix b a ∙ prefixes_ascend (get_or rows i d).key (get_or rows j d).key (rows_rise rows rise i j d before k)) below
      | inr past ↦ let same : j ≡ i = omega arith in subst (λ n. maps_below prefix end (get_or rows n d) ≡ true) same below
    ]

abbrev pub PartsRows : List ℕ → List ℕ → List KeyRow → ℕ → Type 0
PartsRows prefix end rows at = IsPartitionPoint (λ r. maps_below prefix end r ≡ true) (λ r. maps_below prefix end r ≡ false) rows at

pub rows_parted_as : (rows : List KeyRow) (at : ℕ) (prefix own end bound : List ℕ) → prefix ≡ own → end ≡ bound → PartsRows prefix end rows at → PartsRows own bound rows at
rows_parted_as rows at prefix own end bound prefix_is end_is parts = subst (λ e. PartsRows own e rows at) end_is (subst (λ p. PartsRows p end rows at) prefix_is parts)

-- the first place isn't behind the second
pub rows_in_order : (rows : List KeyRow) (prefix lo hi : List ℕ) (from to : ℕ) (d : KeyRow) → is_below lo hi ≡ true → from ≤ length rows → PartsRows prefix lo rows from → PartsRows prefix hi rows to → from ≤ to
rows_in_order rows prefix lo hi from to d rises within first last =
    elim (cases_lt to from) [
      | inl turned ↦
          let low : maps_below prefix lo (get_or rows to d) ≡ true = first.0 to d (omega arith) turned in
          let high : maps_below prefix hi (get_or rows to d) ≡ false = last.1 to d (omega arith) (omega arith) in
          let both : maps_below prefix hi (get_or rows to d) ≡ true = below_chain (prefix ++ prefix_of (get_or rows to d).key) lo hi low rises in
          cc
      | inr past ↦ omega arith
    ]

-- the bounds hold the key that the view makes of the row's
abbrev pub is_held : KeyView → KeyRow → Bool
is_held view row = holds_key view.bounds (mapped_key view row.key)

held_is : (view : KeyView) (row : KeyRow) → IsMapping view → is_held view row ≡ (not (maps_below view.prefix view.bounds.lo row) && maps_below view.prefix view.bounds.hi row)
held_is view row mapping =
    holds_key-ends view.bounds (mapped_key view row.key)
    ∙ (λ i. not (is_below (prefix_of-mapped_key view row.key mapping i) view.bounds.lo) && is_below (prefix_of-mapped_key view row.key mapping i) view.bounds.hi)

pub rows_shown : (view : KeyView) (rows : List KeyRow) (from to : ℕ) → IsMapping view → from ≤ to → to ≤ length rows → PartsRows view.prefix view.bounds.lo rows from → PartsRows view.prefix view.bounds.hi rows to → filter (is_held view) rows ≡ take (to - from) (drop from rows)
rows_shown view rows from to mapping rises within first last =
    filter_window (is_held view) rows from (to - from) (record {
      before = λ k d h inside. held_is view (get_or rows k d) mapping ∙ ap (λ b. not b && maps_below view.prefix view.bounds.hi (get_or rows k d)) (first.0 k d (omega arith) h);
      between = λ k d h below. held_is view (get_or rows k d) mapping ∙ (λ i. not (first.1 k d h (omega arith) i) && last.0 k d (omega arith) (omega arith) i);
      behind = λ k d h inside. held_is view (get_or rows k d) mapping ∙ and_right (not (maps_below view.prefix view.bounds.lo (get_or rows k d))) (maps_below view.prefix view.bounds.hi (get_or rows k d)) (last.1 k d (omega arith) inside);
      within = omega arith;
    })

pub rows_mapped : (view : KeyView) (rows : List KeyRow) → filter (λ row. holds_key view.bounds row.key) (map (mapped_row view) rows) ≡ map (mapped_row view) (filter (is_held view) rows)
rows_mapped view [] = refl
rows_mapped view (row ∷ rows) =
    elim (is_held view row) as (λ b. cond b (mapped_row view row ∷ filter (λ r. holds_key view.bounds r.key) (map (mapped_row view) rows)) (filter (λ r. holds_key view.bounds r.key) (map (mapped_row view) rows)) ≡ map (mapped_row view) (cond b (row ∷ filter (is_held view) rows) (filter (is_held view) rows))) [
      | true ↦ ap (λ r. mapped_row view row ∷ r) (rows_mapped view rows)
      | false ↦ rows_mapped view rows
    ]

-- ---- deletions

-- whether the view maps the span to one that ends at the end or below
abbrev pub ends_upto : List ℕ → List ℕ → KeySpan → Bool
ends_upto prefix end span = not (is_below end (prefix ++ span.hi))

-- whether the view maps the span to one that begins below the end
abbrev pub begins_below : List ℕ → List ℕ → KeySpan → Bool
begins_below prefix end span = is_below (prefix ++ span.lo) end

pub ends_parted : (spans : List KeySpan) (prefix end : List ℕ) → All IsSpan spans → AreApart spans → IsPartitionedBy (ends_upto prefix end) spans
ends_parted spans prefix end are apart i j d h k upto =
    elim (cases_lt i j) [
      | inl before ↦
          let s = get_or spans i d in let t = get_or spans j d in
          let f = spans_follow spans are apart i j d before k in
          let rises : is_below (prefix ++ t.hi) (prefix ++ s.hi) ≡ false = below-behind prefix t.hi s.hi ∙ below_one_way s.hi t.hi (below_chain s.hi t.lo t.hi f.apart f.rises) in
          ap not (upto_chain (prefix ++ s.hi) (prefix ++ t.hi) end rises (not-true (is_below end (prefix ++ t.hi)) upto))
      | inr past ↦ let same : j ≡ i = omega arith in subst (λ n. ends_upto prefix end (get_or spans n d) ≡ true) same upto
    ]

pub begins_parted : (spans : List KeySpan) (prefix end : List ℕ) → All IsSpan spans → AreApart spans → IsPartitionedBy (begins_below prefix end) spans
begins_parted spans prefix end are apart i j d h k below =
    elim (cases_lt i j) [
      | inl before ↦
          let s = get_or spans i d in let t = get_or spans j d in
          let f = spans_follow spans are apart i j d before k in
          let span : IsSpan s = are i d (omega arith) in
          below_chain (prefix ++ s.lo) (prefix ++ t.lo) end (below-behind prefix s.lo t.lo ∙ below_chain s.lo s.hi t.lo span.rises f.apart) below
      | inr past ↦ let same : j ≡ i = omega arith in subst (λ n. begins_below prefix end (get_or spans n d) ≡ true) same below
    ]

abbrev pub PartsEnds : List ℕ → List ℕ → List KeySpan → ℕ → Type 0
PartsEnds prefix end spans at = IsPartitionPoint (λ s. ends_upto prefix end s ≡ true) (λ s. ends_upto prefix end s ≡ false) spans at

abbrev pub PartsStarts : List ℕ → List ℕ → List KeySpan → ℕ → Type 0
PartsStarts prefix end spans at = IsPartitionPoint (λ s. begins_below prefix end s ≡ true) (λ s. begins_below prefix end s ≡ false) spans at

pub ends_parted_as : (spans : List KeySpan) (at : ℕ) (prefix own end bound : List ℕ) → prefix ≡ own → end ≡ bound → PartsEnds prefix end spans at → PartsEnds own bound spans at
ends_parted_as spans at prefix own end bound prefix_is end_is parts = subst (λ e. PartsEnds own e spans at) end_is (subst (λ p. PartsEnds p end spans at) prefix_is parts)

pub begins_parted_as : (spans : List KeySpan) (at : ℕ) (prefix own end bound : List ℕ) → prefix ≡ own → end ≡ bound → PartsStarts prefix end spans at → PartsStarts own bound spans at
begins_parted_as spans at prefix own end bound prefix_is end_is parts = subst (λ e. PartsStarts own e spans at) end_is (subst (λ p. PartsStarts p end spans at) prefix_is parts)

pub spans_in_order : (spans : List KeySpan) (prefix lo hi : List ℕ) (from to : ℕ) (d : KeySpan) → All IsSpan spans → is_below lo hi ≡ true → from ≤ length spans → PartsEnds prefix lo spans from → PartsStarts prefix hi spans to → from ≤ to
spans_in_order spans prefix lo hi from to d are rises within first last =
    elim (cases_lt to from) [
      | inl turned ↦
          let s = get_or spans to d in
          let span : IsSpan s = are to d (omega arith) in
          let ends : is_below lo (prefix ++ s.hi) ≡ false = not-true (is_below lo (prefix ++ s.hi)) (first.0 to d (omega arith) turned) in
          let begins : is_below (prefix ++ s.lo) hi ≡ false = last.1 to d (omega arith) (omega arith) in
          let low : is_below (prefix ++ s.lo) lo ≡ true = below_upto (prefix ++ s.lo) (prefix ++ s.hi) lo (below-behind prefix s.lo s.hi ∙ span.rises) ends in
          let both : is_below (prefix ++ s.lo) hi ≡ true = below_chain (prefix ++ s.lo) lo hi low rises in
          cc
      | inr past ↦ omega arith
    ]

-- the view maps the span to one that overlaps the bounds
abbrev pub is_shown : KeyView → KeySpan → Bool
is_shown view span = overlap view.bounds (mapped_span view span)

pub spans_shown : (view : KeyView) (spans : List KeySpan) (from to : ℕ) → from ≤ to → to ≤ length spans → PartsEnds view.prefix view.bounds.lo spans from → PartsStarts view.prefix view.bounds.hi spans to → filter (is_shown view) spans ≡ take (to - from) (drop from spans)
spans_shown view spans from to rises within first last =
    filter_window (is_shown view) spans from (to - from) (record {
      before = λ k d h inside. shown_is (get_or spans k d) ∙ ap (λ b. b && begins_below view.prefix view.bounds.hi (get_or spans k d)) (not-true (above (get_or spans k d)) (first.0 k d (omega arith) h));
      between = λ k d h below. shown_is (get_or spans k d) ∙ (λ i. not-false (above (get_or spans k d)) (first.1 k d h (omega arith)) i && last.0 k d (omega arith) (omega arith) i);
      behind = λ k d h inside. shown_is (get_or spans k d) ∙ and_right (above (get_or spans k d)) (begins_below view.prefix view.bounds.hi (get_or spans k d)) (last.1 k d (omega arith) inside);
      within = omega arith;
    })
  where
    above : KeySpan → Bool
    above span = is_below view.bounds.lo (view.prefix ++ span.hi)

    shown_is : (span : KeySpan) → is_shown view span ≡ (above span && begins_below view.prefix view.bounds.hi span)
    shown_is span = overlap-ends view.bounds (mapped_span view span)

pub spans_cut : (view : KeyView) (spans : List KeySpan) → flat_map (part_within view.bounds) (map (mapped_span view) spans) ≡ map (shown_part view) (filter (is_shown view) spans)
spans_cut view [] = refl
spans_cut view (s ∷ ss) =
    elim (is_shown view s) as (λ b. (cond b (shown_part view s ∷ []) [] ++ flat_map (part_within view.bounds) (map (mapped_span view) ss)) ≡ map (shown_part view) (cond b (s ∷ filter (is_shown view) ss) (filter (is_shown view) ss))) [
      | true ↦ ap (λ r. shown_part view s ∷ r) (spans_cut view ss)
      | false ↦ spans_cut view ss
    ]

pub part_is_span : (view : KeyView) (span : KeySpan) → IsView view → IsSpan (mapped_span view span) → is_shown view span ≡ true → IsSpan (shown_part view span)
part_is_span view span is mapped over =
    let of = mapped_span view span in
    let one : cut_to view.bounds (of ∷ []) ≡ shown_part view span ∷ [] = ap (λ b. cond b (shown_part view span ∷ []) [] ++ []) over in
    let all : All IsSpan (cut_to view.bounds (of ∷ [])) = parts_in_form view.bounds (of ∷ []) (λ h. is.bounds) (All-cons IsSpan of [] mapped (All-nil IsSpan)) in
    All-head IsSpan (shown_part view span) [] (subst (All IsSpan) one all)

-- ---- both

pub shown_is : (view : KeyView) (layer : KeyLayer) (dels : List KeySpan) (rows : List KeyRow) → dels ≡ map (shown_part view) (filter (is_shown view) layer.dels) → rows ≡ map (mapped_row view) (filter (is_held view) layer.rows) → layer_of dels rows ≡ viewed view layer
unfolding viewed
shown_is view layer dels rows dels_are rows_are = λ i. layer_of ((dels_are ∙ sym (spans_cut view layer.dels)) i) ((rows_are ∙ sym (rows_mapped view layer.rows)) i)
