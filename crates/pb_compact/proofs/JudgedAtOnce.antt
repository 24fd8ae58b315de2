-- What is chosen is judged well by the version that it is chosen from: no other table of the next level lies within the inputs' bounds.
use Rattle.std.proofs.Common.{◌≡◌, ℕ, ◌+◌, List, ◌++◌, Bool, true, false, cond, refl, ap, sym, ◌∙◌, inl, inr, eq-eqb}
use Rattle.std.proofs.lemmas.List.Elements.{All-map}
use Rattle.std.specs.Prelude.{not, ◌&&◌, ◌==◌, map, Some, None, Contains}
use Rattle.std.specs.List.{list_any}
use Rattle.std.specs.Option.{option_or}
use Rattle.pb_keys.specs.Order.{is_below}
use Rattle.pb_keys.specs.Span.{KeySpan, overlap, joined}
use Rattle.pb_keys.proofs.OrderFacts.{below_chain, below_upto, upto_chain}
use Rattle.pb_rows.proofs.HullHolds.{LiesWithin, hull_keeps}
use Rattle.pb_version.specs.Version.{TableView, VersionView, tables_of_level}
use Rattle.pb_version.specs.Rules.{is_plain_view}
use Rattle.pb_version.proofs.Kept.{rises}
use Rattle.pb_version.proofs.Levels.{list_all_flattened, test_on}
use Rattle.pb_compact.specs.Chosen.{Chosen, meets, hull_of_tables, firsts_of, seconds_of, chosen_of}
use Rattle.pb_compact.specs.Compacted.{AreInPlace, LieWithinInputs, input_tables, is_input, is_missing, is_in_the_way, is_within, judged}
use Rattle.pb_compact.proofs.Chosen.{tables_are, is_input_of, second_is_input}
use Rattle.pb_compact.proofs.Choosing.{turn, stand, within_hull, no_tables, clear_of_second}
use Rattle.pb_compact.proofs.Judging.{least_of_none}
use Rattle.pb_compact.proofs.Left.{none_passes}
use Rattle.pb_compact.proofs.Members.{In, in_list, contains, every, for_each, any_of, all_of, of_filter, into_filter, of_append}
use Rattle.pb_compact.proofs.Overlaps.{Meet, meet, not_met, never_met, clear_of_inner, within_says}

-- ---- on one side

-- what doesn't reach above an end, joined
joined_upto : (end : List ℕ) (s u : KeySpan) → is_below end s.hi ≡ false → is_below end u.hi ≡ false → is_below end (joined s u).hi ≡ false
joined_upto end s u one two = elim (is_below s.hi u.hi) as (λ b. is_below end (cond b u.hi s.hi) ≡ false) [ true ↦ two | false ↦ one ]

joined_from : (end : List ℕ) (s u : KeySpan) → is_below s.lo end ≡ false → is_below u.lo end ≡ false → is_below (joined s u).lo end ≡ false
joined_from end s u one two = elim (is_below u.lo s.lo) as (λ b. is_below (cond b u.lo s.lo) end ≡ false) [ true ↦ two | false ↦ one ]

false_from : (b : Bool) → (b ≡ true → ⊥) → b ≡ false
false_from true never = absurd (never refl)
false_from false never = refl

module _ (v : VersionView) (level : ℕ) (span : KeySpan) (place : AreInPlace v) (t : TableView)
    (stands : In (tables_of_level v (level + 1)) t)
    (apart : meets (hull_of_tables (firsts_of v level span)) t ≡ false) where
  abbrev firsts : List TableView
  firsts = firsts_of v level span

  abbrev seconds : List TableView
  seconds = seconds_of v level span

  abbrev lo : List ℕ
  lo = t.view.bounds.lo

  abbrev hi : List ℕ
  hi = t.view.bounds.hi

  wide : is_below lo hi ≡ true
  wide = rises t (all_of (λ (u : TableView). is_plain_view u.view) (tables_of_level v (level + 1)) t
      (test_on (λ (u : TableView). is_plain_view u.view) v.levels (level + 1)
      (sym (list_all_flattened (λ (u : TableView). is_plain_view u.view) v.levels) ∙ place.views)) stands)

  met_by : (u : TableView) → In seconds u → meets (hull_of_tables firsts) u ≡ true
  met_by u has = let both = of_filter (meets (hull_of_tables firsts)) (tables_of_level v (level + 1)) u has in both.passes

  -- the hull of all inputs keeps what each of their bounds does
  of_both : (P : KeySpan → Type 0) → ((s u : KeySpan) → P s → P u → P (joined s u)) → ((u : TableView) → In firsts u → P u.view.bounds) →
      ((u : TableView) → In seconds u → P u.view.bounds) → (hull : KeySpan) → hull_of_tables (firsts ++ seconds) ≡ Some hull → P hull
  of_both P join of_first of_second hull is =
      hull_keeps P join (map (λ (u : TableView). u.view.bounds) (firsts ++ seconds)) hull
      (All-map P (λ (u : TableView). u.view.bounds) (firsts ++ seconds)
      (for_each (λ (u : TableView). P u.view.bounds) (firsts ++ seconds) (λ u has.
      elim (of_append firsts seconds u has) [ inl first ↦ of_first u first | inr second ↦ of_second u second ]))) is

  module _ (first : KeySpan) (first_is : hull_of_tables firsts ≡ Some first) (clear : overlap t.view.bounds first ≡ false) where
    met_first : (u : TableView) → In seconds u → Meet u.view.bounds first
    met_first u has = meet u.view.bounds first (sym (ap (λ o. meets o u) first_is) ∙ met_by u has)

    lies_in : (u : TableView) → In firsts u → LiesWithin first u.view.bounds
    lies_in u has = within_hull firsts first u first_is has

    no_meeting : (u : TableView) → In seconds u → Meet t.view.bounds u.view.bounds → ⊥
    no_meeting u has = never_met t.view.bounds u.view.bounds (clear_of_second v level span place t u stands apart has)

    -- behind all of them
    behind : is_below lo first.hi ≡ false → (hull : KeySpan) → hull_of_tables (firsts ++ seconds) ≡ Some hull → is_below lo hull.hi ≡ false
    behind past = of_both (λ s. is_below lo s.hi ≡ false) (joined_upto lo)
        (λ u has. upto_chain u.view.bounds.hi first.hi lo (lies_in u has).hi past)
        (λ u has. false_from (is_below lo u.view.bounds.hi) (λ reaches. no_meeting u has (record {
          first = reaches;
          second = below_chain u.view.bounds.lo lo hi (below_upto u.view.bounds.lo first.hi lo (met_first u has).first past) wide;
        })))

    -- in front of all of them
    in_front : is_below first.lo hi ≡ false → (hull : KeySpan) → hull_of_tables (firsts ++ seconds) ≡ Some hull →
        is_below hull.lo hi ≡ false
    in_front past = of_both (λ s. is_below s.lo hi ≡ false) (joined_from hi)
        (λ u has. upto_chain hi first.lo u.view.bounds.lo past (lies_in u has).lo)
        (λ u has. false_from (is_below u.view.bounds.lo hi) (λ begins. no_meeting u has (record {
          first = below_chain lo first.lo u.view.bounds.hi (below_upto lo hi first.lo wide past) (met_first u has).second;
          second = begins;
        })))

    clear_of_all : (hull : KeySpan) → hull_of_tables (firsts ++ seconds) ≡ Some hull → overlap t.view.bounds hull ≡ false
    clear_of_all hull is =
        elim (is_below lo first.hi) as (λ b. is_below lo first.hi ≡ b → overlap t.view.bounds hull ≡ false) [
          | false ↦ λ past. not_met t.view.bounds hull (λ are. let bad : true ≡ false = sym are.first ∙ behind past hull is in cc)
          | true ↦ λ begins.
              let past : is_below first.lo hi ≡ false =
              false_from (is_below first.lo hi) (λ ends. never_met t.view.bounds first clear (record { first = begins; second = ends })) in
              not_met t.view.bounds hull (λ are. let bad : true ≡ false = sym are.second ∙ in_front past hull is in cc)
        ] refl

  pub clear_of_inputs : (hull : KeySpan) → hull_of_tables (firsts ++ seconds) ≡ Some hull → overlap t.view.bounds hull ≡ false
  clear_of_inputs hull is =
      elim (hull_of_tables firsts) as (λ o. hull_of_tables firsts ≡ o → meets o t ≡ false → overlap t.view.bounds hull ≡ false) [
        | None ↦ λ none _. absurd (of_both (λ s. ⊥) (λ s u bad _. bad) (λ u has. no_tables firsts u none has)
            (λ u has. let bad : false ≡ true = sym (ap (λ o. meets o u) none) ∙ met_by u has in cc) hull is)
        | Some first ↦ λ some clear. clear_of_all first some clear hull is
      ] refl apart

-- ---- the judging

module _ (v : VersionView) (level : ℕ) (span : KeySpan) (hulls : List KeySpan) (place : AreInPlace v)
    (within : LieWithinInputs (chosen_of v level span) hulls) where
  abbrev chosen : Chosen
  chosen = chosen_of v level span

  there : (input : ℕ × TableView) → In chosen.inputs input → is_missing v input ≡ false
  there input has = ap not (any_of (λ (t : TableView). t.number == input.1.number) (tables_of_level v input.0) input.1
      (in_list (tables_of_level v input.0) input.1
      (every (λ (i : ℕ × TableView). Contains (tables_of_level v i.0) i.1) chosen.inputs input (stand v level span place) has))
      (eq-eqb input.1.number input.1.number refl))

  hull_is : hull_of_tables (input_tables chosen) ≡ hull_of_tables (firsts_of v level span ++ seconds_of v level span)
  hull_is = ap hull_of_tables (tables_are chosen (turn v level span place))

  no_input : (t : TableView) → In (tables_of_level v (level + 1)) t → is_input chosen (level + 1) t ≡ false →
      meets (hull_of_tables (firsts_of v level span)) t ≡ false
  no_input t has other = false_from (meets (hull_of_tables (firsts_of v level span)) t) (λ met.
      let is = is_input_of chosen (level + 1) t (contains chosen.inputs (level + 1, t)
      (second_is_input chosen (turn v level span place) t
      (into_filter (meets (hull_of_tables (firsts_of v level span))) (tables_of_level v (level + 1)) t has met))) in
      let bad : true ≡ false = sym is ∙ other in cc)

  hull_clear : (t : TableView) → In (tables_of_level v (level + 1)) t → is_input chosen (level + 1) t ≡ false → (hull : KeySpan) →
      In hulls hull →
      overlap t.view.bounds hull ≡ false
  hull_clear t has other hull is_in =
      elim (hull_of_tables (input_tables chosen)) as
      (λ o. hull_of_tables (input_tables chosen) ≡ o → is_within o hull ≡ true → overlap t.view.bounds hull ≡ false) [
        | None ↦ λ _ bad. cc
        | Some all ↦ λ is inside. clear_of_inner t.view.bounds hull all (within_says hull all inside)
            (clear_of_inputs v level span place t has (no_input t has other) all (sym hull_is ∙ is))
      ] refl (every (λ s. is_within (hull_of_tables (input_tables chosen)) s ≡ true) hulls hull within is_in)

  out_of_the_way : (t : TableView) → In (tables_of_level v (level + 1)) t → is_in_the_way chosen hulls t ≡ false
  out_of_the_way t has =
      elim (is_input chosen (level + 1) t) as (λ b. is_input chosen (level + 1) t ≡ b →
      (not b && list_any (λ hull. overlap t.view.bounds hull) hulls) ≡ false) [
        | true ↦ λ _. refl
        | false ↦ λ other. none_passes (λ hull. overlap t.view.bounds hull) hulls (λ hull is_in meets_it.
            let bad : true ≡ false = sym meets_it ∙ hull_clear t has other hull is_in in cc)
      ] refl

  pub judged_well : judged v chosen hulls ≡ None
  judged_well = λ i. option_or
      (least_of_none (λ (input : ℕ × TableView). input.1.number) (is_missing v) chosen.inputs there i)
      (least_of_none (λ (t : TableView). t.number) (is_in_the_way chosen hulls) (tables_of_level v (level + 1)) out_of_the_way i)
