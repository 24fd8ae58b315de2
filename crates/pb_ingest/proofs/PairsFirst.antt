-- The first pair of spans that overlap is there, is the least, and is missed only where there is none.
use Rattle.std.proofs.Common.{◌≡◌, ℕ, ◌+◌, ◌<◌, ◌≤◌, zero, suc, List, [], ◌∷◌, Bool, true, false, cond, length, drop, get_or, refl, ap, sym, ◌∙◌, arith, inl, inr}
use Rattle.std.proofs.lemmas.Bool.{both_ways, cases_lt, ltb-false, not-true}
use Rattle.std.proofs.lemmas.List.{drop_more, drop_all}
use Rattle.std.proofs.lemmas.List.Quantifiers.{position-Some}
use Rattle.std.proofs.lemmas.List.Sums.{prefix_len_passes}
use Rattle.std.specs.Prelude.{◌⊎◌, not, Option, Some, None, option_map, IfSome, nat_lt}
use Rattle.std.specs.List.{position, position_or_len}
use Rattle.pb_keys.specs.Span.{KeySpan, span_of, overlap}
use Rattle.pb_ingest.specs.Pairs.{pair_or, first_pair, OverlapAt}

abbrev nothing : KeySpan
nothing = span_of [] []

-- the pair overlaps, and each other one that does stands behind it
pub record IsFirst (spans : List KeySpan) (pair : ℕ × ℕ) : Type 0 where
  pub at : OverlapAt spans pair.0 pair.1
  pub least : (i j : ℕ) → OverlapAt spans i j → (pair.0 < i) ⊎ ((pair.0 ≡ i) × (pair.1 ≤ j))

-- it is this one, or there is none
abbrev pub Finds : List KeySpan → Option (ℕ × ℕ) → Type 0
Finds spans (Some pair) = IsFirst spans pair
Finds spans None = (i j : ℕ) → ¬ (OverlapAt spans i j)

-- ---- places where no span passes

stops : (n len : ℕ) → cond (nat_lt n len) (Some n) None ≡ None → nat_lt n len ≡ false
stops n len e = by_test (nat_lt n len) e
  where
    by_test : (b : Bool) → cond b (Some n) None ≡ None → b ≡ false
    by_test true e = cc
    by_test false e = refl

none_at : (q : KeySpan → Bool) (spans : List KeySpan) (k : ℕ) → position q spans ≡ None → k < length spans → q (get_or spans k nothing) ≡ false
none_at q spans k e h =
    let past = ltb-false (position_or_len q spans) (length spans) (stops (position_or_len q spans) (length spans) e) in
    not-true (q (get_or spans k nothing)) (prefix_len_passes (λ s. not (q s)) spans k nothing (omega (arith, past, h)))

-- ---- one span more in front

module _ (s : KeySpan) (spans : List KeySpan) where
  further : (i j : ℕ) → OverlapAt spans i j → OverlapAt (s ∷ spans) (suc i) (suc j)
  further i j at = record { behind = omega (arith, at.behind); within = omega (arith, at.within); overlap = at.overlap }

  nearer : (i j : ℕ) → OverlapAt (s ∷ spans) (suc i) (suc j) → OverlapAt spans i j
  nearer i j at = record { behind = omega (arith, at.behind); within = omega (arith, at.within); overlap = at.overlap }

  first_here : (behind : ℕ) → position (overlap s) spans ≡ Some behind → IsFirst (s ∷ spans) (zero, suc behind)
  first_here behind e =
      let found = position-Some (overlap s) spans behind nothing e in
      record {
        at = record { behind = omega arith; within = omega (arith, found.0); overlap = found.1 };
        least = least;
      }
    where
      least : (i j : ℕ) → OverlapAt (s ∷ spans) i j → (zero < i) ⊎ ((zero ≡ i) × (suc behind ≤ j))
      least zero zero at = absurd (omega (arith, at.behind))
      least zero (suc j) at =
          let found = position-Some (overlap s) spans behind nothing e in
          elim (cases_lt j behind) [
            | inl low ↦ absurd (both_ways (overlap s (get_or spans j nothing)) (found.2 j low) at.overlap)
            | inr past ↦ inr (refl, omega (arith, past))
          ]
      least (suc i) j at = inl (omega arith)

  not_here : (j : ℕ) → position (overlap s) spans ≡ None → ¬ (OverlapAt (s ∷ spans) zero (suc j))
  not_here j e at = both_ways (overlap s (get_or spans j nothing)) (none_at (overlap s) spans j e (omega (arith, at.within))) at.overlap

  first_later : (p : Option (ℕ × ℕ)) → position (overlap s) spans ≡ None → Finds spans p → Finds (s ∷ spans) (pair_or None p)
  first_later None e none = λ i j at. nowhere i j at
    where
      nowhere : (i j : ℕ) → ¬ (OverlapAt (s ∷ spans) i j)
      nowhere zero zero at = absurd (omega (arith, at.behind))
      nowhere zero (suc j) at = not_here j e at
      nowhere (suc i) zero at = absurd (omega (arith, at.behind))
      nowhere (suc i) (suc j) at = none i j (nearer i j at)
  first_later (Some pair) e first = record { at = further pair.0 pair.1 first.at; least = least }
    where
      least : (i j : ℕ) → OverlapAt (s ∷ spans) i j → (suc pair.0 < i) ⊎ ((suc pair.0 ≡ i) × (suc pair.1 ≤ j))
      least zero zero at = absurd (omega (arith, at.behind))
      least zero (suc j) at = absurd (not_here j e at)
      least (suc i) zero at = absurd (omega (arith, at.behind))
      least (suc i) (suc j) at =
          elim (first.least i j (nearer i j at)) [
            | inl before ↦ inl (omega (arith, before))
            | inr same ↦ inr (ap suc same.0, omega (arith, same.1))
          ]

  by_position : (o : Option ℕ) → position (overlap s) spans ≡ o → Finds spans (first_pair spans) → Finds (s ∷ spans) (pair_or o (first_pair spans))
  by_position (Some behind) e later = first_here behind e
  by_position None e later = first_later (first_pair spans) e later

pub finds_first : (spans : List KeySpan) → Finds spans (first_pair spans)
finds_first [] = λ i j at. absurd (omega (arith, at.within))
finds_first (s ∷ spans) = by_position s spans (position (overlap s) spans) refl (finds_first spans)

-- ---- in the words of the clauses

pub found_at : (spans : List KeySpan) (o : Option (ℕ × ℕ)) → Finds spans o → IfSome o (λ pair. OverlapAt spans pair.0 pair.1)
found_at spans (Some pair) finds = finds.at
found_at spans None finds = tt

pub found_least : (spans : List KeySpan) (o : Option (ℕ × ℕ)) → Finds spans o →
    IfSome o (λ pair. (i j : ℕ) → OverlapAt spans i j → (pair.0 < i) ⊎ ((pair.0 ≡ i) × (pair.1 ≤ j)))
found_least spans (Some pair) finds = finds.least
found_least spans None finds = tt

pub none_found : (spans : List KeySpan) (o : Option (ℕ × ℕ)) → Finds spans o → o ≡ None → (i j : ℕ) → ¬ (OverlapAt spans i j)
none_found spans (Some pair) finds e = cc
none_found spans None finds e = finds

pub finds_none : (spans : List KeySpan) (o : Option (ℕ × ℕ)) → Finds spans o → ((i j : ℕ) → ¬ (OverlapAt spans i j)) → o ≡ None
finds_none spans (Some pair) finds none = absurd (none pair.0 pair.1 finds.at)
finds_none spans None finds none = refl

-- ---- the loop

-- a pair, so many places further on
abbrev pub moved : ℕ → Option (ℕ × ℕ) → Option (ℕ × ℕ)
moved n pair = option_map (λ p. (n + p.0, n + p.1)) pair

pub moved_none : (o : Option (ℕ × ℕ)) → o ≡ moved 0 o
moved_none (Some pair) =
    let first : pair.0 ≡ 0 + pair.0 = omega arith in
    let second : pair.1 ≡ 0 + pair.1 = omega arith in
    λ i. Some (first i, second i)
moved_none None = refl

moved_on : (n : ℕ) (o : Option (ℕ × ℕ)) → moved n (pair_or None o) ≡ moved (n + 1) o
moved_on n (Some pair) =
    let first : n + suc pair.0 ≡ (n + 1) + pair.0 = omega arith in
    let second : n + suc pair.1 ≡ (n + 1) + pair.1 = omega arith in
    λ i. Some (first i, second i)
moved_on n None = refl

module _ (hulls : List KeySpan) (at : ℕ) (hull : KeySpan) (so_far : first_pair hulls ≡ moved at (first_pair (drop at hulls)))
    (within : at < length hulls) (is : hull ≡ get_or hulls at hull) where
  abbrev others : List KeySpan
  others = drop (at + 1) hulls

  from_here : first_pair hulls ≡ moved at (pair_or (position (overlap hull) others) (first_pair others))
  from_here = so_far ∙ ap (λ ss. moved at (first_pair ss)) (drop_more hulls at hull within ∙ ap (λ s. s ∷ others) (sym is))

  pub pair_here : (behind : ℕ) → position (overlap hull) others ≡ Some behind → Some (at, (at + 1) + behind) ≡ first_pair hulls
  pair_here behind e =
      let first : at ≡ at + zero = omega arith in
      let second : (at + 1) + behind ≡ at + suc behind = omega arith in
      (λ i. Some (first i, second i)) ∙ sym (from_here ∙ ap (λ o. moved at (pair_or o (first_pair others))) e)

  pub pair_later : position (overlap hull) others ≡ None → first_pair hulls ≡ moved (at + 1) (first_pair others)
  pair_later e = from_here ∙ ap (λ o. moved at (pair_or o (first_pair others))) e ∙ moved_on at (first_pair others)

pub no_pair : (hulls : List KeySpan) (at : ℕ) → first_pair hulls ≡ moved at (first_pair (drop at hulls)) → length hulls ≤ at → None ≡ first_pair hulls
no_pair hulls at so_far past = sym (so_far ∙ ap (λ ss. moved at (first_pair ss)) (drop_all at hulls past))
