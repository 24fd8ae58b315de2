-- The least level that is lent is the least from which on all are remote.
use Rattle.std.proofs.Common.{◌≡◌, ℕ, ◌+◌, ◌≤◌, List, [], ◌∷◌, Bool, true, false, cond, refl, ap, sym, ◌∙◌, arith, inl, inr}
use Rattle.std.proofs.lemmas.Bool.{and_parts, and_from}
use Rattle.std.proofs.lemmas.List.Elements.{All-nil, All-cons, All-head, All-tail}
use Rattle.std.specs.Prelude.{◌⊎◌, ◌↔◌, not, ◌||◌, All}
use Rattle.std.specs.List.{list_all}
use Rattle.pb_keys.specs.Span.{KeySpan, overlap}
use Rattle.pb_version.specs.Version.{TableView, VersionView, tables_of_level}
use Rattle.pb_lend.specs.Lent.{may_be_lent, level_is_remote, least_lent}

-- ---- a level

module _ (is_remote : ℕ → Bool) (span : KeySpan) where
  abbrev StandsRemote : TableView → Type 0
  StandsRemote t = overlap t.view.bounds span ≡ true → is_remote t.backing ≡ true

  if_it_overlaps : (a r : Bool) → (not a || r) ≡ true → a ≡ true → r ≡ true
  if_it_overlaps true r h e = h
  if_it_overlaps false r h e = cc

  or_beside : (a r : Bool) → (a ≡ true → r ≡ true) → (not a || r) ≡ true
  or_beside true r h = h refl
  or_beside false r h = refl

  each_remote : (ts : List TableView) → list_all (may_be_lent is_remote span) ts ≡ true → All StandsRemote ts
  each_remote [] h = All-nil StandsRemote
  each_remote (t ∷ ts) h =
      let both = and_parts (may_be_lent is_remote span t) (list_all (may_be_lent is_remote span) ts) h in
      All-cons StandsRemote t ts (if_it_overlaps (overlap t.view.bounds span) (is_remote t.backing) both.0) (each_remote ts both.1)

  all_remote : (ts : List TableView) → All StandsRemote ts → list_all (may_be_lent is_remote span) ts ≡ true
  all_remote [] all = refl
  all_remote (t ∷ ts) all =
      and_from (may_be_lent is_remote span t) (list_all (may_be_lent is_remote span) ts)
      (or_beside (overlap t.view.bounds span) (is_remote t.backing) (All-head StandsRemote t ts all))
      (all_remote ts (All-tail StandsRemote t ts all))

pub level_remote : (v : VersionView) (is_remote : ℕ → Bool) (level : ℕ) (span : KeySpan) →
    level_is_remote v is_remote level span ≡ true
    ↔ All (λ t. overlap t.view.bounds span ≡ true → is_remote t.backing ≡ true) (tables_of_level v level)
level_remote v is_remote level span = (
  each_remote is_remote span (tables_of_level v level),
  all_remote is_remote span (tables_of_level v level),
)

-- ---- both levels, by their tests

abbrev least : Bool → Bool → ℕ
least fifth sixth = cond sixth (cond fifth 5 6) 7

five : (fifth sixth : Bool) → least fifth sixth ≡ 5 ↔ (fifth ≡ true) × (sixth ≡ true)
five true true = (λ e. (refl, refl), λ both. refl)
five false true = (λ e. absurd (omega (arith, e)), λ both. let bad : false ≡ true = both.0 in cc)
five fifth false = (λ e. absurd (omega (arith, e)), λ both. let bad : false ≡ true = both.1 in cc)

six : (fifth sixth : Bool) → least fifth sixth ≡ 6 ↔ (fifth ≡ false) × (sixth ≡ true)
six true true = (λ e. absurd (omega (arith, e)), λ both. let bad : true ≡ false = both.0 in cc)
six false true = (λ e. (refl, refl), λ both. refl)
six fifth false = (λ e. absurd (omega (arith, e)), λ both. let bad : false ≡ true = both.1 in cc)

seven : (fifth sixth : Bool) → least fifth sixth ≡ 7 ↔ sixth ≡ false
seven true true = (λ e. absurd (omega (arith, e)), λ h. let bad : true ≡ false = h in cc)
seven false true = (λ e. absurd (omega (arith, e)), λ h. let bad : true ≡ false = h in cc)
seven fifth false = (λ e. refl, λ h. refl)

pub least_five : (v : VersionView) (is_remote : ℕ → Bool) (span : KeySpan) →
    least_lent v is_remote span ≡ 5 ↔ (level_is_remote v is_remote 5 span ≡ true) × (level_is_remote v is_remote 6 span ≡ true)
least_five v is_remote span = five (level_is_remote v is_remote 5 span) (level_is_remote v is_remote 6 span)

pub least_six : (v : VersionView) (is_remote : ℕ → Bool) (span : KeySpan) →
    least_lent v is_remote span ≡ 6 ↔ (level_is_remote v is_remote 5 span ≡ false) × (level_is_remote v is_remote 6 span ≡ true)
least_six v is_remote span = six (level_is_remote v is_remote 5 span) (level_is_remote v is_remote 6 span)

pub least_seven : (v : VersionView) (is_remote : ℕ → Bool) (span : KeySpan) →
    least_lent v is_remote span ≡ 7 ↔ level_is_remote v is_remote 6 span ≡ false
least_seven v is_remote span = seven (level_is_remote v is_remote 5 span) (level_is_remote v is_remote 6 span)

-- ---- the least from which on all are

module _ (remote : ℕ → Bool) where
  abbrev AllFrom : ℕ → Type 0
  AllFrom from = (level : ℕ) → from ≤ level → level ≤ 6 → remote level ≡ true

  -- the levels are 5 and 6
  from_five : (level : ℕ) → 5 ≤ level → level ≤ 6 → (level ≡ 5) ⊎ (level ≡ 6)
  from_five level low high = grind arith

  reaches : (fifth sixth : Bool) (from : ℕ) → remote 5 ≡ fifth → remote 6 ≡ sixth → 5 ≤ from → from ≤ 7 →
      least fifth sixth ≤ from → AllFrom from
  reaches true true from fifth sixth low high upto level here deep =
      elim (from_five level (omega arith) deep) [
        | inl is ↦ ap remote is ∙ fifth
        | inr is ↦ ap remote is ∙ sixth
      ]
  reaches false true from fifth sixth low high upto level here deep =
      elim (from_five level (omega arith) deep) [
        | inl is ↦ absurd (omega (arith, is))
        | inr is ↦ ap remote is ∙ sixth
      ]
  reaches fifth_is false from fifth sixth low high upto level here deep = absurd (omega arith)

  least_of : (fifth sixth : Bool) (from : ℕ) → remote 5 ≡ fifth → remote 6 ≡ sixth → 5 ≤ from → from ≤ 7 →
      AllFrom from → least fifth sixth ≤ from
  least_of true true from fifth sixth low high all = low
  least_of false true from fifth sixth low high all =
      elim (at_most from 5) [
        | inl upto ↦ let bad : true ≡ false = sym (all 5 upto (omega arith)) ∙ fifth in cc
        | inr above ↦ omega (arith, above)
      ]
    where
      at_most : (m n : ℕ) → (m ≤ n) ⊎ (n + 1 ≤ m)
      at_most m n = grind arith
  least_of fifth_is false from fifth sixth low high all =
      elim (at_most from 6) [
        | inl upto ↦ let bad : true ≡ false = sym (all 6 upto (omega arith)) ∙ sixth in cc
        | inr above ↦ omega (arith, above)
      ]
    where
      at_most : (m n : ℕ) → (m ≤ n) ⊎ (n + 1 ≤ m)
      at_most m n = grind arith

pub least_from : (v : VersionView) (is_remote : ℕ → Bool) (span : KeySpan) (from : ℕ) → 5 ≤ from → from ≤ 7 →
    least_lent v is_remote span ≤ from ↔ ((level : ℕ) → from ≤ level → level ≤ 6 → level_is_remote v is_remote level span ≡ true)
least_from v is_remote span from low high =
    let remote = λ (level : ℕ). level_is_remote v is_remote level span in
    (reaches remote (remote 5) (remote 6) from refl refl low high, least_of remote (remote 5) (remote 6) from refl refl low high)
