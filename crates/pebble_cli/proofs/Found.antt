-- What an opening finds of a history: the count tells which of the two.
use Rattle.std.proofs.Common.{◌≡◌, ℕ, ◌==◌, Bool, true, false, not, if◌then◌else◌, inl, inr, Option, Some, None, MatchBool, IsSome, refl, sym, ap, ◌∙◌, subst, arith}
use Rattle.std.proofs.lemmas.Bool.{cond-true, cond-false, eq-eqb, ne_eqb}
use Rattle.pb_keys.specs.Map.{Map}
use Rattle.pb_rows.specs.Changing.{Changing}
use Rattle.pb_machine.specs.Family.{History}
use Rattle.pb_machine.specs.After.{found_map, map_with}
use Rattle.pb_machine.specs.Agreement.{IsAccepted, IsHistory}
use Rattle.pb_machine.specs.Replies.{changed_by}
use Rattle.pb_machine.specs.Trail.{IsHistoryCount}

-- ---- tests

pub at_true : (b : Bool) (P Q : Type 0) → b ≡ true → P → MatchBool b P Q
at_true b P Q is h = subst (λ (x : Bool). MatchBool x P Q) (sym is) h

pub at_false : (b : Bool) (P Q : Type 0) → b ≡ false → Q → MatchBool b P Q
at_false b P Q is h = subst (λ (x : Bool). MatchBool x P Q) (sym is) h

pub of_true : (b : Bool) (P Q : Type 0) → b ≡ true → MatchBool b P Q → P
of_true b P Q is h = subst (λ (x : Bool). MatchBool x P Q) is h

pub of_false : (b : Bool) (P Q : Type 0) → b ≡ false → MatchBool b P Q → Q
of_false b P Q is h = subst (λ (x : Bool). MatchBool x P Q) is h

-- ---- what an opening finds of a history

-- the count that it finds tells which of the two
abbrev pub FoundAs : History → ℕ → Map → Type 0
FoundAs history n m = IsHistoryCount history n × (m ≡ found_map history n)

found_same : (history : History) (n : ℕ) (m : Map) → history.has_begun ≡ true → IsAccepted history n m → FoundAs history n m
found_same history n m begun is = (
  inl is.0,
  is.1
      ∙ sym (cond-true (n == history.count) history.map (map_with history.pending history.map) (eq-eqb n history.count is.0))
      ∙ sym (ap (λ b. if not b then history.map else (if n == history.count then history.map else map_with history.pending history.map)) begun),
)

found_more : (history : History) (n : ℕ) (m : Map) (pending : Option Changing) → history.has_begun ≡ true → history.pending ≡ pending
    → IsAccepted (changed_by pending history) n m → FoundAs history n m
found_more history n m None begun none is = found_same history n m begun is
found_more history n m (Some change) begun some is = (
  inr (subst (λ (p : Option Changing). IsSome p) (sym some) refl, is.0),
  is.1
      ∙ sym (ap (λ (p : Option Changing). map_with p history.map) some)
      ∙ sym (cond-false (n == history.count) history.map (map_with history.pending history.map)
      (ne_eqb n history.count (λ same. omega (arith, same, is.0))))
      ∙ sym (ap (λ b. if not b then history.map else (if n == history.count then history.map else map_with history.pending history.map)) begun),
)

pub found_kept : (history : History) (n : ℕ) (m : Map) → history.has_begun ≡ true → IsHistory history n m → FoundAs history n m
found_kept history n m begun is =
    elim is [
      | inl same ↦ found_same history n m begun same
      | inr more ↦ found_more history n m history.pending begun refl more
    ]

pub found_first : (history : History) (n : ℕ) → history.has_begun ≡ false → found_map history n ≡ history.map
found_first history n unbegun =
    ap (λ b. if not b then history.map else (if n == history.count then history.map else map_with history.pending history.map)) unbegun
