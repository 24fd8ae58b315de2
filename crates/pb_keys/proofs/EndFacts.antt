-- The lesser and the greater of two byte strings: what is below them, and that both are ends where both strings are.
use Rattle.std.proofs.Common.{◌≡◌, ℕ, List, true, false, cond, refl, ap}
use Rattle.std.specs.Prelude.{◌&&◌, ◌||◌}
use Rattle.pb_keys.specs.Order.{is_below, lesser, greater}
use Rattle.pb_keys.specs.Span.{IsEnd}
use Rattle.pb_keys.proofs.OrderFacts.{below_chain, below_upto, same_bytes}
use Rattle.pb_keys.proofs.Tests.{both_below, both_below_first, one_below, one_below_first}

pub below-lesser : (p a b : List ℕ) → is_below p (lesser a b) ≡ (is_below p a && is_below p b)
below-lesser p a b =
    elim (is_below b a) as (λ t. is_below b a ≡ t → is_below p (cond t b a) ≡ (is_below p a && is_below p b)) [
      | true ↦ λ e. both_below (is_below p a) (is_below p b) (λ h. below_chain p b a h e)
      | false ↦ λ e. both_below_first (is_below p a) (is_below p b) (λ h. below_upto p a b h e)
    ] refl

pub below-greater : (p a b : List ℕ) → is_below p (greater a b) ≡ (is_below p a || is_below p b)
below-greater p a b =
    elim (is_below a b) as (λ t. is_below a b ≡ t → is_below p (cond t b a) ≡ (is_below p a || is_below p b)) [
      | true ↦ λ e. one_below (is_below p a) (is_below p b) (λ h. below_chain p a b h e)
      | false ↦ λ e. one_below_first (is_below p a) (is_below p b) (λ h. below_upto p b a h e)
    ] refl

-- `is_below b a ≡ false` says that a is at most b
pub greater_first : (a b : List ℕ) → is_below a b ≡ false → greater a b ≡ a
greater_first a b h = ap (λ t. cond t b a) h

pub greater_second : (a b : List ℕ) → is_below b a ≡ false → greater a b ≡ b
greater_second a b h =
    elim (is_below a b) as (λ t. is_below a b ≡ t → cond t b a ≡ b) [
      | true ↦ λ e. refl
      | false ↦ λ e. same_bytes a b e h
    ] refl

pub lesser_first : (a b : List ℕ) → is_below b a ≡ false → lesser a b ≡ a
lesser_first a b h = ap (λ t. cond t b a) h

pub lesser_second : (a b : List ℕ) → is_below a b ≡ false → lesser a b ≡ b
lesser_second a b h =
    elim (is_below b a) as (λ t. is_below b a ≡ t → cond t b a ≡ b) [
      | true ↦ λ e. refl
      | false ↦ λ e. same_bytes a b h e
    ] refl

pub lesser_is_end : (a b : List ℕ) → IsEnd a → IsEnd b → IsEnd (lesser a b)
lesser_is_end a b is_a is_b = elim (is_below b a) as (λ t. IsEnd (cond t b a)) [ true ↦ is_b | false ↦ is_a ]

pub greater_is_end : (a b : List ℕ) → IsEnd a → IsEnd b → IsEnd (greater a b)
greater_is_end a b is_a is_b = elim (is_below a b) as (λ t. IsEnd (cond t b a)) [ true ↦ is_b | false ↦ is_a ]
