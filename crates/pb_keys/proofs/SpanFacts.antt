-- What a span holds.
use Rattle.std.proofs.Common.{◌≡◌, ℕ, List, Bool, true, false, cond, ap, sym, refl, ◌∙◌}
use Rattle.std.specs.Prelude.{not, ◌&&◌}
use Rattle.std.specs.declared.cmp.Ordering.TheVariants.{Equal}
use Rattle.std.proofs.Math.Bool.{and_comm}
use Rattle.pb_keys.specs.Order.{is_below, is_upto, lesser, greater}
use Rattle.pb_keys.specs.Key.{prefix_of, key_cmp}
use Rattle.pb_keys.specs.KeyLaws.{key_cmp_exact}
use Rattle.pb_keys.specs.Span.{KeySpan, IsSpan, holds_key, overlap, joined}
use Rattle.pb_keys.proofs.OrderFacts.{below_itself, below_one_way, below_upto, upto_below}
use Rattle.pb_keys.proofs.EndFacts.{lesser_is_end, greater_is_end}

pub holds_key-ends : (span : KeySpan) (key : List ℕ) → holds_key span key ≡ (is_upto span.lo (prefix_of key) && is_below (prefix_of key) span.hi)
unfolding holds_key
holds_key-ends span key = refl

pub overlap-ends : (a b : KeySpan) → overlap a b ≡ (is_below a.lo b.hi && is_below b.lo a.hi)
unfolding overlap
overlap-ends a b = refl

pub overlap_turns : (s t : KeySpan) → overlap s t ≡ overlap t s
overlap_turns s t = overlap-ends s t ∙ and_comm (is_below s.lo t.hi) (is_below t.lo s.hi) ∙ sym (overlap-ends t s)

-- keys that tie are alike to every test
pub alike_keys : (test : List ℕ → Bool) (a b : List ℕ) → key_cmp a b ≡ Equal → test b ≡ test a
alike_keys test a b e = ap test (sym (key_cmp_exact a b e))

-- ---- the lesser and the greater of two byte strings, and two spans as one

pub lesser_upto : (a b : List ℕ) → is_below a (lesser a b) ≡ false
lesser_upto a b =
    elim (is_below b a) as (λ t. is_below b a ≡ t → is_below a (cond t b a) ≡ false) [
      | true ↦ λ e. below_one_way b a e
      | false ↦ λ e. below_itself a
    ] refl

pub upto_greater : (a b : List ℕ) → is_below (greater a b) a ≡ false
upto_greater a b =
    elim (is_below a b) as (λ t. is_below a b ≡ t → is_below (cond t b a) a ≡ false) [
      | true ↦ λ e. below_one_way a b e
      | false ↦ λ e. below_itself a
    ] refl

pub joined_is_span : (s t : KeySpan) → IsSpan s → IsSpan t → IsSpan (joined s t)
joined_is_span s t is_s is_t =
    let lo = lesser s.lo t.lo in
    let hi = greater s.hi t.hi in
    record {
      lo = lesser_is_end s.lo t.lo is_s.lo is_t.lo;
      hi = greater_is_end s.hi t.hi is_s.hi is_t.hi;
      rises = below_upto lo s.hi hi (upto_below lo s.lo s.hi (lesser_upto s.lo t.lo) is_s.rises) (upto_greater s.hi t.hi);
    }

-- ---- what a span holds lies between its ends

part_lo : (a b : Bool) → (not a && b) ≡ true → a ≡ false
part_lo true b h = cc
part_lo false b h = refl

part_hi : (a b : Bool) → (not a && b) ≡ true → b ≡ true
part_hi true b h = cc
part_hi false b h = h

pub held_from : (s : KeySpan) (key : List ℕ) → holds_key s key ≡ true → is_below (prefix_of key) s.lo ≡ false
held_from s key h = part_lo (is_below (prefix_of key) s.lo) (is_below (prefix_of key) s.hi) (sym (holds_key-ends s key) ∙ h)

pub held_to : (s : KeySpan) (key : List ℕ) → holds_key s key ≡ true → is_below (prefix_of key) s.hi ≡ true
held_to s key h = part_hi (is_below (prefix_of key) s.lo) (is_below (prefix_of key) s.hi) (sym (holds_key-ends s key) ∙ h)
