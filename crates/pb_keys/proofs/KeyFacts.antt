-- Where a key's suffix begins, and what its parts hold.
use Rattle.std.proofs.Common.{◌≡◌, ◌≢◌, ℕ, zero, suc, ◌+◌, ◌<◌, ◌≤◌, List, [], ◌∷◌, length, get_or, sym, ap, ◌∙◌, refl, subst, arith, eq-eqb, true, false, inl, inr, length-append}
use Rattle.std.proofs.lemmas.Bool.Decides.{nat_tests}
use Rattle.std.proofs.lemmas.List.Sums.{position_or_len_is, prefix_len-le-length, fails_before_first, passes_at_first}
use Rattle.std.proofs.lemmas.List.{get_or-take}
use Rattle.std.proofs.lemmas.List.Elements.{All-append}
use Rattle.std.proofs.lemmas.List.Folds.{length-prefix_len}
use Rattle.std.proofs.lemmas.Bool.{cases_lt}
use Rattle.std.specs.Prelude.{not, ◌==◌, All}
use Rattle.std.specs.declared.cmp.Ordering.{Ordering}
use Rattle.std.specs.declared.cmp.Ordering.TheVariants.{Less, Equal, Greater}
use Rattle.std.specs.Ordering.{is_lt, ordering_then, ordering_reverse}
use Rattle.std.specs.Cmp.Lexicographic.{nat_list_cmp_total}
use Rattle.pb_keys.specs.Order.{bytes_cmp, is_below, end_above}
use Rattle.pb_keys.specs.Key.{IsKey, suffix_start, prefix_of, suffix_of, key_cmp, at_sign}
use Rattle.pb_keys.specs.Span.{IsEnd, IsSpan, span_of}
use Rattle.pb_keys.proofs.OrderFacts.{below-end_above}

pub suffix_start_within : (key : List ℕ) → suffix_start key ≤ length key
suffix_start_within key = prefix_len-le-length (λ b. not (b == at_sign)) key

pub other_byte : (b : ℕ) → b ≢ at_sign → (b == at_sign) ≡ false
other_byte b h = grind (arith, nat_tests)

-- the place behind bytes of which none is '@', at an '@' or at the end
pub suffix_start_is : (key : List ℕ) (at : ℕ) → at ≤ length key → ((k : ℕ) → k < at → get_or key k 0 ≡ at_sign → ⊥) → (at < length key → get_or key at 0 ≡ at_sign) → at ≡ suffix_start key
suffix_start_is key at within before found =
    sym (position_or_len_is (λ b. b == at_sign) key at 0 within (λ k h. other_byte _ (before k h)) (λ h. eq-eqb _ _ (found h)))

not_at_sign : (b : ℕ) → (b == at_sign) ≡ false → b ≢ at_sign
not_at_sign b h = grind (arith, nat_tests)

is_at_sign : (b : ℕ) → (b == at_sign) ≡ true → b ≡ at_sign
is_at_sign b h = grind (arith, nat_tests)

pub length-prefix_of : (key : List ℕ) → length (prefix_of key) ≡ suffix_start key
length-prefix_of key = length-prefix_len (λ b. not (b == at_sign)) key

-- a key's prefix is not empty
pub prefix_begins : (key : List ℕ) → IsKey key → 1 ≤ suffix_start key
prefix_begins key is =
    elim (cases_lt (suffix_start key) 1) [
      | inl none ↦
          let some : 1 ≤ length key = is.some in
          let start : suffix_start key ≡ 0 = omega arith in
          absurd (is.begins (subst (λ n. get_or key n 0 ≡ at_sign) start (is_at_sign (get_or key (suffix_start key) 0) (passes_at_first (λ b. b == at_sign) key 0 (omega arith)))))
      | inr some ↦ some
    ]

pub prefix_is_plain : (key : List ℕ) → All (λ b. b ≢ at_sign) (prefix_of key)
prefix_is_plain key k d h =
    let before : k < suffix_start key = omega (arith, length-prefix_of key) in
    subst (λ b. b ≢ at_sign) (sym (get_or-take (suffix_start key) key k d before)) (not_at_sign (get_or key k d) (fails_before_first (λ b. b == at_sign) key k d before))

-- a key's prefix is the end of a span, and so is the least end above it
pub prefix_is_end : (key : List ℕ) → IsKey key → IsEnd (prefix_of key)
prefix_is_end key is =
    let begins : 1 ≤ suffix_start key = prefix_begins key is in
    let fits : suffix_start key ≤ length key = suffix_start_within key in
    let within : length key ≤ 1024 = is.within in
    let len : length (prefix_of key) ≡ suffix_start key = length-prefix_of key in
    record { some = omega arith; within = omega arith; plain = prefix_is_plain key }

zero_is_plain : All (λ b. b ≢ at_sign) (0 ∷ [])
zero_is_plain zero d h = λ e. cc
zero_is_plain (suc k) d h = absurd (omega arith)

pub end_above_is_end : (key : List ℕ) → IsKey key → IsEnd (end_above (prefix_of key))
end_above_is_end key is =
    let fits : suffix_start key ≤ length key = suffix_start_within key in
    let within : length key ≤ 1024 = is.within in
    let len : length (prefix_of key) ≡ suffix_start key = length-prefix_of key in
    let longer : length (end_above (prefix_of key)) ≡ length (prefix_of key) + 1 = length-append (prefix_of key) (0 ∷ []) in
    record { some = omega arith; within = omega arith; plain = All-append (λ b. b ≢ at_sign) (prefix_of key) (0 ∷ []) (prefix_is_plain key) zero_is_plain }

not_less_turned : (a b : Ordering) → ordering_then a b ≡ Less → is_lt (ordering_reverse a) ≡ false
not_less_turned Less b e = refl
not_less_turned Equal b e = refl
not_less_turned Greater b e = cc

-- the prefixes of keys in order are in order
pub prefixes_ascend : (a b : List ℕ) → key_cmp a b ≡ Less → is_below (prefix_of b) (prefix_of a) ≡ false
unfolding key_cmp
prefixes_ascend a b less =
    ap is_lt (nat_list_cmp_total.antisymm (prefix_of b) (prefix_of a)) ∙ not_less_turned (bytes_cmp (prefix_of a) (prefix_of b)) (bytes_cmp (suffix_of a) (suffix_of b)) less

-- the least ends above two byte strings in order are in order
pub ends_above_ascend : (p q : List ℕ) → is_below q p ≡ false → is_below (end_above q) (end_above p) ≡ false
ends_above_ascend p q h = below-end_above (end_above q) p ∙ ap not (below-end_above p q ∙ ap not h)

-- from a prefix to the least end above one that is not below it
pub prefixes_are_span : (a b : List ℕ) → IsKey a → IsKey b → is_below (prefix_of b) (prefix_of a) ≡ false → IsSpan (span_of (prefix_of a) (end_above (prefix_of b)))
prefixes_are_span a b is_a is_b h = record { lo = prefix_is_end a is_a; hi = end_above_is_end b is_b; rises = below-end_above (prefix_of a) (prefix_of b) ∙ ap not h }
