-- The tests of forms, and what they say.
use Rattle.std.proofs.Common.{◌≡◌, ◌≢◌, ℕ, ◌≤◌, List, [], ◌∷◌, Bool, true, false, length, get_or, refl, ap, sym, ◌∙◌, arith, inl, inr, eq-eqb}
use Rattle.std.proofs.lemmas.Bool.Decides.{nat_tests}
use Rattle.std.proofs.lemmas.List.Folds.{list_any_at, list_any_none}
use Rattle.std.specs.Prelude.{not, nat_le, ◌==◌, ◌&&◌, ◌↔◌, All}
use Rattle.std.specs.List.{list_any}
use Rattle.pb_keys.specs.Order.{is_below}
use Rattle.pb_keys.specs.Key.{IsKey, at_sign, is_key}
use Rattle.pb_keys.specs.Span.{KeySpan, IsEnd, IsSpan, has_no_at, is_end, is_span}
use Rattle.pb_keys.specs.Value.{IsValue, is_value}
use Rattle.pb_keys.specs.View.{KeyView, IsPrefix, IsSuffix, IsMapping, IsView, is_prefix, is_suffix, is_mapping, is_view}
use Rattle.pb_keys.proofs.KeyFacts.{other_byte}
use Rattle.std.proofs.lemmas.Bool.{and_from, and_parts, le-leb}

-- ---- tests of two and three parts

pub three : (a b c : Bool) → a ≡ true → b ≡ true → c ≡ true → (a && b && c) ≡ true
three a b c p q r = grind (arith, nat_tests)

pub of_three : (a b c : Bool) → (a && b && c) ≡ true → (a ≡ true) × (b ≡ true) × (c ≡ true)
of_three a b c e = grind (arith, nat_tests)

of_at_most : (n limit : ℕ) → nat_le n limit ≡ true → n ≤ limit
of_at_most n limit e = grind (arith, nat_tests)

-- ---- bytes without '@'

pub plain_tests : (bytes : List ℕ) → All (λ b. b ≢ at_sign) bytes → has_no_at bytes ≡ true
plain_tests bytes all = ap not (list_any_none (λ b. b == at_sign) bytes (λ k d h. other_byte (get_or bytes k d) (all k d h)))

pub plain_says : (bytes : List ℕ) → has_no_at bytes ≡ true → All (λ b. b ≢ at_sign) bytes
plain_says bytes e = λ k d h is.
    let found : list_any (λ b. b == at_sign) bytes ≡ true = list_any_at (λ b. b == at_sign) bytes k d h (eq-eqb _ _ is) in
    let none : not true ≡ true = sym (ap not found) ∙ e in
    cc

-- ---- keys and values

other_than_at : (b : ℕ) → not (b == at_sign) ≡ true → b ≢ at_sign
other_than_at b h = grind (arith, nat_tests)

pub key_tests : (bytes : List ℕ) → IsKey bytes → is_key bytes ≡ true
key_tests bytes is =
    three (nat_le 1 (length bytes)) (nat_le (length bytes) 1024) (not (get_or bytes 0 0 == at_sign))
    (le-leb 1 (length bytes) is.some) (le-leb (length bytes) 1024 is.within) (ap not (other_byte (get_or bytes 0 0) is.begins))

pub key_says : (bytes : List ℕ) → is_key bytes ≡ true → IsKey bytes
key_says bytes e =
    let parts = of_three (nat_le 1 (length bytes)) (nat_le (length bytes) 1024) (not (get_or bytes 0 0 == at_sign)) e in
    record { some = of_at_most 1 (length bytes) parts.0; within = of_at_most (length bytes) 1024 parts.1; begins = other_than_at (get_or bytes 0 0) parts.2 }

pub value_is : (bytes : List ℕ) → (is_value bytes ≡ true) ↔ IsValue bytes
value_is bytes = (of_at_most (length bytes) 65536, le-leb (length bytes) 65536)

-- ---- ends and spans

pub end_tests : (bytes : List ℕ) → IsEnd bytes → is_end bytes ≡ true
end_tests bytes is =
    three (nat_le 1 (length bytes)) (nat_le (length bytes) 1025) (has_no_at bytes)
    (le-leb 1 (length bytes) is.some) (le-leb (length bytes) 1025 is.within) (plain_tests bytes is.plain)

pub end_says : (bytes : List ℕ) → is_end bytes ≡ true → IsEnd bytes
end_says bytes e =
    let parts = of_three (nat_le 1 (length bytes)) (nat_le (length bytes) 1025) (has_no_at bytes) e in
    record { some = of_at_most 1 (length bytes) parts.0; within = of_at_most (length bytes) 1025 parts.1; plain = plain_says bytes parts.2 }

pub span_tests : (span : KeySpan) → IsSpan span → is_span span ≡ true
span_tests span is = three (is_end span.lo) (is_end span.hi) (is_below span.lo span.hi) (end_tests span.lo is.lo) (end_tests span.hi is.hi) is.rises

pub span_says : (span : KeySpan) → is_span span ≡ true → IsSpan span
span_says span e =
    let parts = of_three (is_end span.lo) (is_end span.hi) (is_below span.lo span.hi) e in
    record { lo = end_says span.lo parts.0; hi = end_says span.hi parts.1; rises = parts.2 }

pub span_fails : (span : KeySpan) → ¬ (IsSpan span) → is_span span ≡ false
span_fails span fails =
    elim (is_span span) as (λ b. is_span span ≡ b → b ≡ false) [
      | true ↦ λ e. absurd (fails (span_says span e))
      | false ↦ λ e. refl
    ] refl

-- ---- what a view puts before keys and in the place of their suffixes

pub prefix_tests : (bytes : List ℕ) → IsPrefix bytes → is_prefix bytes ≡ true
prefix_tests bytes is = and_from (nat_le (length bytes) 1024) (has_no_at bytes) (le-leb (length bytes) 1024 is.within) (plain_tests bytes is.plain)

pub prefix_says : (bytes : List ℕ) → is_prefix bytes ≡ true → IsPrefix bytes
prefix_says bytes e =
    let parts = and_parts (nat_le (length bytes) 1024) (has_no_at bytes) e in
    record { within = of_at_most (length bytes) 1024 parts.0; plain = plain_says bytes parts.1 }

suffix_says_some : (b : ℕ) (bs : List ℕ) → is_suffix (b ∷ bs) ≡ true → (length (b ∷ bs) ≤ 1024) × (b ≡ at_sign)
suffix_says_some b bs e = grind (arith, nat_tests)

suffix_tests_some : (b n : ℕ) → n ≤ 1024 → b ≡ at_sign → (b == at_sign && nat_le n 1024) ≡ true
suffix_tests_some b n within is = grind (arith, nat_tests)

pub suffix_tests : (bytes : List ℕ) → IsSuffix bytes → is_suffix bytes ≡ true
suffix_tests [] is = refl
suffix_tests (b ∷ bs) is = elim is [
  | inl none ↦ cc
  | inr some ↦ suffix_tests_some b (length (b ∷ bs)) some.0 some.1
]

pub suffix_says : (bytes : List ℕ) → is_suffix bytes ≡ true → IsSuffix bytes
suffix_says [] e = inl refl
suffix_says (b ∷ bs) e = inr (suffix_says_some b bs e)

pub mapping_tests : (view : KeyView) → IsMapping view → is_mapping view ≡ true
mapping_tests view is = and_from (is_prefix view.prefix) (is_suffix view.suffix) (prefix_tests view.prefix is.prefix) (suffix_tests view.suffix is.suffix)

pub mapping_says : (view : KeyView) → is_mapping view ≡ true → IsMapping view
mapping_says view e =
    let parts = and_parts (is_prefix view.prefix) (is_suffix view.suffix) e in
    record { prefix = prefix_says view.prefix parts.0; suffix = suffix_says view.suffix parts.1 }

pub view_tests : (view : KeyView) → IsView view → is_view view ≡ true
view_tests view is = and_from (is_mapping view) (is_span view.bounds) (mapping_tests view is.mapping) (span_tests view.bounds is.bounds)

pub view_says : (view : KeyView) → is_view view ≡ true → IsView view
view_says view e =
    let parts = and_parts (is_mapping view) (is_span view.bounds) e in
    record { mapping = mapping_says view parts.0; bounds = span_says view.bounds parts.1 }
