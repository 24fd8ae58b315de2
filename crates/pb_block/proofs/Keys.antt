-- Keys that begin with the same bytes: where their suffixes begin, and how they compare.
use Rattle.std.proofs.Common.{◌≡◌, ℕ, suc, ◌+◌, ◌<◌, ◌≤◌, true, false, cond, List, [], ◌∷◌, ◌++◌, length, take, drop, get_or, refl, sym}
use Rattle.std.proofs.Common.{ap, ◌∙◌, arith, inl, inr}
use Rattle.std.specs.Prelude.{not, nat_eq, nat_le, min, ◌==◌, if◌then◌else◌}
use borrow.Rule.Slice.PartMut.{put_mid}
use Rattle.std.proofs.lemmas.Slice.{take-put_mid}
use Rattle.std.specs.List.{common_prefix_len}
use Rattle.std.specs.Ordering.{ordering_then, is_lt}
use Rattle.std.specs.Cmp.{tied_itself}
use Rattle.std.proofs.lemmas.Bool.{cases_Bool, cases_lt, eq-eqb, le-leb, lt-leb}
use Rattle.std.proofs.lemmas.Bool.Decides.{nat_tests}
use Rattle.std.proofs.lemmas.List.{take-append-drop, length-drop, length-take, length-take-le, take-take, take-append-le, drop-append-le}
use Rattle.std.specs.Cmp.Lexicographic.{nat_list_cmp_total}
use Rattle.std.proofs.Math.Seq.{take-append-add, drop-append-add}
use Rattle.pb_keys.specs.Order.{bytes_cmp, is_below}
use Rattle.pb_keys.specs.Key.{suffix_start, prefix_of, suffix_of, key_cmp, at_sign}
use Rattle.pb_keys.proofs.OrderFacts.{bytes_cmp-behind}

-- ---- the same beginning

pub shared-behind : (front a b : List ℕ) → common_prefix_len nat_eq (front ++ a) (front ++ b) ≡ length front + common_prefix_len nat_eq a b
shared-behind [] a b = omega arith
shared-behind (x ∷ xs) a b =
    let rest : common_prefix_len nat_eq (xs ++ a) (xs ++ b) ≡ length xs + common_prefix_len nat_eq a b = shared-behind xs a b in
    ap (λ t. cond t (1 + common_prefix_len nat_eq (xs ++ a) (xs ++ b)) 0) (eq-eqb x x refl) ∙ omega arith

-- ---- where the suffix begins

pub start_within : (front rest : List ℕ) → suffix_start front < length front → suffix_start (front ++ rest) ≡ suffix_start front
start_within [] rest h = absurd (omega arith)
start_within (x ∷ xs) rest h = elim (cases_Bool (x == at_sign)) [
  | inl is ↦ rw is refl
  | inr other ↦
      let step : suffix_start (x ∷ xs) ≡ 1 + suffix_start xs = rw other refl in
      let rest_is = start_within xs rest (omega arith) in
      rw other (ap (λ n. 1 + n) rest_is)
]

pub start_behind : (front rest : List ℕ) → length front ≤ suffix_start front
    → suffix_start (front ++ rest) ≡ length front + suffix_start rest
start_behind [] rest h = omega arith
start_behind (x ∷ xs) rest h = elim (cases_Bool (x == at_sign)) [
  | inl is ↦
      let none : suffix_start (x ∷ xs) ≡ 0 = rw is refl in
      absurd (omega arith)
  | inr other ↦
      let step : suffix_start (x ∷ xs) ≡ 1 + suffix_start xs = rw other refl in
      let rest_is = start_behind xs rest (omega arith) in
      rw other (omega arith)
]

-- the front that ends at a place, against the whole
pub record IsWithin (bytes : List ℕ) (at : ℕ) : Type 0 where
  pub front : suffix_start (take at bytes) < length (take at bytes)
  pub start : suffix_start (take at bytes) ≡ suffix_start bytes

whole_start : (bytes : List ℕ) (at : ℕ) → suffix_start (take at bytes ++ drop at bytes) ≡ suffix_start bytes
whole_start bytes at = ap suffix_start (take-append-drop at bytes)

pub is_within : (bytes : List ℕ) (at : ℕ) → at ≤ length bytes → suffix_start bytes < at → IsWithin bytes at
is_within bytes at within before =
    let size : length (take at bytes) ≡ at = length-take-le at bytes within in
    let whole = whole_start bytes at in
    elim (cases_lt (suffix_start (take at bytes)) (length (take at bytes))) [
      | inl here ↦ record { front = here; start = sym (start_within (take at bytes) (drop at bytes) here) ∙ whole }
      | inr past ↦ let behind = start_behind (take at bytes) (drop at bytes) past in absurd (omega arith)
    ]

pub is_past : (bytes : List ℕ) (at : ℕ) → at ≤ length bytes → at ≤ suffix_start bytes
    → length (take at bytes) ≤ suffix_start (take at bytes)
is_past bytes at within before =
    let size : length (take at bytes) ≡ at = length-take-le at bytes within in
    let whole = whole_start bytes at in
    elim (cases_lt (suffix_start (take at bytes)) (length (take at bytes))) [
      | inl here ↦ let same = start_within (take at bytes) (drop at bytes) here in absurd (omega arith)
      | inr past ↦ past
    ]

-- the suffix of a key that begins with a front of another
pub start_kept : (bytes unshared : List ℕ) (at : ℕ) → at ≤ length bytes → suffix_start bytes < at
    → suffix_start (take at bytes ++ unshared) ≡ suffix_start bytes
start_kept bytes unshared at within before =
    let is = is_within bytes at within before in
    start_within (take at bytes) unshared is.front ∙ is.start

pub start_moved : (bytes unshared : List ℕ) (at : ℕ) → at ≤ length bytes → at ≤ suffix_start bytes
    → suffix_start (take at bytes ++ unshared) ≡ at + suffix_start unshared
start_moved bytes unshared at within before =
    start_behind (take at bytes) unshared (is_past bytes at within before)
    ∙ ap (λ (n : ℕ). n + suffix_start unshared) (length-take-le at bytes within)

pub start_joined : (bytes unshared : List ℕ) (at : ℕ) → at ≤ length bytes
    → suffix_start (take at bytes ++ unshared) ≡ (if nat_le at (suffix_start bytes) then at + suffix_start unshared else suffix_start bytes)
start_joined bytes unshared at within = elim (cases_lt (suffix_start bytes) at) [
  | inl before ↦ rw (lt-leb at (suffix_start bytes) before) (start_kept bytes unshared at within before)
  | inr past ↦ rw (le-leb at (suffix_start bytes) past) (start_moved bytes unshared at within past)
]

-- the same of a key that is put in place of another
pub split_put : (bytes unshared written key : List ℕ) (len at size split result : ℕ) → take len bytes ≡ key → at ≤ length key
    → written ≡ unshared
    → split ≡ suffix_start (take len bytes) → result ≡ (if nat_le at split then at + suffix_start unshared else split)
    → result ≡ suffix_start (take (at + length unshared) (put_mid at size bytes written))
split_put bytes unshared written key len at size split result is_key within is_written is_split is =
    let whole : length key ≡ min len (length bytes) = ap length (sym is_key) ∙ length-take len bytes in
    let end : at + length unshared ≡ at + length written = ap (λ (t : List ℕ). at + length t) (sym is_written) in
    let placed : take (at + length unshared) (put_mid at size bytes written) ≡ take at bytes ++ written =
    take-put_mid at size bytes written (at + length unshared) end (omega arith) in
    let front : take at bytes ≡ take at key = sym (take-take at len bytes (omega arith)) ∙ ap (take at) is_key in
    let joined : take (at + length unshared) (put_mid at size bytes written) ≡ take at key ++ unshared = placed
    ∙ (λ i. front i ++ is_written i) in
    let same : split ≡ suffix_start key = is_split ∙ ap suffix_start is_key in
    is ∙ ap (λ (n : ℕ). if nat_le at n then at + suffix_start unshared else n) same ∙ sym (start_joined key unshared at within)
    ∙ ap suffix_start (sym joined)

-- ---- how they compare

cmp_within : (front a b : List ℕ) → suffix_start front < length front → key_cmp (front ++ a) (front ++ b) ≡ bytes_cmp a b
unfolding key_cmp
cmp_within front a b here =
    let at = suffix_start front in
    let within : at ≤ length front = omega arith in
    let prefix = λ (x : List ℕ). ap (λ (n : ℕ). take n (front ++ x)) (start_within front x here) ∙ take-append-le at front x within in
    let suffix = λ (x : List ℕ). ap (λ (n : ℕ). drop n (front ++ x)) (start_within front x here) ∙ drop-append-le at front x within in
    (λ i. ordering_then (bytes_cmp (prefix a i) (prefix b i)) (bytes_cmp (suffix a i) (suffix b i)))
    ∙ ap (λ o. ordering_then o (bytes_cmp (drop at front ++ a) (drop at front ++ b))) (tied_itself nat_list_cmp_total (take at front))
    ∙ bytes_cmp-behind (drop at front) a b

cmp_past : (front a b : List ℕ) → length front ≤ suffix_start front → key_cmp (front ++ a) (front ++ b) ≡ key_cmp a b
unfolding key_cmp
cmp_past front a b past =
    let prefix = λ (x : List ℕ). ap (λ (n : ℕ). take n (front ++ x)) (start_behind front x past) ∙ take-append-add front x (suffix_start x) in
    let suffix = λ (x : List ℕ). ap (λ (n : ℕ). drop n (front ++ x)) (start_behind front x past) ∙ drop-append-add front x (suffix_start x) in
    (λ i. ordering_then (bytes_cmp (prefix a i) (prefix b i)) (bytes_cmp (suffix a i) (suffix b i)))
    ∙ ap (λ o. ordering_then o (bytes_cmp (suffix_of a) (suffix_of b))) (bytes_cmp-behind front (prefix_of a) (prefix_of b))

parted : (bytes unshared : List ℕ) (at : ℕ)
    → key_cmp bytes (take at bytes ++ unshared) ≡ key_cmp (take at bytes ++ drop at bytes) (take at bytes ++ unshared)
parted bytes unshared at = ap (λ (x : List ℕ). key_cmp x (take at bytes ++ unshared)) (sym (take-append-drop at bytes))

pub above_within : (bytes unshared : List ℕ) (at : ℕ) → at ≤ length bytes → suffix_start bytes < at
    → is_lt (key_cmp bytes (take at bytes ++ unshared)) ≡ is_below (drop at bytes) unshared
above_within bytes unshared at within before =
    ap is_lt (parted bytes unshared at ∙ cmp_within (take at bytes) (drop at bytes) unshared (is_within bytes at within before).front)

pub above_past : (bytes unshared : List ℕ) (at : ℕ) → at ≤ length bytes → at ≤ suffix_start bytes
    → is_lt (key_cmp bytes (take at bytes ++ unshared)) ≡ is_lt (key_cmp (drop at bytes) unshared)
above_past bytes unshared at within before =
    ap is_lt (parted bytes unshared at ∙ cmp_past (take at bytes) (drop at bytes) unshared (is_past bytes at within before))

-- ---- how much they share

test_more : (n k : ℕ) → nat_eq n (n + k) ≡ nat_eq k 0
test_more n k = grind (arith, nat_tests)

pub shares_no_more : (bytes unshared : List ℕ) (at : ℕ) → at ≤ length bytes
    → nat_eq at (common_prefix_len nat_eq bytes (take at bytes ++ unshared)) ≡ nat_eq (common_prefix_len nat_eq (drop at bytes) unshared) 0
shares_no_more bytes unshared at within =
    let whole = ap (λ (x : List ℕ). common_prefix_len nat_eq x (take at bytes ++ unshared)) (sym (take-append-drop at bytes)) in
    let shared = shared-behind (take at bytes) (drop at bytes) unshared in
    let size = ap (λ (n : ℕ). n + common_prefix_len nat_eq (drop at bytes) unshared) (length-take-le at bytes within) in
    ap (nat_eq at) (whole ∙ shared ∙ size) ∙ test_more at (common_prefix_len nat_eq (drop at bytes) unshared)

pub heads_differ : (a b : List ℕ) → 0 < length a → 0 < length b
    → nat_eq (common_prefix_len nat_eq a b) 0 ≡ not (nat_eq (get_or a 0 0) (get_or b 0 0))
heads_differ [] b h k = absurd (omega arith)
heads_differ (x ∷ xs) [] h k = absurd (omega arith)
heads_differ (x ∷ xs) (y ∷ ys) h k = elim (nat_eq x y) as (λ t. nat_eq (cond t (1 + common_prefix_len nat_eq xs ys) 0) 0 ≡ not t) [
  | true ↦ grind (arith, nat_tests)
  | false ↦ refl
]

pub none_shared : (a b : List ℕ) → length a ≡ 0 → common_prefix_len nat_eq a b ≡ 0
none_shared [] b h = refl
none_shared (x ∷ xs) b h = absurd (omega arith)

pub shared_with_none : (a b : List ℕ) → length b ≡ 0 → common_prefix_len nat_eq a b ≡ 0
shared_with_none [] b h = refl
shared_with_none (x ∷ xs) [] h = refl
shared_with_none (x ∷ xs) (y ∷ ys) h = absurd (omega arith)

pub all_shared : (a b : List ℕ) (at : ℕ) → min (length a) (length b) ≤ at → common_prefix_len nat_eq (drop at a) (drop at b) ≡ 0
all_shared a b at past = elim (cases_lt at (length a)) [
  | inl within ↦ shared_with_none (drop at a) (drop at b) (omega (arith, length-drop at b))
  | inr behind ↦ none_shared (drop at a) (drop at b) (omega (arith, length-drop at a))
]
