-- What a view makes of keys and of ends: their parts and their order.
use Rattle.std.proofs.Common.{◌≡◌, ◌≢◌, ℕ, suc, ◌+◌, List, [], ◌∷◌, ◌++◌, length, take, drop, true, false, cond, refl, sym, ap, ◌∙◌, arith, inl, inr, append-nil}
use Rattle.std.specs.Prelude.{All, not, ◌&&◌, ◌==◌}
use Rattle.std.specs.declared.cmp.Ordering.{Ordering}
use Rattle.std.specs.declared.cmp.Ordering.TheVariants.{Less, Equal, Greater}
use Rattle.std.specs.Ordering.{ordering_then, nat_cmp, is_lt}
use Rattle.std.specs.Cmp.{tied_itself}
use Rattle.std.specs.Cmp.Lexicographic.{nat_list_cmp_total}
use Rattle.std.specs.FinMap.{nat_cmp-IsAntisymmetric}
use Rattle.std.proofs.lemmas.List.Elements.{All-head, All-tail}
use Rattle.std.proofs.Math.Seq.{take-append-add, drop-append-add}
use Rattle.pb_keys.specs.Order.{bytes_cmp, is_below}
use Rattle.pb_keys.specs.Key.{at_sign, suffix_start, prefix_of, suffix_of, key_cmp}
use Rattle.pb_keys.specs.Span.{KeySpan, holds_key}
use Rattle.pb_keys.specs.View.{KeyView, IsSuffix, IsMapping}
use Rattle.pb_keys.proofs.KeyFacts.{prefix_is_plain}
use Rattle.pb_rows.specs.Viewed.{with_suffix, mapped_key, mapped_span}
use Rattle.pb_keys.proofs.KeyFacts.{other_byte}
use Rattle.pb_keys.proofs.OrderFacts.{bytes_cmp-behind}

-- ---- behind bytes without '@'

pub suffix_start-behind : (p key : List ℕ) → All (λ b. b ≢ at_sign) p → suffix_start (p ++ key) ≡ length p + suffix_start key
suffix_start-behind [] key plain = omega arith
suffix_start-behind (b ∷ bs) key plain =
    let rest : suffix_start (bs ++ key) ≡ length bs + suffix_start key = suffix_start-behind bs key (All-tail (λ c. c ≢ at_sign) b bs plain) in
    let counted : 1 + suffix_start (bs ++ key) ≡ suc (length bs) + suffix_start key = omega arith in
    ap (λ t. cond (not t) (1 + suffix_start (bs ++ key)) 0) (other_byte b (All-head (λ c. c ≢ at_sign) b bs plain)) ∙ counted

pub prefix_of-behind : (p key : List ℕ) → All (λ b. b ≢ at_sign) p → prefix_of (p ++ key) ≡ p ++ prefix_of key
prefix_of-behind p key plain = ap (λ n. take n (p ++ key)) (suffix_start-behind p key plain) ∙ take-append-add p key (suffix_start key)

pub suffix_of-behind : (p key : List ℕ) → All (λ b. b ≢ at_sign) p → suffix_of (p ++ key) ≡ suffix_of key
suffix_of-behind p key plain = ap (λ n. drop n (p ++ key)) (suffix_start-behind p key plain) ∙ drop-append-add p key (suffix_start key)

-- bytes without '@' are a prefix
pub plain_prefix : (p : List ℕ) → All (λ b. b ≢ at_sign) p → prefix_of p ≡ p
plain_prefix p plain = ap prefix_of (sym (append-nil p)) ∙ prefix_of-behind p [] plain ∙ append-nil p

-- ---- of bytes that begin with '@' the suffix is all

pub record BeginsSuffix (bytes : List ℕ) : Type 0 where
  pub begins : suffix_start bytes ≡ 0

-- a suffix that isn't empty begins with '@'
pub begins_suffix : (b : ℕ) (bs : List ℕ) → IsSuffix (b ∷ bs) → BeginsSuffix (b ∷ bs)
begins_suffix b bs (inl none) = cc
begins_suffix b bs (inr (_, first)) = record { begins = ap (λ c. cond (not (c == at_sign)) (1 + suffix_start bs) 0) first }

pub no_prefix : (bytes : List ℕ) → BeginsSuffix bytes → prefix_of bytes ≡ []
no_prefix bytes is = ap (λ n. take n bytes) is.begins

pub all_suffix : (bytes : List ℕ) → BeginsSuffix bytes → suffix_of bytes ≡ bytes
all_suffix bytes is = ap (λ n. drop n bytes) is.begins

pub prefix_before : (p suffix : List ℕ) → All (λ b. b ≢ at_sign) p → BeginsSuffix suffix → prefix_of (p ++ suffix) ≡ p
prefix_before p suffix plain is = prefix_of-behind p suffix plain ∙ ap (λ r. p ++ r) (no_prefix suffix is) ∙ append-nil p

pub suffix_behind : (p suffix : List ℕ) → All (λ b. b ≢ at_sign) p → BeginsSuffix suffix → suffix_of (p ++ suffix) ≡ suffix
suffix_behind p suffix plain is = suffix_of-behind p suffix plain ∙ all_suffix suffix is

-- ---- the parts of a mapped key

prefix_of-with_suffix : (suffix key : List ℕ) → IsSuffix suffix → prefix_of (with_suffix suffix key) ≡ prefix_of key
prefix_of-with_suffix [] key is = refl
prefix_of-with_suffix (b ∷ bs) key is = prefix_before (prefix_of key) (b ∷ bs) (prefix_is_plain key) (begins_suffix b bs is)

pub prefix_of-mapped_key : (view : KeyView) (key : List ℕ) → IsMapping view → prefix_of (mapped_key view key) ≡ view.prefix ++ prefix_of key
prefix_of-mapped_key view key is =
    prefix_of-behind view.prefix (with_suffix view.suffix key) is.prefix.plain ∙ ap (λ r. view.prefix ++ r) (prefix_of-with_suffix view.suffix key is.suffix)

pub own_suffix : (view : KeyView) (key : List ℕ) → IsMapping view → view.suffix ≡ [] → suffix_of (mapped_key view key) ≡ suffix_of key
own_suffix view key is none =
    suffix_of-behind view.prefix (with_suffix view.suffix key) is.prefix.plain ∙ ap (λ s. suffix_of (with_suffix s key)) none

given : (suffix key : List ℕ) → IsSuffix suffix → (suffix ≡ [] → ⊥) → suffix_of (with_suffix suffix key) ≡ suffix
given [] key is some = absurd (some refl)
given (b ∷ bs) key is some = suffix_behind (prefix_of key) (b ∷ bs) (prefix_is_plain key) (begins_suffix b bs is)

pub given_suffix : (view : KeyView) (key : List ℕ) → IsMapping view → (view.suffix ≡ [] → ⊥) → suffix_of (mapped_key view key) ≡ view.suffix
given_suffix view key is some = suffix_of-behind view.prefix (with_suffix view.suffix key) is.prefix.plain ∙ given view.suffix key is.suffix some

-- ---- order

pub below-behind : (p a b : List ℕ) → is_below (p ++ a) (p ++ b) ≡ is_below a b
below-behind p a b = ap is_lt (bytes_cmp-behind p a b)

pub key_cmp-parts : (a b p q s t : List ℕ) → prefix_of a ≡ p → prefix_of b ≡ q → suffix_of a ≡ s → suffix_of b ≡ t → key_cmp a b ≡ ordering_then (bytes_cmp p q) (bytes_cmp s t)
unfolding key_cmp
key_cmp-parts a b p q s t ap_is bq_is as_is bt_is = λ i. ordering_then (bytes_cmp (ap_is i) (bq_is i)) (bytes_cmp (as_is i) (bt_is i))

pub key_cmp-behind : (p a b : List ℕ) → All (λ c. c ≢ at_sign) p → key_cmp (p ++ a) (p ++ b) ≡ key_cmp a b
key_cmp-behind p a b plain =
    key_cmp-parts (p ++ a) (p ++ b) (p ++ prefix_of a) (p ++ prefix_of b) (suffix_of a) (suffix_of b)
    (prefix_of-behind p a plain) (prefix_of-behind p b plain) (suffix_of-behind p a plain) (suffix_of-behind p b plain)
    ∙ ap (λ o. ordering_then o (bytes_cmp (suffix_of a) (suffix_of b))) (bytes_cmp-behind p (prefix_of a) (prefix_of b))
    ∙ sym (key_cmp-parts a b (prefix_of a) (prefix_of b) (suffix_of a) (suffix_of b) refl refl refl refl)

then_equal : (o : Ordering) → ordering_then o Equal ≡ o
then_equal Less = refl
then_equal Equal = refl
then_equal Greater = refl

-- keys of one suffix are ordered as their prefixes
pub key_cmp-one_suffix : (a b p q s : List ℕ) → prefix_of a ≡ p → prefix_of b ≡ q → suffix_of a ≡ s → suffix_of b ≡ s → key_cmp a b ≡ bytes_cmp p q
key_cmp-one_suffix a b p q s ap_is bq_is as_is bs_is =
    key_cmp-parts a b p q s s ap_is bq_is as_is bs_is ∙ ap (ordering_then (bytes_cmp p q)) (tied_itself nat_list_cmp_total s) ∙ then_equal (bytes_cmp p q)

-- ---- what a mapped span holds

pub holds-mapped : (view : KeyView) (span : KeySpan) (key at : List ℕ) → prefix_of at ≡ view.prefix ++ prefix_of key → holds_key (mapped_span view span) at ≡ holds_key span key
unfolding holds_key
holds-mapped view span key at is =
    (λ i. not (is_below (is i) (view.prefix ++ span.lo)) && is_below (is i) (view.prefix ++ span.hi))
    ∙ (λ i. not (below-behind view.prefix (prefix_of key) span.lo i) && below-behind view.prefix (prefix_of key) span.hi i)

-- a rest behind the bytes, if there is one
pub record BeginsWith (p a : List ℕ) : Type 0 where
  pub rest : List ℕ
  pub whole : a ≡ p ++ rest

-- what lies between two byte strings that begin with p begins with p
pub begins_between : (p a lo hi : List ℕ) → is_below a (p ++ lo) ≡ false → is_below a (p ++ hi) ≡ true → BeginsWith p a
begins_between [] a lo hi from to = record { rest = a; whole = refl }
begins_between (b ∷ bs) [] lo hi from to = cc
begins_between (b ∷ bs) (c ∷ cs) lo hi from to =
    elim (nat_cmp c b) as (λ o. nat_cmp c b ≡ o → is_lt (ordering_then o (bytes_cmp cs (bs ++ lo))) ≡ false → is_lt (ordering_then o (bytes_cmp cs (bs ++ hi))) ≡ true → BeginsWith (b ∷ bs) (c ∷ cs)) [
      | Less ↦ λ e f t. cc
      | Equal ↦ λ e f t.
          let more = begins_between bs cs lo hi f t in
          record { rest = more.rest; whole = λ i. nat_cmp-IsAntisymmetric c b e i ∷ more.whole i }
      | Greater ↦ λ e f t. cc
    ] refl from to
