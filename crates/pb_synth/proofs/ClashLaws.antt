-- Where rows that rise have one prefix.
use Rattle.std.proofs.Common.{◌≡◌, ℕ, ◌+◌, ◌-◌, ◌<◌, ◌≤◌, List, [], ◌∷◌, ◌++◌, length, get_or, true, false, refl, sym, ap, ◌∙◌, subst, arith, inl, inr}
use Rattle.std.specs.Prelude.{◌⊎◌, None}
use Rattle.std.specs.declared.cmp.Ordering.TheVariants.{Less, Equal}
use Rattle.std.specs.Cmp.{tied_itself}
use Rattle.std.proofs.lemmas.List.{get_or_default, append_cancel_left}
use Rattle.std.proofs.lemmas.List.Sorted.{all_adjacent_more}
use Rattle.pb_keys.specs.Key.{key_cmp, prefix_of}
use Rattle.pb_keys.specs.KeyLaws.{key_cmp_total}
use Rattle.pb_keys.specs.Order.{is_below}
use Rattle.pb_keys.specs.View.{KeyView, IsMapping}
use Rattle.pb_keys.proofs.KeyFacts.{prefixes_ascend}
use Rattle.pb_keys.proofs.OrderFacts.{below_itself, below_chain, same_bytes}
use Rattle.pb_rows.specs.Layer.{KeyRow, Rise}
use Rattle.pb_rows.specs.Viewed.{with_suffix, mapped_key}
use Rattle.pb_rows.proofs.LookLaws.{far, rows_rise}
use Rattle.pb_rows.proofs.MappedLaws.{prefix_of-mapped_key}
use Rattle.pb_synth.specs.Limits.{StayApart}
use Rattle.pb_synth.specs.Clash.{HaveOwnPrefix, HasNoClashUpTo, HasNoClash, IsFirstClash}

-- ---- one step of the search: r is the row at this place, and s the one before

pub clash_at : (rows : List KeyRow) (at : ℕ) (r s : KeyRow) → 1 ≤ at → at < length rows → HasNoClashUpTo rows at → s ≡ get_or rows (at - 1) s → r ≡ get_or rows at r → prefix_of r.key ≡ prefix_of s.key → IsFirstClash rows at
clash_at rows at r s behind within before s_is r_is same = record {
  behind = behind;
  within = within;
  before = before;
  clashes = λ d.
      let r_here : get_or rows at d ≡ r = get_or_default rows at d r within ∙ sym r_is in
      let s_here : get_or rows (at - 1) d ≡ s = get_or_default rows (at - 1) d s (omega arith) ∙ sym s_is in
      ap (λ t. prefix_of t.key) s_here ∙ sym same ∙ ap (λ t. prefix_of t.key) (sym r_here);
}

pub no_clash_more : (rows : List KeyRow) (at : ℕ) (r s : KeyRow) → 1 ≤ at → at < length rows → HasNoClashUpTo rows at → s ≡ get_or rows (at - 1) s → r ≡ get_or rows at r → (prefix_of r.key ≡ prefix_of s.key → ⊥) → HasNoClashUpTo rows (at + 1)
no_clash_more rows at r s behind within before s_is r_is differ =
    all_adjacent_more rows HaveOwnPrefix at behind before (λ d same.
    let r_here : get_or rows at d ≡ r = get_or_default rows at d r within ∙ sym r_is in
    let s_here : get_or rows (at - 1) d ≡ s = get_or_default rows (at - 1) d s (omega arith) ∙ sym s_is in
    differ (ap (λ t. prefix_of t.key) (sym r_here) ∙ sym same ∙ ap (λ t. prefix_of t.key) s_here))

no_row : KeyRow
no_row = record { key = []; value = None }

pub no_first_clash : (rows : List KeyRow) (at : ℕ) → HasNoClash rows → IsFirstClash rows at → ⊥
no_first_clash rows at none first =
    let behind : 1 ≤ at = first.behind in
    let within : at < length rows = first.within in
    let e : (at - 1) + 1 ≡ at = omega arith in
    none (at - 1) no_row (omega arith) (subst (λ k. prefix_of (get_or rows (at - 1) no_row).key ≡ prefix_of (get_or rows k no_row).key) (sym e) (first.clashes no_row))

pub clash_refuses : (suffix : List ℕ) (rows : List KeyRow) (at : ℕ) → (suffix ≡ [] → ⊥) → IsFirstClash rows at → (suffix ≡ []) ⊎ HasNoClash rows → ⊥
clash_refuses suffix rows at some first (inl none) = some none
clash_refuses suffix rows at some first (inr none) = no_first_clash rows at none first

-- ---- rows with one prefix become one key through a suffix, and no others do

prefix_below : (p q : List ℕ) → is_below q p ≡ false → (p ≡ q → ⊥) → is_below p q ≡ true
prefix_below p q upto differ =
    elim (is_below p q) as (λ b. is_below p q ≡ b → b ≡ true) [
      | true ↦ λ e. refl
      | false ↦ λ e. absurd (differ (same_bytes p q e upto))
    ] refl

abbrev BelowByPrefix : KeyRow → KeyRow → Type 0
BelowByPrefix r s = is_below (prefix_of r.key) (prefix_of s.key) ≡ true

prefixes_rise : (rows : List KeyRow) → Rise rows → HasNoClash rows → (i j : ℕ) (d : KeyRow) → i < j → j < length rows → BelowByPrefix (get_or rows i d) (get_or rows j d)
prefixes_rise rows rise none =
    far BelowByPrefix (λ x y z. below_chain (prefix_of x.key) (prefix_of y.key) (prefix_of z.key)) rows
    (λ k d h. prefix_below (prefix_of (get_or rows k d).key) (prefix_of (get_or rows (k + 1) d).key) (prefixes_ascend (get_or rows k d).key (get_or rows (k + 1) d).key (rise k d h)) (none k d h))

same_prefix : (view : KeyView) (a b : List ℕ) → IsMapping view → mapped_key view a ≡ mapped_key view b → prefix_of a ≡ prefix_of b
same_prefix view a b mapping same =
    append_cancel_left view.prefix (prefix_of a) (prefix_of b) (sym (prefix_of-mapped_key view a mapping) ∙ ap prefix_of same ∙ prefix_of-mapped_key view b mapping)

one_through : (suffix a b : List ℕ) → (suffix ≡ [] → ⊥) → prefix_of a ≡ prefix_of b → with_suffix suffix a ≡ with_suffix suffix b
one_through [] a b some same = absurd (some refl)
one_through (c ∷ cs) a b some same = ap (λ p. p ++ (c ∷ cs)) same

pub apart_without_clash : (view : KeyView) (rows : List KeyRow) → IsMapping view → Rise rows → HasNoClash rows → StayApart view rows
apart_without_clash view rows mapping rise none i j d h k same =
    let p = prefix_of (get_or rows i d).key in
    let below : is_below p (prefix_of (get_or rows j d).key) ≡ true = prefixes_rise rows rise none i j d h k in
    let one : is_below p p ≡ true = ap (is_below p) (same_prefix view (get_or rows i d).key (get_or rows j d).key mapping same) ∙ below in
    let none : is_below p p ≡ false = below_itself p in
    cc

pub no_clash_apart : (view : KeyView) (rows : List KeyRow) → (view.suffix ≡ [] → ⊥) → StayApart view rows → HasNoClash rows
no_clash_apart view rows some apart k d h same =
    apart k (k + 1) d (omega arith) h (ap (λ rest. view.prefix ++ rest) (one_through view.suffix (get_or rows k d).key (get_or rows (k + 1) d).key some same))

-- without a suffix no two keys become one
pub apart_by_own : (view : KeyView) (rows : List KeyRow) → view.suffix ≡ [] → Rise rows → StayApart view rows
apart_by_own view rows none rise i j d h k same =
    let a = (get_or rows i d).key in let b = (get_or rows j d).key in
    let less : key_cmp a b ≡ Less = rows_rise rows rise i j d h k in
    let bare : view.prefix ++ a ≡ view.prefix ++ b = ap (λ s. view.prefix ++ with_suffix s a) (sym none) ∙ same ∙ ap (λ s. view.prefix ++ with_suffix s b) none in
    let tied : key_cmp a b ≡ Equal = ap (key_cmp a) (sym (append_cancel_left view.prefix a b bare)) ∙ tied_itself key_cmp_total a in
    cc
