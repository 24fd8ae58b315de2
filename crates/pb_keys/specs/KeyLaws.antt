-- The keys' order is total, and only equal keys tie in it.
use Rattle.std.specs.Prelude.{◌≡◌, ℕ, List, ◌++◌, nat_eq, refl}
use Rattle.std.proofs.Common.{sym, ap, ◌∙◌}
use Rattle.std.proofs.lemmas.List.{take-append-drop}
use Rattle.std.specs.Bool.{one_answer}
use Rattle.std.specs.Cmp.{IsTotalOrder, IsPartialOrder, Equal-is, on_total, then_total, tied_itself, partial_order_from_agreeing_total}
use Rattle.std.specs.Cmp.Lexicographic.{pointwise, bytes_decides, nat_list_cmp_total}
use Rattle.std.specs.FinMap.{IsAntisymmetric, slice_cmp-IsAntisymmetric, nat_cmp-IsAntisymmetric}
use Rattle.std.specs.declared.cmp.Ordering.{Ordering}
use Rattle.std.specs.declared.cmp.Ordering.TheVariants.{Less, Equal, Greater}
use Rattle.std.specs.Ordering.{ordering_then, eq_by_cmp, is_eq, as_partial_cmp}
use Rattle.pb_keys.specs.Order.{bytes_cmp}
use Rattle.pb_keys.specs.Key.{key_cmp, prefix_of, suffix_of, suffix_start}

pub key_cmp_total : IsTotalOrder key_cmp
unfolding key_cmp
key_cmp_total = then_total (on_total prefix_of nat_list_cmp_total) (on_total suffix_of nat_list_cmp_total)

pub bytes_cmp_exact : IsAntisymmetric bytes_cmp
bytes_cmp_exact = slice_cmp-IsAntisymmetric nat_cmp-IsAntisymmetric

-- two orders of which the first ties, and both
first_ties : (a b : Ordering) → ordering_then a b ≡ Equal → a ≡ Equal
first_ties Less b e = e
first_ties Equal b e = refl
first_ties Greater b e = e

second_ties : (a b : Ordering) → ordering_then a b ≡ Equal → a ≡ Equal → b ≡ Equal
second_ties a b e t = ap (λ o. ordering_then o b) (sym t) ∙ e

-- a prefix and a suffix determine the key
pub parts_of_key : (key : List ℕ) → prefix_of key ++ suffix_of key ≡ key
parts_of_key key = take-append-drop (suffix_start key) key

pub same_parts : (a b : List ℕ) → prefix_of a ≡ prefix_of b → suffix_of a ≡ suffix_of b → a ≡ b
same_parts a b p s = sym (parts_of_key a) ∙ (λ i. p i ++ s i) ∙ parts_of_key b

pub key_cmp_exact : IsAntisymmetric key_cmp
unfolding key_cmp
key_cmp_exact a b e =
    let p = first_ties (bytes_cmp (prefix_of a) (prefix_of b)) (bytes_cmp (suffix_of a) (suffix_of b)) e in
    let s = second_ties (bytes_cmp (prefix_of a) (prefix_of b)) (bytes_cmp (suffix_of a) (suffix_of b)) e p in
    same_parts a b (bytes_cmp_exact _ _ p) (bytes_cmp_exact _ _ s)

pub key_cmp_matches_eq : (a b : List ℕ) → pointwise nat_eq a b ≡ eq_by_cmp key_cmp a b
key_cmp_matches_eq a b = one_answer (pointwise nat_eq a b) (eq_by_cmp key_cmp a b) (bytes_decides a b)
    (λ e. key_cmp_exact a b ((Equal-is (key_cmp a b)).0 e), λ e. ap is_eq (ap (key_cmp a) (sym e) ∙ tied_itself key_cmp_total a))

pub key_po : IsPartialOrder (pointwise nat_eq) (as_partial_cmp key_cmp)
key_po = partial_order_from_agreeing_total key_cmp key_cmp_total (λ x y. refl) key_cmp_matches_eq
