-- Where two byte strings joined stand to a third that doesn't begin with the first.
use Rattle.std.proofs.Common.{◌≡◌, ◌≢◌, ℕ, List, [], ◌∷◌, ◌++◌, refl, sym, ap, ◌∙◌}
use Rattle.std.specs.declared.cmp.Ordering.TheVariants.{Less, Equal, Greater}
use Rattle.std.specs.Ordering.{ordering_then, ordering_reverse, nat_cmp, is_lt}
use Rattle.std.specs.Cmp.Lexicographic.{nat_list_cmp_total}
use Rattle.std.specs.FinMap.{nat_cmp-IsAntisymmetric}
use Rattle.pb_keys.specs.Order.{bytes_cmp, is_below}

joined_cmp : (front back end : List ℕ) → ((rest : List ℕ) → end ≢ front ++ rest) → bytes_cmp (front ++ back) end ≡ bytes_cmp front end
joined_cmp [] back end other = absurd (other end refl)
joined_cmp (b ∷ bs) back [] other = refl
joined_cmp (b ∷ bs) back (c ∷ cs) other =
    elim (nat_cmp b c) as (λ o. nat_cmp b c ≡ o → ordering_then o (bytes_cmp (bs ++ back) cs) ≡ ordering_then o (bytes_cmp bs cs)) [
      | Less ↦ λ e. refl
      | Equal ↦ λ e. joined_cmp bs back cs (λ rest same. other rest (λ i. sym (nat_cmp-IsAntisymmetric b c e) i ∷ same i))
      | Greater ↦ λ e. refl
    ] refl

pub joined_below : (front back end : List ℕ) → ((rest : List ℕ) → end ≢ front ++ rest) → is_below (front ++ back) end ≡ is_below front end
joined_below front back end other = ap is_lt (joined_cmp front back end other)

pub below_joined : (front back end : List ℕ) → ((rest : List ℕ) → end ≢ front ++ rest) → is_below end (front ++ back) ≡ is_below end front
below_joined front back end other =
    ap is_lt (nat_list_cmp_total.antisymm end (front ++ back) ∙ ap ordering_reverse (joined_cmp front back end other) ∙ sym (nat_list_cmp_total.antisymm end front))
