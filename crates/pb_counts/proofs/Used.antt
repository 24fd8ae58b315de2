-- Which backings are used, and the least known one that isn't.
use Rattle.std.proofs.Common.{◌≡◌, ℕ, zero, suc, ◌+◌, ◌<◌, ◌≤◌, List, [], ◌∷◌, length, drop, get_or, Bool, true, false, refl, sym, ap, ◌∙◌, subst, inl, inr, arith}
use Rattle.std.specs.Prelude.{◌||◌, ◌==◌, nat_lt, Some, None}
use Rattle.std.specs.Option.{unwrap_or}
use Rattle.std.specs.List.{list_all}
use Rattle.std.proofs.lemmas.Bool.{false≢true, cases_lt, cases_eq, and_parts, or_from, or_right, eqb-true, ltb-true, eq-eqb, ne_eqb}
use Rattle.std.proofs.lemmas.List.{drop_more}
use Rattle.std.proofs.lemmas.List.Folds.{list_any_at}
use Rattle.std.proofs.lemmas.List.Sums.{AllPass-from_list_all}
use Rattle.pb_counts.specs.declared.user.User.{User}
use Rattle.pb_counts.specs.Ascending.{Ascends}
use Rattle.pb_counts.specs.Pairs.{is_before, is_pair, is_user, uses_in, used_in}
use Rattle.pb_counts.specs.Counts.{CountsView, known_in, is_used, IsCounts, IsObsolete, AllUsed, CountedFromScratch}
use Rattle.pb_counts.proofs.Lists.{same_lists}
use Rattle.pb_counts.proofs.Orders.{nat_order, pair_order, before-backing}

-- who uses a backing has it used
pub uses-used : (pairs : List (User × ℕ)) (user : User) (backing : ℕ) → uses_in pairs user backing ≡ true → used_in pairs backing ≡ true
uses-used [] user backing h = h
uses-used (p ∷ ps) user backing h =
    elim (is_pair (user, backing) p) as (λ t. is_pair (user, backing) p ≡ t → used_in (p ∷ ps) backing ≡ true) [
      | true ↦ λ e.
          let same : backing ≡ p.1 = eqb-true backing p.1 (and_parts (backing == p.1) (is_user user p.0) e).0 in
          ap (λ t. t || used_in ps backing) (eq-eqb p.1 backing (sym same))
      | false ↦ λ e.
          or_right (p.1 == backing) (used_in ps backing) (uses-used ps user backing (sym (ap (λ t. t || uses_in ps user backing) e) ∙ h))
    ] refl

-- what is used has a user
pub user_of : (pairs : List (User × ℕ)) (backing : ℕ) → used_in pairs backing ≡ true → (user : User) × (uses_in pairs user backing ≡ true)
user_of [] backing h = absurd (false≢true h)
user_of (p ∷ ps) backing h =
    elim (p.1 == backing) as (λ t. (p.1 == backing) ≡ t → (user : User) × (uses_in (p ∷ ps) user backing ≡ true)) [
      | true ↦ λ e.
          let same : (p.0, backing) ≡ p = ap (λ n. (p.0, n)) (sym (eqb-true p.1 backing e)) in
          (p.0, ap (λ t. t || uses_in ps p.0 backing) (ap (λ q. is_pair q p) same ∙ pair_order.itself p))
      | false ↦ λ e.
          let (user, uses) = user_of ps backing (sym (ap (λ t. t || used_in ps backing) e) ∙ h) in
          (user, or_right (is_pair (user, backing) p) (uses_in ps user backing) uses)
    ] refl

-- a backing below the first pair's is used by nobody
none_below : (backing : ℕ) (p : User × ℕ) (ps : List (User × ℕ)) → backing < p.1 → list_all (is_before p) ps ≡ true →
    used_in ps backing ≡ false
none_below backing p [] h t = refl
none_below backing p (q ∷ qs) h t =
    let up = before-backing p q (and_parts (is_before p q) (list_all (is_before p) qs) t).0 in
    or_from (q.1 == backing) (used_in qs backing) (ne_eqb q.1 backing (λ e. absurd (omega arith)))
    (none_below backing p qs h (and_parts (is_before p q) (list_all (is_before p) qs) t).1)

above : (a b : ℕ) → a ≤ b → (b ≡ a → ⊥) → a < b
above a b h differ = elim (cases_lt a b) [ inl below ↦ below | inr upto ↦ absurd (differ (omega arith)) ]

pub first_used : (pairs : List (User × ℕ)) (backing : ℕ) (d : User × ℕ) → Ascends is_before pairs → backing ≤ (get_or pairs 0 d).1 →
    0 < length pairs → ((get_or pairs 0 d).1 == backing) ≡ used_in pairs backing
first_used [] backing d up h within = absurd (omega arith)
first_used (p ∷ ps) backing d up h within =
    elim (cases_eq p.1 backing) [
      | inl same ↦ eq-eqb p.1 backing same ∙ sym (ap (λ t. t || used_in ps backing) (eq-eqb p.1 backing same))
      | inr differ ↦
          let e = ne_eqb p.1 backing differ in
          let below : backing < p.1 = above backing p.1 h differ in
          e ∙ sym (or_from (p.1 == backing) (used_in ps backing) e (none_below backing p ps below up.0))
    ]

-- a pair of a backing below is passed
pub used-passed : (pairs : List (User × ℕ)) (at n : ℕ) (d : User × ℕ) → at < length pairs → (get_or pairs at d).1 < n →
    used_in (drop (at + 1) pairs) n ≡ used_in (drop at pairs) n
used-passed pairs at n d within below =
    sym (ap (λ l. used_in l n) (drop_more pairs at d within)
    ∙ ap (λ t. t || used_in (drop (at + 1) pairs) n) (ne_eqb (get_or pairs at d).1 n (λ e. absurd (omega arith))))

-- the place of a known backing
known_at : (known : List ℕ) (n : ℕ) → known_in known n ≡ true → (k : ℕ) × (k < length known) × (get_or known k 0 ≡ n)
known_at [] n h = absurd (false≢true h)
known_at (m ∷ ms) n h =
    elim (m == n) as (λ t. (m == n) ≡ t → (k : ℕ) × (k < length (m ∷ ms)) × (get_or (m ∷ ms) k 0 ≡ n)) [
      | true ↦ λ e. (0, omega arith, eqb-true m n e)
      | false ↦ λ e.
          let (k, within, is) = known_at ms n (sym (ap (λ t. t || known_in ms n) e) ∙ h) in
          (suc k, omega arith, is)
    ] refl

known_rise : (known : List ℕ) (i j : ℕ) → Ascends nat_lt known → i < j → j < length known → get_or known i 0 < get_or known j 0
known_rise [] i j up h within = absurd (omega arith)
known_rise (m ∷ ms) i zero up h within = absurd (omega arith)
known_rise (m ∷ ms) zero (suc j) up h within = ltb-true m (get_or ms j 0) (AllPass-from_list_all (nat_lt m) ms up.0 j 0 (omega arith))
known_rise (m ∷ ms) (suc i) (suc j) up h within = known_rise ms i j up.1 (omega arith) (omega arith)

-- a later place has a greater backing, and a backing that isn't below stands no earlier
pub from_here : (known : List ℕ) (i k : ℕ) → Ascends nat_lt known → i ≤ k → k < length known → get_or known i 0 ≤ get_or known k 0
from_here known i k up h within =
    elim (cases_lt i k) [
      | inl before ↦ let e = known_rise known i k up before within in omega arith
      | inr past ↦ let same : i ≡ k = omega arith in let e = ap (λ n. get_or known n 0) same in omega arith
    ]

-- what is left of the pairs tells whether the backing at this place is used
pub used_here : (counts : CountsView) (rest after : List (User × ℕ)) (at b : ℕ) (t : Bool) → b ≡ get_or counts.known at 0 →
    at < length counts.known →
    ((k : ℕ) → at ≤ k → k < length counts.known → used_in rest (get_or counts.known k 0) ≡ used_in counts.pairs (get_or counts.known k 0)) →
    ((n : ℕ) → b ≤ n → used_in after n ≡ used_in rest n) → used_in after b ≡ t → is_used counts (get_or counts.known at 0) ≡ t
used_here counts rest after at b t is within passed kept told =
    sym (passed at (omega arith) within) ∙ ap (used_in rest) (sym is) ∙ sym (kept b (omega arith)) ∙ told

pub obsolete_at : (counts : CountsView) (i : ℕ) → IsCounts counts → i < length counts.known →
    is_used counts (get_or counts.known i 0) ≡ false →
    ((k : ℕ) → k < i → is_used counts (get_or counts.known k 0) ≡ true) → IsObsolete counts (get_or counts.known i 0)
obsolete_at counts i form within unused before = record {
  known = list_any_at (λ n. n == get_or counts.known i 0) counts.known i 0 within
      (eq-eqb (get_or counts.known i 0) (get_or counts.known i 0) refl);
  unused = unused;
  least = λ other below known.
      let (k, inside, is) = known_at counts.known other known in
      elim (cases_lt k i) [
        | inl earlier ↦ subst (λ n. is_used counts n ≡ true) is (before k earlier)
        | inr later ↦ let up = from_here counts.known i k form.known later inside in absurd (omega arith)
      ];
}

pub one_obsolete : (counts : CountsView) (a b : ℕ) → IsObsolete counts a → IsObsolete counts b → a ≡ b
one_obsolete counts a b p q =
    elim (cases_lt a b) [
      | inl below ↦ absurd (false≢true (sym p.unused ∙ q.least a below p.known))
      | inr upto ↦ elim (cases_lt b a) [
        | inl below ↦ absurd (false≢true (sym q.unused ∙ p.least b below q.known))
        | inr from ↦ omega arith
      ]
    ]

pub all_used : (counts : CountsView) → ((k : ℕ) → k < length counts.known → is_used counts (get_or counts.known k 0) ≡ true) →
    AllUsed counts
all_used counts each backing known =
    let (k, within, is) = known_at counts.known backing known in
    subst (λ n. is_used counts n ≡ true) is (each k within)

pub same_counts : (one other : CountsView) → IsCounts one → IsCounts other → CountedFromScratch one other
same_counts one other a b uses known =
    let pairs : one.pairs ≡ other.pairs =
    same_lists is_before is_pair pair_order one.pairs other.pairs a.pairs b.pairs (λ p. uses p.0 p.1) in
    let numbers : one.known ≡ other.known = same_lists nat_lt (λ k n. n == k) nat_order one.known other.known a.known b.known known in
    ap (λ (l : List (User × ℕ)). let v : CountsView = record { pairs = l; known = one.known } in v) pairs
    ∙ ap (λ (l : List ℕ). let v : CountsView = record { pairs = other.pairs; known = l } in v) numbers

some_none : (n : ℕ) → Some n ≡ None → ⊥
some_none n e = cc

-- what is answered where the backing at a place is the first that nobody uses
module _ (counts : CountsView) (i b : ℕ) (form : IsCounts counts) (within : i < length counts.known) (is : b ≡ get_or counts.known i 0)
    (unused : is_used counts (get_or counts.known i 0) ≡ false)
    (before : (k : ℕ) → k < i → is_used counts (get_or counts.known k 0) ≡ true) where
  found : IsObsolete counts b
  found = subst (IsObsolete counts) (sym is) (obsolete_at counts i form within unused before)

  pub found_some : (n : ℕ) → (Some b ≡ Some n → IsObsolete counts n) × (IsObsolete counts n → Some b ≡ Some n)
  found_some n = (λ e. subst (IsObsolete counts) (ap (λ o. unwrap_or o b) e) found, λ other. ap Some (one_obsolete counts b n found other))

  pub found_not_none : (Some b ≡ None → AllUsed counts) × (AllUsed counts → Some b ≡ None)
  found_not_none = (λ e. absurd (some_none b e), λ all. absurd (false≢true (sym found.unused ∙ all b found.known)))

pub none_some : (counts : CountsView) → AllUsed counts → (n : ℕ) →
    (None ≡ Some n → IsObsolete counts n) × (IsObsolete counts n → None ≡ Some n)
none_some counts all n = (λ e. absurd (some_none n (sym e)), λ other. absurd (false≢true (sym other.unused ∙ all n other.known)))
