-- What a world is at each place after one store has changed what it sees.
use Rattle.std.proofs.Common.{◌≡◌, ℕ, Bool, ◌⊎◌, inl, inr, Option, sym, ap, ◌∙◌}
use Rattle.std.specs.Prelude.{if◌then◌else◌, ◌==◌}
use Rattle.std.proofs.lemmas.Bool.{cases_eq, cond-true, cond-false, eq-eqb, ne_eqb}
use Rattle.pb_names.specs.Identity.{Identity}
use Rattle.pb_marker_world.specs.Machine.{Marker, Entry, Part, Names, Local, World, with_local, entry_at}

pub place_cases : (t k s n : ℕ) → ((t ≡ s) × (k ≡ n)) ⊎ (t ≡ s → k ≡ n → ⊥)
place_cases t k s n =
    elim (cases_eq t s) [
      | inl q ↦ elim (cases_eq k n) [ inl r ↦ inl (q, r) | inr r ↦ inr (λ _ x. r x) ]
      | inr q ↦ inr (λ x _. q x)
    ]

pub marker_from : (m : Marker) (o : Identity) (s n : ℕ) → m.object ≡ o → m.store ≡ s → m.number ≡ n
    → m ≡ record { object = o; store = s; number = n }
marker_from m o s n p q r = λ i. record { object = p i; store = q i; number = r i }

-- two tests of names are equal where they are at each thing
pub names_path : (p q : Names) → ((o : Identity) → p.objects o ≡ q.objects o) → ((m : Marker) → p.markers m ≡ q.markers m) → p ≡ q
names_path p q a b = λ i. record { objects = λ o. a o i; markers = λ m. b m i }

pub part_here : (w : World) (s : ℕ) (l : Local) (t : ℕ) → t ≡ s → (with_local w s l).parts t ≡ l.part
part_here w s l t q = cond-true (t == s) l.part (w.parts t) (eq-eqb t s q)

pub part_there : (w : World) (s : ℕ) (l : Local) (t : ℕ) → (t ≡ s → ⊥) → (with_local w s l).parts t ≡ w.parts t
part_there w s l t q = cond-false (t == s) l.part (w.parts t) (ne_eqb t s q)

-- the part has this entry under the number, and its old ones elsewhere
abbrev pub SetsEntry : Part → Part → ℕ → Option Entry → Type 0
SetsEntry old new n o = (k : ℕ) → new.entries k ≡ (if k == n then o else old.entries k)

pub entry_set : (w : World) (s n : ℕ) (l : Local) (o : Option Entry) → SetsEntry (w.parts s) l.part n o
    → (t k : ℕ) → t ≡ s → k ≡ n → entry_at (with_local w s l) t k ≡ o
entry_set w s n l o h t k q r =
    ap (λ (p : Part). p.entries k) (part_here w s l t q)
    ∙ (h k ∙ cond-true (k == n) o ((w.parts s).entries k) (eq-eqb k n r))

pub entry_kept : (w : World) (s n : ℕ) (l : Local) (o : Option Entry) → SetsEntry (w.parts s) l.part n o
    → (t k : ℕ) → (t ≡ s → k ≡ n → ⊥) → entry_at (with_local w s l) t k ≡ entry_at w t k
entry_kept w s n l o h t k apart =
    elim (cases_eq t s) [
      | inl q ↦ ap (λ (p : Part). p.entries k) (part_here w s l t q)
          ∙ (h k ∙ (cond-false (k == n) o ((w.parts s).entries k) (ne_eqb k n (apart q)) ∙ ap (λ x. entry_at w x k) (sym q)))
      | inr q ↦ ap (λ (p : Part). p.entries k) (part_there w s l t q)
    ]

pub opening_kept : (w : World) (s : ℕ) (l : Local) → l.part.opening ≡ (w.parts s).opening
    → (t : ℕ) → ((with_local w s l).parts t).opening ≡ (w.parts t).opening
opening_kept w s l h t =
    elim (cases_eq t s) [
      | inl q ↦ ap (λ (p : Part). p.opening) (part_here w s l t q) ∙ (h ∙ ap (λ x. (w.parts x).opening) (sym q))
      | inr q ↦ ap (λ (p : Part). p.opening) (part_there w s l t q)
    ]

pub used_kept : (w : World) (s : ℕ) (l : Local) → l.part.used ≡ (w.parts s).used
    → (t k : ℕ) → ((with_local w s l).parts t).used k ≡ (w.parts t).used k
used_kept w s l h t k =
    elim (cases_eq t s) [
      | inl q ↦ ap (λ (p : Part). p.used k) (part_here w s l t q)
          ∙ (ap (λ (u : ℕ → Bool). u k) h ∙ ap (λ x. (w.parts x).used k) (sym q))
      | inr q ↦ ap (λ (p : Part). p.used k) (part_there w s l t q)
    ]
