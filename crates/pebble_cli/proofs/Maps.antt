-- The entries of a map in memory, read as a finite map.
use Rattle.std.proofs.Common.{◌≡◌, ℕ, cond, List, [], ◌∷◌, Option, Some, refl, sym, ap, ◌∙◌}
use Rattle.std.specs.Bool.{one_answer}
use Rattle.std.specs.Prelude.{nat_eq}
use Rattle.std.proofs.lemmas.Slice.Eq.{bytes_eq-Decides}
use Rattle.std.specs.Cmp.Lexicographic.{slice_cmp, pointwise, bytes_decides}
use Rattle.std.specs.FinMap.{find, get, insert, from_entries, get-from_entries, get-insert, same_map}
use Rattle.pb_keys.specs.Key.{key_cmp}
use Rattle.pb_keys.specs.KeyLaws.{key_cmp_total, key_cmp_exact, key_cmp_matches_eq}
use Rattle.std.specs.Map.{lookup}
use Rattle.std.specs.BTreeMap.{is_at}
use Rattle.std.specs.declared.cmp.Ordering.{Ordering}
use Rattle.std.specs.declared.cmp.Ordering.TheVariants.{Less, Equal, Greater}
use Rattle.std.specs.Ordering.{nat_cmp, is_eq, eq_by_cmp, ordering_reverse}
use Rattle.std.specs.Str.{bytes_eq}
use Rattle.std.proofs.lemmas.Cmp.{nat_list_cmp_total}
use Rattle.std.proofs.lemmas.Map.Text.{is_eq-slice_cmp}
use Rattle.pb_keys.specs.Map.{Map}

abbrev pub Entries : Type 0
Entries = List (List ℕ × List ℕ)

abbrev pub looked_up : List ℕ → Entries → Option (List ℕ)
looked_up key entries = lookup (is_at (slice_cmp nat_cmp key)) entries

-- two orders in which only equal keys tie
same_ties : (a b : List ℕ) → eq_by_cmp key_cmp a b ≡ is_eq (slice_cmp nat_cmp a b)
same_ties a b = sym (key_cmp_matches_eq a b) ∙ one_answer (pointwise nat_eq a b) (bytes_eq a b) (bytes_decides a b) (bytes_eq-Decides a b) ∙ sym (is_eq-slice_cmp a b)

find-lookup : (key : List ℕ) (entries : Entries) → find key_cmp key entries ≡ looked_up key entries
find-lookup key [] = refl
find-lookup key (e ∷ es) =
    ap (λ b. cond b (Some e.1) (find key_cmp key es)) (same_ties key e.0) ∙ ap (cond (is_eq (slice_cmp nat_cmp key e.0)) (Some e.1)) (find-lookup key es)

pub get_entries : (entries : Entries) (key : List ℕ) → get (from_entries {R = key_cmp} entries) key ≡ looked_up key entries
get_entries entries key = get-from_entries key_cmp_total entries key ∙ find-lookup key entries

turned : (o : Ordering) → is_eq (ordering_reverse o) ≡ is_eq o
turned Less = refl
turned Equal = refl
turned Greater = refl

tied : (a b : List ℕ) → is_eq (slice_cmp nat_cmp a b) ≡ eq_by_cmp key_cmp b a
tied a b = ap is_eq (nat_list_cmp_total.antisymm a b) ∙ turned (slice_cmp nat_cmp b a) ∙ sym (same_ties b a)

pub insert_entries : (old new : Entries) (key value : List ℕ) → ((q : List ℕ) → looked_up q new ≡ cond (is_at (slice_cmp nat_cmp key) q) (Some value) (looked_up q old)) → from_entries {R = key_cmp} new ≡ insert (from_entries old) key value
insert_entries old new key value each =
    same_map key_cmp_total key_cmp_exact _ _
    (λ q. get_entries new q ∙ each q
    ∙ ap (λ b. cond b (Some value) (looked_up q old)) (tied key q)
    ∙ ap (cond (eq_by_cmp key_cmp q key) (Some value)) (sym (get_entries old q))
    ∙ sym (get-insert key_cmp_total (from_entries old) key value q))

pub get_set : (m : Map) (key value q : List ℕ) → get (insert m key value) q ≡ cond (bytes_eq q key) (Some value) (get m q)
get_set m key value q = get-insert key_cmp_total m key value q ∙ ap (λ b. cond b (Some value) (get m q)) (same_ties q key ∙ is_eq-slice_cmp q key)
