-- What needs no look at the tables where an edit deletes or removes nothing.
use Rattle.std.proofs.Common.{◌≡◌, ℕ, ◌+◌, List, [], ◌∷◌, Bool, true, false, length, refl, ap, ◌∙◌, arith}
use Rattle.std.proofs.lemmas.Bool.Decides.{nat_tests}
use Rattle.std.specs.Prelude.{not, ◌==◌, ◌&&◌, ◌||◌}
use Rattle.std.specs.List.{list_any, list_all}
use Rattle.pb_edit.specs.Edit.{DeletedItem, CreatedItem}
use Rattle.pb_version.specs.Version.{TableView}
use Rattle.pb_version.specs.Judged.{all_levels, any_level, frees_physical, keeps_its_backing, keep_their_backings, orphans_no_backing, orphan_no_backing, is_shown_after, is_gone}

kept_bool : (v g : Bool) → ((not v || true) || g) ≡ true
kept_bool true g = refl
kept_bool false g = refl

orphans_bool : (v r s : Bool) → (((not v || true) || r) || s) ≡ true
orphans_bool true r s = refl
orphans_bool false r s = refl

-- without a removed backing each table keeps its own
pub none_removed : (deleted : List DeletedItem) (removed : List ℕ) → removed ≡ [] → (k : ℕ) (ls : List (List TableView)) → all_levels (keep_their_backings deleted removed) k ls ≡ true
none_removed deleted removed none k ls = ap (λ ns. all_levels (keep_their_backings deleted ns) k ls) none ∙ levels k ls
  where
    each : (l : ℕ) (ts : List TableView) → list_all (keeps_its_backing deleted [] l) ts ≡ true
    each l [] = refl
    each l (t ∷ ts) = λ i. kept_bool t.is_virtual (is_gone deleted l t) i && each l ts i

    levels : (k : ℕ) (ls : List (List TableView)) → all_levels (keep_their_backings deleted []) k ls ≡ true
    levels k [] = refl
    levels k (ts ∷ ls) = λ i. each k ts i && levels (k + 1) ls i

-- without a deleted table no backing loses one
pub none_orphaned : (all : List (List TableView)) (deleted : List DeletedItem) (removed : List ℕ) (new : List (List TableView)) → deleted ≡ [] → (k : ℕ) (ls : List (List TableView)) →
    all_levels (orphan_no_backing all deleted removed new) k ls ≡ true
none_orphaned all deleted removed new none k ls = ap (λ ds. all_levels (orphan_no_backing all ds removed new) k ls) none ∙ levels k ls
  where
    each : (l : ℕ) (ts : List TableView) → list_all (orphans_no_backing all [] removed new l) ts ≡ true
    each l [] = refl
    each l (t ∷ ts) = λ i. orphans_bool t.is_virtual (list_any (λ n. n == t.backing) removed) (is_shown_after all [] new t.backing) i && each l ts i

    levels : (k : ℕ) (ls : List (List TableView)) → all_levels (orphan_no_backing all [] removed new) k ls ≡ true
    levels k [] = refl
    levels k (ts ∷ ls) = λ i. each k ts i && levels (k + 1) ls i

-- and none is freed
pub none_freed : (deleted : List DeletedItem) (c : CreatedItem) → deleted ≡ [] → (k : ℕ) (ls : List (List TableView)) → any_level (frees_physical deleted c) k ls ≡ false
none_freed deleted c none k ls = ap (λ ds. any_level (frees_physical ds c) k ls) none ∙ levels k ls
  where
    each : (l : ℕ) (ts : List TableView) → frees_physical [] c l ts ≡ false
    each l [] = refl
    each l (t ∷ ts) = each l ts

    levels : (k : ℕ) (ls : List (List TableView)) → any_level (frees_physical [] c) k ls ≡ false
    levels k [] = refl
    levels k (ts ∷ ls) = λ i. each k ts i || levels (k + 1) ls i

pub is_none : {X : Type 0} (xs : List X) → (length xs == 0) ≡ true → xs ≡ []
is_none [] e = refl
is_none (x ∷ xs) e = grind (arith, nat_tests)
