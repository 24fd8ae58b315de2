-- The objects of a bucket that is given as a list.
use Rattle.std.proofs.Common.{◌≡◌, ℕ, List, [], ◌∷◌, Some, cond, sym, ap, ◌∙◌}
use Rattle.std.specs.Prelude.{nat_eq}
use Rattle.std.specs.FinMap.{get, get-empty, get-insert}
use Rattle.std.specs.Cmp.Lexicographic.{nat_list_cmp_total, pointwise, slice_cmp, texts_ties}
use Rattle.std.specs.Ordering.{nat_cmp, eq_by_cmp}
use Rattle.std.specs.Cmp.{eq_by_cmp_equiv}
use Rattle.pb_folder.specs.Listed.{Files, folder_of, objects_of}

same_test : (a b : List ℕ) → pointwise nat_eq a b ≡ eq_by_cmp (slice_cmp nat_cmp) b a
same_test a b = texts_ties a b ∙ (eq_by_cmp_equiv nat_list_cmp_total).symm a b

-- the first of a name counts
pub listed : (files : Files) (name : List ℕ) → folder_of files name ≡ get (objects_of files) name
listed [] name = sym (get-empty (slice_cmp nat_cmp) name)
listed (file ∷ files) name =
    ap (cond (pointwise nat_eq file.0 name) (Some file.1)) (listed files name)
    ∙ ap (λ b. cond b (Some file.1) (get (objects_of files) name)) (same_test file.0 name)
    ∙ sym (get-insert nat_list_cmp_total (objects_of files) file.0 file.1 name)
