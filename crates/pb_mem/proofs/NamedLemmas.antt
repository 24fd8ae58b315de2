-- A map from texts, seen by the bytes of its keys: what its calls do to it.
use Rattle.std.proofs.Common.{◌≡◌, ℕ, Bool, true, false, cond, List, [], ◌∷◌, map, Option, Some, None, refl, sym, ap, ◌∙◌, ◌+◌, length, count_by, arith}
use Rattle.std.specs.BTreeMap as tree
use Rattle.std.specs.BTreeMap.{BTreeMap, is_at}
use Rattle.std.specs.Map.{lookup, keys_of}
use Rattle.std.specs.Option.{option_map}
use Rattle.std.specs.declared.string.String.{String}
use Rattle.std.specs.declared.cmp.Ordering.{Ordering}
use Rattle.std.specs.declared.cmp.Ordering.TheVariants.{Less}
use Rattle.std.specs.String.{string_bytes, string_cmp}
use Rattle.std.specs.Str.{bytes_eq}
use Rattle.std.specs.Ordering.{nat_cmp, is_eq, eq_by_cmp}
use Rattle.std.specs.Cmp.{eq_by_cmp_equiv}
use Rattle.std.specs.Cmp.Lexicographic.{slice_cmp, nat_list_cmp_total}
use Rattle.std.specs.FinMap.{FinMap, empty, get, insert, remove, find, keys, entries, entries-insert, len-entries, len-empty, get-from_entries, get-insert, get-remove, same_map, nat_cmp-IsAntisymmetric, slice_cmp-IsAntisymmetric}
use Rattle.std.specs.FinMap.Entries.{put, by_order}
use Rattle.std.specs.List.{AllByRecursion, fold}
use Rattle.std.specs.List.Sorted.{IsStrictlySortedBy}
use Rattle.std.proofs.lemmas.Map.Text.{is_eq-slice_cmp, btree_map_updates_text}
use Rattle.pb_mem.specs.Named.{named, by_name}

module _ {X Y Z : Type 0} (shown : X → Z) where
  find-named : (q : List ℕ) (es : List (String Y × X)) → find (slice_cmp nat_cmp) q (named shown es) ≡ option_map shown (lookup (is_at (λ k. slice_cmp nat_cmp q (string_bytes k))) es)
  find-named q [] = refl
  find-named q (e ∷ es) =
      elim (is_eq (slice_cmp nat_cmp q (string_bytes e.0))) as (λ b. cond b (Some (shown e.1)) (find (slice_cmp nat_cmp) q (named shown es)) ≡ option_map shown (cond b (Some e.1) (lookup (is_at (λ k. slice_cmp nat_cmp q (string_bytes k))) es))) [
        | true ↦ refl
        | false ↦ find-named q es
      ]

  -- at a name stands what a look-up by its bytes finds
  pub get-by_name : (m : BTreeMap (String Y) X) (q : List ℕ) → get (by_name shown m.entries) q ≡ option_map shown (tree.get_by_text m q)
  get-by_name m q = get-from_entries nat_list_cmp_total (named shown m.entries) q ∙ find-named q m.entries

bytes_eq-swap : (a b : List ℕ) → bytes_eq a b ≡ eq_by_cmp (slice_cmp nat_cmp) b a
bytes_eq-swap a b = sym (is_eq-slice_cmp a b) ∙ (eq_by_cmp_equiv nat_list_cmp_total).symm a b

pub same_by_name : {X : Type 0} (m n : FinMap (slice_cmp nat_cmp) X) → ((q : List ℕ) → get m q ≡ get n q) → m ≡ n
same_by_name m n is = same_map nat_list_cmp_total (slice_cmp-IsAntisymmetric nat_cmp-IsAntisymmetric) m n is

option_map-cond : {X Z : Type 0} (shown : X → Z) (b : Bool) (x y : Option X) → option_map shown (cond b x y) ≡ cond b (option_map shown x) (option_map shown y)
option_map-cond shown true x y = refl
option_map-cond shown false x y = refl

module _ {X Y Z : Type 0} (shown : X → Z) (name : List ℕ) (m n : BTreeMap (String Y) X) where
  pub get-updated : (w : Option X) → tree.UpdatesBy string_cmp (λ k. slice_cmp nat_cmp name (string_bytes k)) m n w
      → (q : List ℕ) → get (by_name shown n.entries) q ≡ cond (eq_by_cmp (slice_cmp nat_cmp) q name) (option_map shown w) (get (by_name shown m.entries) q)
  get-updated w updates q =
      get-by_name shown n q ∙ ap (option_map shown) (btree_map_updates_text name m n w updates q)
      ∙ option_map-cond shown (bytes_eq name q) w (tree.get_by_text m q)
      ∙ ap (λ (b : Bool). cond b (option_map shown w) (option_map shown (tree.get_by_text m q))) (bytes_eq-swap name q)
      ∙ ap (cond (eq_by_cmp (slice_cmp nat_cmp) q name) (option_map shown w)) (sym (get-by_name shown m q))

  pub by_name-insert : (x : X) → tree.UpdatesBy string_cmp (λ k. slice_cmp nat_cmp name (string_bytes k)) m n (Some x)
      → by_name shown n.entries ≡ insert (by_name shown m.entries) name (shown x)
  by_name-insert x updates =
      same_by_name _ _ (λ q. get-updated (Some x) updates q ∙ sym (get-insert nat_list_cmp_total (by_name shown m.entries) name (shown x) q))

  pub by_name-remove : tree.UpdatesBy string_cmp (λ k. slice_cmp nat_cmp name (string_bytes k)) m n None
      → by_name shown n.entries ≡ remove (by_name shown m.entries) name
  by_name-remove updates =
      same_by_name _ _ (λ q. get-updated None updates q ∙ sym (get-remove nat_list_cmp_total (by_name shown m.entries) name q))

no_entries : {A : Type 0} (es : List A) → length es ≡ 0 → es ≡ []
no_entries [] e = refl
no_entries (x ∷ es) e = absurd (omega arith)

entries-empty : {K X : Type 0} (R : K → K → Ordering) → entries (empty {X = X} {R = R}) ≡ []
entries-empty {K} {X} R = no_entries (entries (empty {X = X} {R = R})) (sym (len-entries (empty {X = X} {R = R})) ∙ len-empty R X)

module _ {X Y Z : Type 0} (shown : X → Z) where
  put-first : (k : String Y) (x : Z) (es : List (String Y × X)) → AllByRecursion (λ y. string_cmp k y ≡ Less) (keys_of es)
      → put (slice_cmp nat_cmp) (string_bytes k) x (named shown es) ≡ (string_bytes k, x) ∷ named shown es
  put-first k x [] below = refl
  put-first k x (e ∷ es) below =
      ap (λ (o : Ordering). by_order o ((string_bytes k, x) ∷ named shown (e ∷ es)) ((string_bytes e.0, x) ∷ named shown es) ((string_bytes e.0, shown e.1) ∷ put (slice_cmp nat_cmp) (string_bytes k) x (named shown es))) below.0

  -- the entries stand in the keys' order
  pub entries-by_name : (es : List (String Y × X)) → IsStrictlySortedBy string_cmp (keys_of es) → entries (by_name shown es) ≡ named shown es
  unfolding IsStrictlySortedBy
  entries-by_name [] sorted = entries-empty (slice_cmp nat_cmp)
  entries-by_name (e ∷ es) sorted =
      entries-insert nat_list_cmp_total (by_name shown es) (string_bytes e.0) (shown e.1)
      ∙ ap (put (slice_cmp nat_cmp) (string_bytes e.0) (shown e.1)) (entries-by_name es sorted.1)
      ∙ put-first e.0 (shown e.1) es sorted.0

  names : (es : List (String Y × X)) → map (λ e. e.0) (named shown es) ≡ map string_bytes (keys_of es)
  names [] = refl
  names (e ∷ es) = ap (λ ns. string_bytes e.0 ∷ ns) (names es)

  -- the names are the keys' bytes, in the keys' order
  pub keys-by_name : (es : List (String Y × X)) → IsStrictlySortedBy string_cmp (keys_of es) → keys (by_name shown es) ≡ map string_bytes (keys_of es)
  keys-by_name es sorted = ap (map (λ e. e.0)) (entries-by_name es sorted) ∙ names es

fold-map : {A B C : Type 0} (g : C → B → C) (f : A → B) (start : C) (xs : List A) → fold g start (map f xs) ≡ fold (λ acc x. g acc (f x)) start xs
fold-map g f start [] = refl
fold-map g f start (x ∷ xs) = fold-map g f (g start (f x)) xs

pub count_by-map : {A B : Type 0} (f : A → B) (p : B → Bool) (xs : List A) → count_by p (map f xs) ≡ count_by (λ x. p (f x)) xs
count_by-map f p xs = fold-map (λ n x. n + cond (p x) 1 0) f 0 xs
