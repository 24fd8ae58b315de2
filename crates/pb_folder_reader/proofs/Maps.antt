-- The entries of a map in memory, read as the map that they make.
use Rattle.std.proofs.Common.{◌≡◌, ℕ, Bool, cond, List, [], ◌∷◌, Option, Some, None, refl, sym, ap, ◌∙◌, subst, length, arith}
use Rattle.std.specs.BTreeMap as tree
use Rattle.std.specs.BTreeMap.{BTreeMap, is_at}
use Rattle.std.specs.Cmp.{eq_by_cmp_equiv}
use Rattle.std.specs.List.{AllByRecursion}
use Rattle.std.specs.List.Sorted.{IsStrictlySortedBy}
use Rattle.std.specs.Map.{lookup, keys_of}
use Rattle.std.specs.Map.Calls.{RetainsPairs}
use Rattle.std.specs.Ordering.{eq_by_cmp}
use Rattle.std.specs.declared.cmp.Ordering.{Ordering}
use Rattle.std.specs.declared.cmp.Ordering.TheVariants.{Less}
use Rattle.std.specs.FinMap.{empty, entries, entries-insert, len-empty, len-entries, find, get, insert, remove, retain_keys, from_entries, get-from_entries, get-insert, get-remove, get-retain_keys}
use Rattle.std.specs.FinMap.Entries.{put, by_order, where_key, find-where_key}
use Rattle.pb_keys.specs.Key.{key_cmp}
use Rattle.pb_keys.specs.KeyLaws.{key_cmp_total}
use Rattle.pb_keys.proofs.MapFacts.{same_pairs}
use Rattle.pb_keys.proofs.SpanFacts.{alike_keys}

abbrev pub Entries : Type 0
Entries = List (List ℕ × List ℕ)

find-lookup : (key : List ℕ) (entries : Entries) → find key_cmp key entries ≡ lookup (is_at (key_cmp key)) entries
find-lookup key [] = refl
find-lookup key (e ∷ es) = ap (cond (eq_by_cmp key_cmp key e.0) (Some e.1)) (find-lookup key es)

pub get_entries : (entries : Entries) (key : List ℕ) → get (from_entries {R = key_cmp} entries) key ≡ lookup (is_at (key_cmp key)) entries
get_entries entries key = get-from_entries key_cmp_total entries key ∙ find-lookup key entries

-- ---- one key

module _ (m n : BTreeMap (List ℕ) (List ℕ)) (key : List ℕ) where
  updated : (found : Option (List ℕ)) → tree.UpdatesBy key_cmp (key_cmp key) m n found → (q : List ℕ)
      → get (from_entries {R = key_cmp} n.entries) q ≡ cond (eq_by_cmp key_cmp q key) found (get (from_entries {R = key_cmp} m.entries) q)
  updated found updates q =
      get_entries n.entries q ∙ updates.0 q
      ∙ ap (cond (is_at (key_cmp key) q) found) (sym (get_entries m.entries q))
      ∙ ap (λ b. cond b found (get (from_entries {R = key_cmp} m.entries) q)) ((eq_by_cmp_equiv key_cmp_total).symm key q)

  pub inserted : (value : List ℕ) → tree.UpdatesBy key_cmp (key_cmp key) m n (Some value)
      → from_entries {R = key_cmp} n.entries ≡ insert (from_entries m.entries) key value
  inserted value updates =
      same_pairs _ _ (λ q. updated (Some value) updates q ∙ sym (get-insert key_cmp_total (from_entries m.entries) key value q))

  pub removed : tree.UpdatesBy key_cmp (key_cmp key) m n None → from_entries {R = key_cmp} n.entries ≡ remove (from_entries m.entries) key
  removed updates = same_pairs _ _ (λ q. updated None updates q ∙ sym (get-remove key_cmp_total (from_entries m.entries) key q))

-- ---- keys that pass a test

filtered : {F : Type 0} (T : F → List ℕ → List ℕ → Bool → List ℕ → F → Type 0) (passes : List ℕ → Bool) (f : F)
    → ((k v : List ℕ) (b : Bool) (w : List ℕ) (f' : F) → T f k v b w f' → (b ≡ passes k) × (w ≡ v) × (f' ≡ f))
    → (es kept : Entries) → RetainsPairs T f es kept → kept ≡ where_key key_cmp passes es
filtered T passes f calls [] kept retains = retains
filtered {F} T passes f calls (e ∷ es) kept retains =
    let rest = retains.3 in
    let call = calls e.0 e.1 retains.0 retains.1 retains.2 retains.4 in
    let later = filtered T passes f calls es rest (subst (λ (g : F). RetainsPairs T g es rest) call.2 retains.5) in
    retains.6 ∙ (λ i. cond (call.0 i) ((e.0, call.1 i) ∷ later i) (later i))

passing : (passes : List ℕ → Bool) (es : Entries) → from_entries {R = key_cmp} (where_key key_cmp passes es) ≡ retain_keys (from_entries es) passes
passing passes es =
    same_pairs _ _
    (λ q. get-from_entries key_cmp_total (where_key key_cmp passes es) q
    ∙ find-where_key key_cmp passes q (λ x tied. alike_keys passes q x tied) es
    ∙ ap (λ found. cond (passes q) found None) (sym (get-from_entries key_cmp_total es q))
    ∙ sym (get-retain_keys (from_entries es) passes q (λ x tied. alike_keys passes q x tied)))

pub retained : {F : Type 0} (T : F → List ℕ → List ℕ → Bool → List ℕ → F → Type 0) (passes : List ℕ → Bool) (f : F)
    → ((k v : List ℕ) (b : Bool) (w : List ℕ) (f' : F) → T f k v b w f' → (b ≡ passes k) × (w ≡ v) × (f' ≡ f))
    → (es kept : Entries) → RetainsPairs T f es kept → from_entries {R = key_cmp} kept ≡ retain_keys (from_entries es) passes
retained T passes f calls es kept retains = ap (from_entries {R = key_cmp}) (filtered T passes f calls es kept retains) ∙ passing passes es

-- ---- the entries of a sorted list's map are the list

none_left : {X : Type 0} (es : List X) → 0 ≡ length es → es ≡ []
none_left [] e = refl
none_left (x ∷ es) e = absurd (omega arith)

put-first : (e : List ℕ × List ℕ) (es : List (List ℕ × List ℕ)) → AllByRecursion (λ key. key_cmp e.0 key ≡ Less) (keys_of es)
    → put key_cmp e.0 e.1 es ≡ e ∷ es
put-first e [] below = refl
put-first e (f ∷ es) below = ap (λ (o : Ordering). by_order o (e ∷ f ∷ es) ((f.0, e.1) ∷ es) (f ∷ put key_cmp e.0 e.1 es)) below.0

pub entries-of_sorted : (es : List (List ℕ × List ℕ)) → IsStrictlySortedBy key_cmp (keys_of es) → entries (from_entries {R = key_cmp} es) ≡ es
unfolding IsStrictlySortedBy
entries-of_sorted [] sorted = none_left (entries (empty {X = List ℕ} {R = key_cmp})) (sym (len-empty key_cmp (List ℕ)) ∙ len-entries (empty {X = List ℕ} {R = key_cmp}))
entries-of_sorted (e ∷ es) sorted =
    entries-insert key_cmp_total (from_entries es) e.0 e.1
    ∙ ap (put key_cmp e.0 e.1) (entries-of_sorted es sorted.1)
    ∙ put-first e es sorted.0
