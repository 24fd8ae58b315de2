-- The slots of a folder after a call of its map.
use Rattle.std.proofs.Common.{◌≡◌, ℕ, Bool, true, false, cond, List, [], ◌∷◌, Option, Some, None, option_map, is_some, IsSome, ◌⊎◌, inl, inr, refl, sym, ap, subst, ◌∙◌, if◌then◌else◌}
use Rattle.std.specs.BTreeMap as tree
use Rattle.std.specs.BTreeMap.{BTreeMap, is_at}
use Rattle.std.specs.Map.{lookup, keys_of}
use Rattle.std.specs.Map.Calls.{RetainsPairs}
use Rattle.std.specs.declared.string.String.{String}
use Rattle.std.specs.declared.cmp.Ordering.TheVariants.{Less}
use Rattle.std.specs.String.{string_bytes, string_cmp}
use Rattle.std.specs.Ordering.{nat_cmp, is_eq, eq_by_cmp}
use Rattle.std.specs.Cmp.Lexicographic.{slice_cmp, nat_list_cmp_total}
use Rattle.std.specs.FinMap.{get}
use Rattle.std.specs.List.{AllByRecursion}
use Rattle.std.specs.List.Sorted.{IsStrictlySortedBy}
use Rattle.pb_mem.specs.Named.{by_name}
use Rattle.pb_mem.specs.Slots.{SlotView, Slots, file_of, earlier_of, ChangesAt, settled, survivor, IsPickedOf, AreSettled, ArePicked}
use Rattle.pb_mem.specs.Files.{FileView, synced}
use Rattle.std.proofs.Common.{Result, Ok, Err, OnOk, OnErr, is_err, ◌||◌}
use Rattle.std.specs.Cmp.{eq_by_cmp_equiv}
use Rattle.std.specs.List.{list_any}
use Rattle.std.proofs.lemmas.Map.Views.{list_any-from_Contains, Contains-from_any}
use Rattle.pb_devices.specs.Reads.{IsAscending, AreNames}
use Rattle.pb_mem.specs.Slots.{seen_of, contents_in}
use Rattle.pb_mem.proofs.NamedLemmas.{get-by_name, get-updated}
use Rattle.pb_mem.proofs.SlotLemmas.{tied_same}

option_map-same : {X : Type 0} (o : Option X) → option_map (λ x. x) o ≡ o
option_map-same None = refl
option_map-same (Some x) = refl

module _ {Y : Type 0} where
  slots_of : BTreeMap (String Y) SlotView → Slots
  slots_of m = by_name (λ s. s) m.entries

  -- the slot of a name is what a look-up by its bytes finds
  pub slot_at : (m : BTreeMap (String Y) SlotView) (name : List ℕ) → get (by_name (λ s. s) m.entries) name ≡ tree.get_by_text m name
  slot_at m name = get-by_name (λ s. s) m name ∙ option_map-same (tree.get_by_text m name)

  -- another slot was written through what a look-up found
  pub slot_changed : (name : List ℕ) (m n : BTreeMap (String Y) SlotView) (slot now : SlotView) (after : Option SlotView → Option SlotView)
      → tree.get_by_text m name ≡ Some slot → tree.UpdatesBy string_cmp (λ k. slice_cmp nat_cmp name (string_bytes k)) m n (Some now) → Some now ≡ after (Some slot)
      → ChangesAt (by_name (λ s. s) m.entries) (by_name (λ s. s) n.entries) name (after (get (by_name (λ s. s) m.entries) name))
  slot_changed name m n slot now after found updates is = λ other.
      get-updated (λ s. s) name m n (Some now) updates other
      ∙ ap (λ (a : Option SlotView). if eq_by_cmp (slice_cmp nat_cmp) other name then a else get (by_name (λ s. s) m.entries) other) (is ∙ ap after (sym (slot_at m name ∙ found)))

  -- nothing was found, and nothing has changed
  pub slot_absent : (name : List ℕ) (m n : BTreeMap (String Y) SlotView) (after : Option SlotView → Option SlotView)
      → tree.get_by_text m name ≡ None → n.entries ≡ m.entries → after None ≡ None
      → ChangesAt (by_name (λ s. s) m.entries) (by_name (λ s. s) n.entries) name (after (get (by_name (λ s. s) m.entries) name))
  slot_absent name m n after none same is = λ other.
      let gone : get (by_name (λ s. s) m.entries) name ≡ None = slot_at m name ∙ none in
      ap (λ (es : List (String Y × SlotView)). get (by_name (λ s. s) es) other) same
      ∙ elim (eq_by_cmp (slice_cmp nat_cmp) other name) as (λ (b : Bool). eq_by_cmp (slice_cmp nat_cmp) other name ≡ b → get (by_name (λ s. s) m.entries) other ≡ (if b then after (get (by_name (λ s. s) m.entries) name) else get (by_name (λ s. s) m.entries) other)) [
        | true ↦ λ tie. ap (get (by_name (λ s. s) m.entries)) (tied_same other name tie) ∙ gone ∙ sym is ∙ ap after (sym gone)
        | false ↦ λ _. refl
      ] refl

module _ {Y : Type 0} where
  -- nothing has changed
  pub slot_same : (name : List ℕ) (m n : BTreeMap (String Y) SlotView) → n.entries ≡ m.entries
      → ChangesAt (by_name (λ s. s) m.entries) (by_name (λ s. s) n.entries) name (get (by_name (λ s. s) m.entries) name)
  slot_same name m n same = λ other.
      ap (λ (es : List (String Y × SlotView)). get (by_name (λ s. s) es) other) same
      ∙ elim (eq_by_cmp (slice_cmp nat_cmp) other name) as (λ (b : Bool). eq_by_cmp (slice_cmp nat_cmp) other name ≡ b → get (by_name (λ s. s) m.entries) other ≡ (if b then get (by_name (λ s. s) m.entries) name else get (by_name (λ s. s) m.entries) other)) [
        | true ↦ λ tie. ap (get (by_name (λ s. s) m.entries)) (tied_same other name tie)
        | false ↦ λ _. refl
      ] refl

pub none_slot : (o : Option SlotView) → is_some o ≡ false → o ≡ None
none_slot None is = refl
none_slot (Some slot) is = cc

-- what a look-up finds after a call of `retain` that changes each slot as R says, and keeps those with a file
abbrev IsKept : (SlotView → SlotView → Type 0) → Option SlotView → Option SlotView → Type 0
IsKept R None new = new ≡ None
IsKept R (Some slot) new = (now : SlotView) × R slot now × ((new ≡ Some now) ⊎ ((now.file ≡ None) × (new ≡ None)))

none_file : (o : Option FileView) → false ≡ is_some o → o ≡ None
none_file None is = refl
none_file (Some file) is = cc

kept_step : (R : SlotView → SlotView → Type 0) (hit b : Bool) (v w : SlotView) (old rest : Option SlotView) → b ≡ is_some w.file → R v w → IsKept R old rest → (hit ≡ true → old ≡ None)
    → IsKept R (cond hit (Some v) old) (cond b (cond hit (Some w) rest) rest)
kept_step R true true v w old rest there r kept apart = (w, r, inl refl)
kept_step R true false v w old rest there r kept apart = (w, r, inr (none_file w.file there, subst (λ (o : Option SlotView). IsKept R o rest) (apart refl) kept))
kept_step R false true v w old rest there r kept apart = kept
kept_step R false false v w old rest there r kept apart = kept

module _ {Y : Type 0} where
  -- a key that a query is equal to is below the later ones, so that it finds none of them
  none_after : (q : List ℕ) (k : String Y) (es : List (String Y × SlotView)) → AllByRecursion (λ y. string_cmp k y ≡ Less) (keys_of es) → is_eq (slice_cmp nat_cmp q (string_bytes k)) ≡ true
      → lookup (is_at (λ y. slice_cmp nat_cmp q (string_bytes y))) es ≡ None
  none_after q k [] below tie = refl
  none_after q k (e ∷ es) below tie =
      ap (λ (b : Bool). cond b (Some e.1) (lookup (is_at (λ y. slice_cmp nat_cmp q (string_bytes y))) es))
      (ap (λ (name : List ℕ). is_eq (slice_cmp nat_cmp name (string_bytes e.0))) (tied_same q (string_bytes k) tie) ∙ ap is_eq below.0)
      ∙ none_after q k es below.1 tie

  lookup-cond : (q : List ℕ) (b : Bool) (k : String Y) (w : SlotView) (rest : List (String Y × SlotView))
      → lookup (is_at (λ y. slice_cmp nat_cmp q (string_bytes y))) (cond b ((k, w) ∷ rest) rest)
      ≡ cond b (cond (is_eq (slice_cmp nat_cmp q (string_bytes k))) (Some w) (lookup (is_at (λ y. slice_cmp nat_cmp q (string_bytes y))) rest)) (lookup (is_at (λ y. slice_cmp nat_cmp q (string_bytes y))) rest)
  lookup-cond q true k w rest = refl
  lookup-cond q false k w rest = refl

  pub retained : {F : Type 0} (T : F → String Y → SlotView → Bool → SlotView → F → Type 0) (R : SlotView → SlotView → Type 0) (f : F)
      → ((k : String Y) (v : SlotView) (b : Bool) (w : SlotView) (f' : F) → T f k v b w f' → (b ≡ is_some w.file) × R v w × (f' ≡ f))
      → (es kept : List (String Y × SlotView)) → RetainsPairs T f es kept → IsStrictlySortedBy string_cmp (keys_of es) → (q : List ℕ)
      → IsKept R (lookup (is_at (λ y. slice_cmp nat_cmp q (string_bytes y))) es) (lookup (is_at (λ y. slice_cmp nat_cmp q (string_bytes y))) kept)
  unfolding IsStrictlySortedBy
  retained T R f calls [] kept retains sorted q = ap (lookup (is_at (λ y. slice_cmp nat_cmp q (string_bytes y)))) retains
  retained {F} T R f calls (e ∷ es) kept retains sorted q =
      let rest = retains.3 in
      let call = calls e.0 e.1 retains.0 retains.1 retains.2 retains.4 in
      let later = retained T R f calls es rest (subst (λ (g : F). RetainsPairs T g es rest) call.2 retains.5) sorted.1 q in
      subst (λ (new : Option SlotView). IsKept R (lookup (is_at (λ y. slice_cmp nat_cmp q (string_bytes y))) (e ∷ es)) new)
      (sym (ap (lookup (is_at (λ y. slice_cmp nat_cmp q (string_bytes y)))) retains.6 ∙ lookup-cond q retains.0 e.0 retains.1 rest))
      (kept_step R (is_eq (slice_cmp nat_cmp q (string_bytes e.0))) retains.0 e.1 retains.1 _ _ call.0 call.1 later (none_after q e.0 es sorted.0))

settled_kept : (old new : Option SlotView) → IsKept (λ v w. w ≡ settled v) old new → (file_of new ≡ option_map synced (file_of old)) × (earlier_of new ≡ [])
settled_kept None new kept = (ap file_of kept, ap earlier_of kept)
settled_kept (Some slot) new (now, is, inl there) = (ap file_of there ∙ ap (λ (s : SlotView). s.file) is, ap earlier_of there ∙ ap (λ (s : SlotView). s.earlier) is)
settled_kept (Some slot) new (now, is, inr gone) = (ap file_of gone.1 ∙ sym gone.0 ∙ ap (λ (s : SlotView). s.file) is, ap earlier_of gone.1)

picked_kept : (pick : ℕ) (old new : Option SlotView) → IsKept (λ v w. IsPickedOf pick (survivor pick (Some v)) w.file × (w.earlier ≡ [])) old new → IsPickedOf pick (survivor pick old) (file_of new) × (earlier_of new ≡ [])
picked_kept pick None new kept = (ap file_of kept, ap earlier_of kept)
picked_kept pick (Some slot) new (now, is, inl there) =
    (subst (λ (o : Option SlotView). IsPickedOf pick (survivor pick (Some slot)) (file_of o)) (sym there) is.0, ap earlier_of there ∙ is.1)
picked_kept pick (Some slot) new (now, is, inr gone) =
    (subst (λ (o : Option FileView). IsPickedOf pick (survivor pick (Some slot)) o) (gone.0 ∙ sym (ap file_of gone.1)) is.0, ap earlier_of gone.1)

module _ {Y : Type 0} (m n : BTreeMap (String Y) SlotView) where
  pub are_settled : ((q : List ℕ) → IsKept (λ v w. w ≡ settled v) (tree.get_by_text m q) (tree.get_by_text n q)) → AreSettled (by_name (λ s. s) m.entries) (by_name (λ s. s) n.entries)
  are_settled kept = record {
    file = λ q. ap file_of (slot_at n q) ∙ (settled_kept _ _ (kept q)).0 ∙ ap (λ (s : Option SlotView). option_map synced (file_of s)) (sym (slot_at m q));
    earlier = λ q. ap earlier_of (slot_at n q) ∙ (settled_kept _ _ (kept q)).1;
  }

  pub are_picked : (pick : ℕ) → ((q : List ℕ) → IsKept (λ v w. IsPickedOf pick (survivor pick (Some v)) w.file × (w.earlier ≡ [])) (tree.get_by_text m q) (tree.get_by_text n q)) → ArePicked pick (by_name (λ s. s) m.entries) (by_name (λ s. s) n.entries)
  are_picked pick kept = record {
    file = λ q. subst (λ (s : Option SlotView). IsPickedOf pick (survivor pick s) (file_of (get (by_name (λ s. s) n.entries) q))) (sym (slot_at m q))
        (subst (λ (s : Option SlotView). IsPickedOf pick (survivor pick (tree.get_by_text m q)) (file_of s)) (sym (slot_at n q)) (picked_kept pick _ _ (kept q)).0);
    earlier = λ q. ap earlier_of (slot_at n q) ∙ (picked_kept pick _ _ (kept q)).1;
  }

pub always_err : {T E : Type 0} (r : Result T E) {P : Type 0} → P → OnErr r P
always_err (Ok x) p = tt
always_err (Err e) p = p

pub always_ok : {T E : Type 0} (r : Result T E) {P : Type 0} → P → OnOk r P
always_ok (Ok x) p = p
always_ok (Err e) p = tt

pub from_err : {T E : Type 0} (r : Result T E) {P : Type 0} → is_err r ≡ true → OnErr r P → P
from_err (Ok x) is p = cc
from_err (Err e) is p = p

pub from_ok : {T E : Type 0} (r : Result T E) {P : Type 0} → is_err r ≡ false → OnOk r P → P
from_ok (Ok x) is p = p
from_ok (Err e) is p = cc

-- the names of the files that stand
abbrev pub file_names : {Y : Type 0} → List (String Y × SlotView) → List (List ℕ)
file_names [] = []
file_names (e ∷ es) = if is_some e.1.file then string_bytes e.0 ∷ file_names es else file_names es

abbrev AllAbove : List ℕ → List (List ℕ) → Type 0
AllAbove x [] = Unit {0}
AllAbove x (y ∷ ys) = (slice_cmp nat_cmp x y ≡ Less) × AllAbove x ys

ascending_first : (x : List ℕ) (xs : List (List ℕ)) → AllAbove x xs → IsAscending xs → IsAscending (x ∷ xs)
ascending_first x [] above ascending = tt
ascending_first x (y ∷ ys) above ascending = (above.0, ascending)

is_some-seen : (file : Option FileView) → is_some (seen_of file) ≡ is_some file
is_some-seen None = refl
is_some-seen (Some file) = refl

pub not_none : (A : Type 0) → IsSome {T = A} None → ⊥
not_none A is = cc

-- one more entry, whose key the query hits or not, with a file or without
has_step : (hit there any : Bool) (file : Option FileView) (earlier : List (Option FileView)) (later : Option SlotView) → there ≡ is_some file → any ≡ is_some (seen_of (file_of later)) → (hit ≡ true → later ≡ None)
    → (if there then hit || any else any) ≡ is_some (seen_of (file_of (cond hit (Some (record { file = file; earlier = earlier })) later)))
has_step true true any file earlier later is same apart = is ∙ sym (is_some-seen file)
has_step true false any file earlier later is same apart = same ∙ ap (λ (s : Option SlotView). is_some (seen_of (file_of s))) (apart refl) ∙ is ∙ sym (is_some-seen file)
has_step false true any file earlier later is same apart = same
has_step false false any file earlier later is same apart = same

any_names : (q : List ℕ) (b : Bool) (x : List ℕ) (xs : List (List ℕ)) → list_any (eq_by_cmp (slice_cmp nat_cmp) q) (if b then x ∷ xs else xs) ≡ (if b then eq_by_cmp (slice_cmp nat_cmp) q x || list_any (eq_by_cmp (slice_cmp nat_cmp) q) xs else list_any (eq_by_cmp (slice_cmp nat_cmp) q) xs)
any_names q true x xs = refl
any_names q false x xs = refl

module _ {Y : Type 0} where
  names_above : (k : String Y) (es : List (String Y × SlotView)) → AllByRecursion (λ y. string_cmp k y ≡ Less) (keys_of es) → AllAbove (string_bytes k) (file_names es)
  names_above k [] below = tt
  names_above k (e ∷ es) below =
      elim (is_some e.1.file) as (λ (b : Bool). AllAbove (string_bytes k) (if b then string_bytes e.0 ∷ file_names es else file_names es)) [
        | true ↦ (below.0, names_above k es below.1)
        | false ↦ names_above k es below.1
      ]

  names_ascend : (es : List (String Y × SlotView)) → IsStrictlySortedBy string_cmp (keys_of es) → IsAscending (file_names es)
  unfolding IsStrictlySortedBy
  names_ascend [] sorted = tt
  names_ascend (e ∷ es) sorted =
      elim (is_some e.1.file) as (λ (b : Bool). IsAscending (if b then string_bytes e.0 ∷ file_names es else file_names es)) [
        | true ↦ ascending_first (string_bytes e.0) (file_names es) (names_above e.0 es sorted.0) (names_ascend es sorted.1)
        | false ↦ names_ascend es sorted.1
      ]

  has_name : (q : List ℕ) (es : List (String Y × SlotView)) → IsStrictlySortedBy string_cmp (keys_of es)
      → list_any (eq_by_cmp (slice_cmp nat_cmp) q) (file_names es) ≡ is_some (seen_of (file_of (lookup (is_at (λ y. slice_cmp nat_cmp q (string_bytes y))) es)))
  unfolding IsStrictlySortedBy
  has_name q [] sorted = refl
  has_name q (e ∷ es) sorted =
      any_names q (is_some e.1.file) (string_bytes e.0) (file_names es)
      ∙ has_step (is_eq (slice_cmp nat_cmp q (string_bytes e.0))) (is_some e.1.file) (list_any (eq_by_cmp (slice_cmp nat_cmp) q) (file_names es)) e.1.file e.1.earlier _ refl (has_name q es sorted.1) (none_after q e.0 es sorted.0)

  pub are_names : (m : BTreeMap (String Y) SlotView) → IsStrictlySortedBy string_cmp (keys_of m.entries) → AreNames (file_names m.entries) (contents_in (by_name (λ s. s) m.entries)).seen
  are_names m sorted = record {
    ascending = names_ascend m.entries sorted;
    each = λ q.
        let there : is_some (seen_of (file_of (get (by_name (λ s. s) m.entries) q))) ≡ list_any (eq_by_cmp (slice_cmp nat_cmp) q) (file_names m.entries) =
        ap (λ (s : Option SlotView). is_some (seen_of (file_of s))) (slot_at m q) ∙ sym (has_name q m.entries sorted) in (
          λ has. (there ∙ list_any-from_Contains (eq_by_cmp_equiv nat_list_cmp_total) q (file_names m.entries) has),
          λ is. Contains-from_any tied_same q (file_names m.entries) (sym there ∙ is),
        );
  }
