-- The new tables of an excise are its parts: each of a table that the cut overlaps, numbered on from the first number.
use Rattle.std.proofs.Common.{◌≡◌, ℕ, ◌+◌, ◌≤◌, List, [], ◌∷◌, ◌++◌, Bool, true, false, cond, length, refl, ap, sym, ◌∙◌, subst, append_assoc, arith, inl, inr}
use Rattle.std.proofs.lemmas.Bool.{lt-ltb}
use Rattle.std.proofs.lemmas.List.{map-append}
use Rattle.std.proofs.lemmas.List.Elements.{All-head, All-tail}
use Rattle.std.proofs.lemmas.List.Folds.{list_all-append}
use Rattle.std.specs.Prelude.{◌⊎◌, ◌&&◌, nat_lt, map, All}
use Rattle.std.specs.List.{list_all}
use Rattle.pb_edit.specs.Edit.{CreatedItem, VersionEdit}
use Rattle.pb_keys.specs.Span.{KeySpan, overlap}
use Rattle.pb_span_cases.specs.Remainder.{remains}
use Rattle.pb_version.specs.Version.{TableView, VersionView, all_tables, flattened}
use Rattle.pb_version.specs.Edited.{virtual_table, each_level, new_tables}
use Rattle.pb_version.specs.State.{IsVersion}
use Rattle.pb_version.proofs.Levels.{flattened_cons}
use Rattle.pb_excise.specs.Excised.{parts_of, part_table, numbered_parts, parts_count}
use Rattle.pb_excise.specs.Planned.{parts_from, parts_of_levels, part_items, are_some, excise_edit, with_count}
use Rattle.pb_excise.proofs.SameLists.{In, all_from, in_first, in_second}
use Rattle.pb_excise.proofs.Gone.{items_of, HasSize, items_made}
use Rattle.pb_excise.proofs.Backings.{shown, part_size}

-- ---- elements

pub of_append : {X : Type 0} (xs ys : List X) (x : X) → In (xs ++ ys) x → In xs x ⊎ In ys x
of_append [] ys x has = inr has
of_append (z ∷ zs) ys x (inl same) = inl (inl same)
of_append (z ∷ zs) ys x (inr later) =
    elim (of_append zs ys x later) [
      | inl front ↦ inl (inr front)
      | inr back ↦ inr back
    ]

pub in_all : {X : Type 0} (P : X → Type 0) (xs : List X) (x : X) → All P xs → In xs x → P x
in_all P [] x all has = absurd has
in_all P (y ∷ ys) x all (inl same) = subst P same (All-head P y ys all)
in_all P (y ∷ ys) x all (inr later) = in_all P ys x (All-tail P y ys all) later

-- ---- where a part is from

pub record IsPartFrom (cut : KeySpan) (ts : List TableView) (p : TableView) : Type 0 where
  pub table : TableView
  pub stood : In ts table
  pub number : ℕ
  pub bounds : KeySpan
  pub remain : In (remains table.view.bounds cut) bounds
  pub is : part_table table number bounds ≡ p

module _ (cut : KeySpan) where
  numbered_from_table : (all : List TableView) (t : TableView) → In all t → (n : ℕ) (bs : List KeySpan) →
      ((b : KeySpan) → In bs b → In (remains t.view.bounds cut) b) → (p : TableView) → In (numbered_parts t n bs) p → IsPartFrom cut all p
  numbered_from_table all t stood n [] inside p has = absurd has
  numbered_from_table all t stood n (b ∷ bs) inside p (inl same) =
      record { table = t; stood = stood; number = n; bounds = b; remain = inside b (inl refl); is = same }
  numbered_from_table all t stood n (b ∷ bs) inside p (inr later) =
      numbered_from_table all t stood (n + 1) bs (λ c has. inside c (inr has)) p later

  table_parts : (all : List TableView) (t : TableView) → In all t → (n : ℕ) (p : TableView) → In (numbered_parts t n (parts_of cut t)) p →
      IsPartFrom cut all p
  table_parts all t stood n p =
      elim (overlap t.view.bounds cut) as (λ b. In (numbered_parts t n (cond b (remains t.view.bounds cut) [])) p → IsPartFrom cut all p) [
        | true ↦ λ has. numbered_from_table all t stood n (remains t.view.bounds cut) (λ b in_them. in_them) p has
        | false ↦ λ has. absurd has
      ]

  parts_are_of : (all : List TableView) (n : ℕ) (ts : List TableView) → ((t : TableView) → In ts t → In all t) → (p : TableView) →
      In (parts_from cut n ts) p → IsPartFrom cut all p
  parts_are_of all n [] inside p has = absurd has
  parts_are_of all n (t ∷ ts) inside p has =
      let m = n + length (parts_of cut t) in
      elim (of_append (numbered_parts t n (parts_of cut t)) (parts_from cut m ts) p has) [
        | inl front ↦ table_parts all t (inside t (inl refl)) n p front
        | inr back ↦ parts_are_of all m ts (λ u in_them. inside u (inr in_them)) p back
      ]

  -- a test of each part
  pub each_part : (q : TableView → Bool) (n : ℕ) (ts : List TableView) → ((p : TableView) → IsPartFrom cut ts p → q p ≡ true) →
      list_all q (parts_from cut n ts) ≡ true
  each_part q n ts passes =
      all_from q (parts_from cut n ts) (λ p has. passes p (parts_are_of ts n ts (λ t in_them. in_them) p has))

  -- ---- their numbers

  numbered_below : (t : TableView) (m n : ℕ) (bs : List KeySpan) → n + length bs ≤ m →
      list_all (λ (p : TableView). nat_lt p.number m) (numbered_parts t n bs) ≡ true
  numbered_below t m n [] h = refl
  numbered_below t m n (b ∷ bs) h = λ i. lt-ltb n m (omega arith) i && numbered_below t m (n + 1) bs (omega arith) i

  pub parts_below : (m n : ℕ) (ts : List TableView) → n + parts_count cut ts ≤ m →
      list_all (λ (p : TableView). nat_lt p.number m) (parts_from cut n ts) ≡ true
  parts_below m n [] h = refl
  parts_below m n (t ∷ ts) h =
      let next = n + length (parts_of cut t) in
      list_all-append (λ (p : TableView). nat_lt p.number m) (numbered_parts t n (parts_of cut t)) (parts_from cut next ts)
      ∙ (λ i. numbered_below t m n (parts_of cut t) (omega arith) i && parts_below m next ts (omega arith) i)

  -- ---- over all levels

  parts_from-append : (n : ℕ) (ts us : List TableView) →
      parts_from cut n (ts ++ us) ≡ parts_from cut n ts ++ parts_from cut (n + parts_count cut ts) us
  parts_from-append n [] us = let same : n ≡ n + 0 = omega arith in ap (λ m. parts_from cut m us) same
  parts_from-append n (t ∷ ts) us =
      let next = n + length (parts_of cut t) in
      let same : next + parts_count cut ts ≡ n + (length (parts_of cut t) + parts_count cut ts) = omega arith in
      let here = numbered_parts t n (parts_of cut t) in
      ap (λ ps. here ++ ps) (parts_from-append next ts us ∙ ap (λ m. parts_from cut next ts ++ parts_from cut m us) same)
      ∙ sym (append_assoc here (parts_from cut next ts) (parts_from cut (n + (length (parts_of cut t) + parts_count cut ts)) us))

  flat_parts : (n : ℕ) (ls : List (List TableView)) → flattened (parts_of_levels cut n ls) ≡ parts_from cut n (flattened ls)
  flat_parts n [] = refl
  flat_parts n (ts ∷ ls) =
      let next = n + parts_count cut ts in
      flattened_cons (parts_from cut n ts) (parts_of_levels cut next ls)
      ∙ ap (λ ps. parts_from cut n ts ++ ps) (flat_parts next ls)
      ∙ sym (ap (parts_from cut n) (flattened_cons ts ls) ∙ parts_from-append n ts (flattened ls))

  levels_made : (backings : List CreatedItem) (k n : ℕ) (ls : List (List TableView)) →
      ((t : TableView) → In (flattened ls) t → are_some (parts_of cut t) ≡ true → HasSize backings t) →
      map (virtual_table backings) (items_of k (parts_of_levels cut n ls)) ≡ flattened (parts_of_levels cut n ls)
  levels_made backings k n [] sizes = refl
  levels_made backings k n (ts ∷ ls) sizes =
      let next = n + parts_count cut ts in
      let deeper = parts_of_levels cut next ls in
      ap (map (virtual_table backings)) (flattened_cons (part_items k (parts_from cut n ts)) (each_level part_items (k + 1) deeper))
      ∙ map-append (virtual_table backings) (part_items k (parts_from cut n ts)) (items_of (k + 1) deeper)
      ∙ (λ i.
      items_made backings cut k n ts
      (λ t has. sizes t (subst (λ us. In us t) (sym (flattened_cons ts ls)) (in_first ts (flattened ls) t has))) i
      ++ levels_made backings (k + 1) next ls
      (λ t has. sizes t (subst (λ us. In us t) (sym (flattened_cons ts ls)) (in_second ts (flattened ls) t has))) i)
      ∙ sym (flattened_cons (parts_from cut n ts) deeper)

-- ---- of a version

module _ (v : VersionView) (is : IsVersion v) (cut : KeySpan) (first accepted : ℕ) where
  abbrev pub edit : VersionEdit
  edit = with_count accepted (excise_edit v cut first)

  abbrev pub parts : List TableView
  parts = parts_from cut first (all_tables v)

  pub new_are : new_tables v edit ≡ parts
  new_are =
      levels_made cut (shown v is cut) 0 first v.levels (λ t has some. part_size v is cut t has some)
      ∙ flat_parts cut first v.levels
