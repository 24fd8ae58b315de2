-- The backings that an excise makes and those that it leaves.
use Rattle.std.proofs.Common.{◌≡◌, ℕ, ◌+◌, List, [], ◌∷◌, Bool, true, false, cond, length, refl, ap, sym, ◌∙◌, subst, arith, inl, inr}
use Rattle.std.proofs.lemmas.Bool.Decides.{nat_tests}
use Rattle.std.specs.Prelude.{◌⊎◌, not, ◌&&◌, ◌||◌, ◌==◌, nat_lt, map, Some}
use Rattle.std.specs.List.{filter, list_any, list_all, AllByRecursion}
use Rattle.std.specs.Option.{unwrap_or}
use Rattle.std.proofs.lemmas.Bool.{not-true, eq-eqb}
use Rattle.pb_edit.specs.Edit.{CreatedItem}
use Rattle.pb_edit.specs.Grammar.{created_below}
use Rattle.pb_keys.specs.Span.{KeySpan, overlap}
use Rattle.pb_keys.proofs.Tests.{or_false}
use Rattle.pb_span_cases.specs.Remainder.{remains}
use Rattle.pb_version.specs.Version.{TableView, VersionView, all_tables, flattened, size_of}
use Rattle.pb_version.specs.Edited.{all_placed}
use Rattle.pb_version.specs.Rules.{each_pair, has_backing, has_its_backing, has_virtual}
use Rattle.pb_version.specs.State.{IsVersion, other_number, is_formed}
use Rattle.pb_version.specs.Stored.{backing_of}
use Rattle.pb_version.proofs.Lists.{left, right, same_number, list_any_all_placed, list_all_all_placed}
use Rattle.pb_version.proofs.Levels.{flattened_cons, any_append}
use Rattle.pb_version.proofs.Pairs.{pairs_filter}
use Rattle.pb_version.proofs.Commute.{Differ, AllDiffer, sorted_all_placed}
use Rattle.pb_version.proofs.KeptFacts.{backings_chain, ascending_differ, none_differ, size_shown}
use Rattle.pb_version.proofs.SnapshotSpelling.{ascends}
use Rattle.pb_version.proofs.Snapshots.{chosen as virtual_chosen, other_chosen}
use Rattle.pb_excise.specs.Excised.{parts_of, parts_count, numbered_parts, left_of, excised_tables, excised_levels, is_carved, carved}
use Rattle.pb_excise.specs.Planned.{is_cut, are_some, leaves_a_part, all_created}
use Rattle.pb_excise.proofs.SameLists.{In, found, any_of, all_of, all_from, pair_of, of_filter, into_filter, of_map, into_map, same_backing, same_backing_itself, is_same_backing, same_backings}
use Rattle.pb_excise.proofs.Drafts.{parts_show}

-- ---- sizes in a list that ascends

lower_is_other : (m n : ℕ) → nat_lt m n ≡ true → (m == n) ≡ false
lower_is_other m n e = grind (arith, nat_tests)

size_found : (c : CreatedItem) (xs : List CreatedItem) → each_pair created_below xs ≡ true → list_any (same_backing c) xs ≡ true →
    size_of xs c.number ≡ Some c.size
size_found c [] e has = cc
size_found c (x ∷ xs) e has =
    elim (same_backing c x) as (λ b. same_backing c x ≡ b → (b || list_any (same_backing c) xs) ≡ true →
    size_of (x ∷ xs) c.number ≡ Some c.size) [
      | true ↦ λ same _.
          let is : c ≡ x = is_same_backing c x same in
          ap (λ (w : CreatedItem). size_of (x ∷ xs) w.number) is
          ∙ ap (λ b. cond b (Some x.size) (size_of xs x.number)) (eq-eqb x.number x.number refl)
          ∙ ap (λ (w : CreatedItem). Some w.size) (sym is)
      | false ↦ λ _ later.
          let it = found (same_backing c) xs later in
          let is : c ≡ it.item = is_same_backing c it.item it.passes in
          let below : nat_lt x.number c.number ≡ true = ap (λ (w : CreatedItem). nat_lt x.number w.number) is
          ∙ all_of (created_below x) xs it.item (left (list_all (created_below x) xs) (each_pair created_below xs) e) it.is_in in
          ap (λ b. cond b (Some x.size) (size_of xs c.number)) (lower_is_other x.number c.number below)
          ∙ size_found c xs (right (list_all (created_below x) xs) (each_pair created_below xs) e) later
    ] refl has

-- ---- the backings of tables that are no virtual ones

other_differs : (m n : ℕ) → not (n == m) ≡ true → nat_lt n m ≡ not (nat_lt m n)
other_differs m n e = grind (arith, nat_tests)

backings_differ : (t u : TableView) → t.backing ≡ t.number → u.backing ≡ u.number → other_number t u ≡ true →
    Differ created_below (backing_of t) (backing_of u)
backings_differ t u a b e = subst (λ m. nat_lt u.backing m ≡ not (nat_lt m u.backing)) (sym a)
    (subst (λ n. nat_lt n t.number ≡ not (nat_lt t.number n)) (sym b) (other_differs t.number u.number e))

abbrev is_plain : TableView → Bool
is_plain t = t.backing == t.number

each_backing_differs : (t : TableView) (us : List TableView) → is_plain t ≡ true → list_all is_plain us ≡ true →
    list_all (other_number t) us ≡ true →
    AllByRecursion (Differ created_below (backing_of t)) (map backing_of us)
each_backing_differs t [] a b e = tt
each_backing_differs t (u ∷ us) a b e = (
  backings_differ t u (same_number t.backing t.number a) (same_number u.backing u.number (left (is_plain u) (list_all is_plain us) b))
      (left (other_number t u) (list_all (other_number t) us) e),
  each_backing_differs t us a (right (is_plain u) (list_all is_plain us) b) (right (other_number t u) (list_all (other_number t) us) e),
)

all_backings_differ : (ts : List TableView) → list_all is_plain ts ≡ true → each_pair other_number ts ≡ true →
    AllDiffer created_below (map backing_of ts)
all_backings_differ [] a e = tt
all_backings_differ (t ∷ ts) a e = (
  each_backing_differs t ts (left (is_plain t) (list_all is_plain ts) a) (right (is_plain t) (list_all is_plain ts) a)
      (left (list_all (other_number t) ts) (each_pair other_number ts) e),
  all_backings_differ ts (right (is_plain t) (list_all is_plain ts) a) (right (list_all (other_number t) ts) (each_pair other_number ts) e),
)

none_behind : {X : Type 0} (P : X → X → Type 0) (xs : List X) → AllByRecursion (λ x. AllByRecursion (P x) []) xs
none_behind P [] = tt
none_behind P (x ∷ xs) = (tt, none_behind P xs)

backed_virtual : (v h : Bool) → v ≡ true → (not v || h) ≡ true → h ≡ true
backed_virtual true h e k = k
backed_virtual false h e k = cc

second_not : (o v : Bool) → (o && not v) ≡ true → v ≡ false
second_not o v e = not-true v (right o (not v) e)

module _ (v : VersionView) (is : IsVersion v) where
  abbrev ts : List TableView
  ts = all_tables v

  pub plain_backing : (t : TableView) → In ts t → t.is_virtual ≡ false → is_plain t ≡ true
  plain_backing t has e = other_chosen t.is_virtual (unwrap_or (size_of v.backings t.backing) 0 == t.size) (t.backing == t.number) e
      (all_of (is_formed v.backings) ts t is.formed has)

  -- a physical table's number is no backing's
  pub plain_free : (t : TableView) → In ts t → t.is_virtual ≡ false → not (has_backing v.backings t.backing) ≡ true
  plain_free t has e =
      ap (λ n. not (has_backing v.backings n)) (same_number t.backing t.number (plain_backing t has e))
      ∙ all_of (λ (u : TableView). not (has_backing v.backings u.number)) ts t is.free has

  pub virtual_backed : (t : TableView) → In ts t → t.is_virtual ≡ true → has_backing v.backings t.backing ≡ true
  virtual_backed t has e = backed_virtual t.is_virtual (has_backing v.backings t.backing) e
      (all_of (has_its_backing v.backings) ts t is.backed has)

  module _ (q : TableView → Bool) (no_virtual : (t : TableView) → q t ≡ true → t.is_virtual ≡ false) where
    abbrev chosen : List CreatedItem
    chosen = map backing_of (filter q ts)

    chosen_differ : AllDiffer created_below chosen
    chosen_differ = all_backings_differ (filter q ts)
        (all_from is_plain (filter q ts) (λ t has. let both = of_filter q ts t has in plain_backing t both.is_in
        (no_virtual t both.passes)))
        (pairs_filter other_number q ts is.numbered)

    chosen_free : list_all (λ (c : CreatedItem). not (has_backing v.backings c.number)) chosen ≡ true
    chosen_free = all_from (λ (c : CreatedItem). not (has_backing v.backings c.number)) chosen (λ c has.
        let it = of_map backing_of (filter q ts) c has in
        let both = of_filter q ts it.item it.is_in in
        sym (ap (λ (b : CreatedItem). not (has_backing v.backings b.number)) it.image)
        ∙ plain_free it.item both.is_in (no_virtual it.item both.passes))

    -- in order, alone and with the backings that stand
    chosen_sorted : each_pair created_below (all_placed created_below chosen []) ≡ true
    chosen_sorted = sorted_all_placed created_below backings_chain chosen [] chosen_differ (none_behind (Differ created_below) chosen) refl

    chosen_with_old : each_pair created_below (all_placed created_below chosen v.backings) ≡ true
    chosen_with_old = sorted_all_placed created_below backings_chain chosen v.backings chosen_differ
        (none_differ chosen v.backings chosen_free) is.ascend

  module _ (cut : KeySpan) where
    pub leaves_no_virtual : (t : TableView) → leaves_a_part cut t ≡ true → t.is_virtual ≡ false
    leaves_no_virtual t e = not-true t.is_virtual (left (not t.is_virtual) (are_some (parts_of cut t)) e)

    carved_no_virtual : (t : TableView) → is_carved cut t ≡ true → t.is_virtual ≡ false
    carved_no_virtual t e = second_not (overlap t.view.bounds cut) t.is_virtual e

    -- the edit's backings, in order
    abbrev pub created : List CreatedItem
    created = all_placed created_below (all_created cut v) []

    pub created_sorted : each_pair created_below created ≡ true
    created_sorted = chosen_sorted (leaves_a_part cut) leaves_no_virtual

    created_free : list_all (λ (c : CreatedItem). not (has_backing v.backings c.number)) created ≡ true
    created_free =
        list_all_all_placed (λ (c : CreatedItem). not (has_backing v.backings c.number)) created_below (all_created cut v) []
        ∙ (λ i. chosen_free (leaves_a_part cut) leaves_no_virtual i && true)

    abbrev pub shown : List CreatedItem
    shown = all_placed created_below created v.backings

    pub shown_sorted : each_pair created_below shown ≡ true
    shown_sorted = sorted_all_placed created_below backings_chain created v.backings
        (ascending_differ created (ascends created_below created created_sorted))
        (none_differ created v.backings created_free) is.ascend

    carved_sorted : each_pair created_below (all_placed created_below (carved cut v) v.backings) ≡ true
    carved_sorted = chosen_with_old (is_carved cut) carved_no_virtual

    created_has : (p : CreatedItem → Bool) → list_any p created ≡ list_any p (all_created cut v)
    created_has p = list_any_all_placed p created_below (all_created cut v) [] ∙ or_false (list_any p (all_created cut v))

    -- ---- sizes

    not_created : (n : ℕ) → has_backing v.backings n ≡ true → has_backing created n ≡ false
    not_created n old =
        elim (has_backing created n) as (λ b. has_backing created n ≡ b → b ≡ false) [
          | true ↦ λ e.
              let it = found (λ (c : CreatedItem). c.number == n) created e in
              let free : not (has_backing v.backings it.item.number) ≡ true =
              all_of (λ (c : CreatedItem). not (has_backing v.backings c.number)) created it.item created_free it.is_in in
              let bad : not true ≡ true = sym (ap (λ m. not (has_backing v.backings m)) (same_number it.item.number n it.passes)
              ∙ ap not old) ∙ free in
              cc
          | false ↦ λ _. refl
        ] refl

    pub part_size : (t : TableView) → In ts t → are_some (parts_of cut t) ≡ true → unwrap_or (size_of shown t.backing) 0 ≡ t.size
    part_size t has some =
        elim t.is_virtual as (λ b. t.is_virtual ≡ b → unwrap_or (size_of shown t.backing) 0 ≡ t.size) [
          | true ↦ λ e.
              ap (λ o. unwrap_or o 0) (size_shown created_below created v.backings t.backing
              (not_created t.backing (virtual_backed t has e)))
              ∙ same_number (unwrap_or (size_of v.backings t.backing) 0) t.size
              (virtual_chosen t.is_virtual (unwrap_or (size_of v.backings t.backing) 0 == t.size) (t.backing == t.number) e
              (all_of (is_formed v.backings) ts t is.formed has))
          | false ↦ λ e.
              let leaves : leaves_a_part cut t ≡ true = λ i. not (e i) && some i in
              let is_created : list_any (same_backing (backing_of t)) (all_created cut v) ≡ true =
              any_of (same_backing (backing_of t)) (all_created cut v) (backing_of t)
              (into_map backing_of (filter (leaves_a_part cut) ts) t (into_filter (leaves_a_part cut) ts t has leaves))
              (same_backing_itself (backing_of t)) in
              let is_shown : list_any (same_backing (backing_of t)) shown ≡ true =
              list_any_all_placed (same_backing (backing_of t)) created_below created v.backings
              ∙ ap (λ b. b || list_any (same_backing (backing_of t)) v.backings) (created_has (same_backing (backing_of t)) ∙ is_created) in
              ap (λ o. unwrap_or o 0) (size_found (backing_of t) shown shown_sorted is_shown)
        ] refl

    -- ---- which backings are shown afterwards

    -- a table of which something is left that shows the backing
    abbrev pub shows_after : ℕ → TableView → Bool
    shows_after n t = cond (is_cut cut t) (are_some (remains t.view.bounds cut)) t.is_virtual && t.backing == n

    parts_shown : (t : TableView) (first n : ℕ) (parts : List KeySpan) → has_virtual (numbered_parts t first parts) n
        ≡ (are_some parts && t.backing == n)
    parts_shown t first n [] = refl
    parts_shown t first n (part ∷ parts) = parts_show t first part parts (λ m. m == n)

    left_shown : (t : TableView) (first n : ℕ) → has_virtual (left_of cut first t) n ≡ shows_after n t
    left_shown t first n =
        elim (overlap t.view.bounds cut) as (λ b. has_virtual (cond b (numbered_parts t first (remains t.view.bounds cut)) (t ∷ [])) n
        ≡ (cond b (are_some (remains t.view.bounds cut)) t.is_virtual && t.backing == n)) [
          | true ↦ parts_shown t first n (remains t.view.bounds cut)
          | false ↦ or_false (t.is_virtual && t.backing == n)
        ]

    tables_shown : (first n : ℕ) (us : List TableView) → has_virtual (excised_tables cut first us) n ≡ list_any (shows_after n) us
    tables_shown first n [] = refl
    tables_shown first n (u ∷ us) =
        any_append (λ (w : TableView). w.is_virtual && w.backing == n) (left_of cut first u)
        (excised_tables cut (first + length (parts_of cut u)) us)
        ∙ (λ i. left_shown u first n i || tables_shown (first + length (parts_of cut u)) n us i)

    pub levels_shown : (first n : ℕ) (ls : List (List TableView)) → has_virtual (flattened (excised_levels cut first ls)) n
        ≡ list_any (shows_after n) (flattened ls)
    levels_shown first n [] = refl
    levels_shown first n (us ∷ ls) =
        let m = first + parts_count cut us in
        ap (λ ws. has_virtual ws n) (flattened_cons (excised_tables cut first us) (excised_levels cut m ls))
        ∙ any_append (λ (w : TableView). w.is_virtual && w.backing == n) (excised_tables cut first us) (flattened (excised_levels cut m ls))
        ∙ (λ i. tables_shown first n us i || levels_shown m n ls i)
        ∙ sym (ap (list_any (shows_after n)) (flattened_cons us ls) ∙ any_append (shows_after n) us (flattened ls))

    abbrev pub stays_shown : ℕ → Bool
    stays_shown n = list_any (shows_after n) ts

    -- a table shows its backing afterwards where it leaves a part
    left_is_shown : (t : TableView) → In ts t → leaves_a_part cut t ≡ true → stays_shown t.backing ≡ true
    left_is_shown t has leaves =
        any_of (shows_after t.backing) ts t has
        (λ i. some_left (is_cut cut t) (remains t.view.bounds cut) t.is_virtual
        (second_of (not t.is_virtual) (are_some (parts_of cut t)) leaves) i && eq-eqb t.backing t.backing refl i)
      where
        second_of : (a b : Bool) → (a && b) ≡ true → b ≡ true
        second_of true b e = e
        second_of false b e = cc

        some_left : (b : Bool) (parts : List KeySpan) (w : Bool) → are_some (cond b parts []) ≡ true → cond b (are_some parts) w ≡ true
        some_left true parts w e = e
        some_left false parts w e = cc

    -- and a physical table that is cut only then
    shown_is_left : (t : TableView) → In ts t → is_carved cut t ≡ true → stays_shown t.backing ≡ true → leaves_a_part cut t ≡ true
    shown_is_left t has carved_is shows =
        let it = found (shows_after t.backing) ts shows in
        let u = it.item in
        let backing : u.backing ≡ t.backing = same_number u.backing t.backing
        (right (cond (is_cut cut u) (are_some (remains u.view.bounds cut)) u.is_virtual) (u.backing == t.backing) it.passes) in
        let physical = carved_no_virtual t carved_is in
        elim u.is_virtual as (λ b. u.is_virtual ≡ b → leaves_a_part cut t ≡ true) [
          | true ↦ λ e.
              let bad : not true ≡ true = sym (ap (λ n. not (has_backing v.backings n)) (sym backing)
              ∙ ap not (virtual_backed u it.is_in e)) ∙ plain_free t has physical in
              cc
          | false ↦ λ e.
              let number : u.number ≡ t.number = sym (same_number u.backing u.number (plain_backing u it.is_in e)) ∙ backing
              ∙ same_number t.backing t.number (plain_backing t has physical) in
              let left_u = left (cond (is_cut cut u) (are_some (remains u.view.bounds cut)) u.is_virtual)
              (u.backing == t.backing) it.passes in
              one_table u t number e left_u (pair_of other_number ts u t is.numbered it.is_in has)
        ] refl
      where
        cut_and_left : (b : Bool) (parts : List KeySpan) (w : Bool) → w ≡ false → cond b (are_some parts) w ≡ true →
            are_some (cond b parts []) ≡ true
        cut_and_left true parts w f e = e
        cut_and_left false parts w f e = let bad : true ≡ false = sym e ∙ f in cc

        one_table : (u t : TableView) → u.number ≡ t.number → u.is_virtual ≡ false →
            cond (is_cut cut u) (are_some (remains u.view.bounds cut)) u.is_virtual ≡ true →
            (u ≡ t) ⊎ ((other_number u t ≡ true) ⊎ (other_number t u ≡ true)) → leaves_a_part cut t ≡ true
        one_table u t number physical left_u (inl same) =
            sym (ap (leaves_a_part cut) same)
            ∙ (λ i. not (physical i) && cut_and_left (is_cut cut u) (remains u.view.bounds cut) u.is_virtual physical left_u i)
        one_table u t number physical left_u (inr (inl other)) = let bad : not true ≡ true = sym (ap (λ n. not (t.number == n)) number
            ∙ ap not (eq-eqb t.number t.number refl)) ∙ other in cc
        one_table u t number physical left_u (inr (inr other)) = let bad : not true ≡ true = sym (ap (λ n. not (n == t.number)) number
            ∙ ap not (eq-eqb t.number t.number refl)) ∙ other in cc

    -- ---- the backings afterwards

    abbrev pub goes : ℕ → Bool
    goes n = has_backing v.backings n && not (stays_shown n)

    clash : (h : Bool) → h ≡ true → not h ≡ true → ⊥
    clash true there gone = let bad : false ≡ true = gone in cc
    clash false there gone = cc

    -- c: created; k: carved; b: a backing that stands; h: its number is one's; s: shown afterwards
    kept_bool : (c k b h s : Bool) → (b ≡ true → h ≡ true) → (k ≡ true → not h ≡ true) → (c ≡ true → k ≡ true) → (c ≡ true → s ≡ true) →
        (k ≡ true → s ≡ true → c ≡ true) →
        ((c || b) && not (h && not s)) ≡ ((k || b) && s)
    kept_bool true true true h s bh kh ck cs ksc = absurd (clash h (bh refl) (kh refl))
    kept_bool true true false true s bh kh ck cs ksc = let bad : false ≡ true = kh refl in cc
    kept_bool true true false false s bh kh ck cs ksc = sym (cs refl)
    kept_bool true false b h s bh kh ck cs ksc = let bad : false ≡ true = ck refl in cc
    kept_bool false true true h s bh kh ck cs ksc = absurd (clash h (bh refl) (kh refl))
    kept_bool false true false h true bh kh ck cs ksc = let bad : false ≡ true = ksc refl refl in cc
    kept_bool false true false h false bh kh ck cs ksc = refl
    kept_bool false false true true true bh kh ck cs ksc = refl
    kept_bool false false true true false bh kh ck cs ksc = refl
    kept_bool false false true false s bh kh ck cs ksc = let bad : false ≡ true = bh refl in cc
    kept_bool false false false h s bh kh ck cs ksc = refl

    any_filter : (q : CreatedItem → Bool) (c : CreatedItem) (xs : List CreatedItem) → list_any (same_backing c) (filter q xs)
        ≡ (list_any (same_backing c) xs && q c)
    any_filter q c [] = refl
    any_filter q c (x ∷ xs) =
        elim (same_backing c x) as (λ s. same_backing c x ≡ s → list_any (same_backing c) (cond (q x) (x ∷ filter q xs) (filter q xs))
        ≡ ((s || list_any (same_backing c) xs) && q c)) [
          | true ↦ λ e.
              let as_c : q x ≡ q c = ap q (sym (is_same_backing c x e)) in
              elim (q x) as (λ b. b ≡ q c → list_any (same_backing c) (cond b (x ∷ filter q xs) (filter q xs)) ≡ q c) [
                | true ↦ λ yes. ap (λ s. s || list_any (same_backing c) (filter q xs)) e ∙ yes
                | false ↦ λ no. any_filter q c xs ∙ ap (λ b. list_any (same_backing c) xs && b) (sym no)
                    ∙ and_false (list_any (same_backing c) xs) ∙ no
              ] as_c
          | false ↦ λ e.
              elim (q x) as (λ b. list_any (same_backing c) (cond b (x ∷ filter q xs) (filter q xs))
              ≡ (list_any (same_backing c) xs && q c)) [
                | true ↦ ap (λ s. s || list_any (same_backing c) (filter q xs)) e ∙ any_filter q c xs
                | false ↦ any_filter q c xs
              ]
        ] refl
      where
        and_false : (b : Bool) → (b && false) ≡ false
        and_false true = refl
        and_false false = refl

    has_number_of : (c : CreatedItem) → list_any (same_backing c) v.backings ≡ true → has_backing v.backings c.number ≡ true
    has_number_of c e =
        let it = found (same_backing c) v.backings e in
        any_of (λ (b : CreatedItem). b.number == c.number) v.backings it.item it.is_in
        (ap (λ (b : CreatedItem). it.item.number == b.number) (is_same_backing c it.item it.passes) ∙ eq-eqb it.item.number it.item.number refl)

    -- the physical table of a backing that was chosen
    record Physical (q : TableView → Bool) (c : CreatedItem) : Type 0 where
      table : TableView
      is_in : In ts table
      passes : q table ≡ true
      image : backing_of table ≡ c

    physical_of : (q : TableView → Bool) (c : CreatedItem) → list_any (same_backing c) (map backing_of (filter q ts)) ≡ true → Physical q c
    physical_of q c e =
        let it = found (same_backing c) (map backing_of (filter q ts)) e in
        let image = of_map backing_of (filter q ts) it.item it.is_in in
        let both = of_filter q ts image.item image.is_in in
        record {
          table = image.item;
          is_in = both.is_in;
          passes = both.passes;
          image = image.image
              ∙ sym (is_same_backing c it.item it.passes);
        }

    chosen_of : (q : TableView → Bool) (t : TableView) (c : CreatedItem) → In ts t → q t ≡ true → backing_of t ≡ c →
        list_any (same_backing c) (map backing_of (filter q ts)) ≡ true
    chosen_of q t c has e same =
        any_of (same_backing c) (map backing_of (filter q ts)) (backing_of t) (into_map backing_of (filter q ts) t
        (into_filter q ts t has e))
        (ap (same_backing c) same ∙ same_backing_itself c)

    leaves_is_carved : (t : TableView) → leaves_a_part cut t ≡ true → is_carved cut t ≡ true
    leaves_is_carved t e = both_of (overlap t.view.bounds cut) (remains t.view.bounds cut) t.is_virtual e
      where
        both_of : (o : Bool) (parts : List KeySpan) (w : Bool) → (not w && are_some (cond o parts [])) ≡ true → (o && not w) ≡ true
        both_of true parts true e = cc
        both_of true parts false e = refl
        both_of false parts true e = cc
        both_of false parts false e = cc

    pub backings_left : filter (λ (b : CreatedItem). not (goes b.number)) shown ≡ filter (λ (b : CreatedItem). stays_shown b.number)
        (all_placed created_below (carved cut v) v.backings)
    backings_left = same_backings
        (filter (λ (b : CreatedItem). not (goes b.number)) shown) (filter (λ (b : CreatedItem). stays_shown b.number)
        (all_placed created_below (carved cut v) v.backings))
        (pairs_filter created_below (λ (b : CreatedItem). not (goes b.number)) shown shown_sorted)
        (pairs_filter created_below (λ (b : CreatedItem). stays_shown b.number)
        (all_placed created_below (carved cut v) v.backings) carved_sorted)
        (λ c.
        any_filter (λ (b : CreatedItem). not (goes b.number)) c shown
        ∙ ap (λ b. b && not (goes c.number)) (list_any_all_placed (same_backing c) created_below created v.backings
        ∙ ap (λ b. b || list_any (same_backing c) v.backings) (created_has (same_backing c)))
        ∙ kept_bool (list_any (same_backing c) (all_created cut v)) (list_any (same_backing c) (carved cut v))
        (list_any (same_backing c) v.backings) (has_backing v.backings c.number) (stays_shown c.number)
        (has_number_of c)
        (λ e. let t = physical_of (is_carved cut) c e in
        sym (ap (λ (b : CreatedItem). not (has_backing v.backings b.number)) t.image)
        ∙ plain_free t.table t.is_in (carved_no_virtual t.table t.passes))
        (λ e. let t = physical_of (leaves_a_part cut) c e in chosen_of (is_carved cut) t.table c t.is_in
        (leaves_is_carved t.table t.passes) t.image)
        (λ e. let t = physical_of (leaves_a_part cut) c e in sym (ap (λ (b : CreatedItem). stays_shown b.number) t.image)
        ∙ left_is_shown t.table t.is_in t.passes)
        (λ e s. let t = physical_of (is_carved cut) c e in
        chosen_of (leaves_a_part cut) t.table c t.is_in (shown_is_left t.table t.is_in t.passes
        (ap (λ (b : CreatedItem). stays_shown b.number) t.image ∙ s)) t.image)
        ∙ sym (any_filter (λ (b : CreatedItem). stays_shown b.number) c (all_placed created_below (carved cut v) v.backings)
        ∙ ap (λ b. b && stays_shown c.number) (list_any_all_placed (same_backing c) created_below (carved cut v) v.backings)))
