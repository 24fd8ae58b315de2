-- What a draft has after so many tables.
use Rattle.std.proofs.Common.{◌≡◌, ℕ, ◌+◌, List, [], ◌∷◌, ◌++◌, Bool, true, false, cond, length, refl, ap, sym, ◌∙◌, append_assoc, arith}
use Rattle.std.proofs.lemmas.List.{append-nil, map-append}
use Rattle.std.specs.Prelude.{not, ◌&&◌, ◌||◌, nat_lt, map}
use Rattle.std.specs.List.{filter, list_any}
use Rattle.std.proofs.lemmas.List.Elements.{filter-append}
use Rattle.pb_edit.specs.Edit.{DeletedItem, VirtualItem, CreatedItem}
use Rattle.pb_keys.specs.Span.{KeySpan, overlap}
use Rattle.pb_keys.proofs.Tests.{or_false}
use Rattle.pb_span_cases.specs.Remainder.{remains}
use Rattle.pb_version.specs.Version.{TableView, flattened}
use Rattle.pb_version.specs.Edited.{each_level}
use Rattle.pb_version.specs.Rules.{each_pair}
use Rattle.pb_version.specs.Snapshot.{virtual_item}
use Rattle.pb_version.specs.Stored.{backing_of}
use Rattle.pb_version.proofs.Levels.{flattened_cons, any_append}
use Rattle.pb_excise.specs.Excised.{parts_of, numbered_parts, left_of, parts_count, excised_tables, excised_levels}
use Rattle.pb_excise.specs.Planned.{is_cut, deleted_item, deleted_items, parts_from, parts_of_levels, part_items, are_some, leaves_a_part}
use Rattle.pb_excise.specs.Drafted.{DraftView, whole, with_cut, with_table, with_level, with_levels}
use Rattle.pb_excise.proofs.Sets.{inserted, inserted_ascends}

-- what the later draft has beside the earlier one: so many parts, these items, and these backings, as tests of them
pub record Adds (d e : DraftView) (parts : ℕ) (gone : List DeletedItem) (items : List VirtualItem) (backings : List CreatedItem)
    (unsure_by shown_by : (ℕ → Bool) → Bool) : Type 0 where
  pub next : e.next ≡ d.next + parts
  pub deleted : e.deleted ≡ d.deleted ++ gone
  pub virtuals : e.virtuals ≡ d.virtuals ++ items
  pub created : e.created ≡ d.created ++ backings
  pub unsure : (p : ℕ → Bool) → list_any p e.unsure ≡ (unsure_by p || list_any p d.unsure)
  pub shown : (p : ℕ → Bool) → list_any p e.shown ≡ (shown_by p || list_any p d.shown)
  pub ascend : each_pair nat_lt d.unsure ≡ true → each_pair nat_lt e.unsure ≡ true

or_turned_in : (a b c : Bool) → (a || (b || c)) ≡ ((b || a) || c)
or_turned_in true true c = refl
or_turned_in true false c = refl
or_turned_in false true c = refl
or_turned_in false false c = refl

joined_lists : {X : Type 0} (old first new second between : List X) → between ≡ old ++ first → new ≡ between ++ second →
    new ≡ old ++ (first ++ second)
joined_lists old first new second between e d = d ∙ ap (λ xs. xs ++ second) e ∙ append_assoc old first second

-- one after the other
join : (d e f : DraftView) (m n : ℕ) (del1 del2 : List DeletedItem) (v1 v2 : List VirtualItem) (c1 c2 : List CreatedItem)
    (u1 u2 s1 s2 : (ℕ → Bool) → Bool) →
    Adds d e m del1 v1 c1 u1 s1 → Adds e f n del2 v2 c2 u2 s2 →
    Adds d f (m + n) (del1 ++ del2) (v1 ++ v2) (c1 ++ c2) (λ p. u1 p || u2 p) (λ p. s1 p || s2 p)
join d e f m n del1 del2 v1 v2 c1 c2 u1 u2 s1 s2 a b = record {
  next = omega (arith, a.next, b.next);
  deleted = joined_lists d.deleted del1 f.deleted del2 e.deleted a.deleted b.deleted;
  virtuals = joined_lists d.virtuals v1 f.virtuals v2 e.virtuals a.virtuals b.virtuals;
  created = joined_lists d.created c1 f.created c2 e.created a.created b.created;
  unsure = λ p. b.unsure p ∙ ap (λ t. u2 p || t) (a.unsure p) ∙ or_turned_in (u2 p) (u1 p) (list_any p d.unsure);
  shown = λ p. b.shown p ∙ ap (λ t. s2 p || t) (a.shown p) ∙ or_turned_in (s2 p) (s1 p) (list_any p d.shown);
  ascend = λ up. b.ascend (a.ascend up);
}

-- ---- a table

-- whether one of these tables is virtual, with a backing that passes
abbrev pub any_shows : List TableView → (ℕ → Bool) → Bool
any_shows ts p = list_any (λ t. t.is_virtual && p t.backing) ts

abbrev pub any_is_unsure : KeySpan → List TableView → (ℕ → Bool) → Bool
any_is_unsure cut ts p = list_any (λ t. is_cut cut t && (t.is_virtual && p t.backing)) ts

-- a backing goes into a set where the table is virtual
put_where : (v : Bool) (p : ℕ → Bool) (ks : List ℕ) (more : List ℕ) (k : ℕ) → list_any p more ≡ (p k || list_any p ks) →
    list_any p (cond v more ks) ≡ ((v && p k) || list_any p ks)
put_where true p ks more k e = e
put_where false p ks more k e = refl

ascends_where : (v : Bool) (ks more : List ℕ) → each_pair nat_lt ks ≡ true → (each_pair nat_lt ks ≡ true → each_pair nat_lt more ≡ true) →
    each_pair nat_lt (cond v more ks) ≡ true
ascends_where true ks more e f = f e
ascends_where false ks more e f = e

-- the parts of a table show its backing, where there are some
pub parts_show : (t : TableView) (first : ℕ) (part : KeySpan) (parts : List KeySpan) (p : ℕ → Bool) →
    any_shows (numbered_parts t first (part ∷ parts)) p ≡ p t.backing
parts_show t first part [] p = or_false (p t.backing)
parts_show t first part (other ∷ parts) p = ap (λ b. p t.backing || b) (parts_show t (first + 1) other parts p) ∙ twice (p t.backing)
  where
    twice : (b : Bool) → (b || b) ≡ b
    twice true = refl
    twice false = refl

abbrev created_of : TableView → Bool → List CreatedItem
created_of t some = cond (not t.is_virtual && some) (backing_of t ∷ []) []

no_more : (v : Bool) (cs : List CreatedItem) (c : CreatedItem) → cs ≡ cs ++ cond (not v && false) (c ∷ []) []
no_more true cs c = sym (append-nil cs)
no_more false cs c = sym (append-nil cs)

one_more : (v : Bool) (cs : List CreatedItem) (c : CreatedItem) → cond v cs (cs ++ c ∷ []) ≡ cs ++ cond (not v && true) (c ∷ []) []
one_more true cs c = sym (append-nil cs)
one_more false cs c = refl

-- a table that is cut, and these parts of it
cut_adds : (level : ℕ) (t : TableView) (parts : List KeySpan) (d : DraftView) →
    Adds d (with_cut level t parts d) (length parts) (deleted_item level t ∷ []) (part_items level (numbered_parts t d.next parts))
    (created_of t (are_some parts))
    (λ p. t.is_virtual && p t.backing) (any_shows (numbered_parts t d.next parts))
cut_adds level t [] d = record {
  next = refl;
  deleted = refl;
  virtuals = refl;
  created = no_more t.is_virtual d.created (backing_of t);
  unsure = λ p. put_where t.is_virtual p d.unsure _ t.backing (inserted p d.unsure t.backing);
  shown = λ p. refl;
  ascend = λ up. ascends_where t.is_virtual d.unsure _ up (inserted_ascends d.unsure t.backing);
}
cut_adds level t (part ∷ parts) d = record {
  next = refl;
  deleted = refl;
  virtuals = refl;
  created = one_more t.is_virtual d.created (backing_of t);
  unsure = λ p. put_where t.is_virtual p d.unsure _ t.backing (inserted p d.unsure t.backing);
  shown = λ p. inserted p d.shown t.backing ∙ ap (λ b. b || list_any p d.shown) (sym (parts_show t d.next part parts p));
  ascend = λ up. ascends_where t.is_virtual d.unsure _ up (inserted_ascends d.unsure t.backing);
}

-- one that stays
whole_adds : (t : TableView) (d : DraftView) →
    Adds d (whole t d) 0 [] [] (created_of t false) (λ p. false) (any_shows (t ∷ []))
whole_adds t d = record {
  next = omega arith;
  deleted = sym (append-nil d.deleted);
  virtuals = sym (append-nil d.virtuals);
  created = no_more t.is_virtual d.created (backing_of t);
  unsure = λ p. refl;
  shown = λ p. put_where t.is_virtual p d.shown _ t.backing (inserted p d.shown t.backing)
      ∙ ap (λ b. b || list_any p d.shown) (sym (or_false (t.is_virtual && p t.backing)));
  ascend = λ up. up;
}

-- either, by what was cut
table_adds : (cut : KeySpan) (level : ℕ) (t : TableView) (d : DraftView) →
    Adds d (with_table cut level t d) (length (parts_of cut t)) (deleted_items cut level (t ∷ []))
    (part_items level (numbered_parts t d.next (parts_of cut t)))
    (created_of t (are_some (parts_of cut t))) (λ p. is_cut cut t && (t.is_virtual && p t.backing)) (any_shows (left_of cut d.next t))
table_adds cut level t d =
    elim (overlap t.view.bounds cut) as (λ b.
    Adds d (cond b (with_cut level t (remains t.view.bounds cut) d) (whole t d)) (length (cond b (remains t.view.bounds cut) []))
    (map (deleted_item level) (cond b (t ∷ []) [])) (part_items level (numbered_parts t d.next (cond b (remains t.view.bounds cut) [])))
    (created_of t (are_some (cond b (remains t.view.bounds cut) []))) (λ p. b && (t.is_virtual && p t.backing))
    (any_shows (cond b (numbered_parts t d.next (remains t.view.bounds cut)) (t ∷ [])))) [
      | true ↦ cut_adds level t (remains t.view.bounds cut) d
      | false ↦ whole_adds t d
    ]

-- ---- the tables of a level

nothing_added : (d : DraftView) → Adds d d 0 [] [] [] (λ p. false) (λ p. false)
nothing_added d = record {
  next = omega arith;
  deleted = sym (append-nil d.deleted);
  virtuals = sym (append-nil d.virtuals);
  created = sym (append-nil d.created);
  unsure = λ p. refl;
  shown = λ p. refl;
  ascend = λ up. up;
}

-- of these tables, the first of whose parts has this number
abbrev pub AddsTables : KeySpan → ℕ → List TableView → DraftView → DraftView → Type 0
AddsTables cut level ts d e =
    Adds d e (parts_count cut ts) (deleted_items cut level ts) (part_items level (parts_from cut d.next ts))
    (map backing_of (filter (leaves_a_part cut) ts))
    (any_is_unsure cut ts) (any_shows (excised_tables cut d.next ts))

first_deleted : (cut : KeySpan) (level : ℕ) (t : TableView) (ts : List TableView) →
    deleted_items cut level (t ∷ []) ++ deleted_items cut level ts ≡ deleted_items cut level (t ∷ ts)
first_deleted cut level t ts =
    elim (is_cut cut t) as (λ b. map (deleted_item level) (cond b (t ∷ []) []) ++ deleted_items cut level ts ≡ map (deleted_item level)
    (cond b (t ∷ filter (is_cut cut) ts) (filter (is_cut cut) ts))) [
      | true ↦ refl
      | false ↦ refl
    ]

first_created : (cut : KeySpan) (t : TableView) (ts : List TableView) →
    created_of t (are_some (parts_of cut t)) ++ map backing_of (filter (leaves_a_part cut) ts) ≡ map backing_of
    (filter (leaves_a_part cut) (t ∷ ts))
first_created cut t ts =
    elim (leaves_a_part cut t) as (λ b. cond b (backing_of t ∷ []) [] ++ map backing_of (filter (leaves_a_part cut) ts) ≡ map backing_of
    (cond b (t ∷ filter (leaves_a_part cut) ts) (filter (leaves_a_part cut) ts))) [
      | true ↦ refl
      | false ↦ refl
    ]

-- what was added may be said otherwise
said_so : (d e : DraftView) (n : ℕ) (del1 del2 : List DeletedItem) (v1 v2 : List VirtualItem) (c1 c2 : List CreatedItem)
    (u : (ℕ → Bool) → Bool) (s1 s2 : (ℕ → Bool) → Bool) →
    Adds d e n del1 v1 c1 u s1 → del1 ≡ del2 → v1 ≡ v2 → c1 ≡ c2 → ((p : ℕ → Bool) → s1 p ≡ s2 p) → Adds d e n del2 v2 c2 u s2
said_so d e n del1 del2 v1 v2 c1 c2 u s1 s2 a del v c s = record {
  next = a.next;
  deleted = a.deleted ∙ ap (λ xs. d.deleted ++ xs) del;
  virtuals = a.virtuals ∙ ap (λ xs. d.virtuals ++ xs) v;
  created = a.created ∙ ap (λ xs. d.created ++ xs) c;
  unsure = a.unsure;
  shown = λ p. a.shown p ∙ ap (λ b. b || list_any p d.shown) (s p);
  ascend = a.ascend;
}

pub level_adds : (cut : KeySpan) (level : ℕ) (ts : List TableView) (d : DraftView) → AddsTables cut level ts d (with_level cut level ts d)
level_adds cut level [] d = nothing_added d
level_adds cut level (t ∷ ts) d =
    let one = with_table cut level t d in
    let first = table_adds cut level t d in
    let n = d.next + length (parts_of cut t) in
    let others : Adds one (with_level cut level ts one) (parts_count cut ts) (deleted_items cut level ts)
    (part_items level (parts_from cut n ts)) (map backing_of (filter (leaves_a_part cut) ts))
    (any_is_unsure cut ts) (any_shows (excised_tables cut n ts)) =
    said_so one (with_level cut level ts one) (parts_count cut ts) (deleted_items cut level ts) (deleted_items cut level ts)
    (part_items level (parts_from cut one.next ts)) (part_items level (parts_from cut n ts))
    (map backing_of (filter (leaves_a_part cut) ts)) (map backing_of (filter (leaves_a_part cut) ts))
    (any_is_unsure cut ts) (any_shows (excised_tables cut one.next ts)) (any_shows (excised_tables cut n ts))
    (level_adds cut level ts one) refl (ap (λ m. part_items level (parts_from cut m ts)) first.next) refl
    (λ p. ap (λ m. any_shows (excised_tables cut m ts) p) first.next) in
    said_so d (with_level cut level (t ∷ ts) d) (parts_count cut (t ∷ ts)) _ (deleted_items cut level (t ∷ ts)) _
    (part_items level (parts_from cut d.next (t ∷ ts)))
    _ (map backing_of (filter (leaves_a_part cut) (t ∷ ts))) (any_is_unsure cut (t ∷ ts)) _ (any_shows (excised_tables cut d.next (t ∷ ts)))
    (join d one (with_level cut level ts one) (length (parts_of cut t)) (parts_count cut ts)
    (deleted_items cut level (t ∷ [])) (deleted_items cut level ts) (part_items level (numbered_parts t d.next (parts_of cut t)))
    (part_items level (parts_from cut n ts))
    (created_of t (are_some (parts_of cut t))) (map backing_of (filter (leaves_a_part cut) ts))
    (λ p. is_cut cut t && (t.is_virtual && p t.backing)) (any_is_unsure cut ts) (any_shows (left_of cut d.next t))
    (any_shows (excised_tables cut n ts))
    first others)
    (first_deleted cut level t ts)
    (sym (map-append (virtual_item level) (numbered_parts t d.next (parts_of cut t)) (parts_from cut n ts)))
    (first_created cut t ts)
    (λ p. sym (any_append (λ u. u.is_virtual && p u.backing) (left_of cut d.next t) (excised_tables cut n ts)))

-- ---- all levels

abbrev pub AddsLevels : KeySpan → ℕ → List (List TableView) → DraftView → DraftView → Type 0
AddsLevels cut level ls d e =
    Adds d e (parts_count cut (flattened ls)) (flattened (each_level (deleted_items cut) level ls))
    (flattened (each_level part_items level (parts_of_levels cut d.next ls)))
    (map backing_of (filter (leaves_a_part cut) (flattened ls))) (any_is_unsure cut (flattened ls))
    (any_shows (flattened (excised_levels cut d.next ls)))

pub parts_count-append : (cut : KeySpan) (ts us : List TableView) → parts_count cut (ts ++ us) ≡ parts_count cut ts + parts_count cut us
parts_count-append cut [] us = omega arith
parts_count-append cut (t ∷ ts) us = omega (arith, parts_count-append cut ts us)

created_both : (cut : KeySpan) (ts us : List TableView) →
    map backing_of (filter (leaves_a_part cut) (ts ++ us)) ≡ map backing_of (filter (leaves_a_part cut) ts) ++ map backing_of
    (filter (leaves_a_part cut) us)
created_both cut ts us = ap (map backing_of) (filter-append (leaves_a_part cut) ts us)
    ∙ map-append backing_of (filter (leaves_a_part cut) ts) (filter (leaves_a_part cut) us)

pub levels_add : (cut : KeySpan) (level : ℕ) (ls : List (List TableView)) (d : DraftView) →
    AddsLevels cut level ls d (with_levels cut level ls d)
levels_add cut level [] d = nothing_added d
levels_add cut level (ts ∷ ls) d =
    let one = with_level cut level ts d in
    let first = level_adds cut level ts d in
    let later = levels_add cut (level + 1) ls one in
    let n = d.next + parts_count cut ts in
    let end = with_levels cut (level + 1) ls one in
    let all = flattened_cons ts ls in
    let both = join d one end (parts_count cut ts) (parts_count cut (flattened ls))
    (deleted_items cut level ts) (flattened (each_level (deleted_items cut) (level + 1) ls))
    (part_items level (parts_from cut d.next ts)) (flattened (each_level part_items (level + 1) (parts_of_levels cut one.next ls)))
    (map backing_of (filter (leaves_a_part cut) ts)) (map backing_of (filter (leaves_a_part cut) (flattened ls)))
    (any_is_unsure cut ts) (any_is_unsure cut (flattened ls)) (any_shows (excised_tables cut d.next ts))
    (any_shows (flattened (excised_levels cut one.next ls)))
    first later in
    record {
      next = both.next ∙ ap (λ m. d.next + m) (sym (ap (parts_count cut) all ∙ parts_count-append cut ts (flattened ls)));
      deleted = both.deleted ∙ ap (λ xs. d.deleted ++ xs)
          (sym (flattened_cons (deleted_items cut level ts) (each_level (deleted_items cut) (level + 1) ls)));
      virtuals = both.virtuals ∙ ap (λ xs. d.virtuals ++ xs)
          (ap (λ m. part_items level (parts_from cut d.next ts) ++ flattened (each_level part_items (level + 1)
          (parts_of_levels cut m ls))) first.next
          ∙ sym (flattened_cons (part_items level (parts_from cut d.next ts))
          (each_level part_items (level + 1) (parts_of_levels cut n ls))));
      created = both.created ∙ ap (λ xs. d.created ++ xs) (sym (ap (λ us. map backing_of (filter (leaves_a_part cut) us)) all
          ∙ created_both cut ts (flattened ls)));
      unsure = λ p. both.unsure p ∙ ap (λ b. b || list_any p d.unsure)
          (sym (ap (λ us. any_is_unsure cut us p) all ∙ any_append (λ t. is_cut cut t && (t.is_virtual && p t.backing)) ts (flattened ls)));
      shown = λ p. both.shown p ∙ ap (λ b. b || list_any p d.shown)
          (ap (λ m. any_shows (excised_tables cut d.next ts) p || any_shows (flattened (excised_levels cut m ls)) p) first.next
          ∙ sym (ap (λ us. any_shows us p) (flattened_cons (excised_tables cut d.next ts) (excised_levels cut n ls))
          ∙ any_append (λ u. u.is_virtual && p u.backing) (excised_tables cut d.next ts) (flattened (excised_levels cut n ls))));
      ascend = both.ascend;
    }
