-- An excise stores nothing new: each table that it leaves shows what one showed that stood.
use Rattle.std.proofs.Common.{◌≡◌, ℕ, ◌+◌, ◌<◌, List, [], ◌∷◌, ◌++◌, Bool, true, false, cond, length, refl, ap, sym, ◌∙◌, subst, arith}
use Rattle.std.proofs.lemmas.List.Elements.{All-nil, All-cons, All-head, All-tail, All-append, All-map, All-filter, All-weaker, All-contains_itself, Contains-append_left, Contains-append_right}
use Rattle.std.proofs.lemmas.List.{length-map, get_or-map}
use Rattle.std.specs.Prelude.{map, All, Contains}
use Rattle.std.specs.List.{filter}
use Rattle.pb_edit.specs.Grammar.{created_below}
use Rattle.pb_keys.specs.Span.{KeySpan, overlap}
use Rattle.pb_span_cases.specs.Remainder.{remains}
use Rattle.pb_version.specs.Version.{TableView, VersionView, all_tables, flattened}
use Rattle.pb_version.specs.Edited.{placed, all_placed}
use Rattle.pb_version.specs.Rules.{has_virtual}
use Rattle.pb_version.specs.Stored.{backing_of, stored_in}
use Rattle.pb_version.proofs.Levels.{flattened_cons}
use Rattle.pb_excise.specs.Excised.{parts_of, part_table, numbered_parts, left_of, parts_count, excised_tables, excised_levels, is_carved, carved, excised, ShowsWhatStood}

module _ (stood : List TableView) (cut : KeySpan) where
  abbrev Shows : TableView → Type 0
  Shows = ShowsWhatStood stood

  itself : (t : TableView) → Contains stood t → Shows t
  itself t has = record { table = t; stood = has; backing = refl; size = refl; within = λ layer is. is }

  part_shows : (t : TableView) (number : ℕ) (bounds : KeySpan) → Contains stood t → Shows (part_table t number bounds)
  part_shows t number bounds has = record {
    table = t;
    stood = has;
    backing = refl;
    size = refl;
    within = λ layer is. record { keys = is.keys; ends = is.ends; apart = is.apart };
  }

  parts_show : (t : TableView) (first : ℕ) (parts : List KeySpan) → Contains stood t → All Shows (numbered_parts t first parts)
  parts_show t first [] has = All-nil Shows
  parts_show t first (part ∷ parts) has =
      All-cons Shows (part_table t first part) (numbered_parts t (first + 1) parts) (part_shows t first part has)
      (parts_show t (first + 1) parts has)

  left_shows : (t : TableView) (first : ℕ) → Contains stood t → All Shows (left_of cut first t)
  left_shows t first has =
      elim (overlap t.view.bounds cut) as (λ b. All Shows (cond b (numbered_parts t first (remains t.view.bounds cut)) (t ∷ []))) [
        | true ↦ parts_show t first (remains t.view.bounds cut) has
        | false ↦ All-cons Shows t [] (itself t has) (All-nil Shows)
      ]

  tables_show : (first : ℕ) (ts : List TableView) → All (Contains stood) ts → All Shows (excised_tables cut first ts)
  tables_show first [] all = All-nil Shows
  tables_show first (t ∷ ts) all =
      All-append Shows (left_of cut first t) (excised_tables cut (first + length (parts_of cut t)) ts)
      (left_shows t first (All-head (Contains stood) t ts all))
      (tables_show (first + length (parts_of cut t)) ts (All-tail (Contains stood) t ts all))

  levels_show : (first : ℕ) (ls : List (List TableView)) → All (λ ts. All (Contains stood) ts) ls →
      All Shows (flattened (excised_levels cut first ls))
  levels_show first [] all = All-nil Shows
  levels_show first (ts ∷ ls) all =
      let deeper = excised_levels cut (first + parts_count cut ts) ls in
      subst (All Shows) (sym (flattened_cons (excised_tables cut first ts) deeper))
      (All-append Shows (excised_tables cut first ts) (flattened deeper)
      (tables_show first ts (All-head (λ us. All (Contains stood) us) ts ls all))
      (levels_show (first + parts_count cut ts) ls (All-tail (λ us. All (Contains stood) us) ts ls all)))

-- each table of each level is among those of all
in_levels : (P : TableView → Type 0) (ls : List (List TableView)) → All P (flattened ls) → All (λ ts. All P ts) ls
in_levels P [] all = All-nil (λ ts. All P ts)
in_levels P (ts ∷ ls) all =
    let both : All P (ts ++ flattened ls) = subst (All P) (flattened_cons ts ls) all in
    All-cons (λ us. All P us) ts ls (first_of ts (flattened ls) both) (in_levels P ls (second_of ts (flattened ls) both))
  where
    first_of : (xs ys : List TableView) → All P (xs ++ ys) → All P xs
    first_of [] ys each = All-nil P
    first_of (x ∷ xs) ys each = All-cons P x xs (All-head P x (xs ++ ys) each) (first_of xs ys (All-tail P x (xs ++ ys) each))

    second_of : (xs ys : List TableView) → All P (xs ++ ys) → All P ys
    second_of [] ys each = each
    second_of (x ∷ xs) ys each = second_of xs ys (All-tail P x (xs ++ ys) each)

pub tables_shown : (v : VersionView) (cut : KeySpan) (first : ℕ) → All (ShowsWhatStood (all_tables v)) (all_tables (excised v cut first))
unfolding excised
tables_shown v cut first =
    levels_show (all_tables v) cut first v.levels (in_levels (Contains (all_tables v)) v.levels (All-contains_itself (all_tables v)))

all_placed_keep : {X : Type 0} (P : X → Type 0) (f : X → X → Bool) (xs ys : List X) → All P xs → All P ys → All P (all_placed f xs ys)
all_placed_keep {X = X} P f [] ys a b = b
all_placed_keep {X = X} P f (x ∷ xs) ys a b = one_placed x (all_placed f xs ys) (All-head P x xs a)
    (all_placed_keep P f xs ys (All-tail P x xs a) b)
  where
    one_placed : (x : X) (ys : List X) → P x → All P ys → All P (placed f x ys)
    one_placed x [] p all = All-cons P x [] p (All-nil P)
    one_placed x (y ∷ ys) p all =
        elim (f x y) as (λ b. All P (cond b (x ∷ y ∷ ys) (y ∷ placed f x ys))) [
          | true ↦ All-cons P x (y ∷ ys) p all
          | false ↦ All-cons P y (placed f x ys) (All-head P y ys all) (one_placed x ys p (All-tail P y ys all))
        ]

contains_map : (ts : List TableView) (t : TableView) → Contains ts t → Contains (map backing_of ts) (backing_of t)
contains_map ts t has =
    let within : has.0 < length ts = has.1 in
    (has.0, omega (arith, length-map ts backing_of), get_or-map backing_of ts has.0 t (backing_of t) has.1 ∙ ap backing_of has.2)

pub nothing_new : (v : VersionView) (cut : KeySpan) (first : ℕ) → All (Contains (stored_in v)) (stored_in (excised v cut first))
unfolding excised
nothing_new v cut first =
    let Was = Contains (stored_in v) in
    let tables = all_tables v in
    let of_table : (t : TableView) → Contains tables t → Contains (stored_in v) (backing_of t) =
    λ t has. Contains-append_left (map backing_of tables) v.backings (backing_of t) (contains_map tables t has) in
    let left = flattened (excised_levels cut first v.levels) in
    All-append Was (map backing_of left) (filter (λ b. has_virtual left b.number) (all_placed created_below (carved cut v) v.backings))
    (All-map Was backing_of left
    (All-weaker (ShowsWhatStood tables) (λ t. Contains (stored_in v) (backing_of t))
    (λ t shows. subst (Contains (stored_in v)) (sym (same_backing t shows.table shows.backing shows.size))
    (of_table shows.table shows.stood)) left
    (tables_shown v cut first)))
    (All-filter (λ b. has_virtual left b.number) Was (all_placed created_below (carved cut v) v.backings)
    (all_placed_keep Was created_below (carved cut v) v.backings
    (All-map Was backing_of (filter (is_carved cut) tables)
    (All-filter (is_carved cut) (λ t. Contains (stored_in v) (backing_of t)) tables
    (All-weaker (Contains tables) (λ t. Contains (stored_in v) (backing_of t)) of_table tables (All-contains_itself tables))))
    (All-weaker (Contains v.backings) Was (λ b has. Contains-append_right (map backing_of tables) v.backings b has) v.backings
    (All-contains_itself v.backings))))
  where
    same_backing : (t u : TableView) → t.backing ≡ u.backing → t.size ≡ u.size → backing_of t ≡ backing_of u
    same_backing t u e d = λ i. record { number = e i; size = d i }
