-- A walk over the tables of all levels, one level after the other.
use Rattle.std.proofs.Common.{◌≡◌, ℕ, ◌+◌, ◌*◌, ◌<◌, ◌≤◌, ◌^◌, List, [], ◌∷◌, true, false, cond, length, get_or, drop, ap, sym, ◌∙◌, arith}
use Rattle.std.proofs.lemmas.Bool.Decides.{nat_tests}
use Rattle.std.proofs.lemmas.List.{drop_more, drop_all}
use Rattle.std.specs.Prelude.{nat_lt, nat_le}
use Rattle.pb_keys.specs.Span.{KeySpan, overlap}
use Rattle.pb_span_cases.specs.Remainder.{remains}
use Rattle.pb_span_cases.proofs.RemainLaws.{remains_at_most_two}
use Rattle.pb_version.specs.Version.{TableView, VersionView, all_tables, flattened}
use Rattle.pb_version.specs.State.{IsVersion, is_below_next}
use Rattle.pb_version.proofs.Levels.{flattened_cons}
use Rattle.pb_version.proofs.Lists.{left}
use Rattle.pb_version.proofs.Pairs.{weaker}
use Rattle.pb_edit.specs.Edit.{CreatedItem}
use Rattle.pb_excise.specs.Unused.{AreUnusedFrom}
use Rattle.pb_excise.specs.Excised.{parts_of, parts_count}
use Rattle.pb_excise.specs.Drafted.{DraftView, with_level, with_levels}
use Rattle.pb_excise.proofs.Drafts.{parts_count-append, level_adds, levels_add}

-- the tables that were read stand first among those that are left
pub table_first : (ts : List TableView) (i : ℕ) (t : TableView) → i < length ts → t ≡ get_or ts i t → drop i ts ≡ t ∷ drop (i + 1) ts
table_first ts i t within is = drop_more ts i t within ∙ ap (λ u. u ∷ drop (i + 1) ts) (sym is)

-- ---- numbers in no use

higher : (n a b : ℕ) → a ≤ b → nat_lt n a ≡ true → nat_lt n b ≡ true
higher n a b h e = grind (arith, nat_tests)

pub unused_from : (v : VersionView) (first : ℕ) → IsVersion v → v.five.next ≤ first → AreUnusedFrom v first
unused_from v first is h = record {
  tables = weaker (is_below_next v.five.next) (λ (t : TableView). nat_lt t.number first)
      (λ t e. higher t.number v.five.next first h (left (nat_lt t.number v.five.next) (nat_lt t.rank v.five.next) e))
      (all_tables v) is.below;
  backings = weaker (λ (b : CreatedItem). nat_lt b.number v.five.next) (λ (b : CreatedItem). nat_lt b.number first)
      (λ b e. higher b.number v.five.next first h e) v.backings is.backings_below;
}

-- ---- how many parts

parts_few : (cut : KeySpan) (t : TableView) → length (parts_of cut t) ≤ 2
parts_few cut t =
    elim (overlap t.view.bounds cut) as (λ b. length (cond b (remains t.view.bounds cut) []) ≤ 2) [
      | true ↦ remains_at_most_two t.view.bounds cut
      | false ↦ omega arith
    ]

all_parts_few : (cut : KeySpan) (ts : List TableView) → parts_count cut ts ≤ 2 * length ts
all_parts_few cut [] = omega arith
all_parts_few cut (t ∷ ts) = omega (arith, parts_few cut t, all_parts_few cut ts)

few_tables : (n : ℕ) → nat_le n 4096 ≡ true → n ≤ 4096
few_tables n e = grind (arith, nat_tests)

pub parts_of_version : (v : VersionView) → IsVersion v → (cut : KeySpan) → parts_count cut (all_tables v) ≤ 8192
parts_of_version v is cut = omega (arith, all_parts_few cut (all_tables v), few_tables (length (all_tables v)) is.few)

pub parts_left : (cut : KeySpan) (ls : List (List TableView)) (k : ℕ) (ts : List TableView) → drop k ls ≡ ts ∷ drop (k + 1) ls →
    parts_count cut (flattened (drop k ls)) ≡ parts_count cut ts + parts_count cut (flattened (drop (k + 1) ls))
parts_left cut ls k ts first =
    ap (λ us. parts_count cut (flattened us)) first
    ∙ ap (parts_count cut) (flattened_cons ts (drop (k + 1) ls))
    ∙ parts_count-append cut ts (flattened (drop (k + 1) ls))

pub no_parts_left : (cut : KeySpan) (ls : List (List TableView)) (k : ℕ) → length ls ≤ k → parts_count cut (flattened (drop k ls)) ≡ 0
no_parts_left cut ls k h = ap (λ us. parts_count cut (flattened us)) (drop_all k ls h)

-- ---- drafts

-- a draft with the other tables still to come has room for their parts
pub room_in_level : (cut : KeySpan) (level : ℕ) (ts all : List TableView) (d start : DraftView) →
    with_level cut level ts d ≡ with_level cut level all start →
    start.next + parts_count cut all ≤ 2 ^ 62 → d.next + parts_count cut ts ≤ 2 ^ 62
room_in_level cut level ts all d start same room =
    omega (arith, (level_adds cut level ts d).next, (level_adds cut level all start).next, ap (λ (e : DraftView). e.next) same)

pub room_in_levels : (cut : KeySpan) (k : ℕ) (ls all : List (List TableView)) (d start : DraftView) →
    with_levels cut k ls d ≡ with_levels cut 0 all start →
    start.next + parts_count cut (flattened all) ≤ 2 ^ 62 → d.next + parts_count cut (flattened ls) ≤ 2 ^ 62
room_in_levels cut k ls all d start same room =
    omega (arith, (levels_add cut k ls d).next, (levels_add cut 0 all start).next, ap (λ (e : DraftView). e.next) same)
