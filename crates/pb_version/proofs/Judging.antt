-- The first broken rule, by the three stages in which the rules are judged.
use Rattle.std.proofs.Common.{◌≡◌, ℕ, ◌+◌, ◌≤◌, List, [], ◌∷◌, Bool, true, false, cond, length, refl, ap, sym, ◌∙◌, subst, arith, inl, inr}
use Rattle.std.specs.Prelude.{not, Option, Some, None}
use Rattle.std.specs.List.{list_all}
use Rattle.std.specs.Option.{option_or}
use Rattle.std.proofs.lemmas.Bool.{leb-true}
use Rattle.pb_edit.specs.Edit.{CreatedItem, VersionEdit}
use Rattle.pb_version.specs.declared.broken.Broken.{Broken}
use Rattle.pb_version.specs.declared.broken.Broken.TheVariants.{V3, V4, V5, V6, V7, V8, V9}
use Rattle.pb_version.specs.Version.{TableView, FiveNumbers, VersionView}
use Rattle.pb_version.specs.Edited.{new_tables_of_level, level_after, shown_backings, five_after, each_level}
use Rattle.pb_version.specs.Rules.{is_plain_view, new_numbers, new_ranks, first_broken}
use Rattle.pb_version.specs.State.{IsVersion, IsSpellable, IsVerdict, PreparedEdit, Prepares, HaveRoom, is_touched}
use Rattle.pb_version.specs.Judged.{IsRefused, IsMadeReady, HaveRoomFor, made_for, seven, total, stay, counts_after, room_of, rooms_of, broken_against_old, broken_against_new, are_apart_after, is_new_backing, have_backings, are_shown, fits_after, fit_the_limit}
use Rattle.pb_version.proofs.Levels.{each_is_seven}
use Rattle.pb_version.proofs.Ruled.{new, news, after, stays_on, new_seven, first_is, length_after, on_levels}

passes : (kept : Bool) (rule : Broken) (rest : Option Broken) → cond (not kept) (Some rule) rest ≡ None → (kept ≡ true) × (rest ≡ None)
passes true rule rest e = (refl, e)
passes false rule rest e = cc

-- the last rule judged is that on the number of tables
pub few_tables : (levels : List (List TableView)) (backings : List CreatedItem) (old : FiveNumbers) (edit : VersionEdit) (made : List (List TableView)) (then : List CreatedItem) (five : FiveNumbers) (stays : List ℕ) →
    broken_against_new levels backings old edit made then five stays ≡ None → total (counts_after made stays) ≤ 4096
few_tables levels backings old edit made then five stays e =
    let p4 = passes (are_apart_after levels edit.deleted made) V4 _ e in
    let p5 = passes (list_all (is_new_backing levels backings five.next edit.deleted) edit.created) V5 _ p4.1 in
    let p6 = passes (have_backings levels edit.deleted edit.removed then made) V6 _ p5.1 in
    let p7 = passes (are_shown levels backings edit made) V7 _ p6.1 in
    let p8 = passes (fits_after old five edit) V8 _ p7.1 in
    let p9 = passes (fit_the_limit made stays) V9 _ p8.1 in
    leb-true (total (counts_after made stays)) 4096 p9.0

-- ---- room

module _ (old : VersionView) (edit : VersionEdit) where
  room_is : (l : ℕ) (ts : List TableView) → is_touched edit.deleted l (new_tables_of_level old edit l) ≡ true →
      room_of edit.deleted l (new_tables_of_level old edit l) (length (stay edit.deleted l ts)) ≡ length (level_after old edit l ts)
  room_is l ts touched =
      ap (λ b. cond b (length (new_tables_of_level old edit l) + length (stay edit.deleted l ts)) 0) touched ∙ sym (length_after old edit l ts)

  have_room : (k : ℕ) (ls : List (List TableView)) →
      HaveRoom old edit k ls (rooms_of edit.deleted k (each_level (λ l ts. new_tables_of_level old edit l) k ls) (each_level (λ l ts. length (stay edit.deleted l ts)) k ls))
  have_room k [] = tt
  have_room k (ts ∷ ls) = ((λ touched. (omega (arith, room_is k ts touched), omega (arith, room_is k ts touched))), have_room (k + 1) ls)

  pub room_for : (k : ℕ) (ls : List (List TableView)) (rooms : List ℕ) → HaveRoom old edit k ls rooms →
      HaveRoomFor edit.deleted k (each_level (λ l ts. new_tables_of_level old edit l) k ls) ls rooms
  room_for k [] rooms have = tt
  room_for k (ts ∷ ls) [] have = have
  room_for k (ts ∷ ls) (room ∷ rooms) have = (λ touched. omega (arith, (have.0 touched).0, length_after old edit k ts), room_for (k + 1) ls rooms have.1)

-- ---- verdicts

module _ (old : VersionView) (edit : VersionEdit) (spellable : IsSpellable edit) (is : IsVersion old) where
  abbrev early : Option Broken
  early = broken_against_old old.levels old.backings (five_after old.five edit).next edit (new_numbers edit) (new_ranks edit)

  abbrev views : Bool
  views = list_all (λ (t : TableView). is_plain_view t.view) (new old edit)

  abbrev late : Option Broken
  late = broken_against_new old.levels old.backings old.five edit (news old edit) (after old edit) (five_after old.five edit) (stays_on old edit)

  abbrev made : List (List TableView)
  made = seven (made_for (shown_backings old edit) edit)

  made_is_news : made ≡ news old edit
  made_is_news = sym (each_is_seven (made_for (shown_backings old edit) edit) old.levels is.levels)

  pub early_verdict : (error : Broken) → IsVerdict early error → IsVerdict (first_broken old edit) error
  early_verdict error v = elim v [
    | inl e ↦ inl e
    | inr e ↦ inr (first_is old edit (on_levels edit spellable) is ∙ ap (λ o. option_or o (cond (not views) (Some V3) late)) e)
  ]

  pub view_verdict : (error : Broken) → early ≡ None → IsRefused (list_all (λ ts. list_all (λ (t : TableView). is_plain_view t.view) ts) made) error → IsVerdict (first_broken old edit) error
  view_verdict error none v = elim v [
    | inl e ↦ inl e
    | inr w ↦ inr (
        first_is old edit (on_levels edit spellable) is
        ∙ (λ i. option_or (none i) (cond (not ((sym (new_seven old edit (on_levels edit spellable) is.levels (λ (t : TableView). is_plain_view t.view)) ∙ w.1) i)) (Some V3) late))
        ∙ ap (λ r. Some r) (sym w.0))
  ]

  pub late_verdict : (rule : Option Broken) (given : List (List TableView)) (then : List CreatedItem) (five : FiveNumbers) (stays : List ℕ) → early ≡ None →
      list_all (λ ts. list_all (λ (t : TableView). is_plain_view t.view) ts) made ≡ true → given ≡ made → then ≡ after old edit → five ≡ five_after old.five edit →
      stays ≡ stays_on old edit → rule ≡ broken_against_new old.levels old.backings old.five edit given then five stays → first_broken old edit ≡ rule
  late_verdict rule given then five stays none kept e1 e2 e3 e4 e =
      first_is old edit (on_levels edit spellable) is
      ∙ (λ i. option_or (none i) (cond (not ((sym (new_seven old edit (on_levels edit spellable) is.levels (λ (t : TableView). is_plain_view t.view)) ∙ kept) i)) (Some V3) late))
      ∙ sym (e ∙ (λ i. broken_against_new old.levels old.backings old.five edit ((e1 ∙ made_is_news) i) (e2 i) (e3 i) (e4 i)))

  pub made_ready_is : (p : PreparedEdit) (given : List (List TableView)) (then : List CreatedItem) (numbers : FiveNumbers) (stays : List ℕ) →
      given ≡ made → then ≡ after old edit → numbers ≡ five_after old.five edit → stays ≡ stays_on old edit → first_broken old edit ≡ None →
      IsMadeReady stays edit given then numbers p → Prepares old edit p
  made_ready_is p given then numbers stays e1 e2 e3 e4 unbroken ready = record {
    spellable = spellable;
    unbroken = unbroken;
    deleted = ready.deleted;
    tables = ready.tables ∙ e1 ∙ made_is_news;
    backings = ready.backings ∙ e2;
    five = ready.five ∙ e3;
    room = subst (HaveRoom old edit 0 old.levels) (sym (ready.room ∙ (λ i. rooms_of edit.deleted 0 ((e1 ∙ made_is_news) i) (e4 i)))) (have_room old edit 0 old.levels);
  }
