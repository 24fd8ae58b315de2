-- Tables that a look-up has passed, and those that are left.
use Rattle.std.proofs.Common.{◌≡◌, ℕ, ◌+◌, ◌<◌, List, [], ◌∷◌, length, get_or, drop, map, sym, ap, ◌∙◌, subst}
use Rattle.std.specs.Prelude.{Contains, All}
use Rattle.std.specs.Option.{option_or}
use Rattle.std.proofs.lemmas.List.{drop_more, map-append}
use Rattle.std.proofs.lemmas.List.Elements.{All-contains, All-contains_itself, All-weaker, Contains-append_left, Contains-append_right}
use Rattle.pb_edit.specs.Edit.{CreatedItem}
use Rattle.pb_folder.proofs.Lists.{All-front, All-of_map}
use Rattle.pb_rows.specs.Layer.{KeyLayer}
use Rattle.pb_rows.specs.Verdict.{Verdict, verdict, verdicts}
use Rattle.pb_rows.proofs.VerdictLaws.{verdicts-append}
use Rattle.pb_version.specs.Stored.{backing_of, stored_in}
use Rattle.pb_version.specs.Version.{TableView, VersionView, all_tables, flattened}
use Rattle.pb_version.proofs.Levels.{flattened_cons}

-- ---- within a level

-- what the table at a place says, and else those behind it
pub passed : (f : TableView → KeyLayer) (tables : List TableView) (i : ℕ) (t : TableView) (key : List ℕ) (said whole : Verdict)
    → i < length tables → get_or tables i t ≡ t → said ≡ verdict (f t) key → verdicts (map f (drop i tables)) key ≡ whole
    → option_or said (verdicts (map f (drop (i + 1) tables)) key) ≡ whole
passed f tables i t key said whole within is says same =
    let first : drop i tables ≡ t ∷ drop (i + 1) tables = drop_more tables i t within ∙ ap (λ u. u ∷ drop (i + 1) tables) is in
    ap (λ v. option_or v (verdicts (map f (drop (i + 1) tables)) key)) says ∙ sym (ap (λ ts. verdicts (map f ts) key) first) ∙ same

-- ---- level by level

-- the tables of a level, which come before those of deeper levels
pub record IsLevel (levels : List (List TableView)) (k : ℕ) (tables : List TableView) : Type 0 where
  pub first : drop k levels ≡ tables ∷ drop (k + 1) levels
  pub within : (t : TableView) → Contains tables t → Contains (flattened levels) t

on_level : (levels : List (List TableView)) (k : ℕ) (tables : List TableView) (t : TableView) → drop k levels ≡ tables ∷ drop (k + 1) levels
    → Contains tables t → Contains (flattened (drop k levels)) t
on_level levels k tables t first has =
    let deeper = drop (k + 1) levels in
    subst (λ ls. Contains (flattened ls) t) (sym first)
    (subst (λ ts. Contains ts t) (sym (flattened_cons tables deeper)) (Contains-append_left tables (flattened deeper) t has))

pub is_level : (levels : List (List TableView)) (k : ℕ) (tables : List TableView) → k < length levels → tables ≡ get_or levels k []
    → ((t : TableView) → Contains (flattened (drop k levels)) t → Contains (flattened levels) t) → IsLevel levels k tables
is_level levels k tables below is left =
    let first : drop k levels ≡ tables ∷ drop (k + 1) levels = drop_more levels k [] below ∙ ap (λ ts. ts ∷ drop (k + 1) levels) (sym is) in
    record { first = first; within = λ t has. left t (on_level levels k tables t first has) }

-- what the tables of a level say, and else those of deeper levels
pub flattened_at : (f : TableView → KeyLayer) (levels : List (List TableView)) (k : ℕ) (tables : List TableView) (key : List ℕ)
    (said whole : Verdict) → drop k levels ≡ tables ∷ drop (k + 1) levels → said ≡ verdicts (map f tables) key
    → verdicts (map f (flattened (drop k levels))) key ≡ whole
    → option_or said (verdicts (map f (flattened (drop (k + 1) levels))) key) ≡ whole
flattened_at f levels k tables key said whole first says same =
    let deeper = drop (k + 1) levels in
    ap (λ v. option_or v (verdicts (map f (flattened deeper)) key)) says
    ∙ sym (verdicts-append (map f tables) (map f (flattened deeper)) key)
    ∙ ap (λ ls. verdicts ls key) (sym (map-append f tables (flattened deeper)))
    ∙ ap (λ ts. verdicts (map f ts) key) (sym (flattened_cons tables deeper))
    ∙ sym (ap (λ ls. verdicts (map f (flattened ls)) key) first) ∙ same

pub on_deeper : (levels : List (List TableView)) (k : ℕ) (tables : List TableView) (t : TableView)
    → drop k levels ≡ tables ∷ drop (k + 1) levels → Contains (flattened (drop (k + 1) levels)) t → Contains (flattened (drop k levels)) t
on_deeper levels k tables t first has =
    let deeper = drop (k + 1) levels in
    subst (λ ls. Contains (flattened ls) t) (sym first)
    (subst (λ ts. Contains ts t) (sym (flattened_cons tables deeper)) (Contains-append_right tables (flattened deeper) t has))

-- what all have, some of them have
pub all_within : {X : Type 0} (P : X → Type 0) (xs ys : List X) → ((x : X) → Contains xs x → Contains ys x) → All P ys → All P xs
all_within P xs ys within all = All-weaker (Contains xs) P (λ x has. All-contains P ys x all (within x has)) xs (All-contains_itself xs)

-- what holds of all that a version stores holds behind each of its tables
pub each_behind : (P : CreatedItem → Type 0) (v : VersionView) → All P (stored_in v) → All (λ t. P (backing_of t)) (all_tables v)
each_behind P v all =
    All-of_map P backing_of (all_tables v) (All-front P (map backing_of (all_tables v)) v.backings all)
