-- The stages of the shared entries.
use Rattle.std.proofs.Common.{◌≡◌, ℕ, ◌+◌, ◌<◌, ◌≤◌, ◌↔◌, Bool, true, false, cond, List, [], ◌∷◌, ◌++◌, length, take, get_or, slice_get, drop, map, Option, Some, None, refl, sym, ap, ◌∙◌, subst}
use Rattle.std.specs.Prelude.{is_some, option_map, ◌==◌, ◌||◌}
use Rattle.std.specs.List.{find, flat_map, list_any}
use Rattle.std.proofs.lemmas.Bool.{eq-eqb, eqb-true}
use Rattle.std.proofs.lemmas.List.{drop_more, flat_map_more, map-append, take_all, take_more}
use Rattle.std.proofs.lemmas.Option.{same_Some, slice_get_within, slice_get-get_or}
use Rattle.pb_edit.specs.Edit.{CreatedItem}
use Rattle.pb_marker_world.specs.declared.stages.Stage.{Stage}
use Rattle.pb_payloads.specs.Catalogue.{Entries}
use Rattle.pb_payloads.specs.Catalogued.{Standing}
use Rattle.pb_payloads.specs.Catalogued.Standing.{Shared, External}
use Rattle.pb_version.specs.Stored.{backing_of, stored_in}
use Rattle.pb_version.specs.Version.{TableView, VersionView, all_tables, flattened, size_of}
use Rattle.pb_version.proofs.Levels.{any_append, list_any_flattened}
use Rattle.pb_provider.specs.Provider.{IsProvider, is_stored, of_shared, shared_numbers, stage_of, stages_of}

-- ---- what a version stores

any_backing : (number : ℕ) (tables : List TableView) → list_any (λ item. item.number == number) (map backing_of tables) ≡ list_any (λ t. t.backing == number) tables
any_backing number [] = refl
any_backing number (t ∷ tables) = ap (λ b. (t.backing == number) || b) (any_backing number tables)

has_size : (number : ℕ) (backings : List CreatedItem) → is_some (size_of backings number) ≡ list_any (λ item. item.number == number) backings
has_size number [] = refl
has_size number (b ∷ backings) =
    elim (b.number == number) as (λ c. is_some (cond c (Some b.size) (size_of backings number)) ≡ (c || list_any (λ item. item.number == number) backings)) [
      | true ↦ refl
      | false ↦ has_size number backings
    ]

-- under tables or backings
pub stored_both : (version : VersionView) (number : ℕ)
    → is_stored version number ≡ (list_any (λ t. t.backing == number) (all_tables version) || is_some (size_of version.backings number))
stored_both version number =
    any_append (λ item. item.number == number) (map backing_of (all_tables version)) version.backings
    ∙ (λ i. any_backing number (all_tables version) i || sym (has_size number version.backings) i)

-- ---- entry by entry

-- one entry more
pub stages_more : (version : VersionView) (entries : Entries) (place : ℕ) (entry : ℕ × Standing) → slice_get entries place ≡ Some entry
    → stages_of version (take (place + 1) entries) ≡ stages_of version (take place entries) ++ of_shared entry.1 (entry.0, stage_of version entry.0)
stages_more version entries place entry is =
    let within = slice_get_within entries place entry is in
    let same : get_or entries place entry ≡ entry = same_Some (get_or entries place entry) entry (sym (slice_get-get_or entries place entry within) ∙ is) in
    ap (stages_of version) (take_more entries place entry within ∙ ap (λ e. take place entries ++ e ∷ []) same)
    ∙ sym (flat_map_more (λ e. of_shared e.1 (e.0, stage_of version e.0)) [] (take place entries) entry)

-- ---- which numbers have a stage

staged_once : (version : VersionView) (entry : ℕ × Standing) → (standing : Standing) → map (λ (staged : ℕ × Stage). staged.0) (of_shared standing (entry.0, stage_of version entry.0)) ≡ of_shared standing entry.0
staged_once version entry (Shared object) = refl
staged_once version entry (External name) = refl

pub each_staged : (version : VersionView) (entries : Entries) → map (λ (staged : ℕ × Stage). staged.0) (stages_of version entries) ≡ shared_numbers entries
each_staged version [] = refl
each_staged version (entry ∷ entries) =
    map-append (λ (staged : ℕ × Stage). staged.0) (of_shared entry.1 (entry.0, stage_of version entry.0)) (stages_of version entries)
    ∙ (λ i. staged_once version entry entry.1 i ++ each_staged version entries i)

any_number : (number : ℕ) (stages : List (ℕ × Stage)) → list_any (λ shared. shared == number) (map (λ (staged : ℕ × Stage). staged.0) stages) ≡ is_some (option_map (λ staged. staged.1) (find (λ staged. staged.0 == number) stages))
any_number number [] = refl
any_number number (staged ∷ stages) =
    elim (staged.0 == number) as (λ b. (b || list_any (λ shared. shared == number) (map (λ (staged : ℕ × Stage). staged.0) stages)) ≡ is_some (option_map (λ s. s.1) (cond b (Some staged) (find (λ s. s.0 == number) stages)))) [
      | true ↦ refl
      | false ↦ any_number number stages
    ]

none_is : {X : Type 0} (found : Option X) (b : Bool) → b ≡ is_some found → (found ≡ None) ↔ (b ≡ false)
none_is None b is = (λ _. is, λ _. refl)
none_is (Some x) b is = (λ none. absurd (let no : Some x ≡ None = none in cc), λ no. absurd (let yes : b ≡ true = is in cc))

-- exactly the shared entries' numbers have one
pub no_stage : (number : ℕ) (entries : Entries) (stages : List (ℕ × Stage)) (found : Option Stage) → found ≡ option_map (λ staged. staged.1) (find (λ staged. staged.0 == number) stages)
    → map (λ (staged : ℕ × Stage). staged.0) stages ≡ shared_numbers entries → (found ≡ None) ↔ (list_any (λ shared. shared == number) (shared_numbers entries) ≡ false)
no_stage number entries stages found is each =
    none_is found (list_any (λ shared. shared == number) (shared_numbers entries))
    (ap (list_any (λ shared. shared == number)) (sym each) ∙ any_number number stages ∙ ap is_some (sym is))

pub stages_step : (version : VersionView) (entries : Entries) (place : ℕ) (old new : List (ℕ × Stage)) → place < length entries → old ≡ stages_of version (take place entries)
    → ((found : ℕ × Standing) → slice_get entries place ≡ Some found → new ≡ old ++ of_shared found.1 (found.0, stage_of version found.0)) → new ≡ stages_of version (take (place + 1) entries)
stages_step version entries place old new within so_far added =
    let found = get_or entries place (0, External []) in
    let is = slice_get-get_or entries place (0, External []) within in
    added found is ∙ ap (λ s. s ++ of_shared found.1 (found.0, stage_of version found.0)) so_far ∙ sym (stages_more version entries place found is)

pub stages_whole : (version : VersionView) (entries : Entries) (place : ℕ) → length entries ≤ place → stages_of version (take place entries) ≡ stages_of version entries
stages_whole version entries place enough = ap (stages_of version) (take_all place entries enough)

-- ---- what is left of a list that is looked through

pub item_first : {X : Type 0} (xs : List X) (i : ℕ) (x : X) → i < length xs → x ≡ get_or xs i x → drop i xs ≡ x ∷ drop (i + 1) xs
item_first xs i x within is = drop_more xs i x within ∙ ap (λ y. y ∷ drop (i + 1) xs) (sym is)

abbrev pub is_number : ℕ → ℕ × Stage → Bool
is_number number staged = staged.0 == number

pub found_here : (number : ℕ) (stages : List (ℕ × Stage)) (i : ℕ) (staged : ℕ × Stage) → find (is_number number) (drop i stages) ≡ find (is_number number) stages
    → drop i stages ≡ staged ∷ drop (i + 1) stages → staged.0 ≡ number → find (is_number number) stages ≡ Some staged
found_here number stages i staged same first is =
    sym same ∙ ap (find (is_number number)) first ∙ ap (λ (b : Bool). cond b (Some staged) (find (is_number number) (drop (i + 1) stages))) (eq-eqb staged.0 number is)

pub found_later : (number : ℕ) (stages : List (ℕ × Stage)) (i : ℕ) (staged : ℕ × Stage) → find (is_number number) (drop i stages) ≡ find (is_number number) stages
    → drop i stages ≡ staged ∷ drop (i + 1) stages → (staged.0 ≡ number → ⊥) → find (is_number number) (drop (i + 1) stages) ≡ find (is_number number) stages
found_later number stages i staged same first other =
    sym (ap (λ (b : Bool). cond b (Some staged) (find (is_number number) (drop (i + 1) stages))) (other_test (staged.0 == number) refl)) ∙ sym (ap (find (is_number number)) first) ∙ same
  where
    other_test : (b : Bool) → (staged.0 == number) ≡ b → (staged.0 == number) ≡ false
    other_test true is = absurd (other (eqb-true staged.0 number is))
    other_test false is = is

-- ---- the tables of each level

abbrev pub shows : ℕ → TableView → Bool
shows number table = table.backing == number

pub shown_here : (number : ℕ) (levels : List (List TableView)) (i : ℕ) (tables : List TableView)
    → list_any (λ ts. list_any (shows number) ts) (drop i levels) ≡ list_any (λ ts. list_any (shows number) ts) levels → drop i levels ≡ tables ∷ drop (i + 1) levels
    → list_any (shows number) tables ≡ true → list_any (λ ts. list_any (shows number) ts) levels ≡ true
shown_here number levels i tables same first is =
    sym same ∙ ap (list_any (λ ts. list_any (shows number) ts)) first ∙ ap (λ (b : Bool). b || list_any (λ ts. list_any (shows number) ts) (drop (i + 1) levels)) is

pub shown_later : (number : ℕ) (levels : List (List TableView)) (i : ℕ) (tables : List TableView)
    → list_any (λ ts. list_any (shows number) ts) (drop i levels) ≡ list_any (λ ts. list_any (shows number) ts) levels → drop i levels ≡ tables ∷ drop (i + 1) levels
    → list_any (shows number) tables ≡ false → list_any (λ ts. list_any (shows number) ts) (drop (i + 1) levels) ≡ list_any (λ ts. list_any (shows number) ts) levels
shown_later number levels i tables same first is =
    sym (ap (λ (b : Bool). b || list_any (λ ts. list_any (shows number) ts) (drop (i + 1) levels)) is) ∙ sym (ap (list_any (λ ts. list_any (shows number) ts)) first) ∙ same

pub shown_all : (number : ℕ) (levels : List (List TableView)) → list_any (shows number) (flattened levels) ≡ list_any (λ ts. list_any (shows number) ts) levels
shown_all number levels = list_any_flattened (shows number) levels

pub level_first : (levels : List (List TableView)) (i : ℕ) (tables : List TableView) → i < length levels → tables ≡ get_or levels i [] → drop i levels ≡ tables ∷ drop (i + 1) levels
level_first levels i tables within is = drop_more levels i [] within ∙ ap (λ ts. ts ∷ drop (i + 1) levels) (sym is)
