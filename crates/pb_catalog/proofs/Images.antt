-- What the images of a catalogue's file say between the device calls.
use Rattle.std.proofs.Common.{Bool, true, false, cond, refl, ◌≡◌, ◌<◌, ◌^◌, ℕ, List, [], ◌∷◌, ◌++◌, Option, Some, None, Result, OnOk, sym, ap, subst, inl, inr}
use Rattle.pb_devices.specs.BeforeOrAfter.{IsBeforeOrAfter}
use Rattle.pb_devices.specs.Contents.{Contents, MayLeave, KeptAt, KeepsOthers}
use Rattle.pb_devices.proofs.Kept.{kept_same, kept_then}
use Rattle.pb_gate_log.specs.Calls.{Appends, Makes}
use Rattle.pb_gate_log.specs.EachLog.{LogPlace, EachLog}
use Rattle.pb_gate_log.specs.Payloads.{HasList}
use Rattle.pb_gate_log.proofs.LogStates.{each_has, each_kept_at}
use Rattle.std.specs.Prelude.{◌||◌}
use Rattle.std.specs.List.{All}
use Rattle.std.proofs.lemmas.Bool.{eqb-true}
use Rattle.std.proofs.lemmas.List.Elements.{All-head, All-tail}
use Rattle.pb_payloads.specs.Catalogue.{Entries, SaysCatalogue, dropped, entries_after, is_of, stands, with_id}
use Rattle.pb_payloads.specs.Catalogued.{Catalogued, Standing, IsCatalogued, catalogued_spelling}
use Rattle.pb_payloads.specs.Catalogued.Catalogued.{Id, Entered, Dropped}
use Rattle.pb_payloads.specs.Catalogued.Standing.{Shared, External}
use Rattle.pb_payloads.proofs.CataloguedLaws.{catalogue_grows, first_catalogue}
use Rattle.pb_catalog.specs.Calls.{Begins, Changes}
use Rattle.pb_catalog.specs.Catalog.{CatalogView, EachCatalogue, HasCatalogue, IsEntered}
use Rattle.pb_catalog.proofs.Results.{on_ok}

-- a catalogue is kept wherever its file is
pub catalogue_kept : (catalog : CatalogView) (old new : Contents) → KeptAt old new catalog.log.file → EachCatalogue catalog old → EachCatalogue catalog new
catalogue_kept catalog old new kept each = record {
  payloads = each.payloads;
  log = each_kept_at catalog.log each.payloads old new kept each.log;
  says = each.says;
}

abbrev pub catalog_at : ℕ → Entries → LogPlace → CatalogView
catalog_at id entries log = record { id = id; entries = entries; log = log }

pub list_says : (id : ℕ) (entries : Entries) (list : List (List ℕ)) (file : Option (List ℕ)) → HasList list file → SaysCatalogue list (with_id id entries) → HasCatalogue id entries file
list_says id entries list None has says = absurd has
list_says id entries list (Some bytes) has says = subst (λ (l : List (List ℕ)). SaysCatalogue l (with_id id entries)) (sym has) says

pub each_says : (catalog : CatalogView) (disk : Contents) → EachCatalogue catalog disk → (image : Option (List ℕ)) → MayLeave disk catalog.log.file image → HasCatalogue catalog.id catalog.entries image
each_says catalog disk each image left =
    list_says catalog.id catalog.entries each.payloads image (each_has catalog.log each.payloads disk each.log image left) each.says

-- nothing was done
pub changes_nothing : {T E : Type 0} (catalog : CatalogView) (after : Entries) (disk : Contents) (result : Result T E) → EachCatalogue catalog disk → Changes catalog catalog after disk disk result
changes_nothing catalog after disk result each = record {
  kept = on_ok result (EachCatalogue catalog disk) each;
  crash = λ image left. inl (each_says catalog disk each image left);
  others = kept_same disk catalog.log.file;
}

-- a payload that is allowed, and that an append may have left
pub may_change : (catalog : CatalogView) (more : Catalogued) (after : Entries) (old new : Contents) (each : EachCatalogue catalog old) → IsCatalogued more
    → entries_after catalog.entries more ≡ Some after
    → ((image : Option (List ℕ)) → MayLeave new catalog.log.file image
    → IsBeforeOrAfter (λ l. HasList l image) each.payloads (each.payloads ++ catalogued_spelling more ∷ []))
    → (image : Option (List ℕ)) → MayLeave new catalog.log.file image → IsBeforeOrAfter (λ entries. HasCatalogue catalog.id entries image) catalog.entries after
may_change catalog more after old new each in_form grows crash image left =
    elim (crash image left) [
      | inl was ↦ inl (list_says catalog.id catalog.entries each.payloads image was each.says)
      | inr is ↦ inr (list_says catalog.id after (each.payloads ++ catalogued_spelling more ∷ []) image is
          (catalogue_grows each.payloads (with_id catalog.id catalog.entries) more after each.says in_form grows))
    ]

-- and one that it has left
pub each_grown : (catalog : CatalogView) (more : Catalogued) (after : Entries) (log : LogPlace) (old new : Contents) (each : EachCatalogue catalog old) → IsCatalogued more
    → entries_after catalog.entries more ≡ Some after → EachLog log (each.payloads ++ catalogued_spelling more ∷ []) new → EachCatalogue (catalog_at catalog.id after log) new
each_grown catalog more after log old new each in_form grows each_log = record {
  payloads = each.payloads ++ catalogued_spelling more ∷ [];
  log = each_log;
  says = catalogue_grows each.payloads (with_id catalog.id catalog.entries) more after each.says in_form grows;
}

-- one append, whether it succeeded or failed
pub changes_by : {T E A B : Type 0} (catalog catalog' : CatalogView) (more : Catalogued) (after : Entries) (payload : List ℕ) {log' : LogPlace} (old new : Contents) (appended : Result A B) (result : Result T E)
    → EachCatalogue catalog old → IsCatalogued more → entries_after catalog.entries more ≡ Some after → payload ≡ catalogued_spelling more
    → Appends catalog.log log' payload old new appended → OnOk result (EachCatalogue catalog' new) → Changes catalog catalog' after old new result
changes_by catalog catalog' more after payload old new appended result each in_form grows spelled appends kept = record {
  kept = kept;
  crash = may_change catalog more after old new each in_form grows
      (λ image left. subst (λ (p : List ℕ). IsBeforeOrAfter (λ l. HasList l image) each.payloads (each.payloads ++ p ∷ [])) spelled
      (appends.crash each.payloads image each.log left));
  others = appends.others;
}

-- what the entries become
pub enter_after : (entries : Entries) (number : ℕ) (standing : Standing) → stands number entries ≡ false → entries_after entries (Entered number standing) ≡ Some (entries ++ (number, standing) ∷ [])
enter_after entries number standing absent = ap (λ (b : Bool). cond b None (Some (entries ++ (number, standing) ∷ []))) absent

pub drop_after : (entries : Entries) (number : ℕ) → stands number entries ≡ true → entries_after entries (Dropped number) ≡ Some (dropped number entries)
drop_after entries number there = ap (λ (b : Bool). cond b (Some (dropped number entries)) None) there

-- a number that stands is low enough to be dropped
is_low : (number : ℕ) (standing : Standing) → IsCatalogued (Entered number standing) → number < 2 ^ 62
is_low number (Shared object) is = is.content.0
is_low number (External name) is = is.content.0

pub drop_in_form : (entries : Entries) (number : ℕ) → stands number entries ≡ true → All IsEntered entries → IsCatalogued (Dropped number)
drop_in_form [] number there all = cc
drop_in_form (entry ∷ entries) number there all =
    elim (is_of number entry) as (λ b. is_of number entry ≡ b → (b || stands number entries) ≡ true → IsCatalogued (Dropped number)) [
      | true ↦ λ is _. record {
        kind = refl;
        content = subst (λ (n : ℕ). n < 2 ^ 62) (eqb-true entry.0 number is) (is_low entry.0 entry.1 (All-head IsEntered entry entries all));
      }
      | false ↦ λ _ rest. drop_in_form entries number rest (All-tail IsEntered entry entries all)
    ] refl there

-- ---- a catalogue is made

pub begins_nothing : (id : ℕ) (file : List ℕ) (disk : Contents) → Begins id file disk disk
begins_nothing id file disk = record { crash = λ image left. inl left; others = kept_same disk file }

pub begins_made : (id : ℕ) (file : List ℕ) (old new : Contents) → Makes file old new → Begins id file old new
begins_made id file old new made = record {
  crash = λ image left. elim (made.crash image left) [ inl was ↦ inl was | inr none ↦ inr (inl none) ];
  others = made.others;
}

pub begins_whole : {T E : Type 0} (id : ℕ) (file : List ℕ) (log : LogPlace) {log' : LogPlace} (payload : List ℕ) (old mid new : Contents) (result : Result T E)
    → log.file ≡ file → payload ≡ catalogued_spelling (Id id) → Makes file old mid → EachLog log [] mid → Appends log log' payload mid new result → Begins id file old new
begins_whole id file log payload old mid new result same spelled made each appends = record {
  crash = λ image left. inr
      (subst (λ (p : List ℕ). IsBeforeOrAfter (λ list. HasList list image) [] (p ∷ [])) spelled
      (appends.crash [] image each (subst (λ (n : List ℕ). MayLeave new n image) (sym same) left)));
  others = kept_then old mid new file made.others (subst (λ (n : List ℕ). KeepsOthers mid new n) same appends.others);
}

pub each_first : (id : ℕ) (entries : Entries) (log : LogPlace) (payload : List ℕ) (disk : Contents) → id < 2 ^ 64 → entries ≡ [] → payload ≡ catalogued_spelling (Id id)
    → EachLog log (payload ∷ []) disk → EachCatalogue (catalog_at id entries log) disk
each_first id entries log payload disk fits empty spelled each = record {
  payloads = payload ∷ [];
  log = each;
  says = subst (λ (es : Entries). SaysCatalogue (payload ∷ []) (with_id id es)) (sym empty)
      (subst (λ (p : List ℕ). SaysCatalogue (p ∷ []) (with_id id [])) (sym spelled) (first_catalogue id fits));
}
