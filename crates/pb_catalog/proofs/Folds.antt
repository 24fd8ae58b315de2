-- What was entered is in form, whatever payloads behind it say.
use Rattle.std.proofs.Common.{◌≡◌, ℕ, List, [], ◌∷◌, ◌++◌, cond, true, false, Some, None, subst}
use Rattle.std.proofs.lemmas.List.Elements.{All-nil, All-cons, All-head, All-tail, All-append, All-filter}
use Rattle.std.proofs.lemmas.Option.{same_Some}
use Rattle.std.specs.List.{All}
use Rattle.std.specs.Prelude.{not}
use Rattle.pb_payloads.specs.Catalogue.{Entries, dropped, entries_after, entries_from, is_of, stands}
use Rattle.pb_payloads.specs.Catalogued.{Catalogued, IsCatalogued}
use Rattle.pb_payloads.specs.Catalogued.Catalogued.{Id, Entered, Dropped}
use Rattle.pb_payloads.specs.Left.{ChangesTo}
use Rattle.pb_payloads.proofs.CatalogueFolds.{reached}
use Rattle.pb_catalog.specs.Catalog.{IsEntered}

entered_next : (old new : Entries) (more : Catalogued) → IsCatalogued more → All IsEntered old → entries_after old more ≡ Some new → All IsEntered new
entered_next old new (Id id) in_form all after = cc
entered_next old new (Entered number standing) in_form all after =
    elim (stands number old) as (λ b. cond b None (Some (old ++ (number, standing) ∷ [])) ≡ Some new → All IsEntered new) [
      | true ↦ λ none. cc
      | false ↦ λ is.
          subst (All IsEntered) (same_Some (old ++ (number, standing) ∷ []) new is)
          (All-append IsEntered old ((number, standing) ∷ []) all (All-cons IsEntered (number, standing) [] in_form (All-nil IsEntered)))
    ] after
entered_next old new (Dropped number) in_form all after =
    elim (stands number old) as (λ b. cond b (Some (dropped number old)) None ≡ Some new → All IsEntered new) [
      | true ↦ λ is.
          subst (All IsEntered) (same_Some (dropped number old) new is)
          (All-filter (λ entry. not (is_of number entry)) IsEntered old all)
      | false ↦ λ none. cc
    ] after

entered_from : (old new : Entries) (said : List Catalogued) → All IsCatalogued said → All IsEntered old → entries_from old said ≡ Some new → All IsEntered new
entered_from old new [] in_form all folds = subst (All IsEntered) (same_Some old new folds) all
entered_from old new (first ∷ said) in_form all folds =
    let on = reached (entries_after old first) said new folds in
    entered_from on.0 new said (All-tail IsCatalogued first said in_form)
    (entered_next old on.0 first (All-head IsCatalogued first said in_form) all on.1) on.2

pub changes_enter : (old : Entries) (payloads : List (List ℕ)) (new : Entries) → All IsEntered old → ChangesTo old payloads new → All IsEntered new
changes_enter old payloads new all on = entered_from old new on.said on.in_form all on.folds
