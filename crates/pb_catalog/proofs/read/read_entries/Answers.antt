use Rattle.std.proofs.Common.{◌≡◌, ◌-◌, ℕ, List, [], ◌∷◌, drop, length, take, refl, sym, subst, arith}
use Rattle.std.proofs.lemmas.List.{take_rest}
use Rattle.pb_payloads.specs.Catalogue.{Entries, SaysCatalogue, with_id}
use Rattle.pb_payloads.specs.Catalogued.{catalogued_spelling}
use Rattle.pb_payloads.specs.Catalogued.Catalogued.{Id}
use Rattle.pb_catalog.specs.Catalog.{IsEntered}
use Rattle.pb_catalog.specs.Entered.{entries_of}
use Rattle.pb_catalog.specs.Found.{IsDamaged}
use Rattle.pb_payloads.specs.Left.{ChangesTo}
use Rattle.pb_keys.proofs.Lists.{item_first}
use Rattle.pb_payloads.proofs.CatalogueFolds.{says_behind_id}
use Rattle.pb_catalog.proofs.Folds.{changes_enter}
use Rattle.pb_catalog.proofs.Found.{damaged_behind}
use Rattle.pb_keys.proofs.Options.{none_has, some_has}
use Rattle.std.proofs.lemmas.List.Elements.{All-nil}
use Rattle.pb_catalog.proofs.read.read_entries.Goals as goal

pub returns-in-Ok-Some-clause-says : goal.returns-in-Ok-Some-clause-says
returns-in-Ok-Some-clause-says c =
    let list = c.args.payloads.now in
    let id = c.args.id in
    let payload : List ℕ = c.as_slice.result.now in
    let entries = entries_of c.in-Ok-Some.entries.entries in
    let first : list ≡ payload ∷ drop 1 list = item_first list 0 c.first-item.result payload c.in-len1-up.len_at_least c.first-item.is c.as_slice.ensures in
    let same : c.in-Some.found ≡ id = omega (arith, c.if-found-id.false) in
    let on = some_has c.in-Ok-Some.field-0 (λ entries. ChangesTo [] (take (length list - 1) (drop 1 list)) (entries_of entries.entries)) c.in-Ok-Some.entries c.in-Ok-Some.field-0-is c.in-Ok-Some.ensures.some in
    subst (λ (l : List (List ℕ)). SaysCatalogue l (with_id id entries)) (sym first)
    (says_behind_id id payload (drop 1 list) entries (record { kind = refl; content = c.ranges.id.fits })
    (subst (λ (n : ℕ). payload ≡ catalogued_spelling (Id n)) same c.in-Some.ensures.some)
    (subst (λ (l : List (List ℕ)). ChangesTo [] l entries) (take_rest list 1) on))

pub returns-in-Ok-Some-clause-in_form : goal.returns-in-Ok-Some-clause-in_form
returns-in-Ok-Some-clause-in_form c =
    let list = c.args.payloads.now in
    let on = some_has c.in-Ok-Some.field-0 (λ entries. ChangesTo [] (take (length list - 1) (drop 1 list)) (entries_of entries.entries)) c.in-Ok-Some.entries c.in-Ok-Some.field-0-is c.in-Ok-Some.ensures.some in
    changes_enter [] (take (length list - 1) (drop 1 list)) (entries_of c.in-Ok-Some.entries.entries) (All-nil IsEntered) on

pub returns-in-Ok-None-clause-damaged : goal.returns-in-Ok-None-clause-damaged
returns-in-Ok-None-clause-damaged c _ =
    let list = c.args.payloads.now in
    let id = c.args.id in
    let payload : List ℕ = c.as_slice.result.now in
    let first : list ≡ payload ∷ drop 1 list = item_first list 0 c.first-item.result payload c.in-len1-up.len_at_least c.first-item.is c.as_slice.ensures in
    let same : c.in-Some.found ≡ id = omega (arith, c.if-found-id.false) in
    let none = none_has c.in-Ok-None.field-0 ((entries : Entries) → ChangesTo [] (take (length list - 1) (drop 1 list)) entries → ⊥) c.in-Ok-None.field-0-is c.in-Ok-None.ensures.none in
    subst (IsDamaged id) (sym first)
    (damaged_behind id payload (drop 1 list) (record { kind = refl; content = c.ranges.id.fits })
    (subst (λ (n : ℕ). payload ≡ catalogued_spelling (Id n)) same c.in-Some.ensures.some)
    (λ entries on. none entries (subst (λ (l : List (List ℕ)). ChangesTo [] l entries) (sym (take_rest list 1)) on)))
