use Rattle.std.proofs.Common.{◌≡◌, ◌-◌, ℕ, List, [], ◌∷◌, drop, length, refl, sym, subst, take}
use Rattle.std.proofs.lemmas.List.{take_rest}
use Rattle.pb_payloads.proofs.Results.{if_none}
use Rattle.pb_payloads.specs.Catalogue.{Entries, SaysCatalogue, with_id}
use Rattle.pb_payloads.specs.Left.{ChangesTo}
use Rattle.pb_payloads.proofs.CatalogueFolds.{behind_id, says_behind_id}
use Rattle.pb_keys.proofs.Lists.{item_first}
use Rattle.pb_folder_reader.proofs.Results.{if_some}
use Rattle.pb_folder_reader.proofs.catalogue.entries_of.Goals as goal

pub returns-clause-some : goal.returns-clause-some
returns-clause-some c =
    let list = c.args.payloads.now in
    let id = c.args.id in
    let payload : List ℕ = c.as_slice.result.now in
    let first : list ≡ payload ∷ drop 1 list = item_first list 0 c.first-item.result payload c.in-len1-up.len_at_least c.first-item.is c.as_slice.ensures in
    if_some c.in_ok-entries.entries (λ entries. ChangesTo [] (take (length list - 1) (drop 1 list)) entries.items) (λ entries. SaysCatalogue list (with_id id entries.items))
    (λ entries on.
    subst (λ (l : List (List ℕ)). SaysCatalogue l (with_id id entries.items)) (sym first)
    (says_behind_id id payload (drop 1 list) entries.items (record { kind = refl; content = c.ranges.id.fits }) (c.spells_id.ensures.yes c.if-not-spells_id.false)
    (subst (λ (l : List (List ℕ)). ChangesTo [] l entries.items) (take_rest list 1) on)))
    c.in_ok-entries.ensures.some

pub returns-clause-none : goal.returns-clause-none
returns-clause-none c =
    let list = c.args.payloads.now in
    let id = c.args.id in
    let payload : List ℕ = c.as_slice.result.now in
    let first : list ≡ payload ∷ drop 1 list = item_first list 0 c.first-item.result payload c.in-len1-up.len_at_least c.first-item.is c.as_slice.ensures in
    if_none c.in_ok-entries.entries ((entries : Entries) → ChangesTo [] (take (length list - 1) (drop 1 list)) entries → ⊥)
    ((entries : Entries) → SaysCatalogue list (with_id id entries) → ⊥)
    (λ none entries says.
    let behind = behind_id id payload (drop 1 list) entries (subst (λ (l : List (List ℕ)). SaysCatalogue l (with_id id entries)) first says) in
    none entries (subst (λ (l : List (List ℕ)). ChangesTo [] l entries) (sym (take_rest list 1)) behind.on))
    c.in_ok-entries.ensures.none
