-- What an opening's answer tells of the payloads.
use Rattle.std.proofs.Common.{◌≡◌, ◌≢◌, ℕ, List, [], ◌∷◌, Option, Some, None, IfSome, IfNone, slice_get, sym, ap, ◌∙◌, subst}
use Rattle.std.proofs.lemmas.Option.{same_Some}
use Rattle.pb_payloads.specs.Catalogue.{Entries, SaysCatalogue, with_id}
use Rattle.pb_payloads.specs.Catalogued.{Catalogued, IsCatalogued, catalogued_spelling}
use Rattle.pb_payloads.specs.Catalogued.Catalogued.{Id}
use Rattle.pb_payloads.specs.Left.{ChangesTo}
use Rattle.pb_payloads.proofs.CatalogueFolds.{behind_id, no_payloads}
use Rattle.pb_payloads.proofs.CataloguedLaws.{one_catalogued}
use Rattle.pb_catalog.specs.Found.{IsDamaged, IsOfAnother}

id_is : (m n : ℕ) → Id m ≡ Id n → m ≡ n
id_is m n same = cc

no_first : (payload : List ℕ) → slice_get {X = List ℕ} [] 0 ≡ Some payload → ⊥
no_first payload same = cc

-- one payload tells one id
one_id : (payload : List ℕ) (m n : ℕ) → IsCatalogued (Id m) → IsCatalogued (Id n) → payload ≡ catalogued_spelling (Id m) → payload ≡ catalogued_spelling (Id n) → m ≡ n
one_id payload m n m_is n_is is_m is_n = id_is m n (one_catalogued (Id m) (Id n) m_is.content n_is.content (sym is_m ∙ is_n))

pub not_anothers : (id other : ℕ) (payloads : List (List ℕ)) (entries : Entries) → SaysCatalogue payloads (with_id id entries) → IsOfAnother id other payloads → ⊥
not_anothers id other [] entries says is = no_payloads id entries says
not_anothers id other (payload ∷ rest) entries says is =
    let behind = behind_id id payload rest entries says in
    is.apart (one_id payload other id is.in_form behind.in_form (same_Some payload (catalogued_spelling (Id other)) is.first) behind.spelled)

pub damaged_empty : (id : ℕ) → IsDamaged id []
damaged_empty id = record { own = no_payloads id; another = λ other is. no_first (catalogued_spelling (Id other)) is.first }

pub damaged_first : (id : ℕ) (payload : List ℕ) (rest : List (List ℕ)) → ((n : ℕ) → IsCatalogued (Id n) → payload ≡ catalogued_spelling (Id n) → ⊥) → IsDamaged id (payload ∷ rest)
damaged_first id payload rest none = record {
  own = λ entries says. let behind = behind_id id payload rest entries says in none id behind.in_form behind.spelled;
  another = λ other is. none other is.in_form (same_Some payload (catalogued_spelling (Id other)) is.first);
}

pub damaged_behind : (id : ℕ) (payload : List ℕ) (rest : List (List ℕ)) → IsCatalogued (Id id) → payload ≡ catalogued_spelling (Id id)
    → ((entries : Entries) → ChangesTo [] rest entries → ⊥) → IsDamaged id (payload ∷ rest)
damaged_behind id payload rest in_form spelled none = record {
  own = λ entries says. none entries (behind_id id payload rest entries says).on;
  another = λ other is. is.apart (one_id payload other id is.in_form in_form (same_Some payload (catalogued_spelling (Id other)) is.first) spelled);
}

pub of_another : (id other : ℕ) (payload : List ℕ) (rest : List (List ℕ)) → IsCatalogued (Id other) → payload ≡ catalogued_spelling (Id other) → other ≢ id → IsOfAnother id other (payload ∷ rest)
of_another id other payload rest in_form spelled apart = record { first = ap Some spelled; in_form = in_form; apart = apart }

-- ---- the id that a payload tells

pub id_spelled : (found : Option ℕ) (from : List ℕ) (read : Catalogued) → from ≡ catalogued_spelling read → IfSome found (λ id. read ≡ Id id)
    → IfSome found (λ id. from ≡ catalogued_spelling (Id id))
id_spelled None from read is found = found
id_spelled (Some id) from read is found = is ∙ ap catalogued_spelling found

pub id_in_form : (found : Option ℕ) (read : Catalogued) → IsCatalogued read → IfSome found (λ id. read ≡ Id id) → IfSome found (λ id. IsCatalogued (Id id))
id_in_form None read in_form found = found
id_in_form (Some id) read in_form found = subst IsCatalogued found in_form

pub no_id : (found : Option ℕ) (from : List ℕ) (read : Catalogued) → IsCatalogued read → from ≡ catalogued_spelling read
    → IfNone found ((id : ℕ) → read ≡ Id id → ⊥) → IfNone found ((id : ℕ) → IsCatalogued (Id id) → from ≡ catalogued_spelling (Id id) → ⊥)
no_id None from read in_form is none = λ id id_form spelled. none id (one_catalogued read (Id id) in_form.content id_form.content (sym is ∙ spelled))
no_id (Some id) from read in_form is none = none
