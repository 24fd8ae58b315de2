-- What the payloads of a catalogue that are left say, behind those that were read.
use Rattle.std.proofs.Common.{◌≡◌, ℕ, ◌<◌, ◌^◌, List, [], ◌∷◌, map, Option, Some, None, refl, sym, ap, ◌∙◌, subst}
use Rattle.std.proofs.lemmas.List.Elements.{All-nil, All-cons, All-head, All-tail}
use Rattle.std.proofs.lemmas.Option.{same_Some}
use Rattle.std.specs.List.{All}
use Rattle.std.specs.Option.{option_and_then, option_map}
use Rattle.pb_keys.proofs.Lists.{head_of, tail_of}
use Rattle.pb_payloads.specs.Catalogue.{Catalogue, Entries, SaysCatalogue, entries_after, entries_from, folded, with_id}
use Rattle.pb_payloads.specs.Catalogued.{Catalogued, IsCatalogued, catalogued_spelling}
use Rattle.pb_payloads.specs.Catalogued.Catalogued.{Id, Entered, Dropped}
use Rattle.pb_payloads.specs.Left.{ChangesTo, IsChange}
use Rattle.pb_payloads.proofs.CataloguedLaws.{one_catalogued}

pub changes_behind : (payload : List ℕ) (rest : List (List ℕ)) (old mid new : Entries) → IsChange payload old mid → ChangesTo mid rest new
    → ChangesTo old (payload ∷ rest) new
changes_behind payload rest old mid new is on = record {
  said = is.catalogued ∷ on.said;
  spelled = λ i. is.spelled i ∷ on.spelled i;
  in_form = All-cons IsCatalogued is.catalogued on.said is.in_form on.in_form;
  folds = ap (option_and_then (λ (next : Entries). entries_from next on.said)) is.after ∙ on.folds;
}

-- the first of the payloads is such a change, and the others go on from there
pub record NextChange (payload : List ℕ) (rest : List (List ℕ)) (old new : Entries) : Type 0 where
  pub mid : Entries
  pub is : IsChange payload old mid
  pub later : ChangesTo mid rest new

pub reached : (after : Option Entries) (said : List Catalogued) (new : Entries) → option_and_then (λ (next : Entries). entries_from next said) after ≡ Some new
    → (mid : Entries) × (after ≡ Some mid) × (entries_from mid said ≡ Some new)
reached None said new folds = cc
reached (Some mid) said new folds = (mid, refl, folds)

next_among : (payload : List ℕ) (rest : List (List ℕ)) (old new : Entries) (said : List Catalogued) → payload ∷ rest ≡ map catalogued_spelling said
    → All IsCatalogued said → entries_from old said ≡ Some new → NextChange payload rest old new
next_among payload rest old new [] spelled in_form folds = cc
next_among payload rest old new (first ∷ said) spelled in_form folds =
    let on = reached (entries_after old first) said new folds in
    record {
      mid = on.0;
      is = record {
        catalogued = first;
        in_form = All-head IsCatalogued first said in_form;
        spelled = head_of payload (catalogued_spelling first) rest (map catalogued_spelling said) spelled;
        after = on.1;
      };
      later = record {
        said = said;
        spelled = tail_of payload (catalogued_spelling first) rest (map catalogued_spelling said) spelled;
        in_form = All-tail IsCatalogued first said in_form;
        folds = on.2;
      };
    }

pub next_change : (payload : List ℕ) (rest : List (List ℕ)) (old new : Entries) → ChangesTo old (payload ∷ rest) new → NextChange payload rest old new
next_change payload rest old new on = next_among payload rest old new on.said on.spelled on.in_form on.folds

-- a payload makes one list of entries
pub one_change : (payload : List ℕ) (old one other : Entries) → IsChange payload old one → IsChange payload old other → one ≡ other
one_change payload old one other a b =
    let same = one_catalogued a.catalogued b.catalogued a.in_form.content b.in_form.content (sym a.spelled ∙ b.spelled) in
    same_Some one other (sym a.after ∙ ap (entries_after old) same ∙ b.after)

-- ---- all of them, and those that are left

-- the payloads that are left make of the entries now what all make of the first
pub record AlikeOn (first now : Entries) (payloads left : List (List ℕ)) : Type 0 where
  pub all : (new : Entries) → ChangesTo now left new → ChangesTo first payloads new
  pub back : (new : Entries) → ChangesTo first payloads new → ChangesTo now left new

pub alike_more : (first old mid : Entries) (payloads : List (List ℕ)) (payload : List ℕ) (rest : List (List ℕ))
    → AlikeOn first old payloads (payload ∷ rest) → IsChange payload old mid → AlikeOn first mid payloads rest
alike_more first old mid payloads payload rest alike is = record {
  all = λ new on. alike.all new (changes_behind payload rest old mid new is on);
  back = λ new on.
      let next = next_change payload rest old new (alike.back new on) in
      subst (λ (e : Entries). ChangesTo e rest new) (one_change payload old next.mid mid next.is is) next.later;
}

pub none_left : (entries : Entries) → ChangesTo entries [] entries
none_left entries = record { said = []; spelled = refl; in_form = All-nil IsCatalogued; folds = refl }

-- ---- behind the id

pub says_behind_id : (id : ℕ) (payload : List ℕ) (rest : List (List ℕ)) (entries : Entries) → IsCatalogued (Id id) → payload ≡ catalogued_spelling (Id id)
    → ChangesTo [] rest entries → SaysCatalogue (payload ∷ rest) (with_id id entries)
says_behind_id id payload rest entries is spelled on = record {
  said = Id id ∷ on.said;
  spelled = λ i. spelled i ∷ on.spelled i;
  in_form = All-cons IsCatalogued (Id id) on.said is on.in_form;
  folds = ap (option_map (with_id id)) on.folds;
}

-- the id comes first, and the others make the entries
pub record IsBehindId (id : ℕ) (payload : List ℕ) (rest : List (List ℕ)) (entries : Entries) : Type 0 where
  pub in_form : IsCatalogued (Id id)
  pub spelled : payload ≡ catalogued_spelling (Id id)
  pub on : ChangesTo [] rest entries

made_of : (one id : ℕ) (reached : Option Entries) (entries : Entries) → option_map (with_id one) reached ≡ Some (with_id id entries) → (one ≡ id) × (reached ≡ Some entries)
made_of one id None entries same = cc
made_of one id (Some found) entries same =
    let catalogues = same_Some (with_id one found) (with_id id entries) same in
    (ap (λ (c : Catalogue). c.id) catalogues, ap (λ (c : Catalogue). Some c.entries) catalogues)

behind_among : (id : ℕ) (payload : List ℕ) (rest : List (List ℕ)) (entries : Entries) (said : List Catalogued) → payload ∷ rest ≡ map catalogued_spelling said
    → All IsCatalogued said → folded said ≡ Some (with_id id entries) → IsBehindId id payload rest entries
behind_among id payload rest entries [] spelled in_form folds = cc
behind_among id payload rest entries (Id one ∷ said) spelled in_form folds =
    let made = made_of one id (entries_from [] said) entries folds in
    record {
      in_form = subst (λ (n : ℕ). IsCatalogued (Id n)) made.0 (All-head IsCatalogued (Id one) said in_form);
      spelled = head_of payload (catalogued_spelling (Id one)) rest (map catalogued_spelling said) spelled ∙ ap (λ n. catalogued_spelling (Id n)) made.0;
      on = record {
        said = said;
        spelled = tail_of payload (catalogued_spelling (Id one)) rest (map catalogued_spelling said) spelled;
        in_form = All-tail IsCatalogued (Id one) said in_form;
        folds = made.1;
      };
    }
behind_among id payload rest entries (Entered number standing ∷ said) spelled in_form folds = cc
behind_among id payload rest entries (Dropped number ∷ said) spelled in_form folds = cc

pub behind_id : (id : ℕ) (payload : List ℕ) (rest : List (List ℕ)) (entries : Entries) → SaysCatalogue (payload ∷ rest) (with_id id entries)
    → IsBehindId id payload rest entries
behind_id id payload rest entries says = behind_among id payload rest entries says.said says.spelled says.in_form says.folds

pub no_payloads : (id : ℕ) (entries : Entries) → SaysCatalogue [] (with_id id entries) → ⊥
no_payloads id entries says = none says.said says.spelled says.folds
  where
    none : (said : List Catalogued) → [] ≡ map catalogued_spelling said → folded said ≡ Some (with_id id entries) → ⊥
    none [] spelled folds = cc
    none (first ∷ said) spelled folds = cc

-- ---- what is no change

pub no_change : (payload : List ℕ) (old : Entries) (read : Catalogued) → IsCatalogued read → payload ≡ catalogued_spelling read → entries_after old read ≡ None
    → (new : Entries) → IsChange payload old new → ⊥
no_change payload old read in_form spelled none new is =
    let same = one_catalogued is.catalogued read is.in_form.content in_form.content (sym is.spelled ∙ spelled) in
    let after : Some new ≡ None = sym is.after ∙ ap (entries_after old) same ∙ none in
    cc

-- a payload that spells something else spells no such id
pub other_id : (payload : List ℕ) (read : Catalogued) (id : ℕ) → id < 2 ^ 64 → IsCatalogued read → payload ≡ catalogued_spelling read → (read ≡ Id id → ⊥)
    → payload ≡ catalogued_spelling (Id id) → ⊥
other_id payload read id fits in_form spelled other is = other (one_catalogued read (Id id) in_form.content fits (sym spelled ∙ is))
