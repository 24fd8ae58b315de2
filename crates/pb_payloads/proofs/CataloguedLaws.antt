-- A payload of a catalogue spells one entry, so a list of payloads says one catalogue.
use Rattle.std.proofs.Common.{◌≡◌, ℕ, ◌^◌, ◌<◌, List, [], ◌∷◌, ◌++◌, refl, sym, ap, ◌∙◌, arith, Option, Some, None, append_assoc}
use Rattle.std.specs.Option.{option_and_then, option_map}
use Rattle.std.proofs.lemmas.List.{map-append}
use Rattle.std.proofs.lemmas.List.Elements.{All-nil, All-cons, All-append}
use Rattle.pb_bytes.specs.Varint.{varint}
use Rattle.pb_bytes.proofs.ReadingLemmas.{one_varint}
use Rattle.pb_bytes.proofs.Lists.{one_list}
use Rattle.pb_names.specs.Grammar.{IsName}
use Rattle.pb_names.specs.Identity.{Identity, IsObject}
use Rattle.pb_payloads.specs.Catalogued.{Catalogued, IsContent, IsCatalogued, kind_of, content_of, catalogued_spelling}
use Rattle.pb_payloads.specs.Catalogued.Catalogued.{Id, Entered, Dropped}
use Rattle.pb_payloads.specs.Catalogued.Standing.{Shared, External}
use Rattle.pb_payloads.specs.Catalogue.{Catalogue, Entries, SaysCatalogue, folded, with_id, entries_after, entries_from}
use Rattle.pb_payloads.proofs.SpellingLaws.{same_first, same_rest, one_last_varint, one_last_field}

same_object : (o p : Identity) → o.creator ≡ p.creator → o.number ≡ p.number → o ≡ p
same_object o p creator number = λ i. record { creator = creator i; number = number i }

one_shared : (m n : ℕ) (o p : Identity) → m < 2 ^ 62 → n < 2 ^ 62 → IsObject o → IsObject p
    → content_of (Entered m (Shared o)) ≡ content_of (Entered n (Shared p)) → Entered m (Shared o) ≡ Entered n (Shared p)
one_shared m n o p m_low n_low o_is p_is same =
    let o_creator = o_is.creator in
    let p_creator = p_is.creator in
    let o_number = o_is.number in
    let p_number = p_is.number in
    let regrouped : varint m ++ (varint o.creator ++ varint o.number) ≡ varint n ++ (varint p.creator ++ varint p.number) = simp append_assoc at same in
    let number = one_varint m n _ _ (omega arith) (omega arith) regrouped in
    let creator = one_varint o.creator p.creator _ _ (omega arith) (omega arith) number.1 in
    let own = one_last_varint o.number p.number (omega arith) (omega arith) creator.1 in
    let object = same_object o p creator.0 own in
    (λ i. Entered (number.0 i) (Shared (object i)))

one_external : (m n : ℕ) (a b : List ℕ) → m < 2 ^ 62 → n < 2 ^ 62 → IsName a → IsName b
    → content_of (Entered m (External a)) ≡ content_of (Entered n (External b)) → Entered m (External a) ≡ Entered n (External b)
one_external m n a b m_low n_low a_is b_is same =
    let a_short = a_is.short in
    let b_short = b_is.short in
    let number = one_varint m n _ _ (omega arith) (omega arith) same in
    let name = one_last_field a b (omega arith) (omega arith) number.1 in
    (λ i. Entered (number.0 i) (External (name i)))

-- the same kind is the same case
one_content : (x y : Catalogued) → kind_of x ≡ kind_of y → IsContent x → IsContent y → content_of x ≡ content_of y → x ≡ y
one_content (Id m) (Id n) kind x_is y_is same = ap Id (one_last_varint m n x_is y_is same)
one_content (Id m) (Entered n (Shared p)) kind x_is y_is same = absurd (omega arith)
one_content (Id m) (Entered n (External b)) kind x_is y_is same = absurd (omega arith)
one_content (Id m) (Dropped n) kind x_is y_is same = absurd (omega arith)
one_content (Entered m (Shared o)) (Id n) kind x_is y_is same = absurd (omega arith)
one_content (Entered m (Shared o)) (Entered n (Shared p)) kind x_is y_is same = one_shared m n o p x_is.0 y_is.0 x_is.1 y_is.1 same
one_content (Entered m (Shared o)) (Entered n (External b)) kind x_is y_is same = absurd (omega arith)
one_content (Entered m (Shared o)) (Dropped n) kind x_is y_is same = absurd (omega arith)
one_content (Entered m (External a)) (Id n) kind x_is y_is same = absurd (omega arith)
one_content (Entered m (External a)) (Entered n (Shared p)) kind x_is y_is same = absurd (omega arith)
one_content (Entered m (External a)) (Entered n (External b)) kind x_is y_is same = one_external m n a b x_is.0 y_is.0 x_is.1 y_is.1 same
one_content (Entered m (External a)) (Dropped n) kind x_is y_is same = absurd (omega arith)
one_content (Dropped m) (Id n) kind x_is y_is same = absurd (omega arith)
one_content (Dropped m) (Entered n (Shared p)) kind x_is y_is same = absurd (omega arith)
one_content (Dropped m) (Entered n (External b)) kind x_is y_is same = absurd (omega arith)
one_content (Dropped m) (Dropped n) kind x_is y_is same = ap Dropped (one_last_varint m n (omega arith) (omega arith) same)

-- one payload, one entry, of each kind
pub one_catalogued : (x y : Catalogued) → IsContent x → IsContent y → catalogued_spelling x ≡ catalogued_spelling y → x ≡ y
one_catalogued x y x_is y_is same =
    one_content x y (same_first _ _ _ _ same) x_is y_is (same_rest _ _ _ _ same)

-- the payloads of a catalogue say one id and one list of standing entries
pub one_catalogue : (payloads : List (List ℕ)) (c d : Catalogue) → SaysCatalogue payloads c → SaysCatalogue payloads d → c ≡ d
one_catalogue payloads c d c_says d_says =
    let said : c_says.said ≡ d_says.said =
    one_list IsCatalogued catalogued_spelling (λ x y x_is y_is same. one_catalogued x y x_is.content y_is.content same)
    c_says.said d_says.said c_says.in_form d_says.in_form (sym c_says.spelled ∙ d_says.spelled) in
    let c_folds = c_says.folds in
    let d_folds = d_says.folds in
    let same : folded c_says.said ≡ folded d_says.said = ap folded said in
    cc

-- ---- a catalogue grows

-- from the id alone
pub first_catalogue : (id : ℕ) → id < 2 ^ 64 → SaysCatalogue (catalogued_spelling (Id id) ∷ []) (with_id id [])
first_catalogue id fits = record {
  said = Id id ∷ [];
  spelled = refl;
  in_form = All-cons IsCatalogued (Id id) [] (record { kind = refl; content = fits }) (All-nil IsCatalogued);
  folds = refl;
}

-- the entries reached, and what another payload makes of them
abbrev and_more : Catalogued → Option Entries → Option Entries
and_more more reached = option_and_then (λ entries. entries_after entries more) reached

reached_more : (reached : Option Entries) (rest : List Catalogued) (more : Catalogued)
    → ((entries : Entries) → entries_from entries (rest ++ more ∷ []) ≡ and_more more (entries_from entries rest))
    → option_and_then (λ entries. entries_from entries (rest ++ more ∷ [])) reached ≡ and_more more (option_and_then (λ entries. entries_from entries rest) reached)
reached_more None rest more each = refl
reached_more (Some entries) rest more each = each entries

only_more : (reached : Option Entries) → option_and_then (λ entries. entries_from entries []) reached ≡ reached
only_more None = refl
only_more (Some entries) = refl

from_more : (entries : Entries) (said : List Catalogued) (more : Catalogued)
    → entries_from entries (said ++ more ∷ []) ≡ and_more more (entries_from entries said)
from_more entries [] more = only_more (entries_after entries more)
from_more entries (first ∷ rest) more = reached_more (entries_after entries first) rest more (λ next. from_more next rest more)

reached_of : (id : ℕ) (reached : Option Entries) (c : Catalogue) → option_map (with_id id) reached ≡ Some c → (reached ≡ Some c.entries) × (id ≡ c.id)
reached_of id None c same = cc
reached_of id (Some entries) c same =
    let is_c : with_id id entries ≡ c = cc in
    (ap (λ (d : Catalogue). Some d.entries) is_c, ap (λ (d : Catalogue). d.id) is_c)

folded_more : (said : List Catalogued) (more : Catalogued) (c : Catalogue) (next : Entries) → folded said ≡ Some c
    → entries_after c.entries more ≡ Some next → folded (said ++ more ∷ []) ≡ Some (with_id c.id next)
folded_more [] more c next folds after = cc
folded_more (Entered number standing ∷ rest) more c next folds after = cc
folded_more (Dropped number ∷ rest) more c next folds after = cc
folded_more (Id id ∷ rest) more c next folds after =
    let reached = reached_of id (entries_from [] rest) c folds in
    let grown = from_more [] rest more in
    rw (grown, reached.0, after, reached.1) refl

-- by an entry that is allowed behind those that stand
pub catalogue_grows : (payloads : List (List ℕ)) (c : Catalogue) (more : Catalogued) (next : Entries) → SaysCatalogue payloads c
    → IsCatalogued more → entries_after c.entries more ≡ Some next
    → SaysCatalogue (payloads ++ catalogued_spelling more ∷ []) (with_id c.id next)
catalogue_grows payloads c more next says in_form after = record {
  said = says.said ++ more ∷ [];
  spelled = ap (λ (front : List (List ℕ)). front ++ catalogued_spelling more ∷ []) says.spelled
      ∙ sym (map-append catalogued_spelling says.said (more ∷ []));
  in_form = All-append IsCatalogued says.said (more ∷ []) says.in_form (All-cons IsCatalogued more [] in_form (All-nil IsCatalogued));
  folds = folded_more says.said more c next says.folds after;
}
