-- What the payloads of a catalogue say: the store's id, and the entries that stand.
use Rattle.std.specs.Prelude.{◌≡◌, ℕ, ◌==◌, not, Bool, List, [], ◌∷◌, ◌++◌, All, map, Option, Some, None, option_map, option_and_then, if◌then◌else◌}
use Rattle.std.specs.List.{list_any, filter}
use Rattle.pb_payloads.specs.Catalogued.{Catalogued, Standing, IsCatalogued, catalogued_spelling}
use Rattle.pb_payloads.specs.Catalogued.Catalogued.{Id, Entered, Dropped}

-- numbers and the objects behind them, in the order in which they were entered
abbrev pub Entries : Type 0
Entries = List (ℕ × Standing)

abbrev pub is_of : ℕ → ℕ × Standing → Bool
is_of number entry = entry.0 == number

abbrev pub stands : ℕ → Entries → Bool
stands number entries = list_any (is_of number) entries

abbrev pub dropped : ℕ → Entries → Entries
dropped number entries = filter (λ entry. not (is_of number entry)) entries

-- what stands after a payload behind the first: a number is entered where it doesn't stand, and dropped where it does
abbrev pub entries_after : Entries → Catalogued → Option Entries
entries_after entries (Id id) = None
entries_after entries (Entered number standing) = if stands number entries then None else Some (entries ++ (number, standing) ∷ [])
entries_after entries (Dropped number) = if stands number entries then Some (dropped number entries) else None

abbrev pub entries_from : Entries → List Catalogued → Option Entries
entries_from entries [] = Some entries
entries_from entries (catalogued ∷ rest) = option_and_then (λ next. entries_from next rest) (entries_after entries catalogued)

pub record Catalogue : Type 0 where
  pub id : ℕ
  pub entries : Entries

abbrev pub with_id : ℕ → Entries → Catalogue
with_id id entries = record { id = id; entries = entries }

-- the id comes first and nowhere else; None where that or an entry behind it isn't allowed
abbrev pub folded : List Catalogued → Option Catalogue
folded [] = None
folded (Id id ∷ rest) = option_map (with_id id) (entries_from [] rest)
folded (Entered number standing ∷ rest) = None
folded (Dropped number ∷ rest) = None

pub record SaysCatalogue (payloads : List (List ℕ)) (catalogue : Catalogue) : Type 0 where
  pub said : List Catalogued
  pub spelled : payloads ≡ map catalogued_spelling said
  pub in_form : All IsCatalogued said
  pub folds : folded said ≡ Some catalogue
