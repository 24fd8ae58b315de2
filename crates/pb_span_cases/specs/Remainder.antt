-- What a cut leaves of a table.
use Rattle.std.specs.Prelude.{◌≡◌, ℕ, List, [], ◌∷◌, ◌++◌, Bool, false, Option, Some, None, ◌&&◌, ◌||◌, not, Contains, if◌then◌else◌}
use Rattle.pb_keys.specs.Order.{is_below, lesser, greater}
use Rattle.pb_keys.specs.Span.{KeySpan, span_of, holds_key}
use Rattle.pb_span_cases.specs.declared.relations.Rel.{Rel}
use Rattle.pb_span_cases.specs.declared.relations.Rel.TheVariants as rels
use Rattle.pb_span_cases.specs.declared.table.Case.{Case}
use Rattle.pb_span_cases.specs.declared.table.Part.{Part}
use Rattle.pb_span_cases.specs.declared.table.Part.TheVariants.{Nothing, Whole, LoToCut, CutToHi}
use Rattle.pb_span_cases.specs.declared.table.TheConstants.{CASES}

-- a line of the table
unfoldable pub IsLine : Case → Type 0
IsLine line = Contains CASES.lines line

-- the ends of a part, where there is one
abbrev pub ends_of : Part → KeySpan → KeySpan → Option KeySpan
ends_of Nothing table cut = None
ends_of Whole table cut = Some table
ends_of LoToCut table cut = Some (span_of table.lo cut.lo)
ends_of CutToHi table cut = Some (span_of cut.hi table.hi)

-- whether the part holds the key
abbrev pub part_holds : Option KeySpan → List ℕ → Bool
part_holds None key = false
part_holds (Some part) key = holds_key part key

-- the two parts hold exactly the keys of the table that the cut doesn't
abbrev pub Remains : KeySpan → KeySpan → Option KeySpan → Option KeySpan → Type 0
Remains table cut left right =
    (key : List ℕ) → (part_holds left key || part_holds right key) ≡ (holds_key table key && not (holds_key cut key))

-- what the cut leaves: the part of the table in front of the cut, and the part behind it
abbrev pub remains : KeySpan → KeySpan → List KeySpan
remains table cut =
    (if is_below table.lo cut.lo then span_of table.lo (lesser table.hi cut.lo) ∷ [] else [])
    ++ (if is_below cut.hi table.hi then span_of (greater cut.hi table.lo) table.hi ∷ [] else [])

-- a line, by the relation and the parts in front of the cut and behind it
abbrev pub case_of : Rel → Part → Part → Case
case_of rel left right = record { rel = rel; left = left; right = right }

-- the place of a relation's line in the table
abbrev pub case_place : Rel → ℕ
case_place rels.Before = 0
case_place rels.Meets = 1
case_place rels.After = 2
case_place rels.MetBy = 3
case_place rels.Equal = 4
case_place rels.Starts = 5
case_place rels.During = 6
case_place rels.Finishes = 7
case_place rels.StartedBy = 8
case_place rels.FinishedBy = 9
case_place rels.Overlaps = 10
case_place rels.OverlappedBy = 11
case_place rels.Contains = 12
