-- How two spans lie to each other.
use Rattle.std.specs.Prelude.{◌≡◌, ℕ, List, IsTrue}
use Rattle.pb_keys.specs.Order.{is_below}
use Rattle.pb_keys.specs.Span.{KeySpan}
use Rattle.pb_span_cases.specs.declared.relations.Rel.{Rel}
use Rattle.pb_span_cases.specs.declared.relations.Rel.TheVariants.{Before, Meets, After, MetBy, Equal, Starts, During, Finishes, StartedBy, FinishedBy, Overlaps, OverlappedBy, Contains}

-- a is below b, as bytes
infix 4 ◌≺◌
abbrev pub ◌≺◌ : List ℕ → List ℕ → Type 0
a ≺ b = IsTrue (is_below a b)

-- one line for each relation, by the spans' ends
abbrev pub IsCase : Rel → KeySpan → KeySpan → Type 0
IsCase Before a b = a.hi ≺ b.lo
IsCase Meets a b = a.hi ≡ b.lo
IsCase After a b = b.hi ≺ a.lo
IsCase MetBy a b = b.hi ≡ a.lo
IsCase Equal a b = (a.lo ≡ b.lo) × (a.hi ≡ b.hi)
IsCase Starts a b = (a.lo ≡ b.lo) × (a.hi ≺ b.hi)
IsCase During a b = (b.lo ≺ a.lo) × (a.hi ≺ b.hi)
IsCase Finishes a b = (b.lo ≺ a.lo) × (a.hi ≡ b.hi)
IsCase StartedBy a b = (a.lo ≡ b.lo) × (b.hi ≺ a.hi)
IsCase FinishedBy a b = (a.lo ≺ b.lo) × (a.hi ≡ b.hi)
IsCase Overlaps a b = (a.lo ≺ b.lo) × (b.lo ≺ a.hi) × (a.hi ≺ b.hi)
IsCase OverlappedBy a b = (b.lo ≺ a.lo) × (a.lo ≺ b.hi) × (b.hi ≺ a.hi)
IsCase Contains a b = (a.lo ≺ b.lo) × (b.hi ≺ a.hi)
