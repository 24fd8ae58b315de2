-- What stands under a name, in the order in which the names came.
use Rattle.std.specs.Prelude.{ℕ, if◌then◌else◌, not, List, [], ◌∷◌, filter, Option, Some, None}
use Rattle.std.specs.Str.{bytes_eq}

abbrev pub Named : Type 0 → Type 0
Named X = List (List ℕ × X)

abbrev pub named : {X : Type 0} → Named X → List ℕ → Option X
named [] name = None
named (first ∷ others) name = if bytes_eq name first.0 then Some first.1 else named others name

-- in the place of what stood under the name, else behind all others
abbrev pub put : {X : Type 0} → Named X → List ℕ → X → Named X
put [] name x = (name, x) ∷ []
put (first ∷ others) name x = if bytes_eq name first.0 then (name, x) ∷ others else first ∷ put others name x

-- what stands under other names
abbrev pub without : {X : Type 0} → Named X → List ℕ → Named X
without pairs name = filter (λ pair. not (bytes_eq name pair.0)) pairs
