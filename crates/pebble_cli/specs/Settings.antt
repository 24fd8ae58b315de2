-- The commands that the log of a store keeps, and what they make of it.
use Rattle.std.specs.Prelude.{◌≡◌, ℕ, ◌<◌, ◌^◌, List, [], ◌∷◌, ◌++◌, map}
use Rattle.std.specs.List.{AllByRecursion}
use Rattle.std.specs.FinMap.{insert}
use Rattle.pb_bytes.specs.Varint.{varint, field}
use Rattle.pb_names.specs.Grammar.{IsName}
use Rattle.pb_keys.specs.Map.{Map}

-- a key is set to a value; with this command the store has accepted so many
pub record Set : Type 0 where
  pub count : ℕ
  pub key : List ℕ
  pub value : List ℕ

-- its payload: the count as a varint, the byte 1, the key and the value as fields
abbrev pub payload_of : Set → List ℕ
payload_of set = varint set.count ++ 1 ∷ (field set.key ++ field set.value)

pub record IsSet (set : Set) : Type 0 where
  pub count : set.count < 2 ^ 62
  pub key : IsName set.key
  pub value : IsName set.value

-- each count is above the one before
abbrev pub Rises : List Set → Type 0
Rises [] = Unit {0}
Rises (set ∷ []) = Unit {0}
Rises (set ∷ next ∷ sets) = (set.count < next.count) × Rises (next ∷ sets)

-- the payloads of a log are these commands, in order
pub record AreSets (sets : List Set) (payloads : List (List ℕ)) : Type 0 where
  pub spelled : payloads ≡ map payload_of sets
  pub each : AllByRecursion IsSet sets
  pub rises : Rises sets

-- the map after the commands
abbrev pub map_after : Map → List Set → Map
map_after m [] = m
map_after m (set ∷ sets) = map_after (insert m set.key set.value) sets

-- the count after the commands: that of the last
abbrev pub count_after : ℕ → List Set → ℕ
count_after n [] = n
count_after n (set ∷ sets) = count_after set.count sets
