-- What an open store holds in memory.
use Rattle.std.specs.Prelude.{ℕ, ◌+◌, List, Option, Some, None, refl}
use Rattle.std.specs.Coded.{Coded, code_by, coded×, coded_list, coded_ℕ}
use Rattle.std.specs.FinMap.{code, insert}
use Rattle.pb_keys.specs.Map.{Map}
use Rattle.pb_gate_log.specs.EachLog.{LogPlace}

-- a map with one pair set beside it
abbrev pub with_last : Option (List ℕ × List ℕ) → Map → Map
with_last None map = map
with_last (Some pair) map = insert map pair.0 pair.1

pub record Held : Type 0 where
  -- its log
  pub log : LogPlace
  -- how many commands were accepted
  pub count : ℕ
  pub map : Map

-- one command more, which sets a pair
abbrev pub with_pair : Held → List ℕ → List ℕ → Held
with_pair held key value = record held { count = held.count + 1; map = insert held.map key value }

-- it is stored as the tuple of its fields
abbrev pub held_code : Coded Held
held_code =
    code_by ((List ℕ × (ℕ × ℕ)) × (ℕ × Map))
    (coded× (coded× (coded_list coded_ℕ) (coded× coded_ℕ coded_ℕ)) (coded× coded_ℕ (code (coded_list coded_ℕ) (coded_list coded_ℕ))))
    (λ h. ((h.log.file, (h.log.gate, h.log.len)), (h.count, h.map)))
    (λ p. record { log = record { file = p.0.0; gate = p.0.1.0; len = p.0.1.1 }; count = p.1.0; map = p.1.1 }) (λ _. refl)
