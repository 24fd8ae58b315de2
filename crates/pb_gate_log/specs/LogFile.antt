-- How a gate log is spelled.
use Rattle.std.specs.Prelude.{◌≡◌, ◌≢◌, ℕ, ◌≤◌, ◌<◌, List, [], ◌∷◌, ◌++◌, length, take, slice_index, All}
use Rattle.pb_bytes.specs.BigEndian.{be32}
use Rattle.pb_gate_log.specs.Payloads.{max_payload}

-- an entry: its open gate, the length in four bytes, and the payload
abbrev pub entry : List ℕ → List ℕ
entry payload = (1 ∷ be32 (length payload)) ++ payload

-- the entries of these payloads, without the gate behind the last
unfoldable pub written : List (List ℕ) → List ℕ
written [] = []
written (payload ∷ rest) = entry payload ++ written rest

-- the entries of the list, and behind them a gate that isn't open: the last gate. Anything may stand behind it
pub record IsLogFile (gate : ℕ) (list : List (List ℕ)) (bytes : List ℕ) : Type 0 where
  pub entries : take gate bytes ≡ written list
  pub place : length (written list) ≡ gate
  pub short : All (λ payload. length payload ≤ max_payload) list
  pub within : gate < length bytes
  pub closed : slice_index bytes gate ≢ 1
