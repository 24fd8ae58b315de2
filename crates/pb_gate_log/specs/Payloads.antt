-- The list of payloads that the bytes of a gate log stand for.
use Rattle.std.specs.Prelude.{◌≡◌, ℕ, zero, suc, ◌+◌, ◌==◌, ◌&&◌, Bool, List, [], ◌∷◌, length, take, drop, slice_index, nat_le, if◌then◌else◌, Option, Some, None, IsSomeAnd}
use Rattle.pb_bytes.specs.BigEndian.{number_of}
use Rattle.pb_devices.specs.Contents.{Folder}

-- the longest payload, in bytes
abbrev pub max_payload : ℕ
max_payload = 67108864

-- the length that stands behind the first byte, in four bytes
abbrev pub len_behind : List ℕ → ℕ
len_behind bytes = number_of (take 4 (drop 1 bytes))

-- an entry behind an open gate: the first byte is 1, the length is within the limit, and length, payload and the next
-- gate byte lie whole in the bytes
abbrev pub begins_entry : List ℕ → Bool
begins_entry bytes =
    (slice_index bytes 0 == 1) && nat_le (len_behind bytes) max_payload && nat_le (len_behind bytes + 6) (length bytes)

-- the payloads of the entries from the first byte on, up to the first place where none begins; at most so many
unfoldable pub payloads_of : ℕ → List ℕ → List (List ℕ)
payloads_of zero bytes = []
payloads_of (suc more) bytes =
    if begins_entry bytes
    then take (len_behind bytes) (drop 5 bytes) ∷ payloads_of more (drop (len_behind bytes + 5) bytes)
    else []

-- of all entries, since there are no more than bytes
unfoldable pub payloads : List ℕ → List (List ℕ)
payloads bytes = payloads_of (length bytes) bytes

-- a file that is there and stands for this list
abbrev pub HasList : List (List ℕ) → Option (List ℕ) → Type 0
HasList list file = IsSomeAnd file (λ bytes. payloads bytes ≡ list)

-- the payloads of a file, none where it is absent
abbrev pub payloads_in : Option (List ℕ) → List (List ℕ)
payloads_in None = []
payloads_in (Some bytes) = payloads bytes

-- the file of this name is there, and its payloads are such
abbrev pub HasPayloads : Folder → List ℕ → (List (List ℕ) → Type 0) → Type 0
HasPayloads folder name AreSuch = IsSomeAnd (folder name) (λ bytes. AreSuch (payloads bytes))
