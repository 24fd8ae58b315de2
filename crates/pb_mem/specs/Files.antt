-- A file in memory: its bytes as reads give them, and what its writes since the last sync have replaced.
use Rattle.std.specs.Prelude.{◌≡◌, ℕ, zero, suc, ◌+◌, ◌-◌, ◌*◌, ◌%◌, ◌<◌, ◌≤◌, ◌⊎◌, ◌==◌, ◌++◌, min, if◌then◌else◌, List, [], ◌∷◌, length, take, drop, slice_index, refl}
use Rattle.std.specs.Coded.{Coded, code_by, coded×, coded_list, coded_ℕ}
use Rattle.pb_devices.specs.DiskCalls.{over}

-- bytes that stood from a place on before a write
pub record Saved : Type 0 where
  pub at : ℕ
  pub bytes : List ℕ

pub record FileView : Type 0 where
  -- what reads give
  pub seen : List ℕ
  -- how many bytes are durable
  pub durable_len : ℕ
  -- the durable bytes that writes since have replaced, the oldest write first
  pub saved : List Saved

abbrev pub saved_code : Coded Saved
saved_code = code_by (ℕ × List ℕ) (coded× coded_ℕ (coded_list coded_ℕ)) (λ s. (s.at, s.bytes)) (λ p. record { at = p.0; bytes = p.1 }) (λ _. refl)

abbrev pub file_code : Coded FileView
file_code = code_by (List ℕ × (ℕ × List Saved)) (coded× (coded_list coded_ℕ) (coded× coded_ℕ (coded_list saved_code)))
    (λ f. (f.seen, (f.durable_len, f.saved))) (λ p. record { seen = p.0; durable_len = p.1.0; saved = p.1.1 }) (λ _. refl)

abbrev pub empty_file : FileView
empty_file = record { seen = []; durable_len = 0; saved = [] }

-- the bytes with what was saved in its place, as far as they reach
abbrev pub put_back : Saved → List ℕ → List ℕ
put_back saved bytes = take saved.at bytes ++ take (length bytes - saved.at) saved.bytes ++ drop (saved.at + length saved.bytes) bytes

-- the bytes before all the writes, the newest undone first
abbrev pub before_writes : List Saved → List ℕ → List ℕ
before_writes [] bytes = bytes
before_writes (saved ∷ newer) bytes = put_back saved (before_writes newer bytes)

abbrev pub durable_bytes : FileView → List ℕ
durable_bytes file = before_writes file.saved (take file.durable_len file.seen)

-- a write since the last sync has replaced the durable byte at this place
abbrev pub Covers : List Saved → ℕ → Type 0
Covers [] place = ⊥
Covers (saved ∷ newer) place = (saved.at ≤ place) × (place < saved.at + length saved.bytes) ⊎ Covers newer place

-- the place was written since the last sync
abbrev pub IsPending : FileView → ℕ → Type 0
IsPending file place = (file.durable_len ≤ place) × (place < length file.seen) ⊎ Covers file.saved place

abbrev pub synced : FileView → FileView
synced file = record { seen = file.seen; durable_len = length file.seen; saved = [] }

-- the byte that a pick of 2 or more puts at a place
abbrev pub pattern_byte : ℕ → ℕ → ℕ
pattern_byte pick place = (31 * pick + 17 * place) % 256

-- how many bytes a pick of 2 or more leaves
abbrev pub pattern_len : ℕ → FileView → ℕ
pattern_len pick file = length (durable_bytes file) + pick % (length file.seen - length (durable_bytes file) + 1)

-- the image that a pick of 2 or more leaves
pub record IsPatterned (pick : ℕ) (file : FileView) (image : List ℕ) : Type 0 where
  pub len : length image ≡ pattern_len pick file
  pub pending : (place : ℕ) → place < length image → IsPending file place → slice_index image place ≡ pattern_byte pick place
  pub kept : (place : ℕ) → place < length image → (IsPending file place → ⊥) → slice_index image place ≡ slice_index file.seen place

-- the image that a pick leaves of a file
pub record IsPicked (pick : ℕ) (file : FileView) (image : List ℕ) : Type 0 where
  pub durable : pick ≡ 0 → image ≡ durable_bytes file
  pub seen : pick ≡ 1 → image ≡ file.seen
  pub patterned : 2 ≤ pick → IsPatterned pick file image

-- the durable bytes that a write of n bytes from a place on replaces
abbrev pub replaced : FileView → ℕ → ℕ → Saved
replaced file at n = record { at = at; bytes = take (min n (file.durable_len - at)) (drop at file.seen) }

abbrev pub with_saved : List Saved → Saved → List Saved
with_saved saved one = if length one.bytes == 0 then saved else saved ++ one ∷ []

-- the file once the bytes of a range may be any, and stay
abbrev pub touched : FileView → ℕ → ℕ → FileView
touched file at n = record file { saved = with_saved file.saved (replaced file at n) }

-- the file after a write
abbrev pub written : FileView → ℕ → List ℕ → FileView
written file at bytes = record (touched file at (length bytes)) { seen = over file.seen at bytes }

-- the bytes of a pick of 2 or more, from a place on
abbrev pub pattern : ℕ → ℕ → ℕ → List ℕ
pattern pick at zero = []
pattern pick at (suc n) = pattern_byte pick at ∷ pattern pick (at + 1) n

-- what reads give after a write that failed: what they gave before, the whole write, or the bytes of the pick in its range
abbrev pub scribble : ℕ → List ℕ → ℕ → List ℕ → List ℕ
scribble pick before at bytes =
    if pick == 0 then before else
    if pick == 1 then over before at bytes else over before at (pattern pick at (length bytes))

-- the file after a write that failed
abbrev pub scribbled : ℕ → FileView → ℕ → List ℕ → FileView
scribbled pick file at bytes =
    if pick == 0 then touched file at (length bytes) else
    if pick == 1 then written file at bytes else written file at (pattern pick at (length bytes))

-- the bytes of a pick stand where a write has replaced durable ones, and the others stay
pub record IsFilled (pick : ℕ) (saved : List Saved) (old new : List ℕ) : Type 0 where
  pub covered : (place : ℕ) → place < length old → Covers saved place → slice_index new place ≡ pattern_byte pick place
  pub others : (place : ℕ) → (Covers saved place → ⊥) → slice_index new place ≡ slice_index old place

-- the bytes of a pick stand at the pending places, and the others stay
pub record IsPatternedOver (pick : ℕ) (file : FileView) (new : List ℕ) : Type 0 where
  pub pending : (place : ℕ) → place < length file.seen → IsPending file place → slice_index new place ≡ pattern_byte pick place
  pub kept : (place : ℕ) → (IsPending file place → ⊥) → slice_index new place ≡ slice_index file.seen place
