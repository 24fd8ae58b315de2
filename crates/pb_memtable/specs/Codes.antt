-- Codes, by which proofs tell the values of memtables apart: of a record the tuple of its fields, of cases a sum. They are
-- written out since a map has none that is found by itself.
use Rattle.std.specs.Prelude.{◌≡◌, ◌⊎◌, ℕ, List, Option, Some, None, refl}
use Rattle.std.specs.Coded.{Coded, code_by, coded×, coded⊎, coded_list, coded_option, coded_ℕ}
use Rattle.std.specs.FinMap.{code}
use mathlib.Core.Logic.{inl, inr}
use Rattle.pb_keys.specs.Map.{Map}
use Rattle.pb_keys.specs.Span.{KeySpan, span_of}
use Rattle.pb_keys.specs.View.{KeyView}
use Rattle.pb_memtable.specs.View.{Commands, RoomFor, commands_of}
use Rattle.pb_memtable.specs.View.RoomFor.{Nothing, ForRow, ForSpan}
use Rattle.pb_rows.specs.Changing.{Changing}
use Rattle.pb_rows.specs.Changing.Changing.{Set, Del, DelRange, Excise, Ingest, IngestExcise, External, Receive}
use Rattle.pb_rows.specs.ChangingLayers.{row_of}
use Rattle.pb_rows.specs.Layer.{KeyRow, KeyLayer, layer_of}

abbrev bytes_code : Coded (List ℕ)
bytes_code = coded_list coded_ℕ

abbrev span_code : Coded KeySpan
span_code = code_by (List ℕ × List ℕ) (coded× bytes_code bytes_code) (λ s. (s.lo, s.hi)) (λ p. span_of p.0 p.1) (λ _. refl)

abbrev view_code : Coded KeyView
view_code =
    code_by (KeySpan × (List ℕ × List ℕ)) (coded× span_code (coded× bytes_code bytes_code)) (λ v. (v.bounds, (v.prefix, v.suffix)))
    (λ p. record { bounds = p.0; prefix = p.1.0; suffix = p.1.1 }) (λ _. refl)

abbrev row_code : Coded KeyRow
row_code = code_by (List ℕ × Option (List ℕ)) (coded× bytes_code (coded_option bytes_code)) (λ r. (r.key, r.value))
    (λ p. row_of p.0 p.1) (λ _. refl)

abbrev layer_code : Coded KeyLayer
layer_code =
    code_by (List KeySpan × List KeyRow) (coded× (coded_list span_code) (coded_list row_code)) (λ l. (l.dels, l.rows))
    (λ p. layer_of p.0 p.1) (λ _. refl)

-- rows, spans, layers of an ingest, and what is received or external
abbrev Parts : Type 0
Parts =
    ((List ℕ × List ℕ) ⊎ List ℕ)
    ⊎ ((KeySpan ⊎ KeySpan) ⊎ ((List KeyLayer ⊎ (KeySpan × List KeyLayer)) ⊎ ((KeyView × KeyLayer) ⊎ (KeySpan × Map))))

abbrev parts_code : Coded Parts
parts_code =
    coded⊎ (coded⊎ (coded× bytes_code bytes_code) bytes_code) (coded⊎ (coded⊎ span_code span_code)
    (coded⊎ (coded⊎ (coded_list layer_code) (coded× span_code (coded_list layer_code)))
    (coded⊎ (coded× view_code layer_code) (coded× span_code (code bytes_code bytes_code)))))

abbrev parts_of : Changing → Parts
parts_of (Set key value) = inl (inl (key, value))
parts_of (Del key) = inl (inr key)
parts_of (DelRange span) = inr (inl (inl span))
parts_of (Excise span) = inr (inl (inr span))
parts_of (Ingest layers) = inr (inr (inl (inl layers)))
parts_of (IngestExcise span layers) = inr (inr (inl (inr (span, layers))))
parts_of (External view layer) = inr (inr (inr (inl (view, layer))))
parts_of (Receive span sub) = inr (inr (inr (inr (span, sub))))

abbrev changing_from : Parts → Changing
changing_from (inl (inl pair)) = Set pair.0 pair.1
changing_from (inl (inr key)) = Del key
changing_from (inr (inl (inl span))) = DelRange span
changing_from (inr (inl (inr span))) = Excise span
changing_from (inr (inr (inl (inl layers)))) = Ingest layers
changing_from (inr (inr (inl (inr pair)))) = IngestExcise pair.0 pair.1
changing_from (inr (inr (inr (inl pair)))) = External pair.0 pair.1
changing_from (inr (inr (inr (inr pair)))) = Receive pair.0 pair.1

pub same_changing : (change : Changing) → changing_from (parts_of change) ≡ change
same_changing (Set key value) = refl
same_changing (Del key) = refl
same_changing (DelRange span) = refl
same_changing (Excise span) = refl
same_changing (Ingest layers) = refl
same_changing (IngestExcise span layers) = refl
same_changing (External view layer) = refl
same_changing (Receive span sub) = refl

abbrev changing_code : Coded Changing
changing_code = code_by Parts parts_code parts_of changing_from same_changing

abbrev cases_of : RoomFor → Option (Option KeySpan)
cases_of Nothing = None
cases_of ForRow = Some None
cases_of (ForSpan span) = Some (Some span)

abbrev room_from : Option (Option KeySpan) → RoomFor
room_from None = Nothing
room_from (Some None) = ForRow
room_from (Some (Some span)) = ForSpan span

pub same_room : (room : RoomFor) → room_from (cases_of room) ≡ room
same_room Nothing = refl
same_room ForRow = refl
same_room (ForSpan span) = refl

abbrev room_code : Coded RoomFor
room_code = code_by (Option (Option KeySpan)) (coded_option (coded_option span_code)) cases_of room_from same_room

abbrev pub commands_code : Coded Commands
commands_code = code_by (List Changing × RoomFor) (coded× (coded_list changing_code) room_code) (λ c. (c.changes, c.room))
    (λ p. commands_of p.0 p.1) (λ _. refl)
