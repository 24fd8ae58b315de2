-- Bytes that are a payload of a catalogue, read part by part.
use Rattle.std.proofs.Common.{◌≡◌, ℕ, ◌<◌, ◌^◌, List, [], ◌++◌, sym, ◌∙◌, arith, append_assoc}
use Rattle.std.proofs.lemmas.List.{append-nil}
use Rattle.pb_bytes.specs.Varint.{varint}
use Rattle.pb_bytes.proofs.ReadingLemmas.{one_varint}
use Rattle.pb_names.specs.Identity.{Identity, IsObject}
use Rattle.pb_payloads.specs.Catalogued.{Catalogued}
use Rattle.pb_payloads.specs.Catalogued.Catalogued.{Id, Entered, Dropped}
use Rattle.pb_payloads.specs.Catalogued.Standing.{Shared, External}
use Rattle.pb_payloads.specs.Contents.{IsBehind}

-- a number with nothing behind it stands at the front of it
pub at_front : (from : List ℕ) (number : ℕ) → from ≡ varint number → from ≡ varint number ++ []
at_front from number is = is ∙ sym (append-nil (varint number))

-- bytes that begin with one number, and are another with nothing behind it
pub rest_of_one : (from rest : List ℕ) (number other : ℕ) → number < 2 ^ 64 → other < 2 ^ 64 → from ≡ varint number ++ rest → from ≡ varint other → rest ≡ []
rest_of_one from rest number other fits other_fits begins is =
    (one_varint number other rest [] fits other_fits (sym begins ∙ at_front from other is)).1

-- ---- shared objects

-- what stands behind the number of the entry
pub behind_number : (from rest : List ℕ) (number : ℕ) (catalogued : Catalogued) → number < 2 ^ 62 → from ≡ varint number ++ rest → IsBehind 2 from catalogued
    → (object : Identity) × IsObject object × (rest ≡ varint object.creator ++ varint object.number)
behind_number from rest number (Entered other (Shared object)) low begins behind =
    let content = behind.content in
    let other_low = content.0 in
    let regrouped : from ≡ varint other ++ (varint object.creator ++ varint object.number) = (let spelled = behind.spelled in simp append_assoc at spelled) in
    (object, content.1, (one_varint number other rest _ (omega arith) (omega arith) (sym begins ∙ regrouped)).1)
behind_number from rest number (Entered other (External name)) low begins behind = absurd (omega (arith, behind.same_kind))
behind_number from rest number (Id id) low begins behind = absurd (omega (arith, behind.same_kind))
behind_number from rest number (Dropped other) low begins behind = absurd (omega (arith, behind.same_kind))

-- and behind the creator
pub behind_creator : (from rest : List ℕ) (creator : ℕ) (object : Identity) → creator < 2 ^ 62 → IsObject object → from ≡ varint creator ++ rest
    → from ≡ varint object.creator ++ varint object.number → (creator ≡ object.creator) × (rest ≡ varint object.number)
behind_creator from rest creator object low is begins spelled =
    let store = is.creator in
    one_varint creator object.creator rest (varint object.number) (omega arith) (omega arith) (sym begins ∙ spelled)
