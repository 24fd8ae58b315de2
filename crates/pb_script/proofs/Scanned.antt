-- The texts of a script, byte by byte.
use Rattle.std.proofs.Common.{◌≡◌, ℕ, zero, suc, ◌-◌, ◌<◌, ◌==◌, Bool, true, false, ◌&&◌, nat_lt, List, [], ◌∷◌, ◌++◌, length, get_or, take, All, refl, sym, ap, ap₂, ◌∙◌, subst, append_assoc, append-nil, length-append, arith, inl, inr, ◌⊎◌, take_all, if◌then◌else◌}
use Rattle.std.specs.Io.BufRead.{strip_last, ends_with_byte}
use Rattle.std.proofs.Math.Seq.{take-suc}
use Rattle.std.proofs.lemmas.Bool.{cases_Bool, cond-true, cond-false}
use Rattle.std.proofs.lemmas.Bool.Decides.{nat_tests}
use Rattle.std.proofs.lemmas.List.{get_or-append-add}
use Rattle.std.proofs.lemmas.List.Splits.{slice_split_at, slice_split_none}
use Rattle.pb_script.specs.Texts.{texts_of, lines_of_parts, HasNoFeed}
use Rattle.pb_script.proofs.Parts.{texts_cut}

-- the texts behind these bytes of the first
abbrev pub scanned : List ℕ → List ℕ → List (List ℕ)
scanned front [] = if length front == 0 then [] else front ∷ []
scanned front (byte ∷ rest) = if byte == 10 then strip_last 13 front ∷ scanned [] rest else scanned (front ++ byte ∷ []) rest

no_feed : (text : List ℕ) → HasNoFeed text → All (λ byte. (byte == 10) ≡ false) text
no_feed [] each k d h = absurd (omega (arith, h))
no_feed (byte ∷ text) each zero d h = each.0
no_feed (byte ∷ text) each (suc k) d h = no_feed text each.1 k d (omega (arith, h))

one_byte_more : (text : List ℕ) (byte : ℕ) → HasNoFeed text → (byte == 10) ≡ false → HasNoFeed (text ++ byte ∷ [])
one_byte_more [] byte each other = (other, tt)
one_byte_more (first ∷ text) byte each other = (each.0, one_byte_more text byte each.1 other)

feed_is : (byte : ℕ) → (byte == 10) ≡ true → byte ≡ 10
feed_is byte is = grind (arith, nat_tests)

pub line_first : (text rest : List ℕ) → HasNoFeed text → texts_of (text ++ 10 ∷ rest) ≡ strip_last 13 text ∷ texts_of rest
line_first text rest each = texts_cut (text ++ 10 ∷ rest) text rest
    (slice_split_at (λ byte. byte == 10) text 10 rest (no_feed text each) refl)

scanned_from : (rest front : List ℕ) → HasNoFeed front → texts_of (front ++ rest) ≡ scanned front rest
scanned_from [] front each = ap texts_of (append-nil front)
    ∙ ap lines_of_parts (slice_split_none (λ byte. byte == 10) front (no_feed front each))
scanned_from (byte ∷ rest) front each =
    elim (cases_Bool (byte == 10)) [
      | inl feed ↦
          ap (λ (b : ℕ). texts_of (front ++ b ∷ rest)) (feed_is byte feed) ∙ line_first front rest each
          ∙ ap (λ (texts : List (List ℕ)). strip_last 13 front ∷ texts) (scanned_from rest [] tt) ∙ sym (cond-true (byte == 10) _ _ feed)
      | inr other ↦
          ap texts_of (sym (append_assoc front (byte ∷ []) rest))
          ∙ scanned_from rest (front ++ byte ∷ []) (one_byte_more front byte each other)
          ∙ sym (cond-false (byte == 10) _ _ other)
    ]

pub texts_are : (script : List ℕ) → texts_of script ≡ scanned [] script
texts_are script = scanned_from script [] tt

-- ---- the last byte

some_length : (first : ℕ) (bytes : List ℕ) → nat_lt 0 (length (first ∷ bytes)) ≡ true
some_length first bytes = grind (arith, nat_tests)

ends_as_index : (last byte : ℕ) (bytes : List ℕ) → 0 < length bytes
    → ends_with_byte byte bytes ≡ (get_or bytes (length bytes - 1) 0 == byte)
ends_as_index last byte [] some = absurd (omega (arith, some))
ends_as_index last byte (first ∷ bytes) some = ap (λ (b : Bool). b && (get_or (first ∷ bytes) (length (first ∷ bytes) - 1) 0 == byte))
    (some_length first bytes)

-- a text ends as what stands last in it
pub ends_behind : (byte : ℕ) (front : List ℕ) (first : ℕ) (bytes : List ℕ)
    → ends_with_byte byte (front ++ first ∷ bytes) ≡ ends_with_byte byte (first ∷ bytes)
ends_behind byte front first bytes =
    ends_as_index 0 byte (front ++ first ∷ bytes) (omega (arith, length-append front (first ∷ bytes)))
    ∙ ap (λ (n : ℕ). get_or (front ++ first ∷ bytes) n 0 == byte) (omega (arith, length-append front (first ∷ bytes)))
    ∙ ap (λ (b : ℕ). b == byte) (get_or-append-add front (first ∷ bytes) (length (first ∷ bytes) - 1) 0)
    ∙ sym (ends_as_index 0 byte (first ∷ bytes) (omega arith))

-- behind a line end the same bytes stand last
behind_feed : (byte : ℕ) (front rest : List ℕ) → ends_with_byte byte (front ++ 10 ∷ rest) ≡ false → ends_with_byte byte rest ≡ false
behind_feed byte front [] ends = refl
behind_feed byte front (first ∷ rest) ends = sym (ends_behind byte (10 ∷ []) first rest) ∙ sym (ends_behind byte front 10 (first ∷ rest))
    ∙ ends

take_front : (text more : List ℕ) → take (length text) (text ++ more) ≡ text
take_front [] more = refl
take_front (byte ∷ text) more = ap (λ (t : List ℕ). byte ∷ t) (take_front text more)

stripped : (text : List ℕ) → strip_last 13 (text ++ 13 ∷ []) ≡ text
stripped text =
    cond-true (ends_with_byte 13 (text ++ 13 ∷ [])) _ _ (ends_behind 13 text 13 [])
    ∙ ap (λ (n : ℕ). take n (text ++ 13 ∷ [])) (omega (arith, length-append text (13 ∷ []))) ∙ take_front text (13 ∷ [])

same_byte : (one two : ℕ) → (one == two) ≡ true → one ≡ two
same_byte one two is = grind (arith, nat_tests)

not_last : (text rest : List ℕ) → ends_with_byte 10 (text ++ 10 ∷ rest) ≡ false → 0 < length rest
not_last text [] ends = absurd (let e : ◌≡◌ {A = Bool} true false = sym (ends_behind 10 text 10 []) ∙ ends in cc)
not_last text (byte ∷ rest) ends = omega arith

-- ---- a CR before a line end

returns_alike : (front text back : List ℕ) → ends_with_byte 13 (text ++ front) ≡ false
    → scanned text (front ++ 13 ∷ 10 ∷ back) ≡ scanned text (front ++ 10 ∷ back)
returns_alike [] text back other =
    ap (λ (t : List ℕ). t ∷ scanned [] back)
    (stripped text ∙ sym (cond-false (ends_with_byte 13 text) (take (length text - 1) text) text
    (sym (ap (ends_with_byte 13) (append-nil text)) ∙ other)))
returns_alike (byte ∷ front) text back other =
    elim (cases_Bool (byte == 10)) [
      | inl feed ↦
          cond-true (byte == 10) _ _ feed
          ∙ ap (λ (texts : List (List ℕ)). strip_last 13 text ∷ texts)
          (returns_alike front [] back (behind_feed 13 text front
          (ap (λ (b : ℕ). ends_with_byte 13 (text ++ b ∷ front)) (sym (feed_is byte feed)) ∙ other)))
          ∙ sym (cond-true (byte == 10) _ _ feed)
      | inr kept ↦
          cond-false (byte == 10) _ _ kept
          ∙ returns_alike front (text ++ byte ∷ []) back (ap (ends_with_byte 13) (append_assoc text (byte ∷ []) front) ∙ other)
          ∙ sym (cond-false (byte == 10) _ _ kept)
    ]

pub line_ends : (front back : List ℕ) → ends_with_byte 13 front ≡ false → texts_of (front ++ 13 ∷ 10 ∷ back) ≡ texts_of (front ++ 10 ∷ back)
line_ends front back other = texts_are (front ++ 13 ∷ 10 ∷ back) ∙ returns_alike front [] back other ∙ sym (texts_are (front ++ 10 ∷ back))

-- ---- the last line end

some_text : (text : List ℕ) → 0 < length text → (length text == 0) ≡ false
some_text text some = grind (arith, nat_tests)

last_alike : (rest text : List ℕ) → 0 < length (text ++ rest) → ends_with_byte 10 (text ++ rest) ≡ false
    → ends_with_byte 13 (text ++ rest) ≡ false → scanned text (rest ++ 10 ∷ []) ≡ scanned text rest
last_alike [] text some feed back =
    ap (λ (t : List ℕ). t ∷ []) (cond-false (ends_with_byte 13 text) (take (length text - 1) text) text
    (sym (ap (ends_with_byte 13) (append-nil text)) ∙ back))
    ∙ sym (cond-false (length text == 0) [] (text ∷ []) (some_text text (subst (λ (t : List ℕ). 0 < length t) (append-nil text) some)))
last_alike (byte ∷ rest) text some feed back =
    elim (cases_Bool (byte == 10)) [
      | inl is ↦
          let here = ap (λ (b : ℕ). ends_with_byte 10 (text ++ b ∷ rest)) (sym (feed_is byte is)) ∙ feed in
          let there = ap (λ (b : ℕ). ends_with_byte 13 (text ++ b ∷ rest)) (sym (feed_is byte is)) ∙ back in
          cond-true (byte == 10) _ _ is
          ∙ ap (λ (texts : List (List ℕ)). strip_last 13 text ∷ texts)
          (last_alike rest [] (not_last text rest here) (behind_feed 10 text rest here) (behind_feed 13 text rest there))
          ∙ sym (cond-true (byte == 10) _ _ is)
      | inr kept ↦
          let grouped = append_assoc text (byte ∷ []) rest in
          cond-false (byte == 10) _ _ kept
          ∙ last_alike rest (text ++ byte ∷ []) (subst (λ (t : List ℕ). 0 < length t) (sym grouped) some) (ap (ends_with_byte 10) grouped
          ∙ feed) (ap (ends_with_byte 13) grouped ∙ back)
          ∙ sym (cond-false (byte == 10) _ _ kept)
    ]

pub last_end : (first : ℕ) (script : List ℕ) → ends_with_byte 10 (first ∷ script) ≡ false → ends_with_byte 13 (first ∷ script) ≡ false
    → texts_of (first ∷ script ++ 10 ∷ []) ≡ texts_of (first ∷ script)
last_end first script feed back = texts_are (first ∷ script ++ 10 ∷ []) ∙ last_alike (first ∷ script) [] (omega arith) feed back
    ∙ sym (texts_are (first ∷ script))

-- ---- whole lines

lines_from : (front text rest : List ℕ) → scanned text ((front ++ 10 ∷ []) ++ rest) ≡ scanned text (front ++ 10 ∷ []) ++ scanned [] rest
lines_from [] text rest = refl
lines_from (byte ∷ front) text rest =
    elim (cases_Bool (byte == 10)) [
      | inl feed ↦
          cond-true (byte == 10) _ _ feed ∙ ap (λ (texts : List (List ℕ)). strip_last 13 text ∷ texts) (lines_from front [] rest)
          ∙ ap (λ (texts : List (List ℕ)). texts ++ scanned [] rest) (sym (cond-true (byte == 10) _ _ feed))
      | inr kept ↦
          cond-false (byte == 10) _ _ kept ∙ lines_from front (text ++ byte ∷ []) rest
          ∙ ap (λ (texts : List (List ℕ)). texts ++ scanned [] rest) (sym (cond-false (byte == 10) _ _ kept))
    ]

last_is : (byte : ℕ) (bytes : List ℕ) → ends_with_byte byte bytes ≡ true → bytes ≡ take (length bytes - 1) bytes ++ byte ∷ []
last_is byte [] ends = absurd cc
last_is byte (first ∷ bytes) ends =
    let is : get_or (first ∷ bytes) (length (first ∷ bytes) - 1) 0 ≡ byte = same_byte _ byte
    (sym (ends_as_index 0 byte (first ∷ bytes) (omega arith)) ∙ ends) in
    sym (take_all (length (first ∷ bytes)) (first ∷ bytes) (omega arith))
    ∙ ap (λ (n : ℕ). take n (first ∷ bytes)) (let e : length (first ∷ bytes) ≡ suc (length (first ∷ bytes) - 1) = omega arith in e)
    ∙ take-suc (first ∷ bytes) (length (first ∷ bytes) - 1) 0 (omega arith)
    ∙ ap (λ (b : ℕ). take (length (first ∷ bytes) - 1) (first ∷ bytes) ++ b ∷ []) is

pub lines_before : (front rest : List ℕ) → (front ≡ []) ⊎ (ends_with_byte 10 front ≡ true)
    → texts_of (front ++ rest) ≡ texts_of front ++ texts_of rest
lines_before front rest whole =
    elim whole [
      | inl none ↦ rw none refl
      | inr ends ↦
          let init = take (length front - 1) front in
          let is = last_is 10 front ends in
          ap (λ (f : List ℕ). texts_of (f ++ rest)) is ∙ texts_are ((init ++ 10 ∷ []) ++ rest) ∙ lines_from init [] rest
          ∙ ap₂ (λ (one two : List (List ℕ)). one ++ two) (sym (texts_are (init ++ 10 ∷ []))) (sym (texts_are rest))
          ∙ ap (λ (f : List ℕ). texts_of f ++ texts_of rest) (sym is)
    ]
