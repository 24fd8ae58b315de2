-- The definitions, computed on worked examples.
use Rattle.std.proofs.Common.{◌≡◌, [], ◌∷◌, refl, Some, None}
use Rattle.pb_bytes.specs.Varint.{groups, varint, field}
use Rattle.pb_keys.specs.Span.{span_of}
use Rattle.pb_payloads.specs.Logged.{logged_spelling}
use Rattle.pb_payloads.specs.Logged.Logged.{Set, Del, DelRange, Ingest}
use Rattle.pb_payloads.specs.Catalogued.{catalogued_spelling}
use Rattle.pb_payloads.specs.Catalogued.Standing.{Shared, External}
use Rattle.pb_payloads.specs.Catalogued.Catalogued.{Id, Entered, Dropped}
use Rattle.pb_payloads.specs.Catalogue.{folded, with_id}
use Rattle.pb_payloads.specs.Current.{pointer_spelling}

-- the first command sets a to 1
pub first_set : logged_spelling 1 (Set (97 ∷ []) (49 ∷ [])) ≡ 1 ∷ 1 ∷ 1 ∷ 97 ∷ 1 ∷ 49 ∷ []
unfolding field varint groups
first_set = refl

pub del_a : logged_spelling 2 (Del (97 ∷ [])) ≡ 2 ∷ 2 ∷ 1 ∷ 97 ∷ []
unfolding field varint groups
del_a = refl

-- the count 300 takes two bytes
pub delrange_a_c : logged_spelling 300 (DelRange (span_of (97 ∷ []) (99 ∷ []))) ≡ 0xac ∷ 2 ∷ 3 ∷ 1 ∷ 97 ∷ 1 ∷ 99 ∷ []
unfolding field varint groups
delrange_a_c = refl

pub ingest_of_two : logged_spelling 3 (Ingest None (record { number = 4; size = 8 } ∷ record { number = 300; size = 9 } ∷ [])) ≡ 3 ∷ 4 ∷ 0 ∷ 2 ∷ 4 ∷ 8 ∷ 0xac ∷ 2 ∷ 9 ∷ []
unfolding field varint groups
ingest_of_two = refl

pub ingest_removes_a_c : logged_spelling 3 (Ingest (Some (span_of (97 ∷ []) (99 ∷ []))) (record { number = 4; size = 8 } ∷ [])) ≡ 3 ∷ 4 ∷ 1 ∷ 1 ∷ 97 ∷ 1 ∷ 99 ∷ 1 ∷ 4 ∷ 8 ∷ []
unfolding field varint groups
ingest_removes_a_c = refl

-- the first entry of store A
pub id_of_a : catalogued_spelling (Id 1) ≡ 1 ∷ 1 ∷ []
unfolding varint groups
id_of_a = refl

pub shared_4 : catalogued_spelling (Entered 4 (Shared (record { creator = 2; number = 300 }))) ≡ 2 ∷ 4 ∷ 2 ∷ 0xac ∷ 2 ∷ []
unfolding varint groups
shared_4 = refl

pub external_5 : catalogued_spelling (Entered 5 (External (97 ∷ 98 ∷ []))) ≡ 3 ∷ 5 ∷ 2 ∷ 97 ∷ 98 ∷ []
unfolding field varint groups
external_5 = refl

pub dropped_4 : catalogued_spelling (Dropped 4) ≡ 4 ∷ 4 ∷ []
unfolding varint groups
dropped_4 = refl

pub id_alone : folded (Id 1 ∷ []) ≡ Some (with_id 1 [])
id_alone = refl

-- entered, dropped and entered again, behind one that stays
pub order_of_entries : folded (Id 1 ∷ Entered 4 (External (97 ∷ [])) ∷ Entered 5 (External (98 ∷ [])) ∷ Dropped 4 ∷ Entered 4 (External (99 ∷ [])) ∷ [])
    ≡ Some (with_id 1 ((5, External (98 ∷ [])) ∷ (4, External (99 ∷ [])) ∷ []))
order_of_entries = refl

pub number_that_stands : folded (Id 1 ∷ Entered 4 (External (97 ∷ [])) ∷ Entered 4 (External (98 ∷ [])) ∷ []) ≡ None
number_that_stands = refl

pub number_that_does_not_stand : folded (Id 1 ∷ Dropped 4 ∷ []) ≡ None
number_that_does_not_stand = refl

pub second_id : folded (Id 1 ∷ Id 1 ∷ []) ≡ None
second_id = refl

pub no_id : folded (Entered 4 (External (97 ∷ [])) ∷ []) ≡ None
no_id = refl

pub nothing : folded [] ≡ None
nothing = refl

-- of a new store
pub first_pointer : pointer_spelling (record { manifest = 1; catalogue = 2 }) ≡ 1 ∷ 2 ∷ []
unfolding varint groups
first_pointer = refl
