-- How far the bytes of a number are read.
use Rattle.std.proofs.Common.{◌≡◌, ℕ, ◌+◌, ◌<◌, ◌≤◌, Bool, true, List, ◌++◌, length, take, drop, Option, Some, None, sym, ap, ◌∙◌, arith, length-append, length-drop, length-take}
use Rattle.std.specs.Prelude.{IfNone, IfSome}
use Rattle.std.proofs.Math.Seq.{take-add}
use Rattle.std.proofs.lemmas.List.{take_all, take-take}
use Rattle.pb_devices.specs.Contents.{Contents}
use Rattle.pb_devices.specs.DiskCalls.{Stays}
use Rattle.pb_devices.specs.Objects.{Objects}
use Rattle.pb_names.specs.Spelling.{file_name}
use Rattle.pb_names.specs.declared.file_kind.FileKind.TheVariants.{Table}
use Rattle.pb_payloads.specs.Catalogue.{Entries}
use Rattle.pb_payloads.specs.Places.{bytes_of, in_place, object_bytes, object_of}

-- the bytes so far are the first of the number's, wherever both devices tell
abbrev pub IsFront : Bool → Bool → Contents → Objects → Entries → ℕ → List ℕ → Type 0
IsFront disk_tells bucket_tells disk objects entries backing read =
    disk_tells ≡ true → bucket_tells ≡ true → (all : List ℕ) → bytes_of disk.seen objects entries backing ≡ Some all → read ≡ take (length read) all

-- where nothing has changed the number's bytes are the same
pub bytes_still : (old now : Contents) (before after : Objects) (entries : Entries) (backing : ℕ) (all : List ℕ) → Stays old now → after ≡ before
    → bytes_of old.seen before entries backing ≡ Some all → bytes_of now.seen after entries backing ≡ Some all
bytes_still old now before after entries backing all stays same is =
    (λ i. in_place (object_of entries backing) ((stays (file_name Table backing)).seen i) (object_bytes (same i) entries backing)) ∙ is

-- a piece more
pub front_more : (all read more : List ℕ) (want : ℕ) → read ≡ take (length read) all → more ≡ read ++ take want (drop (length read) all)
    → more ≡ take (length more) all
front_more all read more want front is =
    let n = length read + want in
    let whole : more ≡ take n all =
    is ∙ ap (λ (l : List ℕ). l ++ take want (drop (length read) all)) front ∙ sym (take-add (length read) want all) in
    let within : length more ≤ n = omega (arith, ap length whole, length-take n all) in
    sym (take_all (length more) more (omega arith)) ∙ ap (take (length more)) whole ∙ take-take (length more) n all within

-- a piece that has none ends the bytes
pub no_more : (all read more : List ℕ) (want size : ℕ) → read ≡ take (length read) all → more ≡ read ++ take want (drop (length read) all)
    → 0 < want → length more ≤ length read → length read ≤ size → more ≡ take size all
no_more all read more want size front is some none within =
    let enough : length all ≤ length read =
    omega (arith, ap length is, length-append read (take want (drop (length read) all)), length-take want (drop (length read) all), length-drop (length read) all) in
    let longer : length read ≤ length more =
    omega (arith, ap length is, length-append read (take want (drop (length read) all))) in
    front_more all read more want front is ∙ take_all (length more) all (omega arith) ∙ sym (take_all size all (omega arith))

pub none_then : {X A : Type 0} (found : Option X) (first mid last : A) → IfNone found (mid ≡ first) → IfNone found (last ≡ mid)
    → IfNone found (last ≡ first)
none_then None first mid last a b = b ∙ a
none_then (Some x) first mid last a b = tt

pub some_then : {X A : Type 0} (found : Option X) (first mid last : A) → IfSome found (λ _. mid ≡ first) → IfSome found (λ _. last ≡ mid)
    → IfSome found (λ _. last ≡ first)
some_then None first mid last a b = tt
some_then (Some x) first mid last a b = b ∙ a
