-- How far a file is read.
use Rattle.std.proofs.Common.{◌≡◌, ℕ, ◌+◌, ◌<◌, ◌≤◌, Bool, true, List, ◌++◌, length, take, drop, Some, sym, ap, ◌∙◌, arith, length-append, length-drop, length-take, length-take-le}
use Rattle.std.proofs.lemmas.List.{take_all}
use Rattle.pb_devices.specs.Contents.{Contents}
use Rattle.pb_devices.specs.DiskCalls.{Stays}
use Rattle.pb_devices.proofs.Kept.{stays_then}
use Rattle.pb_gate_log.proofs.DecodeLemmas.{take-add}

-- the bytes so far are the first of the file's, and neither the disk nor its count of faults has changed
pub record IsReading (told : Bool) (old now : Contents) (before after : ℕ) (file : List ℕ) (len : ℕ) (read : List ℕ) : Type 0 where
  pub stays : told ≡ true → Stays old now
  pub calm : after ≡ before
  pub sized : told ≡ true → (all : List ℕ) → old.seen file ≡ Some all → len ≡ length all
  pub front : told ≡ true → (all : List ℕ) → old.seen file ≡ Some all → read ≡ take (length read) all

-- a piece more
pub longer : (all read more : List ℕ) (want : ℕ) → read ≡ take (length read) all → more ≡ read ++ take want (drop (length read) all) → length read + want ≤ length all → more ≡ take (length more) all
longer all read more want front is within =
    let whole : more ≡ take (length read + want) all =
    is ∙ ap (λ (l : List ℕ). l ++ take want (drop (length read) all)) front ∙ sym (take-add (length read) want all (omega arith)) in
    let size : length more ≡ length read + want = ap length whole ∙ length-take-le (length read + want) all within in
    whole ∙ ap (λ n. take n all) (sym size)

-- the disk reads the same still
pub seen_still : (told : Bool) (old now : Contents) (before after : ℕ) (file : List ℕ) (len : ℕ) (read all : List ℕ) → IsReading told old now before after file len read → told ≡ true → old.seen file ≡ Some all → now.seen file ≡ Some all
seen_still told old now before after file len read all reading tells is = (reading.stays tells file).seen ∙ is

pub reading_on : (told : Bool) (old now next : Contents) (before after later : ℕ) (file : List ℕ) (len : ℕ) (read more : List ℕ) (want : ℕ) → IsReading told old now before after file len read
    → (told ≡ true → Stays now next) → later ≡ after
    → (told ≡ true → (all : List ℕ) → now.seen file ≡ Some all → more ≡ read ++ take want (drop (length read) all)) → length read + want ≤ len
    → IsReading told old next before later file len more
reading_on told old now next before after later file len read more want reading stays calm piece within =
    record {
      stays = λ tells. stays_then old now next (reading.stays tells) (stays tells);
      calm = calm ∙ reading.calm;
      sized = reading.sized;
      front = λ tells all is.
          let size = reading.sized tells all is in
          longer all read more want (reading.front tells all is) (piece tells all (seen_still told old now before after file len read all reading tells is)) (omega arith);
    }

-- as many bytes as the file has
pub read_all : (told : Bool) (old now : Contents) (before after : ℕ) (file : List ℕ) (len : ℕ) (read all : List ℕ) → IsReading told old now before after file len read → len ≤ length read → told ≡ true → old.seen file ≡ Some all → read ≡ all
read_all told old now before after file len read all reading enough tells is =
    let size = reading.sized tells all is in
    reading.front tells all is ∙ take_all (length read) all (omega arith)

-- a read within the file gives a byte at least
pub no_end : (all read more : List ℕ) (want : ℕ) → more ≡ read ++ take want (drop (length read) all) → length read < length all → 0 < want → length read < length more
no_end all read more want is inside some =
    omega (arith, ap length is, length-append read (take want (drop (length read) all)), length-take want (drop (length read) all), length-drop (length read) all)
