-- What bytes that are some command's content tell of the fields in them.
use Rattle.std.proofs.Common.{◌≡◌, ℕ, ◌^◌, ◌<◌, ◌≤◌, List, ◌++◌, length, sym, ap, subst, arith}
use Rattle.pb_bytes.specs.Varint.{field}
use Rattle.pb_keys.specs.Key.{IsKey}
use Rattle.pb_keys.specs.Span.{IsSpan, span_of}
use Rattle.pb_payloads.specs.Logged.{Logged}
use Rattle.pb_payloads.specs.Logged.Logged.{Set, Del, DelRange, Ingest}
use Rattle.pb_wal.specs.Contents.{IsBehind}
use Rattle.pb_wal.proofs.PartLemmas.{same_two, same_last}

pub set_key : (from key value : List ℕ) (logged : Logged) → length from < 2 ^ 64 → from ≡ field key ++ field value → IsBehind 1 from logged → IsKey key
set_key from key value (Set k v) fits parts behind = subst IsKey (sym (same_two from key value k v fits parts behind.spelled).0) behind.content.0
set_key from key value (Del k) fits parts behind = absurd (omega (arith, behind.same_kind))
set_key from key value (DelRange s) fits parts behind = absurd (omega (arith, behind.same_kind))
set_key from key value (Ingest s xs) fits parts behind = absurd (omega (arith, behind.same_kind))

pub set_value : (from key value : List ℕ) (logged : Logged) → length from < 2 ^ 64 → from ≡ field key ++ field value → IsBehind 1 from logged → length value ≤ 65536
set_value from key value (Set k v) fits parts behind =
    let same = ap length (same_two from key value k v fits parts behind.spelled).1 in
    let short = behind.content.1 in
    omega arith
set_value from key value (Del k) fits parts behind = absurd (omega (arith, behind.same_kind))
set_value from key value (DelRange s) fits parts behind = absurd (omega (arith, behind.same_kind))
set_value from key value (Ingest s xs) fits parts behind = absurd (omega (arith, behind.same_kind))

pub del_key : (from key : List ℕ) (logged : Logged) → length from < 2 ^ 64 → from ≡ field key → IsBehind 2 from logged → IsKey key
del_key from key (Del k) fits part behind = subst IsKey (sym (same_last from key k fits part behind.spelled)) behind.content
del_key from key (Set k v) fits part behind = absurd (omega (arith, behind.same_kind))
del_key from key (DelRange s) fits part behind = absurd (omega (arith, behind.same_kind))
del_key from key (Ingest s xs) fits part behind = absurd (omega (arith, behind.same_kind))

pub del_range_span : (from lo hi : List ℕ) (logged : Logged) → length from < 2 ^ 64 → from ≡ field lo ++ field hi → IsBehind 3 from logged → IsSpan (span_of lo hi)
del_range_span from lo hi (DelRange s) fits parts behind =
    let same = same_two from lo hi s.lo s.hi fits parts behind.spelled in
    rw (same.0, same.1) behind.content
del_range_span from lo hi (Set k v) fits parts behind = absurd (omega (arith, behind.same_kind))
del_range_span from lo hi (Del k) fits parts behind = absurd (omega (arith, behind.same_kind))
del_range_span from lo hi (Ingest s xs) fits parts behind = absurd (omega (arith, behind.same_kind))
