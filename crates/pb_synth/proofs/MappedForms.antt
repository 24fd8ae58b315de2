-- When what a view makes of a key or of a span is one.
use Rattle.std.proofs.Common.{◌≡◌, ◌≢◌, ℕ, ◌+◌, ◌<◌, ◌≤◌, List, ◌++◌, length, ap, ◌∙◌, subst, arith, length-append}
use Rattle.std.proofs.lemmas.List.{get_or-take}
use Rattle.std.proofs.lemmas.List.Elements.{All-append}
use Rattle.pb_keys.specs.Key.{IsKey, at_sign, suffix_start, prefix_of}
use Rattle.pb_keys.specs.Span.{KeySpan, IsEnd, IsSpan}
use Rattle.pb_keys.specs.View.{KeyView, IsMapping}
use Rattle.pb_keys.proofs.KeyFacts.{suffix_start_within, length-prefix_of, prefix_is_plain, prefix_begins}
use Rattle.pb_rows.specs.Viewed.{mapped_key, mapped_span}
use Rattle.pb_rows.proofs.MappedLaws.{prefix_of-mapped_key, below-behind}
use Rattle.pb_synth.specs.Limits.{HasShortEnds}

-- bytes with a prefix that isn't empty are a key, where they aren't too long
pub key_of_prefix : (bytes : List ℕ) → 1 ≤ suffix_start bytes → length bytes ≤ 1024 → IsKey bytes
key_of_prefix bytes begins within =
    let fits : suffix_start bytes ≤ length bytes = suffix_start_within bytes in
    let some : 0 < length (prefix_of bytes) = omega (arith, length-prefix_of bytes) in
    record {
      some = omega arith;
      within = within;
      begins = subst (λ b. b ≢ at_sign) (get_or-take (suffix_start bytes) bytes 0 0 begins) (prefix_is_plain bytes 0 0 some);
    }

pub mapped_begins : (view : KeyView) (key : List ℕ) → IsMapping view → IsKey key → 1 ≤ suffix_start (mapped_key view key)
mapped_begins view key mapping is =
    let begins : 1 ≤ suffix_start key = prefix_begins key is in
    let own : length (prefix_of key) ≡ suffix_start key = length-prefix_of key in
    let whole : length (prefix_of (mapped_key view key)) ≡ length view.prefix + length (prefix_of key) = ap length (prefix_of-mapped_key view key mapping) ∙ length-append view.prefix (prefix_of key) in
    let start : length (prefix_of (mapped_key view key)) ≡ suffix_start (mapped_key view key) = length-prefix_of (mapped_key view key) in
    omega arith

-- a mapped key is one, where it isn't too long
pub mapped_is_key : (view : KeyView) (key : List ℕ) → IsMapping view → IsKey key → length (mapped_key view key) ≤ 1024 → IsKey (mapped_key view key)
mapped_is_key view key mapping is within = key_of_prefix (mapped_key view key) (mapped_begins view key mapping is) within

mapped_is_end : (view : KeyView) (end : List ℕ) → IsMapping view → IsEnd end → length (view.prefix ++ end) ≤ 1025 → IsEnd (view.prefix ++ end)
mapped_is_end view end mapping is within =
    let whole : length (view.prefix ++ end) ≡ length view.prefix + length end = length-append view.prefix end in
    let some : 1 ≤ length end = is.some in
    record { some = omega arith; within = within; plain = All-append (λ b. b ≢ at_sign) view.prefix end mapping.prefix.plain is.plain }

-- a mapped span is one, where its ends aren't too long
pub mapped_is_span : (view : KeyView) (span : KeySpan) → IsMapping view → IsSpan span → HasShortEnds (mapped_span view span) → IsSpan (mapped_span view span)
mapped_is_span view span mapping is short = record {
  lo = mapped_is_end view span.lo mapping is.lo short.lo;
  hi = mapped_is_end view span.hi mapping is.hi short.hi;
  rises = below-behind view.prefix span.lo span.hi ∙ is.rises;
}
