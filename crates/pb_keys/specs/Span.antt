-- Spans of keys, half open, by the keys' prefixes.
use Rattle.std.specs.Prelude.{◌≢◌, ℕ, ◌≤◌, List, length, Bool, not, ◌&&◌, ◌==◌, nat_le, All, IsTrue}
use Rattle.std.specs.List.{list_any}
use Rattle.pb_keys.specs.Order.{is_below, is_upto, lesser, greater}
use Rattle.pb_keys.specs.Key.{at_sign, prefix_of}

pub record KeySpan : Type 0 where
  pub lo : List ℕ
  pub hi : List ℕ

abbrev pub span_of : List ℕ → List ℕ → KeySpan
span_of lo hi = record { lo = lo; hi = hi }

-- as many bytes as an end may have
abbrev pub IsEndLength : ℕ → Type 0
IsEndLength len = len ≤ 1025

-- 1 to 1,025 bytes without '@'
pub record IsEnd (bytes : List ℕ) : Type 0 where
  pub some : 1 ≤ length bytes
  pub within : length bytes ≤ 1025
  pub plain : All (λ b. b ≢ at_sign) bytes

abbrev pub has_no_at : List ℕ → Bool
has_no_at bytes = not (list_any (λ b. b == at_sign) bytes)

abbrev pub is_end : List ℕ → Bool
is_end bytes = nat_le 1 (length bytes) && nat_le (length bytes) 1025 && has_no_at bytes

pub record IsSpan (span : KeySpan) : Type 0 where
  pub lo : IsEnd span.lo
  pub hi : IsEnd span.hi
  pub rises : IsTrue (is_below span.lo span.hi)

abbrev pub is_span : KeySpan → Bool
is_span span = is_end span.lo && is_end span.hi && is_below span.lo span.hi

-- whether the span holds the key: its prefix p has lo <= p < hi
unfoldable pub holds_key : KeySpan → List ℕ → Bool
holds_key span key = is_upto span.lo (prefix_of key) && is_below (prefix_of key) span.hi

-- whether each begins before the other ends
unfoldable pub overlap : KeySpan → KeySpan → Bool
overlap a b = is_below a.lo b.hi && is_below b.lo a.hi

-- from the lesser start to the greater end
abbrev pub joined : KeySpan → KeySpan → KeySpan
joined s t = span_of (lesser s.lo t.lo) (greater s.hi t.hi)
