-- Keys: their two parts, and their order, by prefix and then by suffix.
use Rattle.std.specs.Prelude.{◌≡◌, ◌≢◌, ℕ, ◌≤◌, List, length, take, drop, slice_index, Bool, not, ◌&&◌, ◌==◌, nat_le}
use Rattle.std.specs.List.{position_or_len}
use Rattle.std.specs.declared.cmp.Ordering.{Ordering}
use Rattle.std.specs.Ordering.{is_lt, ordering_then}
use Rattle.pb_keys.specs.Order.{bytes_cmp}

-- '@', with which a suffix begins
abbrev pub at_sign : ℕ
at_sign = 64

-- as many bytes as a key may have
abbrev pub IsKeyLength : ℕ → Type 0
IsKeyLength len = len ≤ 1024

abbrev pub is_key_length : ℕ → Bool
is_key_length len = nat_le len 1024

-- 1 to 1,024 bytes that don't begin with '@'
pub record IsKey (bytes : List ℕ) : Type 0 where
  pub some : 1 ≤ length bytes
  pub within : length bytes ≤ 1024
  pub begins : slice_index bytes 0 ≢ at_sign

abbrev pub is_key : List ℕ → Bool
is_key bytes = nat_le 1 (length bytes) && nat_le (length bytes) 1024 && not (slice_index bytes 0 == at_sign)

-- where the suffix begins: at the first '@', or at the end
abbrev pub suffix_start : List ℕ → ℕ
suffix_start key = position_or_len (λ b. b == at_sign) key

-- the bytes before the first '@'
abbrev pub prefix_of : List ℕ → List ℕ
prefix_of key = take (suffix_start key) key

-- the bytes from the first '@' on
abbrev pub suffix_of : List ℕ → List ℕ
suffix_of key = drop (suffix_start key) key

-- by prefix and then by suffix, each compared as bytes
unfoldable pub key_cmp : List ℕ → List ℕ → Ordering
key_cmp a b = ordering_then (bytes_cmp (prefix_of a) (prefix_of b)) (bytes_cmp (suffix_of a) (suffix_of b))

-- whether the key is below the one with these parts
abbrev pub is_before : List ℕ → List ℕ → List ℕ → Bool
is_before prefix suffix key = is_lt (ordering_then (bytes_cmp (prefix_of key) prefix) (bytes_cmp (suffix_of key) suffix))

-- a key, and where its suffix begins
pub record IsSplitKey (bytes : List ℕ) (split : ℕ) : Type 0 where
  pub key : IsKey bytes
  pub place : split ≡ suffix_start bytes
