-- What a table shows of the layer behind it.
use Rattle.std.specs.Prelude.{◌≡◌, ◌≢◌, ◌⊎◌, ℕ, ◌≤◌, List, [], ◌∷◌, length, All, slice_index, Bool, true, ◌&&◌, ◌==◌, nat_le}
use Rattle.pb_keys.specs.Key.{at_sign}
use Rattle.pb_keys.specs.Span.{KeySpan, IsSpan, has_no_at, is_span}

-- the bounds, a prefix put before every key and end, and a suffix in the place of every key's own; both may be empty
pub record KeyView : Type 0 where
  pub bounds : KeySpan
  pub prefix : List ℕ
  pub suffix : List ℕ

-- at most 1,024 bytes without '@'
pub record IsPrefix (bytes : List ℕ) : Type 0 where
  pub within : length bytes ≤ 1024
  pub plain : All (λ b. b ≢ at_sign) bytes

abbrev pub is_prefix : List ℕ → Bool
is_prefix bytes = nat_le (length bytes) 1024 && has_no_at bytes

-- none, or at most 1,024 bytes that begin with '@'
abbrev pub IsSuffix : List ℕ → Type 0
IsSuffix bytes = (bytes ≡ []) ⊎ ((length bytes ≤ 1024) × (slice_index bytes 0 ≡ at_sign))

abbrev pub is_suffix : List ℕ → Bool
is_suffix [] = true
is_suffix (b ∷ bs) = b == at_sign && nat_le (length (b ∷ bs)) 1024

-- what a view puts before keys, and in the place of their suffixes
pub record IsMapping (view : KeyView) : Type 0 where
  pub prefix : IsPrefix view.prefix
  pub suffix : IsSuffix view.suffix

abbrev pub is_mapping : KeyView → Bool
is_mapping view = is_prefix view.prefix && is_suffix view.suffix

pub record IsView (view : KeyView) : Type 0 where
  pub mapping : IsMapping view
  pub bounds : IsSpan view.bounds

abbrev pub is_view : KeyView → Bool
is_view view = is_mapping view && is_span view.bounds
