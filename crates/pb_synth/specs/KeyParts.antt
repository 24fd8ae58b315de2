-- The parts that a key has to have so that a view maps it to a given one.
use Rattle.std.specs.Prelude.{◌≡◌, ℕ, List, Option, IfSome}
use Rattle.pb_keys.specs.Key.{IsKey, prefix_of, suffix_of}
use Rattle.pb_keys.specs.View.{KeyView}
use Rattle.pb_rows.specs.Viewed.{mapped_key}

-- a prefix, and a suffix, or any where none is given
pub record KeyParts : Type 0 where
  pub prefix : List ℕ
  pub suffix : Option (List ℕ)

-- the key has this prefix, and this suffix where one is given
pub record HasParts (parts : KeyParts) (key : List ℕ) : Type 0 where
  pub prefix : prefix_of key ≡ parts.prefix
  pub suffix : IfSome parts.suffix (λ suffix. suffix_of key ≡ suffix)

-- a key that the view maps to this one
pub record IsMapped (view : KeyView) (key : List ℕ) : Type 0 where
  pub from : List ℕ
  pub in_form : IsKey from
  pub is : mapped_key view from ≡ key
