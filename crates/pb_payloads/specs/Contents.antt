-- What the bytes behind a kind spell.
use Rattle.std.specs.Prelude.{◌≡◌, ℕ, List}
use Rattle.pb_payloads.specs.Catalogued.{Catalogued, IsContent, kind_of, content_of}

-- the content of this payload, which has the kind
pub record IsBehind (kind : ℕ) (from : List ℕ) (catalogued : Catalogued) : Type 0 where
  pub same_kind : kind_of catalogued ≡ kind
  pub spelled : from ≡ content_of catalogued
  pub content : IsContent catalogued
