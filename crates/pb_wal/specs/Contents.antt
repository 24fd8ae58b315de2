-- What the parts of a payload spell.
use Rattle.std.specs.Prelude.{◌≡◌, ℕ, List}
use Rattle.pb_payloads.specs.Logged.{Logged, IsCommand, IsContent, kind_of, content_of, command_spelling}

-- the bytes behind a kind are this command's
pub record IsBehind (kind : ℕ) (from : List ℕ) (logged : Logged) : Type 0 where
  pub same_kind : kind_of logged ≡ kind
  pub spelled : from ≡ content_of logged
  pub content : IsContent logged

-- the bytes behind the count are this command's
pub record IsBehindCount (from : List ℕ) (logged : Logged) : Type 0 where
  pub spelled : from ≡ command_spelling logged
  pub command : IsCommand logged
