-- Numbers from which on nothing of a version has one.
use Rattle.std.specs.Prelude.{◌≡◌, ℕ, true, nat_lt}
use Rattle.std.specs.List.{list_all}
use Rattle.pb_version.specs.Version.{VersionView, all_tables}

-- no table and no backing has this number or a greater one
pub record AreUnusedFrom (v : VersionView) (first : ℕ) : Type 0 where
  pub tables : list_all (λ t. nat_lt t.number first) (all_tables v) ≡ true
  pub backings : list_all (λ b. nat_lt b.number first) v.backings ≡ true
