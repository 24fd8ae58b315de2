-- The backings that are known, with the users of each.
use Rattle.std.specs.Prelude.{◌≡◌, ℕ, ◌<◌, List, Bool, true, false, nat_lt, ◌==◌}
use Rattle.std.specs.List.{list_any}
use Rattle.pb_counts.specs.declared.user.User.{User}
use Rattle.pb_counts.specs.Ascending.{Ascends}
use Rattle.pb_counts.specs.Pairs.{is_before, uses_in, used_in}

pub record CountsView : Type 0 where
  pub pairs : List (User × ℕ)
  pub known : List ℕ

-- the user uses the backing
abbrev pub uses : CountsView → User → ℕ → Bool
uses counts user backing = uses_in counts.pairs user backing

-- somebody uses the backing
abbrev pub is_used : CountsView → ℕ → Bool
is_used counts backing = used_in counts.pairs backing

abbrev pub known_in : List ℕ → ℕ → Bool
known_in known backing = list_any (λ n. n == backing) known

abbrev pub is_known : CountsView → ℕ → Bool
is_known counts backing = known_in counts.known backing

-- both lists ascend, and what is used is known
pub record IsCounts (counts : CountsView) : Type 0 where
  pub pairs : Ascends is_before counts.pairs
  pub known : Ascends nat_lt counts.known
  pub used : (backing : ℕ) → is_used counts backing ≡ true → is_known counts backing ≡ true

-- the least known backing that nobody uses
pub record IsObsolete (counts : CountsView) (backing : ℕ) : Type 0 where
  pub known : is_known counts backing ≡ true
  pub unused : is_used counts backing ≡ false
  pub least : (other : ℕ) → other < backing → is_known counts other ≡ true → is_used counts other ≡ true

abbrev pub AllUsed : CountsView → Type 0
AllUsed counts = (backing : ℕ) → is_known counts backing ≡ true → is_used counts backing ≡ true

-- a table is the table of its users and known backings, and no more
abbrev pub CountedFromScratch : CountsView → CountsView → Type 0
CountedFromScratch one other =
    ((user : User) (backing : ℕ) → uses one user backing ≡ uses other user backing) →
    ((backing : ℕ) → is_known one backing ≡ is_known other backing) → one ≡ other
