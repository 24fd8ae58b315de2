-- Pairs of a user and a backing.
use Rattle.std.specs.Prelude.{ℕ, List, Bool, nat_lt, ◌==◌, ◌&&◌, ◌||◌}
use Rattle.std.specs.List.{list_any}
use Rattle.pb_counts.specs.declared.user.User.{User}
use Rattle.pb_counts.specs.declared.user.User.TheVariants.{Version, Pin, Handle, Job}

abbrev pub kind_of : User → ℕ
kind_of Version = 0
kind_of (Pin number) = 1
kind_of (Handle number) = 2
kind_of (Job lane) = 3

abbrev pub number_of : User → ℕ
number_of Version = 0
number_of (Pin number) = number
number_of (Handle number) = number
number_of (Job lane) = lane

abbrev pub is_user : User → User → Bool
is_user user other = kind_of user == kind_of other && number_of user == number_of other

-- by backing, then by the user's kind, then by its number
abbrev pub is_before : User × ℕ → User × ℕ → Bool
is_before p q =
    nat_lt p.1 q.1 ||
    (p.1 == q.1 && (nat_lt (kind_of p.0) (kind_of q.0) || (kind_of p.0 == kind_of q.0 && nat_lt (number_of p.0) (number_of q.0))))

abbrev pub is_pair : User × ℕ → User × ℕ → Bool
is_pair p q = p.1 == q.1 && is_user p.0 q.0

-- the user uses the backing
abbrev pub uses_in : List (User × ℕ) → User → ℕ → Bool
uses_in pairs user backing = list_any (is_pair (user, backing)) pairs

-- somebody uses the backing
abbrev pub used_in : List (User × ℕ) → ℕ → Bool
used_in pairs backing = list_any (λ p. p.1 == backing) pairs
