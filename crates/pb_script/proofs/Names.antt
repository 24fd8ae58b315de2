-- The test of a name says what a name is.
use Rattle.std.proofs.Common.{◌≡◌, ℕ, Bool, true, false, cond, List, Some, None, IsTrue, ◌↔◌, refl}
use Rattle.std.proofs.lemmas.Bool.{cond-true}
use Rattle.pb_keys.proofs.Tests.{same_tests}
use Rattle.pb_names.specs.Grammar.{IsName}
use Rattle.pb_names.specs.Ranges.{is_name}
use Rattle.pb_names.proofs.RangeLemmas.{name_is, is_name_of}
use Rattle.pb_script.specs.Strings.{name_of}

pub test_is : (test : Bool) (word : List ℕ) → IsTrue test ↔ IsName word → test ≡ is_name word
test_is test word h = same_tests test (is_name word) (λ is. is_name_of word (h.0 is)) (λ is. h.1 (name_is word is))

pub name_again : (name : List ℕ) → IsName name → name_of name ≡ Some name
name_again name is = cond-true _ _ _ (is_name_of name is)

read_where : {A : Type 0} (test : Bool) (x : A) → cond test (Some x) None ≡ Some x → test ≡ true
read_where true x is = refl
read_where false x is = cc

pub name_from_read : (name : List ℕ) → name_of name ≡ Some name → IsName name
name_from_read name is = name_is name (read_where (is_name name) name is)
