-- Each line that is read is in form.
use Rattle.std.proofs.Common.{◌≡◌, ℕ, ◌+◌, ◌*◌, ◌-◌, ◌<◌, ◌≤◌, Bool, true, false, cond, ◌&&◌, nat_le, nat_lt, List, [], ◌∷◌, length, take, drop, Option, Some, None, refl, arith}
use Rattle.std.specs.Prelude.{IfSome, ◌==◌, if◌then◌else◌}
use Rattle.std.specs.Char.{digit_value}
use Rattle.std.specs.List.{AllByRecursion}
use Rattle.std.specs.Str.{bytes_eq}
use Rattle.std.proofs.lemmas.Bool.Decides.{nat_tests}
use Rattle.pb_names.specs.Grammar.{IsName}
use Rattle.pb_names.specs.Identity.{IsStore}
use Rattle.pb_names.specs.Ranges.{is_name}
use Rattle.pb_names.proofs.RangeLemmas.{name_is}
use Rattle.pb_keys.specs.Printed.{is_plain}
use Rattle.pb_script.specs.Answers.{◌>>=◌, ◌>>◌}
use Rattle.pb_script.specs.Strings.{hex_pair, plain, with_byte, bytes_of, string_of, name_of, store_of, level_of}
use Rattle.pb_script.specs.Fields.{word_at, string_at, name_at, store_at, level_at, pair_at, labelled_at, names_of, some_names_of}
use Rattle.pb_script.specs.Form.{IsByte, IsString}

-- what holds of a step's value, and of the next step's wherever it holds
pub bind_if : {A B : Type 0} (Q : A → Type 0) (P : B → Type 0) (o : Option A) (f : A → Option B) → IfSome o Q → ((x : A) → Q x → IfSome (f x) P) → IfSome (o >>= f) P
bind_if Q P None f q next = tt
bind_if Q P (Some x) f q next = next x q

pub any_if : {A B : Type 0} (P : B → Type 0) (o : Option A) (f : A → Option B) → ((x : A) → IfSome (f x) P) → IfSome (o >>= f) P
any_if P None f next = tt
any_if P (Some x) f next = next x

pub then_if : {A B : Type 0} (P : B → Type 0) (o : Option A) (next : Option B) → IfSome next P → IfSome (o >> next) P
then_if P None next is = tt
then_if P (Some x) next is = is

pub cond_if : {A : Type 0} (P : A → Type 0) (b : Bool) (x y : Option A) → IfSome x P → IfSome y P → IfSome (cond b x y) P
cond_if P true x y one other = one
cond_if P false x y one other = other

-- a test that holds is known
pub test_if : {A : Type 0} (P : A → Type 0) (b : Bool) (x : A) → (b ≡ true → P x) → IfSome (cond b (Some x) None) P
test_if P true x is = is refl
test_if P false x is = tt

small : (h l : ℕ) → (nat_lt h 16 && nat_lt l 16) ≡ true → 16 * h + l < 256
small h l is = grind (arith, nat_tests)

hex_below : (high low : ℕ) → (nat_lt (digit_value high) 16 && nat_lt (digit_value low) 16) ≡ true → 16 * digit_value high + digit_value low < 256
hex_below high low is = small (digit_value high) (digit_value low) is

plain_below : (byte : ℕ) → is_plain byte ≡ true → byte < 256
plain_below byte is = grind (arith, nat_tests)

pair_byte : (high low : ℕ) → IfSome (hex_pair high low) IsByte
pair_byte high low = test_if IsByte _ (16 * digit_value high + digit_value low) (hex_below high low)

plain_byte : (byte : ℕ) → IfSome (plain byte) IsByte
plain_byte byte = test_if IsByte (is_plain byte) byte (plain_below byte)

with_bytes_if : (first : Option ℕ) (others : Option (List ℕ)) → IfSome first IsByte → IfSome others IsString → IfSome (with_byte first others) IsString
with_bytes_if None others one more = tt
with_bytes_if (Some byte) None one more = tt
with_bytes_if (Some byte) (Some bytes) one more = (one, more)

bytes_formed : (word : List ℕ) → IfSome (bytes_of word) IsString
unfolding bytes_of
bytes_formed [] = tt
bytes_formed (byte ∷ []) = with_bytes_if (plain byte) (Some []) (plain_byte byte) tt
bytes_formed (byte ∷ next ∷ []) = with_bytes_if (plain byte) (with_byte (plain next) (Some [])) (plain_byte byte) (with_bytes_if (plain next) (Some []) (plain_byte next) tt)
bytes_formed (byte ∷ high ∷ low ∷ rest) =
    cond_if IsString (byte == 37) _ _ (with_bytes_if (hex_pair high low) (bytes_of rest) (pair_byte high low) (bytes_formed rest))
    (with_bytes_if (plain byte) (bytes_of (high ∷ low ∷ rest)) (plain_byte byte) (bytes_formed (high ∷ low ∷ rest)))

string_formed : (word : List ℕ) → IfSome (string_of word) IsString
unfolding string_of
string_formed [] = tt
string_formed (byte ∷ bytes) = cond_if IsString _ (Some []) _ tt (bytes_formed (byte ∷ bytes))

name_formed : (word : List ℕ) → IfSome (name_of word) IsName
name_formed word = test_if IsName (is_name word) word (name_is word)

store_range : (byte : ℕ) → (nat_le 65 byte && nat_le byte 72) ≡ true → IsStore (byte - 64)
store_range byte is = grind (arith, nat_tests)

pub store_formed : (word : List ℕ) → IfSome (store_of word) IsStore
store_formed [] = tt
store_formed (byte ∷ []) = test_if IsStore _ (byte - 64) (store_range byte)
store_formed (byte ∷ next ∷ bytes) = tt

level_range : (byte : ℕ) → (nat_le 48 byte && nat_le byte 53) ≡ true → byte - 48 ≤ 5
level_range byte is = grind (arith, nat_tests)

level_formed : (word : List ℕ) → IfSome (level_of word) (λ level. level ≤ 5)
level_formed [] = tt
level_formed (byte ∷ []) = test_if (λ level. level ≤ 5) _ (byte - 48) (level_range byte)
level_formed (byte ∷ next ∷ bytes) = tt

pub string_in : (words : List (List ℕ)) → IfSome (string_at words) (λ x. IsString x.0)
unfolding string_at
string_in words = any_if _ (word_at words) _ (λ w. bind_if IsString _ (string_of w.0) _ (string_formed w.0) (λ s q. q))

pub name_in : (words : List (List ℕ)) → IfSome (name_at words) (λ x. IsName x.0)
unfolding name_at
name_in words = any_if _ (word_at words) _ (λ w. bind_if IsName _ (name_of w.0) _ (name_formed w.0) (λ s q. q))

pub store_in : (words : List (List ℕ)) → IfSome (store_at words) (λ x. IsStore x.0)
unfolding store_at
store_in words = any_if _ (word_at words) _ (λ w. bind_if IsStore _ (store_of w.0) _ (store_formed w.0) (λ s q. q))

pub level_in : (words : List (List ℕ)) → IfSome (level_at words) (λ x. x.0 ≤ 5)
unfolding level_at
level_in words = any_if _ (word_at words) _ (λ w. bind_if (λ level. level ≤ 5) _ (level_of w.0) _ (level_formed w.0) (λ s q. q))

pub pair_in : (words : List (List ℕ)) → IfSome (pair_at words) (λ x. IsString x.0.0 × IsString x.0.1)
unfolding pair_at
pair_in words = bind_if (λ x. IsString x.0) _ (string_at words) _ (string_in words) (λ a p. bind_if (λ x. IsString x.0) _ (string_at a.1) _ (string_in a.1) (λ b q. (p, q)))

pub labelled_in : (label : List ℕ) (words : List (List ℕ)) → IfSome (labelled_at label words) (λ x. IfSome x.0 IsString)
unfolding labelled_at
labelled_in label [] = tt
labelled_in label (word ∷ words) = cond_if _ (bytes_eq (take (length label) word) label) _ _ (bind_if IsString _ (string_of (drop (length label) word)) _ (string_formed (drop (length label) word)) (λ s q. q)) tt

pub names_in : (words : List (List ℕ)) → IfSome (names_of words) (AllByRecursion IsName)
unfolding names_of
names_in [] = tt
names_in (word ∷ words) = bind_if IsName _ (name_of word) _ (name_formed word) (λ n p. bind_if (AllByRecursion IsName) _ (names_of words) _ (names_in words) (λ ns q. (p, q)))

some_from : (names : List (List ℕ)) → AllByRecursion IsName names → IfSome (if length names == 0 then None else Some names) (λ ns. (0 < length ns) × AllByRecursion IsName ns)
some_from [] all = tt
some_from (name ∷ names) all = cond_if _ (length (name ∷ names) == 0) None (Some (name ∷ names)) tt (omega arith, all)

pub some_names_in : (words : List (List ℕ)) → IfSome (some_names_of words) (λ ns. (0 < length ns) × AllByRecursion IsName ns)
unfolding some_names_of
some_names_in words = bind_if (AllByRecursion IsName) _ (names_of words) _ (names_in words) some_from
