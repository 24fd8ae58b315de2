-- Lists by name.
use Rattle.std.proofs.Common.{◌≡◌, ℕ, ◌+◌, ◌≤◌, Bool, true, false, List, [], ◌∷◌, length, if◌then◌else◌, refl, arith}
use Rattle.std.specs.List.{AllByRecursion, filter}
use Rattle.std.specs.Str.{bytes_eq}
use Rattle.pb_machine.specs.Named.{Named, put}

put_if : {X : Type 0} (P : List ℕ × X → Type 0) (b : Bool) (first : List ℕ × X) (others more : Named X) (new : List ℕ × X)
    → P first → AllByRecursion P others → AllByRecursion P more → P new
    → AllByRecursion P (if b then new ∷ others else first ∷ more)
put_if P true first others more new here there later is = (is, there)
put_if P false first others more new here there later is = (here, later)

pub all-put : {X : Type 0} (P : List ℕ × X → Type 0) (pairs : Named X) (name : List ℕ) (x : X) → AllByRecursion P pairs → P (name, x)
    → AllByRecursion P (put pairs name x)
all-put P [] name x all is = (is, tt)
all-put P (first ∷ others) name x all is =
    put_if P (bytes_eq name first.0) first others (put others name x) (name, x) all.0 all.1 (all-put P others name x all.1 is) is

length_if : {X : Type 0} (b : Bool) (first new : List ℕ × X) (others more : Named X) → length more ≤ length others + 1
    → length (if b then new ∷ others else first ∷ more) ≤ length others + 1 + 1
length_if true first new others more h = omega arith
length_if false first new others more h = omega (arith, h)

pub length-put : {X : Type 0} (pairs : Named X) (name : List ℕ) (x : X) → length (put pairs name x) ≤ length pairs + 1
length-put [] name x = omega arith
length-put (first ∷ others) name x =
    let h = length_if (bytes_eq name first.0) first (name, x) others (put others name x) (length-put others name x) in omega (arith, h)

kept_if : {A : Type 0} (P : A → Type 0) (b : Bool) (x : A) (more : List A) → P x → AllByRecursion P more
    → AllByRecursion P (if b then x ∷ more else more)
kept_if P true x more here later = (here, later)
kept_if P false x more here later = later

pub all-filter : {A : Type 0} (P : A → Type 0) (test : A → Bool) (xs : List A) → AllByRecursion P xs → AllByRecursion P (filter test xs)
all-filter P test [] all = tt
all-filter P test (x ∷ xs) all = kept_if P (test x) x (filter test xs) all.0 (all-filter P test xs all.1)

shorter_if : {A : Type 0} (b : Bool) (x : A) (more xs : List A) → length more ≤ length xs
    → length (if b then x ∷ more else more) ≤ length xs + 1
shorter_if true x more xs h = omega (arith, h)
shorter_if false x more xs h = omega (arith, h)

pub length-filter_short : {A : Type 0} (test : A → Bool) (xs : List A) → length (filter test xs) ≤ length xs
length-filter_short test [] = omega arith
length-filter_short test (x ∷ xs) = let h = shorter_if (test x) x (filter test xs) xs (length-filter_short test xs) in omega (arith, h)

pub all_by : {A : Type 0} (P Q : A → Type 0) (xs : List A) → ((x : A) → P x → Q x) → AllByRecursion P xs → AllByRecursion Q xs
all_by P Q [] each all = tt
all_by P Q (x ∷ xs) each all = (each x all.0, all_by P Q xs each all.1)

-- what passes the test keeps another fact
kept_by_test : {A : Type 0} (P Q : A → Type 0) (b : Bool) (x : A) (more : List A) → (b ≡ true → Q x) → AllByRecursion Q more
    → AllByRecursion Q (if b then x ∷ more else more)
kept_by_test P Q true x more here later = (here refl, later)
kept_by_test P Q false x more here later = later

pub all_passed : {A : Type 0} (P Q : A → Type 0) (test : A → Bool) (xs : List A) → ((x : A) → P x → test x ≡ true → Q x)
    → AllByRecursion P xs → AllByRecursion Q (filter test xs)
all_passed P Q test [] each all = tt
all_passed P Q test (x ∷ xs) each all =
    kept_by_test P Q (test x) x (filter test xs) (each x all.0) (all_passed P Q test xs each all.1)
