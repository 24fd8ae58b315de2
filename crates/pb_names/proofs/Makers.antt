-- Within one maker, equal names have equal arguments.
use Rattle.std.proofs.Common.{◌≡◌, ◌≢◌, ℕ, ◌≤◌, ◌<◌, ◌^◌, List, [], ◌∷◌, ◌++◌, drop, get_or, if◌then◌else◌, ◌==◌, arith, refl, sym, ap, subst, ◌∙◌, lit≤, append_assoc, append-nil}
use Rattle.std.specs.Fmt.{decimal}
use Rattle.std.proofs.lemmas.Fmt.{decimal_injective}
use Rattle.pb_names.proofs.Digits.{NoDigitAhead, decimal-append_injective, first_digit}
use Rattle.pb_names.specs.Identity.{Identity, IsObject, IsStore}
use Rattle.pb_names.specs.Spelling.{current_name, ending, external_name, file_name, marker_name, marker_prefix, object_name}
use Rattle.pb_names.specs.declared.file_kind.FileKind.{FileKind}
use Rattle.pb_names.specs.declared.file_kind.FileKind.TheVariants.{Manifest, Catalogue, Log, Table}

-- an object's name and what follows it
pub object_name-append : (id : Identity) (x : List ℕ) → object_name id ++ x ≡ 111 ∷ 98 ∷ 106 ∷ 47 ∷ (decimal id.creator ++ 47 ∷ (decimal id.number ++ x))
unfolding object_name
object_name-append id x = simp append_assoc

pub marker_name-is : (id : Identity) (store number : ℕ) → marker_name id store number ≡ object_name id ++ 46 ∷ 114 ∷ 101 ∷ 102 ∷ 46 ∷ (decimal store ++ 46 ∷ decimal number)
unfolding marker_name marker_prefix
marker_name-is id store number = simp append_assoc

pub marker_name-prefix : (id : Identity) (store number : ℕ) → marker_name id store number ≡ marker_prefix id ++ (decimal store ++ 46 ∷ decimal number)
unfolding marker_name
marker_name-prefix id store number = simp append_assoc

pub marker_prefix-append : (id : Identity) (x : List ℕ) → marker_prefix id ++ x ≡ object_name id ++ 46 ∷ 114 ∷ 101 ∷ 102 ∷ 46 ∷ x
unfolding marker_prefix
marker_prefix-append id x = simp append_assoc

ending_ends : (kind : FileKind) → NoDigitAhead (ending kind)
ending_ends Manifest = lit≤ tt
ending_ends Catalogue = lit≤ tt
ending_ends Log = lit≤ tt
ending_ends Table = lit≤ tt

-- the kind, by the first letter of its ending
kind_of : ℕ → FileKind
kind_of letter = if letter == 109 then Manifest else (if letter == 99 then Catalogue else (if letter == 108 then Log else Table))

kind_of-ending : (kind : FileKind) → kind_of (get_or (ending kind) 1 0) ≡ kind
unfolding kind_of
kind_of-ending Manifest = refl
kind_of-ending Catalogue = refl
kind_of-ending Log = refl
kind_of-ending Table = refl

pub ending_injective : (kind other : FileKind) → ending kind ≡ ending other → kind ≡ other
ending_injective kind other e = sym (kind_of-ending kind) ∙ ap (λ text. kind_of (get_or text 1 0)) e ∙ kind_of-ending other

pub file_name-injective : (kind other : FileKind) (m n : ℕ) → m < 2 ^ 64 → n < 2 ^ 64
    → file_name kind m ≡ file_name other n → (kind ≡ other) × (m ≡ n)
unfolding file_name
file_name-injective kind other m n m_fits n_fits e =
    let parts = decimal-append_injective m n (ending kind) (ending other) m_fits n_fits (ending_ends kind) (ending_ends other) e in
    (ending_injective kind other parts.1, parts.0)

pub file_name-other_kind : (kind other : FileKind) (m n : ℕ) → m < 2 ^ 64 → n < 2 ^ 64 → kind ≢ other → file_name kind m ≢ file_name other n
file_name-other_kind kind other m n m_fits n_fits apart e = apart (file_name-injective kind other m n m_fits n_fits e).0

pub file_name-other_number : (kind other : FileKind) (m n : ℕ) → m < 2 ^ 64 → n < 2 ^ 64 → m ≢ n → file_name kind m ≢ file_name other n
file_name-other_number kind other m n m_fits n_fits apart e = apart (file_name-injective kind other m n m_fits n_fits e).1

pub file_name-no_current : (kind : FileKind) (n : ℕ) → n < 2 ^ 64 → file_name kind n ≢ current_name
unfolding file_name current_name
file_name-no_current kind n fits e =
    let first : 67 ≤ 57 = subst (λ text. get_or text 0 0 ≤ 57) e (first_digit n (ending kind) fits) in
    omega arith

-- two objects' names, and what follows them
pub object_name-append_injective : (id other : Identity) (x y : List ℕ) → IsObject id → IsObject other → NoDigitAhead x → NoDigitAhead y
    → object_name id ++ x ≡ object_name other ++ y → (id ≡ other) × (x ≡ y)
object_name-append_injective id other x y is_object other_is x_ends y_ends e =
    let after_slash : decimal id.creator ++ 47 ∷ (decimal id.number ++ x) ≡ decimal other.creator ++ 47 ∷ (decimal other.number ++ y) =
    ap (drop 4) (sym (object_name-append id x) ∙ e ∙ object_name-append other y) in
    let creators = decimal-append_injective id.creator other.creator _ _ (omega arith) (omega arith) (lit≤ tt) (lit≤ tt) after_slash in
    let numbers = decimal-append_injective id.number other.number x y (omega arith) (omega arith) x_ends y_ends (ap (drop 1) creators.1) in
    ((λ i. record { creator = creators.0 i; number = numbers.0 i }), numbers.1)

pub object_name-injective : (id other : Identity) → IsObject id → IsObject other → object_name id ≡ object_name other → id ≡ other
object_name-injective id other is_object other_is e =
    (object_name-append_injective id other [] [] is_object other_is tt tt (append-nil (object_name id) ∙ e ∙ sym (append-nil (object_name other)))).0

pub marker_name-injective : (id other : Identity) (s t m n : ℕ) → IsObject id → IsObject other → IsStore s → IsStore t → m < 2 ^ 62 → n < 2 ^ 62
    → marker_name id s m ≡ marker_name other t n → (id ≡ other) × (s ≡ t) × (m ≡ n)
marker_name-injective id other s t m n is_object other_is is_store store_is m_fits n_fits e =
    let objects = object_name-append_injective id other _ _ is_object other_is (lit≤ tt) (lit≤ tt)
    (sym (marker_name-is id s m) ∙ e ∙ marker_name-is other t n) in
    let stores = decimal-append_injective s t _ _ (omega arith) (omega arith) (lit≤ tt) (lit≤ tt) (ap (drop 5) objects.1) in
    (objects.0, stores.0, decimal_injective m n (omega arith) (omega arith) (ap (drop 1) stores.1))

-- no object's own name goes on as a marker's does
pub object_name-no_marker : (id other : Identity) (x : List ℕ) → IsObject id → IsObject other → object_name id ≡ object_name other ++ 46 ∷ x → ⊥
object_name-no_marker id other x is_object other_is e =
    let parts = object_name-append_injective id other [] (46 ∷ x) is_object other_is tt (lit≤ tt) (append-nil (object_name id) ∙ e) in
    let ends : [] ≡ 46 ∷ x = parts.1 in
    cc

pub external_name-injective : (name other : List ℕ) → external_name name ≡ external_name other → name ≡ other
unfolding external_name
external_name-injective name other e = ap (drop 2) e
