-- The numbers of four and eight bytes read back, and each such string of bytes is one's spelling.
use Rattle.std.proofs.Common.{◌≡◌, ℕ, zero, suc, ◌/◌, ◌^◌, ◌<◌, ◌≤◌, List, [], ◌∷◌, length, take, refl, sym, ap, ◌∙◌, arith, length-take}
use Rattle.std.specs.Int.{w32, w64, from_be_bytes}
use Rattle.std.proofs.lemmas.Nat.{be_bytes_4, be_bytes_8, from_be_bytes-to_be_bytes_4, from_be_bytes-to_be_bytes_8, mod_below}
use Rattle.byteorder.specs.Endian.{big_bytes, big_from, big_number}
use Rattle.byteorder.specs.Numbers.{big_from-cons, big_from-lt, big_from-take}
use Rattle.pb_bytes.specs.BigEndian.{be32, be64, number_of, AreBytes}

-- as byteorder has it
pub be32-big_bytes : (value : ℕ) → be32 value ≡ big_bytes 4 value
unfolding be32
be32-big_bytes value = refl

pub be64-big_bytes : (value : ℕ) → be64 value ≡ big_bytes 8 value
unfolding be64
be64-big_bytes value = refl

pub length-be32 : (value : ℕ) → length (be32 value) ≡ 4
unfolding be32
length-be32 value = refl

pub length-be64 : (value : ℕ) → length (be64 value) ≡ 8
unfolding be64
length-be64 value = refl

-- the number that bytes read as is byteorder's number of all of them
pub number_of-big_from : (bytes : List ℕ) → number_of bytes ≡ big_from 0 (length bytes) bytes
unfolding number_of
number_of-big_from [] = refl
number_of-big_from (byte ∷ rest) =
    let moved = big_from-cons 0 (length rest) byte rest in
    let rest_reads = number_of-big_from rest in
    rw (rest_reads, moved) refl

pub number_of-take : (len : ℕ) (bytes : List ℕ) → len ≤ length bytes → number_of (take len bytes) ≡ big_number len bytes
number_of-take len bytes enough =
    let whole : length (take len bytes) ≡ len = simp length-take (omega arith) in
    number_of-big_from (take len bytes) ∙ rw whole (big_from-take 0 len len bytes (omega arith))

-- so many bytes read as a number below so many powers of 256
pub number_of-below : (bytes : List ℕ) → AreBytes bytes → number_of bytes < 256 ^ length bytes
number_of-below bytes small = rw number_of-big_from (big_from-lt 0 (length bytes) bytes small)

number_of-from_be_bytes_4 : (bytes : List ℕ) → length bytes ≡ 4 → number_of bytes ≡ from_be_bytes w32 bytes
unfolding number_of
number_of-from_be_bytes_4 (a ∷ b ∷ c ∷ d ∷ []) four = omega arith
number_of-from_be_bytes_4 [] four = absurd (omega arith)
number_of-from_be_bytes_4 (a ∷ []) four = absurd (omega arith)
number_of-from_be_bytes_4 (a ∷ b ∷ []) four = absurd (omega arith)
number_of-from_be_bytes_4 (a ∷ b ∷ c ∷ []) four = absurd (omega arith)
number_of-from_be_bytes_4 (a ∷ b ∷ c ∷ d ∷ e ∷ rest) four = absurd (omega arith)

number_of-from_be_bytes_8 : (bytes : List ℕ) → length bytes ≡ 8 → number_of bytes ≡ from_be_bytes w64 bytes
unfolding number_of
number_of-from_be_bytes_8 (a ∷ b ∷ c ∷ d ∷ e ∷ f ∷ g ∷ h ∷ []) eight = omega arith
number_of-from_be_bytes_8 [] eight = absurd (omega arith)
number_of-from_be_bytes_8 (a ∷ []) eight = absurd (omega arith)
number_of-from_be_bytes_8 (a ∷ b ∷ []) eight = absurd (omega arith)
number_of-from_be_bytes_8 (a ∷ b ∷ c ∷ []) eight = absurd (omega arith)
number_of-from_be_bytes_8 (a ∷ b ∷ c ∷ d ∷ []) eight = absurd (omega arith)
number_of-from_be_bytes_8 (a ∷ b ∷ c ∷ d ∷ e ∷ []) eight = absurd (omega arith)
number_of-from_be_bytes_8 (a ∷ b ∷ c ∷ d ∷ e ∷ f ∷ []) eight = absurd (omega arith)
number_of-from_be_bytes_8 (a ∷ b ∷ c ∷ d ∷ e ∷ f ∷ g ∷ []) eight = absurd (omega arith)
number_of-from_be_bytes_8 (a ∷ b ∷ c ∷ d ∷ e ∷ f ∷ g ∷ h ∷ i ∷ rest) eight = absurd (omega arith)

-- every four bytes are the spelling of the number that they read as
pub be32-number_of : (bytes : List ℕ) → length bytes ≡ 4 → AreBytes bytes → be32 (number_of bytes) ≡ bytes
be32-number_of bytes four small =
    be32-big_bytes (number_of bytes) ∙ be_bytes_4 bytes (number_of bytes) four small (number_of-from_be_bytes_4 bytes four)

pub be64-number_of : (bytes : List ℕ) → length bytes ≡ 8 → AreBytes bytes → be64 (number_of bytes) ≡ bytes
be64-number_of bytes eight small =
    be64-big_bytes (number_of bytes) ∙ be_bytes_8 bytes (number_of bytes) eight small (number_of-from_be_bytes_8 bytes eight)

-- a number reads back
pub number_of-be32 : (value : ℕ) → value < 2 ^ 32 → number_of (be32 value) ≡ value
number_of-be32 value fits =
    number_of-from_be_bytes_4 (be32 value) (length-be32 value)
    ∙ ap (from_be_bytes w32) (be32-big_bytes value)
    ∙ from_be_bytes-to_be_bytes_4 value fits

pub number_of-be64 : (value : ℕ) → value < 2 ^ 64 → number_of (be64 value) ≡ value
number_of-be64 value fits =
    number_of-from_be_bytes_8 (be64 value) (length-be64 value)
    ∙ ap (from_be_bytes w64) (be64-big_bytes value)
    ∙ from_be_bytes-to_be_bytes_8 value fits

-- two numbers of one spelling are one
pub one_be32 : (m n : ℕ) → m < 2 ^ 32 → n < 2 ^ 32 → be32 m ≡ be32 n → m ≡ n
one_be32 m n m_fits n_fits same =
    sym (number_of-be32 m m_fits) ∙ ap number_of same ∙ number_of-be32 n n_fits

pub one_be64 : (m n : ℕ) → m < 2 ^ 64 → n < 2 ^ 64 → be64 m ≡ be64 n → m ≡ n
one_be64 m n m_fits n_fits same =
    sym (number_of-be64 m m_fits) ∙ ap number_of same ∙ number_of-be64 n n_fits

-- its bytes are bytes
pub AreBytes-be32 : (value : ℕ) → AreBytes (be32 value)
unfolding be32
AreBytes-be32 value zero = mod_below (value / 2 ^ 24) 256 (omega arith)
AreBytes-be32 value (suc zero) = mod_below (value / 2 ^ 16) 256 (omega arith)
AreBytes-be32 value (suc (suc zero)) = mod_below (value / 2 ^ 8) 256 (omega arith)
AreBytes-be32 value (suc (suc (suc zero))) = mod_below value 256 (omega arith)
AreBytes-be32 value (suc (suc (suc (suc place)))) = omega arith

pub AreBytes-be64 : (value : ℕ) → AreBytes (be64 value)
unfolding be64 be32
AreBytes-be64 value zero = mod_below (value / 2 ^ 56) 256 (omega arith)
AreBytes-be64 value (suc zero) = mod_below (value / 2 ^ 48) 256 (omega arith)
AreBytes-be64 value (suc (suc zero)) = mod_below (value / 2 ^ 40) 256 (omega arith)
AreBytes-be64 value (suc (suc (suc zero))) = mod_below (value / 2 ^ 32) 256 (omega arith)
AreBytes-be64 value (suc (suc (suc (suc place)))) = AreBytes-be32 value place

-- some of the bytes are bytes
pub AreBytes-take : (len : ℕ) (bytes : List ℕ) → AreBytes bytes → AreBytes (take len bytes)
AreBytes-take zero bytes small place = omega arith
AreBytes-take (suc len) [] small place = omega arith
AreBytes-take (suc len) (byte ∷ rest) small zero = small zero
AreBytes-take (suc len) (byte ∷ rest) small (suc place) = AreBytes-take len rest (λ p. small (suc p)) place

-- the first four bytes spell what byteorder reads from them
pub be32-read : (bytes : List ℕ) (value : ℕ) → 4 ≤ length bytes → AreBytes bytes → value ≡ big_number 4 bytes → take 4 bytes ≡ be32 value
be32-read bytes value enough small read =
    let four : length (take 4 bytes) ≡ 4 = simp length-take (omega arith) in
    let is_number : value ≡ number_of (take 4 bytes) = read ∙ sym (number_of-take 4 bytes enough) in
    rw is_number (sym (be32-number_of (take 4 bytes) four (AreBytes-take 4 bytes small)))

pub be64-read : (bytes : List ℕ) (value : ℕ) → 8 ≤ length bytes → AreBytes bytes → value ≡ big_number 8 bytes → take 8 bytes ≡ be64 value
be64-read bytes value enough small read =
    let eight : length (take 8 bytes) ≡ 8 = simp length-take (omega arith) in
    let is_number : value ≡ number_of (take 8 bytes) = read ∙ sym (number_of-take 8 bytes enough) in
    rw is_number (sym (be64-number_of (take 8 bytes) eight (AreBytes-take 8 bytes small)))
