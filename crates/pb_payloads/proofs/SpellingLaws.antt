-- Parts of a spelling determine what they spell.
use Rattle.std.proofs.Common.{◌≡◌, ℕ, ◌^◌, ◌<◌, List, [], ◌∷◌, ◌++◌, length, sym, ◌∙◌}
use Rattle.std.proofs.lemmas.List.{append-nil}
use Rattle.pb_bytes.specs.Varint.{varint, field}
use Rattle.pb_bytes.proofs.ReadingLemmas.{one_varint, one_field}

-- the first bytes and the rest
pub same_first : (a b : ℕ) (x y : List ℕ) → a ∷ x ≡ b ∷ y → a ≡ b
same_first a b x y same = cc

pub same_rest : (a b : ℕ) (x y : List ℕ) → a ∷ x ≡ b ∷ y → x ≡ y
same_rest a b x y same = cc

-- a number with nothing behind it
pub one_last_varint : (m n : ℕ) → m < 2 ^ 64 → n < 2 ^ 64 → varint m ≡ varint n → m ≡ n
one_last_varint m n m_fits n_fits same =
    (one_varint m n [] [] m_fits n_fits (append-nil (varint m) ∙ same ∙ sym (append-nil (varint n)))).0

-- a field with nothing behind it
pub one_last_field : (a b : List ℕ) → length a < 2 ^ 64 → length b < 2 ^ 64 → field a ≡ field b → a ≡ b
one_last_field a b a_fits b_fits same =
    (one_field a b [] [] a_fits b_fits (append-nil (field a) ∙ same ∙ sym (append-nil (field b)))).0

-- two fields
pub two_fields : (a b c d : List ℕ) → length a < 2 ^ 64 → length b < 2 ^ 64 → length c < 2 ^ 64 → length d < 2 ^ 64
    → field a ++ field b ≡ field c ++ field d → (a ≡ c) × (b ≡ d)
two_fields a b c d a_fits b_fits c_fits d_fits same =
    let first = one_field a c (field b) (field d) a_fits c_fits same in
    (first.0, one_last_field b d b_fits d_fits first.1)
