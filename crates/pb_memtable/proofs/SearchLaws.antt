-- What halving over the rows finds.
use Rattle.std.proofs.Common.{◌≡◌, ℕ, ◌+◌, ◌<◌, ◌≤◌, List, length, get_or, Bool, true, false, refl, sym, ap, ◌∙◌, arith}
use Rattle.std.specs.Ordering.{is_lt}
use Rattle.std.proofs.lemmas.List.{get_or-map, length-map}
use Rattle.pb_keys.specs.Key.{key_cmp, prefix_of, suffix_of, is_before}
use Rattle.pb_memtable.specs.Search.{IsPlaceOf, change_at, row_of_change, rows_at}
use Rattle.std.proofs.lemmas.Bool.{false_from_ne_true}
use Rattle.pb_rows.specs.Layer.{KeyRow, Rise}
use Rattle.pb_rows.proofs.LookLaws.{is_row_below, rows_are_parted}
use Rattle.pb_wal.specs.declared.entry.Change.{Change}

pub before_key : (key k : List ℕ) → is_before (prefix_of key) (suffix_of key) k ≡ is_lt (key_cmp k key)
unfolding key_cmp
before_key key k = refl

pub row_at_place : (changes : List Change) (places : List ℕ) (k : ℕ) (d : KeyRow) → k < length places → get_or (rows_at changes places) k d ≡ row_of_change (change_at changes (get_or places k 0))
row_at_place changes places k d within = get_or-map (λ place. row_of_change (change_at changes place)) places k 0 d within

pub length-rows_at : (changes : List Change) (places : List ℕ) → length (rows_at changes places) ≡ length places
length-rows_at changes places = length-map places (λ place. row_of_change (change_at changes place))

-- the rows below lo are below the key, and those from hi on aren't
pub record IsBetween (key : List ℕ) (rows : List KeyRow) (lo hi : ℕ) : Type 0 where
  pub before : (k : ℕ) (d : KeyRow) → k < lo → is_row_below key (get_or rows k d) ≡ true
  pub behind : (k : ℕ) (d : KeyRow) → hi ≤ k → k < length rows → is_row_below key (get_or rows k d) ≡ false

pub all_between : (key : List ℕ) (rows : List KeyRow) (n : ℕ) → length rows ≡ n → IsBetween key rows 0 n
all_between key rows n e = record { before = λ k d h. absurd (omega arith); behind = λ k d h within. absurd (omega arith) }

pub upper_half : (key : List ℕ) (rows : List KeyRow) (lo hi middle : ℕ) → Rise rows → IsBetween key rows lo hi → middle < length rows → ((d : KeyRow) → is_row_below key (get_or rows middle d) ≡ true) → IsBetween key rows (middle + 1) hi
upper_half key rows lo hi middle rise between within below = record {
  before = λ k d h. rows_are_parted rows key rise k middle d (omega arith) within (below d);
  behind = between.behind;
}

pub lower_half : (key : List ℕ) (rows : List KeyRow) (lo hi middle : ℕ) → Rise rows → IsBetween key rows lo hi → ((d : KeyRow) → is_row_below key (get_or rows middle d) ≡ false) → IsBetween key rows lo middle
lower_half key rows lo hi middle rise between other = record {
  before = between.before;
  behind = λ k d h within. false_from_ne_true (is_row_below key (get_or rows k d)) (λ e.
      let first : is_row_below key (get_or rows middle d) ≡ true = rows_are_parted rows key rise middle k d h within e in
      let none : is_row_below key (get_or rows middle d) ≡ false = other d in
      cc);
}

pub one_place : (key : List ℕ) (rows : List KeyRow) (lo hi : ℕ) → hi ≤ lo → lo ≤ length rows → IsBetween key rows lo hi → IsPlaceOf key rows lo
one_place key rows lo hi done within between = record {
  within = within;
  parted = (λ k d _ h. between.before k d h, λ k d h inside. between.behind k d (omega arith) inside);
}

-- what the test of a row's key says, where the parts are those of a key
pub read_test : (changes : List Change) (places : List ℕ) (at : ℕ) (key prefix suffix k : List ℕ) (b : Bool) → at < length places → k ≡ (row_of_change (change_at changes (get_or places at 0))).key → is_before prefix suffix k ≡ b → prefix ≡ prefix_of key → suffix ≡ suffix_of key → (d : KeyRow) → is_row_below key (get_or (rows_at changes places) at d) ≡ b
read_test changes places at key prefix suffix k b within k_is test prefix_is suffix_is d =
    ap (is_row_below key) (row_at_place changes places at d within) ∙ ap (λ x. is_lt (key_cmp x key)) (sym k_is)
    ∙ sym (before_key key k) ∙ (λ i. is_before (sym prefix_is i) (sym suffix_is i) k) ∙ test
