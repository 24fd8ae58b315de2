-- Counted lists of items of which no spelling begins another: one list has the bytes, and how far a list is read.
use Rattle.std.proofs.Common.{◌≡◌, ℕ, suc, ◌+◌, ◌<◌, ◌≤◌, ◌^◌, List, [], ◌∷◌, ◌++◌, length, refl, sym, ap, ◌∙◌, arith, append_assoc, length-append}
use Rattle.std.specs.List.{All, flat_map}
use Rattle.std.proofs.lemmas.List.{append-nil, flat_map_more, nil_from_length}
use Rattle.std.proofs.lemmas.List.Elements.{All-nil, All-append, All-cons}
use Rattle.pb_bytes.specs.Varint.{varint}
use Rattle.pb_bytes.proofs.ReadingLemmas.{one_varint}
use Rattle.pb_table.specs.Spelling.{counted}

-- of the items in form, no spelling begins another
abbrev pub OneStart : {X : Type 0} → (X → List ℕ) → (X → Type 0) → Type 0
OneStart {X = X} spelling Form = (a b : X) (x y : List ℕ) → Form a → Form b → spelling a ++ x ≡ spelling b ++ y → (a ≡ b) × (x ≡ y)

-- the items that were read begin the whole list, and what is left spells the others
pub record Continues {X : Type 0} (spelling : X → List ℕ) (Form : X → Type 0) (read whole : List X) (left behind : List ℕ) : Type 0 where
  pub others : List X
  pub joined : whole ≡ read ++ others
  pub in_form : All Form others
  pub spelled : left ≡ flat_map spelling others ++ behind

pub continues : {X : Type 0} (spelling : X → List ℕ) (Form : X → Type 0) → OneStart spelling Form
    → (read whole : List X) (left behind : List ℕ) → All Form read → All Form whole → length read ≤ length whole
    → flat_map spelling read ++ left ≡ flat_map spelling whole ++ behind → Continues spelling Form read whole left behind
continues spelling Form one [] whole left behind formed all within same = record { others = whole; joined = refl; in_form = all; spelled = same }
continues spelling Form one (a ∷ read) [] left behind formed all within same = absurd (omega arith)
continues spelling Form one (a ∷ read) (b ∷ whole) left behind formed all within same =
    let grouped : spelling a ++ (flat_map spelling read ++ left) ≡ spelling b ++ (flat_map spelling whole ++ behind) =
    sym (append_assoc (spelling a) (flat_map spelling read) left) ∙ same ∙ append_assoc (spelling b) (flat_map spelling whole) behind in
    let first = one a b (flat_map spelling read ++ left) (flat_map spelling whole ++ behind) (formed 0 a (omega arith)) (all 0 b (omega arith)) grouped in
    let next = continues spelling Form one read whole left behind (λ k d h. formed (suc k) d (omega arith)) (λ k d h. all (suc k) d (omega arith)) (omega arith) first.1 in
    record { others = next.others; joined = λ i. sym first.0 i ∷ next.joined i; in_form = next.in_form; spelled = next.spelled }

-- bytes begin with one counted list at most
pub one_counted : {X : Type 0} (spelling : X → List ℕ) (Form : X → Type 0) → OneStart spelling Form
    → (a b : List X) (x y : List ℕ) → All Form a → All Form b → length a < 2 ^ 64 → length b < 2 ^ 64
    → counted spelling a ++ x ≡ counted spelling b ++ y → (a ≡ b) × (x ≡ y)
one_counted {X = X} spelling Form one a b x y a_formed b_formed a_fits b_fits same =
    let grouped : varint (length a) ++ (flat_map spelling a ++ x) ≡ varint (length b) ++ (flat_map spelling b ++ y) =
    sym (append_assoc (varint (length a)) (flat_map spelling a) x) ∙ same ∙ append_assoc (varint (length b)) (flat_map spelling b) y in
    let number = one_varint (length a) (length b) (flat_map spelling a ++ x) (flat_map spelling b ++ y) a_fits b_fits grouped in
    let as_many : length a ≡ length b = number.0 in
    let rest = continues spelling Form one a b x y a_formed b_formed (omega arith) number.1 in
    let sum : length b ≡ length a + length rest.others = ap length rest.joined ∙ length-append a rest.others in
    let none : rest.others ≡ [] = nil_from_length rest.others (omega arith) in
    (sym (rest.joined ∙ ap (λ (others : List X). a ++ others) none ∙ append-nil a), rest.spelled ∙ ap (λ (others : List X). flat_map spelling others ++ y) none)

-- so many items are to be read, and these were; the rest is left
pub record ReadSoFar {X : Type 0} (spelling : X → List ℕ) (Form : X → Type 0) (from : List ℕ) (count : ℕ) (items : List X) (left : List ℕ) : Type 0 where
  pub split : from ≡ varint count ++ (flat_map spelling items ++ left)
  pub in_form : All Form items

-- one item more
pub read_more : {X : Type 0} (spelling : X → List ℕ) (Form : X → Type 0) (from : List ℕ) (count : ℕ) (items : List X) (left : List ℕ) (item : X) (behind : List ℕ)
    → ReadSoFar spelling Form from count items left → left ≡ spelling item ++ behind → Form item
    → ReadSoFar spelling Form from count (items ++ item ∷ []) behind
read_more spelling Form from count items left item behind so_far next formed = record {
  split = so_far.split
      ∙ ap (λ (l : List ℕ). varint count ++ (flat_map spelling items ++ l)) next
      ∙ ap (λ (l : List ℕ). varint count ++ l) (sym (append_assoc (flat_map spelling items) (spelling item) behind) ∙ ap (λ (l : List ℕ). l ++ behind) (flat_map_more spelling [] items item));
  in_form = All-append Form items (item ∷ []) so_far.in_form (All-cons Form item [] formed (All-nil Form));
}

-- the next of the other items
next_is_off : {X : Type 0} (spelling : X → List ℕ) (Form : X → Type 0) (left behind : List ℕ) (others : List X)
    → ((item : X) (behind : List ℕ) → Form item → left ≡ spelling item ++ behind → ⊥)
    → 0 < length others → All Form others → left ≡ flat_map spelling others ++ behind → ⊥
next_is_off spelling Form left behind [] off some formed spelled = absurd (omega arith)
next_is_off spelling Form left behind (item ∷ others) off some formed spelled =
    off item (flat_map spelling others ++ behind) (formed 0 item (omega arith)) (spelled ∙ append_assoc (spelling item) (flat_map spelling others) behind)

-- where none of the items in form begins what is left, no list of them begins the whole
pub stops_short : {X : Type 0} (spelling : X → List ℕ) (Form : X → Type 0) → OneStart spelling Form
    → (from : List ℕ) (count : ℕ) (items : List X) (left : List ℕ) → ReadSoFar spelling Form from count items left
    → count < 2 ^ 64 → length items < count → ((item : X) (behind : List ℕ) → Form item → left ≡ spelling item ++ behind → ⊥)
    → (whole : List X) (behind : List ℕ) → All Form whole → length whole < 2 ^ 64 → from ≡ counted spelling whole ++ behind → ⊥
stops_short {X = X} spelling Form one from count items left so_far fits short off whole behind formed whole_fits same =
    let grouped = sym so_far.split ∙ same ∙ append_assoc (varint (length whole)) (flat_map spelling whole) behind in
    let number = one_varint count (length whole) (flat_map spelling items ++ left) (flat_map spelling whole ++ behind) fits whole_fits grouped in
    let as_many : count ≡ length whole = number.0 in
    let rest = continues spelling Form one items whole left behind so_far.in_form formed (omega arith) number.1 in
    let sum : length whole ≡ length items + length rest.others = ap length rest.joined ∙ length-append items rest.others in
    next_is_off spelling Form left behind rest.others off (omega arith) rest.in_form rest.spelled
