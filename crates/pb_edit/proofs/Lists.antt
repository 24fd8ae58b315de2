-- The items of a kind that are read are those that are spelled, and what is spelled is read again.
use Rattle.std.proofs.Common.{◌≡◌, inl, inr, ℕ, zero, suc, ◌<◌, ◌≤◌, true, cond, eqb, List, [], ◌∷◌, ◌++◌, length, Option, Some, None, refl, sym, ap, subst, ◌∙◌, append_assoc, length-append, arith}
use Rattle.std.specs.Prelude.{IfSome}
use Rattle.std.specs.List.{AllByRecursion}
use Rattle.std.specs.Option.{option_to_list}
use Rattle.std.proofs.lemmas.Bool.{cases_Bool, eqb-true, eq-eqb, ne_eqb}
use Rattle.std.proofs.lemmas.Option.{cond_some, same_Some}
use Rattle.pb_bytes.specs.Reading.{◌>>=◌, number_split}
use Rattle.pb_bytes.specs.Varint.{varint}
use Rattle.pb_bytes.proofs.Steps.{bind_some, Splits, both_split}
use Rattle.pb_edit.specs.Grammar.{number_item, items, Ascend, AreItems}
use Rattle.pb_bytes.specs.Number.{IsNumber}
use Rattle.pb_edit.specs.Reading.{ItemKind, begins, content_from, may_follow, content_behind, items_at, all_at, optional_at}
use Rattle.pb_edit.proofs.Parts.{number_takes, number_again}
use Rattle.pb_edit.proofs.Contents.{ReadsContents}
use Rattle.pb_edit.proofs.Loops.{no_items, first_item}

-- ---- what stands behind the items of a kind

-- the bytes begin with no kind up to this one
abbrev pub StartsAbove : ℕ → List ℕ → Type 0
StartsAbove kind [] = Unit {0}
StartsAbove kind (byte ∷ rest) = kind < byte

pub StartsAbove-number : (low kind : ℕ) (number : Option ℕ) (rest : List ℕ) → low < kind → StartsAbove low rest → StartsAbove low (number_item kind number ++ rest)
StartsAbove-number low kind None rest below above = above
StartsAbove-number low kind (Some number) rest below above = below

pub StartsAbove-items : {X : Type 0} (low kind : ℕ) (content : X → List ℕ) (xs : List X) (rest : List ℕ) → low < kind → StartsAbove low rest → StartsAbove low (items kind content xs ++ rest)
StartsAbove-items low kind content [] rest below above = above
StartsAbove-items low kind content (x ∷ xs) rest below above = below

headed : (byte kind : ℕ) (rest spelled : List ℕ) → byte ≡ kind → rest ≡ spelled → byte ∷ rest ≡ kind ∷ spelled
headed byte kind rest spelled same is = λ i. same i ∷ is i

-- ---- one number

pub optional_takes : (kind : ℕ) (bytes : List ℕ) (x : Option ℕ × List ℕ) → optional_at kind bytes ≡ Some x → Splits bytes (number_item kind x.0) x.1 × IfSome x.0 IsNumber
unfolding optional_at
optional_takes kind [] x e = subst (λ (y : Option ℕ × List ℕ). Splits [] (number_item kind y.0) y.1 × IfSome y.0 IsNumber) (same_Some (None, []) x e) (refl, tt)
optional_takes kind (byte ∷ rest) x e =
    elim (cases_Bool (eqb byte kind)) [
      | inl same ↦
          let number = bind_some (number_split rest) (λ number. Some (Some number.0, number.1)) x (rw same at e) in
          let is_number = number_takes rest number.0 number.1 in
          let made : Option ℕ × List ℕ = (Some number.0.0, number.0.1) in
          let here : byte ∷ rest ≡ kind ∷ (varint number.0.0 ++ number.0.1) = headed byte kind rest (varint number.0.0 ++ number.0.1) (eqb-true byte kind same) is_number.0 in
          subst (λ (y : Option ℕ × List ℕ). Splits (byte ∷ rest) (number_item kind y.0) y.1 × IfSome y.0 IsNumber) (same_Some made x number.2) (here, is_number.1)
      | inr other ↦
          let none : ◌≡◌ {A = Option (Option ℕ × List ℕ)} (Some (None, byte ∷ rest)) (Some x) = rw other at e in
          subst (λ (y : Option ℕ × List ℕ). Splits (byte ∷ rest) (number_item kind y.0) y.1 × IfSome y.0 IsNumber) (same_Some (None, byte ∷ rest) x none) (refl, tt)
    ]

pub optional_again : (kind : ℕ) (number : Option ℕ) (rest : List ℕ) → IfSome number IsNumber → StartsAbove kind rest → optional_at kind (number_item kind number ++ rest) ≡ Some (number, rest)
unfolding optional_at
optional_again kind None [] is above = refl
optional_again kind None (byte ∷ rest) is above =
    let other : byte ≡ kind → ⊥ = (λ same. absurd (omega arith)) in
    rw (ne_eqb byte kind other) refl
optional_again kind (Some number) rest is above = rw (eq-eqb kind kind refl, number_again number rest is) refl

-- ---- a list

-- in form behind the last one
pub record FollowItems {X : Type 0} (kind : ItemKind X) (IsItem : X → Type 0) (last : Option X) (xs : List X) : Type 0 where
  pub each : AllByRecursion IsItem xs
  pub ascend : Ascend kind.is_below (option_to_list last ++ xs)

none_follow : {X : Type 0} (kind : ItemKind X) (IsItem : X → Type 0) (last : Option X) → FollowItems kind IsItem last []
none_follow kind IsItem None = record { each = tt; ascend = tt }
none_follow kind IsItem (Some last) = record { each = tt; ascend = tt }

ascend_more : {X : Type 0} (kind : ItemKind X) (last : Option X) (x : X) (xs : List X) → may_follow kind last x ≡ true → Ascend kind.is_below (x ∷ xs) → Ascend kind.is_below (option_to_list last ++ (x ∷ xs))
ascend_more kind None x xs follows ascend = ascend
ascend_more kind (Some last) x xs follows ascend = (follows, ascend)

ascend_first : {X : Type 0} (kind : ItemKind X) (last : Option X) (x : X) (xs : List X) → Ascend kind.is_below (option_to_list last ++ (x ∷ xs)) → (may_follow kind last x ≡ true) × Ascend kind.is_below (x ∷ xs)
ascend_first kind None x xs ascend = (refl, ascend)
ascend_first kind (Some last) x xs ascend = ascend

pub items_takes : {X : Type 0} (kind : ItemKind X) (content : X → List ℕ) (IsItem : X → Type 0) → ReadsContents kind content IsItem → (most : ℕ) (last : Option X) (bytes : List ℕ) (read : List X × List ℕ)
    → items_at kind most last bytes ≡ Some read → Splits bytes (items kind.byte content read.0) read.1 × FollowItems kind IsItem last read.0
unfolding items_at
items_takes {X = X} kind content IsItem reads most last [] read e =
    subst (λ (y : List X × List ℕ). Splits [] (items kind.byte content y.0) y.1 × FollowItems kind IsItem last y.0) (same_Some ([], []) read e) (refl, none_follow kind IsItem last)
items_takes {X = X} kind content IsItem reads zero last (byte ∷ rest) read e =
    elim (cases_Bool (begins kind byte)) [
      | inl here ↦
          let none : ◌≡◌ {A = Option (List X × List ℕ)} None (Some read) = rw here at e in
          absurd (cc)
      | inr other ↦
          let none : ◌≡◌ {A = Option (List X × List ℕ)} (Some ([], byte ∷ rest)) (Some read) = rw other at e in
          subst (λ (y : List X × List ℕ). Splits (byte ∷ rest) (items kind.byte content y.0) y.1 × FollowItems kind IsItem last y.0) (same_Some ([], byte ∷ rest) read none) (refl, none_follow kind IsItem last)
    ]
items_takes {X = X} kind content IsItem reads (suc most) last (byte ∷ rest) read e =
    elim (cases_Bool (begins kind byte)) [
      | inl here ↦
          let more : (content_behind kind last rest >>= λ first. items_at kind most (Some first.0) first.1 >>= λ others. Some (first.0 ∷ others.0, others.1)) ≡ Some read = rw here at e in
          let first = bind_some (content_behind kind last rest) (λ first. items_at kind most (Some first.0) first.1 >>= λ others. Some (first.0 ∷ others.0, others.1)) read more in
          let others = bind_some (items_at kind most (Some first.0.0) first.0.1) (λ others. Some (first.0.0 ∷ others.0, others.1)) read first.2 in
          let item = bind_some (kind.content_at rest) (λ item. cond (may_follow kind last item.0) (Some item) None) first.0 first.1 in
          let follows = cond_some (may_follow kind last item.0.0) item.0 first.0 item.2 in
          let is_item = reads.takes rest first.0 (item.1 ∙ ap Some follows.1) in
          let are_others = items_takes kind content IsItem reads most (Some first.0.0) first.0.1 others.0 others.1 in
          let first_follows : may_follow kind last first.0.0 ≡ true = ap (λ (y : X × List ℕ). may_follow kind last y.0) (sym follows.1) ∙ follows.0 in
          let made : List X × List ℕ = (first.0.0 ∷ others.0.0, others.0.1) in
          let spelled : Splits (byte ∷ rest) (items kind.byte content made.0) made.1 =
          headed byte kind.byte rest ((content first.0.0 ++ items kind.byte content others.0.0) ++ others.0.1) (eqb-true byte kind.byte here)
          (both_split rest first.0.1 others.0.1 (content first.0.0) (items kind.byte content others.0.0) is_item.0 are_others.0) in
          subst (λ (y : List X × List ℕ). Splits (byte ∷ rest) (items kind.byte content y.0) y.1 × FollowItems kind IsItem last y.0) (same_Some made read others.2)
          (spelled, record { each = (is_item.1, are_others.1.each); ascend = ascend_more kind last first.0.0 others.0.0 first_follows are_others.1.ascend })
      | inr other ↦
          let none : ◌≡◌ {A = Option (List X × List ℕ)} (Some ([], byte ∷ rest)) (Some read) = rw other at e in
          subst (λ (y : List X × List ℕ). Splits (byte ∷ rest) (items kind.byte content y.0) y.1 × FollowItems kind IsItem last y.0) (same_Some ([], byte ∷ rest) read none) (refl, none_follow kind IsItem last)
    ]

-- no item begins where a later kind does
none_begins : {X : Type 0} (kind : ItemKind X) (rest : List ℕ) → StartsAbove kind.byte rest → content_from kind rest ≡ None
none_begins kind [] above = refl
none_begins kind (byte ∷ rest) above =
    let other : byte ≡ kind.byte → ⊥ = (λ same. absurd (omega arith)) in
    rw (ne_eqb byte kind.byte other) refl

pub items_again : {X : Type 0} (kind : ItemKind X) (content : X → List ℕ) (IsItem : X → Type 0) → ReadsContents kind content IsItem → (most : ℕ) (last : Option X) (xs : List X) (rest : List ℕ)
    → length xs ≤ most → FollowItems kind IsItem last xs → StartsAbove kind.byte rest → items_at kind most last (items kind.byte content xs ++ rest) ≡ Some (xs, rest)
items_again kind content IsItem reads most last [] rest enough follow above = no_items kind most last rest (none_begins kind rest above)
items_again kind content IsItem reads zero last (x ∷ xs) rest enough follow above = absurd (omega arith)
items_again {X = X} kind content IsItem reads (suc most) last (x ∷ xs) rest enough follow above =
    let tail = items kind.byte content xs ++ rest in
    let first = ascend_first kind last x xs follow.ascend in
    let here : begins kind kind.byte ≡ true = eq-eqb kind.byte kind.byte refl in
    let begun : content_from kind (kind.byte ∷ (content x ++ tail)) ≡ Some (content x ++ tail) = rw here refl in
    let item : content_behind kind last (content x ++ tail) ≡ Some (x, tail) = rw (reads.again x tail follow.each.0, first.0) refl in
    let others = items_again kind content IsItem reads most (Some x) xs rest (omega arith) (record { each = follow.each.1; ascend = first.1 }) above in
    let spelled : items kind.byte content (x ∷ xs) ++ rest ≡ kind.byte ∷ (content x ++ tail) = ap (λ (t : List ℕ). kind.byte ∷ t) (append_assoc (content x) (items kind.byte content xs) rest) in
    ap (items_at kind (suc most) last) spelled ∙ first_item kind most last (kind.byte ∷ (content x ++ tail)) (content x ++ tail) begun ∙ rw (item, others) refl

-- each item has one byte at least
length-items : {X : Type 0} (kind : ℕ) (content : X → List ℕ) (xs : List X) → length xs ≤ length (items kind content xs)
length-items kind content [] = omega arith
length-items kind content (x ∷ xs) = omega (arith, length-items kind content xs, length-append (content x) (items kind content xs))

-- ---- all of a kind

pub all_takes : {X : Type 0} (kind : ItemKind X) (content : X → List ℕ) (IsItem : X → Type 0) → ReadsContents kind content IsItem → (bytes : List ℕ) (read : List X × List ℕ)
    → all_at kind bytes ≡ Some read → Splits bytes (items kind.byte content read.0) read.1 × AreItems IsItem kind.is_below read.0
all_takes kind content IsItem reads bytes read e =
    let takes = items_takes kind content IsItem reads (length bytes) None bytes read e in
    (takes.0, record { each = takes.1.each; ascend = takes.1.ascend })

pub all_again : {X : Type 0} (kind : ItemKind X) (content : X → List ℕ) (IsItem : X → Type 0) → ReadsContents kind content IsItem → (xs : List X) (rest : List ℕ)
    → AreItems IsItem kind.is_below xs → StartsAbove kind.byte rest → all_at kind (items kind.byte content xs ++ rest) ≡ Some (xs, rest)
all_again kind content IsItem reads xs rest are above =
    items_again kind content IsItem reads (length (items kind.byte content xs ++ rest)) None xs rest (omega (arith, length-items kind.byte content xs, length-append (items kind.byte content xs) rest))
    (record { each = are.each; ascend = are.ascend }) above
