-- A loop over the items of a kind: what it has read, and what is left.
use Rattle.std.proofs.Common.{◌≡◌, ℕ, zero, suc, ◌+◌, ◌-◌, ◌<◌, Bool, true, false, cond, List, [], ◌∷◌, ◌++◌, length, Option, Some, None, Err, refl, sym, ap, ◌∙◌, append_assoc, length-append, arith}
use Rattle.std.proofs.lemmas.Option.{cond_some}
use Rattle.std.proofs.lemmas.List.{append-nil}
use Rattle.std.specs.List.{slice_get}
use Rattle.pb_bytes.specs.Reading.{◌>>=◌}
use Rattle.pb_edit.specs.declared.read.ReadError.{ReadError}
use Rattle.pb_edit.specs.declared.read.ReadError.TheVariants.{Off, NoMemory}
use Rattle.pb_edit.specs.Reading.{Gives, ItemKind, begins, content_from, content_behind, last_of, items_at, all_at}

-- what was read before, and what is still read
abbrev pub with_front : {X : Type 0} → List X → Option (List X × List ℕ) → Option (List X × List ℕ)
with_front front read = read >>= λ others. Some (front ++ others.0, others.1)

regroup : {X : Type 0} (front : List X) (item : X) (read : Option (List X × List ℕ)) → with_front front (read >>= λ others. Some (item ∷ others.0, others.1)) ≡ with_front (front ++ item ∷ []) read
regroup front item None = refl
regroup {X = X} front item (Some others) = ap (λ (xs : List X). Some (xs, others.1)) (sym (append_assoc front (item ∷ []) others.0))

-- the last of a list that has grown
pub last_of-push : {X : Type 0} (front : List X) (item : X) → last_of (front ++ item ∷ []) ≡ Some item
last_of-push {X = X} front item =
    let at : length (front ++ item ∷ []) - 1 ≡ length front = omega (arith, length-append front (item ∷ [])) in
    rw at (at_end front)
  where
    at_end : (xs : List X) → slice_get (xs ++ item ∷ []) (length xs) ≡ Some item
    at_end [] = refl
    at_end (x ∷ xs) = at_end xs

none_if : {X : Type 0} (b : Bool) (x : X) → cond b (Some x) None ≡ None → b ≡ false
none_if true x e = absurd cc
none_if false x e = refl

-- where no item begins, there are none
pub no_items : {X : Type 0} (kind : ItemKind X) (most : ℕ) (last : Option X) (bytes : List ℕ) → content_from kind bytes ≡ None → items_at kind most last bytes ≡ Some ([], bytes)
unfolding items_at
no_items kind most last [] e = refl
no_items kind zero last (byte ∷ rest) e = rw (none_if (begins kind byte) rest e) refl
no_items kind (suc most) last (byte ∷ rest) e = rw (none_if (begins kind byte) rest e) refl

-- where one begins, it comes first
pub first_item : {X : Type 0} (kind : ItemKind X) (most : ℕ) (last : Option X) (bytes content : List ℕ) → content_from kind bytes ≡ Some content
    → items_at kind (suc most) last bytes ≡ (content_behind kind last content >>= λ read. items_at kind most (Some read.0) read.1 >>= λ others. Some (read.0 ∷ others.0, others.1))
unfolding items_at
first_item kind most last [] content e = absurd cc
first_item kind most last (byte ∷ rest) content e =
    let parts = cond_some (begins kind byte) rest content e in
    rw (parts.0, parts.1) refl

-- one more item
pub goes_on : {X : Type 0} (kind : ItemKind X) (front before after : List X) (bytes content from behind : List ℕ) (item : X) → before ≡ front → after ≡ front ++ item ∷ [] → Some content ≡ content_from kind bytes
    → content_behind kind (last_of before) content ≡ Some (item, behind) → length front < length from
    → with_front front (items_at kind (length from - length front) (last_of front) bytes) ≡ all_at kind from
    → with_front after (items_at kind (length from - length after) (last_of after) behind) ≡ all_at kind from
goes_on {X = X} kind front before after bytes content from behind item is_front is_after begun read room so_far =
    let most = length from - length after in
    let longer : length after ≡ length front + 1 = ap length is_after ∙ length-append front (item ∷ []) in
    let more : length from - length front ≡ suc most = omega arith in
    let last : last_of after ≡ Some item = ap last_of is_after ∙ last_of-push front item in
    let here : content_behind kind (last_of front) content ≡ Some (item, behind) = rw is_front at read in
    let first : items_at kind (suc most) (last_of front) bytes ≡ (items_at kind most (Some item) behind >>= λ others. Some (item ∷ others.0, others.1)) = rw (first_item kind most (last_of front) bytes content (sym begun), here) refl in
    let left : with_front front (items_at kind (length from - length front) (last_of front) bytes) ≡ with_front (front ++ item ∷ []) (items_at kind most (Some item) behind) = rw (more, first) (regroup front item (items_at kind most (Some item) behind)) in
    let right : with_front after (items_at kind most (last_of after) behind) ≡ with_front (front ++ item ∷ []) (items_at kind most (Some item) behind) = rw last (ap (λ (xs : List X). with_front xs (items_at kind most (Some item) behind)) is_after) in
    right ∙ sym left ∙ so_far

-- an item that can't be read
pub ends : {X : Type 0} (error : ReadError) (kind : ItemKind X) (front before : List X) (bytes content from : List ℕ) → before ≡ front → Some content ≡ content_from kind bytes
    → Gives {X = X × List ℕ} {Y = X × List ℕ} (λ read. read) (Err error) (content_behind kind (last_of before) content) → length front < length from
    → with_front front (items_at kind (length from - length front) (last_of front) bytes) ≡ all_at kind from
    → Gives {X = X × List ℕ} {Y = List X × List ℕ} (λ read. (read.0 ∷ [], read.1)) (Err error) (all_at kind from)
ends Off kind front before bytes content from is_front begun off room so_far =
    let most = length from - length front - 1 in
    let more : length from - length front ≡ suc most = omega arith in
    let here : content_behind kind (last_of front) content ≡ None = rw is_front at off in
    let first : items_at kind (suc most) (last_of front) bytes ≡ None = rw (first_item kind most (last_of front) bytes content (sym begun), here) refl in
    let step : with_front front (items_at kind (length from - length front) (last_of front) bytes) ≡ None = rw (more, first) refl in
    sym so_far ∙ step
ends NoMemory kind front before bytes content from is_front begun off room so_far = tt

-- no item is left
pub all_read : {X : Type 0} (kind : ItemKind X) (front : List X) (bytes from : List ℕ) → None ≡ content_from kind bytes
    → with_front front (items_at kind (length from - length front) (last_of front) bytes) ≡ all_at kind from → all_at kind from ≡ Some (front, bytes)
all_read {X = X} kind front bytes from none so_far =
    let step : with_front front (items_at kind (length from - length front) (last_of front) bytes) ≡ Some (front, bytes) = rw (no_items kind (length from - length front) (last_of front) bytes (sym none)) (ap (λ (xs : List X). Some (xs, bytes)) (append-nil front)) in
    sym so_far ∙ step
