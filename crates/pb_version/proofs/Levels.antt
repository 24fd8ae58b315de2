-- What is said of each level, and of the tables of all levels taken together.
use Rattle.std.proofs.Common.{◌≡◌, ℕ, ◌+◌, List, [], ◌∷◌, ◌++◌, Bool, true, false, cond, get_or, length, suc, refl, ap, sym, ◌∙◌, arith, length-append, ◌<◌, drop, zero}
use Rattle.std.proofs.lemmas.Bool.Decides.{nat_tests}
use Rattle.std.proofs.lemmas.List.{append-nil, drop_more}
use Rattle.std.proofs.lemmas.List.Folds.{list_all-append}
use Rattle.std.specs.Prelude.{not, ◌==◌, ◌&&◌, ◌||◌, map, slice_index_or}
use Rattle.std.specs.List.{list_any, list_all}
use Rattle.pb_keys.proofs.Tests.{either_groups}
use Rattle.pb_version.specs.Version.{TableView, flattened}
use Rattle.pb_version.specs.Edited.{each_level}
use Rattle.pb_edit.specs.Edit.{DeletedItem}
use Rattle.pb_version.specs.State.{is_touched}
use Rattle.pb_version.specs.Judged.{all_levels, any_level, each_two, seven, total, is_gone, stay, tables_after}
use Rattle.pb_version.proofs.Lists.{left, right}

-- ---- the tables of all levels

pub flattened_cons : {X : Type 0} (xs : List X) (xss : List (List X)) → flattened (xs ∷ xss) ≡ xs ++ flattened xss
flattened_cons xs [] = sym (append-nil xs)
flattened_cons xs (ys ∷ others) = refl

pub list_all_flattened : {X : Type 0} (q : X → Bool) (xss : List (List X)) → list_all q (flattened xss) ≡ list_all (λ xs. list_all q xs) xss
list_all_flattened q [] = refl
list_all_flattened q (xs ∷ xss) =
    ap (list_all q) (flattened_cons xs xss) ∙ list_all-append q xs (flattened xss) ∙ ap (λ b. list_all q xs && b) (list_all_flattened q xss)

pub any_append : {X : Type 0} (q : X → Bool) (xs ys : List X) → list_any q (xs ++ ys) ≡ (list_any q xs || list_any q ys)
any_append q [] ys = refl
any_append q (x ∷ xs) ys = ap (λ b. q x || b) (any_append q xs ys) ∙ sym (either_groups (q x) (list_any q xs) (list_any q ys))

pub list_any_flattened : {X : Type 0} (q : X → Bool) (xss : List (List X)) → list_any q (flattened xss) ≡ list_any (λ xs. list_any q xs) xss
list_any_flattened q [] = refl
list_any_flattened q (xs ∷ xss) =
    ap (list_any q) (flattened_cons xs xss) ∙ any_append q xs (flattened xss) ∙ ap (λ b. list_any q xs || b) (list_any_flattened q xss)

-- ---- each level

pub all_each : {X : Type 0} (p : X → Bool) (f : ℕ → List TableView → X) (k : ℕ) (ls : List (List TableView)) →
    list_all p (each_level f k ls) ≡ all_levels (λ l ts. p (f l ts)) k ls
all_each p f k [] = refl
all_each p f k (ts ∷ ls) = ap (λ b. p (f k ts) && b) (all_each p f (k + 1) ls)

pub any_each : {X : Type 0} (p : X → Bool) (f : ℕ → List TableView → X) (k : ℕ) (ls : List (List TableView)) →
    list_any p (each_level f k ls) ≡ any_level (λ l ts. p (f l ts)) k ls
any_each p f k [] = refl
any_each p f k (ts ∷ ls) = ap (λ b. p (f k ts) || b) (any_each p f (k + 1) ls)

pub each_of_each : {X : Type 0} (g : ℕ → List TableView → X) (f : ℕ → List TableView → List TableView) (k : ℕ) (ls : List (List TableView)) →
    each_level g k (each_level f k ls) ≡ each_level (λ l ts. g l (f l ts)) k ls
each_of_each g f k [] = refl
each_of_each g f k (ts ∷ ls) = ap (λ xs. g k (f k ts) ∷ xs) (each_of_each g f (k + 1) ls)

-- the second list was made level by level
pub two_of_each : {X : Type 0} (f : ℕ → List TableView → List TableView → X) (g : ℕ → List TableView → List TableView) (k : ℕ) (ls : List (List TableView)) →
    each_two f k (each_level g k ls) ls ≡ each_level (λ l ts. f l (g l ts) ts) k ls
two_of_each f g k [] = refl
two_of_each f g k (ts ∷ ls) = ap (λ xs. f k (g k ts) ts ∷ xs) (two_of_each f g (k + 1) ls)

pub levels_gives : (p q r : ℕ → List TableView → Bool) → ((l : ℕ) (ts : List TableView) → p l ts ≡ true → q l ts ≡ true → r l ts ≡ true) →
    (k : ℕ) (ls : List (List TableView)) → all_levels p k ls ≡ true → all_levels q k ls ≡ true → all_levels r k ls ≡ true
levels_gives p q r gives k [] e d = refl
levels_gives p q r gives k (ts ∷ ls) e d = λ i.
    gives k ts (left (p k ts) (all_levels p (k + 1) ls) e) (left (q k ts) (all_levels q (k + 1) ls) d) i
    && levels_gives p q r gives (k + 1) ls (right (p k ts) (all_levels p (k + 1) ls) e) (right (q k ts) (all_levels q (k + 1) ls) d) i

-- two tests that agree where a third holds of the tables
pub levels_same : (h : List TableView → Bool) (p q : ℕ → List TableView → Bool) → ((l : ℕ) (ts : List TableView) → h ts ≡ true → p l ts ≡ q l ts) →
    (k : ℕ) (ls : List (List TableView)) → list_all h ls ≡ true → all_levels p k ls ≡ all_levels q k ls
levels_same h p q same k [] e = refl
levels_same h p q same k (ts ∷ ls) e = λ i.
    same k ts (left (h ts) (list_all h ls) e) i && levels_same h p q same (k + 1) ls (right (h ts) (list_all h ls) e) i

pub levels_all : (h : List TableView → Bool) (k : ℕ) (ls : List (List TableView)) → list_all h ls ≡ all_levels (λ l ts. h ts) k ls
levels_all h k [] = refl
levels_all h k (ts ∷ ls) = ap (λ b. h ts && b) (levels_all h (k + 1) ls)

-- ---- seven levels

pub each_is_seven : {X : Type 0} (f : ℕ → X) (ls : List (List TableView)) → length ls ≡ 7 → each_level (λ l ts. f l) 0 ls ≡ seven f
each_is_seven f [] e = cc
each_is_seven f (a ∷ []) e = cc
each_is_seven f (a ∷ b ∷ []) e = cc
each_is_seven f (a ∷ b ∷ c ∷ []) e = cc
each_is_seven f (a ∷ b ∷ c ∷ d ∷ []) e = cc
each_is_seven f (a ∷ b ∷ c ∷ d ∷ g ∷ []) e = cc
each_is_seven f (a ∷ b ∷ c ∷ d ∷ g ∷ h ∷ []) e = cc
each_is_seven f (a ∷ b ∷ c ∷ d ∷ g ∷ h ∷ j ∷ []) e = refl
each_is_seven f (a ∷ b ∷ c ∷ d ∷ g ∷ h ∷ j ∷ k ∷ ls) e = absurd (omega arith)

pub seven_map : {X Y : Type 0} (f : X → Y) (xs : List X) (a b c d g h j : X) → length xs ≡ 7 →
    f (get_or xs 0 a) ∷ f (get_or xs 1 b) ∷ f (get_or xs 2 c) ∷ f (get_or xs 3 d) ∷ f (get_or xs 4 g) ∷ f (get_or xs 5 h) ∷ f (get_or xs 6 j) ∷ [] ≡ map f xs
seven_map f [] a b c d g h j e = cc
seven_map f (x0 ∷ []) a b c d g h j e = cc
seven_map f (x0 ∷ x1 ∷ []) a b c d g h j e = cc
seven_map f (x0 ∷ x1 ∷ x2 ∷ []) a b c d g h j e = cc
seven_map f (x0 ∷ x1 ∷ x2 ∷ x3 ∷ []) a b c d g h j e = cc
seven_map f (x0 ∷ x1 ∷ x2 ∷ x3 ∷ x4 ∷ []) a b c d g h j e = cc
seven_map f (x0 ∷ x1 ∷ x2 ∷ x3 ∷ x4 ∷ x5 ∷ []) a b c d g h j e = cc
seven_map f (x0 ∷ x1 ∷ x2 ∷ x3 ∷ x4 ∷ x5 ∷ x6 ∷ []) a b c d g h j e = refl
seven_map f (x0 ∷ x1 ∷ x2 ∷ x3 ∷ x4 ∷ x5 ∷ x6 ∷ x7 ∷ xs) a b c d g h j e = absurd (omega arith)

pub seven_each : {X Y : Type 0} (f : ℕ → List TableView → X) (g : Y → List TableView) (xs : List Y) (a b c d e h j : Y) → length xs ≡ 7 →
    f 0 (g (get_or xs 0 a)) ∷ f 1 (g (get_or xs 1 b)) ∷ f 2 (g (get_or xs 2 c)) ∷ f 3 (g (get_or xs 3 d)) ∷ f 4 (g (get_or xs 4 e)) ∷ f 5 (g (get_or xs 5 h)) ∷ f 6 (g (get_or xs 6 j)) ∷ []
    ≡ each_level f 0 (map g xs)
seven_each f g [] a b c d e h j is = cc
seven_each f g (x0 ∷ []) a b c d e h j is = cc
seven_each f g (x0 ∷ x1 ∷ []) a b c d e h j is = cc
seven_each f g (x0 ∷ x1 ∷ x2 ∷ []) a b c d e h j is = cc
seven_each f g (x0 ∷ x1 ∷ x2 ∷ x3 ∷ []) a b c d e h j is = cc
seven_each f g (x0 ∷ x1 ∷ x2 ∷ x3 ∷ x4 ∷ []) a b c d e h j is = cc
seven_each f g (x0 ∷ x1 ∷ x2 ∷ x3 ∷ x4 ∷ x5 ∷ []) a b c d e h j is = cc
seven_each f g (x0 ∷ x1 ∷ x2 ∷ x3 ∷ x4 ∷ x5 ∷ x6 ∷ []) a b c d e h j is = refl
seven_each f g (x0 ∷ x1 ∷ x2 ∷ x3 ∷ x4 ∷ x5 ∷ x6 ∷ x7 ∷ xs) a b c d e h j is = absurd (omega arith)

-- a level that an edit doesn't touch stands as it is
not_gone : (deleted : List DeletedItem) (level : ℕ) (t : TableView) → list_any (λ d. d.level == level) deleted ≡ false → is_gone deleted level t ≡ false
not_gone [] level t e = refl
not_gone (d ∷ ds) level t e =
    elim (d.level == level) as (λ b. (b || list_any (λ d. d.level == level) ds) ≡ false → ((b && d.number == t.number) || is_gone ds level t) ≡ false) [
      | true ↦ λ bad. cc
      | false ↦ λ later. not_gone ds level t later
    ] e

pub all_stay : (deleted : List DeletedItem) (level : ℕ) (ts : List TableView) → list_any (λ d. d.level == level) deleted ≡ false → stay deleted level ts ≡ ts
all_stay deleted level [] e = refl
all_stay deleted level (t ∷ ts) e =
    ap (λ b. cond (not b) (t ∷ stay deleted level ts) (stay deleted level ts)) (not_gone deleted level t e)
    ∙ ap (λ us. t ∷ us) (all_stay deleted level ts e)

pub untouched : (deleted : List DeletedItem) (level : ℕ) (new ts : List TableView) → is_touched deleted level new ≡ false → ts ≡ tables_after deleted level new ts
untouched deleted level [] ts e = sym (all_stay deleted level ts e)
untouched deleted level (n ∷ ns) ts e =
    let more : (suc (length ns) == 0) ≡ false = grind (arith, nat_tests) in
    let bad : true ≡ false = (λ i. not (sym more i) || list_any (λ d. d.level == level) deleted) ∙ e in
    cc

-- where the tables of each level pass one test, the level passes another
pub levels_from : (h : List TableView → Bool) (r : ℕ → List TableView → Bool) → ((l : ℕ) (ts : List TableView) → h ts ≡ true → r l ts ≡ true) →
    (k : ℕ) (ls : List (List TableView)) → list_all h ls ≡ true → all_levels r k ls ≡ true
levels_from h r gives k [] e = refl
levels_from h r gives k (ts ∷ ls) e = λ i.
    gives k ts (left (h ts) (list_all h ls) e) i && levels_from h r gives (k + 1) ls (right (h ts) (list_all h ls) e) i

pub levels_both : (p q : ℕ → List TableView → Bool) (k : ℕ) (ls : List (List TableView)) → all_levels p k ls ≡ true → all_levels q k ls ≡ true →
    all_levels (λ l ts. p l ts && q l ts) k ls ≡ true
levels_both p q = levels_gives p q (λ l ts. p l ts && q l ts) (λ l ts e d i. e i && d i)

pub length_levels : (f : ℕ → List TableView → List TableView) (k : ℕ) (ls : List (List TableView)) →
    length (flattened (each_level f k ls)) ≡ total (each_level (λ l ts. length (f l ts)) k ls)
length_levels f k [] = refl
length_levels f k (ts ∷ ls) =
    ap length (flattened_cons (f k ts) (each_level f (k + 1) ls)) ∙ length-append (f k ts) (flattened (each_level f (k + 1) ls))
    ∙ ap (λ n. length (f k ts) + n) (length_levels f (k + 1) ls)

-- ---- at one level

pub level_first : (ls : List (List TableView)) (level : ℕ) (ts : List TableView) → level < length ls → ts ≡ slice_index_or ls level [] →
    drop level ls ≡ ts ∷ drop (level + 1) ls
level_first ls level ts within read = drop_more ls level [] within ∙ ap (λ us. us ∷ drop (level + 1) ls) (sym read)

pub test_on : (q : TableView → Bool) (ls : List (List TableView)) (level : ℕ) → list_all (λ ts. list_all q ts) ls ≡ true →
    list_all q (slice_index_or ls level []) ≡ true
test_on q [] level e = refl
test_on q (ts ∷ ls) zero e = left (list_all q ts) (list_all (λ us. list_all q us) ls) e
test_on q (ts ∷ ls) (suc level) e = test_on q ls level (right (list_all q ts) (list_all (λ us. list_all q us) ls) e)
