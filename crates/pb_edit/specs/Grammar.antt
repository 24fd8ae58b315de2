-- The grammar of edits: which there are, and the one spelling of each.
use Rattle.std.specs.Prelude.{◌≡◌, ℕ, ◌<◌, ◌≤◌, ◌^◌, List, [], ◌∷◌, ◌++◌, length, Bool, ◌&&◌, ◌||◌, ◌==◌, nat_lt, IsTrue, Option, Some, None, IfSome}
use Rattle.std.specs.List.{flat_map, AllByRecursion}
use Rattle.pb_bytes.specs.Number.{IsNumber}
use Rattle.pb_bytes.specs.Varint.{varint, field}
use Rattle.pb_edit.specs.Edit.{DeletedItem, PhysicalItem, VirtualItem, CreatedItem, VersionEdit}

-- ---- spelling

-- kind and number, where there is one
abbrev pub number_item : ℕ → Option ℕ → List ℕ
number_item kind None = []
number_item kind (Some number) = kind ∷ varint number

-- each item is its kind and its content
abbrev pub items : {X : Type 0} → ℕ → (X → List ℕ) → List X → List ℕ
items kind content xs = flat_map (λ x. kind ∷ content x) xs

abbrev pub deleted_content : DeletedItem → List ℕ
deleted_content d = d.level ∷ varint d.number

abbrev pub physical_content : PhysicalItem → List ℕ
physical_content p = p.level ∷ (varint p.number ++ (varint p.rank ++ (varint p.size ++ (field p.lo ++ field p.hi))))

abbrev pub virtual_content : VirtualItem → List ℕ
virtual_content v =
    v.level ∷ (varint v.number ++ (varint v.rank ++ (varint v.backing ++ (field v.lo ++ (field v.hi ++ (field v.prefix ++ field v.suffix))))))

abbrev pub created_content : CreatedItem → List ℕ
created_content c = varint c.number ++ varint c.size

abbrev pub removed_content : ℕ → List ℕ
removed_content number = varint number

abbrev pub numbers_spelling : VersionEdit → List ℕ
numbers_spelling e =
    number_item 1 e.accepted ++ (number_item 2 e.next ++ (number_item 3 e.log ++ (number_item 4 e.flushed ++ number_item 5 e.format)))

abbrev pub lists_spelling : VersionEdit → List ℕ
lists_spelling e =
    items 6 deleted_content e.deleted ++ (items 7 physical_content e.physical ++ (items 8 virtual_content e.virtuals
    ++ (items 9 created_content e.created ++ items 10 removed_content e.removed)))

-- the items by ascending kind
unfoldable pub edit_spelling : VersionEdit → List ℕ
edit_spelling e = numbers_spelling e ++ lists_spelling e

-- ---- which edits there are

abbrev pub IsLevel : ℕ → Type 0
IsLevel level = level ≤ 6

-- what a field can hold
abbrev pub IsField : List ℕ → Type 0
IsField bytes = length bytes < 2 ^ 64

pub record IsDeleted (d : DeletedItem) : Type 0 where
  pub level : IsLevel d.level
  pub number : IsNumber d.number

pub record IsPhysical (p : PhysicalItem) : Type 0 where
  pub level : IsLevel p.level
  pub number : IsNumber p.number
  pub rank : IsNumber p.rank
  pub size : IsNumber p.size
  pub lo : IsField p.lo
  pub hi : IsField p.hi

pub record IsVirtual (v : VirtualItem) : Type 0 where
  pub level : IsLevel v.level
  pub number : IsNumber v.number
  pub rank : IsNumber v.rank
  pub backing : IsNumber v.backing
  pub lo : IsField v.lo
  pub hi : IsField v.hi
  pub prefix : IsField v.prefix
  pub suffix : IsField v.suffix

pub record IsCreated (c : CreatedItem) : Type 0 where
  pub number : IsNumber c.number
  pub size : IsNumber c.size

-- by level, then by number
abbrev pub place_below : ℕ → ℕ → ℕ → ℕ → Bool
place_below level number other_level other_number =
    nat_lt level other_level || (level == other_level && nat_lt number other_number)

abbrev pub deleted_below : DeletedItem → DeletedItem → Bool
deleted_below a b = place_below a.level a.number b.level b.number

abbrev pub physical_below : PhysicalItem → PhysicalItem → Bool
physical_below a b = place_below a.level a.number b.level b.number

abbrev pub virtual_below : VirtualItem → VirtualItem → Bool
virtual_below a b = place_below a.level a.number b.level b.number

abbrev pub created_below : CreatedItem → CreatedItem → Bool
created_below a b = nat_lt a.number b.number

-- each stands below the next
abbrev pub Ascend : {X : Type 0} → (X → X → Bool) → List X → Type 0
Ascend is_below [] = Unit {0}
Ascend is_below (x ∷ []) = Unit {0}
Ascend is_below (x ∷ y ∷ ys) = IsTrue (is_below x y) × Ascend is_below (y ∷ ys)

-- items of a kind
pub record AreItems {X : Type 0} (IsItem : X → Type 0) (is_below : X → X → Bool) (xs : List X) : Type 0 where
  pub each : AllByRecursion IsItem xs
  pub ascend : Ascend is_below xs

pub record IsEdit (e : VersionEdit) : Type 0 where
  pub some : ¬ (edit_spelling e ≡ [])
  pub accepted : IfSome e.accepted IsNumber
  pub next : IfSome e.next IsNumber
  pub log : IfSome e.log IsNumber
  pub flushed : IfSome e.flushed IsNumber
  pub format : IfSome e.format IsNumber
  pub deleted : AreItems IsDeleted deleted_below e.deleted
  pub physical : AreItems IsPhysical physical_below e.physical
  pub virtuals : AreItems IsVirtual virtual_below e.virtuals
  pub created : AreItems IsCreated created_below e.created
  pub removed : AreItems IsNumber nat_lt e.removed
