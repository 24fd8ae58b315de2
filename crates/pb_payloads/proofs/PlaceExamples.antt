-- Where bytes stand, computed: an entry decides, whether its object is there or not.
use Rattle.std.proofs.Common.{◌≡◌, ℕ, List, [], ◌∷◌, Some, None, cond, refl, ap, ◌∙◌}
use Rattle.std.specs.Fmt.{digits}
use Rattle.std.specs.FinMap.{empty, get, insert, get-empty, get-insert}
use Rattle.std.specs.Prelude.{codes, if◌then◌else◌, nat_eq}
use Rattle.std.specs.Cmp.Lexicographic.{nat_list_cmp_total, pointwise, slice_cmp}
use Rattle.std.specs.Ordering.{nat_cmp, eq_by_cmp}
use Rattle.pb_devices.specs.Contents.{Folder}
use Rattle.pb_devices.specs.Objects.{Objects}
use Rattle.pb_names.specs.Spelling.{external_name, file_name, object_name}
use Rattle.pb_payloads.specs.Catalogued.Standing.{Shared, External}
use Rattle.pb_payloads.specs.Catalogue.{Entries}
use Rattle.pb_payloads.specs.Places.{bytes_of}

abbrev no_file : Folder
no_file name = None

abbrev table_4 : Folder
table_4 name = if pointwise nat_eq name (codes "4.tbl") then Some (7 ∷ []) else None

abbrev no_object : Objects
no_object = empty

abbrev object_1_9 : Objects
object_1_9 = insert empty (codes "obj/1/9") (8 ∷ [])

abbrev external_e1 : Objects
external_e1 = insert empty (codes "x/e1") (8 ∷ [])

-- the name without its x/
abbrev object_e1 : Objects
object_e1 = insert empty (codes "e1") (8 ∷ [])

abbrev shared : Entries
shared = (4, Shared (record { creator = 1; number = 9 })) ∷ []

abbrev external : Entries
external = (4, External (codes "e1")) ∷ []

-- what a bucket of one object has
one_object : (name bytes other : List ℕ) → get (insert no_object name bytes) other ≡ cond (eq_by_cmp (slice_cmp nat_cmp) other name) (Some bytes) None
one_object name bytes other =
    get-insert nat_list_cmp_total no_object name bytes other ∙ ap (cond (eq_by_cmp (slice_cmp nat_cmp) other name) (Some bytes)) (get-empty (slice_cmp nat_cmp) other)

pub a_file_alone : bytes_of table_4 object_1_9 [] 4 ≡ Some (7 ∷ [])
unfolding file_name digits
a_file_alone = refl

pub an_object_alone : bytes_of no_file object_1_9 shared 4 ≡ Some (8 ∷ [])
unfolding object_name digits
an_object_alone = one_object (codes "obj/1/9") (8 ∷ []) (codes "obj/1/9")

pub both : bytes_of table_4 object_1_9 shared 4 ≡ None
unfolding file_name object_name digits
both = refl

pub neither : bytes_of no_file no_object shared 4 ≡ None
unfolding object_name digits
neither = get-empty (slice_cmp nat_cmp) (codes "obj/1/9")

-- the entry counts, and not the file
pub an_entry_without_its_object : bytes_of table_4 no_object external 4 ≡ None
unfolding file_name external_name digits
an_entry_without_its_object = refl

pub an_external_name : bytes_of no_file external_e1 external 4 ≡ Some (8 ∷ [])
unfolding external_name
an_external_name = one_object (codes "x/e1") (8 ∷ []) (codes "x/e1")

pub an_object_without_x : bytes_of no_file object_e1 external 4 ≡ None
unfolding external_name
an_object_without_x = one_object (codes "e1") (8 ∷ []) (codes "x/e1")

-- an entry of another number
pub another_number : bytes_of table_4 object_1_9 ((5, Shared (record { creator = 1; number = 9 })) ∷ []) 4 ≡ Some (7 ∷ [])
unfolding file_name digits
another_number = refl
