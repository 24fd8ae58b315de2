-- What the tables of one level show, and those of the levels behind it, and which file of them is at fault.
use Rattle.std.proofs.Common.{◌≡◌, ℕ, ◌+◌, ◌<◌, List, [], ◌∷◌, ◌++◌, suc, zero, length, drop, get_or, sym, ap, ◌∙◌, arith}
use Rattle.std.specs.Prelude.{slice_index_or}
use Rattle.std.proofs.Math.ListN.{get_or-append}
use Rattle.std.proofs.lemmas.List.{length-append, get_or-append-add}
use Rattle.pb_devices.specs.Contents.{Folder}
use Rattle.pb_devices.specs.Objects.{Objects}
use Rattle.pb_payloads.specs.Catalogue.{Entries}
use Rattle.pb_rows.specs.Layer.{KeyLayer}
use Rattle.pb_version.specs.Version.{TableView, flattened}
use Rattle.pb_version.proofs.Levels.{flattened_cons}
use Rattle.pb_folder_reader.specs.AtFault.{IsAmong, IsShownAtFault}
use Rattle.pb_folder_reader.specs.Tables.{AllShow, Places}

-- the tables of this level and of those behind it
pub drop_level : (ls : List (List TableView)) (l : ℕ) → l < length ls → flattened (drop l ls) ≡ slice_index_or ls l [] ++ flattened (drop (suc l) ls)
drop_level [] l h = absurd (omega arith)
drop_level (ts ∷ ls) zero h = flattened_cons ts ls
drop_level (ts ∷ ls) (suc l) h = drop_level ls l (omega arith)

pub all_show : (places : Places) (ts us : List TableView) (ss rs : List KeyLayer) → AllShow places ts ss → AllShow places us rs
    → AllShow places (ts ++ us) (ss ++ rs)
all_show places [] us [] rs a b = b
all_show places [] us (s ∷ ss) rs a b = absurd a
all_show places (t ∷ ts) us [] rs a b = absurd a
all_show places (t ∷ ts) us (s ∷ ss) rs a b = (a.0, all_show places ts us ss rs a.1 b)

among_front : {X : Type 0} (x : X) (xs ys : List X) → IsAmong x xs → IsAmong x (xs ++ ys)
among_front x xs ys (i, within, is) = (i, omega (arith, length-append xs ys, within), is ∙ sym (get_or-append xs ys x i within))

among_back : {X : Type 0} (x : X) (xs ys : List X) → IsAmong x ys → IsAmong x (xs ++ ys)
among_back x xs ys (i, within, is) = (length xs + i, omega (arith, length-append xs ys, within), is ∙ sym (get_or-append-add xs ys i x))

module _ (folder : Folder) (objects : Objects) (entries : Entries) (front back : List TableView) (file : List ℕ) where
  pub fault_front : IsShownAtFault folder objects entries front file → IsShownAtFault folder objects entries (front ++ back) file
  fault_front (table, among, is) = (table, among_front table front back among, is)

  pub fault_back : IsShownAtFault folder objects entries back file → IsShownAtFault folder objects entries (front ++ back) file
  fault_back (table, among, is) = (table, among_back table front back among, is)
