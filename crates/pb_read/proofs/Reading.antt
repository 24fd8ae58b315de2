-- What a table is found to be by the bytes that were read of it.
use Rattle.std.proofs.Common.{◌≡◌, ℕ, List, take, Option, Some, None, Err, false, cond, sym, ap, ◌∙◌, subst, arith}
use Rattle.std.specs.Prelude.{IsSomeAnd, Result}
use Rattle.std.proofs.lemmas.List.{take_all}
use Rattle.pb_devices.specs.Contents.{Folder}
use Rattle.pb_devices.specs.Objects.{Objects}
use Rattle.pb_devices.proofs.Options.{some_of}
use Rattle.pb_edit.specs.Edit.{CreatedItem}
use Rattle.pb_folder.specs.Held.{IsTableOf}
use Rattle.pb_keys.specs.Span.{holds_key}
use Rattle.pb_payloads.specs.Catalogue.{Entries}
use Rattle.pb_payloads.specs.Places.{bytes_of}
use Rattle.pb_read.specs.declared.fault.ReadFault.{ReadFault}
use Rattle.pb_read.specs.declared.fault.ReadFault.TheVariants as read_fault
use Rattle.pb_read.specs.Damage.{IsDamaged, place_name}
use Rattle.pb_rows.specs.Layer.{KeyLayer}
use Rattle.pb_rows.specs.Verdict.{verdict}
use Rattle.pb_rows.specs.Viewed.{plain_view, viewed}
use Rattle.pb_rows.proofs.ViewLaws.{verdict-plain_view}
use Rattle.pb_version.specs.Version.{TableView}

-- outside its bounds a table is silent
pub silent_outside : (t : TableView) (layer : KeyLayer) (key : List ℕ) → t.view ≡ plain_view t.view.bounds
    → holds_key t.view.bounds key ≡ false → None ≡ verdict (viewed t.view layer) key
silent_outside t layer key plain outside =
    sym (ap (λ v. verdict (viewed v layer) key) plain ∙ verdict-plain_view t.view.bounds layer key
    ∙ ap (λ b. cond b (verdict layer key) None) outside)

-- where the devices tell the item's bytes, these are the first of them
abbrev pub IsFront : Folder → Objects → Entries → CreatedItem → List ℕ → Type 0
IsFront folder objects entries item read =
    (all : List ℕ) → bytes_of folder objects entries item.number ≡ Some all → read ≡ take item.size all

-- bytes of the kept size are read whole
whole_of : (size : ℕ) (all read : List ℕ) (layer : KeyLayer) → IsTableOf size layer all → read ≡ take size all → IsTableOf size layer read
whole_of size all read layer table is =
    subst (IsTableOf size layer) (sym (is ∙ take_all size all (omega (arith, table.len)))) table

pub read_table_of : (folder : Folder) (objects : Objects) (entries : Entries) (item : CreatedItem) (read : List ℕ) (layer : KeyLayer)
    → IsFront folder objects entries item read → IsSomeAnd (bytes_of folder objects entries item.number) (IsTableOf item.size layer)
    → IsTableOf item.size layer read
read_table_of folder objects entries item read layer front has =
    let found = some_of (bytes_of folder objects entries item.number) (IsTableOf item.size layer) has in
    whole_of item.size found.0 read layer found.2 (front found.0 found.1)

-- where what was read is no table, there is none
pub damaged_of : (folder : Folder) (objects : Objects) (entries : Entries) (name : List ℕ) (item : CreatedItem) (read : List ℕ)
    → name ≡ place_name entries item.number → IsFront folder objects entries item read
    → ((layer : KeyLayer) → IsTableOf item.size layer read → ⊥) → IsDamaged folder objects entries name item
damaged_of folder objects entries name item read named front none = record {
  named = named;
  no_table = λ layer has. none layer (read_table_of folder objects entries item read layer front has);
}

-- ---- faults

pub no_value : {T : Type 0} (x : T) → ◌≡◌ {A = Option T} None (Some x) → ⊥
no_value x is = cc

pub same_damaged : {T : Type 0} (name other : List ℕ)
    → ◌≡◌ {A = Result T ReadFault} (Err (read_fault.Damaged name)) (Err (read_fault.Damaged other)) → name ≡ other
same_damaged name other is = cc

-- a fault is handed on as it is
pub same_fault : {T U : Type 0} (fault other : ReadFault) → ◌≡◌ {A = Result T ReadFault} (Err fault) (Err other)
    → ◌≡◌ {A = Result U ReadFault} (Err fault) (Err other)
same_fault fault other is =
    let same : fault ≡ other = cc in
    ap Err same
