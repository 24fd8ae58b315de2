-- How long an edit that breaks no rule is spelled.
use Rattle.std.proofs.Common.{◌≡◌, ℕ, ◌+◌, ◌*◌, ◌≤◌, ◌<◌, suc, List, [], ◌∷◌, ◌++◌, Bool, true, length, ap, ◌∙◌, sym, arith, length-append, inl, inr}
use Rattle.std.proofs.Math.Nat.{suc-mul}
use Rattle.std.proofs.lemmas.List.Folds.{list_all-append, list_all-map}
use Rattle.std.specs.Prelude.{◌&&◌, map, nat_lt, Option, Some, None}
use Rattle.std.specs.List.{list_all}
use Rattle.pb_bytes.specs.Varint.{varint, field}
use Rattle.pb_bytes.proofs.VarintLemmas.{length-varint}
use Rattle.pb_edit.specs.Edit.{DeletedItem, PhysicalItem, VirtualItem, CreatedItem, VersionEdit}
use Rattle.pb_edit.specs.Grammar.{IsEdit, number_item, items, deleted_content, physical_content, virtual_content, created_content, removed_content, numbers_spelling, lists_spelling, edit_spelling}
use Rattle.pb_keys.specs.Span.{IsSpan, span_of}
use Rattle.pb_keys.specs.View.{IsSuffix, IsView, is_view}
use Rattle.pb_keys.proofs.Forms.{view_says}
use Rattle.pb_version.specs.Version.{VersionView, TableView, empty_version}
use Rattle.pb_version.specs.Edited.{physical_table, virtual_table, shown_backings}
use Rattle.pb_version.specs.Rules.{has_no_parts, is_plain_view, keeps_v1, keeps_v3, keeps_v5, keeps_v7, keeps_v9, first_broken}
use Rattle.pb_version.specs.State.{IsVersion}
use Rattle.pb_version.specs.Snapshot.{snapshot_of}
use Rattle.pb_version.proofs.Lists.{left, right, always}
use Rattle.pb_version.proofs.Few.{deleted_few, new_few, created_few, removed_few}
use Rattle.pb_version.proofs.Installing.{unbroken_keeps}
use Rattle.pb_version.proofs.SaysVersion.{empty_is_version}
use Rattle.pb_version.proofs.SnapshotRules.{all_v1, all_v3, all_v5, all_v7, all_v9}
use Rattle.pb_version.proofs.SnapshotSpelling.{snapshot_in_form}

-- ---- parts of an item

field_short : (bytes : List ℕ) (n : ℕ) → length bytes ≤ n → length (field bytes) ≤ 10 + n
unfolding field
field_short bytes n h = omega (arith, length-append (varint (length bytes)) bytes, length-varint (length bytes))

suffix_short : (bytes : List ℕ) → IsSuffix bytes → length bytes ≤ 1024
suffix_short bytes is = elim is [
  | inl none ↦ omega (arith, ap length none)
  | inr some ↦ some.0
]

-- ---- items

deleted_short : (d : DeletedItem) → length (deleted_content d) ≤ 11
deleted_short d = omega (arith, length-varint d.number)

physical_short : (p : PhysicalItem) → is_plain_view (physical_table p).view ≡ true → length (physical_content p) ≤ 2101
physical_short p plain =
    let view : IsView (physical_table p).view = view_says (physical_table p).view (left (is_view (physical_table p).view) (has_no_parts (physical_table p).view) plain) in
    let ends = field p.lo ++ field p.hi in
    omega (
      arith,
      length-append (varint p.number) (varint p.rank ++ (varint p.size ++ ends)),
      length-append (varint p.rank) (varint p.size ++ ends),
      length-append (varint p.size) ends,
      length-append (field p.lo) (field p.hi),
      length-varint p.number,
      length-varint p.rank,
      length-varint p.size,
      field_short p.lo 1025 view.bounds.lo.within,
      field_short p.hi 1025 view.bounds.hi.within,
    )

virtual_short : (backings : List CreatedItem) (v : VirtualItem) → is_plain_view (virtual_table backings v).view ≡ true → length (virtual_content v) ≤ 4169
virtual_short backings v plain =
    let seen = (virtual_table backings v).view in
    let view : IsView seen = view_says seen (left (is_view seen) (has_no_parts seen) plain) in
    let parts = field v.prefix ++ field v.suffix in
    let ends = field v.lo ++ (field v.hi ++ parts) in
    omega (
      arith,
      length-append (varint v.number) (varint v.rank ++ (varint v.backing ++ ends)),
      length-append (varint v.rank) (varint v.backing ++ ends),
      length-append (varint v.backing) ends,
      length-append (field v.lo) (field v.hi ++ parts),
      length-append (field v.hi) parts,
      length-append (field v.prefix) (field v.suffix),
      length-varint v.number,
      length-varint v.rank,
      length-varint v.backing,
      field_short v.lo 1025 view.bounds.lo.within,
      field_short v.hi 1025 view.bounds.hi.within,
      field_short v.prefix 1024 view.mapping.prefix.within,
      field_short v.suffix 1024 (suffix_short v.suffix view.mapping.suffix),
    )

created_short : (c : CreatedItem) → length (created_content c) ≤ 20
created_short c = omega (arith, length-append (varint c.number) (varint c.size), length-varint c.number, length-varint c.size)

-- ---- lists of items

items_short : {X : Type 0} (kind : ℕ) (content : X → List ℕ) (most : ℕ) (q : X → Bool) → ((x : X) → q x ≡ true → length (content x) ≤ most) →
    (xs : List X) → list_all q xs ≡ true → length (items kind content xs) ≤ length xs * suc most
items_short kind content most q short [] e = omega arith
items_short kind content most q short (x ∷ xs) e = omega (
  arith,
  length-append (kind ∷ content x) (items kind content xs),
  short x (left (q x) (list_all q xs) e),
  items_short kind content most q short xs (right (q x) (list_all q xs) e),
  suc-mul (length xs) (suc most),
)

number_short : (kind : ℕ) (number : Option ℕ) → length (number_item kind number) ≤ 11
number_short kind None = omega arith
number_short kind (Some n) = omega (arith, length-varint n)

numbers_short : (e : VersionEdit) → length (numbers_spelling e) ≤ 55
numbers_short e =
    let n1 = number_item 1 e.accepted in
    let n2 = number_item 2 e.next in
    let n3 = number_item 3 e.log in
    let n4 = number_item 4 e.flushed in
    let n5 = number_item 5 e.format in
    omega (
      arith,
      length-append n1 (n2 ++ (n3 ++ (n4 ++ n5))),
      length-append n2 (n3 ++ (n4 ++ n5)),
      length-append n3 (n4 ++ n5),
      length-append n4 n5,
      number_short 1 e.accepted,
      number_short 2 e.next,
      number_short 3 e.log,
      number_short 4 e.flushed,
      number_short 5 e.format,
    )

-- ---- an edit

module _ (old : VersionView) (edit : VersionEdit) (form : IsEdit edit) (is : IsVersion old) where
  views : keeps_v3 old edit ≡ true →
      (list_all (λ (p : PhysicalItem). is_plain_view (physical_table p).view) edit.physical ≡ true)
      × (list_all (λ (v : VirtualItem). is_plain_view (virtual_table (shown_backings old edit) v).view) edit.virtuals ≡ true)
  views kept =
      let plain = λ (t : TableView). is_plain_view t.view in
      let made = map (virtual_table (shown_backings old edit)) edit.virtuals in
      let both = sym (list_all-append plain (map physical_table edit.physical) made) ∙ kept in (
        sym (list_all-map plain physical_table edit.physical) ∙ left (list_all plain (map physical_table edit.physical)) (list_all plain made) both,
        sym (list_all-map plain (virtual_table (shown_backings old edit)) edit.virtuals) ∙ right (list_all plain (map physical_table edit.physical)) (list_all plain made) both,
      )

  pub kept_short : keeps_v1 old edit ≡ true → keeps_v3 old edit ≡ true → keeps_v5 old edit ≡ true → keeps_v7 old edit ≡ true → keeps_v9 old edit ≡ true →
      length (edit_spelling edit) ≤ 18874368
  unfolding edit_spelling
  kept_short v1 v3 v5 v7 v9 =
      let i6 = items 6 deleted_content edit.deleted in
      let i7 = items 7 physical_content edit.physical in
      let i8 = items 8 virtual_content edit.virtuals in
      let i9 = items 9 created_content edit.created in
      let i10 = items 10 removed_content edit.removed in
      let both = views v3 in
      omega (
        arith,
        length-append (numbers_spelling edit) (lists_spelling edit),
        length-append i6 (i7 ++ (i8 ++ (i9 ++ i10))),
        length-append i7 (i8 ++ (i9 ++ i10)),
        length-append i8 (i9 ++ i10),
        length-append i9 i10,
        numbers_short edit,
        items_short 6 deleted_content 11 (λ d. true) (λ d _. deleted_short d) edit.deleted (always edit.deleted),
        items_short 7 physical_content 2101 (λ (p : PhysicalItem). is_plain_view (physical_table p).view) physical_short edit.physical both.0,
        items_short 8 virtual_content 4169 (λ (v : VirtualItem). is_plain_view (virtual_table (shown_backings old edit) v).view) (virtual_short (shown_backings old edit)) edit.virtuals both.1,
        items_short 9 created_content 20 (λ c. true) (λ c _. created_short c) edit.created (always edit.created),
        items_short 10 removed_content 10 (λ n. true) (λ n _. length-varint n) edit.removed (always edit.removed),
        deleted_few old edit form is v1,
        new_few old edit form is v9,
        created_few old edit form is v5 v7 v9,
        removed_few old edit form is v7,
      )

pub edit_short : (old : VersionView) (edit : VersionEdit) → IsVersion old → IsEdit edit → first_broken old edit ≡ None → length (edit_spelling edit) ≤ 18874368
edit_short old edit is form unbroken =
    let keeps = unbroken_keeps old edit unbroken in
    kept_short old edit form is keeps.v1 keeps.v3 keeps.v5 keeps.v7 keeps.v9

pub snapshot_short : (v : VersionView) → IsVersion v → length (edit_spelling (snapshot_of v)) ≤ 18874368
snapshot_short v is = kept_short empty_version (snapshot_of v) (snapshot_in_form v is) empty_is_version (all_v1 v is) (all_v3 v is) (all_v5 v is) (all_v7 v is) (all_v9 v is)
