-- What a plan of an excise has gathered after so many tables.
use Rattle.std.specs.Prelude.{◌≡◌, ℕ, ◌+◌, List, [], ◌∷◌, ◌++◌, length, map, Bool, true, not, if◌then◌else◌}
use Rattle.std.specs.BTreeMap.{is_at}
use Rattle.std.specs.BTreeSet.{insert_key}
use Rattle.std.specs.List.{filter, list_any}
use Rattle.std.specs.List.Sorted.{IsPermutation}
use Rattle.std.specs.Ordering.{nat_cmp}
use Rattle.pb_edit.specs.Edit.{DeletedItem, VirtualItem, CreatedItem, VersionEdit}
use Rattle.pb_edit.specs.Grammar.{place_below}
use Rattle.pb_keys.specs.Span.{KeySpan}
use Rattle.pb_span_cases.specs.Remainder.{remains}
use Rattle.pb_version.specs.Version.{TableView}
use Rattle.pb_version.specs.Rules.{each_pair}
use Rattle.pb_version.specs.Snapshot.{virtual_item}
use Rattle.pb_version.specs.Stored.{backing_of}
use Rattle.pb_excise.specs.Excised.{numbered_parts}
use Rattle.pb_excise.specs.Planned.{is_cut, deleted_item, HasListsAlone}

-- the items in the order of the tables; the backings of virtual tables that are cut, and those that virtual tables show
-- afterwards, ascending
pub record DraftView : Type 0 where
  pub next : ℕ
  pub deleted : List DeletedItem
  pub virtuals : List VirtualItem
  pub created : List CreatedItem
  pub unsure : List ℕ
  pub shown : List ℕ

abbrev pub begun : ℕ → DraftView
begun first = record { next = first; deleted = []; virtuals = []; created = []; unsure = []; shown = [] }

-- ---- with a table more

abbrev pub whole : TableView → DraftView → DraftView
whole t d = record d { shown = (if t.is_virtual then insert_key nat_cmp d.shown t.backing else d.shown) }

abbrev pub gone : ℕ → TableView → DraftView → DraftView
gone level t d = record d {
  deleted = d.deleted ++ deleted_item level t ∷ [];
  unsure = (if t.is_virtual then insert_key nat_cmp d.unsure t.backing else d.unsure);
}

abbrev pub with_parts : ℕ → TableView → List KeySpan → DraftView → DraftView
with_parts level t parts d = record d {
  next = d.next + length parts;
  virtuals = d.virtuals ++ map (virtual_item level) (numbered_parts t d.next parts);
}

abbrev pub shown_by : TableView → DraftView → DraftView
shown_by t d = record d {
  created = (if t.is_virtual then d.created else d.created ++ backing_of t ∷ []);
  shown = insert_key nat_cmp d.shown t.backing;
}

abbrev pub with_cut : ℕ → TableView → List KeySpan → DraftView → DraftView
with_cut level t [] d = with_parts level t [] (gone level t d)
with_cut level t (part ∷ parts) d = shown_by t (with_parts level t (part ∷ parts) (gone level t d))

abbrev pub with_table : KeySpan → ℕ → TableView → DraftView → DraftView
with_table cut level t d = if is_cut cut t then with_cut level t (remains t.view.bounds cut) d else whole t d

-- ---- with those of a level, and of all levels

abbrev pub with_level : KeySpan → ℕ → List TableView → DraftView → DraftView
with_level cut level [] d = d
with_level cut level (t ∷ ts) d = with_level cut level ts (with_table cut level t d)

abbrev pub with_levels : KeySpan → ℕ → List (List TableView) → DraftView → DraftView
with_levels cut level [] d = d
with_levels cut level (tables ∷ deeper) d = with_levels cut (level + 1) deeper (with_level cut level tables d)

-- ---- the edit

-- whether the number isn't among these
abbrev pub is_unshown : List ℕ → ℕ → Bool
is_unshown shown number = not (list_any (is_at (nat_cmp number)) shown)

abbrev pub deletions_rise : DeletedItem → DeletedItem → Bool
deletions_rise a b = not (place_below b.level b.number a.level a.number)

abbrev pub backings_rise : CreatedItem → CreatedItem → Bool
backings_rise a b = not (place_below b.number b.size a.number a.size)

-- the edit has what was gathered, in order
pub record IsDrafted (d : DraftView) (edit : VersionEdit) : Type 0 where
  pub numbers : HasListsAlone edit
  pub deleted : IsPermutation d.deleted edit.deleted
  pub deleted_rise : each_pair deletions_rise edit.deleted ≡ true
  pub virtuals : edit.virtuals ≡ d.virtuals
  pub created : IsPermutation d.created edit.created
  pub created_rise : each_pair backings_rise edit.created ≡ true
  pub removed : edit.removed ≡ filter (is_unshown d.shown) d.unsure
