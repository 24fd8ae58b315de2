-- What the devices tell, while a look-up reads.
use Rattle.std.proofs.Common.{◌≡◌, ℕ, Bool, true, List, Option, sym, ap, ◌∙◌, subst}
use Rattle.std.specs.Prelude.{Contains, IsSomeAnd}
use Rattle.std.proofs.lemmas.List.Elements.{All-contains, All-contains_itself, All-weaker}
use Rattle.std.specs.FinMap.{get}
use Rattle.pb_devices.specs.Contents.{Contents}
use Rattle.pb_devices.specs.DiskCalls.{Stays}
use Rattle.pb_devices.specs.Objects.{Objects}
use Rattle.pb_devices.proofs.Kept.{stays_then}
use Rattle.pb_edit.specs.Edit.{CreatedItem}
use Rattle.pb_folder.specs.Held.{IsStored, IsTableOf}
use Rattle.pb_names.specs.Spelling.{file_name}
use Rattle.pb_names.specs.declared.file_kind.FileKind.TheVariants.{Table}
use Rattle.pb_payloads.specs.Catalogue.{Entries}
use Rattle.pb_payloads.specs.Places.{bytes_of, in_place, object_bytes, object_of}
use Rattle.pb_read.specs.Damage.{IsDamaged, IsMissing}
use Rattle.pb_read.specs.Tables.{AreStored, HasTable}
use Rattle.pb_rows.specs.Layer.{KeyLayer}
use Rattle.pb_version.specs.Stored.{backing_of}
use Rattle.pb_version.specs.Version.{TableView}

-- nothing that the devices tell has changed, and no call has failed
pub record Going (disk_tells bucket_tells : Bool) (old now : Contents) (before after : Objects)
    (disk_old disk_now bucket_old bucket_now : ℕ) : Type 0 where
  pub stays : disk_tells ≡ true → Stays old now
  pub kept : bucket_tells ≡ true → after ≡ before
  pub disk_calm : disk_now ≡ disk_old
  pub bucket_calm : bucket_now ≡ bucket_old

pub going_on : (disk_tells bucket_tells : Bool) (old now next : Contents) (before after later : Objects) (a b c d e f : ℕ)
    → Going disk_tells bucket_tells old now before after a b d e → (disk_tells ≡ true → Stays now next)
    → (bucket_tells ≡ true → later ≡ after) → c ≡ b → f ≡ e → Going disk_tells bucket_tells old next before later a c d f
going_on disk_tells bucket_tells old now next before after later a b c d e f going stays kept disk_calm bucket_calm = record {
  stays = λ tells. stays_then old now next (going.stays tells) (stays tells);
  kept = λ tells. kept tells ∙ going.kept tells;
  disk_calm = disk_calm ∙ going.disk_calm;
  bucket_calm = bucket_calm ∙ going.bucket_calm;
}

-- where nothing has changed, each number has the same bytes
pub same_bytes : (old now : Contents) (before after : Objects) (entries : Entries) (number : ℕ) → Stays old now → after ≡ before
    → bytes_of now.seen after entries number ≡ bytes_of old.seen before entries number
same_bytes old now before after entries number stays same = λ i.
    in_place (object_of entries number) ((stays (file_name Table number)).seen i) (object_bytes (same i) entries number)

pub bytes_still : (Is : List ℕ → Type 0) (old now : Contents) (before after : Objects) (entries : Entries) (number : ℕ) → Stays old now
    → after ≡ before → IsSomeAnd (bytes_of old.seen before entries number) Is → IsSomeAnd (bytes_of now.seen after entries number) Is
bytes_still Is old now before after entries number stays same =
    subst (λ (o : Option (List ℕ)). IsSomeAnd o Is) (sym (same_bytes old now before after entries number stays same))

pub damaged_before : (old now : Contents) (before after : Objects) (entries : Entries) (name : List ℕ) (item : CreatedItem) → Stays old now
    → after ≡ before → IsDamaged now.seen after entries name item → IsDamaged old.seen before entries name item
damaged_before old now before after entries name item stays same damaged = record {
  named = damaged.named;
  no_table = λ layer is. damaged.no_table layer (bytes_still _ old now before after entries item.number stays same is);
}

pub missing_before : (before after : Objects) (entries : Entries) (name : List ℕ) (item : CreatedItem) → after ≡ before
    → IsMissing after entries name item → IsMissing before entries name item
missing_before before after entries name item same missing = record {
  named = missing.named;
  absent = ap (λ (o : Objects). get o name) (sym same) ∙ missing.absent;
}

-- what was stored behind one of the tables still is
pub stored_at : (old now : Contents) (before after : Objects) (entries : Entries) (layers : ℕ → KeyLayer) (tables : List TableView)
    (t : TableView) → Stays old now → after ≡ before → AreStored old.seen before entries layers tables → Contains tables t
    → IsStored now.seen after entries layers (backing_of t)
stored_at old now before after entries layers tables t stays same all has =
    bytes_still (IsTableOf t.size (layers t.backing)) old now before after entries t.backing stays same
    (All-contains (λ u. IsStored old.seen before entries layers (backing_of u)) tables t all has)

pub all_stored : (old now : Contents) (before after : Objects) (entries : Entries) (layers : ℕ → KeyLayer) (all some : List TableView)
    → Stays old now → after ≡ before → AreStored old.seen before entries layers all
    → ((t : TableView) → Contains some t → Contains all t) → AreStored now.seen after entries layers some
all_stored old now before after entries layers all some stays same stored within =
    All-weaker (Contains some) (λ t. IsStored now.seen after entries layers (backing_of t))
    (λ t has. stored_at old now before after entries layers all t stays same stored (within t has)) some (All-contains_itself some)

-- what is behind one of some tables was so before behind one of all
pub has_table : (Is Was : CreatedItem → Type 0) (key : List ℕ) (all some : List TableView)
    → ((t : TableView) → Contains some t → Contains all t) → ((item : CreatedItem) → Is item → Was item)
    → HasTable Is key some → HasTable Was key all
has_table Is Was key all some within still has = record {
  table = has.table;
  stands = within has.table has.stands;
  holds = has.holds;
  behind = still (backing_of has.table) has.behind;
}
