-- A store as a value: its files, who uses which bytes, and the command that stands in each lane.
use Rattle.std.specs.Prelude.{◌≡◌, ℕ, Bool, List, [], ◌++◌, Option, Some, None}
use Rattle.pb_counts.specs.Counts.{CountsView}
use Rattle.pb_names.specs.Identity.{Identity}
use Rattle.pb_recover.specs.Files.{IsReady, StoreFiles}
use Rattle.pb_rows.specs.Changing.{Changing}
use Rattle.pb_rows.specs.Layer.{KeyLayer}
use Rattle.pb_script.specs.declared.line.Lane.{Lane}
use Rattle.pb_script.specs.declared.line.Lane.TheVariants.{Fg, Bg}

-- a table that a command under way has made
pub record MadeTable : Type 0 where
  pub number : ℕ
  pub layer : KeyLayer
  pub is_shared : Bool

-- which command a job carries out, and what its first turn chose; each job adds its case
pub data JobKind : Type 0 where
  -- a set or a deletion: one entry of the log
  Changes : JobKind

-- a started command
pub record JobView : Type 0 where
  -- what it adds to the history, and what is pending if the store falls; None where it adds nothing
  pub command : Option Changing
  pub kind : JobKind
  -- numbers drawn for shared objects that are in no entry yet
  pub unintended : List ℕ
  -- the backings that it reads
  pub reads : List ℕ
  pub made : List MadeTable
  -- what it has read of each
  pub so_far : List (ℕ × List ℕ)
  -- the lender's markers by name, each with its object, in the order of what is received
  pub offers : List (List ℕ × Identity)
  -- the marker that a check didn't find
  pub absent : Option (List ℕ)
  -- calls of the bucket so far: 0 exactly until its first turn
  pub made_calls : ℕ
  -- from its first turn on, a bound on those still to come
  pub left : ℕ

pub record StoreView : Type 0 where
  pub files : StoreFiles
  pub file_users : CountsView
  pub object_users : CountsView
  pub fg : Option JobView
  pub bg : Option JobView
  pub is_down : Bool

abbrev pub id_of : StoreView → ℕ
id_of store = store.files.provider.catalogue.id

abbrev pub job_in : Lane → StoreView → Option JobView
job_in Fg store = store.fg
job_in Bg store = store.bg

abbrev pub unintended_of : Option JobView → List ℕ
unintended_of None = []
unintended_of (Some job) = job.unintended

-- of the commands in both lanes
abbrev pub unintended_in : StoreView → List ℕ
unintended_in store = unintended_of store.fg ++ unintended_of store.bg

abbrev pub offers_of : Option JobView → List (List ℕ × Identity)
offers_of None = []
offers_of (Some job) = job.offers

-- no command stands in a lane
pub record IsIdle (store : StoreView) : Type 0 where
  pub front : store.fg ≡ None
  pub behind : store.bg ≡ None

-- what holds of every store in memory, with no device in it; a Down store keeps it
pub record IsOpenStore (store : StoreView) : Type 0 where
  pub ready : IsReady store.files
