-- The refusals that the family's state alone gives, in the order in which they are judged.
use Rattle.std.specs.Prelude.{ℕ, ◌+◌, ◌^◌, Bool, false, not, ◌&&◌, nat_le, if◌then◌else◌, List, [], ◌∷◌, length, Option, Some, None, is_some, is_none}
use Rattle.std.specs.List.{list_any}
use Rattle.std.specs.Option.{option_or}
use Rattle.pb_keys.specs.Key.{is_key}
use Rattle.pb_keys.specs.Order.{is_upto}
use Rattle.pb_keys.specs.Span.{KeySpan, is_span, overlap, span_of}
use Rattle.pb_keys.specs.Value.{is_value}
use Rattle.pb_keys.specs.View.{is_prefix, is_suffix}
use Rattle.pb_rows.specs.Hull.{hull_of}
use Rattle.pb_rows.specs.Layer.{KeyLayer}
use Rattle.pb_reply.specs.declared.refusal.Refusal.{Refusal}
use Rattle.pb_reply.specs.declared.refusal.Refusal.TheVariants.{Busy, NotOpen, AlreadyOpen, BadKey, BadSpan, TooLarge, NoTable, Overlap, Outside, TooMany, NumbersSpent, NoHandle, NoPin, NameTaken, Idle, BadTable}
use Rattle.pb_script.specs.declared.command.Command.{Command}
use Rattle.pb_script.specs.declared.command.Command.TheVariants as command
use Rattle.pb_script.specs.declared.line.Lane.{Lane}
use Rattle.pb_script.specs.declared.line.Lane.TheVariants.{Fg, Bg}
use Rattle.pb_script.specs.declared.line.Line.{Line}
use Rattle.pb_script.specs.declared.line.Line.TheVariants as line
use Rattle.pb_machine.specs.Named.{Named, named}
use Rattle.pb_machine.specs.Family.{FamilyState, StoreState, in_lane, is_open}
use Rattle.pb_machine.specs.Effects.{lane_of, layers_named}
use Rattle.pb_machine.specs.Blocks.{BlockRead, Makes, Bad, block_of}

abbrev pub when : Bool → Refusal → Option Refusal
when test refusal = if test then Some refusal else None

-- the first that is some
abbrev pub first_some : List (Option Refusal) → Option Refusal
first_some [] = None
first_some (cause ∷ causes) = option_or cause (first_some causes)

-- ---- of stores and lanes

abbrev pub not_open : StoreState → Option Refusal
not_open store = when (not (is_open store)) NotOpen

abbrev pub busy : StoreState → Lane → Option Refusal
busy store lane = when (is_some (in_lane store lane)) Busy

-- lane bg may have objects that wait for release: the work tells
abbrev pub idle : StoreState → Lane → Option Refusal
idle store Fg = when (is_none store.fg) Idle
idle store Bg = None

-- counts stay below 2^62
abbrev pub spent : StoreState → Option Refusal
spent store = when (nat_le (2 ^ 62) (store.history.count + 1)) NumbersSpent

-- ---- of words

abbrev pub bad_key : List ℕ → Option Refusal
bad_key key = when (not (is_key key)) BadKey

abbrev pub bad_span : List ℕ → List ℕ → Option Refusal
bad_span lo hi = when (not (is_span (span_of lo hi))) BadSpan

abbrev pub too_large : List ℕ → Option Refusal
too_large value = when (not (is_value value)) TooLarge

-- a prefix or a suffix that is given isn't empty
abbrev pub bad_prefix : Option (List ℕ) → Option Refusal
bad_prefix None = None
bad_prefix (Some bytes) = when (not (nat_le 1 (length bytes) && is_prefix bytes)) BadKey

abbrev pub bad_suffix : Option (List ℕ) → Option Refusal
bad_suffix None = None
bad_suffix (Some bytes) = when (not (nat_le 1 (length bytes) && is_suffix bytes)) BadKey

-- ---- of names

abbrev pub no_table : FamilyState → List (List ℕ) → Option Refusal
no_table family names = when (list_any (λ name. is_none (named family.tables name)) names) NoTable

abbrev pub no_handle : FamilyState → List ℕ → Option Refusal
no_handle family handle = when (is_none (named family.handles handle)) NoHandle

abbrev pub no_pin : FamilyState → List ℕ → Option Refusal
no_pin family pin = when (is_none (named family.pins pin)) NoPin

abbrev pub taken : {X : Type 0} → Named X → List ℕ → Option Refusal
taken pairs name = when (is_some (named pairs name)) NameTaken

abbrev pub too_many : {X : Type 0} → ℕ → Named X → Option Refusal
too_many limit pairs = when (nat_le limit (length pairs)) (TooMany limit)

-- ---- of the hulls of tables

abbrev pub do_hulls_overlap : Option KeySpan → Option KeySpan → Bool
do_hulls_overlap None other = false
do_hulls_overlap (Some hull) None = false
do_hulls_overlap (Some hull) (Some other) = overlap hull other

-- the place of the first of these layers that overlaps this one, where the first has this place
abbrev pub overlapping_from : ℕ → KeyLayer → List KeyLayer → Option ℕ
overlapping_from at layer [] = None
overlapping_from at layer (other ∷ others) =
    if do_hulls_overlap (hull_of layer) (hull_of other) then Some at else overlapping_from (at + 1) layer others

abbrev pub overlap_at : ℕ → Option ℕ → Option Refusal → Option Refusal
overlap_at at None later = later
overlap_at at (Some other) later = Some (Overlap at other)

-- the least place of a layer that overlaps one behind it, and then the least place of such a one
abbrev pub overlapped_from : ℕ → List KeyLayer → Option Refusal
overlapped_from at [] = None
overlapped_from at (layer ∷ layers) = overlap_at at (overlapping_from (at + 1) layer layers) (overlapped_from (at + 1) layers)

abbrev pub is_inside : KeySpan → Option KeySpan → Bool
is_inside span None = false
is_inside span (Some hull) = is_upto span.lo hull.lo && is_upto hull.hi span.hi

-- the least place of a layer whose hull isn't inside the span
abbrev pub outside_from : ℕ → KeySpan → List KeyLayer → Option Refusal
outside_from at span [] = None
outside_from at span (layer ∷ layers) = if is_inside span (hull_of layer) then outside_from (at + 1) span layers else Some (Outside at)

abbrev pub bad_table : BlockRead → Option Refusal
bad_table (Makes layer) = None
bad_table (Bad at) = Some (BadTable at)

-- ---- of commands and lines

-- by the words from left to right, then by the names, then by the hulls; limits last
abbrev pub causes_of : FamilyState → StoreState → Command → List (Option Refusal)
causes_of family store (command.Set key value) = bad_key key ∷ too_large value ∷ spent store ∷ []
causes_of family store (command.Del key) = bad_key key ∷ spent store ∷ []
causes_of family store (command.DelRange lo hi) = bad_span lo hi ∷ spent store ∷ []
causes_of family store (command.Get key) = bad_key key ∷ []
causes_of family store (command.Scan lo hi) = bad_span lo hi ∷ []
causes_of family store command.Flush = []
causes_of family store (command.Compact level lo hi) = bad_span lo hi ∷ []
causes_of family store command.Release = []
causes_of family store (command.Ingest tables) = no_table family tables ∷ overlapped_from 0 (layers_named family tables) ∷ []
causes_of family store (command.Excise lo hi) = bad_span lo hi ∷ []
causes_of family store (command.IngestExcise words) =
    bad_span words.lo words.hi ∷ no_table family words.tables ∷ overlapped_from 0 (layers_named family words.tables)
    ∷ outside_from 0 (span_of words.lo words.hi) (layers_named family words.tables) ∷ []
causes_of family store (command.External words) = bad_span words.lo words.hi ∷ bad_prefix words.prefix ∷ bad_suffix words.suffix ∷ []
causes_of family store (command.Lend words) =
    bad_span words.lo words.hi ∷ taken family.handles words.handle ∷ too_many 16 family.handles ∷ []
causes_of family store (command.Receive handle) = no_handle family handle ∷ []
causes_of family store (command.Pin pin) = taken family.pins pin ∷ too_many 64 family.pins ∷ []

-- a command needs an open store and an empty lane
abbrev pub command_causes : FamilyState → ℕ → Command → List (Option Refusal)
command_causes family number command =
    not_open (family.stores number) ∷ busy (family.stores number) (lane_of command) ∷ causes_of family (family.stores number) command

abbrev pub line_causes : FamilyState → Line → List (Option Refusal)
line_causes family (line.Open number) = when (is_open (family.stores number)) AlreadyOpen ∷ []
line_causes family (line.Close number) =
    not_open (family.stores number) ∷ busy (family.stores number) Fg ∷ busy (family.stores number) Bg ∷ []
line_causes family (line.Stop number) = []
line_causes family (line.Turn number lane) = not_open (family.stores number) ∷ idle (family.stores number) lane ∷ []
line_causes family (line.Levels number) = not_open (family.stores number) ∷ []
line_causes family (line.Whole number command) = command_causes family number command
line_causes family (line.Start number command) = command_causes family number command
line_causes family (line.Table table lines) = bad_table (block_of lines) ∷ []
line_causes family (line.Export table name) = no_table family (table ∷ []) ∷ []
line_causes family (line.DropHandle handle) = no_handle family handle ∷ []
line_causes family (line.GetAt pin key) = bad_key key ∷ no_pin family pin ∷ []
line_causes family (line.Unpin pin) = no_pin family pin ∷ []
line_causes family line.Objects = []
line_causes family line.Calls = []

abbrev pub first_cause : FamilyState → Line → Option Refusal
first_cause family line = first_some (line_causes family line)
