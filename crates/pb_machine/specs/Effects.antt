-- What each command does to the map of its store.
use Rattle.std.specs.Prelude.{ℕ, List, [], Option, Some, None, unwrap_or, option_map}
use Rattle.std.specs.List.{filter_map}
use Rattle.pb_keys.specs.Span.{span_of}
use Rattle.pb_keys.specs.View.{KeyView}
use Rattle.pb_rows.specs.Changing.{Changing, Set as SetKey, Del as DelKey, DelRange as DelSpan, Ingest as IngestLayers, Excise as ExciseSpan, IngestExcise as IngestOver, External as SeeThrough, Receive as TakeMap}
use Rattle.pb_rows.specs.Layer.{KeyLayer}
use Rattle.pb_script.specs.declared.command.Command.{Command}
use Rattle.pb_script.specs.declared.command.Command.TheVariants.{Set, Del, DelRange, Get, Scan, Flush, Compact, Release, Ingest, Excise, IngestExcise, External, Lend, Receive, Pin}
use Rattle.pb_script.specs.declared.command.External.{External as ExternalWords}
use Rattle.pb_script.specs.declared.line.Lane.{Lane}
use Rattle.pb_script.specs.declared.line.Lane.TheVariants.{Fg, Bg}
use Rattle.pb_machine.specs.Named.{named}
use Rattle.pb_machine.specs.Family.{Effect, Keeps, Makes, Views, FamilyState, HandleState}
use Rattle.pb_machine.specs.Ran.{Ran}

-- the layers of the tables of these names
abbrev pub layers_named : FamilyState → List (List ℕ) → List KeyLayer
layers_named family names = filter_map (named family.tables) names

-- what a receive of this handle makes
abbrev pub received : Option HandleState → Effect
received None = Keeps
received (Some handle) = Makes (TakeMap handle.span handle.submap)

abbrev pub view_of : ExternalWords → KeyView
view_of words = record { bounds = span_of words.lo words.hi; prefix = unwrap_or words.prefix []; suffix = unwrap_or words.suffix [] }

-- tables and handles are taken as they stand under their names now
abbrev pub effect_of : FamilyState → Command → Effect
effect_of family (Set key value) = Makes (SetKey key value)
effect_of family (Del key) = Makes (DelKey key)
effect_of family (DelRange lo hi) = Makes (DelSpan (span_of lo hi))
effect_of family (Get key) = Keeps
effect_of family (Scan lo hi) = Keeps
effect_of family Flush = Keeps
effect_of family (Compact level lo hi) = Keeps
effect_of family Release = Keeps
effect_of family (Ingest tables) = Makes (IngestLayers (layers_named family tables))
effect_of family (Excise lo hi) = Makes (ExciseSpan (span_of lo hi))
effect_of family (IngestExcise words) = Makes (IngestOver (span_of words.lo words.hi) (layers_named family words.tables))
effect_of family (External words) = Views (view_of words)
effect_of family (Lend words) = Keeps
effect_of family (Receive handle) = received (named family.handles handle)
effect_of family (Pin pin) = Keeps

-- the change that an effect is, where the line came to this
abbrev pub change_of : Effect → Ran → Option Changing
change_of Keeps ran = None
change_of (Makes change) ran = Some change
change_of (Views view) ran = option_map (λ layer. SeeThrough view layer) ran.layer

-- the handle that a command takes
abbrev pub handle_of : FamilyState → Command → Option HandleState
handle_of family (Receive handle) = named family.handles handle
handle_of family command = None

-- the lane that a command needs
abbrev pub lane_of : Command → Lane
lane_of (Compact level lo hi) = Bg
lane_of Release = Bg
lane_of command = Fg
