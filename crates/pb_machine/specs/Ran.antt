-- What a line came to: its mark, and what the mark doesn't tell.
use Rattle.std.specs.Prelude.{List, Option}
use Rattle.pb_devices.specs.declared.trace.Mark.{Mark}
use Rattle.pb_marker_world.specs.Machine.{Marker}
use Rattle.pb_rows.specs.Layer.{KeyLayer}
use Rattle.pb_reply.specs.declared.refusal.Refusal.{Refusal}
use Rattle.pb_reply.specs.declared.reply.Reply.{Reply}

pub record Ran : Type 0 where
  pub mark : Mark
  -- what the work met, with its values
  pub refused : Option Refusal
  -- what a reading line found
  pub read : Reply
  -- of the object of an external, where it has a layer that the view maps
  pub layer : Option KeyLayer
  -- the markers of a lend
  pub lent : List Marker
  -- what a receive's check didn't find in this turn
  pub absent : Option Marker
