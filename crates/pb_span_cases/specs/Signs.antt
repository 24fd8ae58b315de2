-- The four comparisons of ends that tell the relations apart.
use Rattle.std.specs.declared.cmp.Ordering.{Ordering}
use Rattle.std.specs.declared.cmp.Ordering.TheVariants.{Less, Equal, Greater}
use Rattle.pb_span_cases.specs.declared.relations.Rel.{Rel}
use Rattle.pb_span_cases.specs.declared.relations.Rel.TheVariants as rels

-- of spans a and b: a's end to b's start, b's end to a's start, start to start, end to end
pub record Signs : Type 0 where
  pub front : Ordering
  pub back : Ordering
  pub starts : Ordering
  pub ends : Ordering

-- those of a relation
abbrev pub signs_of : Rel → Signs
signs_of rels.Before = record { front = Less; back = Greater; starts = Less; ends = Less }
signs_of rels.Meets = record { front = Equal; back = Greater; starts = Less; ends = Less }
signs_of rels.After = record { front = Greater; back = Less; starts = Greater; ends = Greater }
signs_of rels.MetBy = record { front = Greater; back = Equal; starts = Greater; ends = Greater }
signs_of rels.Equal = record { front = Greater; back = Greater; starts = Equal; ends = Equal }
signs_of rels.Starts = record { front = Greater; back = Greater; starts = Equal; ends = Less }
signs_of rels.During = record { front = Greater; back = Greater; starts = Greater; ends = Less }
signs_of rels.Finishes = record { front = Greater; back = Greater; starts = Greater; ends = Equal }
signs_of rels.StartedBy = record { front = Greater; back = Greater; starts = Equal; ends = Greater }
signs_of rels.FinishedBy = record { front = Greater; back = Greater; starts = Less; ends = Equal }
signs_of rels.Overlaps = record { front = Greater; back = Greater; starts = Less; ends = Less }
signs_of rels.OverlappedBy = record { front = Greater; back = Greater; starts = Greater; ends = Greater }
signs_of rels.Contains = record { front = Greater; back = Greater; starts = Less; ends = Greater }
