-- Worked rows, computed from lines and what they came to. Maps stay symbols.
use Rattle.std.proofs.Common.{◌≡◌, ℕ, zero, suc, Bool, true, false, List, [], ◌∷◌, ◌++◌, codes, replicate, Option, Some, None, refl}
use Rattle.std.specs.FinMap.{insert}
use Rattle.pb_keys.specs.Key.{key_cmp}
use Rattle.pb_keys.specs.Map.{Map}
use Rattle.pb_keys.specs.Span.{overlap, span_of}
use Rattle.pb_rows.specs.Changing.{Excise}
use Rattle.pb_rows.specs.Hull.{hull_of}
use Rattle.pb_reply.specs.declared.refusal.Refusal.TheVariants as refusal
use Rattle.pb_reply.specs.declared.reply.Reply.{Reply}
use Rattle.pb_reply.specs.declared.reply.Reply.TheVariants as reply
use Rattle.pb_script.specs.declared.command.Command.TheVariants as command
use Rattle.pb_script.specs.declared.line.Lane.TheVariants.{Fg, Bg}
use Rattle.pb_script.specs.declared.line.Line.{Line}
use Rattle.pb_script.specs.declared.line.Line.TheVariants as line
use Rattle.pb_script.specs.declared.table_line.TableLine.TheVariants as table
use Rattle.pb_machine.specs.Ran.{Ran}
use Rattle.pb_machine.proofs.Rows.{Row, below, counted, fell, found, going, history_of_a, level_row, met, pair, refused, went}

-- a set is read
a_set_is_read : Row
    (line.Open 1 ∷ line.Whole 1 (command.Set (codes "a") (codes "1")) ∷ line.Whole 1 (command.Get (codes "a")) ∷ [])
    (counted 0 ∷ counted 1 ∷ found (reply.Value (codes "1")) ∷ [])
    (reply.Opened 0 ∷ reply.Accepted 1 ∷ reply.Value (codes "1") ∷ [])
a_set_is_read maps = (refl, refl)

-- a store that isn't open, one that is, and a handle that isn't there
phases : Row
    (line.Whole 1 (command.Set (codes "a") (codes "1")) ∷ line.Open 1 ∷ line.Open 1 ∷ line.DropHandle (codes "h") ∷ [])
    (refused 2 ∷ counted 0 ∷ refused 3 ∷ refused 15 ∷ [])
    (reply.Refused refusal.NotOpen ∷ reply.Opened 0 ∷ reply.Refused refusal.AlreadyOpen ∷ reply.Refused refusal.NoHandle ∷ [])
phases maps = (refl, refl)

-- the longest key and value, and one byte more; a key that begins with '@'; ends that don't rise
forms : Row
    (line.Open 1 ∷ line.Whole 1 (command.Set (replicate 1024 107) (replicate 65536 118))
    ∷ line.Whole 1 (command.Set (replicate 1025 107) (codes "1")) ∷ line.Whole 1 (command.Set (codes "a") (replicate 65537 118))
    ∷ line.Whole 1 (command.Set (codes "@1") (codes "v")) ∷ line.Whole 1 (command.DelRange (codes "b") (codes "a"))
    ∷ line.Whole 1 (command.DelRange (codes "a") (codes "a")) ∷ [])
    (counted 0 ∷ counted 1 ∷ refused 4 ∷ refused 6 ∷ refused 4 ∷ refused 5 ∷ refused 5 ∷ [])
    (reply.Opened 0 ∷ reply.Accepted 1 ∷ reply.Refused refusal.BadKey ∷ reply.Refused refusal.TooLarge ∷ reply.Refused refusal.BadKey
    ∷ reply.Refused refusal.BadSpan ∷ reply.Refused refusal.BadSpan ∷ [])
forms maps = (refl, refl)

-- hulls that overlap come before one that is outside, and both behind names
hulls : Row
    (line.Open 1
    ∷ line.Table (codes "t") (table.Set (codes "a") (codes "1") ∷ table.Set (codes "c") (codes "3") ∷ [])
    ∷ line.Table (codes "u") (table.Set (codes "c") (codes "4") ∷ [])
    ∷ line.Whole 1 (command.Ingest (codes "t" ∷ codes "u" ∷ []))
    ∷ line.Whole 1 (command.IngestExcise (record { lo = codes "a"; hi = codes "c"; tables = codes "t" ∷ [] }))
    ∷ line.Whole 1 (command.IngestExcise (record { lo = codes "a"; hi = codes "c"; tables = codes "t" ∷ codes "u" ∷ [] }))
    ∷ line.Whole 1 (command.Ingest (codes "t" ∷ codes "v" ∷ []))
    ∷ line.Table (codes "w") (table.Set (codes "b") (codes "1") ∷ table.Set (codes "a") (codes "2") ∷ []) ∷ [])
    (counted 0 ∷ went ∷ went ∷ refused 8 ∷ refused 9 ∷ refused 8 ∷ refused 7 ∷ refused 27 ∷ [])
    (reply.Opened 0 ∷ reply.Table (codes "t") ∷ reply.Table (codes "u") ∷ reply.Refused (refusal.Overlap 0 1)
    ∷ reply.Refused (refusal.Outside 0) ∷ reply.Refused (refusal.Overlap 0 1) ∷ reply.Refused refusal.NoTable
    ∷ reply.Refused (refusal.BadTable 1) ∷ [])
unfolding hull_of key_cmp overlap
hulls maps = (refl, refl)

-- what was lent stays with the receiver
lending : Row
    (line.Open 1 ∷ line.Open 2
    ∷ line.Table (codes "t") (table.Set (codes "a") (codes "1") ∷ table.Set (codes "b") (codes "2") ∷ [])
    ∷ line.Whole 1 (command.Ingest (codes "t" ∷ [])) ∷ line.Whole 1 (command.Set (codes "a") (codes "7"))
    ∷ line.Whole 1 (command.Lend (record { lo = codes "a"; hi = codes "z"; handle = codes "h" }))
    ∷ line.Whole 2 (command.Receive (codes "h")) ∷ line.DropHandle (codes "h") ∷ line.Whole 1 (command.Excise (codes "a") (codes "z"))
    ∷ line.Whole 1 command.Release ∷ line.Whole 2 (command.Scan (codes "a") (codes "z")) ∷ line.Objects ∷ [])
    (counted 0 ∷ counted 0 ∷ went ∷ counted 1 ∷ counted 2 ∷ went ∷ counted 1 ∷ went ∷ counted 3 ∷ went
    ∷ found (reply.Rows (pair (codes "a") (codes "7") ∷ pair (codes "b") (codes "2") ∷ []))
    ∷ found (reply.Objects (codes "obj/1/4" ∷ codes "obj/1/4.ref.2.4" ∷ [])) ∷ [])
    (reply.Opened 0 ∷ reply.Opened 0 ∷ reply.Table (codes "t") ∷ reply.Accepted 1 ∷ reply.Accepted 2 ∷ reply.Lent (codes "h") ∷ reply.Accepted 1
    ∷ reply.Dropped ∷ reply.Accepted 3 ∷ reply.Done ∷ reply.Rows (pair (codes "a") (codes "7") ∷ pair (codes "b") (codes "2") ∷ [])
    ∷ reply.Objects (codes "obj/1/4" ∷ codes "obj/1/4.ref.2.4" ∷ []) ∷ [])
unfolding hull_of key_cmp overlap
lending maps = (refl, refl)

-- a lender that is stopped between a receive's turns: its marker is gone
gone : Row
    (line.Open 1 ∷ line.Open 2 ∷ line.Table (codes "t") (table.Set (codes "a") (codes "1") ∷ [])
    ∷ line.Whole 1 (command.Ingest (codes "t" ∷ []))
    ∷ line.Whole 1 (command.Lend (record { lo = codes "a"; hi = codes "b"; handle = codes "h" }))
    ∷ line.Start 2 (command.Receive (codes "h")) ∷ line.Turn 2 Fg ∷ line.Stop 1 ∷ line.Open 1
    ∷ line.Whole 1 (command.Excise (codes "a") (codes "b")) ∷ line.Whole 1 command.Release
    ∷ line.Turn 2 Fg ∷ line.Turn 2 Fg ∷ line.Turn 2 Fg ∷ line.Turn 2 Fg ∷ line.Objects ∷ [])
    (counted 0 ∷ counted 0 ∷ went ∷ counted 1 ∷ went ∷ going ∷ going ∷ went ∷ counted 1 ∷ counted 2 ∷ went ∷ going ∷ going ∷ going
    ∷ met (refusal.Gone (codes "obj/1/4.ref.1.4")) ∷ found (reply.Objects []) ∷ [])
    (reply.Opened 0 ∷ reply.Opened 0 ∷ reply.Table (codes "t") ∷ reply.Accepted 1 ∷ reply.Lent (codes "h") ∷ reply.Started ∷ reply.Working
    ∷ reply.Stopped ∷ reply.Opened 1 ∷ reply.Accepted 2 ∷ reply.Done ∷ reply.Working ∷ reply.Working ∷ reply.Working
    ∷ reply.Refused (refusal.Gone (codes "obj/1/4.ref.1.4")) ∷ reply.Objects [] ∷ [])
unfolding hull_of key_cmp overlap
gone maps = (refl, refl)

-- one that is stopped behind the receive's check takes nothing back: the handle is as it was when the receive was started
kept : Row
    (line.Open 1 ∷ line.Open 2 ∷ line.Table (codes "t") (table.Set (codes "a") (codes "1") ∷ [])
    ∷ line.Whole 1 (command.Ingest (codes "t" ∷ []))
    ∷ line.Whole 1 (command.Lend (record { lo = codes "a"; hi = codes "b"; handle = codes "h" }))
    ∷ line.Start 2 (command.Receive (codes "h")) ∷ line.Turn 2 Fg ∷ line.DropHandle (codes "h") ∷ line.Turn 2 Fg ∷ line.Stop 1 ∷ line.Open 1
    ∷ line.Whole 1 (command.Excise (codes "a") (codes "b")) ∷ line.Whole 1 command.Release
    ∷ line.Whole 2 (command.Get (codes "a")) ∷ [])
    (counted 0 ∷ counted 0 ∷ went ∷ counted 1 ∷ went ∷ going ∷ going ∷ went ∷ counted 1 ∷ went ∷ counted 1 ∷ counted 2 ∷ went
    ∷ found (reply.Value (codes "1")) ∷ [])
    (reply.Opened 0 ∷ reply.Opened 0 ∷ reply.Table (codes "t") ∷ reply.Accepted 1 ∷ reply.Lent (codes "h") ∷ reply.Started ∷ reply.Working
    ∷ reply.Dropped ∷ reply.Accepted 1 ∷ reply.Stopped ∷ reply.Opened 1 ∷ reply.Accepted 2 ∷ reply.Done ∷ reply.Value (codes "1") ∷ [])
unfolding hull_of key_cmp overlap
kept maps = (refl, refl)

-- a pin keeps what its store forgets
pins : Row
    (line.Open 1 ∷ line.Whole 1 (command.Set (codes "a") (codes "1")) ∷ line.Whole 1 (command.Set (codes "b") (codes "2"))
    ∷ line.Whole 1 command.Flush ∷ line.Whole 1 (command.Pin (codes "p")) ∷ line.Whole 1 (command.Excise (codes "a") (codes "z"))
    ∷ line.Whole 1 (command.Compact 0 (codes "a") (codes "z")) ∷ line.GetAt (codes "p") (codes "a") ∷ line.Whole 1 (command.Get (codes "a"))
    ∷ line.Unpin (codes "p") ∷ line.GetAt (codes "p") (codes "a") ∷ line.GetAt (codes "p") (codes "@") ∷ line.Levels 1 ∷ [])
    (counted 0 ∷ counted 1 ∷ counted 2 ∷ went ∷ went ∷ counted 3 ∷ went ∷ found (reply.Value (codes "1")) ∷ found reply.Absent ∷ went
    ∷ refused 17 ∷ refused 4 ∷ found (reply.Levels []) ∷ [])
    (reply.Opened 0 ∷ reply.Accepted 1 ∷ reply.Accepted 2 ∷ reply.Done ∷ reply.Pinned (codes "p") ∷ reply.Accepted 3 ∷ reply.Done
    ∷ reply.Value (codes "1") ∷ reply.Absent ∷ reply.Unpinned ∷ reply.Refused refusal.NoPin ∷ reply.Refused refusal.BadKey ∷ reply.Levels [] ∷ [])
pins maps = (refl, refl)

-- a started command keeps its lane until its last turn
turns : Row
    (line.Open 1 ∷ line.Table (codes "t") (table.Set (codes "a") (codes "1") ∷ []) ∷ line.Calls
    ∷ line.Start 1 (command.Ingest (codes "t" ∷ [])) ∷ line.Calls ∷ line.Whole 1 (command.Get (codes "a")) ∷ line.Turn 1 Fg ∷ line.Calls
    ∷ line.Turn 1 Fg ∷ line.Calls ∷ line.Turn 1 Fg ∷ [])
    (counted 0 ∷ went ∷ found (reply.Calls 0) ∷ going ∷ found (reply.Calls 0) ∷ refused 1 ∷ going ∷ found (reply.Calls 1) ∷ counted 1
    ∷ found (reply.Calls 2) ∷ refused 25 ∷ [])
    (reply.Opened 0 ∷ reply.Table (codes "t") ∷ reply.Calls 0 ∷ reply.Started ∷ reply.Calls 0 ∷ reply.Refused refusal.Busy ∷ reply.Working
    ∷ reply.Calls 1 ∷ reply.Accepted 1 ∷ reply.Calls 2 ∷ reply.Refused refusal.Idle ∷ [])
unfolding hull_of key_cmp overlap
turns maps = (refl, refl)

-- lane bg has nothing to release
lanes : Row
    (line.Open 1 ∷ line.Table (codes "t") (table.Set (codes "a") (codes "1") ∷ [])
    ∷ line.Table (codes "u") (table.Set (codes "c") (codes "1") ∷ []) ∷ line.Start 1 (command.Ingest (codes "t" ∷ codes "u" ∷ []))
    ∷ line.Turn 1 Fg ∷ line.Turn 1 Fg ∷ line.Turn 1 Bg ∷ line.Turn 1 Fg ∷ line.Turn 1 Fg ∷ line.Whole 1 (command.Get (codes "a")) ∷ [])
    (counted 0 ∷ went ∷ went ∷ going ∷ going ∷ going ∷ met refusal.Idle ∷ going ∷ counted 1 ∷ found (reply.Value (codes "1")) ∷ [])
    (reply.Opened 0 ∷ reply.Table (codes "t") ∷ reply.Table (codes "u") ∷ reply.Started ∷ reply.Working ∷ reply.Working
    ∷ reply.Refused refusal.Idle ∷ reply.Working ∷ reply.Accepted 1 ∷ reply.Value (codes "1") ∷ [])
unfolding hull_of key_cmp overlap
lanes maps = (refl, refl)

-- ---- falls

falling : List Line
falling =
    line.Open 1 ∷ line.Whole 1 (command.Set (codes "a") (codes "1")) ∷ line.Whole 1 (command.Set (codes "b") (codes "2"))
    ∷ line.Whole 1 (command.Get (codes "a")) ∷ line.Open 1 ∷ line.Whole 1 command.Flush ∷ line.Open 1 ∷ []

fallen : List Ran
fallen = counted 0 ∷ counted 1 ∷ fell refusal.DiskFault ∷ below (refused 2) ∷ counted 2 ∷ fell refusal.DiskFault ∷ counted 2 ∷ []

-- a fault ends the store, whatever command it was; it can be opened again
falls : Row falling fallen
    (reply.Opened 0 ∷ reply.Accepted 1 ∷ reply.Refused refusal.DiskFault ∷ reply.Refused refusal.NotOpen ∷ reply.Opened 2
    ∷ reply.Refused refusal.DiskFault ∷ reply.Opened 2 ∷ [])
unfolding falling fallen
falls maps = (refl, refl)

-- the opening behind it found the pending command done, and nothing is pending then
pending_done : (maps : ℕ → Map) → history_of_a maps falling fallen
    ≡ record { has_begun = true; count = 2; map = insert (insert (maps 1) (codes "a") (codes "1")) (codes "b") (codes "2"); pending = None }
unfolding falling fallen
pending_done maps = refl

-- a compaction that falls in lane bg leaves nothing pending, though lane fg had an excise
bg_falls : (maps : ℕ → Map) → history_of_a maps
    (line.Open 1 ∷ line.Start 1 (command.Excise (codes "a") (codes "b")) ∷ line.Start 1 (command.Compact 0 (codes "a") (codes "b"))
    ∷ line.Turn 1 Bg ∷ []) (counted 0 ∷ going ∷ going ∷ fell refusal.DiskFault ∷ [])
    ≡ record { has_begun = true; count = 0; map = maps 1; pending = None }
bg_falls maps = refl

-- and an excise that falls in lane fg is pending
fg_falls : (maps : ℕ → Map) → history_of_a maps
    (line.Open 1 ∷ line.Start 1 (command.Excise (codes "a") (codes "b")) ∷ line.Turn 1 Fg ∷ []) (counted 0 ∷ going ∷ fell refusal.DiskFault ∷ [])
    ≡ record { has_begun = true; count = 0; map = maps 1; pending = Some (Excise (span_of (codes "a") (codes "b"))) }
fg_falls maps = refl

-- ---- limits

pin_lines : ℕ → List Line
pin_lines zero = []
pin_lines (suc n) = line.Whole 1 (command.Pin (112 ∷ n ∷ [])) ∷ pin_lines n

pin_replies : ℕ → List Reply
pin_replies zero = []
pin_replies (suc n) = reply.Pinned (112 ∷ n ∷ []) ∷ pin_replies n

-- a 65th pin
many_pins : Row
    (line.Open 1 ∷ (pin_lines 64 ++ line.Whole 1 (command.Pin (codes "p")) ∷ []))
    (counted 0 ∷ (replicate 64 went ++ refused 10 ∷ []))
    (reply.Opened 0 ∷ (pin_replies 64 ++ reply.Refused (refusal.TooMany 64) ∷ []))
unfolding pin_lines pin_replies
many_pins maps = (refl, refl)

lend_lines : ℕ → List Line
lend_lines zero = []
lend_lines (suc n) = line.Whole 1 (command.Lend (record { lo = codes "a"; hi = codes "b"; handle = 104 ∷ n ∷ [] })) ∷ lend_lines n

lend_replies : ℕ → List Reply
lend_replies zero = []
lend_replies (suc n) = reply.Lent (104 ∷ n ∷ []) ∷ lend_replies n

-- a 17th handle
many_handles : Row
    (line.Open 1 ∷ (lend_lines 16 ++ line.Whole 1 (command.Lend (record { lo = codes "a"; hi = codes "b"; handle = codes "h" })) ∷ []))
    (counted 0 ∷ (replicate 16 went ++ refused 10 ∷ []))
    (reply.Opened 0 ∷ (lend_replies 16 ++ reply.Refused (refusal.TooMany 16) ∷ []))
unfolding lend_lines lend_replies
many_handles maps = (refl, refl)

-- ---- levels, blocks and lending

-- a flush that is started holds the lane of a `set` and a `get`
started_flush : Row
    (line.Open 1 ∷ line.Whole 1 (command.Set (codes "a") (codes "1")) ∷ line.Start 1 command.Flush
    ∷ line.Whole 1 (command.Set (codes "b") (codes "2")) ∷ line.Whole 1 (command.Get (codes "a")) ∷ line.Turn 1 Fg ∷ line.Levels 1 ∷ line.Turn 1 Fg ∷ [])
    (counted 0 ∷ counted 1 ∷ going ∷ refused 1 ∷ refused 1 ∷ went
    ∷ found (reply.Levels (level_row 0 4 (codes "a") (97 ∷ 0 ∷ []) false 4 ∷ [])) ∷ refused 25 ∷ [])
    (reply.Opened 0 ∷ reply.Accepted 1 ∷ reply.Started ∷ reply.Refused refusal.Busy ∷ reply.Refused refusal.Busy ∷ reply.Done
    ∷ reply.Levels (level_row 0 4 (codes "a") (97 ∷ 0 ∷ []) false 4 ∷ []) ∷ reply.Refused refusal.Idle ∷ [])
started_flush maps = (refl, refl)

-- a store that is closed and opened again has its commands
closed_and_opened : Row
    (line.Open 1 ∷ line.Whole 1 (command.Set (codes "a") (codes "1")) ∷ line.Whole 1 command.Flush
    ∷ line.Whole 1 (command.Set (codes "a") (codes "2")) ∷ line.Whole 1 (command.Del (codes "b")) ∷ line.Whole 1 command.Flush
    ∷ line.Close 1 ∷ line.Whole 1 (command.Get (codes "a")) ∷ line.Open 1 ∷ line.Whole 1 (command.Get (codes "a")) ∷ [])
    (counted 0 ∷ counted 1 ∷ went ∷ counted 2 ∷ counted 3 ∷ went ∷ went ∷ refused 2 ∷ counted 3 ∷ found (reply.Value (codes "2")) ∷ [])
    (reply.Opened 0 ∷ reply.Accepted 1 ∷ reply.Done ∷ reply.Accepted 2 ∷ reply.Accepted 3 ∷ reply.Done ∷ reply.Closed
    ∷ reply.Refused refusal.NotOpen ∷ reply.Opened 3 ∷ reply.Value (codes "2") ∷ [])
closed_and_opened maps = (refl, refl)

-- an empty block is bad at its line 0
empty_block : Row
    (line.Open 1 ∷ line.Table (codes "t") []
    ∷ line.Table (codes "t") (table.Set (codes "a") (codes "1") ∷ table.DelRange (codes "a") (codes "b") ∷ [])
    ∷ line.Whole 1 (command.Set (codes "a") (codes "5")) ∷ line.Whole 1 (command.Ingest (codes "t" ∷ []))
    ∷ line.Whole 1 (command.Scan (codes "a") (codes "z")) ∷ [])
    (counted 0 ∷ refused 27 ∷ went ∷ counted 1 ∷ counted 2 ∷ found (reply.Rows (pair (codes "a") (codes "1") ∷ [])) ∷ [])
    (reply.Opened 0 ∷ reply.Refused (refusal.BadTable 0) ∷ reply.Table (codes "t") ∷ reply.Accepted 1 ∷ reply.Accepted 2
    ∷ reply.Rows (pair (codes "a") (codes "1") ∷ []) ∷ [])
unfolding hull_of key_cmp overlap
empty_block maps = (refl, refl)

-- a handle's name is taken until it is dropped
taken_name : Row
    (line.Open 1 ∷ line.Table (codes "t") (table.Set (codes "a") (codes "1") ∷ []) ∷ line.Whole 1 (command.Ingest (codes "t" ∷ []))
    ∷ line.Whole 1 (command.Lend (record { lo = codes "a"; hi = codes "b"; handle = codes "h" }))
    ∷ line.Whole 1 (command.Lend (record { lo = codes "a"; hi = codes "b"; handle = codes "h" }))
    ∷ line.Whole 1 (command.Receive (codes "h")) ∷ line.DropHandle (codes "h") ∷ line.Whole 1 (command.Receive (codes "h")) ∷ [])
    (counted 0 ∷ went ∷ counted 1 ∷ went ∷ refused 18 ∷ counted 2 ∷ went ∷ refused 15 ∷ [])
    (reply.Opened 0 ∷ reply.Table (codes "t") ∷ reply.Accepted 1 ∷ reply.Lent (codes "h") ∷ reply.Refused refusal.NameTaken ∷ reply.Accepted 2
    ∷ reply.Dropped ∷ reply.Refused refusal.NoHandle ∷ [])
unfolding hull_of key_cmp overlap
taken_name maps = (refl, refl)
