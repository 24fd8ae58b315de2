-- What the headline says of `open A` and `A set a 1` over a folder without a log, where no line was refused.
use Rattle.std.proofs.Common.{◌≡◌, ℕ, ◌+◌, true, List, [], ◌∷◌, length, Option, Some, None, MatchBool, ◌⊎◌, inl, inr, codes, refl, sym, ap, ◌∙◌, subst, arith}
use Rattle.std.specs.FinMap.{empty, insert, get, get-empty}
use Rattle.std.specs.Cmp.Lexicographic.{slice_cmp}
use Rattle.std.specs.Ordering.{nat_cmp}
use Rattle.pb_devices.specs.Contents.{Contents, Folder, IsImage, MayLeave}
use Rattle.pb_devices.specs.declared.trace.Mark.{Mark}
use Rattle.pb_keys.specs.Map.{Map}
use Rattle.pb_gate_log.specs.Payloads.{payloads_in}
use Rattle.pebble_cli.specs.Folder.{log_name, Replays, StandsFor}
use Rattle.pb_mem.specs.Disk.{DiskView, held}
use Rattle.pb_mem.specs.Slots.{SlotView, Slots, IsImageOf, IsImageOfAny, earlier_of, file_of}
use Rattle.pebble_cli.specs.Headline.{Headline, IsGood, MayStandFor, StoodFor}
use Rattle.pb_script.specs.declared.command.Command.TheVariants.{Set}
use Rattle.pb_script.specs.declared.line.Line.{Line}
use Rattle.pb_script.specs.declared.line.Line.TheVariants.{Open, Whole}
use Rattle.pb_script.specs.Strings.{bytes_of, string_of}
use Rattle.pb_script.specs.Fields.{word_at, string_at, store_at, pair_at, at_end}
use Rattle.pb_script.specs.Commands.{set_of, command_of, command_named}
use Rattle.pb_script.specs.Lines.{store_alone, open_of, whole_named, family_line, line_named, line_of}
use Rattle.pb_script.specs.Script.{said, step, numbered_from, numbered}
use Rattle.pb_machine.specs.Family.{FamilyState, StoreState, is_open, start}
use Rattle.pb_machine.specs.Ran.{Ran}
use Rattle.pb_machine.specs.After.{after_judged, line_after}
use Rattle.pb_machine.specs.Agreement.{IsAccepted, IsKept}
use Rattle.pb_machine.specs.Replies.{own_reply, refusal_to, reply_or}
use Rattle.pb_machine.specs.Trail.{AreRan, RanLine, refusal_in}
use Rattle.pebble_cli.specs.Runs.{Task, script, Causes, RunMeets, IsWhole, lines_of_task, marks_of, status_of, status_of_number, task_of}
use Rattle.pb_reply.specs.Statuses.{first_status, place}
use Rattle.pb_reply.specs.declared.refusal.Refusal.{Refusal}
use Rattle.pb_reply.specs.declared.refusal.Refusal.TheVariants.{Busy}
use Rattle.pb_reply.specs.declared.reply.Reply.{Reply}
use Rattle.pb_reply.specs.declared.status.Status.{Status}
use Rattle.pb_reply.specs.declared.status.Status.TheVariants.{Success}
use Rattle.pebble_cli.proofs.StatusFacts.{number_done, place_first}
use Rattle.pebble_cli.proofs.SetFacts.{one_make}

abbrev pub one_set : List Line
one_set = Open 1 ∷ Whole 1 (Set (97 ∷ []) (49 ∷ [])) ∷ []

abbrev pub one_pair : Map
one_pair = insert empty (97 ∷ []) (49 ∷ [])

none_refused : (r s : Mark) → status_of (r ∷ s ∷ []) ≡ Success → (r.refusal ≡ 0) × (s.refusal ≡ 0)
none_refused r s is =
    let one = status_of_number r.refusal in
    let other = status_of_number s.refusal in
    let last = place_first (first_status Success one) other in
    let first = place_first Success one in
    let done : place (first_status (first_status Success one) other) ≡ 4 = ap place is in
    (number_done r.refusal (omega (arith, last.0, first.1, done)), number_done s.refusal (omega (arith, last.1, done)))

nothing_made : Replays [] 0 empty
nothing_made = record { sets = []; are = record { spelled = refl; each = tt; rises = tt }; count = refl; map = refl }

-- a folder without a log stands for nothing yet
pub nothing_yet : (entry : Contents) (n : ℕ) (m : Map) → ((image : Option (List ℕ)) → MayLeave entry log_name image → image ≡ None)
    → MayStandFor entry n m → (n ≡ 0) × (m ≡ empty)
nothing_yet entry n m no_log stood =
    one_make [] n 0 m empty (subst (λ (image : Option (List ℕ)). Replays (payloads_in image) n m)
    (no_log (stood.0 log_name) (stood.1 log_name)) stood.2)
    nothing_made

-- a line whose mark has no refusal was accepted
accepted : (judged : Option Refusal) (own : Reply) → refusal_in (reply_or judged own) ≡ 0 → judged ≡ None
accepted None own is = refl
accepted (Some Busy) own is = absurd (omega (arith, is))
accepted (Some refusal) own is = absurd (omega (arith, is))

line_accepted : (family : FamilyState) (line : Line) (ran : Ran) → RanLine family line ran → ran.mark.refusal ≡ 0
    → refusal_to family line ran ≡ None
line_accepted family line ran right is =
    accepted (refusal_to family line ran) (own_reply family line ran) (sym (ap (λ (m : Mark). m.refusal) right.mark) ∙ is)

abbrev set_line : Line
set_line = Whole 1 (Set (97 ∷ []) (49 ∷ []))

-- the family after both
abbrev taken_state : (ℕ → Map) → Ran → Ran → FamilyState
taken_state maps r s = after_judged None (after_judged None (start maps) (Open 1) r) set_line s

two_ran : (entry exit : Contents) (r s : Ran) → r.mark.refusal ≡ 0 → s.mark.refusal ≡ 0
    → ((image : Option (List ℕ)) → MayLeave entry log_name image → image ≡ None)
    → ((maps : ℕ → Map) → AreRan (start maps) one_set (r ∷ s ∷ [])) → Headline entry exit one_set (r ∷ s ∷ []) → (folder : Folder)
    → IsImage exit folder → StandsFor folder 1 one_pair
two_ran entry exit r s first second no_log each headline folder is =
    let maps = headline.maps in
    let ran = each maps in
    let stood = headline.images folder is in
    let opened = line_accepted (start maps) (Open 1) r ran.0 first in
    let middle = line_after (start maps) (Open 1) r in
    let set = line_accepted middle set_line s ran.1.0 second in
    let began = nothing_yet entry r.mark.count (maps 1) no_log (headline.finds.0 opened) in
    let last : (line_after middle set_line s).stores 1 ≡ (taken_state maps r s).stores 1 =
    ap (λ (judged : Option Refusal). (after_judged judged middle set_line s).stores 1) set
    ∙ ap (λ (judged : Option Refusal). (after_judged None (after_judged judged (start maps) (Open 1) r) set_line s).stores 1) opened in
    let held = subst (λ (state : StoreState). MatchBool (is_open state) (IsAccepted state.history stood.0 stood.1)
    (IsKept (StoodFor entry 1) state.history stood.0 stood.1)) last stood.3 in
    subst (λ (l : Map). StandsFor folder 1 l) (held.1 ∙ ap (λ (l : Map). insert l (97 ∷ []) (49 ∷ [])) began.1)
    (subst (λ (k : ℕ). StandsFor folder k stood.1) (held.0 ∙ ap (λ k. k + 1) began.0) stood.2)

pub after_one_set : (entry exit : Contents) (ran : List Ran) → length ran ≡ 2 → status_of (marks_of ran) ≡ Success
    → ((image : Option (List ℕ)) → MayLeave entry log_name image → image ≡ None)
    → ((maps : ℕ → Map) → AreRan (start maps) one_set ran) → Headline entry exit one_set ran → (folder : Folder) → IsImage exit folder
    → StandsFor folder 1 one_pair
after_one_set entry exit [] two done no_log each headline folder is = absurd (omega (arith, two))
after_one_set entry exit (r ∷ []) two done no_log each headline folder is = absurd (omega (arith, two))
after_one_set entry exit (r ∷ s ∷ t ∷ ran) two done no_log each headline folder is = absurd (omega (arith, two))
after_one_set entry exit (r ∷ s ∷ []) two done no_log each headline folder is =
    let none = none_refused r.mark s.mark done in
    two_ran entry exit r s none.0 none.1 no_log each headline folder is

-- ---- over a new disk in memory

-- what a power cut may leave of a name with this slot
abbrev MayBe : Option (List ℕ) → Option SlotView → Type 0
MayBe image slot = IsImageOfAny (earlier_of slot) image ⊎ IsImageOf (file_of slot) image

none_left : (image : Option (List ℕ)) → MayBe image None → image ≡ None
none_left image (inl never) = absurd never
none_left image (inr none) = none

no_log : (disk : DiskView) → disk.slots ≡ empty → (image : Option (List ℕ)) → MayLeave (held disk) log_name image → image ≡ None
no_log disk new image left =
    none_left image (subst (MayBe image) (get-empty (slice_cmp nat_cmp) log_name)
    (subst (λ (slots : Slots). MayBe image (get slots log_name)) new left))

new_is_good : (disk : DiskView) → disk.slots ≡ empty → IsGood (held disk)
new_is_good disk new folder is = (
  0,
  empty,
  subst (λ (image : Option (List ℕ)). Replays (payloads_in image) 0 empty)
      (sym (no_log disk new (folder log_name) (is log_name))) nothing_made,
)

abbrev pub LeftBy : DiskView → DiskView → Task → List Ran → Type 0
LeftBy a b task ran = true ≡ true → IsGood (held a) → Headline (held a) (held b) (lines_of_task task) ran

pub one_set_runs : (task : Task) (status : Status) (marks : List Mark) (a b : DiskView) (Printed : List Ran → Type 0) (before now : ℕ)
    → task ≡ script one_set → a.slots ≡ empty
    → RunMeets task status marks Printed (LeftBy a b task) → Causes status marks before now → status ≡ Success → (folder : Folder)
    → IsImage (held b) folder → StandsFor folder 1 one_pair
one_set_runs task status marks a b Printed before now is new comes causes done folder image =
    let here = subst (λ (t : Task). RunMeets t status marks Printed (LeftBy a b t)) is comes in
    let whole : IsWhole status = subst IsWhole (sym done) tt in
    after_one_set (held a) (held b) here.ran (here.ends.every_line whole)
    (ap status_of (sym here.marked) ∙ sym (causes.ranked whole) ∙ done) (no_log a new)
    here.ends.each_mark (here.left refl (new_is_good a new)) folder image

one_set_script : task_of (codes "run" ∷ []) (codes "open A\nA set a 1\n") ≡ script one_set
unfolding numbered numbered_from step said line_of line_named open_of store_alone store_at word_at at_end family_line whole_named command_of command_named set_of pair_at string_at string_of bytes_of
one_set_script = refl

pub one_set_task : (word left : List ℕ) → word ≡ codes "run" → left ≡ codes "open A\nA set a 1\n"
    → task_of (word ∷ []) left ≡ script one_set
one_set_task word left run is = ap (λ w. task_of (w ∷ []) left) run ∙ ap (task_of (codes "run" ∷ [])) is ∙ one_set_script

pub first_of : {X : Type 0} (xs : List X) → length xs ≡ 8 → (x : X) × (rest : List X) × (xs ≡ x ∷ rest)
first_of [] eight = absurd (omega (arith, eight))
first_of (x ∷ rest) eight = (x, rest, refl)
