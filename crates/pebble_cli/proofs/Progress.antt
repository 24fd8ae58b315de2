-- The lines of a script, run one by one: their marks, their replies and what is printed.
use Rattle.std.proofs.Common.{◌≡◌, ℕ, ◌+◌, ◌<◌, ◌≤◌, true, get_or, List, [], ◌∷◌, ◌++◌, length, take, flat_map, ◌⊎◌, inl, inr, refl, sym, ap, ◌∙◌, subst, arith, length-append, append_assoc, append-nil}
use Rattle.std.proofs.lemmas.List.{map-append}
use Rattle.std.specs.List.{AllByRecursion, list_all}
use Rattle.std.proofs.lemmas.Grind.{flat_map-append}
use Rattle.std.proofs.Math.Seq.{take-append-add, take-length}
use Rattle.std.specs.FinMap.{empty}
use Rattle.pb_devices.specs.Counts.{Rose}
use Rattle.pb_devices.specs.declared.trace.Mark.{Mark}
use Rattle.pb_keys.specs.Map.{Map}
use Rattle.pb_script.specs.declared.line.Line.{Line}
use Rattle.pb_reply.specs.Printed.{printed}
use Rattle.pb_reply.specs.Statuses.{IsRunStatus}
use Rattle.pb_reply.specs.declared.reply.Reply.{Reply}
use Rattle.pb_reply.specs.declared.status.Status.{Status}
use Rattle.pb_reply.specs.declared.status.Status.TheVariants.{Success, Refused, Usage, Script, Read, Write, Device, Memory, Damaged, TooLong}
use Rattle.pb_machine.specs.Family.{FamilyState, start}
use Rattle.pb_machine.specs.Ran.{Ran}
use Rattle.pb_machine.specs.After.{line_after}
use Rattle.pb_machine.specs.Replies.{reply_to}
use Rattle.pb_machine.specs.Trail.{AreRan, RanLine, replies, states_after}
use Rattle.pebble_cli.specs.Lines.{is_built}
use Rattle.pebble_cli.specs.Steps.{as_line}
use Rattle.pebble_cli.specs.StoreStates.{Acts, ran_of}
use Rattle.pebble_cli.specs.Runs.{Task, script, blank, text_of, IsWhole, IsCutShort, IsText, IsOfLog, status_of, Ends, TakesPart, StopsAtLast, Prints, Causes, marks_of}
use Rattle.pebble_cli.specs.declared.step.Step.{Step}
use Rattle.pebble_cli.specs.declared.store.Store.{Store}
use Rattle.pebble_cli.specs.declared.store.Store.TheVariants.{Closed}
use Rattle.pebble_cli.proofs.ActFacts.{log_named}
use Rattle.pebble_cli.proofs.FaultLines.{line_built}
use Rattle.pebble_cli.proofs.Alone.{Past, family, family_start, nothing_past}
use Rattle.pebble_cli.proofs.Moves.{Words, past_after, words_of}
use Rattle.pebble_cli.proofs.StepMoves.{moves}
use Rattle.pebble_cli.proofs.Machine.{after_is, ran_line, reply_is}
use Rattle.pebble_cli.proofs.StatusFacts.{is_run_status}

-- some lines ran and came to this, and the rest is to run from this state. It is told by what is to come
pub record Reaches (maps : ℕ → Map) (lines : List Line) (ran : List Ran) (state : FamilyState) (rest : List Line) : Type 0 where
  pub marked : (more : List Ran) → AreRan state rest more → AreRan (start maps) lines (ran ++ more)
  pub answered : (more : List Ran) → replies (start maps) lines (ran ++ more) ≡ replies (start maps) lines ran ++ replies state rest more
  pub ended : (more : List Ran) → states_after (start maps) lines (ran ++ more) ≡ states_after state rest more
  pub lengths : length ran + length rest ≡ length lines

pub reaches_start : (maps : ℕ → Map) (lines : List Line) → Reaches maps lines [] (start maps) lines
reaches_start maps lines = record {
  marked = λ more each. each;
  answered = λ more. refl;
  ended = λ more. refl;
  lengths = omega arith;
}

pub reaches_step : (maps : ℕ → Map) (lines : List Line) (ran : List Ran) (state : FamilyState) (line : Line) (rest : List Line) (one : Ran)
    → Reaches maps lines ran state (line ∷ rest) → RanLine state line one
    → Reaches maps lines (ran ++ one ∷ []) (line_after state line one) rest
reaches_step maps lines ran state line rest one so_far is = record {
  marked = λ more each. rw append_assoc (so_far.marked (one ∷ more) (is, each));
  answered = λ more.
      ap (replies (start maps) lines) (append_assoc ran (one ∷ []) more) ∙ so_far.answered (one ∷ more)
      ∙ sym (append_assoc (replies (start maps) lines ran) (reply_to state line one ∷ []) (replies (line_after state line one) rest more))
      ∙ ap (λ before. before ++ replies (line_after state line one) rest more) (sym (so_far.answered (one ∷ [])));
  ended = λ more. ap (states_after (start maps) lines) (append_assoc ran (one ∷ []) more) ∙ so_far.ended (one ∷ more);
  lengths = omega (arith, so_far.lengths, length-append ran (one ∷ []));
}

-- the replies of the lines that ran, printed
abbrev pub texts : List Line → List Ran → List ℕ
texts lines ran = flat_map printed (replies blank lines ran)

pub texts_step : (lines : List Line) (ran : List Ran) (state : FamilyState) (line : Line) (rest : List Line) (one : Ran) (reply : Reply)
    → Reaches (λ store. empty) lines ran state (line ∷ rest) → reply_to state line one ≡ reply
    → texts lines (ran ++ one ∷ []) ≡ texts lines ran ++ printed reply
texts_step lines ran state line rest one reply so_far is =
    ap (flat_map printed) (so_far.answered (one ∷ []) ∙ ap (λ (r : Reply). replies blank lines ran ++ r ∷ []) is)
    ∙ flat_map-append printed (replies blank lines ran) (reply ∷ [])
    ∙ ap (λ text. texts lines ran ++ text) (append-nil (printed reply))

-- ---- the lines of a script that are built

-- the lines that ran, by the maps with which the stores began
pub record RunTo (maps : ℕ → Map) (lines : List Line) (ran : List Ran) (store : Store) (rest : List Line) : Type 0 where
  pub past : Past
  pub so_far : Reaches maps lines ran (family maps store past) rest

-- the lines that ran, against the trace and the store in memory. None of it asks the maps
pub record Going (lines rest : List Line) (marks : List Mark) (store : Store) : Type 0 where
  pub ran : List Ran
  pub marked : marks ≡ marks_of ran
  pub named : AllByRecursion IsOfLog ran
  pub runs : (maps : ℕ → Map) → RunTo maps lines ran store rest

-- what the machine knows of store A by then
abbrev pub past_of : {lines rest : List Line} {marks : List Mark} {store : Store} → Going lines rest marks store → (ℕ → Map) → Past
past_of going maps = (going.runs maps).past

-- the words of the line that is to run
pub step_words : (lines : List Line) (place : ℕ) (line : Line) (step : Step) → list_all is_built lines ≡ true → place < length lines
    → line ≡ get_or lines place line
    → as_line step ≡ line → Words step
step_words lines place line step built within item is = words_of step (ap is_built is ∙ line_built lines place line built within item)

abbrev pub going_start : (lines : List Line) (marks : List Mark) → marks ≡ [] → Going lines lines marks Closed
going_start lines marks none = record {
  ran = [];
  marked = none;
  named = tt;
  runs = λ maps. record {
    past = nothing_past maps;
    so_far = subst (λ (state : FamilyState). Reaches maps lines [] state lines) (sym (family_start maps)) (reaches_start maps lines);
  };
}

pub named_step : (ran : List Ran) (one : Ran) → AllByRecursion IsOfLog ran → IsOfLog one → AllByRecursion IsOfLog (ran ++ one ∷ [])
named_step [] one named is = (is, tt)
named_step (r ∷ ran) one named is = (named.0, named_step ran one named.1 is)

abbrev pub run_to : (maps : ℕ → Map) (lines left rest : List Line) (ran : List Ran) (before after : Store) (step : Step) (reply : Reply)
    → (run : RunTo maps lines ran before left) → left ≡ as_line step ∷ rest → Words step → Acts before step reply after
    → RunTo maps lines (ran ++ ran_of reply after ∷ []) after rest
run_to maps lines left rest ran before after step reply run next words acts =
    let moved = moves maps before run.past step reply after words acts in
    let one = ran_of reply after in
    record {
      past = past_after before step reply run.past;
      so_far =
          subst (λ (state : FamilyState). Reaches maps lines (ran ++ one ∷ []) state rest)
          (after_is maps before run.past step reply after moved)
          (reaches_step maps lines ran (family maps before run.past) (as_line step) rest one
          (subst (λ (l : List Line). Reaches maps lines ran (family maps before run.past) l) next run.so_far)
          (ran_line maps before run.past step reply after moved));
    }

-- a step ran, and has its mark
abbrev pub going_step : (lines left rest : List Line) (old new : List Mark) (before after : Store) (step : Step) (reply : Reply)
    → (going : Going lines left old before)
    → left ≡ as_line step ∷ rest → Words step → Acts before step reply after → new ≡ old ++ (ran_of reply after).mark ∷ []
    → Going lines rest new after
going_step lines left rest old new before after step reply going next words acts marks =
    let one = ran_of reply after in
    record {
      ran = going.ran ++ one ∷ [];
      marked = marks ∙ ap (λ m. m ++ one.mark ∷ []) going.marked ∙ sym (map-append (λ (r : Ran). r.mark) going.ran (one ∷ []));
      named = named_step going.ran one going.named (log_named before step reply after acts);
      runs = λ maps. run_to maps lines left rest going.ran before after step reply (going.runs maps) next words acts;
    }

pub texts_ran : (lines left rest : List Line) (old : List Mark) (before after : Store) (step : Step) (reply : Reply)
    → (going : Going lines left old before)
    → left ≡ as_line step ∷ rest → Words step → Acts before step reply after
    → texts lines (going.ran ++ ran_of reply after ∷ []) ≡ texts lines going.ran ++ printed reply
texts_ran lines left rest old before after step reply going next words acts =
    let maps : ℕ → Map = λ store. empty in
    let run = going.runs maps in
    texts_step lines going.ran (family maps before run.past) (as_line step) rest (ran_of reply after) reply
    (subst (λ (l : List Line). Reaches maps lines going.ran (family maps before run.past) l) next run.so_far)
    (reply_is maps before run.past step reply after (moves maps before run.past step reply after words acts))

pub part_step : (before text now more : List ℕ) → TakesPart (before ++ text) now more → TakesPart before now (text ++ more)
part_step before text now more part = (
  length text + part.0,
  part.1 ∙ append_assoc before text (take part.0 more)
      ∙ ap (λ t. before ++ t) (sym (take-append-add text more part.0)),
)

pub whole_part : (before text now : List ℕ) → now ≡ before ++ text → TakesPart before now text
whole_part before text now is = (length text, is ∙ ap (λ t. before ++ t) (sym (take-length text)))

-- where the write of the last line's reply failed
pub stops_at_last : (lines : List Line) (ran : List Ran) (one : Ran) (before now more : List ℕ)
    → texts lines (ran ++ one ∷ []) ≡ texts lines ran ++ more
    → TakesPart (before ++ texts lines ran) now more → StopsAtLast (script lines) (ran ++ one ∷ []) before now
stops_at_last lines ran one before now more is part =
    record { front = ran; last = one; ran_is = refl; rest = more; text_is = is; taken = part }

pub no_part : (before text now : List ℕ) → now ≡ before → TakesPart before now text
no_part before text now is = (0, is ∙ sym (append-nil before))

-- ---- the statuses of a run whose lines ran

abbrev pub IsOfLines : Status → Type 0
IsOfLines status = IsWhole status ⊎ IsCutShort status

pub not_whole : (status : Status) → IsCutShort status → IsWhole status → ⊥
not_whole Write cut whole = whole
not_whole Memory cut whole = whole
not_whole Success cut whole = cut
not_whole Refused cut whole = cut
not_whole Device cut whole = cut
not_whole Damaged cut whole = cut
not_whole Usage cut whole = cut
not_whole Script cut whole = cut
not_whole Read cut whole = cut
not_whole TooLong cut whole = cut

neither : ⊥ ⊎ ⊥ → ⊥
neither (inl left) = left
neither (inr right) = right

pub not_text : (status : Status) → IsOfLines status → IsText status → ⊥
not_text Write ran text = text
not_text Memory ran text = text
not_text Success ran text = text
not_text Refused ran text = text
not_text Device ran text = text
not_text Damaged ran text = text
not_text Read ran text = text
not_text Usage ran text = neither ran
not_text Script ran text = neither ran
not_text TooLong ran text = neither ran

pub not_read : (status : Status) → IsOfLines status → status ≡ Read → ⊥
not_read status ran is = neither (subst IsOfLines is ran)

of_run : (status : Status) → IsRunStatus status → IsOfLines status
of_run Success is = inl tt
of_run Refused is = inl tt
of_run Device is = inl tt
of_run Damaged is = inl tt
of_run Memory is = inr tt
of_run status is = absurd is

pub ranked : (marks : List Mark) → IsOfLines (status_of marks)
ranked marks = of_run (status_of marks) (is_run_status marks)

each_mark : (lines rest : List Line) (ran : List Ran) (store : Store) → ((maps : ℕ → Map) → RunTo maps lines ran store rest)
    → (maps : ℕ → Map) → AreRan (start maps) lines ran
each_mark lines rest ran store runs maps = subst (AreRan (start maps) lines) (append-nil ran) ((runs maps).so_far.marked [] tt)

pub cut_ends : (lines rest : List Line) (ran : List Ran) (store : Store) (status : Status)
    → ((maps : ℕ → Map) → RunTo maps lines ran store rest) → AllByRecursion IsOfLog ran → IsCutShort status → Ends (script lines) status ran
cut_ends lines rest ran store status runs named cut = record {
  due = inr (inl cut);
  each_mark = each_mark lines rest ran store runs;
  named = named;
  every_line = λ whole. absurd (not_whole status cut whole);
}

pub cut_prints : (lines : List Line) (ran : List Ran) (status : Status) (before now : List ℕ) (faults_before faults_now : ℕ)
    → IsCutShort status → TakesPart before now (texts lines ran)
    → (status ≡ Write → StopsAtLast (script lines) ran before now) → Prints (script lines) status ran before now faults_before faults_now
cut_prints lines ran status before now faults_before faults_now cut part stops = record {
  whole = λ whole. absurd (not_whole status cut whole);
  part = λ _. part;
  stops = stops;
  text = λ text. absurd (not_text status (inr cut) text);
  none = λ is. absurd (not_read status (inr cut) is);
}

pub cut_causes : (status : Status) (marks : List Mark) (faults_before faults_now : ℕ) → IsCutShort status
    → (status ≡ Write → Rose faults_before faults_now) → faults_before ≤ faults_now → Causes status marks faults_before faults_now
cut_causes status marks faults_before faults_now cut write later = record {
  ranked = λ whole. absurd (not_whole status cut whole);
  unmarked = λ before. absurd (elim before [ inl text ↦ not_text status (inr cut) text | inr is ↦ not_read status (inr cut) is ]);
  write = write;
  later = later;
}

pub all_ends : (lines rest : List Line) (ran : List Ran) (marks : List Mark) (store : Store) (status : Status)
    → ((maps : ℕ → Map) → RunTo maps lines ran store rest) → AllByRecursion IsOfLog ran → length rest ≡ 0 → status ≡ status_of marks
    → Ends (script lines) status ran
all_ends lines rest ran marks store status runs named none is = record {
  due = elim (subst IsOfLines (sym is) (ranked marks)) [ inl whole ↦ inl whole | inr cut ↦ inr (inl cut) ];
  each_mark = each_mark lines rest ran store runs;
  named = named;
  every_line = λ _. omega (arith, (runs (λ store. empty)).so_far.lengths, none);
}

not_write : (marks : List Mark) → status_of marks ≡ Write → ⊥
not_write marks is = subst IsRunStatus is (is_run_status marks)

pub all_prints : (lines : List Line) (ran : List Ran) (marks : List Mark) (status : Status) (before now : List ℕ)
    (faults_before faults_now : ℕ) → status ≡ status_of marks → now ≡ before ++ texts lines ran
    → Prints (script lines) status ran before now faults_before faults_now
all_prints lines ran marks status before now faults_before faults_now is taken =
    let of_lines : IsOfLines status = subst IsOfLines (sym is) (ranked marks) in
    record {
      whole = λ _. taken;
      part = λ _. whole_part before (texts lines ran) now taken;
      stops = λ write. absurd (not_write marks (sym is ∙ write));
      text = λ text. absurd (not_text status of_lines text);
      none = λ read. absurd (not_read status of_lines read);
    }

pub all_causes : (status : Status) (marks : List Mark) (faults_before faults_now : ℕ) → status ≡ status_of marks
    → faults_before ≤ faults_now → Causes status marks faults_before faults_now
all_causes status marks faults_before faults_now is later =
    let ran : IsOfLines status = subst IsOfLines (sym is) (ranked marks) in
    record {
      ranked = λ _. is;
      unmarked = λ before. absurd (elim before [ inl text ↦ not_text status ran text | inr read ↦ not_read status ran read ]);
      write = λ write. absurd (not_write marks (sym is ∙ write));
      later = later;
    }

-- ---- a text in place of replies

pub text_prints : (task : Task) (status : Status) (text before now : List ℕ) (faults_before faults_now : ℕ) → IsText status
    → text ≡ text_of task [] → (now ≡ before ++ text) ⊎ (TakesPart before now text × Rose faults_before faults_now)
    → Prints task status [] before now faults_before faults_now
text_prints task status text before now faults_before faults_now is_text same taken = record {
  whole = λ whole. absurd (not_text status (inl whole) is_text);
  part = λ cut. absurd (not_text status (inr cut) is_text);
  stops = λ is. absurd (subst IsText is is_text);
  text = λ _. subst (λ t. (now ≡ before ++ t) ⊎ (TakesPart before now t × Rose faults_before faults_now)) same taken;
  none = λ is. absurd (subst IsText is is_text);
}
