-- Starting maps change neither replies nor marks.
use Rattle.std.proofs.Common.{◌≡◌, ℕ, List, [], ◌∷◌, refl, sym, ap, ◌∙◌}
use Rattle.pb_keys.specs.Map.{Map}
use Rattle.pb_script.specs.declared.line.Line.{Line}
use Rattle.pb_machine.specs.Family.{FamilyState, start}
use Rattle.pb_machine.specs.After.{line_after}
use Rattle.pb_machine.specs.Replies.{reply_to}
use Rattle.pb_machine.specs.Trail.{downs, replies, states_after}
use Rattle.pb_machine.specs.Ran.{Ran}
use Rattle.pb_machine.proofs.Blanks.{blank}
use Rattle.pb_machine.proofs.BlankReplies.{reply_blank}
use Rattle.pb_machine.proofs.BlankLines.{after_blank}

-- families that are the same but for their maps stay so
after_alike : (one other : FamilyState) (line : Line) (ran : Ran) → blank one ≡ blank other
    → blank (line_after one line ran) ≡ blank (line_after other line ran)
after_alike one other line ran same =
    sym (after_blank one line ran) ∙ ap (λ (f : FamilyState). blank (line_after f line ran)) same ∙ after_blank other line ran

reply_alike : (one other : FamilyState) (line : Line) (ran : Ran) → blank one ≡ blank other
    → reply_to one line ran ≡ reply_to other line ran
reply_alike one other line ran same =
    sym (reply_blank one line ran) ∙ ap (λ (f : FamilyState). reply_to f line ran) same ∙ reply_blank other line ran

pub replies_alike : (one other : FamilyState) (lines : List Line) (ran : List Ran) → blank one ≡ blank other
    → replies one lines ran ≡ replies other lines ran
replies_alike one other lines [] same = refl
replies_alike one other [] (ran ∷ more) same = refl
replies_alike one other (line ∷ lines) (ran ∷ more) same = λ i.
    reply_alike one other line ran same i
    ∷ replies_alike (line_after one line ran) (line_after other line ran) lines more (after_alike one other line ran same) i

downs_alike : (one other : FamilyState) → blank one ≡ blank other → downs one ≡ downs other
downs_alike one other same = ap downs same

pub downs_after_alike : (one other : FamilyState) (lines : List Line) (ran : List Ran) → blank one ≡ blank other
    → downs (states_after one lines ran) ≡ downs (states_after other lines ran)
downs_after_alike one other lines [] same = downs_alike one other same
downs_after_alike one other [] (ran ∷ more) same = downs_alike one other same
downs_after_alike one other (line ∷ lines) (ran ∷ more) same =
    downs_after_alike (line_after one line ran) (line_after other line ran) lines more (after_alike one other line ran same)

pub starts_alike : (maps others : ℕ → Map) → blank (start maps) ≡ blank (start others)
starts_alike maps others = refl

pub same_replies : (maps others : ℕ → Map) (lines : List Line) (ran : List Ran)
    → replies (start maps) lines ran ≡ replies (start others) lines ran
same_replies maps others lines ran = replies_alike (start maps) (start others) lines ran (starts_alike maps others)

pub same_downs : (maps others : ℕ → Map) (lines : List Line) (ran : List Ran)
    → downs (states_after (start maps) lines ran) ≡ downs (states_after (start others) lines ran)
same_downs maps others lines ran = downs_after_alike (start maps) (start others) lines ran (starts_alike maps others)
