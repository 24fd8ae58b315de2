-- A `get` behind an accepted `set` of its key.
use Rattle.std.proofs.Common.{◌≡◌, ℕ, List, Option, Some, None, cond, ap, ◌∙◌}
use Rattle.std.specs.FinMap.{get, get-insert}
use Rattle.pb_keys.specs.KeyLaws.{key_cmp_total}
use Rattle.pb_rows.proofs.RowLaws.{ties_itself}
use Rattle.pb_reply.specs.declared.refusal.Refusal.{Refusal}
use Rattle.pb_reply.specs.declared.reply.Reply.TheVariants.{Value}
use Rattle.pb_script.specs.declared.command.Command.TheVariants.{Get, Set}
use Rattle.pb_script.specs.declared.line.Line.TheVariants.{Whole}
use Rattle.pb_machine.specs.Family.{FamilyState, StoreState}
use Rattle.pb_machine.specs.After.{after_judged, line_after}
use Rattle.pb_machine.specs.Replies.{refusal_to, reply_or, reply_to}
use Rattle.pb_machine.specs.Trail.{ReadsMap, looked_up}
use Rattle.pb_machine.specs.Ran.{Ran}
use Rattle.pb_machine.proofs.Stores.{put_there}

pub set_is_read : (family : FamilyState) (store : ℕ) (key value : List ℕ) (ran later : Ran)
    → refusal_to family (Whole store (Set key value)) ran ≡ None
    → refusal_to (line_after family (Whole store (Set key value)) ran) (Whole store (Get key)) later ≡ None
    → ReadsMap (line_after family (Whole store (Set key value)) ran) (Whole store (Get key)) later
    → reply_to (line_after family (Whole store (Set key value)) ran) (Whole store (Get key)) later ≡ Value value
set_is_read family store key value ran later accepted taken reads =
    let after = line_after family (Whole store (Set key value)) ran in
    let old = (family.stores store).history.map in
    let new = (after.stores store).history.map in
    let found : get new key ≡ Some value =
    ap
    (λ (judged : Option Refusal). get ((after_judged judged family (Whole store (Set key value)) ran).stores store).history.map key) accepted
    ∙ ap (λ (s : StoreState). get s.history.map key) (put_there family store _)
    ∙ get-insert key_cmp_total old key value key ∙ ap (λ b. cond b (Some value) (get old key)) (ties_itself key) in
    ap (λ (judged : Option Refusal). reply_or judged later.read) taken
    ∙ reads taken
    ∙ ap looked_up found
