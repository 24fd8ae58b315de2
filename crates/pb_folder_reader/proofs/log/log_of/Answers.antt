use Rattle.std.proofs.Common.{◌≡◌, ◌+◌, ◌∷◌, ◌++◌, [], ℕ, List, map, drop, Option, IfSome, sym, ap, ◌∙◌, subst}
use Rattle.std.specs.Prelude.{IfNone}
use Rattle.std.proofs.lemmas.List.{append-nil, drop_all, map-append}
use Rattle.pb_payloads.specs.Log.{LogEntry, SaysLog}
use Rattle.pb_payloads.proofs.LoggedLaws.{empty_log}
use Rattle.pb_wal.specs.Changes.{entry_of}
use Rattle.pb_wal.specs.declared.entry.Entry.{Entry}
use Rattle.pb_folder_reader.specs.Left.{IsNext}
use Rattle.pb_folder_reader.proofs.Entries.{IsReadUpTo, next_among, read_more}
use Rattle.pb_keys.proofs.Lists.{item_first}
use Rattle.pb_folder_reader.proofs.log.log_of.Goals as goal

pub returns-in_default-clause-none : goal.returns-in_default-clause-none
returns-in_default-clause-none c = λ log says.
    let i = c.loop-payload.payload-index in
    let list = c.args.payloads.now in
    let last = c.loop-payload.last in
    let payload : List ℕ = c.as_slice.result.now in
    let first : drop i list ≡ payload ∷ drop (i + 1) list =
    item_first list i c.payload-item.result payload c.loop-payload-test.true c.payload-item.is c.as_slice.ensures in
    let left = c.loop-payload.invariant.back log says in
    let found = next_among last payload (drop (i + 1) list) left.0 (subst (λ (l : List (List ℕ)). SaysLog last l left.0) first left.1) in
    let none = subst (λ (o : Option Entry). IfNone o ((entry : LogEntry) → IsNext last payload entry → ⊥)) c.in_default.is c.in_ok-entry.ensures.none in
    none found.entry found.next

pub loop-payload-preserved : goal.loop-payload-preserved
loop-payload-preserved c =
    let i = c.loop-payload.payload-index in
    let list = c.args.payloads.now in
    let flushed = c.args.flushed in
    let last = c.loop-payload.last in
    let so_far = c.loop-payload.log.items in
    let entry : Entry = c.in-Some.entry in
    let payload : List ℕ = c.as_slice.result.now in
    let first : drop i list ≡ payload ∷ drop (i + 1) list =
    item_first list i c.payload-item.result payload c.loop-payload-test.true c.payload-item.is c.as_slice.ensures in
    let is = subst (λ (o : Option Entry). IfSome o (λ e. IsNext last payload (entry_of e))) c.in-Some.is c.in_ok-entry.ensures.some in
    let items : map entry_of c.push.new.self.items ≡ map entry_of so_far ++ entry_of entry ∷ [] =
    ap (map entry_of) c.in_ok-push.ensures.items ∙ map-append entry_of so_far (entry ∷ []) in
    subst (IsReadUpTo flushed entry.count list (drop (i + 1) list)) (sym items)
    (read_more flushed last list payload (drop (i + 1) list) (map entry_of so_far) (entry_of entry)
    (subst (λ (l : List (List ℕ)). IsReadUpTo flushed last list l (map entry_of so_far)) first c.loop-payload.invariant) is)

pub returns-clause-some : goal.returns-clause-some
returns-clause-some c =
    let list = c.args.payloads.now in
    let log = map entry_of c.loop-payload.log.items in
    let left : drop c.loop-payload.payload-index list ≡ [] = drop_all c.loop-payload.payload-index list c.loop-payload-test.false in
    subst (SaysLog c.args.flushed list) (append-nil log)
    (c.loop-payload.invariant.all [] (subst (λ (l : List (List ℕ)). SaysLog c.loop-payload.last l []) (sym left) (empty_log c.loop-payload.last)))
