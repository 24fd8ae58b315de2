-- The edit that is read is the edit that is spelled, and what is spelled is read again.
use Rattle.std.proofs.Common.{◌≡◌, ℕ, ◌<◌, cond, eqb, List, [], ◌∷◌, ◌++◌, length, Option, Some, None, refl, sym, ap, subst, ◌∙◌, append_assoc, arith}
use Rattle.std.specs.Prelude.{IfSome, nat_lt}
use Rattle.std.proofs.lemmas.Bool.{eqb-true}
use Rattle.std.proofs.lemmas.List.{append-nil, nil_from_length}
use Rattle.std.proofs.lemmas.Option.{cond_some, same_Some}
use Rattle.pb_edit.specs.Edit.{VersionEdit}
use Rattle.pb_edit.specs.Grammar.{number_item, items, deleted_content, physical_content, virtual_content, created_content, removed_content, numbers_spelling, lists_spelling, edit_spelling, IsDeleted, IsPhysical, IsVirtual, IsCreated, deleted_below, physical_below, virtual_below, created_below, AreItems, IsEdit}
use Rattle.pb_bytes.specs.Number.{IsNumber}
use Rattle.pb_bytes.specs.Reading.{◌>>=◌}
use Rattle.pb_bytes.proofs.Steps.{bind_some, Splits, both_split}
use Rattle.pb_edit.specs.Reading.{optional_at, all_at, deleted_kind, physical_kind, virtual_kind, created_kind, removed_kind, numbers_at, lists_at, edit_at}
use Rattle.pb_edit.proofs.Contents.{deleted_reads, physical_reads, virtual_reads, created_reads, removed_reads}
use Rattle.pb_edit.proofs.Lists.{StartsAbove, StartsAbove-number, StartsAbove-items, optional_takes, optional_again, all_takes, all_again}

-- ---- the five numbers

pub record AreNumbers (e : VersionEdit) : Type 0 where
  pub accepted : IfSome e.accepted IsNumber
  pub next : IfSome e.next IsNumber
  pub log : IfSome e.log IsNumber
  pub flushed : IfSome e.flushed IsNumber
  pub format : IfSome e.format IsNumber

-- the edit without its lists
abbrev pub numbers_of : VersionEdit → VersionEdit
numbers_of e = record { accepted = e.accepted; next = e.next; log = e.log; flushed = e.flushed; format = e.format; deleted = []; physical = []; virtuals = []; created = []; removed = [] }

numbers_takes : (bytes : List ℕ) (x : VersionEdit × List ℕ) → numbers_at bytes ≡ Some x → Splits bytes (numbers_spelling x.0) x.1 × AreNumbers x.0
unfolding numbers_at
numbers_takes bytes x e =
    let accepted = bind_some (optional_at 1 bytes) _ x e in
    let next = bind_some (optional_at 2 accepted.0.1) _ x accepted.2 in
    let log = bind_some (optional_at 3 next.0.1) _ x next.2 in
    let flushed = bind_some (optional_at 4 log.0.1) _ x log.2 in
    let format = bind_some (optional_at 5 flushed.0.1) _ x flushed.2 in
    let is_accepted = optional_takes 1 bytes accepted.0 accepted.1 in
    let is_next = optional_takes 2 accepted.0.1 next.0 next.1 in
    let is_log = optional_takes 3 next.0.1 log.0 log.1 in
    let is_flushed = optional_takes 4 log.0.1 flushed.0 flushed.1 in
    let is_format = optional_takes 5 flushed.0.1 format.0 format.1 in
    let s4 = number_item 4 flushed.0.0 ++ number_item 5 format.0.0 in
    let s3 = number_item 3 log.0.0 ++ s4 in
    let s2 = number_item 2 next.0.0 ++ s3 in
    let from4 = both_split log.0.1 flushed.0.1 format.0.1 (number_item 4 flushed.0.0) (number_item 5 format.0.0) is_flushed.0 is_format.0 in
    let from3 = both_split next.0.1 log.0.1 format.0.1 (number_item 3 log.0.0) s4 is_log.0 from4 in
    let from2 = both_split accepted.0.1 next.0.1 format.0.1 (number_item 2 next.0.0) s3 is_next.0 from3 in
    let from1 = both_split bytes accepted.0.1 format.0.1 (number_item 1 accepted.0.0) s2 is_accepted.0 from2 in
    let made : VersionEdit × List ℕ = (record { accepted = accepted.0.0; next = next.0.0; log = log.0.0; flushed = flushed.0.0; format = format.0.0; deleted = []; physical = []; virtuals = []; created = []; removed = [] }, format.0.1) in
    subst (λ (y : VersionEdit × List ℕ). Splits bytes (numbers_spelling y.0) y.1 × AreNumbers y.0) (same_Some made x format.2)
    (from1, record { accepted = is_accepted.1; next = is_next.1; log = is_log.1; flushed = is_flushed.1; format = is_format.1 })

numbers_again : (e : VersionEdit) (rest : List ℕ) → AreNumbers e → StartsAbove 5 rest → StartsAbove 4 rest → StartsAbove 3 rest → StartsAbove 2 rest → StartsAbove 1 rest → numbers_at (numbers_spelling e ++ rest) ≡ Some (numbers_of e, rest)
unfolding numbers_at
numbers_again e rest are above5 above4 above3 above2 above1 =
    let t5 = number_item 5 e.format ++ rest in
    let t4 = number_item 4 e.flushed ++ t5 in
    let t3 = number_item 3 e.log ++ t4 in
    let t2 = number_item 2 e.next ++ t3 in
    let spelled : numbers_spelling e ++ rest ≡ number_item 1 e.accepted ++ t2 = simp append_assoc in
    let a4 : StartsAbove 4 t5 = StartsAbove-number 4 5 e.format rest (omega arith) above4 in
    let a3 : StartsAbove 3 t4 = StartsAbove-number 3 4 e.flushed t5 (omega arith) (StartsAbove-number 3 5 e.format rest (omega arith) above3) in
    let a2 : StartsAbove 2 t3 = StartsAbove-number 2 3 e.log t4 (omega arith) (StartsAbove-number 2 4 e.flushed t5 (omega arith) (StartsAbove-number 2 5 e.format rest (omega arith) above2)) in
    let a1 : StartsAbove 1 t2 = StartsAbove-number 1 2 e.next t3 (omega arith) (StartsAbove-number 1 3 e.log t4 (omega arith) (StartsAbove-number 1 4 e.flushed t5 (omega arith) (StartsAbove-number 1 5 e.format rest (omega arith) above1))) in
    ap numbers_at spelled ∙ rw (optional_again 1 e.accepted t2 are.accepted a1, optional_again 2 e.next t3 are.next a2, optional_again 3 e.log t4 are.log a3, optional_again 4 e.flushed t5 are.flushed a4, optional_again 5 e.format rest are.format above5) refl

-- ---- the lists

pub record AreLists (e : VersionEdit) : Type 0 where
  pub deleted : AreItems IsDeleted deleted_below e.deleted
  pub physical : AreItems IsPhysical physical_below e.physical
  pub virtuals : AreItems IsVirtual virtual_below e.virtuals
  pub created : AreItems IsCreated created_below e.created
  pub removed : AreItems IsNumber nat_lt e.removed

pub record ReadLists (numbers : VersionEdit) (bytes : List ℕ) (x : VersionEdit × List ℕ) : Type 0 where
  pub spelled : Splits bytes (lists_spelling x.0) x.1
  pub lists : AreLists x.0
  pub same : numbers_of x.0 ≡ numbers_of numbers

lists_takes : (numbers : VersionEdit) (bytes : List ℕ) (x : VersionEdit × List ℕ) → lists_at numbers bytes ≡ Some x → ReadLists numbers bytes x
unfolding lists_at
lists_takes numbers bytes x e =
    let deleted = bind_some (all_at deleted_kind bytes) _ x e in
    let physical = bind_some (all_at physical_kind deleted.0.1) _ x deleted.2 in
    let virtuals = bind_some (all_at virtual_kind physical.0.1) _ x physical.2 in
    let created = bind_some (all_at created_kind virtuals.0.1) _ x virtuals.2 in
    let removed = bind_some (all_at removed_kind created.0.1) _ x created.2 in
    let are_deleted = all_takes deleted_kind deleted_content IsDeleted deleted_reads bytes deleted.0 deleted.1 in
    let are_physical = all_takes physical_kind physical_content IsPhysical physical_reads deleted.0.1 physical.0 physical.1 in
    let are_virtual = all_takes virtual_kind virtual_content IsVirtual virtual_reads physical.0.1 virtuals.0 virtuals.1 in
    let are_created = all_takes created_kind created_content IsCreated created_reads virtuals.0.1 created.0 created.1 in
    let are_removed = all_takes removed_kind removed_content IsNumber removed_reads created.0.1 removed.0 removed.1 in
    let s10 = items 10 removed_content removed.0.0 in
    let s9 = items 9 created_content created.0.0 ++ s10 in
    let s8 = items 8 virtual_content virtuals.0.0 ++ s9 in
    let s7 = items 7 physical_content physical.0.0 ++ s8 in
    let from9 = both_split virtuals.0.1 created.0.1 removed.0.1 (items 9 created_content created.0.0) s10 are_created.0 are_removed.0 in
    let from8 = both_split physical.0.1 virtuals.0.1 removed.0.1 (items 8 virtual_content virtuals.0.0) s9 are_virtual.0 from9 in
    let from7 = both_split deleted.0.1 physical.0.1 removed.0.1 (items 7 physical_content physical.0.0) s8 are_physical.0 from8 in
    let from6 = both_split bytes deleted.0.1 removed.0.1 (items 6 deleted_content deleted.0.0) s7 are_deleted.0 from7 in
    let made : VersionEdit × List ℕ = (
      record {
        accepted = numbers.accepted;
        next = numbers.next;
        log = numbers.log;
        flushed = numbers.flushed;
        format = numbers.format;
        deleted = deleted.0.0;
        physical = physical.0.0;
        virtuals = virtuals.0.0;
        created = created.0.0;
        removed = removed.0.0;
      },
      removed.0.1,
    ) in
    subst (λ (y : VersionEdit × List ℕ). ReadLists numbers bytes y) (same_Some made x removed.2)
    (record { spelled = from6; lists = record { deleted = are_deleted.1; physical = are_physical.1; virtuals = are_virtual.1; created = are_created.1; removed = are_removed.1 }; same = refl })

lists_again : (e : VersionEdit) → AreLists e → lists_at (numbers_of e) (lists_spelling e) ≡ Some (e, [])
unfolding lists_at
lists_again e are =
    let t10 = items 10 removed_content e.removed ++ [] in
    let t9 = items 9 created_content e.created ++ t10 in
    let t8 = items 8 virtual_content e.virtuals ++ t9 in
    let t7 = items 7 physical_content e.physical ++ t8 in
    let a9 : StartsAbove 9 t10 = StartsAbove-items 9 10 removed_content e.removed [] (omega arith) tt in
    let a8 : StartsAbove 8 t9 = StartsAbove-items 8 9 created_content e.created t10 (omega arith) (StartsAbove-items 8 10 removed_content e.removed [] (omega arith) tt) in
    let a7 : StartsAbove 7 t8 = StartsAbove-items 7 8 virtual_content e.virtuals t9 (omega arith) (StartsAbove-items 7 9 created_content e.created t10 (omega arith) (StartsAbove-items 7 10 removed_content e.removed [] (omega arith) tt)) in
    let a6 : StartsAbove 6 t7 = StartsAbove-items 6 7 physical_content e.physical t8 (omega arith) (StartsAbove-items 6 8 virtual_content e.virtuals t9 (omega arith) (StartsAbove-items 6 9 created_content e.created t10 (omega arith) (StartsAbove-items 6 10 removed_content e.removed [] (omega arith) tt))) in
    let spelled : lists_spelling e ≡ items 6 deleted_content e.deleted ++ t7 =
    ap (λ (t : List ℕ). items 6 deleted_content e.deleted ++ (items 7 physical_content e.physical ++ (items 8 virtual_content e.virtuals ++ (items 9 created_content e.created ++ t)))) (sym (append-nil (items 10 removed_content e.removed))) in
    ap (lists_at (numbers_of e)) spelled ∙ rw (
      all_again deleted_kind deleted_content IsDeleted deleted_reads e.deleted t7 are.deleted a6,
      all_again physical_kind physical_content IsPhysical physical_reads e.physical t8 are.physical a7,
      all_again virtual_kind virtual_content IsVirtual virtual_reads e.virtuals t9 are.virtuals a8,
      all_again created_kind created_content IsCreated created_reads e.created t10 are.created a9,
      all_again removed_kind removed_content IsNumber removed_reads e.removed [] are.removed tt,
    ) refl

lists_start : (low : ℕ) (e : VersionEdit) → low < 6 → StartsAbove low (lists_spelling e)
lists_start low e below =
    let end : StartsAbove low (items 10 removed_content e.removed) = subst (λ (t : List ℕ). StartsAbove low t) (append-nil (items 10 removed_content e.removed)) (StartsAbove-items low 10 removed_content e.removed [] (omega arith) tt) in
    StartsAbove-items low 6 deleted_content e.deleted _ below (StartsAbove-items low 7 physical_content e.physical _ (omega arith) (StartsAbove-items low 8 virtual_content e.virtuals _ (omega arith)
    (StartsAbove-items low 9 created_content e.created _ (omega arith) end)))

-- ---- an edit

abbrev rest_at : List ℕ → Option VersionEdit
rest_at bytes = numbers_at bytes >>= λ numbers. lists_at numbers.0 numbers.1 >>= λ edit. cond (eqb (length edit.1) 0) (Some edit.0) None

edit_at-some : (bytes : List ℕ) → ¬ (bytes ≡ []) → edit_at bytes ≡ rest_at bytes
unfolding edit_at
edit_at-some [] some = absurd (some refl)
edit_at-some (byte ∷ rest) some = refl

edit_at-none : edit_at [] ≡ None
unfolding edit_at
edit_at-none = refl

some_bytes : (bytes : List ℕ) (e : VersionEdit) → edit_at bytes ≡ Some e → ¬ (bytes ≡ [])
some_bytes bytes e read none =
    let off = ap edit_at none ∙ edit_at-none in
    cc

pub edit_takes : (bytes : List ℕ) (e : VersionEdit) → edit_at bytes ≡ Some e → IsEdit e × (bytes ≡ edit_spelling e)
unfolding edit_spelling
edit_takes bytes e read =
    let some = some_bytes bytes e read in
    let whole = sym (edit_at-some bytes some) ∙ read in
    let numbers = bind_some (numbers_at bytes) (λ numbers. lists_at numbers.0 numbers.1 >>= λ edit. cond (eqb (length edit.1) 0) (Some edit.0) None) e whole in
    let edit = bind_some (lists_at numbers.0.0 numbers.0.1) (λ edit. cond (eqb (length edit.1) 0) (Some edit.0) None) e numbers.2 in
    let ended = cond_some (eqb (length edit.0.1) 0) edit.0.0 e edit.2 in
    let are_numbers = numbers_takes bytes numbers.0 numbers.1 in
    let are_lists = lists_takes numbers.0.0 numbers.0.1 edit.0 edit.1 in
    let nothing : edit.0.1 ≡ [] = nil_from_length edit.0.1 (eqb-true (length edit.0.1) 0 ended.0) in
    is_whole bytes numbers.0.1 edit.0.1 numbers.0.0 edit.0.0 e some are_numbers.0 are_numbers.1 are_lists.spelled are_lists.lists are_lists.same nothing ended.1
  where
    is_whole : (bytes middle rest : List ℕ) (numbers edit e : VersionEdit) → ¬ (bytes ≡ []) → Splits bytes (numbers_spelling numbers) middle → AreNumbers numbers → Splits middle (lists_spelling edit) rest → AreLists edit
        → numbers_of edit ≡ numbers_of numbers → rest ≡ [] → edit ≡ e → IsEdit e × (bytes ≡ edit_spelling e)
    is_whole bytes middle rest numbers edit e some front are_numbers back lists same nothing is_e =
        let five : AreNumbers edit = record {
          accepted = subst (λ (y : VersionEdit). IfSome y.accepted IsNumber) (sym same) are_numbers.accepted;
          next = subst (λ (y : VersionEdit). IfSome y.next IsNumber) (sym same) are_numbers.next;
          log = subst (λ (y : VersionEdit). IfSome y.log IsNumber) (sym same) are_numbers.log;
          flushed = subst (λ (y : VersionEdit). IfSome y.flushed IsNumber) (sym same) are_numbers.flushed;
          format = subst (λ (y : VersionEdit). IfSome y.format IsNumber) (sym same) are_numbers.format;
        } in
        let spelled_numbers : numbers_spelling numbers ≡ numbers_spelling edit = ap numbers_spelling (sym same) in
        let first : Splits bytes (numbers_spelling edit) middle = front ∙ ap (λ (t : List ℕ). t ++ middle) spelled_numbers in
        let both : bytes ≡ numbers_spelling edit ++ lists_spelling edit = both_split bytes middle rest (numbers_spelling edit) (lists_spelling edit) first back ∙ ap (λ (t : List ℕ). (numbers_spelling edit ++ lists_spelling edit) ++ t) nothing ∙ append-nil (numbers_spelling edit ++ lists_spelling edit) in
        subst (λ (y : VersionEdit). IsEdit y × (bytes ≡ edit_spelling y)) is_e (
          record {
            some = λ none. some (both ∙ none);
            accepted = five.accepted;
            next = five.next;
            log = five.log;
            flushed = five.flushed;
            format = five.format;
            deleted = lists.deleted;
            physical = lists.physical;
            virtuals = lists.virtuals;
            created = lists.created;
            removed = lists.removed;
          },
          both,
        )

pub edit_again : (e : VersionEdit) → IsEdit e → edit_at (edit_spelling e) ≡ Some e
unfolding edit_spelling
edit_again e is =
    let numbers : AreNumbers e = record { accepted = is.accepted; next = is.next; log = is.log; flushed = is.flushed; format = is.format } in
    let lists : AreLists e = record { deleted = is.deleted; physical = is.physical; virtuals = is.virtuals; created = is.created; removed = is.removed } in
    edit_at-some (numbers_spelling e ++ lists_spelling e) is.some ∙ rw (numbers_again e (lists_spelling e) numbers (lists_start 5 e (omega arith)) (lists_start 4 e (omega arith)) (lists_start 3 e (omega arith)) (lists_start 2 e (omega arith)) (lists_start 1 e (omega arith)), lists_again e lists) refl

-- what isn't read is spelled by no edit
pub edit_off : (bytes : List ℕ) → edit_at bytes ≡ None → (e : VersionEdit) → IsEdit e → bytes ≡ edit_spelling e → ⊥
edit_off bytes off e is spelled =
    let again = edit_again e is in
    let same = ap edit_at spelled in
    cc

-- no spelling is that of two edits
pub one_edit : (a b : VersionEdit) → IsEdit a → IsEdit b → edit_spelling a ≡ edit_spelling b → a ≡ b
one_edit a b is_a is_b same = same_Some a b (sym (edit_again a is_a) ∙ ap edit_at same ∙ edit_again b is_b)
