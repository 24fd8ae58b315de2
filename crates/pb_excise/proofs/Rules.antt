-- The edit of an excise breaks no rule but V9, and that one exactly where more than 4,096 tables stand then.
use Rattle.std.proofs.Common.{◌≡◌, ℕ, Bool, true, false, cond, length, refl, ap, sym, ◌∙◌, subst}
use Rattle.std.specs.Prelude.{not, nat_le, Some, None, if◌then◌else◌}
use Rattle.std.proofs.lemmas.Bool.{le-leb}
use Rattle.pb_edit.specs.Edit.{VersionEdit}
use Rattle.pb_keys.specs.Span.{KeySpan, IsSpan}
use Rattle.pb_version.specs.declared.broken.Broken.TheVariants.{V1, V2, V3, V4, V5, V6, V7, V8, V9}
use Rattle.pb_version.specs.Version.{VersionView, all_tables}
use Rattle.pb_version.specs.Edited.{edited}
use Rattle.pb_version.specs.Rules.{first_broken}
use Rattle.pb_version.specs.State.{IsVersion}
use Rattle.pb_excise.specs.Excised.{excised}
use Rattle.pb_excise.specs.Planned.{excise_edit, with_count, HasListsAlone, HasItems, IsExcise}
use Rattle.pb_excise.specs.Allowed.{MayExcise, BreaksNoRule}
use Rattle.pb_excise.proofs.Deleted.{all_v1}
use Rattle.pb_excise.proofs.Numbered.{all_v2}
use Rattle.pb_excise.proofs.Spans.{all_v3}
use Rattle.pb_excise.proofs.Apart.{all_v4}
use Rattle.pb_excise.proofs.Backed.{all_v5, all_v6, all_v7, tables_after_are}
use Rattle.pb_excise.proofs.Counted.{all_v8}
use Rattle.pb_excise.proofs.NewTables.{edit}

turned : (b : Bool) → cond (not b) (Some V9) None ≡ cond b None (Some V9)
turned true = refl
turned false = refl

-- an edit with these lists alone is that of the excise
same_edit : (v : VersionView) (cut : KeySpan) (first : ℕ) (e : VersionEdit) → HasListsAlone e → HasItems v cut first e →
    excise_edit v cut first ≡ e
same_edit v cut first e numbers items = λ i. record {
  accepted = sym numbers.accepted i;
  next = sym numbers.next i;
  log = sym numbers.log i;
  flushed = sym numbers.flushed i;
  format = sym numbers.format i;
  deleted = sym items.deleted i;
  physical = sym numbers.physical i;
  virtuals = sym items.virtuals i;
  created = sym items.created i;
  removed = sym items.removed i;
}

module _ (v : VersionView) (is : IsVersion v) (cut : KeySpan) (cut_is : IsSpan cut) (first accepted : ℕ)
    (may : MayExcise v cut first accepted) where
  many_then : length (all_tables (edited v (edit v is cut first accepted))) ≡ length (all_tables (excised v cut first))
  unfolding excised
  many_then = ap length (tables_after_are v is cut cut_is first accepted)

  rules : first_broken v (edit v is cut first accepted)
      ≡ (if nat_le (length (all_tables (excised v cut first))) 4096 then None else Some V9)
  unfolding first_broken
  rules =
      (λ i.
      cond (not (all_v1 v cut first accepted i)) (Some V1)
      (cond (not (all_v2 v is cut first accepted may i)) (Some V2)
      (cond (not (all_v3 v is cut cut_is first accepted i)) (Some V3)
      (cond (not (all_v4 cut cut_is v is first accepted i)) (Some V4)
      (cond (not (all_v5 v is cut first accepted i)) (Some V5)
      (cond (not (all_v6 v is cut cut_is first accepted i)) (Some V6)
      (cond (not (all_v7 v is cut cut_is first accepted i)) (Some V7)
      (cond (not (all_v8 v is cut first accepted may i)) (Some V8)
      (cond (not (nat_le (many_then i) 4096)) (Some V9) None)))))))))
      ∙ turned (nat_le (length (all_tables (excised v cut first))) 4096)

pub too_many_alone : (v : VersionView) (cut : KeySpan) (first accepted : ℕ) (e : VersionEdit) → IsVersion v → IsSpan cut →
    IsExcise v cut first e → MayExcise v cut first accepted →
    first_broken v (with_count accepted e) ≡ (if nat_le (length (all_tables (excised v cut first))) 4096 then None else Some V9)
too_many_alone v cut first accepted e is cut_is excise may =
    subst (λ d. first_broken v (with_count accepted d)
    ≡ (if nat_le (length (all_tables (excised v cut first))) 4096 then None else Some V9))
    (same_edit v cut first e excise.numbers excise.items) (rules v is cut cut_is first accepted may)

pub breaks_no_rule : (v : VersionView) (cut : KeySpan) (first : ℕ) (e : VersionEdit) → IsVersion v → IsSpan cut → IsExcise v cut first e →
    BreaksNoRule v cut first e
breaks_no_rule v cut first e is cut_is excise accepted may few =
    too_many_alone v cut first accepted e is cut_is excise may
    ∙ ap (λ b. if b then None else Some V9) (le-leb (length (all_tables (excised v cut first))) 4096 few)
