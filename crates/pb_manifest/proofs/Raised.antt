-- Numbers that are reserved before an edit break no rule of it, where they don't reach beyond its own.
use Rattle.std.proofs.Common.{◌≡◌, ℕ, ◌≤◌, List, [], ◌∷◌, Bool, true, false, refl, arith}
use Rattle.std.proofs.lemmas.Bool.{and_parts, le-leb}
use Rattle.std.proofs.lemmas.Bool.Decides.{nat_tests}
use Rattle.std.specs.Prelude.{not, ◌&&◌, ◌||◌, ◌==◌, nat_le, nat_lt, Option, Some, None}
use Rattle.std.specs.List.{list_all}
use Rattle.std.specs.Option.{unwrap_or}
use Rattle.pb_edit.specs.Edit.{CreatedItem, VersionEdit}
use Rattle.pb_version.specs.Version.{VersionView, all_tables}
use Rattle.pb_version.specs.Edited.{edited, five_after}
use Rattle.pb_version.specs.Rules.{are_distinct, first_broken, has_all_five, has_backing, has_number, is_backing_anew, is_free, is_freed, is_reserved, keeps_v1, keeps_v2, keeps_v3, keeps_v4, keeps_v5, keeps_v6, keeps_v7, keeps_v8, keeps_v9, new_numbers, new_ranks}
use Rattle.pb_manifest.specs.Numbers.{with_next}
use Rattle.pb_manifest.specs.Rotation.{may_precede}
use Rattle.pb_manifest.proofs.Kept.{first_of_nine}

each_too : {X : Type 0} (p q : X → Bool) → ((x : X) → p x ≡ true → q x ≡ true) → (xs : List X) → list_all p xs ≡ true
    → list_all q xs ≡ true
each_too p q too [] all = refl
each_too p q too (x ∷ xs) all =
    let both = and_parts (p x) (list_all p xs) all in
    let first = too x both.0 in
    let others = each_too p q too xs both.1 in
    λ i. first i && others i

below_too : (n a b : ℕ) → a ≤ b → nat_lt n a ≡ true → nat_lt n b ≡ true
below_too n a b above is = grind (arith, nat_tests)

end_grows : (next : Option ℕ) (old end : ℕ) → old ≤ end → unwrap_or next old ≤ unwrap_or next end
end_grows None old end above = above
end_grows (Some next) old end above = omega arith

end_precedes : (next : Option ℕ) (end : ℕ) → may_precede end next ≡ true → nat_le end (unwrap_or next end) ≡ true
end_precedes None end precedes = le-leb end end (omega arith)
end_precedes (Some next) end precedes = precedes

five_raised : (a a' n n' e e' f f' g g' l : ℕ) (c : Bool) → n' ≤ e' → nat_le e e' ≡ true
    → (nat_le a a' && nat_le n n' && nat_le f f' && nat_le g g' && (nat_le f' a' && nat_lt l n' && g' == 1) && c) ≡ true
    → (nat_le a a' && nat_le e e' && nat_le f f' && nat_le g g' && (nat_le f' a' && nat_lt l e' && g' == 1) && c) ≡ true
five_raised a a' n n' e e' f f' g g' l c grown precedes is = grind (arith, nat_tests)

-- of nine tests three are others, which hold where those held
others_of_nine : (a b c d e f g h i b' e' h' : Bool) → (b ≡ true → b' ≡ true) → (e ≡ true → e' ≡ true) → (h ≡ true → h' ≡ true)
    → first_of_nine a b c d e f g h i ≡ None → first_of_nine a b' c d e' f g h' i ≡ None
others_of_nine true true true true true true true true true b' e' h' at_b at_e at_h none =
    let b = at_b refl in
    let e = at_e refl in
    let h = at_h refl in
    λ i. first_of_nine true (b i) true true (e i) true true (h i) true
others_of_nine true true true true true true true true false b' e' h' at_b at_e at_h none = cc
others_of_nine true true true true true true true false i b' e' h' at_b at_e at_h none = cc
others_of_nine true true true true true true false h i b' e' h' at_b at_e at_h none = cc
others_of_nine true true true true true false g h i b' e' h' at_b at_e at_h none = cc
others_of_nine true true true true false f g h i b' e' h' at_b at_e at_h none = cc
others_of_nine true true true false e f g h i b' e' h' at_b at_e at_h none = cc
others_of_nine true true false d e f g h i b' e' h' at_b at_e at_h none = cc
others_of_nine true false c d e f g h i b' e' h' at_b at_e at_h none = cc
others_of_nine false b c d e f g h i b' e' h' at_b at_e at_h none = cc

module _ (old : VersionView) (edit : VersionEdit) (end : ℕ) (above : old.five.next ≤ end) where
  reserved_too : (number : ℕ) → is_reserved old edit number ≡ true → is_reserved (with_next end old) edit number ≡ true
  reserved_too number is =
      below_too number (unwrap_or edit.next old.five.next) (unwrap_or edit.next end) (end_grows edit.next old.five.next end above) is

  v2 : keeps_v2 old edit ≡ true → keeps_v2 (with_next end old) edit ≡ true
  v2 is =
      let apart = are_distinct (new_numbers edit) && list_all (is_free old edit) (new_numbers edit) in
      let all = and_parts (apart && list_all (is_reserved old edit) (new_numbers edit)) (list_all (is_reserved old edit) (new_ranks edit)) is in
      let some = and_parts apart (list_all (is_reserved old edit) (new_numbers edit)) all.0 in
      let first = some.0 in
      let numbers = each_too (is_reserved old edit) (is_reserved (with_next end old) edit) reserved_too (new_numbers edit) some.1 in
      let ranks = each_too (is_reserved old edit) (is_reserved (with_next end old) edit) reserved_too (new_ranks edit) all.1 in
      λ i. first i && numbers i && ranks i

  backing_too : (c : CreatedItem) → is_backing_anew old edit c ≡ true → is_backing_anew (with_next end old) edit c ≡ true
  backing_too c is =
      let anew = not (has_backing old.backings c.number) && (is_freed old edit c || not (has_number (all_tables old) c.number)) in
      let both = and_parts anew (is_reserved old edit c.number) is in
      let first = both.0 in
      let number = reserved_too c.number both.1 in
      λ i. first i && number i

  v5 : keeps_v5 old edit ≡ true → keeps_v5 (with_next end old) edit ≡ true
  v5 is = each_too (is_backing_anew old edit) (is_backing_anew (with_next end old) edit) backing_too edit.created is

  v8 : may_precede end edit.next ≡ true → keeps_v8 old edit ≡ true → keeps_v8 (with_next end old) edit ≡ true
  v8 precedes is =
      let five = old.five in
      let new = five_after old.five edit in
      five_raised five.accepted new.accepted five.next new.next end (unwrap_or edit.next end) five.flushed new.flushed five.format new.format
      new.log (not (five.format == 0) || has_all_five edit) (end_grows edit.next five.next end above) (end_precedes edit.next end precedes) is

  pub raised_breaks_no_more : may_precede end edit.next ≡ true → first_broken old edit ≡ None
      → first_broken (with_next end old) edit ≡ None
  unfolding first_broken edited
  raised_breaks_no_more precedes unbroken =
      others_of_nine (keeps_v1 old edit) (keeps_v2 old edit) (keeps_v3 old edit) (keeps_v4 old edit) (keeps_v5 old edit) (keeps_v6 old edit)
      (keeps_v7 old edit) (keeps_v8 old edit) (keeps_v9 old edit)
      (keeps_v2 (with_next end old) edit) (keeps_v5 (with_next end old) edit) (keeps_v8 (with_next end old) edit)
      v2 v5 (v8 precedes) unbroken
