-- The store of the examples falls: its numbers that are in no entry are spent, and its one named entry is kept.
use Rattle.std.proofs.Common.{◌≡◌, ℕ, true, false, [], ◌∷◌, inl, inr, refl, sym, subst, arith}
use Rattle.std.specs.Prelude.{◌==◌, ◌||◌, is_some}
use Rattle.std.proofs.lemmas.Bool.{and_parts, eqb-true, false≢true, or_cases}
use Rattle.std.proofs.lemmas.Option.{same_Some}
use Rattle.pb_devices.specs.Objects.{Objects}
use Rattle.pb_folder.specs.Said.{Said}
use Rattle.pb_folder.specs.Shown.{closed_part, is_named, shared_of}
use Rattle.pb_marker_world.specs.declared.stages.Stage.TheVariants.{Held}
use Rattle.pb_marker_world.specs.Steps.{Reaches}
use Rattle.pb_marker_world.specs.Steps.Step.{Crashes, Spends}
use Rattle.pb_store.specs.Around.{shown_part, stage_in}
use Rattle.pb_store.specs.Devices.{seen_by}
use Rattle.pb_store.specs.Moves.{MayFallTo, is_named_shared}
use Rattle.pb_store.proofs.Examples.{entries_of_each, some_around, some_said, some_store, some_words, stage_of_each}
use Rattle.pb_store.proofs.Falls.{falls}

-- under 13 there is a table, and no entry
not_13 : (n : ℕ) → 13 ≡ n → is_some (shared_of entries_of_each n) ≡ true → ⊥
not_13 n is some = false≢true (subst (λ (k : ℕ). is_some (shared_of entries_of_each k) ≡ true) (sym is) some)

only_7 : (n : ℕ) → is_named_shared some_said n ≡ true → 7 ≡ n
only_7 n h =
    let parts = and_parts (is_named some_said n) (is_some (shared_of entries_of_each n)) h in
    elim (or_cases (7 == n) ((13 == n) || false) parts.0) [
      | inl seven ↦ eqb-true 7 n seven
      | inr rest ↦ elim (or_cases (13 == n) false rest) [
        | inl thirteen ↦ absurd (not_13 n (eqb-true 13 n thirteen) parts.1)
        | inr never ↦ absurd (false≢true never)
      ]
    ]

pub the_receive_may_fall : MayFallTo some_store some_words
the_receive_may_fall = record {
  next = omega arith;
  entries = λ n. refl;
  held = λ said n same named.
      subst (λ (k : ℕ). stage_in stage_of_each k ≡ Held)
      (only_7 n (subst (λ (s : Said). is_named_shared s n ≡ true) (sym (same_Some some_said said same)) named)) refl;
}

pub the_receive_falls : (objects : Objects)
    → Reaches 1 (seen_by (shown_part some_store some_around) objects some_around)
    (Spends 14 ∷ Spends 15 ∷ Spends 16 ∷ Spends 17 ∷ Crashes (7 ∷ []) ∷ [])
    (seen_by (closed_part 6 some_words) objects some_around)
the_receive_falls objects = falls some_store some_around some_words objects the_receive_may_fall
