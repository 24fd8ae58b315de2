-- Where damage comes from: from an image that there was before the first line, since a command never makes it.
use Rattle.std.proofs.Common.{◌≡◌, ℕ, ◌==◌, ◌⊎◌, Bool, true, false, ◌||◌, inl, inr, List, [], ◌∷◌, ◌++◌, Option, refl, sym, ap, ◌∙◌, subst, arith}
use Rattle.std.proofs.lemmas.Bool.Decides.{nat_tests}
use Rattle.std.proofs.lemmas.List.Folds.{list_any-append}
use Rattle.pb_devices.specs.Contents.{Contents, MayLeave}
use Rattle.pb_devices.specs.declared.trace.Mark.{Mark}
use Rattle.pb_keys.specs.Map.{Map}
use Rattle.pb_reply.specs.declared.reply.Reply.{Reply}
use Rattle.pb_gate_log.specs.Payloads.{payloads_in}
use Rattle.pebble_cli.specs.Folder.{log_name, Replays, HasFrom}
use Rattle.pebble_cli.specs.Headline.{HasBadImage}
use Rattle.pebble_cli.specs.Runs.{has_damage}
use Rattle.pebble_cli.specs.StoreStates.{Acts, Finds, IsSetBy, ran_of}
use Rattle.pebble_cli.specs.declared.step.Step.{Step}
use Rattle.pebble_cli.specs.declared.step.Step.TheVariants as step
use Rattle.pebble_cli.specs.declared.store.Store.{Store}
use Rattle.pebble_cli.specs.declared.store.Store.TheVariants.{Closed, Open, Down}
use Rattle.pebble_cli.proofs.ActFacts.{found_damage}

-- an image of the log has the payloads of one that there was, or it stands for something
abbrev pub FromOrMade : Contents → Option (List ℕ) → Type 0
FromOrMade entry image = HasFrom entry image ⊎ ((n : ℕ) × (m : Map) × Replays (payloads_in image) n m)

pub from_start : (entry : Contents) (image : Option (List ℕ)) → MayLeave entry log_name image → FromOrMade entry image
from_start entry image left = inl (image, left, refl)

from_set : (entry : Contents) (before : Store) (step : Step) (image : Option (List ℕ)) → IsSetBy before step image → FromOrMade entry image
from_set entry (Open held) (step.Set key value) image by = elim by [ inl make ↦ inr (_, _, make) | inr make ↦ inr (_, _, make) ]
from_set entry (Open held) step.Open image by = absurd by
from_set entry (Open held) (step.Get key) image by = absurd by
from_set entry Closed step image by = absurd by
from_set entry Down step image by = absurd by

-- a line keeps that
pub from_step : (entry old : Contents) (before : Store) (step : Step) (image : Option (List ℕ))
    → ((other : Option (List ℕ)) → MayLeave old log_name other → FromOrMade entry other)
    → HasFrom old image ⊎ IsSetBy before step image → FromOrMade entry image
from_step entry old before step image so_far left =
    elim left [
      | inl from ↦ elim (so_far from.0 from.1) [
        | inl earlier ↦ inl (earlier.0, earlier.1, from.2 ∙ earlier.2)
        | inr made ↦ inr (made.0, made.1, subst (λ (l : List (List ℕ)). Replays l made.0 made.1) (sym from.2) made.2)
      ]
      | inr by ↦ from_set entry before step image by
    ]

of_either : (a b : Bool) → (a || (b || false)) ≡ true → (a ≡ true) ⊎ (b ≡ true)
of_either true b is = inl refl
of_either false true is = inr refl
of_either false false is = cc

damage_last : (marks : List Mark) (mark : Mark) → has_damage (marks ++ mark ∷ []) ≡ true → (has_damage marks ≡ true) ⊎ (mark.refusal ≡ 20)
damage_last marks mark is =
    elim (of_either (has_damage marks) (mark.refusal == 20) (sym (list_any-append (λ (m : Mark). m.refusal == 20) marks (mark ∷ []))
    ∙ is)) [
      | inl before ↦ inl before
      | inr now ↦ inr (let is_20 : mark.refusal ≡ 20 = grind (arith, nat_tests, now) in is_20)
    ]

pub no_damage_yet : (marks : List Mark) → marks ≡ [] → has_damage marks ≡ true → ⊥
no_damage_yet marks none damage =
    let early : has_damage [] ≡ true = ap has_damage (sym none) ∙ damage in cc

-- a line that finds damage finds it in an image that there was
pub spoilt_step : (entry old : Contents) (before after : Store) (step : Step) (reply : Reply) (marks : List Mark) (m : Map)
    → ((other : Option (List ℕ)) → MayLeave old log_name other → FromOrMade entry other)
    → MayLeave old log_name (old.seen log_name) → Acts before step reply after → Finds (payloads_in (old.seen log_name)) step reply m
    → (has_damage marks ≡ true → HasBadImage entry) → has_damage (marks ++ (ran_of reply after).mark ∷ []) ≡ true → HasBadImage entry
spoilt_step entry old before after step reply marks m so_far seen acts found earlier damage =
    elim (damage_last marks (ran_of reply after).mark damage) [
      | inl before ↦ earlier before
      | inr now ↦
          let none = found_damage (payloads_in (old.seen log_name)) before step reply after m acts now found in
          elim (so_far (old.seen log_name) seen) [
            | inl from ↦ (from.0, from.1, λ n l make. none n l (subst (λ (p : List (List ℕ)). Replays p n l) (sym from.2) make))
            | inr made ↦ absurd (none made.0 made.1 made.2)
          ]
    ]
