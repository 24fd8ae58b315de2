-- A disk that tells nothing of its contents.
use Rattle.std.specs.Prelude.{ℕ, List, [], None, refl}
use Rattle.std.proofs.Common.{inr}
use Rattle.pb_devices.specs.Contents.{Contents, MayLeave}

abbrev pub untold : Contents
untold = record { seen = λ _. None; durable = λ _. []; pending = λ _ _. ⊥; earlier = λ _ _. ⊥ }

pub untold_may_be_left : (name : List ℕ) → MayLeave untold name (untold.seen name)
untold_may_be_left name = inr refl
