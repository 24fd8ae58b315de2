-- What holds of every answer.
use Rattle.std.proofs.Common.{◌≡◌, Result, Ok, Err, sym, subst}
use Rattle.pb_marker_world.specs.declared.events.Event.{Event}
use Rattle.pb_marker_world.specs.declared.events.Outcome.{Outcome}
use Rattle.pb_marker_world.specs.declared.events.WorldError.{WorldError}
use Rattle.pb_marker_world.specs.declared.events.WorldError.TheVariants.{NotNow, NoMemory}
use Rattle.pb_marker_world.specs.Sound.{IsSteady}
use Rattle.pb_marker_world.specs.Book.{Book, world_of}
use Rattle.pb_marker_world.specs.Events.{IsDone, Meets}
use Rattle.pb_marker_world.proofs.Steady.{goes_steady}

-- what is done with some lists is done with other lists of the same items
pub done_as : (b x y : Book) (event : Event) (answer outcome : Outcome) → IsDone b event outcome y → answer ≡ outcome
    → x.places ≡ y.places → x.spent ≡ y.spent → x.openings ≡ y.openings → x.objects ≡ y.objects → x.markers ≡ y.markers
    → x.given ≡ y.given → IsDone b event answer x
done_as b x y event answer outcome d a ps ss os ids ms gs =
    let same : x ≡ y =
    λ i. record { places = ps i; spent = ss i; openings = os i; objects = ids i; markers = ms i; given = gs i } in
    subst (λ z. IsDone b event z x) (sym a) (subst (λ z. IsDone b event outcome z) (sym same) d)

-- whatever comes of an event, the world stays steady
pub meets_steady : (b : Book) (event : Event) (r : Result Outcome WorldError) (c : Book) → Meets b event r c
    → IsSteady (world_of b) → IsSteady (world_of c)
meets_steady b event (Ok outcome) c m steady = goes_steady (world_of b) m.store m.step (world_of c) steady m.went
meets_steady b event (Err NotNow) c m steady = subst (λ x. IsSteady (world_of x)) (sym m.same) steady
meets_steady b event (Err NoMemory) c m steady = subst (λ x. IsSteady (world_of x)) (sym m.same) steady
