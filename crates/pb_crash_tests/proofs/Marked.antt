-- What both calls of a creation leave: the bucket shows the object and its marker.
use Rattle.std.proofs.Common.{◌≡◌, ℕ, ◌<◌, ◌^◌, true, List, [], refl, sym, ap, ◌∙◌}
use Rattle.std.specs.FinMap.{insert}
use Rattle.std.proofs.lemmas.Bool.{or_left}
use Rattle.pb_devices.specs.Objects.{Objects}
use Rattle.pb_names.specs.Identity.{Identity, IsObject, IsStore}
use Rattle.pb_names.specs.Spelling.{marker_name, object_name}
use Rattle.pb_marker_world.specs.declared.stages.Stage.TheVariants.{Intended, Put}
use Rattle.pb_marker_world.specs.Machine.{Marker, Names, same_identity, same_marker, with_marker, with_object}
use Rattle.pb_marker_world.specs.Bucket.{IsMarker, shown_names}
use Rattle.pb_marker_world.proofs.BucketLemmas.{put_marker_shows, put_object_shows}
use Rattle.pb_marker_world.proofs.Tests.{identity_self, marker_self}
use Rattle.pb_markers.specs.declared.create.Create.{Create}
use Rattle.pb_markers.specs.Call.{objects_after}
use Rattle.pb_markers.specs.Creating.{create_call, stage_created}

-- a creation at its beginning, and after its first call
pub record IsCreation (first second : Create) (id : Identity) (store number : ℕ) : Type 0 where
  pub begun : first ≡ record { object = object_name id; own = marker_name id store number; stage = Intended }
  pub names : second ≡ record { object = first.object; own = first.own; stage = second.stage }
  pub gone_on : second.stage ≡ stage_created first.stage

abbrev marker_of : Identity → ℕ → ℕ → Marker
marker_of id store number = record { object = id; store = store; number = number }

second_is : (first second : Create) (id : Identity) (store number : ℕ) → IsCreation first second id store number
    → second ≡ record { object = object_name id; own = marker_name id store number; stage = Put }
second_is first second id store number is =
    is.names
    ∙ ((λ i. record { object = first.object; own = first.own; stage = is.gone_on i })
    ∙ (λ i. record { object = (is.begun i).object; own = (is.begun i).own; stage = stage_created (is.begun i).stage }))

module _ (first second : Create) (bytes : List ℕ) (before between after : Objects) (id : Identity) (store number : ℕ)
    (is : IsCreation first second id store number) (form : IsMarker (marker_of id store number))
    (one : between ≡ objects_after (create_call first bytes) before) (two : after ≡ objects_after (create_call second bytes) between) where
  after_first : shown_names between ≡ with_object (shown_names before) id
  after_first =
      ap shown_names (one ∙ ap (λ x. objects_after (create_call x bytes) before) is.begun) ∙ put_object_shows before id bytes form.object

  after_both : shown_names after ≡ with_marker (with_object (shown_names before) id) (marker_of id store number)
  after_both =
      ap shown_names (two ∙ ap (λ x. objects_after (create_call x bytes) between) (second_is first second id store number is))
      ∙ (put_marker_shows between (marker_of id store number) [] form ∙ ap (λ x. with_marker x (marker_of id store number)) after_first)

  pub object_shown : (shown_names after).objects id ≡ true
  object_shown =
      ap (λ (x : Names). x.objects id) after_both
      ∙ or_left (same_identity id id) ((shown_names before).objects id) (identity_self id id refl)

  pub marker_shown : (shown_names after).markers (marker_of id store number) ≡ true
  marker_shown =
      let m = marker_of id store number in
      ap (λ (x : Names). x.markers m) after_both ∙ or_left (same_marker m m) ((shown_names before).markers m) (marker_self m m refl)
