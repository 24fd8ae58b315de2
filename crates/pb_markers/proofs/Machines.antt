-- Each machine's call is the step of the entry that it plays, at each of its stages.
use Rattle.std.proofs.Common.{◌≡◌, ℕ, true, None, List, [], refl, sym, ap, subst}
use Rattle.std.specs.Prelude.{Result}
use Rattle.std.specs.FinMap.{contains_key}
use Rattle.pb_devices.specs.Objects.{Objects, count_with}
use Rattle.pb_names.specs.Spelling.{marker_prefix}
use Rattle.pb_marker_world.specs.declared.stages.Stage.{Stage}
use Rattle.pb_marker_world.specs.declared.stages.Stage.TheVariants.{Intended, Put, Marked, Loose, Bare, Counted}
use Rattle.pb_marker_world.specs.Machine.{Marker, Entry, Local, own_marker}
use Rattle.pb_marker_world.specs.Sound.{is_beginning}
use Rattle.pb_marker_world.specs.Steps.{IsAt}
use Rattle.pb_marker_world.specs.Bucket.{shown_names, IsInForm, NamesInForm}
use Rattle.pb_marker_world.proofs.BucketLemmas.{object_is_in_form, marker_is_in_form}
use Rattle.pb_markers.specs.declared.create.Create.{Create}
use Rattle.pb_markers.specs.declared.attach.Attach.{Attach}
use Rattle.pb_markers.specs.declared.release.Release.{Release}
use Rattle.pb_markers.specs.Call.{objects_after, IsMade, IsStep, StaysElsewhere, StepsTo}
use Rattle.pb_markers.specs.Call.Call.{PutsBytes, LooksFor, CountsWith, DeletesName}
use Rattle.pb_markers.specs.Creating.{create_call, create_call_at, create_step, entry_created, Creates, HasNamesOf}
use Rattle.pb_markers.specs.Attaching.{attach_call, attach_call_at, attach_step, entry_attached, has_lender_in, is_attaching, Attaches, AwaitsNamed}
use Rattle.pb_markers.specs.Releasing.{count_in, entry_released, is_releasing, release_call, release_call_at, release_step, MayRelease, Releases, StandsAt}
use Rattle.pb_markers.proofs.Rows.{object_row, held_row, marked_row, check_row, count_row, marker_row, deleted_row}
use Rattle.pb_markers.proofs.Made.{elsewhere_made, form_made, same_made, step_made, PutsInForm}

object_named : (m : Marker) (object own : List ℕ) → HasNamesOf m object own → IsInForm object
object_named m object own names = subst IsInForm (sym names.object_spelled) (object_is_in_form m.object names.form.object)

own_named : (m : Marker) (object own : List ℕ) → HasNamesOf m object own → IsInForm own
own_named m object own names = subst IsInForm (sym names.own_spelled) (marker_is_in_form m names.form)

-- ---- Create

create_form_at : (stage : Stage) (m : Marker) (object own bytes : List ℕ) → HasNamesOf m object own
    → PutsInForm (create_call_at stage object own bytes)
create_form_at Intended m object own bytes names = object_named m object own names
create_form_at stage m object own bytes names = own_named m object own names

create_form : (c : Create) (bytes : List ℕ) (m : Marker) → HasNamesOf m c.object c.own → PutsInForm (create_call c bytes)
create_form c bytes m names = create_form_at c.stage m c.object c.own bytes names

create_row_at : (stage : Stage) (object own bytes : List ℕ) (store : ℕ) (l : Local) (number : ℕ) (e : Entry) (objects : Objects)
    → is_beginning stage ≡ true → HasNamesOf (own_marker store number e) object own → l.names ≡ shown_names objects
    → IsAt l number e stage → e.lender ≡ None
    → StepsTo store l number (create_step stage number) (entry_created stage e)
    (objects_after (create_call_at stage object own bytes) objects)
create_row_at Intended object own bytes store l number e objects runs names shown at none =
    object_row l objects store number e object own bytes names shown at none
create_row_at Put object own bytes store l number e objects runs names shown at none =
    held_row l objects store number e object own [] names shown at
create_row_at stage object own bytes store l number e objects runs names shown at none = absurd (cc)

create_row : (c : Create) (bytes : List ℕ) (objects : Objects) → is_beginning c.stage ≡ true
    → (store : ℕ) (l : Local) (number : ℕ) (e : Entry) → Creates c store l number e objects
    → StepsTo store l number (create_step c.stage number) (entry_created c.stage e) (objects_after (create_call c bytes) objects)
create_row c bytes objects runs store l number e plays =
    create_row_at c.stage c.object c.own bytes store l number e objects runs plays.names plays.shown plays.at plays.no_lender

-- what a call that is made, or failed, comes to
pub record CreateMade {T E : Type 0} (c : Create) (bytes : List ℕ) (before after : Objects) (result : Result T E) : Type 0 where
  pub elsewhere : StaysElsewhere (create_call c bytes) before after
  pub form : (m : Marker) → HasNamesOf m c.object c.own → NamesInForm before → NamesInForm after
  pub step : (store : ℕ) (l : Local) (number : ℕ) (e : Entry) → Creates c store l number e before
      → IsStep store l number (create_step c.stage number) (entry_created c.stage e) before after result

module _ {T E : Type 0} (c : Create) (bytes : List ℕ) (before after : Objects) (result : Result T E) where
  create_made : is_beginning c.stage ≡ true → IsMade (create_call c bytes) before after result → CreateMade c bytes before after result
  create_made runs made =
      record {
        elsewhere = elsewhere_made (create_call c bytes) before after result made;
        form = λ m names. form_made (create_call c bytes) before after result made (create_form c bytes m names);
        step = λ store l number e plays.
            step_made (create_call c bytes) before after result made store l number (create_step c.stage number) (entry_created c.stage e)
            (create_row c bytes before runs store l number e plays);
      }

  pub object_made : c.stage ≡ Intended → IsMade (PutsBytes c.object bytes) before after result → CreateMade c bytes before after result
  object_made at made =
      create_made (ap is_beginning at) (subst (λ s. IsMade (create_call_at s c.object c.own bytes) before after result) (sym at) made)

  pub held_made : c.stage ≡ Put → IsMade (PutsBytes c.own []) before after result → CreateMade c bytes before after result
  held_made at made =
      create_made (ap is_beginning at) (subst (λ s. IsMade (create_call_at s c.object c.own bytes) before after result) (sym at) made)

-- ---- Attach

attach_form_at : (stage : Stage) (m : Marker) (object own lender : List ℕ) → HasNamesOf m object own
    → PutsInForm (attach_call_at stage own lender)
attach_form_at Intended m object own lender names = own_named m object own names
attach_form_at stage m object own lender names = tt

attach_form : (a : Attach) (m : Marker) → HasNamesOf m a.object a.own → PutsInForm (attach_call a)
attach_form a m names = attach_form_at a.stage m a.object a.own a.lender names

attach_row_at : (stage : Stage) (object own lender : List ℕ) (store : ℕ) (l : Local) (number : ℕ) (e : Entry) (objects : Objects)
    → is_attaching stage ≡ true → HasNamesOf (own_marker store number e) object own → l.names ≡ shown_names objects
    → IsAt l number e stage → AwaitsNamed e lender
    → StepsTo store l number (attach_step stage number) (entry_attached stage (contains_key objects lender) e)
    (objects_after (attach_call_at stage own lender) objects)
attach_row_at Intended object own lender store l number e objects runs names shown at awaits =
    marked_row l objects store number e object own [] lender names shown at awaits
attach_row_at Marked object own lender store l number e objects runs names shown at awaits =
    check_row l objects store number e lender shown at awaits
attach_row_at stage object own lender store l number e objects runs names shown at awaits = absurd (cc)

attach_row : (a : Attach) (objects : Objects) → is_attaching a.stage ≡ true
    → (store : ℕ) (l : Local) (number : ℕ) (e : Entry) → Attaches a store l number e objects
    → StepsTo store l number (attach_step a.stage number) (entry_attached a.stage (has_lender_in objects a) e)
    (objects_after (attach_call a) objects)
attach_row a objects runs store l number e plays =
    attach_row_at a.stage a.object a.own a.lender store l number e objects runs plays.names plays.shown plays.at plays.awaits

-- what a call that is made, or failed, comes to
pub record AttachMade {T E : Type 0} (a : Attach) (before after : Objects) (result : Result T E) : Type 0 where
  pub elsewhere : StaysElsewhere (attach_call a) before after
  pub form : (m : Marker) → HasNamesOf m a.object a.own → NamesInForm before → NamesInForm after
  pub step : (store : ℕ) (l : Local) (number : ℕ) (e : Entry) → Attaches a store l number e before
      → IsStep store l number (attach_step a.stage number) (entry_attached a.stage (has_lender_in before a) e) before after result

module _ {T E : Type 0} (a : Attach) (before after : Objects) (result : Result T E) where
  attach_made : is_attaching a.stage ≡ true → IsMade (attach_call a) before after result → AttachMade a before after result
  attach_made runs made =
      record {
        elsewhere = elsewhere_made (attach_call a) before after result made;
        form = λ m names. form_made (attach_call a) before after result made (attach_form a m names);
        step = λ store l number e plays.
            step_made (attach_call a) before after result made store l number (attach_step a.stage number)
            (entry_attached a.stage (has_lender_in before a) e) (attach_row a before runs store l number e plays);
      }

  pub marked_made : a.stage ≡ Intended → IsMade (PutsBytes a.own []) before after result → AttachMade a before after result
  marked_made at made =
      attach_made (ap is_attaching at) (subst (λ s. IsMade (attach_call_at s a.own a.lender) before after result) (sym at) made)

  pub check_made : a.stage ≡ Marked → after ≡ before → AttachMade a before after result
  check_made at same =
      attach_made (ap is_attaching at) (subst (λ s. IsMade (attach_call_at s a.own a.lender) before after result) (sym at)
      (same_made (LooksFor a.lender) before after result refl same))

-- ---- Release

release_form_at : (stage : Stage) (prefix object own : List ℕ) → PutsInForm (release_call_at stage prefix object own)
release_form_at Bare prefix object own = tt
release_form_at stage prefix object own = tt

release_form : (r : Release) → PutsInForm (release_call r)
release_form r = release_form_at r.stage r.prefix r.object r.own

release_row_at : (stage : Stage) (prefix object own : List ℕ) (store : ℕ) (l : Local) (number : ℕ) (e : Entry) (objects : Objects)
    → is_releasing stage ≡ true → HasNamesOf (own_marker store number e) object own → prefix ≡ marker_prefix e.object
    → l.names ≡ shown_names objects → StandsAt stage l number e
    → MayRelease stage store l (own_marker store number e) (count_with prefix objects) objects
    → StepsTo store l number (release_step stage number) (entry_released stage (count_with prefix objects) e)
    (objects_after (release_call_at stage prefix object own) objects)
release_row_at Loose prefix object own store l number e objects runs names spelled shown at may =
    marker_row l objects store number e object own names shown at may
release_row_at Bare prefix object own store l number e objects runs names spelled shown at may =
    count_row l objects store number e prefix names.form.object spelled shown at may
release_row_at Counted prefix object own store l number e objects runs names spelled shown at may =
    deleted_row l objects store number e object own names shown at
release_row_at stage prefix object own store l number e objects runs names spelled shown at may = absurd (cc)

release_row : (r : Release) (objects : Objects) → is_releasing r.stage ≡ true
    → (store : ℕ) (l : Local) (number : ℕ) (e : Entry) → Releases r store l number e objects
    → StepsTo store l number (release_step r.stage number) (entry_released r.stage (count_in objects r) e)
    (objects_after (release_call r) objects)
release_row r objects runs store l number e plays =
    release_row_at r.stage r.prefix r.object r.own store l number e objects runs plays.names plays.prefix_spelled plays.shown plays.at
    plays.may

-- what a call that is made, or failed, comes to
pub record ReleaseMade {T E : Type 0} (r : Release) (before after : Objects) (result : Result T E) : Type 0 where
  pub elsewhere : StaysElsewhere (release_call r) before after
  pub form : NamesInForm before → NamesInForm after
  pub step : (store : ℕ) (l : Local) (number : ℕ) (e : Entry) → Releases r store l number e before
      → IsStep store l number (release_step r.stage number) (entry_released r.stage (count_in before r) e) before after result

module _ {T E : Type 0} (r : Release) (before after : Objects) (result : Result T E) where
  release_made : is_releasing r.stage ≡ true → IsMade (release_call r) before after result → ReleaseMade r before after result
  release_made runs made =
      record {
        elsewhere = elsewhere_made (release_call r) before after result made;
        form = form_made (release_call r) before after result made (release_form r);
        step = λ store l number e plays.
            step_made (release_call r) before after result made store l number (release_step r.stage number)
            (entry_released r.stage (count_in before r) e) (release_row r before runs store l number e plays);
      }

  pub marker_made : r.stage ≡ Loose → IsMade (DeletesName r.own) before after result → ReleaseMade r before after result
  marker_made at made =
      release_made (ap is_releasing at) (subst (λ s. IsMade (release_call_at s r.prefix r.object r.own) before after result) (sym at) made)

  pub count_made : r.stage ≡ Bare → after ≡ before → ReleaseMade r before after result
  count_made at same =
      release_made (ap is_releasing at) (subst (λ s. IsMade (release_call_at s r.prefix r.object r.own) before after result) (sym at)
      (same_made (CountsWith r.prefix) before after result refl same))

  pub deleted_made : r.stage ≡ Counted → IsMade (DeletesName r.object) before after result → ReleaseMade r before after result
  deleted_made at made =
      release_made (ap is_releasing at) (subst (λ s. IsMade (release_call_at s r.prefix r.object r.own) before after result) (sym at) made)
