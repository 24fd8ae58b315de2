-- Each row of the machines' table: a call on a bucket that shows what the store sees is the store's step.
use Rattle.std.proofs.Common.{◌≡◌, ℕ, false, ◌⊎◌, inl, inr, None, List, sym, ap, ◌∙◌, subst}
use Rattle.std.specs.Prelude.{◌&&◌, ◌==◌, if◌then◌else◌}
use Rattle.std.specs.FinMap.{insert, remove, contains_key}
use Rattle.std.specs.List.{list_any}
use Rattle.std.proofs.lemmas.Bool.{both_ways, cases_Bool, cond-true, cond-false, eqb-true, eq-eqb}
use Rattle.pb_devices.specs.Objects.{Objects, count_with}
use Rattle.pb_names.specs.Identity.{IsObject}
use Rattle.pb_names.specs.Spelling.{marker_prefix}
use Rattle.pb_marker_world.specs.declared.stages.Stage.{Stage}
use Rattle.pb_marker_world.specs.declared.stages.Stage.TheVariants.{Intended, Put, Marked, Held, Loose, Bare, Counted, Ended}
use Rattle.pb_marker_world.specs.Machine.{Entry, Names, Local, own_marker, with_object, without_object, with_marker, without_marker}
use Rattle.pb_marker_world.specs.Steps.{IsAt, IsMarked, at_stage, settled, moved, protects, lender_stands}
use Rattle.pb_marker_world.specs.Steps.Step.{PutsObject, PutsMarker, Checks, DeletesMarker, Counts, DeletesObject}
use Rattle.pb_marker_world.specs.Bucket.{name_of, shown_names, NamesInForm}
use Rattle.pb_marker_world.proofs.BucketLemmas.{put_object_shows, put_marker_shows, delete_object_shows, delete_marker_shows, is_marker_of}
use Rattle.pb_marker_world.proofs.CountLemmas.{counted_none, counted_some}
use Rattle.pb_markers.specs.Call.{StepsTo}
use Rattle.pb_markers.specs.Creating.{HasNamesOf}
use Rattle.pb_markers.specs.Attaching.{AwaitsNamed}

-- what the bucket shows after the call is what the step makes of what the store sees
object_put : (l : Local) (objects : Objects) (store number : ℕ) (e : Entry) (object own bytes : List ℕ)
    → HasNamesOf (own_marker store number e) object own → l.names ≡ shown_names objects
    → shown_names (insert objects object bytes) ≡ with_object l.names e.object
object_put l objects store number e object own bytes names shown =
    ap (λ x. shown_names (insert objects x bytes)) names.object_spelled
    ∙ (put_object_shows objects e.object bytes names.form.object ∙ ap (λ x. with_object x e.object) (sym shown))

marker_put : (l : Local) (objects : Objects) (store number : ℕ) (e : Entry) (object own bytes : List ℕ)
    → HasNamesOf (own_marker store number e) object own → l.names ≡ shown_names objects
    → shown_names (insert objects own bytes) ≡ with_marker l.names (own_marker store number e)
marker_put l objects store number e object own bytes names shown =
    ap (λ x. shown_names (insert objects x bytes)) names.own_spelled
    ∙ (put_marker_shows objects (own_marker store number e) bytes names.form
    ∙ ap (λ x. with_marker x (own_marker store number e)) (sym shown))

object_deleted : (l : Local) (objects : Objects) (store number : ℕ) (e : Entry) (object own : List ℕ)
    → HasNamesOf (own_marker store number e) object own → l.names ≡ shown_names objects
    → shown_names (remove objects object) ≡ without_object l.names e.object
object_deleted l objects store number e object own names shown =
    ap (λ x. shown_names (remove objects x)) names.object_spelled
    ∙ (delete_object_shows objects e.object names.form.object ∙ ap (λ x. without_object x e.object) (sym shown))

marker_deleted : (l : Local) (objects : Objects) (store number : ℕ) (e : Entry) (object own : List ℕ)
    → HasNamesOf (own_marker store number e) object own → l.names ≡ shown_names objects
    → shown_names (remove objects own) ≡ without_marker l.names (own_marker store number e)
marker_deleted l objects store number e object own names shown =
    ap (λ x. shown_names (remove objects x)) names.own_spelled
    ∙ (delete_marker_shows objects (own_marker store number e) names.form
    ∙ ap (λ x. without_marker x (own_marker store number e)) (sym shown))

-- ---- the rows

pub object_row : (l : Local) (objects : Objects) (store number : ℕ) (e : Entry) (object own bytes : List ℕ)
    → HasNamesOf (own_marker store number e) object own → l.names ≡ shown_names objects → IsAt l number e Intended → e.lender ≡ None
    → StepsTo store l number (PutsObject number) (at_stage e Put) (insert objects object bytes)
object_row l objects store number e object own bytes names shown at none =
    record {
      entry = e;
      at = at;
      no_lender = none;
      left = ap (λ x. moved l number (at_stage e Put) x) (object_put l objects store number e object own bytes names shown);
    }

pub held_row : (l : Local) (objects : Objects) (store number : ℕ) (e : Entry) (object own bytes : List ℕ)
    → HasNamesOf (own_marker store number e) object own → l.names ≡ shown_names objects → IsAt l number e Put
    → StepsTo store l number (PutsMarker number) (at_stage e Held) (insert objects own bytes)
held_row l objects store number e object own bytes names shown at =
    record {
      entry = e;
      how = inl (record {
        at = at;
        left = ap (λ x. moved l number (at_stage e Held) x) (marker_put l objects store number e object own bytes names shown);
      });
    }

pub marked_row : (l : Local) (objects : Objects) (store number : ℕ) (e : Entry) (object own bytes lender : List ℕ)
    → HasNamesOf (own_marker store number e) object own → l.names ≡ shown_names objects → IsAt l number e Intended → AwaitsNamed e lender
    → StepsTo store l number (PutsMarker number) (at_stage e Marked) (insert objects own bytes)
marked_row l objects store number e object own bytes lender names shown at awaits =
    record {
      entry = e;
      how = inr (record {
        at = at;
        lender = awaits.lender;
        lent = awaits.lent;
        left = ap (λ x. moved l number (at_stage e Marked) x) (marker_put l objects store number e object own bytes names shown);
      });
    }

-- the lender's marker is shown where the bucket has its name
lender_shown : (l : Local) (objects : Objects) (e : Entry) (lender : List ℕ) → l.names ≡ shown_names objects → AwaitsNamed e lender
    → lender_stands l.names e.lender ≡ contains_key objects lender
lender_shown l objects e lender shown awaits =
    ap (λ x. lender_stands l.names x) awaits.lent
    ∙ (ap (λ (x : Names). x.markers awaits.lender) shown
    ∙ (ap (λ x. x && contains_key objects (name_of awaits.lender)) (is_marker_of awaits.lender awaits.form)
    ∙ ap (λ x. contains_key objects x) (sym awaits.spelled)))

pub check_row : (l : Local) (objects : Objects) (store number : ℕ) (e : Entry) (lender : List ℕ)
    → l.names ≡ shown_names objects → IsAt l number e Marked → AwaitsNamed e lender
    → StepsTo store l number (Checks number) (settled e (if contains_key objects lender then Held else Loose)) objects
check_row l objects store number e lender shown at awaits =
    record {
      entry = e;
      at = at;
      left = λ i. moved l number (settled e (if sym (lender_shown l objects e lender shown awaits) i then Held else Loose)) (sym shown i);
    }

-- a count of 0, and any other
count_none : (l : Local) (objects : Objects) (store number : ℕ) (e : Entry) (prefix : List ℕ)
    → IsObject e.object → prefix ≡ marker_prefix e.object → l.names ≡ shown_names objects → IsAt l number e Bare
    → count_with prefix objects ≡ 0 → StepsTo store l number (Counts number) (at_stage e Counted) objects
count_none l objects store number e prefix form spelled shown at none =
    record {
      entry = e;
      at = at;
      how = inl (record {
        none = λ m. counted_none objects e.object form (ap (λ x. count_with x objects) (sym spelled) ∙ none)
            (subst (λ x. IsMarked x e.object) shown m);
        left = ap (λ x. moved l number (at_stage e Counted) x) (sym shown);
      });
    }

count_some : (l : Local) (objects : Objects) (store number : ℕ) (e : Entry) (prefix : List ℕ)
    → IsObject e.object → prefix ≡ marker_prefix e.object → l.names ≡ shown_names objects → IsAt l number e Bare
    → NamesInForm objects → (count_with prefix objects ≡ 0 → ⊥)
    → StepsTo store l number (Counts number) (at_stage e Ended) objects
count_some l objects store number e prefix form spelled shown at each some =
    record {
      entry = e;
      at = at;
      how = inr (record {
        some = subst (λ x. IsMarked x e.object) (sym shown)
            (counted_some objects e.object form each (λ none. some (ap (λ x. count_with x objects) spelled ∙ none)));
        left = ap (λ x. moved l number (at_stage e Ended) x) (sym shown);
      });
    }

pub count_row : (l : Local) (objects : Objects) (store number : ℕ) (e : Entry) (prefix : List ℕ)
    → IsObject e.object → prefix ≡ marker_prefix e.object → l.names ≡ shown_names objects → IsAt l number e Bare
    → ((count_with prefix objects ≡ 0 → ⊥) → NamesInForm objects)
    → StepsTo store l number (Counts number) (at_stage e (if count_with prefix objects == 0 then Counted else Ended)) objects
count_row l objects store number e prefix form spelled shown at each =
    let steps : (s : Stage) → Type 0 = λ s. StepsTo store l number (Counts number) (at_stage e s) objects in
    elim (cases_Bool (count_with prefix objects == 0)) [
      | inl none ↦ subst steps (sym (cond-true (count_with prefix objects == 0) Counted Ended none))
          (count_none l objects store number e prefix form spelled shown at (eqb-true (count_with prefix objects) 0 none))
      | inr other ↦
          let some : count_with prefix objects ≡ 0 → ⊥ = λ x. both_ways (count_with prefix objects == 0) other (eq-eqb _ 0 x) in
          subst steps (sym (cond-false (count_with prefix objects == 0) Counted Ended other))
          (count_some l objects store number e prefix form spelled shown at (each some) some)
    ]

pub marker_row : (l : Local) (objects : Objects) (store number : ℕ) (e : Entry) (object own : List ℕ)
    → HasNamesOf (own_marker store number e) object own → l.names ≡ shown_names objects → IsAt l number e Held ⊎ IsAt l number e Loose
    → list_any (protects store l.part.opening (own_marker store number e)) l.lendings ≡ false
    → StepsTo store l number (DeletesMarker number) (at_stage e Bare) (remove objects own)
marker_row l objects store number e object own names shown at unprotected =
    record {
      entry = e;
      at = at;
      unprotected = unprotected;
      left = ap (λ x. moved l number (at_stage e Bare) x) (marker_deleted l objects store number e object own names shown);
    }

pub deleted_row : (l : Local) (objects : Objects) (store number : ℕ) (e : Entry) (object own : List ℕ)
    → HasNamesOf (own_marker store number e) object own → l.names ≡ shown_names objects → IsAt l number e Counted
    → StepsTo store l number (DeletesObject number) (at_stage e Ended) (remove objects object)
deleted_row l objects store number e object own names shown at =
    record {
      entry = e;
      at = at;
      left = ap (λ x. moved l number (at_stage e Ended) x) (object_deleted l objects store number e object own names shown);
    }
