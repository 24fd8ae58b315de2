-- Which names a step leaves as they were.
use Rattle.std.proofs.Common.{◌≡◌, ℕ, Bool, false, inl, inr, Some, sym, ap, ◌∙◌}
use Rattle.std.specs.Prelude.{◌||◌, ◌&&◌, not}
use Rattle.std.specs.Option.{option_map}
use Rattle.std.proofs.lemmas.Bool.{false_from_ne_true}
use Rattle.pb_names.specs.Identity.{Identity}
use Rattle.pb_names.specs.Spelling.{object_name}
use Rattle.pb_marker_world.specs.Machine.{Marker, Entry, Local, own_marker, same_identity, same_marker}
use Rattle.pb_marker_world.specs.Steps.{Step, Happens}
use Rattle.pb_marker_world.specs.Steps.Step.{Spends, Intends, PutsObject, PutsMarker, Checks, DeletesMarker, Counts, DeletesObject, Drops, Lends, DropsHandle, Crashes}
use Rattle.pb_marker_world.specs.Bucket.{name_of}
use Rattle.pb_marker_world.specs.Calls.{is_bucket_step, touched_name}
use Rattle.pb_marker_world.proofs.Tests.{identity_is, marker_is}

left_if_put : (a b : Bool) → a ≡ false → (a || b) ≡ b
left_if_put a b p = ap (λ x. x || b) p

left_if_deleted : (a b : Bool) → a ≡ false → (not a && b) ≡ b
left_if_deleted a b p = ap (λ x. not x && b) p

-- another name is another thing's
other_object : (l : Local) (n : ℕ) (e : Entry) (o : Identity) → l.part.entries n ≡ Some e
    → (option_map (λ (x : Entry). object_name x.object) (l.part.entries n) ≡ Some (object_name o) → ⊥) → same_identity o e.object ≡ false
other_object l n e o there apart =
    false_from_ne_true (same_identity o e.object) (λ x.
    apart (ap (λ y. option_map (λ (z : Entry). object_name z.object) y) there
    ∙ ap (λ y. Some (object_name y)) (sym (identity_is o e.object x))))

other_marker : (store : ℕ) (l : Local) (n : ℕ) (e : Entry) (m : Marker) → l.part.entries n ≡ Some e
    → (option_map (λ x. name_of (own_marker store n x)) (l.part.entries n) ≡ Some (name_of m) → ⊥)
    → same_marker m (own_marker store n e) ≡ false
other_marker store l n e m there apart =
    false_from_ne_true (same_marker m (own_marker store n e)) (λ x.
    apart (ap (λ y. option_map (λ z. name_of (own_marker store n z)) y) there
    ∙ ap (λ y. Some (name_of y)) (sym (marker_is m (own_marker store n e) x))))

module _ (store : ℕ) (l : Local) where
  pub object_left : (step : Step) (after : Local) (o : Identity) → Happens store l step after
      → (touched_name store l step ≡ Some (object_name o) → ⊥) → after.names.objects o ≡ l.names.objects o
  object_left (Spends n) after o h apart = ap (λ (x : Local). x.names.objects o) h.left
  object_left (Intends n q lender) after o h apart = ap (λ (x : Local). x.names.objects o) h.left
  object_left (PutsObject n) after o h apart =
      ap (λ (x : Local). x.names.objects o) h.left
      ∙ left_if_put (same_identity o h.entry.object) (l.names.objects o) (other_object l n h.entry o h.at.stands apart)
  object_left (PutsMarker n) after o h apart =
      elim h.how [ inl q ↦ ap (λ (x : Local). x.names.objects o) q.left | inr q ↦ ap (λ (x : Local). x.names.objects o) q.left ]
  object_left (Checks n) after o h apart = ap (λ (x : Local). x.names.objects o) h.left
  object_left (DeletesMarker n) after o h apart = ap (λ (x : Local). x.names.objects o) h.left
  object_left (Counts n) after o h apart =
      elim h.how [ inl q ↦ ap (λ (x : Local). x.names.objects o) q.left | inr q ↦ ap (λ (x : Local). x.names.objects o) q.left ]
  object_left (DeletesObject n) after o h apart =
      ap (λ (x : Local). x.names.objects o) h.left
      ∙ left_if_deleted (same_identity o h.entry.object) (l.names.objects o) (other_object l n h.entry o h.at.stands apart)
  object_left (Drops n) after o h apart = ap (λ (x : Local). x.names.objects o) h.left
  object_left (Lends numbers) after o h apart = ap (λ (x : Local). x.names.objects o) h.left
  object_left (DropsHandle k) after o h apart = ap (λ (x : Local). x.names.objects o) h.left
  object_left (Crashes kept) after o h apart = ap (λ (x : Local). x.names.objects o) h.left

  pub marker_left : (step : Step) (after : Local) (m : Marker) → Happens store l step after
      → (touched_name store l step ≡ Some (name_of m) → ⊥) → after.names.markers m ≡ l.names.markers m
  marker_left (Spends n) after m h apart = ap (λ (x : Local). x.names.markers m) h.left
  marker_left (Intends n q lender) after m h apart = ap (λ (x : Local). x.names.markers m) h.left
  marker_left (PutsObject n) after m h apart = ap (λ (x : Local). x.names.markers m) h.left
  marker_left (PutsMarker n) after m h apart =
      elim h.how [
        | inl q ↦ ap (λ (x : Local). x.names.markers m) q.left
            ∙ left_if_put (same_marker m (own_marker store n h.entry)) (l.names.markers m)
            (other_marker store l n h.entry m q.at.stands apart)
        | inr q ↦ ap (λ (x : Local). x.names.markers m) q.left
            ∙ left_if_put (same_marker m (own_marker store n h.entry)) (l.names.markers m)
            (other_marker store l n h.entry m q.at.stands apart)
      ]
  marker_left (Checks n) after m h apart = ap (λ (x : Local). x.names.markers m) h.left
  marker_left (DeletesMarker n) after m h apart =
      ap (λ (x : Local). x.names.markers m) h.left
      ∙ left_if_deleted (same_marker m (own_marker store n h.entry)) (l.names.markers m)
      (other_marker store l n h.entry m (elim h.at [ inl q ↦ q.stands | inr q ↦ q.stands ]) apart)
  marker_left (Counts n) after m h apart =
      elim h.how [ inl q ↦ ap (λ (x : Local). x.names.markers m) q.left | inr q ↦ ap (λ (x : Local). x.names.markers m) q.left ]
  marker_left (DeletesObject n) after m h apart = ap (λ (x : Local). x.names.markers m) h.left
  marker_left (Drops n) after m h apart = ap (λ (x : Local). x.names.markers m) h.left
  marker_left (Lends numbers) after m h apart = ap (λ (x : Local). x.names.markers m) h.left
  marker_left (DropsHandle k) after m h apart = ap (λ (x : Local). x.names.markers m) h.left
  marker_left (Crashes kept) after m h apart = ap (λ (x : Local). x.names.markers m) h.left

  pub names_left : (step : Step) (after : Local) → Happens store l step after → is_bucket_step step ≡ false → after.names ≡ l.names
  names_left (Spends n) after h own = ap (λ (x : Local). x.names) h.left
  names_left (Intends n q lender) after h own = ap (λ (x : Local). x.names) h.left
  names_left (Drops n) after h own = ap (λ (x : Local). x.names) h.left
  names_left (Lends numbers) after h own = ap (λ (x : Local). x.names) h.left
  names_left (DropsHandle k) after h own = ap (λ (x : Local). x.names) h.left
  names_left (Crashes kept) after h own = ap (λ (x : Local). x.names) h.left
  names_left (PutsObject n) after h own = absurd (cc)
  names_left (PutsMarker n) after h own = absurd (cc)
  names_left (Checks n) after h own = absurd (cc)
  names_left (DeletesMarker n) after h own = absurd (cc)
  names_left (Counts n) after h own = absurd (cc)
  names_left (DeletesObject n) after h own = absurd (cc)
