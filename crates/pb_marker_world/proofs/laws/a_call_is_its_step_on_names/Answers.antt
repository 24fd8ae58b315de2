use Rattle.std.proofs.lemmas.Bool.{both_ways}
use Rattle.pb_names.specs.Spelling.{object_name}
use Rattle.pb_marker_world.specs.Bucket.{name_of, is_shared_name}
use Rattle.pb_marker_world.proofs.BucketLemmas.{put_object_shows, delete_object_shows, put_marker_shows, delete_marker_shows, other_put_shows, other_delete_shows, form_put, form_deleted, object_is_in_form, marker_is_in_form}
use Rattle.pb_marker_world.proofs.laws.a_call_is_its_step_on_names.Goals as goal

pub returns-clause-puts_object : goal.returns-clause-puts_object
returns-clause-puts_object c = put_object_shows

pub returns-clause-deletes_object : goal.returns-clause-deletes_object
returns-clause-deletes_object c = delete_object_shows

pub returns-clause-puts_marker : goal.returns-clause-puts_marker
returns-clause-puts_marker c = put_marker_shows

pub returns-clause-deletes_marker : goal.returns-clause-deletes_marker
returns-clause-deletes_marker c = delete_marker_shows

pub returns-clause-object_in_form : goal.returns-clause-object_in_form
returns-clause-object_in_form c = λ objects o bytes form each. form_put objects (object_name o) bytes (λ _. object_is_in_form o form) each

pub returns-clause-marker_in_form : goal.returns-clause-marker_in_form
returns-clause-marker_in_form c = λ objects m bytes form each. form_put objects (name_of m) bytes (λ _. marker_is_in_form m form) each

pub returns-clause-deleted_in_form : goal.returns-clause-deleted_in_form
returns-clause-deleted_in_form c = λ objects name each. form_deleted objects name name each

pub returns-clause-puts_another : goal.returns-clause-puts_another
returns-clause-puts_another c = λ objects name bytes apart. (
  other_put_shows objects name bytes apart,
  form_put objects name bytes (λ x. absurd (both_ways (is_shared_name name) apart x)),
)

pub returns-clause-deletes_another : goal.returns-clause-deletes_another
returns-clause-deletes_another c = other_delete_shows
