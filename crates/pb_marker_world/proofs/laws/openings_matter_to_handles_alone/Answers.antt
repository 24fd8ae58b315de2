use Rattle.pb_marker_world.proofs.RunLaws.{reopened_sound, reopened_steady}
use Rattle.pb_marker_world.proofs.laws.openings_matter_to_handles_alone.Goals as goal

pub returns-clause-sound : goal.returns-clause-sound
returns-clause-sound c = reopened_sound

pub returns-clause-steady : goal.returns-clause-steady
returns-clause-steady c = reopened_steady
