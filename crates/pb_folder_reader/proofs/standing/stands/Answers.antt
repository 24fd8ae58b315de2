use Rattle.std.proofs.Common.{ℕ}
use Rattle.pb_folder.specs.Listed.{folder_of, objects_of}
use Rattle.pb_folder.specs.StandsFor.{StandsFor}
use Rattle.pb_keys.specs.Map.{Map}
use Rattle.pb_folder_reader.specs.AtFault.{IsAtFault}
use Rattle.pb_folder_reader.proofs.AtFaultLaws.{at_fault_none}
use Rattle.pb_folder_reader.proofs.Results.{if_damaged}
use Rattle.pb_folder_reader.proofs.standing.stands.Goals as goal

pub returns-in-Err-clause-err : goal.returns-in-Err-clause-err
returns-in-Err-clause-err c =
    let folder = folder_of c.args.files.now in
    let objects = objects_of c.args.objects.now in
    if_damaged c.in-Err.fault (IsAtFault folder objects c.args.id) (λ file. (n : ℕ) (m : Map) → StandsFor folder objects c.args.id n m → ⊥)
    (at_fault_none folder objects c.args.id) c.in-Err.ensures.fault
