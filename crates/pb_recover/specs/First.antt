-- What the folder of a new store says.
use Rattle.std.specs.Prelude.{[], replicate}
use Rattle.pb_payloads.specs.Current.{pointer_to}
use Rattle.pb_version.specs.Version.{VersionView}
use Rattle.pb_folder.specs.Said.{Said}

-- no command, the numbers below 64 reserved, and the log 3
abbrev pub first_version : VersionView
first_version = record {
  levels = replicate 7 [];
  backings = [];
  five = record { accepted = 0; next = 64; log = 3; flushed = 0; format = 1 };
}

-- that, by the manifest 1, in the catalogue 2 the id alone, and an empty log
abbrev pub first_said : Said
first_said = record { pointer = pointer_to 1 2; version = first_version; entries = []; log = [] }
