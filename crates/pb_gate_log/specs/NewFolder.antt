-- The folder of a new store.
use Rattle.std.specs.Prelude.{◌≡◌, []}
use Rattle.pb_devices.specs.Contents.{Folder}
use Rattle.pb_names.specs.Spelling.{current_name}
use Rattle.pb_gate_log.specs.Payloads.{payloads_in}

-- there is no current pointer, or one without a payload
abbrev pub IsNew : Folder → Type 0
IsNew folder = payloads_in (folder current_name) ≡ []
