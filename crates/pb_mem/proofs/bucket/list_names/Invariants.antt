use Rattle.std.proofs.Common.{◌≡◌, ◌++◌, map, filter, string_bytes}
use Rattle.std.specs.BTreeMap.{keys}
use Rattle.pb_devices.specs.Objects.{begins_with}
use Rattle.pb_mem.proofs.bucket.list_names.Given as goal

-- the names so far, and those of the keys that are left, are the names
abbrev pub invariant-loop-name : goal.invariant-loop-name
invariant-loop-name l =
    map string_bytes l.names.items ++ filter (begins_with l.prefix) (map string_bytes l.name-iterator)
    ≡ filter (begins_with l.prefix) (map string_bytes (keys l.objects))
