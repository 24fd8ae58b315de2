use Rattle.std.proofs.Common.{◌≡◌, take}
use Rattle.pb_provider.specs.Provider.{stages_of}
use Rattle.pb_provider.proofs.stages.opening_stages.Given as goal

abbrev pub invariant-loop-place : goal.invariant-loop-place
invariant-loop-place l = l.stages.items ≡ stages_of l.version (take l.place l.catalog.entries)
