-- What the payloads of the code stand for.
use Rattle.std.specs.Prelude.{drop}
use Rattle.pb_payloads.specs.Catalogued.{Catalogued, Standing}
use Rattle.pb_payloads.specs.declared.entry.CataloguePayload.{CataloguePayload}
use Rattle.pb_payloads.specs.declared.entry.CataloguePayload.TheVariants.{Id, Entered, Dropped}
use Rattle.pb_payloads.specs.declared.entry.Entry.{Entry}
use Rattle.pb_payloads.specs.declared.entry.Entry.TheVariants.{Shared, External}

-- an external name has its x/ in the code, and hasn't in a payload
abbrev pub standing_of : Entry → Standing
standing_of (Shared object) = Standing.Shared object
standing_of (External name) = Standing.External (drop 2 name)

abbrev pub catalogued_of : CataloguePayload → Catalogued
catalogued_of (Id id) = Catalogued.Id id
catalogued_of (Entered number entry) = Catalogued.Entered number (standing_of entry)
catalogued_of (Dropped number) = Catalogued.Dropped number
