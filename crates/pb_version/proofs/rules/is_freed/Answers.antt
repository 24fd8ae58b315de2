use Rattle.std.proofs.Common.{◌∙◌, sym}
use Rattle.std.specs.Prelude.{map}
use Rattle.pb_version.proofs.Untouched.{is_none, none_freed}
use Rattle.pb_version.proofs.rules.is_freed.Goals as goal

pub returns-then-is_empty : goal.returns-then-is_empty
returns-then-is_empty c =
    sym (none_freed c.args.deleted.now c.args.c.now (is_none c.args.deleted.now (sym c.is_empty.ensures ∙ c.if-is_empty.true)) 0 (map (λ l. l.items) c.args.levels.now))
