use Rattle.std.proofs.Common.{ℕ, List, subst}
use Rattle.std.specs.Prelude.{IsTrue, ◌↔◌}
use Rattle.pb_names.specs.Grammar.{IsName}
use Rattle.pebble_cli.proofs.FaultLines.{set_built, set_unbuilt, get_built}
use Rattle.pebble_cli.proofs.lines.is_built_command.Goals as goal

pub returns-then-is_name : goal.returns-then-is_name
returns-then-is_name c =
    set_built c.args.command.now _ _ c.is_name.result c.is_name-then-is_name.result c.in-Set.is
    (subst (λ (bytes : List ℕ). IsTrue c.is_name.result ↔ IsName bytes) c.as_slice.ensures c.is_name.ensures)
    (subst (λ (bytes : List ℕ). IsTrue c.is_name-then-is_name.result ↔ IsName bytes) c.as_slice-then-is_name.ensures c.is_name-then-is_name.ensures)
    c.if-is_name.true

pub returns-else-is_name : goal.returns-else-is_name
returns-else-is_name c =
    set_unbuilt c.args.command.now _ _ c.is_name.result c.in-Set.is
    (subst (λ (bytes : List ℕ). IsTrue c.is_name.result ↔ IsName bytes) c.as_slice.ensures c.is_name.ensures) c.if-is_name.false

pub returns-in-Get : goal.returns-in-Get
returns-in-Get c =
    get_built c.args.command.now _ c.is_name-in-Get.result c.in-Get.is
    (subst (λ (bytes : List ℕ). IsTrue c.is_name-in-Get.result ↔ IsName bytes) c.as_slice-in-Get.ensures c.is_name-in-Get.ensures)
