use Rattle.std.proofs.Common.{map, string_bytes, sym, ◌∙◌}
use Rattle.clap.proofs.WalkLemmas.{list_any-map}
use Rattle.pebble_cli.specs.Usage.{is_flag}
use Rattle.pebble_cli.proofs.UsageWords.{flag_off_usage}
use Rattle.pebble_cli.proofs.usage.asks_to_run.Goals as goal

pub returns-then-has_flag : goal.returns-then-has_flag
returns-then-has_flag c = sym (flag_off_usage (map string_bytes c.args.words.now) (sym (list_any-map is_flag string_bytes c.args.words.now) ∙ sym c.has_flag.ensures ∙ c.if-has_flag.true))

pub are_taken-requires : goal.are_taken-requires
are_taken-requires c = sym (list_any-map is_flag string_bytes c.args.words.now) ∙ sym c.has_flag.ensures ∙ c.if-has_flag.false
