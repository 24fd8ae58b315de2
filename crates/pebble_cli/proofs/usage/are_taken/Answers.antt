use Rattle.std.proofs.Common.{map, string_bytes}
use Rattle.clap.specs.Words.{app_of}
use Rattle.pebble_cli.proofs.UsageWords.{made_app, taken_where, refused_where}
use Rattle.pebble_cli.proofs.usage.are_taken.Goals as goal

pub returns-in-Ok : goal.returns-in-Ok
returns-in-Ok c =
    let made = made_app c.new.result c.no_binary_name.result c.disable_help_flag.result c.disable_help_subcommand.result c.subcommand_required.result c.new-2.result c.in_ok-command.command
    c.new.ensures.app c.no_binary_name.ensures c.disable_help_flag.ensures c.disable_help_subcommand.ensures c.subcommand_required.ensures c.new-2.ensures.app c.new-2.ensures.local c.in_ok-command.ensures in
    taken_where (map string_bytes c.args.words.now) (app_of c.in_ok-command.command) made c.requires c.in-Ok.ensures.kinds

pub returns-in-Err : goal.returns-in-Err
returns-in-Err c =
    let made = made_app c.new.result c.no_binary_name.result c.disable_help_flag.result c.disable_help_subcommand.result c.subcommand_required.result c.new-2.result c.in_ok-command.command
    c.new.ensures.app c.no_binary_name.ensures c.disable_help_flag.ensures c.disable_help_subcommand.ensures c.subcommand_required.ensures c.new-2.ensures.app c.new-2.ensures.local c.in_ok-command.ensures in
    refused_where (map string_bytes c.args.words.now) (app_of c.in_ok-command.command) c.in-Err.error c.is_taken_after.result made c.requires c.in-Err.ensures.kinds c.is_taken_after.ensures
