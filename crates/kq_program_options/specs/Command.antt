-- The command line as `clap` is told of it.
use Rattle.std.specs.Prelude.{List, [], codes, Option, Some, true, unwrap_or}
use Rattle.clap.specs.Words.{App, Row, Rule, Text, all_of, new_app, new_rule, with_rule}
use Rattle.clap.specs.Simple.{on_top}
use Rattle.clap.specs.declared.builder.action.ArgAction.TheVariants.{Set, Append}
use Rattle.kq_program_options.specs.Words.{Asked, all_asked, number_given, feeds_given}

abbrev pub workers_rule : Rule
workers_rule = record (new_rule (codes "workers")) { long = Some (codes "workers"); action = Some Set }

abbrev pub generate_rule : Rule
generate_rule = record (new_rule (codes "generate")) { long = Some (codes "generate"); action = Some Set }

abbrev pub feeds_rule : Rule
feeds_rule = record (new_rule (codes "feeds")) { action = Some Append }

abbrev pub plain_app : App
plain_app = on_top (λ s. record s { no_binary_name = true; disable_help_flag = true; disable_version_flag = true }) (new_app (codes "kq_console"))

abbrev pub console_app : App
console_app = with_rule (with_rule (with_rule plain_app workers_rule) generate_rule) feeds_rule

-- the values that an argument was given
abbrev pub given_to : Text → List Row → List Text
given_to id rows = unwrap_or (all_of id rows) []

-- what the values ask for
abbrev pub asked_in : List Row → Option Asked
asked_in rows = all_asked (number_given 0 8 (given_to (codes "workers") rows)) (number_given 1 1000000 (given_to (codes "generate") rows)) (feeds_given (given_to (codes "feeds") rows))
