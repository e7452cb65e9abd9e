use Rattle.std.proofs.Common.{rules, ap₂, ◌≡◌, ◌∙◌}
use Rattle.clap.specs.Words.{rule_of, with_rule}
use Rattle.kq_program_options.specs.Command.{workers_rule, generate_rule, feeds_rule}
use Rattle.kq_program_options.proofs.Plain.{plain}
use Rattle.kq_program_options.proofs.options.command.Goals as goal

pub returns : goal.returns
returns c =
    let workers : rule_of c.action-workers.result ≡ workers_rule = search rules in
    let generate : rule_of c.action-generate.result ≡ generate_rule = search rules in
    let feeds : rule_of c.action-feeds.result ≡ feeds_rule = search rules in
    let base = plain c.new-4.result c.no_binary_name.result c.disable_help_flag.result c.disable_version_flag-command.result c.new-4.ensures.app c.no_binary_name.ensures c.disable_help_flag.ensures c.disable_version_flag-command.ensures in
    c.in_ok-arg-3.ensures.shape (search rules) ∙ ap₂ with_rule (c.in_ok-arg-2.ensures.shape (search rules) ∙ ap₂ with_rule (c.in_ok-arg.ensures.shape (search rules) ∙ ap₂ with_rule base workers) generate) feeds
