-- A command with the three settings.
use Rattle.std.proofs.Common.{◌≡◌, ◌∙◌, ap, true, codes}
use Rattle.clap.specs.declared.builder.command.Command.{Command}
use Rattle.clap.specs.declared.builder.command.Command.TheViews.{out-Command}
use Rattle.clap.specs.declared.builder.command.Command.TheOpen.{Command-F}
use Rattle.clap.specs.Simple.{App, app_of, app_of_fields, new_app, on_top}
use Rattle.kq_program_options.specs.Command.{plain_app}

abbrev helped : Command-F Command → Command-F Command
helped f = record f { disable_help_flag = true }

abbrev versioned : Command-F Command → Command-F Command
versioned f = record f { disable_version_flag = true }

abbrev settled : App → App
settled = on_top (λ s. record s { no_binary_name = true; disable_help_flag = true; disable_version_flag = true })

pub plain : (a b c d : Command) → app_of a ≡ new_app (codes "kq_console") → out-Command b ≡ record (out-Command a) { no_binary_name = true }
    → out-Command c ≡ record (out-Command b) { disable_help_flag = true } → out-Command d ≡ record (out-Command c) { disable_version_flag = true } → app_of d ≡ plain_app
plain a b c d new e f g = ap app_of_fields (g ∙ ap versioned (f ∙ ap helped e)) ∙ ap settled new
