-- Where memory is wanting that was prepared for.
use Rattle.std.proofs.Common.{ℕ, ℤ, inl, inr}
use Rattle.kq_catalog.specs.Intents.{commit_of}
use Rattle.kq_read_commands.specs.declared.command.Command.{Command}
use Rattle.kq_catalog_journal.specs.declared.limits.Limits.{Limits}
use Rattle.kq_catalog_journal.specs.History.{History}
use Rattle.kq_engine_prepare.specs.declared.found.Found.{Found}
use Rattle.kq_engine_prepare.specs.declared.found.Found.TheVariants as founds
use Rattle.kq_engine_prepare.specs.Found.{IsReady, MayWantMemory, TakesToFinish}
use Rattle.kq_engine.proofs.Bringing.{folding_finds, folding_outside}
use Rattle.kq_engine_prepare.proofs.Wanting.{commit_finds, found_wants, merging_finds, merging_outside}

-- finishing what was found takes memory only where finding it did, or where nothing was found
pub ready_wants : (limits : Limits) (h : History) (place : ℕ) (later : History) (now : ℤ) (command : Command) (found : Found) → IsReady limits h now command found → TakesToFinish place later command found → MayWantMemory h later command
ready_wants limits h place later now command (founds.Says reply) is takes = absurd takes
ready_wants limits h place later now command (founds.Commits offer) is takes = inl (found_wants h command is.0 (commit_finds limits h command (commit_of offer.intent) is.1.due))
ready_wants limits h place later now command (founds.Merges merging) is takes = inl (found_wants h command (merging_outside h command merging is) (merging_finds h command merging is))
ready_wants limits h place later now command (founds.Folds folding) is takes = inl (found_wants h command (folding_outside h command folding is) (folding_finds h command folding is))
ready_wants limits h place later now command founds.Pending is takes = inr takes
