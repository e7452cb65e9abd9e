-- An overflow is one of a part, and the other way round.
use Rattle.std.proofs.Common.{subst}
use Rattle.kq_run_gather.specs.Grouping.{Summarized}
use Rattle.kq_run_laws.proofs.Summaries.{overflow_from, overflow_to}
use Rattle.kq_run_laws.proofs.laws.summaries_overflow_where_a_part_does.Goals as goal

pub returns : goal.returns
returns c es gs cs s rows came given =
    (λ lost. overflow_from es gs cs s rows (subst (Summarized es gs cs s rows) lost given), λ over. overflow_to es gs cs s rows came over given)
