-- The two say the same.
use Rattle.kq_run_laws.proofs.Summaries.{summary_from, summary_to}
use Rattle.kq_run_laws.proofs.laws.summaries_have_a_row_for_each_key.Goals as goal

pub returns : goal.returns
returns c es gs cs s rows made = (summary_from es gs cs s rows made, summary_to es gs cs s rows made)
