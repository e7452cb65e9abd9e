use Rattle.kq_value_time.proofs.DateLemmas.{has_date}
use Rattle.kq_value_time.proofs.day.date_of.Goals as goal

pub returns : goal.returns
returns c = has_date c.from_days_since_min.result c.args.day c.requires c.from_days_since_min.ensures
