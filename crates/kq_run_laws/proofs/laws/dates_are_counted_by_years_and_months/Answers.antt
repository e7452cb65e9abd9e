use Rattle.kq_run_laws.proofs.Dates.{valid, days, date}
use Rattle.kq_run_laws.proofs.laws.dates_are_counted_by_years_and_months.Goals as goal

pub returns-clause-valid : goal.returns-clause-valid
returns-clause-valid c d = valid d

pub returns-clause-days : goal.returns-clause-days
returns-clause-days c d low h = days d low h

pub returns-clause-date : goal.returns-clause-date
returns-clause-date c n d = date n d
