use Rattle.std.proofs.lemmas.Result.{on_ok_weaker}
use Rattle.kq_run_sort.proofs.Leading.{lead_push}
use Rattle.kq_run_sort.proofs.leaders.Leaders.push.Goals as goal

pub returns-clause-lead : goal.returns-clause-lead
returns-clause-lead c = on_ok_weaker c.push_from.result (λ is n k s all lead. lead_push n k s all c.push_from.new.self c.args.row.now.items c.args.self.now lead is) c.push_from.ensures.ok
