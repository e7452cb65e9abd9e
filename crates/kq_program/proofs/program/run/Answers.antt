use Rattle.std.proofs.Common.{map, string_bytes}
use Rattle.kq_program_options.specs.Words.{as_asked}
use Rattle.kq_program.proofs.Asking.{asked-feeds, asked-rows, asked-workers}
use Rattle.kq_program.proofs.Completing.{CompletesRun-runs}
use Rattle.kq_program.proofs.program.run.Goals as goal

pub run_sessions-requires-clause-different : goal.run_sessions-requires-clause-different
run_sessions-requires-clause-different g c κs within = (asked-feeds (map string_bytes c.args.words.now) (as_asked c.in-Ok.options) c.in-Ok.ensures.ok).distinct

pub run_sessions-requires-clause-few : goal.run_sessions-requires-clause-few
run_sessions-requires-clause-few g c κs within = (asked-feeds (map string_bytes c.args.words.now) (as_asked c.in-Ok.options) c.in-Ok.ensures.ok).few

pub run_sessions-requires-clause-few_workers : goal.run_sessions-requires-clause-few_workers
run_sessions-requires-clause-few_workers g c κs within = asked-workers (map string_bytes c.args.words.now) (as_asked c.in-Ok.options) c.in-Ok.ensures.ok

pub returns-in-Ok-clause-complete : goal.returns-in-Ok-clause-complete
returns-in-Ok-clause-complete g c =
    let few = asked-rows (map string_bytes c.args.words.now) (as_asked c.in-Ok.options) c.in-Ok.ensures.ok in
    CompletesRun-runs _ _ _ _ _ c.run_sessions.result (rw c.in-Ok.ensures.ok few) (λ e. absurd (c.run_sessions.ensures.status e)) (λ e. (c.run_sessions.ensures.opens.failed e).1) (rw c.in-Ok.ensures.ok c.run_sessions.ensures.run)
