use Rattle.std.proofs.Common.{All, ◌∙◌, ◌<◌, ◌≤◌, List, Some, None, length, ap, sym, subst, refl, rules}
use Rattle.std.proofs.lemmas.Result.{err_from_is_err_and}
use Rattle.kq_catalog_journal.specs.declared.batch.Batch.{Batch}
use Rattle.kq_catalog_journal.specs.declared.policy.Due.{Due}
use Rattle.kq_catalog_journal.specs.Force.{IsStanding}
use Rattle.kq_catalog_journal.proofs.Passed.{enabled-standing}
use Rattle.kq_policy_cascade.specs.Runs.{FailsWhole, RunsDue}
use Rattle.kq_policy_cascade.specs.Steps.{begun, state_of, Settles}
use Rattle.kq_policy_cascade.proofs.Cascading.{IsUnderWay, IsUnderWay-begun, ready, ran, refused, too_many_asked, whole}
use Rattle.kq_policy_cascade.proofs.running.cascade.Goals as goal

pub loop-due-init : goal.loop-due-init
loop-due-init g c =
    let r = g.T.Tables.rules c.args.tables.now in
    let q = g.T.Tables.gives c.args.tables.now in
    let own : Batch = record { table = c.args.table; rows = c.args.rows; tags = c.args.tags } in
    let dues = c.dues-dues.result.now in
    let s = state_of c.in_ok-progress.progress in
    let way = IsUnderWay-begun c.args.limit r q dues own s c.dues-dues.ensures c.requires (c.in_ok-progress.ensures ∙ ap begun c.new.ensures) in
    subst (λ (asked : List Due). IsUnderWay c.args.limit r q dues own asked s) (sym c.new-asked.ensures.items) way

pub returns-then-len-limit-clause-refused : goal.returns-then-len-limit-clause-refused
returns-then-len-limit-clause-refused g c =
    let r = g.T.Tables.rules c.args.tables.now in
    let q = g.T.Tables.gives c.args.tables.now in
    let own : Batch = record { table = c.args.table; rows = c.args.rows; tags = c.args.tags } in
    let dues = c.dues-dues.result.now in
    let s = state_of c.loop-due.progress in
    let t = state_of c.next.new.self in
    let asked = c.loop-due.asked.items in
    let settles : Settles dues s.batches s.top s.below (Some c.in-Some.due) t.top t.below = c.in-Some.ensures.next in
    let full : c.args.limit ≤ length asked = search rules in
    too_many_asked c.args.limit r q dues own asked s t c.in-Some.due c.loop-due.invariant (settles, c.in-Some.ensures.batches, c.in-Some.ensures.failures) full

pub run-requires : goal.run-requires
run-requires g c =
    let r = g.T.Tables.rules c.args.tables.now in
    let q = g.T.Tables.gives c.args.tables.now in
    let own : Batch = record { table = c.args.table; rows = c.args.rows; tags = c.args.tags } in
    let dues = c.dues-dues.result.now in
    let s = state_of c.loop-due.progress in
    let t = state_of c.next.new.self in
    let asked = c.loop-due.asked.items in
    let settles : Settles dues s.batches s.top s.below (Some c.in-Some.due) t.top t.below = c.in-Some.ensures.next in
    let standing : All (IsStanding r.policies) dues = subst (All (IsStanding r.policies)) (sym c.dues-dues.ensures) (enabled-standing r.policies) in
    let is_ready = ready c.args.limit r q dues own asked s t c.in-Some.due standing c.loop-due.invariant (settles, c.in-Some.ensures.batches, c.in-Some.ensures.failures) in
    record { ready = is_ready }

pub loop-due-preserved : goal.loop-due-preserved
loop-due-preserved g c =
    let r = g.T.Tables.rules c.args.tables.now in
    let q = g.T.Tables.gives c.args.tables.now in
    let own : Batch = record { table = c.args.table; rows = c.args.rows; tags = c.args.tags } in
    let dues = c.dues-dues.result.now in
    let s = state_of c.loop-due.progress in
    let t = state_of c.next.new.self in
    let u = state_of c.run.new.progress in
    let asked = c.loop-due.asked.items in
    let settles : Settles dues s.batches s.top s.below (Some c.in-Some.due) t.top t.below = c.in-Some.ensures.next in
    let room : length asked < c.args.limit = search rules in
    let standing : All (IsStanding r.policies) dues = subst (All (IsStanding r.policies)) (sym c.dues-dues.ensures) (enabled-standing r.policies) in
    let runs : RunsDue r q dues c.in-Some.due t u = c.in_ok-run.ensures.ok in
    ran c.args.limit r q dues own asked c.push.new.self.items s t u c.in-Some.due c.dues-dues.ensures standing c.loop-due.invariant (settles, c.in-Some.ensures.batches, c.in-Some.ensures.failures) room c.in_ok-push.ensures.items runs

pub returns-in_err-run-clause-refused : goal.returns-in_err-run-clause-refused
returns-in_err-run-clause-refused g c =
    let r = g.T.Tables.rules c.args.tables.now in
    let q = g.T.Tables.gives c.args.tables.now in
    let own : Batch = record { table = c.args.table; rows = c.args.rows; tags = c.args.tags } in
    let dues = c.dues-dues.result.now in
    let s = state_of c.loop-due.progress in
    let t = state_of c.next.new.self in
    let asked = c.loop-due.asked.items in
    let settles : Settles dues s.batches s.top s.below (Some c.in-Some.due) t.top t.below = c.in-Some.ensures.next in
    let room : length asked < c.args.limit = search rules in
    let fails : FailsWhole q dues c.in-Some.due t c.in_err-run.field-0.0 = c.in_err-run.ensures.err in
    let told = err_from_is_err_and c.from_residual-in_err-run.result c.from_residual-in_err-run.ensures.1 in
    rw (told.1, told.2) (refused c.args.limit r q dues own asked s t c.in-Some.due c.in_err-run.field-0.0 c.loop-due.invariant (settles, c.in-Some.ensures.batches, c.in-Some.ensures.failures) room fails)

pub returns-clause-made : goal.returns-clause-made
returns-clause-made g c =
    let r = g.T.Tables.rules c.args.tables.now in
    let q = g.T.Tables.gives c.args.tables.now in
    let own : Batch = record { table = c.args.table; rows = c.args.rows; tags = c.args.tags } in
    let dues = c.dues-dues.result.now in
    let s = state_of c.loop-due.progress in
    let t = state_of c.next.new.self in
    let settles : Settles dues s.batches s.top s.below None t.top t.below = c.in_default.ensures.next in
    whole c.args.limit r q dues own c.loop-due.asked.items s t _ c.loop-due.invariant (settles, c.in_default.ensures.batches, c.in_default.ensures.failures) c.in_ok-batches.ensures.0 c.in_ok-batches.ensures.1 refl
