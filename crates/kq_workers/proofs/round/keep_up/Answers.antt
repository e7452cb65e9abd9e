use Rattle.std.proofs.Common.{◌∙◌}
use Rattle.kq_workers.proofs.Going.{HasChores-append, HasChores-carries}
use Rattle.kq_workers.proofs.Looping.{AreKept-round}
use Rattle.kq_workers.proofs.round.keep_up.Goals as goal

pub merge_tables-merged-requires-clause-of : goal.merge_tables-merged-requires-clause-of
merge_tables-merged-requires-clause-of g c =
    let post = c.args.post.now in
    (HasChores-carries post.shared.now.limits post.actor c.args.snapshot.now.history c.args.worker.now c.fold_views-folded.new.worker c.fold_views-folded.ensures.chores).of ∙ c.requires.of

pub returns-then-folded-clause-chores : goal.returns-then-folded-clause-chores
returns-then-folded-clause-chores g c =
    let post = c.args.post.now in
    HasChores-append post.shared.now.limits post.actor c.args.snapshot.now.history c.args.worker.now c.fold_views-folded.new.worker c.merge_tables-merged.new.worker c.fold_views-folded.ensures.chores c.merge_tables-merged.ensures.chores

pub returns-then-folded-clause-kept : goal.returns-then-folded-clause-kept
returns-then-folded-clause-kept g c = λ none.
    let post = c.args.post.now in
    AreKept-round post.shared.now.limits post.actor c.args.snapshot.now.history c.fold_views-folded.new.worker c.merge_tables-merged.new.worker
    c.fold_views-folded.ensures.since c.merge_tables-merged.ensures.chores c.merge_tables-merged.ensures.since c.fold_views-folded.ensures.kept c.merge_tables-merged.ensures.kept none

pub returns-else-folded-clause-chores : goal.returns-else-folded-clause-chores
returns-else-folded-clause-chores g c =
    let post = c.args.post.now in
    HasChores-append post.shared.now.limits post.actor c.args.snapshot.now.history c.args.worker.now c.fold_views-folded.new.worker c.merge_tables-merged.new.worker c.fold_views-folded.ensures.chores c.merge_tables-merged.ensures.chores

pub returns-else-folded-clause-kept : goal.returns-else-folded-clause-kept
returns-else-folded-clause-kept g c = λ none.
    let post = c.args.post.now in
    AreKept-round post.shared.now.limits post.actor c.args.snapshot.now.history c.fold_views-folded.new.worker c.merge_tables-merged.new.worker
    c.fold_views-folded.ensures.since c.merge_tables-merged.ensures.chores c.merge_tables-merged.ensures.since c.fold_views-folded.ensures.kept c.merge_tables-merged.ensures.kept none
