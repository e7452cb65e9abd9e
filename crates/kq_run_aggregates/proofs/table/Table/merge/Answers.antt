use Rattle.kq_run_aggregates.specs.Holds.{counted, summed, extreme, chosen, collected}
use Rattle.kq_run_aggregates.specs.Steps.{Joins, MayRefuseBoth}
use Rattle.kq_run_aggregates.specs.Tables.{side_kind, choice_kind}
use Rattle.kq_run_aggregates.specs.declared.kind.Kind.TheVariants as kind
use Rattle.kq_run_aggregates.proofs.Changes.{ChangesAt-ok, Unchanged-err, kept_at-map}
use Rattle.kq_run_aggregates.proofs.StepLemmas.{Joins-count, Joins-sum, Joins-extreme, Joins-chosen, Joins-set}
use Rattle.kq_run_aggregates.proofs.table.Table.merge.Goals as goal
use Rattle.kq_run_aggregates.proofs.table.Table.merge.Goals.{in-Counts-Counts, in-Sums-Sums, in-Extremes-Extremes, in-Chosen-Chosen, in-Sets-Sets}

pub returns-clause-ok : goal.returns-clause-ok
returns-clause-ok c = elim c.match-self.branch [
  | in-Counts-Counts w ↦
      let within = rw w.in-Counts-Counts.is-0 at c.requires.within in
      let from = rw w.in-Counts-Counts.is-1 at c.requires.from in
      let other = kept_at-map counted w.in-Counts-Counts.others.items c.args.from _ from w.index.ensures in
      rw (w.result-is, w.self-is, w.in-Counts-Counts.is-0, w.in-Counts-Counts.is-1, other)
      (ChangesAt-ok counted (Joins kind.Count (counted w.index.result.now)) w.in-Counts-Counts.counts.items c.args.group _ _ w.merge.result within w.index_mut.ensures.value w.merge.ensures.ok
      (λ e. rw e (Joins-count _ _)))
  | in-Sums-Sums w ↦
      let within = rw w.in-Sums-Sums.is-0 at c.requires.within in
      let from = rw w.in-Sums-Sums.is-1 at c.requires.from in
      let other = kept_at-map summed w.in-Sums-Sums.others.items c.args.from _ from w.index-in-Sums-Sums.ensures in
      rw (w.result-is, w.self-is, w.in-Sums-Sums.is-0, w.in-Sums-Sums.is-1, other)
      (ChangesAt-ok summed (Joins kind.Sum (summed w.index-in-Sums-Sums.result.now)) w.in-Sums-Sums.sums.items c.args.group _ _ w.merge-in-Sums-Sums.result within w.index_mut-in-Sums-Sums.ensures.value w.merge-in-Sums-Sums.ensures.ok
      (λ e. rw e (Joins-sum _ _)))
  | in-Extremes-Extremes w ↦
      let within = rw w.in-Extremes-Extremes.is-0 at c.requires.within in
      let from = rw w.in-Extremes-Extremes.is-1 at c.requires.from in
      let other = kept_at-map extreme w.in-Extremes-Extremes.others.items c.args.from _ from w.index-in-Extremes-Extremes.ensures in
      rw (w.result-is, w.self-is, w.in-Extremes-Extremes.is-0, w.in-Extremes-Extremes.is-1, other)
      (ChangesAt-ok extreme (Joins (side_kind w.in-Extremes-Extremes.side) (extreme w.index-in-Extremes-Extremes.result.now)) w.in-Extremes-Extremes.values.items c.args.group _ _ w.merge_value.result within w.index_mut-in-Extremes-Extremes.ensures.value w.merge_value.ensures.ok
      (λ e. rw e (Joins-extreme w.in-Extremes-Extremes.side _ _)))
  | in-Chosen-Chosen w ↦
      let within = rw w.in-Chosen-Chosen.is-0 at c.requires.within in
      let from = rw w.in-Chosen-Chosen.is-1 at c.requires.from in
      let other = kept_at-map chosen w.in-Chosen-Chosen.others.items c.args.from _ from w.index-in-Chosen-Chosen.ensures in
      rw (w.result-is, w.self-is, w.in-Chosen-Chosen.is-0, w.in-Chosen-Chosen.is-1, other)
      (ChangesAt-ok chosen (Joins (choice_kind w.in-Chosen-Chosen.choice) (chosen w.index-in-Chosen-Chosen.result.now)) w.in-Chosen-Chosen.rows.items c.args.group _ _ w.merge_row.result within w.index_mut-in-Chosen-Chosen.ensures.value w.merge_row.ensures.ok
      (λ e. rw e (Joins-chosen w.in-Chosen-Chosen.choice _ _)))
  | in-Sets-Sets w ↦
      let within = rw w.in-Sets-Sets.is-0 at c.requires.within in
      let from = rw w.in-Sets-Sets.is-1 at c.requires.from in
      let other = kept_at-map collected w.in-Sets-Sets.others.items c.args.from _ from w.index-in-Sets-Sets.ensures in
      rw (w.result-is, w.self-is, w.in-Sets-Sets.is-0, w.in-Sets-Sets.is-1, other)
      (ChangesAt-ok collected (Joins (kind.MakeSet w.in-Sets-Sets.most) (collected w.index-in-Sets-Sets.result.now)) w.in-Sets-Sets.sets.items c.args.group _ _ w.merge-in-Sets-Sets.result within w.index_mut-in-Sets-Sets.ensures.value w.merge-in-Sets-Sets.ensures.ok
      (λ u. Joins-set w.in-Sets-Sets.most _ _ _ u))
]

pub returns-clause-err : goal.returns-clause-err
returns-clause-err c = elim c.match-self.branch [
  | in-Counts-Counts w ↦
      let within = rw w.in-Counts-Counts.is-0 at c.requires.within in
      let from = rw w.in-Counts-Counts.is-1 at c.requires.from in
      let other = kept_at-map counted w.in-Counts-Counts.others.items c.args.from _ from w.index.ensures in
      rw (w.result-is, w.self-is, w.in-Counts-Counts.is-0, w.in-Counts-Counts.is-1, other)
      (Unchanged-err counted (λ k. MayRefuseBoth k (counted w.index.result.now)) w.in-Counts-Counts.counts.items c.args.group _ _ w.merge.result within w.index_mut.ensures.value w.merge.ensures.err
      (λ e. e))
  | in-Sums-Sums w ↦
      let within = rw w.in-Sums-Sums.is-0 at c.requires.within in
      let from = rw w.in-Sums-Sums.is-1 at c.requires.from in
      let other = kept_at-map summed w.in-Sums-Sums.others.items c.args.from _ from w.index-in-Sums-Sums.ensures in
      rw (w.result-is, w.self-is, w.in-Sums-Sums.is-0, w.in-Sums-Sums.is-1, other)
      (Unchanged-err summed (λ k. MayRefuseBoth k (summed w.index-in-Sums-Sums.result.now)) w.in-Sums-Sums.sums.items c.args.group _ _ w.merge-in-Sums-Sums.result within w.index_mut-in-Sums-Sums.ensures.value w.merge-in-Sums-Sums.ensures.err
      (λ e. e))
  | in-Extremes-Extremes w ↦
      let within = rw w.in-Extremes-Extremes.is-0 at c.requires.within in
      let from = rw w.in-Extremes-Extremes.is-1 at c.requires.from in
      let other = kept_at-map extreme w.in-Extremes-Extremes.others.items c.args.from _ from w.index-in-Extremes-Extremes.ensures in
      rw (w.result-is, w.self-is, w.in-Extremes-Extremes.is-0, w.in-Extremes-Extremes.is-1, other)
      (Unchanged-err extreme (λ k. MayRefuseBoth k (extreme w.index-in-Extremes-Extremes.result.now)) w.in-Extremes-Extremes.values.items c.args.group _ _ w.merge_value.result within w.index_mut-in-Extremes-Extremes.ensures.value w.merge_value.ensures.err
      (λ e. (e, tt)))
  | in-Chosen-Chosen w ↦
      let within = rw w.in-Chosen-Chosen.is-0 at c.requires.within in
      let from = rw w.in-Chosen-Chosen.is-1 at c.requires.from in
      let other = kept_at-map chosen w.in-Chosen-Chosen.others.items c.args.from _ from w.index-in-Chosen-Chosen.ensures in
      rw (w.result-is, w.self-is, w.in-Chosen-Chosen.is-0, w.in-Chosen-Chosen.is-1, other)
      (Unchanged-err chosen (λ k. MayRefuseBoth k (chosen w.index-in-Chosen-Chosen.result.now)) w.in-Chosen-Chosen.rows.items c.args.group _ _ w.merge_row.result within w.index_mut-in-Chosen-Chosen.ensures.value w.merge_row.ensures.err
      (λ e. (e, tt)))
  | in-Sets-Sets w ↦
      let within = rw w.in-Sets-Sets.is-0 at c.requires.within in
      let from = rw w.in-Sets-Sets.is-1 at c.requires.from in
      let other = kept_at-map collected w.in-Sets-Sets.others.items c.args.from _ from w.index-in-Sets-Sets.ensures in
      rw (w.result-is, w.self-is, w.in-Sets-Sets.is-0, w.in-Sets-Sets.is-1, other)
      (Unchanged-err collected (λ k. MayRefuseBoth k (collected w.index-in-Sets-Sets.result.now)) w.in-Sets-Sets.sets.items c.args.group _ _ w.merge-in-Sets-Sets.result within w.index_mut-in-Sets-Sets.ensures.value w.merge-in-Sets-Sets.ensures.err
      (λ e. (e, tt)))
]
