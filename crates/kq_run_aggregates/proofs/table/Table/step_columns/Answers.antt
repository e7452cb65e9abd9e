use Rattle.std.proofs.Common.{◌≡◌, ◌∙◌, ℕ, List, length, map, take, subst, arith}
use Rattle.std.specs.List.{range_with_len}
use Rattle.std.proofs.lemmas.List.{length-map, take_all}
use Rattle.std.proofs.lemmas.List.FromFn.{length-range_with_len}
use Rattle.kq_value.specs.declared.value.Value.{Value}
use Rattle.kq_store_column_view.specs.Vectors.{cells_of}
use Rattle.kq_run_aggregates.specs.Across.{across, rows_across}
use Rattle.kq_run_aggregates.specs.Steps.{TakesIn}
use Rattle.kq_run_aggregates.specs.Tables.{kept_of, kind_of}
use Rattle.kq_run_aggregates.proofs.Batches.{TakesIn-across}
use Rattle.kq_run_aggregates.proofs.table.Table.step_columns.Goals as goal

pub loop-i-preserved : goal.loop-i-preserved
loop-i-preserved c = record {
  kind = c.step_across.ensures.kind ∙ c.loop-i.invariant.kind;
  taken = TakesIn-across _ _ c.args.groups.now (map cells_of c.args.columns.now) c.loop-i.i _ _ _ c.loop-i.invariant.kind c.loop-i-test.true c.in_ok-step_across.ensures.ok c.loop-i.invariant.taken;
}

pub returns-clause-ok : goal.returns-clause-ok
returns-clause-ok c =
    let i = c.loop-i.i in
    let groups = c.args.groups.now in
    let n = length groups in
    let columns = map cells_of c.args.columns.now in
    let rows = rows_across n columns in
    let long : length rows ≡ n = length-map (range_with_len 0 n) (across columns) ∙ length-range_with_len 0 n in
    let k = kind_of c.args.self.now in
    let olds = kept_of c.args.self.now in
    let news = kept_of c.loop-i.self in
    subst (λ (rs : List (List Value)). TakesIn k groups rs olds news) (take_all i rows (omega (arith, long, c.loop-i-test.false)))
    (subst (λ (hs : List ℕ). TakesIn k hs (take i rows) olds news) (take_all i groups (omega (arith, c.loop-i-test.false))) c.loop-i.invariant.taken)
