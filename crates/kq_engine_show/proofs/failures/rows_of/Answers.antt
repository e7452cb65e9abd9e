use Rattle.std.proofs.Common.{◌≤◌, ◌+◌, ◌++◌, ℕ, List, length, map, take, ap, ◌∙◌, arith}
use Rattle.std.specs.Arc.{arc_value}
use Rattle.std.proofs.lemmas.List.{take_all, length-map}
use Rattle.kq_value.specs.declared.value.Value.{Value}
use Rattle.kq_catalog_journal.specs.History.{log}
use Rattle.kq_catalog_journal.specs.Policies.{noted}
use Rattle.kq_engine_show.specs.FailureRows.{failure_row}
use Rattle.kq_engine_show.proofs.FailureLemmas.{failure_rows-typed}
use Rattle.kq_engine_show.proofs.Walks.{StandsAt-within, rows-part}
use Rattle.kq_engine_show.proofs.failures.rows_of.Goals as goal

pub add_rows-requires : goal.add_rows-requires
add_rows-requires c =
    let l = log c.args.snapshot.now.history in
    rw c.loop-at.invariant.rows (failure_rows-typed l (take c.loop-at.at (noted l)))

pub overflow_add-at : goal.overflow_add-at
overflow_add-at c =
    let ns = noted (log c.args.snapshot.now.history) in
    let part = map arc_value c.failures_from-part.result.now in
    let within = StandsAt-within ns c.loop-at.at part c.loop-at.invariant.within c.failures_from-part.ensures.items in
    let n = length-map c.failures_from-part.result.now arc_value in
    omega (arith, within, n, c.failure_count-count.ensures)

pub loop-at-preserved : goal.loop-at-preserved
loop-at-preserved c =
    let l = log c.args.snapshot.now.history in
    let ns = noted l in
    let at = c.loop-at.at in
    let part = map arc_value c.failures_from-part.result.now in
    let within = StandsAt-within ns at part c.loop-at.invariant.within c.failures_from-part.ensures.items in
    let n = length-map c.failures_from-part.result.now arc_value in
    record {
      within = omega (arith, within, n);
      rows = c.in_ok-add_rows.ensures ∙ ap (λ (rs : List (List Value)). rs ++ map (failure_row l) part) c.loop-at.invariant.rows
          ∙ rows-part (failure_row l) ns at part c.loop-at.invariant.within c.failures_from-part.ensures.items ∙ ap (λ (k : ℕ). map (failure_row l) (take (at + k) ns)) n;
    }

pub returns : goal.returns
returns c =
    let l = log c.args.snapshot.now.history in
    let ns = noted l in
    let past : length ns ≤ c.loop-at.at = omega (arith, c.loop-at-test.false, c.failure_count-count.ensures) in
    c.loop-at.invariant.rows ∙ ap (map (failure_row l)) (take_all c.loop-at.at ns past)
