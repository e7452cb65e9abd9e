use Rattle.std.proofs.Common.{◌≡◌, ◌≤◌, [], List, length, get_or, subst, sym, ◌∙◌, arith}
use Rattle.std.proofs.lemmas.Option.{get_or_from_slice_get}
use Rattle.kq_run_row_operators.specs.kq_eval_pieces.Operators.{Row}
use Rattle.kq_run_scan.specs.Held.{sources_in}
use Rattle.kq_run_scan.specs.Sources.{source_rows}
use Rattle.kq_run_scan.proofs.Sought.{ended, passed}
use Rattle.kq_run_scan.proofs.place.Place.seek.Goals as goal

pub loop-source-preserved : goal.loop-source-preserved
loop-source-preserved c =
    let sources = sources_in c.args.self.now in
    let rows = source_rows c.source.result in
    let is : get_or sources c.loop-source.source [] ≡ rows = get_or_from_slice_get sources c.loop-source.source rows [] c.source.ensures in
    let past : length rows ≤ c.loop-source.row = omega (arith, c.len.ensures.count, c.if-row-len.false) in
    c.loop-source.invariant ∙ passed sources c.loop-source.source c.loop-source.row (subst (λ (rs : List Row). length rs ≤ c.loop-source.row) (sym is) past)

pub returns-clause-none : goal.returns-clause-none
returns-clause-none c =
    let past : length (sources_in c.args.self.now) ≤ c.loop-source.source = omega (arith, c.len-source-end.ensures, c.loop-source-test.false) in
    c.loop-source.invariant ∙ ended (sources_in c.args.self.now) c.loop-source.source c.loop-source.row past
