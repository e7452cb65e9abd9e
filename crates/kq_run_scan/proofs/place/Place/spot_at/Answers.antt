use Rattle.std.proofs.Common.{◌≡◌, ◌≤◌, ◌-◌, ◌+◌, [], List, ap, drop, length, get_or, subst, sym, ◌∙◌, arith}
use Rattle.std.proofs.lemmas.Option.{get_or_from_slice_get}
use Rattle.kq_run_row_operators.specs.kq_eval_pieces.Operators.{Row}
use Rattle.kq_run_scan.specs.Held.{sources_in}
use Rattle.kq_run_scan.specs.Sources.{source_rows}
use Rattle.kq_run_scan.proofs.Sought.{all_among, found, further, none_further}
use Rattle.kq_run_scan.proofs.place.Place.spot_at.Goals as goal

pub loop-source-init : goal.loop-source-init
loop-source-init c = ap (λ (rs : List Row). drop c.args.number rs) (all_among c.args.self.now)

pub returns-then-row-len : goal.returns-then-row-len
returns-then-row-len c =
    let sources = sources_in c.args.self.now in
    let at = c.loop-source.source in
    let rows = source_rows c.source.result in
    let is : get_or sources at [] ≡ rows = get_or_from_slice_get sources at rows [] c.source.ensures in
    let within : c.loop-source.row ≤ length rows = omega (arith, c.len-len.ensures.count, c.if-row-len.true) in
    sym (c.loop-source.invariant ∙ found sources at c.loop-source.row (subst (λ (rs : List Row). c.loop-source.row ≤ length rs) (sym is) within))

pub loop-source-preserved : goal.loop-source-preserved
loop-source-preserved c =
    let sources = sources_in c.args.self.now in
    let at = c.loop-source.source in
    let rows = source_rows c.source.result in
    let row = c.loop-source.row in
    let is : get_or sources at [] ≡ rows = get_or_from_slice_get sources at rows [] c.source.ensures in
    let long : row ≡ length rows + (row - c.len-len.result) = omega (arith, c.len-len.ensures.count, c.if-row-len.false) in
    c.loop-source.invariant ∙ further sources at row (row - c.len-len.result) (subst (λ (rs : List Row). row ≡ length rs + (row - c.len-len.result)) (sym is) long)

pub returns : goal.returns
returns c =
    let sources = sources_in c.args.self.now in
    let past : length sources ≤ c.loop-source.source = omega (arith, c.len-source-end.ensures, c.loop-source-test.false) in
    let end : length sources ≤ c.len.result = omega (arith, c.len.ensures) in
    sym (c.loop-source.invariant ∙ none_further sources c.loop-source.source c.len.result c.loop-source.row past end)
