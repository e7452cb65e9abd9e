use Rattle.std.proofs.Common.{◌≡◌, ◌≤◌, ◌-◌, ◌++◌, List, length, take, drop, ap, sym, subst, ◌∙◌, arith, add-one}
use Rattle.std.proofs.lemmas.List.{take_all}
use Rattle.kq_store_rows.specs.Chunks.{same_width}
use Rattle.kq_run_row_operators.specs.kq_eval_pieces.Operators.{Row}
use Rattle.kq_run_scan.specs.Held.{rows_in, sources_in}
use Rattle.kq_run_scan.specs.Sources.{source_rows}
use Rattle.kq_run_scan.specs.Unread.{rows_among}
use Rattle.kq_run_scan.proofs.Firsts.{take_both, take_enough}
use Rattle.kq_run_scan.proofs.Sought.{all_among}
use Rattle.kq_run_scan.proofs.Walks.{among_next, among_split}
use Rattle.kq_run_scan.proofs.Widths.{first_even}
use Rattle.kq_run_scan.proofs.first.first_copies.Goals as goal

pub add_first-requires : goal.add_first-requires
add_first-requires c =
    let place = c.args.place.now in
    first_even (sources_in place) c.loop-at.at (source_rows c.source.result) c.args.count c.loop-at.few c.source.ensures (subst (λ (rs : List Row). same_width rs) (all_among place) c.requires) c.loop-at.invariant

pub loop-at-preserved : goal.loop-at-preserved
loop-at-preserved c =
    let sources = sources_in c.args.place.now in
    let at = c.loop-at.at in
    let rows = source_rows c.source.result in
    let count = c.args.count in
    let before = rows_among (take at sources) in
    let few = ap length c.loop-at.invariant in
    let left = c.saturating_sub-left.result in
    let is : left ≡ count - length (take count before) = omega (arith, few, c.saturating_sub-left.ensures) in
    rw add-one
    (c.in_ok-add_first.ensures ∙ (λ t. c.loop-at.invariant t ++ take left rows) ∙ take_both before rows count left is
    ∙ ap (λ (rs : List Row). take count rs) (sym (among_next sources at rows c.source.ensures)))

pub returns-then-left-eq0 : goal.returns-then-left-eq0
returns-then-left-eq0 c =
    let place = c.args.place.now in
    let sources = sources_in place in
    let before = rows_among (take c.loop-at.at sources) in
    let count = c.args.count in
    let few = ap length c.loop-at.invariant in
    let enough : count ≤ length (take count before) = omega (arith, few, c.saturating_sub-left.ensures) in
    c.loop-at.invariant ∙ take_enough (rows_in place) before (rows_among (drop c.loop-at.at sources)) count (all_among place ∙ among_split sources c.loop-at.at) enough

pub returns : goal.returns
returns c =
    let place = c.args.place.now in
    let sources = sources_in place in
    let past : length sources ≤ c.loop-at.at = omega arith in
    c.loop-at.invariant ∙ ap (λ (rs : List Row). take c.args.count rs) (ap rows_among (take_all c.loop-at.at sources past) ∙ sym (all_among place))
