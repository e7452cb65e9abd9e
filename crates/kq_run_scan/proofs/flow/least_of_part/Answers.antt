use Rattle.std.proofs.Common.{◌≡◌, ℤ, map, take, ap, sym, ◌∙◌, rules, arith, w64, to_z, of_z}
use Rattle.std.proofs.lemmas.Int.{to_z-of_z}
use Rattle.std.proofs.lemmas.List.{take-map}
use Rattle.kq_run_row_operators.specs.kq_eval_row.Val.{surroundings}
use Rattle.kq_run_row_operators.specs.Operators.{rowwise_of}
use Rattle.kq_run_row_operators.specs.Pieces.{ran_in, rows_in}
use Rattle.kq_run_row_operators.specs.Ran.{came, failed, ran}
use Rattle.kq_run_scan.specs.Sources.{source_rows}
use Rattle.kq_run_scan.proofs.Flown.{least_came, least_failed, less}
use Rattle.kq_run_scan.proofs.flow.least_of_part.Goals as goal

pub returns-in-Rows-clause-least : goal.returns-in-Rows-clause-least
returns-in-Rows-clause-least c =
    let same : to_z w64 (of_z w64 c.args.now) ≡ c.args.now = search (rules, to_z-of_z) in
    let os = map rowwise_of c.args.operators.now in
    let s = λ (z : ℤ). surroundings z c.args.lets.now in
    let part = rows_in source_rows c.args.part in
    let out = rows_in source_rows c.in-Rows._rows in
    let fewer = take-map rowwise_of c.args.first c.args.operators.now in
    let is : came out ≡ ran (take c.args.first os) (s c.args.now) part =
    ap (ran_in source_rows) (sym c.in-Rows.is) ∙ c.in_ok-passed.ensures ∙ (λ t. ran (sym fewer t) (s (same t)) part) in
    least_came os (s c.args.now) c.args.first part out is

pub returns-in-Failed-clause-least : goal.returns-in-Failed-clause-least
returns-in-Failed-clause-least c =
    let same : to_z w64 (of_z w64 c.args.now) ≡ c.args.now = search (rules, to_z-of_z) in
    let os = map rowwise_of c.args.operators.now in
    let s = λ (z : ℤ). surroundings z c.args.lets.now in
    let part = rows_in source_rows c.args.part in
    let fewer = take-map rowwise_of c.args.first c.args.operators.now in
    let is : failed c.in-Failed.n ≡ ran (take c.args.first os) (s c.args.now) part =
    ap (ran_in source_rows) (sym c.in-Failed.is) ∙ c.in_ok-passed.ensures ∙ (λ t. ran (sym fewer t) (s (same t)) part) in
    least_failed os (s c.args.now) c.args.first part c.in-Failed.n is

pub returns-in-Failed-clause-less : goal.returns-in-Failed-clause-less
returns-in-Failed-clause-less c =
    let same : to_z w64 (of_z w64 c.args.now) ≡ c.args.now = search (rules, to_z-of_z) in
    let os = map rowwise_of c.args.operators.now in
    let s = λ (z : ℤ). surroundings z c.args.lets.now in
    let part = rows_in source_rows c.args.part in
    let fewer = take-map rowwise_of c.args.first c.args.operators.now in
    let is : failed c.in-Failed.n ≡ ran (take c.args.first os) (s c.args.now) part =
    ap (ran_in source_rows) (sym c.in-Failed.is) ∙ c.in_ok-passed.ensures ∙ (λ t. ran (sym fewer t) (s (same t)) part) in
    let below = less os (s c.args.now) c.args.first part c.in-Failed.n is in
    omega (arith, below)
