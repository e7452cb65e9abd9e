use Rattle.std.proofs.Common.{◌≡◌, ◌<◌, ℤ, length, map, ap, sym, subst, ◌∙◌, rules, arith, w64, to_z, of_z}
use Rattle.std.proofs.lemmas.Int.{to_z-of_z}
use Rattle.std.proofs.lemmas.List.{length-map}
use Rattle.kq_run_row_operators.specs.kq_eval_row.Val.{surroundings}
use Rattle.kq_run_row_operators.specs.Operators.{rowwise_of}
use Rattle.kq_run_row_operators.specs.Pieces.{ran_in, rows_in}
use Rattle.kq_run_row_operators.specs.Ran.{came, failed, ran}
use Rattle.kq_run_row_operators.proofs.Laws.{ran_failed}
use Rattle.kq_run_scan.specs.Flowing.{IsLeastToFail}
use Rattle.kq_run_scan.specs.Sources.{source_rows}
use Rattle.kq_run_scan.proofs.Flown.{part_came, part_failed}
use Rattle.kq_run_scan.proofs.flow.next_of.Goals as goal

pub least_of_rest-requires : goal.least_of_rest-requires
least_of_rest-requires c =
    let os = map rowwise_of c.args.operators.now in
    let s = surroundings (to_z w64 (of_z w64 c.args.now)) c.args.lets.now in
    let below : c.in-Failed.n < length os =
    ran_failed os s (rows_in source_rows c.args.part) c.in-Failed.n (sym c.in_ok-piece.ensures ∙ ap (ran_in source_rows) c.in-Failed.is) in
    omega (arith, below, length-map c.args.operators.now rowwise_of)

pub returns-in-Rows : goal.returns-in-Rows
returns-in-Rows c all read =
    let same : to_z w64 (of_z w64 c.args.now) ≡ c.args.now = search (rules, to_z-of_z) in
    let part = rows_in source_rows c.args.part in
    let out = rows_in source_rows c.in-Rows.piece in
    let os = map rowwise_of c.args.operators.now in
    let s = λ (z : ℤ). surroundings z c.args.lets.now in
    let is : came out ≡ ran os (s c.args.now) part = ap (ran_in source_rows) (sym c.in-Rows.is) ∙ c.in_ok-piece.ensures ∙ (λ t. ran os (s (same t)) part) in
    part_came os (s c.args.now) all c.args.unread.now part out read is

pub returns-in_ok-least-in-Failed : goal.returns-in_ok-least-in-Failed
returns-in_ok-least-in-Failed c all read =
    let same : to_z w64 (of_z w64 c.args.now) ≡ c.args.now = search (rules, to_z-of_z) in
    let part = rows_in source_rows c.args.part in
    let os = map rowwise_of c.args.operators.now in
    let s = λ (z : ℤ). surroundings z c.args.lets.now in
    let is : failed c.in-Failed.n ≡ ran os (s c.args.now) part = ap (ran_in source_rows) (sym c.in-Failed.is) ∙ c.in_ok-piece.ensures ∙ (λ t. ran os (s (same t)) part) in
    let rest = subst (λ (z : ℤ). IsLeastToFail c.in-Failed.n os (s z) c.args.unread.now.rows c.in_ok-least-in-Failed.least) same c.in_ok-least-in-Failed.ensures in
    part_failed os (s c.args.now) all c.args.unread.now part c.in-Failed.n c.in_ok-least-in-Failed.least read is rest
