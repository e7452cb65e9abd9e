use Rattle.std.proofs.Common.{◌≡◌, ◌∙◌, ◌-◌, map, rules, arith, w64, to_z, of_z}
use Rattle.std.proofs.lemmas.Int.{to_z-of_z}
use Rattle.std.proofs.lemmas.List.{take_all}
use Rattle.kq_run_row_operators.specs.kq_eval_pieces.Pieces.{piece_of}
use Rattle.kq_run_row_operators.specs.kq_eval_row.Val.{surroundings}
use Rattle.kq_run_row_operators.specs.Operators.{rowwise_of}
use Rattle.kq_run_row_operators.specs.Ran.{ran}
use Rattle.kq_run_scan.proofs.held.Held.flow.Goals as goal

pub returns : goal.returns
returns c =
    let same : to_z w64 (of_z w64 c.args.now) ≡ c.args.now = search (rules, to_z-of_z) in
    let rows = c.args.self.now in
    let all : piece_of rows 0 c.len.result ≡ rows = take_all (c.len.result - 0) rows (omega (arith, c.len.ensures.count)) in
    c.flow_between.ensures.rows ∙ (λ t. ran (map rowwise_of c.args.operators.now) (surroundings (same t) c.args.lets.now) (all t))
