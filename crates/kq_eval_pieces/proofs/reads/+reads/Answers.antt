use Rattle.std.proofs.Common.{◌++◌, append_assoc, ap, map, sym, ◌∙◌}
use Rattle.std.specs.List.{concat}
use Rattle.kq_plan_expressions.specs.Terms.{mapped}
use Rattle.kq_eval_pieces.specs.Pieces.{columns_read, reads_link}
use Rattle.kq_eval_pieces.proofs.Chains.{reads_of_chain}
use Rattle.kq_eval_pieces.proofs.reads.+reads.Goals as goal

-- the columns of the first stand before those of the operands
pub push_columns-returns-in_ok-push_operands-in-Chain : goal.push_columns-returns-in_ok-push_operands-in-Chain
push_columns-returns-in_ok-push_operands-in-Chain t c =
    let before = c.args.columns.now.items in
    let rest = concat (map reads_link (map (mapped columns_read) c.in-Chain.links.items)) in
    let first = ap (λ e. columns_read e ++ rest) c.deref.ensures in
    let reads = sym (reads_of_chain c.in-Chain.first c.in-Chain.links) ∙ ap columns_read (sym c.in-Chain.is) in
    c.in_ok-push_operands-in-Chain.ensures ∙ ap (λ js. js ++ rest) c.in_ok-push_columns-in-Chain.ensures
    ∙ append_assoc before (columns_read c.deref.result.now) rest ∙ ap (λ js. before ++ js) (first ∙ reads)
