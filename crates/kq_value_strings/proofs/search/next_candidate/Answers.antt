use Rattle.std.proofs.Common.{arith}
use Rattle.kq_value_strings.proofs.Places.{candidates-none, candidate-some}
use Rattle.kq_value_strings.proofs.search.next_candidate.Goals as goal

pub returns-in_err-distance : goal.returns-in_err-distance
returns-in_err-distance c =
    let fits = c.requires.fits in
    let inside = c.requires.inside in
    rw c.from_residual.ensures (candidates-none c.args.by c.args.text.now c.args.part.now c.args.at c.args.offset _ (omega arith) _ (omega arith) c.in_err-distance.ensures)

pub returns : goal.returns
returns c =
    let fits = c.requires.fits in
    let inside = c.requires.inside in
    let found = c.in_ok-distance.ensures in
    candidate-some c.args.by c.args.text.now c.args.part.now c.args.at c.args.offset _ (omega arith) _ c.in_ok-distance.distance (omega arith) found.0 found.1
