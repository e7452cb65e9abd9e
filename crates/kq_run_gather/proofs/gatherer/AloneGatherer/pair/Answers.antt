use Rattle.std.proofs.Common.{◌≡◌, ◌-◌, ℕ, List, IfOk, Vec, Global, arith, subst}
use Rattle.std.proofs.lemmas.List.{take_all}
use Rattle.kq_run_scan.specs.Beside.{places_found}
use Rattle.kq_run_scan.specs.Sources.{source_rows}
use Rattle.kq_run_scan.specs.kq_eval_pieces.Operators.{Row}
use Rattle.kq_run_scan.specs.kq_eval_pieces.Pieces.{piece_of}
use Rattle.kq_run_gather.specs.Partnered.{partners_of}
use Rattle.kq_run_gather.proofs.gatherer.AloneGatherer.pair.Goals as goal

pub returns : goal.returns
returns c =
    let rows = source_rows c.args.rows.now in
    let all : piece_of rows 0 c.len.result ≡ rows = take_all (c.len.result - 0) rows (omega (arith, c.len.ensures)) in
    subst (λ (rs : List Row). IfOk c.find_between.result (λ (pairs : Vec (ℕ × ℕ) Global). pairs.items ≡ places_found (partners_of c.args.partners.now) 0 rs)) all c.find_between.ensures
