use Rattle.std.proofs.Common.{◌≡◌, rules, sym, ◌∙◌, w64, to_z, of_z}
use Rattle.std.proofs.lemmas.Int.{to_z-of_z}
use Rattle.kq_run_scan.proofs.Settling.{stands_at}
use Rattle.kq_run_scan.proofs.settled.value_of.Goals as goal

pub returns-in-Ok : goal.returns-in-Ok
returns-in-Ok c =
    let same : to_z w64 (of_z w64 c.args.around.now) ≡ c.args.around.now = search (rules, to_z-of_z) in
    stands_at c.args.around.now (to_z w64 (of_z w64 c.args.around.now)) c.args.around.lets.now c.args.expr.now c.in-Ok.value c.as_slice.result.now same (sym c.reads.ensures ∙ c.if-reads.false) c.in-Ok.ensures
