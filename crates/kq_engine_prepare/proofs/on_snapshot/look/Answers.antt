use Rattle.std.proofs.Common.{ℤ, ◌≡◌, IfOk, sym, ◌∙◌, subst, rules, w64, to_z, of_z}
use Rattle.std.proofs.lemmas.Int.{to_z-of_z}
use Rattle.std.proofs.lemmas.Result.{err_from_is_err_and}
use Rattle.kq_engine_prepare.specs.Found.{IsFound}
use Rattle.kq_engine_prepare.proofs.Lasting.{Ready-found}
use Rattle.kq_engine_prepare.proofs.Wanting.{wants_found}
use Rattle.kq_engine_prepare.proofs.on_snapshot.look.Goals as goal

pub returns-then-is_prepared_outside-clause-ready : goal.returns-then-is_prepared_outside-clause-ready
returns-then-is_prepared_outside-clause-ready g c =
    let now = c.args.snapshot.now in
    let same : to_z w64 (of_z w64 c.args.now) ≡ c.args.now = search (rules, to_z-of_z) in
    let outside = sym c.is_prepared_outside.ensures ∙ c.if-is_prepared_outside.true in
    Ready-found now.limits now.history c.args.now c.args.command.now c.find.result outside (subst (λ (t : ℤ). IfOk c.find.result (IsFound now.limits now.history t c.args.command.now)) same c.find.ensures.found)

pub returns-then-is_prepared_outside-clause-memory : goal.returns-then-is_prepared_outside-clause-memory
returns-then-is_prepared_outside-clause-memory g c = wants_found c.args.snapshot.now.history c.args.command.now c.find.result (sym c.is_prepared_outside.ensures ∙ c.if-is_prepared_outside.true) c.find.ensures.memory

pub returns-in_err-check_text-clause-memory : goal.returns-in_err-check_text-clause-memory
returns-in_err-check_text-clause-memory g c =
    let p = err_from_is_err_and c.from_residual.result c.from_residual.ensures.1 in
    rw (p.1, p.2) (λ wants. c.in_err-check_text.ensures.memory wants c.args.snapshot.now.history)
