use Rattle.std.proofs.Common.{◌≡◌, ◌∙◌, ℕ, true, length, ap, sym, arith}
use Rattle.world_tests.proofs.Counts.{every}
use Rattle.world_tests.proofs.tests.turns.by_eight.Goals as goal

pub returns : goal.returns
returns g c =
    let all : length c.close.result.items.items ≡ length c.spread-all.result.pass.added = sym (every _) ∙ c.close.ensures.added (λ (x : ℕ). true) ∙ every _ in
    let nothing : length c.in-Ok.pass.added ≡ 0 = ap length (c.in-Ok.ensures.added ∙ c.new.ensures.items) in
    record { total = omega (arith, all, nothing, c.spread-all.ensures.made) }
