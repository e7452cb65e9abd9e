use Rattle.std.proofs.Common.{◌≡◌, ◌∙◌, ◌+◌, ℕ, true, [], length, ap, sym, arith, length-append}
use Rattle.kq_lock.specs.Passes.{Known}
use Rattle.world_tests.proofs.Counts.{every}
use Rattle.world_tests.proofs.tests.turns.by_two.Goals as goal

pub returns-clause-total : goal.returns-clause-total
returns-clause-total g c =
    let one = c.join-one.result.0.pass in
    let two = c.join-one.result.1.pass in
    let all : length c.close.result.items.items ≡ length c.join-pass.result.added = sym (every _) ∙ c.close.ensures.added (λ (x : ℕ). true) ∙ every _ in
    let both : length c.join-pass.result.added ≡ length one.added + length two.added = ap length c.join-pass.ensures.added ∙ length-append one.added two.added in
    let nothing : c.in-Ok.pass.added ≡ [] = c.in-Ok.ensures.added ∙ c.new.ensures.items in
    let first : length c.split-one.result.0.added ≡ 0 = ap (λ (p : Known ℕ). length p.added) c.split-one.ensures.first ∙ ap length nothing in
    let second : length c.split-one.result.1.added ≡ 0 = ap length c.split-one.ensures.second_added in
    omega (arith, all, both, first, second, c.join-one.ensures.first.1.1.1.0, c.join-one.ensures.second.1.1.1.0)
