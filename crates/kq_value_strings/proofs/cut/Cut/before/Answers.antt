use Rattle.std.proofs.Common.{◌≡◌, ◌+◌, ◌<◌, length, sym, ap, subst, ◌∙◌, arith}
use Rattle.kq_value_strings.specs.Case.{seen}
use Rattle.kq_value_strings.specs.Cut.{IsCutOf}
use Rattle.kq_value_strings.proofs.Cuts.{cut-wide, cut-long, cut-small}
use Rattle.kq_value_strings.proofs.cut.Cut.before.Goals as goal
use Rattle.kq_value_strings.proofs.cut.Cut.before.Goals.{else-critical-rest-via-then-critical-rest+else-first_difference-critical, else-critical-rest-via-else-critical-rest}

pub returns-then-first_difference-critical : goal.returns-then-first_difference-critical
returns-then-first_difference-critical c =
    let x = seen c.args.by c.args.part.now in
    let start = c.args.suffix.start in
    let period = c.args.suffix.period in
    let all = c.if-first_difference-critical.true in
    cut-small x (length c.args.part.now) start period c.requires (λ k l.
    let turned : period + k ≡ k + period = omega arith in
    c.first_difference.ensures.same k (omega arith) (omega arith) ∙ ap x turned)

pub returns : goal.returns
returns c =
    let x = seen c.args.by c.args.part.now in
    let m = length c.args.part.now in
    let start = c.args.suffix.start in
    let period = c.args.suffix.period in
    subst (λ s. IsCutOf x m (record { critical = start; shift = s; known = 0 })) (sym c.max.ensures) (elim c.else-critical-rest.branch [
      | else-critical-rest-via-then-critical-rest+else-first_difference-critical w ↦
          let r = w.first_difference.result in
          let short : r < start = omega (arith, w.first_difference.ensures.high, w.if-first_difference-critical.false) in
          let turned : r + period ≡ period + r = omega arith in
          cut-long x m start period c.requires (λ all. w.first_difference.ensures.differs short (all r short ∙ ap x turned))
      | else-critical-rest-via-else-critical-rest w ↦ cut-wide x m start period c.requires (omega (arith, w.if-critical-rest.false))
    ])
