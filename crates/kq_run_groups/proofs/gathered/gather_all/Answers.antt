use Rattle.std.proofs.Common.{◌<◌, [], ap, ◌∙◌, length, subst, sym, arith}
use Rattle.std.proofs.lemmas.List.{length-map}
use Rattle.kq_run_aggregates.specs.Tables.{Numbered}
use Rattle.kq_run_groups.specs.Groups.{Gathers}
use Rattle.kq_run_groups.specs.Arguments.{rows_given, rows_in}
use Rattle.kq_run_groups.proofs.Gathering.{gathered_more, given_at, rest_more}
use Rattle.kq_run_groups.proofs.gathered.gather_all.Goals as goal

pub gather-requires-clause-along : goal.gather-requires-clause-along
gather-requires-clause-along c =
    let n = length c.args.numbers.now in
    let args = c.args.args.now in
    let i = c.loop-i.i in
    c.requires.along i [] (omega (arith, c.loop-i-test.true, length-map args (rows_in n))) ∙ ap length (given_at n args i c.index-args-i.result c.loop-i-test.true c.index-args-i.is)

pub loop-i-preserved : goal.loop-i-preserved
loop-i-preserved c =
    let ns = c.args.numbers.now in
    let n = length ns in
    let args = c.args.args.now in
    let i = c.loop-i.i in
    let within : i < length c.loop-i.states = omega (arith, c.loop-i-test.true, c.requires.each, c.loop-i.auto.states) in
    let rows = rows_in n c.index-args-i.result in
    let gathers = subst (λ (s : Numbered). Gathers ns rows c.args.count s c.gather.new.states) (sym c.index-states-i.is) c.in_ok-gather.ensures in
    record {
      done = gathered_more ns (rows_given n args) c.args.count c.args.states.now c.loop-i.states i rows c.index-states-i.result c.gather.new.states within c.index-states-i.is
          (given_at n args i c.index-args-i.result c.loop-i-test.true c.index-args-i.is) gathers c.loop-i.invariant.done c.loop-i.invariant.rest;
      rest = rest_more c.args.states.now c.loop-i.states i c.gather.new.states c.loop-i.invariant.rest;
    }
