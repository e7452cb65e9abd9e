use Rattle.std.proofs.Common.{rules, subst, List, ℕ, ◌++◌, ◌∙◌}
use Rattle.kq_value_formats.specs.Cells.{escaped}
use Rattle.kq_reply_print.proofs.Escapes.{escaped-parts}
use Rattle.kq_reply_print.proofs.Puts.{HasRest, IsCut, rest-behind, rest-cut}
use Rattle.kq_reply_print.proofs.write.put_escaped.Goals as goal

pub returns-in_err-put_part-clause-puts : goal.returns-in_err-put_part-clause-puts
returns-in_err-put_part-clause-puts g c =
    let old = g.K.Sink.accepted c.args.sink.now in
    let mid = g.K.Sink.accepted c.loop-rest.sink in
    let new = g.K.Sink.accepted c.put_part.new.sink in
    let name = escaped c.args.name.now in
    let part = c.split_at.result.0.now in
    let behind = c.split_at.result.1.now in
    let split = escaped-parts c.loop-rest.rest.now part behind _ c.split_at.ensures.front c.split_at.ensures.back in
    let has : HasRest name (escaped part ++ escaped behind) old mid = subst (λ (l : List ℕ). HasRest name l old mid) split c.loop-rest.invariant.has in
    let cut : IsCut old new name = rest-cut name (escaped part) (escaped behind) old mid new has c.in_err-put_part.ensures.puts in
    search (rules, cut)

pub loop-rest-preserved : goal.loop-rest-preserved
loop-rest-preserved g c =
    let old = g.K.Sink.accepted c.args.sink.now in
    let mid = g.K.Sink.accepted c.loop-rest.sink in
    let new = g.K.Sink.accepted c.put_part.new.sink in
    let name = escaped c.args.name.now in
    let part = c.split_at.result.0.now in
    let behind = c.split_at.result.1.now in
    let split = escaped-parts c.loop-rest.rest.now part behind _ c.split_at.ensures.front c.split_at.ensures.back in
    let has : HasRest name (escaped part ++ escaped behind) old mid = subst (λ (l : List ℕ). HasRest name l old mid) split c.loop-rest.invariant.has in
    record {
      has = rest-behind name (escaped part) (escaped behind) old mid new has c.in_ok-put_part.ensures.puts;
      faults = c.in_ok-put_part.ensures.cause ∙ c.loop-rest.invariant.faults;
    }
