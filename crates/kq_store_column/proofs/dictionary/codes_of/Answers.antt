use Rattle.std.proofs.Common.{List, subst, arith}
use Rattle.std.proofs.lemmas.List.{take_all}
use Rattle.kq_value.specs.declared.value.Value.{Value}
use Rattle.kq_store_column.specs.Built.{AreCoded}
use Rattle.kq_store_column.proofs.Joined.{coded_next, kept_more}
use Rattle.kq_store_column.proofs.dictionary.codes_of.Goals as goal

pub loop-i-preserved : goal.loop-i-preserved
loop-i-preserved c =
    let old = c.args.words.now.items in
    let words = c.loop-i.words.items in
    let inv = c.loop-i.invariant in
    let kept = c.in_ok-code.ensures.words in
    rw c.in_ok-push.ensures.items (record {
      coded = coded_next words _ c.loop-i.codes.items c.in_ok-code.code c.args.cells.now c.loop-i.i c.index-cells-i.result kept inv.coded c.in_ok-code.ensures.code c.loop-i-test.true c.index-cells-i.is;
      kept = kept_more old words _ inv.kept kept;
    })

pub returns-clause-codes : goal.returns-clause-codes
returns-clause-codes c = subst (λ (vs : List Value). AreCoded c.loop-i.words.items c.loop-i.codes.items vs) (take_all c.loop-i.i c.args.cells.now (omega arith)) c.loop-i.invariant.coded
