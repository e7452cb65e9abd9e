use Rattle.std.proofs.Common.{List, take, ap, sym, ◌∙◌, arith}
use Rattle.std.proofs.lemmas.List.{take_all}
use Rattle.kq_value.specs.Seen.{entries_of}
use Rattle.kq_store_column_view.specs.Bags.{entries_at}
use Rattle.kq_store_column_view.specs.declared.bags.Part.{Part}
use Rattle.kq_store_column_view.proofs.Bagged.{entries_next, take_next}
use Rattle.kq_store_column.proofs.bags.hold.Goals as goal

pub loop-i-preserved : goal.loop-i-preserved
loop-i-preserved c =
    let i = c.loop-i.i in
    let ms = c.args.members.now in
    let has = c.if-not-has.false in
    ap entries_of (take_next ms i c.index-members-i.result (omega arith) c.index-members-i.is)
    ∙ entries_next (take i ms) c.index-members-i.result c.args.parts.now i c.args.index c.index-parts-i.result (omega arith) c.index-parts-i.is c.loop-i.invariant (c.has_member-has.ensures.key has) (c.has_member-has.ensures.value has)

pub returns : goal.returns
returns c = λ yes.
    ap entries_of (sym (take_all c.loop-i.i c.args.members.now (omega arith))) ∙ c.loop-i.invariant ∙ ap (λ (ps : List Part). entries_at ps c.args.index) (take_all c.loop-i.i c.args.parts.now (omega arith))
