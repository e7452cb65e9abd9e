use Rattle.std.proofs.Common.{List, sym, ap, subst, ◌∙◌, arith}
use Rattle.std.proofs.lemmas.List.{take_all}
use Rattle.kq_value.specs.Bags.{IsBag}
use Rattle.kq_value.specs.Seen.{entries_of}
use Rattle.kq_value.specs.Tree.{Entries}
use Rattle.kq_store_column_view.specs.Bags.{entries_at}
use Rattle.kq_store_column_view.specs.declared.bags.Part.{Part}
use Rattle.kq_store_column_view.proofs.Bagged.{entries_next}
use Rattle.kq_store_column_view.proofs.made.bag_of.Goals as goal

pub loop-part-preserved : goal.loop-part-preserved
loop-part-preserved c =
    ap entries_of c.in_ok-push.ensures.items
    ∙ entries_next c.loop-part.members.items c.in_ok-member.field-0 c.args.parts.now c.loop-part.part-index c.args.index c.part-item.result (omega arith) c.part-item.is c.loop-part.invariant c.in_ok-member.ensures.key c.in_ok-member.ensures.value

pub from_vec-requires : goal.from_vec-requires
from_vec-requires c =
    let all = ap (λ (ps : List Part). entries_at ps c.args.index) (take_all c.loop-part.part-index c.args.parts.now (omega arith)) in
    subst (λ (es : Entries). IsBag es) (sym (c.loop-part.invariant ∙ all)) c.requires

pub returns : goal.returns
returns c = c.from_vec.ensures ∙ c.loop-part.invariant ∙ ap (λ (ps : List Part). entries_at ps c.args.index) (take_all c.loop-part.part-index c.args.parts.now (omega arith))
