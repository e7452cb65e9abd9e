use Rattle.std.proofs.Common.{ap, sym, ◌∙◌}
use Rattle.std.specs.Ordering.{is_eq}
use Rattle.kq_store_column.proofs.Bagged.{member_read, same_dynamics}
use Rattle.kq_store_column.proofs.bags.stands_at.Goals as goal

pub returns-then-index-members : goal.returns-then-index-members
returns-then-index-members c = λ yes.
    let own = c.index-members-index.result in
    let order = c.is_eq.ensures ∙ ap is_eq c.cmp.ensures in
    same_dynamics own c.args.member.now (sym order ∙ yes) ∙ member_read c.args.members.now c.args.index own c.if-index-members.true c.index-members-index.is
