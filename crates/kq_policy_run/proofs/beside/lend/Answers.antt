use Rattle.std.proofs.Common.{◌∙◌}
use Rattle.kq_policy_run.proofs.Records.{copies_hold, copies_lent}
use Rattle.kq_policy_run.proofs.beside.lend.Goals as goal

pub lent-requires : goal.lent-requires
lent-requires c = copies_lent c.args.schema.now _ c.args.extents.now _ c.in_ok-clone_in.ensures c.in_ok-share.ensures c.requires

pub returns : goal.returns
returns c = c.lent.ensures ∙ copies_hold c.args.schema.now _ c.args.extents.now _ c.in_ok-clone_in.ensures c.in_ok-share.ensures
