use Rattle.std.proofs.Common.{refl, ◌∙◌, ap, ◌&&◌}
use Rattle.kq_script_blocks.proofs.Blocks.{IsOpen-end}
use Rattle.kq_script_blocks.proofs.block.OpenBlock.end_line.Goals as goal

pub returns-clause-ends : goal.returns-clause-ends
returns-clause-ends c = λ run line h. IsOpen-end c.args.self.now _ run line h c.put.ensures.others.0 c.put.ensures.count refl (c.put.ensures.others.2 ∙ ap (λ v. c.args.self.now.comment && v) c.is_comment.ensures) refl c.put.ensures.kept
