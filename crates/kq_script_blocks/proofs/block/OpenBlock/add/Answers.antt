use Rattle.std.proofs.Common.{sym, ◌∙◌, refl}
use Rattle.kq_script_blocks.proofs.Blocks.{shows_blank-open}
use Rattle.kq_script_blocks.proofs.block.OpenBlock.add.Goals as goal

pub returns-then-is_blank-clause-adds : goal.returns-then-is_blank-clause-adds
returns-then-is_blank-clause-adds c = λ run line h.
    let blank = sym (shows_blank-open c.args.self.now run line h) ∙ sym c.if-is_blank.ensures in
    rw (c.if-byte-ne-LF.false, blank) (c.close.ensures.empty, c.close.ensures.item run line h)

pub returns-clause-adds : goal.returns-clause-adds
returns-clause-adds c = λ run line h.
    let blank = sym (shows_blank-open c.args.self.now run line h) ∙ sym c.if-is_blank.ensures in
    rw (c.if-byte-ne-LF.false, blank) (c.end_line.ensures.ends run line h, refl)
