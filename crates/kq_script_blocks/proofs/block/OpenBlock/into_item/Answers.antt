use Rattle.std.specs.List.{join_with_byte}
use Rattle.kq_script_blocks.proofs.Blocks.{open_long, open_comment, open_command, open_kept}
use Rattle.kq_script_blocks.specs.Script.{too_long, command}
use Rattle.std.proofs.Common.{◌-◌, refl, ap, sym, ◌∙◌}
use Rattle.kq_script_blocks.proofs.block.OpenBlock.into_item.Goals as goal

pub returns-then-bytes-self : goal.returns-then-bytes-self
returns-then-bytes-self c = record {
  item = λ run line h. (too_long (c.args.self.start - 1), refl, open_long c.args.self run line h c.if-self-eq0.false c.if-bytes-self.true);
}

pub returns-then-self : goal.returns-then-self
returns-then-self c = record {
  item = λ run line h. open_comment c.args.self run line h c.if-self-eq0.false c.if-bytes-self.false c.if-self.true;
}

pub returns-then-self-2 : goal.returns-then-self-2
returns-then-self-2 c = record {
  item = λ run line h.
      let is = open_command c.args.self run line h c.if-self-eq0.false c.if-bytes-self.false c.if-self.false in
      (command (join_with_byte 10 run), (join_with_byte 10 run, is.0, refl), is.1);
}

pub returns : goal.returns
returns c = record {
  item = λ run line h.
      let is = open_command c.args.self run line h c.if-self-eq0.false c.if-bytes-self.false c.if-self.false in
      let kept = open_kept c.args.self run line h c.if-self-eq0.false c.if-bytes-self.false c.if-self-2.false in
      (command (join_with_byte 10 run), ap command (sym (c.from_vec.ensures ∙ c.truncate.ensures.items ∙ kept)), is.1);
}
