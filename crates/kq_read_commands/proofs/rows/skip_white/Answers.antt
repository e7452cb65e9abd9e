use Rattle.std.proofs.Common.{ap, length, ◌∙◌, arith}
use Rattle.std.specs.List.{prefix_len}
use Rattle.kq_read_commands.specs.Rows.{is_white}
use Rattle.kq_read_commands.proofs.RowEnds.{white_ends}
use Rattle.kq_read_commands.proofs.rows.skip_white.Goals as goal

pub range_from-requires : goal.range_from-requires
range_from-requires c some =
    let count = c.white_len-count.ensures.count ∙ ap (prefix_len is_white) c.as_bytes.ensures.value in
    white_ends c.args.text.now c.white_len-count.result c.utf8.text count (omega (arith, c.white_len-count.ensures.within, ap length c.as_bytes.ensures.value))
