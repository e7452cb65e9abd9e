use Rattle.std.proofs.Common.{length, refl}
use Rattle.kq_store_column.proofs.Joined.{built_marked, built_unmarked}
use Rattle.kq_store_column.proofs.numbers.add_numbers.Goals as goal

pub returns-in_ok-extend_from_slice-2 : goal.returns-in_ok-extend_from_slice-2
returns-in_ok-extend_from_slice-2 c = λ any cells built.
    rw (c.in_ok-extend_from_slice.ensures.items, c.in_ok-extend_from_slice-2.ensures.items)
    (built_marked c.args.ty c.args.nulls.now.items c.args.numbers.now.items any cells c.args.marks.now c.args.lent.now (c.requires.marks c.if-marks-gt0.true) c.requires.fit built)

pub returns-in_ok-add_plain : goal.returns-in_ok-add_plain
returns-in_ok-add_plain c = λ any cells built.
    rw (c.in_ok-extend_from_slice.ensures.items, c.in_ok-add_plain.ensures)
    (built_unmarked c.args.ty c.args.nulls.now.items c.args.numbers.now.items any cells c.args.marks.now c.args.lent.now (length c.args.lent.now) refl c.if-marks-gt0.false c.requires.fit built)
