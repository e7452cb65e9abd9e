use Rattle.std.proofs.Common.{◌||◌, List, subst, sym, take, ◌∙◌, arith}
use Rattle.std.proofs.lemmas.List.{take_all}
use Rattle.std.proofs.lemmas.Option.{get_or_from_slice_get, slice_get_within}
use Rattle.kq_value.specs.declared.value.Value.{Value}
use Rattle.kq_value.specs.Typed.{HasType}
use Rattle.kq_store_column.specs.Built.{AreBuilt}
use Rattle.kq_store_column.specs.Cells.{column_of}
use Rattle.kq_store_column.proofs.Cellwise.{length-column_of, take_got}
use Rattle.kq_store_column.proofs.Grown.{grown_from}
use Rattle.kq_store_column.proofs.Joined.{built_none}
use Rattle.kq_store_column.proofs.numbers.Numbers.build.Goals as goal

pub loop-i-init : goal.loop-i-init
loop-i-init c = rw (c.in_ok-numbers.ensures.items, c.in_ok-nulls.ensures.items) (built_none c.args.ty)

pub add_cell-requires-clause-typed : goal.add_cell-requires-clause-typed
add_cell-requires-clause-typed c =
    let cells = column_of c.args.column c.args.rows.now in
    let i = c.loop-i.i in
    let v = c.cell_at.result.now in
    let got = c.cell_at.ensures in
    subst (HasType c.args.ty) (get_or_from_slice_get cells i v v got) (c.requires.typed i v (slice_get_within cells i v got))

pub loop-i-preserved : goal.loop-i-preserved
loop-i-preserved c =
    let cells = column_of c.args.column c.args.rows.now in
    let i = c.loop-i.i in
    subst (λ (vs : List Value). AreBuilt c.args.ty c.add_cell.new.nulls.items c.add_cell.new.numbers.items (c.loop-i.any || c.in_ok-null.null) vs) (sym (take_got cells i c.cell_at.result.now c.cell_at.ensures))
    (c.in_ok-null.ensures.ok c.loop-i.any (take i cells) c.loop-i.invariant)

pub from_marks-requires : goal.from_marks-requires
from_marks-requires c = grown_from c.args.ty _ _ _ _ c.requires.numbers c.loop-i.invariant

pub returns : goal.returns
returns c =
    let cells = column_of c.args.column c.args.rows.now in
    c.from_marks.ensures ∙ c.loop-i.invariant.stand ∙ take_all c.loop-i.i cells (omega (arith, length-column_of c.args.column c.args.rows.now))
