use Rattle.std.proofs.Common.{◌<◌, ◌+◌, ◌||◌, ◌++◌, ◌∷◌, [], List, length, take, refl, ap, arith}
use Rattle.std.proofs.lemmas.List.{take_all}
use Rattle.kq_value.specs.declared.value.Value.{Value}
use Rattle.kq_value.specs.Typed.{HasType}
use Rattle.kq_store_column_view.specs.Vectors.{cells_of}
use Rattle.kq_store_column.proofs.Joined.{behind_more, built_as, built_begun, or_assoc, typed_at}
use Rattle.kq_store_column.proofs.numbers.add_each.Goals as goal

pub loop-i-init : goal.loop-i-init
loop-i-init c = λ any cells built. built_begun c.args.ty c.args.nulls.now.items c.args.numbers.now.items any cells built

pub add_cell-requires-clause-typed : goal.add_cell-requires-clause-typed
add_cell-requires-clause-typed c =
    let cells = cells_of c.args.part.now in
    let within : c.loop-i.i < length cells = omega arith in
    typed_at (HasType c.args.ty) cells c.loop-i.i c.in_ok-cell.cell within c.in_ok-cell.ensures c.requires.typed

pub loop-i-preserved : goal.loop-i-preserved
loop-i-preserved c = λ any cells built.
    let there = cells_of c.args.part.now in
    let i = c.loop-i.i in
    let v = c.in_ok-cell.cell in
    let within : i < length there = omega arith in
    built_as c.args.ty _ _ ((any || c.loop-i.any) || c.in_ok-null.null) (any || (c.loop-i.any || c.in_ok-null.null)) ((cells ++ take i there) ++ v ∷ []) (cells ++ take (i + 1) there)
    (or_assoc any c.loop-i.any c.in_ok-null.null) (behind_more cells there i v within c.in_ok-cell.ensures)
    (c.in_ok-null.ensures.ok (any || c.loop-i.any) (cells ++ take i there) (c.loop-i.invariant any cells built))

pub returns : goal.returns
returns c = λ any cells built.
    let there = cells_of c.args.part.now in
    built_as c.args.ty _ _ (any || c.loop-i.any) (any || c.loop-i.any) (cells ++ take c.loop-i.i there) (cells ++ there) refl
    (ap (λ (vs : List Value). cells ++ vs) (take_all c.loop-i.i there (omega arith))) (c.loop-i.invariant any cells built)
