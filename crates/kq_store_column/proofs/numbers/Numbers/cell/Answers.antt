use Rattle.std.proofs.Common.{◌≡◌, ◌<◌, length, sym, subst, ap, ◌∙◌, map, arith, rules, true, false, Some, List, slice_get, get_or, to_z, of_z, w32, w64, FitsSigned, ℤ}
use Rattle.std.proofs.lemmas.Int.{to_z-of_z}
use Rattle.std.proofs.lemmas.List.{get_or_read}
use Rattle.kq_value.specs.declared.value.Value.{Value}
use Rattle.kq_store_column_view.specs.Numbers.{marked, number_cell}
use Rattle.kq_store_column_view.proofs.Masked.{length-cells, got_null, got_number}
use Rattle.kq_store_column.proofs.numbers.Numbers.cell.Goals.{else-index-len-via-then-index-len+else-index, else-index-len-via-else-index-len}
use Rattle.kq_store_column.proofs.numbers.Numbers.cell.Goals as goal

pub index-requires-else-index-len : goal.index-requires-else-index-len
index-requires-else-index-len c =
    let s = c.self.inside in
    omega (arith, s.numbers.ok.0, ap length c.self.view_is, length-cells s.ty s.nulls.items s.numbers.items)

pub value_of-requires : goal.value_of-requires
value_of-requires c = λ int.
    let s = c.self.inside in
    let z = c.index-else-index-len.result.now in
    let within : c.args.index < length s.numbers.items = omega (arith, ap length c.self.view_is, length-cells s.ty s.nulls.items s.numbers.items) in
    let same : to_z w64 (of_z w64 z) ≡ z = search (rules, to_z-of_z) in
    rw same (subst (FitsSigned w32) (sym c.index-else-index-len.ensures) (c.self.invariant.fit int c.args.index z within))

pub returns-then-index : goal.returns-then-index
returns-then-index c =
    let s = c.self.inside in
    let within : c.args.index < length s.nulls.items = omega (arith, s.nulls.ok.0) in
    let null : get_or s.nulls.items c.args.index true ≡ true = sym (get_or_read s.nulls.items c.args.index c.index.result.now within c.index.ensures true) ∙ c.if-index.true in
    ap (λ (cs : List Value). slice_get cs c.args.index) (sym c.self.view_is) ∙ got_null s.ty s.nulls.items s.numbers.items c.args.index c.self.invariant within null

pub returns-else-index-len : goal.returns-else-index-len
returns-else-index-len c =
    let s = c.self.inside in
    let i = c.args.index in
    let within : i < length s.numbers.items = omega (arith, ap length c.self.view_is, length-cells s.ty s.nulls.items s.numbers.items) in
    let z = c.index-else-index-len.result.now in
    let same : to_z w64 (of_z w64 z) ≡ z = search (rules, to_z-of_z) in
    let got : slice_get (map (number_cell s.ty) (marked s.nulls.items s.numbers.items)) i ≡ Some (number_cell s.ty (Some z)) =
    elim c.else-index-len.branch [
      | else-index-len-via-then-index-len+else-index w ↦
          got_number s.ty s.nulls.items s.numbers.items i z c.self.invariant within (sym c.index-else-index-len.ensures)
          (λ h. sym (get_or_read s.nulls.items i w.index.result.now h w.index.ensures false) ∙ w.if-index.false)
      | else-index-len-via-else-index-len w ↦
          got_number s.ty s.nulls.items s.numbers.items i z c.self.invariant within (sym c.index-else-index-len.ensures) (λ h. absurd (omega (arith, s.nulls.ok.0)))
    ] in
    ap (λ (cs : List Value). slice_get cs i) (sym c.self.view_is) ∙ got ∙ ap (λ (v : Value). Some v) (ap (λ (x : ℤ). number_cell s.ty (Some x)) (sym same) ∙ sym c.value_of.ensures)
