use Rattle.std.proofs.Common.{◌≡◌, ◌<◌, ℤ, pos, true, false, Some, length, map, get_or, ap, ◌∙◌, arith, rules, to_z, of_z, w64}
use Rattle.std.proofs.lemmas.Int.{to_z-of_z}
use Rattle.std.proofs.lemmas.List.{get_or_default}
use Rattle.kq_store_column_view.specs.Numbers.{marked, number_cell}
use Rattle.kq_store_column_view.proofs.Masked.{cell_got, cell_past, got_null, got_number, length-cells}
use Rattle.kq_store_column_view.proofs.numbers.number_at.Goals.{else-i-nulls-via-then-i-nulls+else-nulls-i, else-i-nulls-via-else-i-nulls}
use Rattle.kq_store_column_view.proofs.numbers.number_at.Goals as goal

pub returns-then-i-numbers : goal.returns-then-i-numbers
returns-then-i-numbers c =
    let n = length-cells c.args.ty c.args.nulls.now c.args.numbers.now in
    cell_past (map (number_cell c.args.ty) (marked c.args.nulls.now c.args.numbers.now)) c.args.i (omega (arith, n, c.if-i-numbers.true))

pub returns-then-nulls-i : goal.returns-then-nulls-i
returns-then-nulls-i c =
    let t = c.args.ty in
    let nulls = c.args.nulls.now in
    let numbers = c.args.numbers.now in
    let null : get_or nulls c.args.i true ≡ true = get_or_default nulls c.args.i true false c.if-i-nulls.true ∙ c.if-nulls-i.true in
    cell_got (map (number_cell t) (marked nulls numbers)) c.args.i _ (got_null t nulls numbers c.args.i c.requires c.if-i-nulls.true null)

pub returns-else-i-nulls : goal.returns-else-i-nulls
returns-else-i-nulls c =
    let t = c.args.ty in
    let nulls = c.args.nulls.now in
    let numbers = c.args.numbers.now in
    let i = c.args.i in
    let z = get_or numbers i (pos 0) in
    let same : to_z w64 (of_z w64 z) ≡ z = search (rules, to_z-of_z) in
    let some : i < length nulls → get_or nulls i false ≡ false =
    elim c.else-i-nulls.branch [
      | else-i-nulls-via-then-i-nulls+else-nulls-i w ↦ (λ h. w.if-nulls-i.false)
      | else-i-nulls-via-else-i-nulls w ↦ (λ h. absurd (omega (arith, w.if-i-nulls.false)))
    ] in
    let got = got_number t nulls numbers i z c.requires c.if-i-numbers.false (get_or_default numbers i _ (pos 0) c.if-i-numbers.false) some in
    c.value_of.ensures ∙ ap (λ (x : ℤ). number_cell t (Some x)) same ∙ cell_got (map (number_cell t) (marked nulls numbers)) i _ got
