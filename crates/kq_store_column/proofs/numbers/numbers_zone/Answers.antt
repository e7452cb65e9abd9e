use Rattle.std.proofs.Common.{◌≡◌, ◌<◌, pos, true, false, Some, length, map, take, get_or, refl, sym, ap, ◌∙◌, arith, rules, to_z, of_z, w64}
use Rattle.std.proofs.lemmas.Int.{to_z-of_z}
use Rattle.std.specs.Int.{int_min, int_max}
use Rattle.std.proofs.lemmas.List.{get_or_default, take_all}
use Rattle.kq_value.specs.declared.value.Value.TheVariants.{Null}
use Rattle.kq_store_column.specs.Cells.{cells_present, IsAtMost}
use Rattle.kq_store_column_view.specs.Numbers.{marked, number_cell}
use Rattle.kq_store_column.specs.Zones.{is_empty}
use Rattle.kq_store_column.proofs.Cellwise.{cells_present-more, cells_present-same}
use Rattle.kq_store_column_view.proofs.Masked.{length-cells, got_null, got_number}
use Rattle.kq_store_column.proofs.Order.{IsAtMost-self, IsAtMost-trans}
use Rattle.kq_store_column.proofs.Ordered.{lesser_number, greater_number, fits_min, fits_max, present_cell}
use Rattle.kq_store_column.proofs.Widen.{AreBounds-one, AreBounds-more, nothing_so_far, found_so_far}
use Rattle.kq_store_column.proofs.Zoned.{AreBounds-are_bounds}
use Rattle.kq_store_column.proofs.numbers.numbers_zone.Goals.{else-i-nulls-via-then-i-nulls+else-nulls-i, else-i-nulls-via-else-i-nulls, in-None, in-Some}
use Rattle.kq_store_column.proofs.numbers.numbers_zone.Goals as goal

pub loop-i-init : goal.loop-i-init
loop-i-init c = refl

pub loop-i-preserved-then-nulls-i : goal.loop-i-preserved-then-nulls-i
loop-i-preserved-then-nulls-i c =
    let t = c.args.ty in
    let nulls = c.args.nulls.now in
    let numbers = c.args.numbers.now in
    let i = c.loop-i.i in
    let null : get_or nulls i true ≡ true = get_or_default nulls i true false c.if-i-nulls.true ∙ c.if-nulls-i.true in
    let got = got_null t nulls numbers i c.requires c.if-i-nulls.true null in
    rw (cells_present-same (map (number_cell t) (marked nulls numbers)) i (Null t) got refl) c.loop-i.invariant

pub loop-i-preserved : goal.loop-i-preserved
loop-i-preserved c =
    let t = c.args.ty in
    let nulls = c.args.nulls.now in
    let numbers = c.args.numbers.now in
    let i = c.loop-i.i in
    let z = get_or numbers i (pos 0) in
    let within = c.loop-i-test.true in
    let same : to_z w64 (of_z w64 z) ≡ z = search (rules, to_z-of_z) in
    let some : i < length nulls → get_or nulls i false ≡ false =
    elim c.else-i-nulls.branch [
      | else-i-nulls-via-then-i-nulls+else-nulls-i w ↦ (λ h. w.if-nulls-i.false)
      | else-i-nulls-via-else-i-nulls w ↦ (λ h. absurd (omega (arith, w.if-i-nulls.false)))
    ] in
    let got = got_number t nulls numbers i z c.requires within (get_or_default numbers i _ (pos 0) within) some in
    let more = cells_present-more (map (number_cell t) (marked nulls numbers)) i (number_cell t (Some z)) got (present_cell t z c.requires.of_numbers) in
    elim c.match-bounds.branch [
      | in-None w ↦
          rw (w.bounds-is, more, same, nothing_so_far c.loop-i.bounds _ _ w.in-None.is c.loop-i.invariant)
          (record {
            bounds = AreBounds-one IsAtMost (number_cell t (Some z)) (IsAtMost-self (number_cell t (Some z)));
            fit = λ int. (c.requires.fit int i (pos 0) within, c.requires.fit int i (pos 0) within);
          })
      | in-Some w ↦
          let so_far = found_so_far c.loop-i.bounds _ _ _ w.in-Some.is c.loop-i.invariant in
          let least = w.in-Some.least in
          let greatest = w.in-Some.greatest in
          let same_least : to_z w64 (of_z w64 least) ≡ least = search (rules, to_z-of_z) in
          let same_greatest : to_z w64 (of_z w64 greatest) ≡ greatest = search (rules, to_z-of_z) in
          let same_min : to_z w64 (of_z w64 w.min.result) ≡ w.min.result = search (rules, to_z-of_z) in
          let same_max : to_z w64 (of_z w64 w.max.result) ≡ w.max.result = search (rules, to_z-of_z) in
          let min_is : to_z w64 (of_z w64 w.min.result) ≡ int_min z least = same_min ∙ w.min.ensures.value ∙ (λ j. int_min (same j) (same_least j)) in
          let max_is : to_z w64 (of_z w64 w.max.result) ≡ int_max z greatest = same_max ∙ w.max.ensures.value ∙ (λ j. int_max (same j) (same_greatest j)) in
          rw (w.bounds-is, more, min_is, max_is)
          (record {
            bounds = AreBounds-more IsAtMost IsAtMost-trans _ (number_cell t (Some z)) (number_cell t (Some least)) (number_cell t (Some greatest)) (number_cell t (Some (int_min z least))) (number_cell t (Some (int_max z greatest)))
                so_far.bounds (lesser_number t z least) (greater_number t z greatest);
            fit = λ int. (fits_min z least (c.requires.fit int i (pos 0) within) (so_far.fit int).0, fits_max z greatest (c.requires.fit int i (pos 0) within) (so_far.fit int).1);
          })
    ]

pub returns-in_err-least : goal.returns-in_err-least
returns-in_err-least c =
    let t = c.args.ty in
    let nulls = c.args.nulls.now in
    let numbers = c.args.numbers.now in
    let all = take_all c.loop-i.i (map (number_cell t) (marked nulls numbers)) (omega (arith, length-cells t nulls numbers, c.loop-i-test.false)) in
    rw c.from_residual.ensures (ap is_empty (sym (ap cells_present all) ∙ nothing_so_far c.loop-i.bounds _ _ c.in_err-least.was c.loop-i.invariant))

pub value_of-requires : goal.value_of-requires
value_of-requires c = λ int.
    let same : to_z w64 (of_z w64 c.in_ok-least.least) ≡ c.in_ok-least.least = search (rules, to_z-of_z) in
    rw same ((found_so_far c.loop-i.bounds _ _ _ c.in_ok-least.was c.loop-i.invariant).fit int).0

pub value_of-requires-2 : goal.value_of-requires-2
value_of-requires-2 c = λ int.
    let same : to_z w64 (of_z w64 c.in_ok-least.greatest) ≡ c.in_ok-least.greatest = search (rules, to_z-of_z) in
    rw same ((found_so_far c.loop-i.bounds _ _ _ c.in_ok-least.was c.loop-i.invariant).fit int).1

pub returns : goal.returns
returns c =
    let t = c.args.ty in
    let nulls = c.args.nulls.now in
    let numbers = c.args.numbers.now in
    let cells = map (number_cell t) (marked nulls numbers) in
    let all = take_all c.loop-i.i cells (omega (arith, length-cells t nulls numbers, c.loop-i-test.false)) in
    let least = c.in_ok-least.least in
    let greatest = c.in_ok-least.greatest in
    let same : to_z w64 (of_z w64 least) ≡ least = search (rules, to_z-of_z) in
    let same-2 : to_z w64 (of_z w64 greatest) ≡ greatest = search (rules, to_z-of_z) in
    let found = found_so_far c.loop-i.bounds _ _ _ c.in_ok-least.was c.loop-i.invariant in
    rw (c.value_of.ensures, c.value_of-2.ensures, same, same-2, ← all) (AreBounds-are_bounds (cells_present (take c.loop-i.i cells)) (number_cell t (Some least)) (number_cell t (Some greatest)) found.bounds)
