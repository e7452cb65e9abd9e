use Rattle.std.proofs.Common.{◌≡◌, ◌<◌, ◌≤◌, ◌∷◌, ◌++◌, [], List, ap, get_or, length, map, subst, sym, take, ◌∙◌, arith}
use Rattle.std.proofs.lemmas.List.{map-append, map_more, take_all}
use Rattle.std.proofs.lemmas.Simd.{map-map}
use Rattle.kq_store_frame.specs.Series.{cells_in}
use Rattle.kq_store_frame.specs.declared.series.Series.{Series}
use Rattle.kq_store_frame.proofs.Across.{first_across, length-rows_across, long_at, long_few}
use Rattle.kq_store_frame.proofs.frame.Frame.first_cells.Goals as goal

pub first-requires : goal.first-requires
first-requires c =
    let s = c.self.inside in
    let i = c.loop-column.column-index in
    let x = c.column-item.result in
    let n = sym (length-rows_across (map cells_in s.columns.items) s.count) ∙ ap length c.self.view_is in
    let within : i < length s.columns.items = subst (λ (cs : List Series). i < length cs) c.deref-column-items.ensures.value c.loop-column-test.true in
    let is : x ≡ get_or s.columns.items i x = c.column-item.is ∙ ap (λ (cs : List Series). get_or cs i x) c.deref-column-items.ensures.value in
    omega (arith, n, long_at s.columns.items s.count i x c.self.invariant.long within is, c.requires)

pub loop-column-preserved : goal.loop-column-preserved
loop-column-preserved c =
    let columns = c.deref-column-items.result.now in
    let i = c.loop-column.column-index in
    let x = c.column-item.result in
    let f = λ (col : Series). take c.args.count (cells_in col) in
    ap (map cells_in) c.in_ok-push.ensures.items ∙ map-append cells_in c.loop-column.few.items (c.in_ok-first.field-0 ∷ [])
    ∙ (λ k. c.loop-column.invariant k ++ (c.in_ok-first.ensures ∙ ap f c.column-item.is) k ∷ []) ∙ sym (map_more f columns i x c.loop-column-test.true)

pub returns-clause-rows : goal.returns-clause-rows
returns-clause-rows c =
    let s = c.self.inside in
    let m = c.args.count in
    let columns = map cells_in s.columns.items in
    let few = map cells_in c.loop-column.few.items in
    let n = sym (length-rows_across columns s.count) ∙ ap length c.self.view_is in
    let within : m ≤ s.count = omega (arith, n, c.requires) in
    let f = λ (col : Series). take m (cells_in col) in
    let all = take_all c.loop-column.column-index c.deref-column-items.result.now (omega (arith, c.loop-column-test.false)) ∙ c.deref-column-items.ensures.value in
    let are = c.loop-column.invariant ∙ ap (map f) all ∙ sym (map-map (take m) cells_in s.columns.items) in
    first_across columns few s.count m within are ∙ ap (take m) c.self.view_is

pub returns-clause-whole : goal.returns-clause-whole
returns-clause-whole c =
    let s = c.self.inside in
    let m = c.args.count in
    let columns = map cells_in s.columns.items in
    let few = map cells_in c.loop-column.few.items in
    let n = sym (length-rows_across columns s.count) ∙ ap length c.self.view_is in
    let within : m ≤ s.count = omega (arith, n, c.requires) in
    let f = λ (col : Series). take m (cells_in col) in
    let all = take_all c.loop-column.column-index c.deref-column-items.result.now (omega (arith, c.loop-column-test.false)) ∙ c.deref-column-items.ensures.value in
    let are = c.loop-column.invariant ∙ ap (map f) all ∙ sym (map-map (take m) cells_in s.columns.items) in
    record { long = long_few columns few s.count m within c.self.invariant.long are; small = omega (arith, within, c.self.invariant.small) }
