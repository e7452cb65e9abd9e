use Rattle.std.proofs.Common.{◌≡◌, ◌<◌, ◌∷◌, [], ◌++◌, Some, sym, ap, ◌∙◌, length, map, get_or, slice_get, arith, List, subst}
use Rattle.std.specs.List.{All}
use Rattle.std.proofs.lemmas.List.{map_more, take_all, get_or_read}
use Rattle.std.proofs.lemmas.Option.{get_or_from_slice_get}
use Rattle.kq_value.specs.declared.value.Value.{Value}
use Rattle.kq_store_extent.specs.Columns.{missing, row_across}
use Rattle.kq_store_extent.proofs.Across.{length-rows_across, row_got}
use Rattle.kq_store_extent.proofs.columns.Columns.fill.Goals as goal

pub cell-requires : goal.cell-requires
cell-requires c =
    let s = c.self.inside in
    let n = sym (length-rows_across s.columns.items s.count) ∙ ap length c.self.view_is in
    let all = subst (λ (cs : List (List Value)). All (λ column. length column ≡ s.count) cs) (sym c.deref-column-items.ensures.value) c.self.invariant.long in
    let long : length c.column-item.result ≡ s.count = ap length c.column-item.is ∙ all c.loop-column.column-index c.column-item.result (omega arith) in
    omega (arith, n, long, c.requires.place)

pub loop-column-preserved : goal.loop-column-preserved
loop-column-preserved c =
    let columns = c.deref-column-items.result.now in
    let i = c.loop-column.column-index in
    let cell : get_or c.column-item.result c.args.index missing ≡ c.in_ok-cell.cell = get_or_from_slice_get c.column-item.result c.args.index c.in_ok-cell.cell missing c.in_ok-cell.ensures in
    let at : get_or columns i [] ≡ c.column-item.result = sym (get_or_read columns i c.column-item.result (omega arith) c.column-item.is []) in
    let more = map_more (λ (col : List Value). get_or col c.args.index missing) columns i [] (omega arith) in
    c.in_ok-push.ensures.items ∙ (λ k. c.loop-column.invariant k ++ (sym cell ∙ ap (λ (col : List Value). get_or col c.args.index missing) (sym at)) k ∷ []) ∙ sym more

pub returns : goal.returns
returns c =
    let s = c.self.inside in
    let n = sym (length-rows_across s.columns.items s.count) ∙ ap length c.self.view_is in
    let within : c.args.index < s.count = omega (arith, n, c.requires.place) in
    let row : c.loop-column.row.items ≡ row_across s.columns.items c.args.index =
    c.loop-column.invariant ∙ ap (λ (cs : List (List Value)). map (λ (col : List Value). get_or col c.args.index missing) cs) (take_all c.loop-column.column-index c.deref-column-items.result.now (omega arith) ∙ c.deref-column-items.ensures.value) in
    ap (λ (rows : List (List Value)). slice_get rows c.args.index) (sym c.self.view_is) ∙ row_got s.columns.items s.count c.args.index within ∙ ap Some (sym row)
