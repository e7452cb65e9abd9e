use Rattle.std.proofs.Common.{◌≡◌, ◌+◌, ◌*◌, ◌-◌, List, slice_get, sym, ap, ◌∙◌, length, arith}
use Rattle.kq_value.specs.declared.value.Value.{Value}
use Rattle.kq_store_rows.specs.Chunks.{chunks}
use Rattle.kq_store_rows.proofs.Chunked.{length-chunks, row_within, row_got}
use Rattle.kq_store_rows.proofs.rows.Rows.row.Goals as goal

pub overflow_mul-from : goal.overflow_mul-from
overflow_mul-from c = let s = c.self.inside in let l = length-chunks s.count s.width s.cells.items in let v = ap length c.self.view_is in let r = row_within s.count s.width s.cells.items c.args.index (omega arith) c.self.invariant.0 in omega arith

pub overflow_add-result : goal.overflow_add-result
overflow_add-result c = let s = c.self.inside in let l = length-chunks s.count s.width s.cells.items in let v = ap length c.self.view_is in let r = row_within s.count s.width s.cells.items c.args.index (omega arith) c.self.invariant.0 in omega arith

pub offset_bounds-deref-from : goal.offset_bounds-deref-from
offset_bounds-deref-from c = let s = c.self.inside in let l = length-chunks s.count s.width s.cells.items in let v = ap length c.self.view_is in let r = row_within s.count s.width s.cells.items c.args.index (omega arith) c.self.invariant.0 in omega arith

pub slice_bounds-result-end : goal.slice_bounds-result-end
slice_bounds-result-end c = let s = c.self.inside in let l = length-chunks s.count s.width s.cells.items in let v = ap length c.self.view_is in let r = row_within s.count s.width s.cells.items c.args.index (omega arith) c.self.invariant.0 in omega arith

pub returns : goal.returns
returns c =
    let s = c.self.inside in
    let l = length-chunks s.count s.width s.cells.items in
    let v : chunks s.count s.width s.cells.items ≡ c.args.self.now = c.self.view_is in
    let n = ap length v in
    let got = row_got s.count s.width s.cells.items c.args.index (omega arith) in
    let e : (c.args.index * s.width + s.width) - c.args.index * s.width ≡ s.width = omega arith in
    rw (e, c.deref.ensures.value) (ap (λ (rs : List (List Value)). slice_get rs c.args.index) (sym v) ∙ got)
