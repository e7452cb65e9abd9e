use Rattle.std.proofs.Common.{◌≡◌, sym, ap, ◌∙◌, length, arith, take, List}
use Rattle.std.proofs.lemmas.List.{take_all}
use Rattle.kq_value.specs.declared.value.Value.{Value}
use Rattle.kq_store_rows.specs.Chunks.{chunks}
use Rattle.kq_store_rows.proofs.Chunked.{length-chunks, chunks-take}
use Rattle.kq_store_rows.proofs.rows.Rows.truncate.Goals as goal

pub returns-then-count-self : goal.returns-then-count-self
returns-then-count-self c =
    let s = c.self.inside in
    let v : chunks s.count s.width s.cells.items ≡ c.args.self.now = c.self.view_is in
    let new : chunks c.args.count s.width c.truncate.new.self.items ≡ take c.args.count c.args.self.now =
    rw c.truncate.ensures.items (chunks-take c.args.count s.count s.width s.cells.items (omega arith) c.self.invariant.0 ∙ ap (λ (rs : List (List Value)). take c.args.count rs) v) in
    new

pub returns-else-count-self : goal.returns-else-count-self
returns-else-count-self c =
    let s = c.self.inside in
    let v : chunks s.count s.width s.cells.items ≡ c.args.self.now = c.self.view_is in
    let l = length-chunks s.count s.width s.cells.items in
    let n = ap length v in
    sym (take_all c.args.count c.args.self.now (omega arith))
