use Rattle.std.proofs.Common.{◌≡◌, List, subst}
use Rattle.std.specs.List.{All}
use Rattle.kq_value.specs.declared.value.Value.{Value}
use Rattle.kq_store_rows.specs.Chunks.{chunks, HasWidth}
use Rattle.kq_store_rows.proofs.Chunked.{chunks_wide}
use Rattle.kq_store_rows.proofs.rows.Rows.width.Goals as goal

pub returns : goal.returns
returns c =
    let s = c.self.inside in
    let v : chunks s.count s.width s.cells.items ≡ c.args.self.now = c.self.view_is in
    subst (λ (rs : List (List Value)). All (HasWidth s.width) rs) v (chunks_wide s.count s.width s.cells.items c.self.invariant.0)
