use Rattle.std.proofs.Common.{◌≡◌, length, map, subst, arith}
use Rattle.std.specs.List.{All}
use Rattle.std.proofs.lemmas.List.{length-map}
use Rattle.kq_store_rows.specs.Chunks.{HasWidth}
use Rattle.kq_store_frame.specs.Series.{cells_in}
use Rattle.kq_store_frame.proofs.Across.{all_wide}
use Rattle.kq_store_frame.proofs.frame.Frame.width.Goals as goal

pub returns : goal.returns
returns c =
    let s = c.self.inside in
    let columns = map cells_in s.columns.items in
    let is : length columns ≡ c.len.result = omega (arith, length-map s.columns.items cells_in, c.len.ensures) in
    subst (All (HasWidth c.len.result)) c.self.view_is (all_wide columns s.count c.len.result is)
