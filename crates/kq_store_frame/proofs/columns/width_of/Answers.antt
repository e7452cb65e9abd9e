use Rattle.std.proofs.Common.{subst, sym}
use Rattle.std.specs.List.{All}
use Rattle.std.proofs.lemmas.List.Elements.{All-nil}
use Rattle.kq_store_rows.specs.Chunks.{HasWidth}
use Rattle.kq_store_frame.proofs.columns.width_of.Goals as goal

pub returns-then-is_empty : goal.returns-then-is_empty
returns-then-is_empty c = subst (All (HasWidth 0)) (sym (c.is_empty.ensures.0 c.if-is_empty.true)) (All-nil (HasWidth 0))
