use Rattle.std.proofs.Common.{map, ◌∙◌}
use Rattle.kq_value.specs.declared.ty.Ty.TheVariants as types
use Rattle.kq_store_column_view.specs.Vectors.{cell_of}
use Rattle.kq_store_column.proofs.Lent.{words_same}
use Rattle.kq_store_column.proofs.growing_words.GrowingWords.cells.Goals as goal

pub returns : goal.returns
returns c =
    let s = c.self.inside in
    let lent = c.in_ok-cells.ensures ∙ (λ t. map (cell_of (c.deref.ensures.value t)) (c.deref-2.ensures.value t)) in
    c.from_vec.ensures ∙ (λ t. record { ty = types.Text; cells = (lent ∙ words_same s.words.items s.row_codes.items) t }) ∙ c.self.view_is
