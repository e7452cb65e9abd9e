use Rattle.std.proofs.Common.{◌≡◌, ◌∙◌, ap, sym, ◌++◌, ◌∷◌, []}
use Rattle.kq_store_column_view.specs.Vectors.{cells_of}
use Rattle.kq_eval_columns.specs.Seen.{merged_by}
use Rattle.kq_eval_columns.proofs.Branches.{merged_push}
use Rattle.kq_eval_columns.proofs.choices.merged_all.Goals as goal

pub loop-branch-preserved : goal.loop-branch-preserved
loop-branch-preserved c =
    let before : c.loop-branch.before.items ≡ c.pop.new.self.items ++ c.in-Some.branch ∷ [] = c.in-Some.ensures.items in
    c.loop-branch.invariant ∙ ap (λ bs. merged_by bs (cells_of c.loop-branch.whole)) before ∙ merged_push c.pop.new.self.items c.in-Some.branch (cells_of c.loop-branch.whole)
    ∙ ap (merged_by c.pop.new.self.items) (sym c.in_ok-whole.ensures)
