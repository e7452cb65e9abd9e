use Rattle.std.proofs.Common.{◌≡◌, ◌∷◌, ◌++◌, [], ℕ, List, map, ap, ◌∙◌}
use Rattle.kq_value.specs.declared.ty.Ty.TheVariants as types
use Rattle.kq_store_column.specs.Growing.{Grown, with_cell}
use Rattle.kq_store_column.specs.Words.{word_at}
use Rattle.kq_store_column.proofs.Grown.{words_push}
use Rattle.kq_store_column.proofs.growing_words.GrowingWords.push.Goals as goal

pub returns-clause-ok : goal.returns-clause-ok
returns-clause-ok c =
    let s = c.self.inside in
    let more = c.code_of.new.words.items in
    let code = c.in_ok-code.code in
    let codes : c.push_reserved.new.self.items ≡ s.row_codes.items ++ code ∷ [] = c.push_reserved.ensures.items ∙ ap (λ (cs : List ℕ). cs ++ code ∷ []) c.in_ok-reserve.ensures.items in
    let cells = ap (map (word_at more)) codes ∙ words_push s.words.items more s.row_codes.items code c.args.cell.now c.in_ok-code.ensures.words c.self.invariant c.in_ok-code.ensures.code in
    (λ t. record { ty = types.Text; cells = cells t }) ∙ ap (λ (g : Grown). with_cell g c.args.cell.now) c.self.view_is
