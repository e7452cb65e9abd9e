use Rattle.std.proofs.Common.{◌≡◌, ◌∷◌, ◌++◌, [], is_none, unwrap_or, ap, ◌∙◌, rules, pos, Bool, to_z, of_z, w64}
use Rattle.std.proofs.lemmas.Int.{to_z-of_z}
use Rattle.kq_store_column.proofs.Joined.{built_one}
use Rattle.kq_store_column.proofs.Marked.{none_is}
use Rattle.kq_store_column.proofs.numbers.add_cell.Goals as goal

pub returns-clause-ok : goal.returns-clause-ok
returns-clause-ok c = λ any cells built.
    let ns = c.args.nulls.now.items in
    let zs = c.args.numbers.now.items in
    let o = c.number_of-number.result in
    let same : to_z w64 (of_z w64 c.unwrap_or.result) ≡ c.unwrap_or.result = search (rules, to_z-of_z) in
    let marks : c.push.new.self.items ≡ ns ++ is_none o ∷ [] = c.in_ok-push.ensures.items ∙ ap (λ (b : Bool). ns ++ b ∷ []) (none_is o c.is_none.result c.is_none.ensures) in
    let numbers : c.push_reserved.new.self.items ≡ zs ++ unwrap_or o (pos 0) ∷ [] = c.push_reserved.ensures.items ∙ (λ t. c.in_ok-reserve.ensures.items t ++ (same ∙ c.unwrap_or.ensures) t ∷ []) in
    rw (marks, numbers, none_is o c.is_none-2.result c.is_none-2.ensures) (built_one c.args.ty ns zs any cells o c.args.cell.now c.number_of-number.ensures.stands c.number_of-number.ensures.fits built)
