use Rattle.std.proofs.Common.{◌≡◌, ◌+◌, ◌-◌, ◌++◌, length, get_or, take, arith, ap, ◌∙◌, rules}
use Rattle.std.specs.Arc.{arc_value}
use Rattle.kq_store_shared_lists.specs.declared.parts.Part.{Part}
use Rattle.kq_store_shared_lists.specs.Pieces.{piece_items}
use Rattle.kq_store_shared_lists.proofs.Joined.{items_in-joined}
use Rattle.kq_store_shared_lists.proofs.parts.join_last.Goals as goal

pub returns-clause-items : goal.returns-clause-items
returns-clause-items g c =
    let parts = c.args.parts.now.items in
    let left = c.index-left.result.now in
    let right = c.index-right.result.now in
    let n = c.len-last.result - 1 - 1 in
    let two : length parts ≡ n + 2 = omega (arith, c.requires.two, c.len-last.ensures) in
    let a : left ≡ get_or parts n left = search rules in
    let b : right ≡ get_or parts (n + 1) right = search rules in
    let p : Part _ = record { piece = c.in_ok-piece.piece; len = left.len + right.len } in
    let cut : c.truncate.new.self.items ≡ take (n + 1) parts = search rules in
    rw cut (items_in-joined parts n left right p two a b (c.in_ok-piece.ensures.items ∙ ap (λ x. piece_items x ++ piece_items (arc_value c.in_ok-second.second)) c.in_ok-first.ensures ∙ ap (λ x. piece_items (arc_value left.piece) ++ piece_items x) c.in_ok-second.ensures))
