use Rattle.std.proofs.Common.{◌≡◌, ℕ, List, ◌++◌, string_bytes, sym, ap, ◌∙◌, append_assoc, rules}
use Rattle.kq_value_formats.specs.Strings.{replace_string}
use Rattle.kq_value_strings.proofs.Pieces.{replace-first}
use Rattle.kq_value_strings.proofs.split.replace_text.Goals as goal

regroup : (s p b r : List ℕ) → s ++ (p ++ (b ++ r)) ≡ ((s ++ p) ++ b) ++ r
regroup s p b r = simp append_assoc

pub loop-piece-preserved : goal.loop-piece-preserved
loop-piece-preserved c =
    let by = c.args.by.now in
    let old = string_bytes c.loop-piece.replaced in
    let piece = c.in-Some.piece.now in
    let rest = replace_string c.in-Some.after.now c.args.part.now by in
    let step = replace-first c.loop-piece.rest.now c.args.part.now by piece c.in-Some.after.now c.in-Some.ensures.pieces in
    let bytes : string_bytes c.push_str-in-Some.new.self ≡ (old ++ piece) ++ by = c.in_ok-push_str-2.ensures.bytes ∙ ap (λ xs. xs ++ by) c.in_ok-push_str.ensures.bytes in
    (search rules, c.loop-piece.invariant.1 ∙ ap (λ xs. old ++ xs) step ∙ regroup old piece by rest ∙ ap (λ xs. xs ++ rest) (sym bytes))
