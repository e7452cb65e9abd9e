use Rattle.std.proofs.Common.{◌≡◌, ℕ, List, [], ◌∷◌, ◌++◌, map, sym, ap, ◌∙◌, append_assoc, subst, Option, Bor, rules}
use Rattle.std.specs.Prelude.{MatchOption}
use Rattle.std.proofs.lemmas.List.{map-append}
use Rattle.kq_value_formats.specs.kq_value.Tree.{string, array}
use Rattle.kq_value_formats.specs.Strings.{split}
use Rattle.kq_value_strings.proofs.Pieces.{strings-from}
use Rattle.kq_value_strings.proofs.split.split_text.Goals as goal

pub loop-piece-preserved : goal.loop-piece-preserved
loop-piece-preserved c =
    let done = c.loop-piece.invariant.1.0 in
    let piece = c.in-Some.piece.now in
    let texts = c.loop-piece.invariant.1.1 in
    let text : c.in_ok-from_str.field-0 ≡ piece = c.in_ok-from_str.ensures in (
      search rules,
      (
        done ++ piece ∷ [],
        c.in_ok-push.ensures.ok ∙ (λ i. texts i ++ string (text i) ∷ []) ∙ sym (map-append string done (piece ∷ [])),
        c.loop-piece.invariant.1.2 ∙ ap (λ xs. done ++ xs) c.in-Some.ensures.pieces ∙ sym (append_assoc done (piece ∷ []) (split c.in-Some.after.now c.args.part.now)),
      ),
    )

pub returns : goal.returns
returns c =
    let done = c.loop-piece.invariant.1.0 in
    let rest = c.loop-piece.rest.now in
    let part = c.args.part.now in
    let texts = c.loop-piece.invariant.1.1 in
    let text : c.in_ok-from_str-2.field-0 ≡ rest = c.in_ok-from_str-2.ensures in
    let last : split rest part ≡ rest ∷ [] =
    subst (λ (r : Option (Bor (List ℕ) × Bor (List ℕ))). MatchOption r (split rest part ≡ rest ∷ []) (λ x. split rest part ≡ x.0.now ∷ split x.1.now part)) c.in_default.is c.cut.ensures.pieces in
    let all : split c.args.text.now part ≡ done ++ rest ∷ [] = c.loop-piece.invariant.1.2 ∙ ap (λ xs. done ++ xs) last in
    let items = c.in_ok-push-2.ensures.ok ∙ (λ i. texts i ++ string (text i) ∷ []) ∙ sym (map-append string done (rest ∷ [])) ∙ ap (map string) (sym all) in
    ap array (strings-from _ _ items)
