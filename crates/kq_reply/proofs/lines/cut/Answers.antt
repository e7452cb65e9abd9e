use Rattle.std.proofs.Common.{◌≡◌, ◌++◌, ◌∷◌, [], Bor, List, ℕ, length, map, ap, ◌∙◌, arith}
use Rattle.std.proofs.lemmas.List.{map-append}
use Rattle.kq_reply.proofs.Cut.{first_fits, others_fit, pieces-more}
use Rattle.kq_reply.proofs.lines.cut.Goals as goal

abbrev shown : Bor (List ℕ) → List ℕ
shown line = line.now

pub split_at-requires : goal.split_at-requires
split_at-requires c = first_fits c.args.sizes.now c.loop-size.size-index (length c.loop-size.rest.now) (omega arith) c.loop-size.invariant.fits

pub loop-size-preserved : goal.loop-size-preserved
loop-size-preserved c =
    let sizes = c.args.sizes.now in
    let i = c.loop-size.size-index in
    let rest = c.loop-size.rest.now in
    let pushed : map shown c.push.new.self.items ≡ map shown c.loop-size.lines.items ++ c.split_at.result.0.now ∷ [] =
    ap (λ (lines : List (Bor (List ℕ))). map shown lines) c.in_ok-push.ensures.items ∙ map-append shown c.loop-size.lines.items (c.split_at.result.0 ∷ []) in
    record {
      cut = pieces-more (map shown c.loop-size.lines.items) (map shown c.push.new.self.items) sizes i rest c.split_at.result.0.now c.split_at.result.1.now _ (omega arith) c.split_at.ensures.front c.split_at.ensures.back pushed c.loop-size.invariant.cut;
      fits = others_fit sizes i rest c.split_at.result.1.now (omega arith) c.loop-size.invariant.fits c.split_at.ensures.back;
    }
