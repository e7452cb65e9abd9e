use Rattle.std.proofs.Common.{◌≡◌, ◌<◌, ◌∷◌, ◌++◌, ℕ, [], List, ap, length, subst, sym, take, ◌∙◌, arith}
use Rattle.std.specs.List.{All}
use Rattle.std.proofs.lemmas.List.{take_all, take_more}
use Rattle.std.proofs.lemmas.List.Elements.{All-take}
use Rattle.kq_value.specs.declared.value.Value.{Value}
use Rattle.kq_store_rows.specs.Chunks.{HasWidth}
use Rattle.kq_store_frame.proofs.frame.Frame.to_rows.Goals as goal

pub push_from-requires : goal.push_from-requires
push_from-requires c =
    let rows = c.args.self.now in
    let i = c.loop-index.index in
    let row = c.fill.new.row.items in
    let w = c.width-width.result in
    let within : i < length rows = omega (arith, c.loop-index-test.true, c.len-index-end.ensures.count) in
    let long : length row ≡ w = ap length c.in_ok-fill.ensures ∙ c.width-width.ensures i [] within in
    let wide = All-take (HasWidth w) i rows c.width-width.ensures in
    subst (λ (rs : List (List Value)). All (HasWidth (length row)) rs) (sym c.loop-index.invariant.made) (subst (λ (n : ℕ). All (HasWidth n) (take i rows)) (sym long) wide)

pub loop-index-preserved : goal.loop-index-preserved
loop-index-preserved c =
    let rows = c.args.self.now in
    let i = c.loop-index.index in
    let within : i < length rows = omega (arith, c.loop-index-test.true, c.len-index-end.ensures.count) in
    record {
      made = c.in_ok-push_from.ensures.ok ∙ (λ t. c.loop-index.invariant.made t ++ c.in_ok-fill.ensures t ∷ []) ∙ sym (take_more rows i [] within);
      none = c.in_ok-push_from.ensures.left;
    }

pub returns : goal.returns
returns c = c.loop-index.invariant.made ∙ take_all c.loop-index.index c.args.self.now (omega (arith, c.loop-index-test.false, c.len-index-end.ensures.count))
