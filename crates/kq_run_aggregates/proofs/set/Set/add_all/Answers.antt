use Rattle.std.proofs.Common.{◌≡◌, ◌<◌, ◌+◌, List, [], ◌∷◌, ◌++◌, length, take, get_or, sym, ap, ◌∙◌, subst, append_assoc}
use Rattle.std.proofs.lemmas.List.{take_more, take_all}
use Rattle.kq_value.specs.declared.value.Value.{Value}
use Rattle.kq_run_aggregates.specs.Holds.{IsSetOf}
use Rattle.kq_run_aggregates.specs.Steps.{with_value}
use Rattle.kq_run_aggregates.proofs.Sets.{IsSetOf-with_value, IsSetOf-through, front-with_value}
use Rattle.kq_run_aggregates.proofs.set.Set.add_all.Goals as goal

one_more : (n : _) (vs xs : List Value) (i : _) (x : Value) (old new : List Value) → i < length xs → x ≡ get_or xs i x → new ≡ with_value n old x → IsSetOf n (vs ++ take i xs) old → IsSetOf n (vs ++ take (i + 1) xs) new
one_more n vs xs i x old new h at e s =
    let k : take (i + 1) xs ≡ take i xs ++ x ∷ [] = take_more xs i x h ∙ ap (λ y. take i xs ++ y ∷ []) (sym at) in
    rw (k, e, ← append_assoc) (IsSetOf-with_value n (vs ++ take i xs) x old s)

pub loop-element-preserved : goal.loop-element-preserved
loop-element-preserved c = (
  λ vs s. one_more _ vs _ _ _ _ _ c.loop-element-test.true (cc) c.in_ok-add.ensures.ok (c.loop-element.invariant.0 vs s),
  rw c.in_ok-add.ensures.ok (front-with_value _ _ _ _ c.loop-element.invariant.1),
)

pub returns-clause-ok : goal.returns-clause-ok
returns-clause-ok c = record {
  more = λ vs ws s t.
      let e : take c.loop-element.element-index c.as_slice-element-items.result.now ≡ c.args.other.now = take_all c.loop-element.element-index _ c.loop-element-test.false ∙ c.as_slice-element-items.ensures in
      IsSetOf-through c.args.most vs ws c.args.other.now c.loop-element.self t (subst (λ (xs : List Value). IsSetOf c.args.most (vs ++ xs) c.loop-element.self) e (c.loop-element.invariant.0 vs s));
}
