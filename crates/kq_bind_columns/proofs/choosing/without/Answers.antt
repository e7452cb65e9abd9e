use Rattle.std.proofs.Common.{◌≡◌, ℕ, zero, suc, ◌+◌, ◌<◌, ◌++◌, true, List, [], ◌∷◌, length, map, drop, refl, ap, ◌∙◌, arith, add-one, rules}
use Rattle.kq_bind_columns.specs.Chosen.{has_number, without}
use Rattle.kq_bind_columns.proofs.choosing.without.Goals as goal
use Rattle.kq_plan_expressions.specs.Terms.{term_of}
use Rattle.kq_value.specs.declared.schema.Field.{Field}

left_out : (j i : ℕ) (cs : List Field) (is : List ℕ) → i < length cs → has_number is j ≡ true → without j (drop i cs) is ≡ without (suc j) (drop (suc i) cs) is
left_out j i [] is h e = absurd (omega arith)
left_out j zero (c ∷ cs) is h e = rw e refl
left_out j (suc i) (c ∷ cs) is h e = left_out j i cs is (omega arith) e

pub loop-i-preserved-then-has_number : goal.loop-i-preserved-then-has_number
loop-i-preserved-then-has_number c =
    let i = c.loop-i.i in
    let given : has_number c.args.numbers.now i ≡ true = search rules in
    let next : without i (drop i c.args.columns.now) c.args.numbers.now ≡ without (i + 1) (drop (i + 1) c.args.columns.now) c.args.numbers.now =
    rw add-one (left_out i i c.args.columns.now c.args.numbers.now (omega arith) given) in
    c.loop-i.invariant ∙ ap (λ rest. (map term_of c.loop-i.exprs.items ++ rest.0, c.loop-i.fields.items ++ rest.1)) next
