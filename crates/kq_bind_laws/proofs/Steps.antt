-- What an operator is bound to is the next step.
use Rattle.std.proofs.Common.{◌≡◌, ℕ, suc, false, List, [], ◌∷◌, Ok, refl, ap, subst}
use Rattle.kq_bind_query.specs.kq_bind_operators.Flows.{Progressing, Flowing, columns, after, following}
use Rattle.kq_bind_query.specs.kq_bind_operators.Operators.{row_made, printed_row, projected}
use Rattle.kq_bind_query.specs.kq_bind_operators.Scopes.{Scoping, names}
use Rattle.kq_bind_columns.specs.Items.{nothing_made, items_made}
use Rattle.kq_bind_columns.specs.Laying.{as_they_are}
use Rattle.kq_bind_columns.specs.Printed.{printed}
use Rattle.kq_plan_expressions.specs.Terms.{Term, column}
use Rattle.kq_read_grammar.specs.Trees.{ItemTree}
use Rattle.kq_plan.specs.Plans.{Doing, mapped, one_row}
use Rattle.kq_value.specs.declared.schema.Field.{Field}
use Rattle.kq_bind_query.proofs.Progress.{then_ok, done, done_is}
use Rattle.kq_bind_laws.specs.Columns.{Valued, values_of, columns_of, numbered_from, HasNext, IsMapped}
use Rattle.kq_bind_laws.specs.Items.{AreFew, IsProjected, IsPrinted}
use Rattle.kq_bind_laws.proofs.Items.{items_are, printed_are}

pub next_following : (p : Progressing) (v : Flowing) (doing : Doing) (cs : List Field) → following p doing cs ≡ v → HasNext p v doing cs
next_following p v doing cs e =
    let here : HasNext p (following p doing cs) doing cs = record { steps = refl; goes_on = refl } in
    subst (λ (z : Flowing). HasNext p z doing cs) e here

-- the same step under equal terms and columns
pub next_mapped : (w v : Flowing) (es : List Term) (cs : List Field) (out : List Valued) → es ≡ values_of out → cs ≡ columns_of out
    → after w (λ i. mapped i es) cs ≡ v → IsMapped w v out
next_mapped w v es cs out e f g =
    subst (λ (z : List Field). HasNext w.progress v (mapped w.input (values_of out)) z) f
    (subst (λ (z : List Term). HasNext w.progress v (mapped w.input z) cs) e (next_following w.progress v (mapped w.input es) cs g))

pub numbered_columns : (i : ℕ) (cs : List Field) → columns_of (numbered_from i cs) ≡ cs
numbered_columns i [] = refl
numbered_columns i (c ∷ cs) = ap (λ (z : List Field). c ∷ z) (numbered_columns (suc i) cs)

pub numbered_values : (i : ℕ) (cs : List Field) → values_of (numbered_from i cs) ≡ as_they_are i cs
numbered_values i [] = refl
numbered_values i (c ∷ cs) = ap (λ (z : List Term). column i ∷ z) (numbered_values (suc i) cs)

-- ---- project and print

pub projected_so : (s : Scoping) (w v : Flowing) (is : List ItemTree) → AreFew is [] → projected s w is ≡ Ok v → IsProjected s w v is
projected_so s w v is few e =
    let m = then_ok (items_made (names s) (columns w) [] false nothing_made is) (λ m. done (after w (λ i. mapped i m.terms) m.fields)) v e in
    let made = items_are (names s) (columns w) [] false is m.0 few m.1 in
    record {
      out = made.made;
      made = made.are;
      next = next_mapped w v m.0.terms m.0.fields made.made made.terms made.fields (done_is (after w (λ i. mapped i m.0.terms) m.0.fields) v m.2);
    }

pub printed_so : (s : Scoping) (p : Progressing) (v : Flowing) (is : List ItemTree) → AreFew is [] → printed_row s p is ≡ Ok v → IsPrinted s p v is
printed_so s p v is few e =
    let m = then_ok (printed (names s) is) (λ m. done (row_made p m)) v e in
    let made = printed_are (names s) is m.0 few m.1 in
    let next = next_following p v (one_row m.0.terms) m.0.fields (done_is (row_made p m.0) v m.2) in
    record {
      out = made.made;
      made = made.are;
      next = subst (λ (z : List Field). HasNext p v (one_row (values_of made.made)) z) made.fields
          (subst (λ (z : List Term). HasNext p v (one_row z) m.0.fields) made.terms next);
    }
