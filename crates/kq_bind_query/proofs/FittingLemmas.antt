-- A bound plan fits the names that it is bound over.
use Rattle.std.proofs.Common.{◌≡◌, ℕ, ◌+◌, Bool, true, false, cond, List, [], ◌∷◌, ◌++◌, Option, Some, None, Result, Ok, Err, IfOk, refl, ap, ◌∙◌, subst}
use Rattle.std.proofs.lemmas.List.Elements.{All-nil, All-push, All-weaker}
use Rattle.kq_bind_query.specs.kq_bind_operators.Flows.{Flowing, columns_at}
use Rattle.kq_bind_query.specs.Pipes.{tabular}
use Rattle.kq_bind_query.specs.Queries.{Letting, nothing_let, scope_of, is_let, scalar_put, tabular_put, if_new, scalar_let, tabular_let, bare_name, is_tabular, let_made, lets_made, planned, query_walked, query_bound}
use Rattle.kq_bind_query.specs.kq_bind_operators.Scopes.{Tabling, names}
use Rattle.kq_bind_query.specs.kq_bind_supported.Unsupported.{unsupported_query}
use Rattle.kq_bind_columns.specs.Items.{field}
use Rattle.kq_bind_expressions.specs.declared.fault.BindFault.{BindFault}
use Rattle.kq_bind_expressions.specs.Bound.{bound}
use Rattle.kq_bind_expressions.specs.Verdicts.{AnswersVerdict, Verdict, and_then, mistyped, supported_or}
use Rattle.kq_plan_expressions.specs.Terms.{Bound}
use Rattle.kq_read_grammar.specs.declared.expression.Name.{Name}
use Rattle.kq_read_grammar.specs.Trees.{Tree, TabularTree, LetTree, QueryTree}
use Rattle.kq_plan.specs.declared.plan.Plan.{Plan}
use Rattle.kq_plan.specs.Fits.{IsTyped, FitsNames}
use Rattle.kq_plan.specs.Names.{Known}
use Rattle.kq_plan.specs.Plans.{Stepping, Planned, planned_of, scalar as scalar_step}
use Rattle.kq_read_meanings.specs.Names.{name_said, name_place}
use Rattle.kq_read_symbols.specs.Choices.{Right, scalar, table, either}
use Rattle.kq_value.specs.declared.schema.Field.{Field}
use Rattle.kq_bind_query.proofs.Progress.{then_ok, done, done_is, IsTable, given_kept, kept_behind, lets_behind, fit_behind, Holds, Goes, over_lets}
use Rattle.kq_bind_query.proofs.Items.{bound_typed}
use Rattle.kq_bind_query.proofs.Pipes.{tabular_goes}

-- ---- one let

-- the steps of the lets fit, in their scope
abbrev IsLet : List ℕ → (List ℕ → Option Known) → Letting → Type 0
IsLet text known l = Holds (scope_of text known l) l.progress.steps

new_holds : (text : List ℕ) (known : List ℕ → Option Known) (l m x : Letting) (n : Name) → if_new text l n x ≡ Ok m → IsLet text known x → IsLet text known m
new_holds text known l m x n e h = by (is_let l (name_said text n)) e where
  by : (b : Bool) → cond {A = Verdict Letting} b (Err (mistyped (name_place n))) (done x) ≡ Ok m → IsLet text known m
  by true g = absurd (cc)
  by false g = subst (IsLet text known) (done_is x m g) h

scalar_holds : (text : List ℕ) (known : List ℕ → Option Known) (l : Letting) (said : List ℕ) (x : Bound) → IsLet text known l → IsTyped l.lets [] x.0 x.1
    → IsLet text known (scalar_put l said x)
scalar_holds text known l said x h is =
    let ss = l.progress.steps in
    let f = field said x.1 in
    let one : Stepping = record { stage = l.progress.stages + 1; doing = scalar_step x.0; columns = f ∷ [] } in
    let more = kept_behind ss (one ∷ []) in
    let typed = over_lets (scope_of text known l) ss (λ ls. IsTyped ls [] x.0 x.1) h is in
    record {
      fits = fit_behind known [] ss one h.fits (x.1, refl, typed);
      lets = lets_behind ss (one ∷ []) ∙ ap (λ (ls : List Field). ls ++ f ∷ []) h.lets;
      tables = All-weaker (IsTable ss) (IsTable (ss ++ one ∷ [])) (λ t g. given_kept ss (ss ++ one ∷ []) t.input more g) l.tables h.tables;
    }

tabular_holds : (text : List ℕ) (known : List ℕ → Option Known) (l : Letting) (said : List ℕ) (w : Flowing) → Goes (scope_of text known l) l.progress.steps w
    → IsLet text known (tabular_put l said w)
tabular_holds text known l said w g =
    let t : Tabling = record { name = said; input = w.input } in
    record { fits = g.holds.fits; lets = g.holds.lets; tables = All-push (IsTable w.progress.steps) l.tables t g.holds.tables g.rows }

scalar_let_holds : (text : List ℕ) (known : List ℕ → Option Known) (l m : Letting) (n : Name) (e : Tree) → IsLet text known l
    → scalar_let text known l n e ≡ Ok m → IsLet text known m
scalar_let_holds text known l m n e h is =
    let s = names (scope_of text known l) in
    let x = then_ok (bound s [] e) (λ x. if_new text l n (scalar_put l (name_said text n) x)) m is in
    new_holds text known l m (scalar_put l (name_said text n) x.0) n x.2 (scalar_holds text known l (name_said text n) x.0 h (bound_typed s [] e x.0 x.1))

tabular_let_holds : (text : List ℕ) (known : List ℕ → Option Known) (l m : Letting) (n : Name) (q : TabularTree) → IsLet text known l
    → tabular_let text known l n q ≡ Ok m → IsLet text known m
tabular_let_holds text known l m n q h is =
    let s = scope_of text known l in
    let w = then_ok (tabular s l.progress q) (λ w. if_new text l n (tabular_put l (name_said text n) w)) m is in
    new_holds text known l m (tabular_put l (name_said text n) w.0) n w.2
    (tabular_holds text known l (name_said text n) w.0 (tabular_goes s l.progress q w.0 h w.1))

-- ---- lets

let_holds : (text : List ℕ) (known : List ℕ → Option Known) (l m : Letting) (n : Name) (r : Right Tree TabularTree) → IsLet text known l
    → let_made text known l n r ≡ Ok m → IsLet text known m
let_holds text known l m n (scalar e) h is = scalar_let_holds text known l m n e h is
let_holds text known l m n (table q) h is = tabular_let_holds text known l m n q h is
let_holds text known l m n (either e q) h is = by (is_tabular text known l (bare_name e)) is where
  by : (b : Bool) → cond b (tabular_let text known l n q) (scalar_let text known l n e) ≡ Ok m → IsLet text known m
  by true g = tabular_let_holds text known l m n q h g
  by false g = scalar_let_holds text known l m n e h g

lets_hold : (text : List ℕ) (known : List ℕ → Option Known) (l m : Letting) (xs : List LetTree) → IsLet text known l → lets_made text known l xs ≡ Ok m
    → IsLet text known m
lets_hold text known l m [] h is = subst (IsLet text known) (done_is l m is) h
lets_hold text known l m (x ∷ xs) h is =
    let k = then_ok (let_made text known l x.name x.right) (λ k. lets_made text known k xs) m is in
    lets_hold text known k.0 m xs (let_holds text known l k.0 x.name x.right h k.1) k.2

-- ---- queries

nothing_holds : (text : List ℕ) (known : List ℕ → Option Known) → IsLet text known nothing_let
nothing_holds text known = record { fits = tt; lets = refl; tables = All-nil (IsTable []) }

supported : {A : Type 0} (o : Option ℕ) (v : Verdict A) (x : A) → supported_or o v ≡ Ok x → v ≡ Ok x
supported None v x e = e
supported (Some at) v x e = absurd (cc)

abbrev pub IsFitting : (List ℕ → Option Known) → Planned → Type 0
IsFitting known p = FitsNames known p (columns_at p.steps p.output)

walked_fits : (text : List ℕ) (known : List ℕ → Option Known) (q : QueryTree) (p : Planned) → query_walked text known q ≡ Ok p → IsFitting known p
walked_fits text known q p e =
    let l = then_ok (lets_made text known nothing_let q.lets)
    (λ l. and_then (tabular (scope_of text known l) l.progress q.tabular) (λ w. done (planned w))) p e in
    let w = then_ok (tabular (scope_of text known l.0) l.0.progress q.tabular) (λ w. done (planned w)) p l.2 in
    let g =
    tabular_goes (scope_of text known l.0) l.0.progress q.tabular w.0 (lets_hold text known nothing_let l.0 q.lets (nothing_holds text known) l.1) w.1 in
    subst (IsFitting known) (done_is (planned w.0) p w.2) (record { steps = g.holds.fits; output = g.rows })

-- whatever a query is bound to fits
pub bound_fits : (text : List ℕ) (known : List ℕ → Option Known) (q : QueryTree) (p : Planned) → query_bound text known q ≡ Ok p
    → FitsNames known p (columns_at p.steps p.output)
bound_fits text known q p e = walked_fits text known q p (supported (unsupported_query text q) (query_walked text known q) p e)

-- what the code answers
pub answer_fits : (text : List ℕ) (known : List ℕ → Option Known) (q : QueryTree) (r : Result Plan BindFault)
    → AnswersVerdict planned_of (query_bound text known q) r → IfOk r (λ (p : Plan). IsFitting known (planned_of p))
answer_fits text known q (Ok p) e = bound_fits text known q (planned_of p) e
answer_fits text known q (Err f) e = tt
