-- Conditions with values in place of what gives the same of each row.
use Rattle.std.proofs.Common.{◌≡◌, ℤ, false, List, [], ◌∷◌, ◌++◌, map, Option, Some, None, Result, Ok, Err, Vec, sym, ap, ◌∙◌, subst}
use Rattle.std.specs.Prelude.{IfOk, IfSome}
use Rattle.std.specs.declared.alloc.AllocError.{AllocError}
use Rattle.std.specs.declared.alloc.Global.{Global}
use Rattle.kq_value.specs.declared.value.Value.{Value}
use Rattle.kq_value.specs.Computed.{Is}
use Rattle.kq_plan_expressions.specs.declared.expr.Expr.{Expr}
use Rattle.kq_plan_expressions.specs.declared.expr.Expr.TheOpen.{Expr-F}
use Rattle.kq_plan_expressions.specs.declared.expr.Expr.TheFolds.{fold-roll-Expr}
use Rattle.kq_plan_expressions.specs.declared.expr.Expr.TheVariants.{Call, Literal, rolls-Call, rolls-Literal}
use Rattle.kq_plan_expressions.specs.declared.expr.Link.{Link}
use Rattle.kq_plan_expressions.specs.declared.expr.Link.TheVariants as link
use Rattle.kq_plan_expressions.specs.declared.operation.Operation.TheVariants as operation
use Rattle.kq_plan_expressions.specs.Operations.{function_of}
use Rattle.kq_plan_expressions.specs.Terms.{Term, call, linked, literal, one_term, term_of, terms_of}
use Rattle.kq_plan_functions.specs.declared.function.Function.{Function}
use Rattle.kq_run_row_operators.specs.kq_eval_pieces.Operators.{Row}
use Rattle.kq_run_row_operators.specs.kq_eval_row.Val.{Surroundings, meaning, meanings, surroundings, val}
use Rattle.kq_run_row_operators.proofs.kq_eval_row.Meant.{val_is_meaning}
use Rattle.kq_run_row_operators.specs.Operators.{Rowwise}
use Rattle.kq_run_scan.specs.Constant.{reads}
use Rattle.kq_run_scan.specs.Ruled.{FirstKeeps, IsRuledBy, LeavesNothing}
use Rattle.kq_run_scan.specs.Settled.{IsJoined, JoinsTo, MeanAs, MeansAs, SettleTo, SettlesTo, StandsFor}
use Rattle.kq_run_scan.proofs.Constants.{GiveSame, same_alone, same_called}
use Rattle.kq_run_scan.proofs.LeftOut.{first_so, left_out}

-- ---- terms with others in place of their parts

each_same : (s : Surroundings) (es ds : List Term) → MeanAs s es ds → (row : Row) → GiveSame s row row (meanings (terms_of ds)) (meanings (terms_of es))
each_same s [] [] h row = tt
each_same s (e ∷ es) (d ∷ ds) h row = (h.0 row, each_same s es ds h.1 row)
each_same s [] (d ∷ ds) h row = absurd h
each_same s (e ∷ es) [] h row = absurd h

call_same : (s : Surroundings) (function : Function) (es ds : List Term) → MeanAs s es ds → MeansAs s (call function (terms_of es)) (call function (terms_of ds))
call_same s function es ds h row = same_called s row row function (meanings (terms_of ds)) (meanings (terms_of es)) (each_same s es ds h row)

pub mean_more : (s : Surroundings) (es ds : List Term) (e d : Term) → MeanAs s es ds → MeansAs s e d → MeanAs s (es ++ e ∷ []) (ds ++ d ∷ [])
mean_more s [] [] e d h same = (same, tt)
mean_more s (x ∷ es) (y ∷ ds) e d h same = (h.0, mean_more s es ds e d h.1 same)
mean_more s [] (y ∷ ds) e d h same = absurd h
mean_more s (x ∷ es) [] e d h same = absurd h

-- two that are joined by `and`
pub joined_same : (s : Surroundings) (e d a b : Term) → MeansAs s e d → MeansAs s a b → MeansAs s (linked e (link.With operation.And a)) (linked d (link.With operation.And b))
joined_same s e d a b first second = call_same s (function_of operation.And) (e ∷ a ∷ []) (d ∷ b ∷ []) (first, (second, tt))

-- and one link more
pub link_same : (s : Surroundings) (e d : Term) (l : Link Term) (a : Term) → MeansAs s e d → IsJoined s l a → MeansAs s (linked e (link.With operation.And a)) (linked d l)
link_same s e d l a first joined =
    subst (λ (k : Link Term). MeansAs s (linked e (link.With operation.And a)) (linked d k)) (sym joined.is) (joined_same s e d a joined.operand first joined.same)

-- ---- expressions

term_of_call : (function : Function) (args : Vec Expr Global) → term_of (Call function args) ≡ call function (terms_of (map term_of args.items))
term_of_call function args = ap term_of (sym (rolls-Call function args)) ∙ fold-roll-Expr Term one_term (Expr-F.Call function args)

term_of_literal : (v : Value) → term_of (Literal v) ≡ literal v
term_of_literal v = ap term_of (sym (rolls-Literal v)) ∙ fold-roll-Expr Term one_term (Expr-F.Literal v)

-- a call of other arguments
pub call_settled : (s : Surroundings) (e : Expr) (function : Function) (args others : Vec Expr Global) → e ≡ Call function args → MeanAs s (map term_of others.items) (map term_of args.items) → MeansAs s (term_of (Call function others)) (term_of e)
call_settled s e function args others is same row =
    ap (λ (x : Expr). meaning (term_of x) s row) is ∙ ap (λ (t : Term). meaning t s row) (term_of_call function args)
    ∙ call_same s function (map term_of others.items) (map term_of args.items) same row
    ∙ ap (λ (t : Term). meaning t s row) (sym (term_of_call function others))

-- a literal of the value
pub literal_settled : (s : Surroundings) (t : Term) (v : Value) → StandsFor s t v → MeansAs s (term_of (Literal v)) t
literal_settled s t v stands row = stands row ∙ ap (λ (u : Term). meaning u s row) (sym (term_of_literal v))

-- what is evaluated of one row stands for all
pub stands_for_all : (s : Surroundings) (e : Expr) (v : Value) (one : Row) → reads (term_of e) ≡ false → val e s one ≡ Is v → StandsFor s (term_of e) v
stands_for_all s e v one none is row = same_alone (term_of e) none s row one ∙ ap (λ m. m s one) (sym (val_is_meaning e)) ∙ is

-- ---- what came

pub some_settled : (s : Surroundings) (t : Term) (o : Option Expr) (e : Expr) → SettlesTo s t (Ok o) → o ≡ Some e → MeansAs s (term_of e) t
some_settled s t o e settles is = subst (λ (p : Option Expr). SettlesTo s t (Ok p)) is settles

pub all_settled : (s : Surroundings) (ts : List Term) (o : Option (Vec Expr Global)) (es : Vec Expr Global) → SettleTo s ts (Ok o) → o ≡ Some es → MeanAs s (map term_of es.items) ts
all_settled s ts o es settles is = subst (λ (p : Option (Vec Expr Global)). SettleTo s ts (Ok p)) is settles

pub some_joined : (s : Surroundings) (l : Link Term) (o : Option Expr) (e : Expr) → JoinsTo s l (Ok o) → o ≡ Some e → IsJoined s l (term_of e)
some_joined s l o e joins is = subst (λ (p : Option Expr). JoinsTo s l (Ok p)) is joins

-- an operand that has been settled, behind its link
pub joins : (s : Surroundings) (l : Link Term) (a : Term) (r : Result (Option Expr) AllocError) → l ≡ link.With operation.And a → SettlesTo s a r → JoinsTo s l r
joins s l a (Ok (Some e)) is settles = record { operand = a; is = is; same = settles }
joins s l a (Ok None) is settles = tt
joins s l a (Err x) is settles = tt

pub stands_at : (now again : ℤ) (lets : List Value) (e : Expr) (v : Value) (one : Row) → again ≡ now → reads (term_of e) ≡ false → val e (surroundings again lets) one ≡ Is v → StandsFor (surroundings now lets) (term_of e) v
stands_at now again lets e v one same none is = stands_for_all (surroundings now lets) e v one none (subst (λ (z : ℤ). val e (surroundings z lets) one ≡ Is v) same is)

-- ---- the first condition

pub first_found : (os : List Rowwise) (s : Surroundings) (t : Term) (r : Result (Option Expr) AllocError) → FirstKeeps os (λ u. u ≡ t) → SettlesTo s t r → IfOk r (λ o. IfSome o (λ e. FirstKeeps os (MeansAs s (term_of e))))
first_found os s t (Ok (Some e)) first settles = first_so os t (MeansAs s (term_of e)) first settles
first_found os s t (Ok None) first settles = tt
first_found os s t (Err x) first settles = tt

-- no row is left of those that it keeps none of
pub ruled_out : (os : List Rowwise) (s : Surroundings) (first : Option Expr) (rows : List Row) → IfSome first (λ e. FirstKeeps os (MeansAs s (term_of e))) → IsRuledBy first rows → LeavesNothing os s rows
ruled_out os s (Some e) rows stands none = left_out os s rows (term_of e) stands none
ruled_out os s None rows stands none = absurd none
