-- Behind the rows of a table, the operators of a body make the steps of one.
use Rattle.std.proofs.Common.{◌≡◌, ℕ, suc, ◌+◌, true, List, [], ◌∷◌, ◌++◌, length, All, Option, Some, None, Ok, ap, subst, length-append, arith}
use Rattle.std.proofs.lemmas.List.Elements.{All-push}
use Rattle.kq_bind_query.specs.Pipes.{operated, piped}
use Rattle.kq_bind_query.specs.kq_bind_operators.Flows.{Flowing}
use Rattle.kq_bind_query.specs.kq_bind_operators.Scopes.{Scoping}
use Rattle.kq_view_body.specs.Bodies.{Part, table_name, row_operator, summarize, foreign, is_steps}
use Rattle.kq_view_body.specs.Moments.{moment_in_body}
use Rattle.kq_view_body.specs.Parts.{foreign_at, role_of, in_role, operator_parts}
use Rattle.kq_bind_query.proofs.Progress.{then_ok, done_is}
use Rattle.kq_read_grammar.specs.Trees.{Operators, no_operator, and_operator}
use Rattle.kq_run_gather.specs.Bodies.{is_body_step, is_summarize, Chained}
use Rattle.kq_run_gather.specs.Steps.{flows_from}
use Rattle.kq_plan.specs.declared.work.LeafKind.TheVariants as kind
use Rattle.kq_plan.specs.Plans.{Stepping, leaf}
use Rattle.kq_value.specs.declared.schema.Field.{Field}
use Rattle.kq_view_body.proofs.Adding.{AddsOne, Adds, operated_adds}

-- ---- chains

chained_behind : (n : ℕ) (ss : List Stepping) (s : Stepping) (m : ℕ) → m ≡ n + length ss → Chained n ss → flows_from s.doing ≡ Some m → Chained n (ss ++ s ∷ [])
chained_behind n [] s m is h takes = (subst (λ k. flows_from s.doing ≡ Some k) (omega (arith, is)) takes, tt)
chained_behind n (t ∷ ss) s m is h takes = (h.0, chained_behind (suc n) ss s m (omega (arith, is)) h.1 takes)

-- ---- on the way

abbrev pub IsRowStep : Stepping → Type 0
IsRowStep s = is_body_step s.doing ≡ true

-- the rows of the table, and row operators, whose last rows go on
pub record IsBegun (table : List ℕ) (columns : List Field) (w : Flowing) : Type 0 where
  pub source : Stepping
  pub by_row : List Stepping
  pub steps : w.progress.steps ≡ source ∷ by_row
  pub reads : source.doing ≡ leaf kind.Table table
  pub under : source.columns ≡ columns
  pub rows_only : All IsRowStep by_row
  pub chained : Chained 0 by_row
  pub input : w.input ≡ length by_row

-- these, and one summarize
pub record IsEnded (table : List ℕ) (columns : List Field) (w : Flowing) : Type 0 where
  pub source : Stepping
  pub by_row : List Stepping
  pub last : Stepping
  pub steps : w.progress.steps ≡ source ∷ (by_row ++ last ∷ [])
  pub reads : source.doing ≡ leaf kind.Table table
  pub under : source.columns ≡ columns
  pub rows_only : All IsRowStep by_row
  pub groups : is_summarize last.doing ≡ true
  pub chained : Chained 0 (by_row ++ last ∷ [])
  pub input : w.input ≡ suc (length by_row)

row_begun : (table : List ℕ) (cs : List Field) (w v : Flowing) → IsBegun table cs w → AddsOne is_body_step w v → IsBegun table cs v
row_begun table cs w v g a =
    let one : Stepping = record { stage = w.progress.stages + 1; doing = a.doing; columns = a.made } in
    let long : length (g.by_row ++ one ∷ []) ≡ length g.by_row + 1 = length-append g.by_row (one ∷ []) in
    let before : length w.progress.steps ≡ suc (length g.by_row) = ap (λ (ss : List Stepping). length ss) g.steps in
    subst (IsBegun table cs) a.so (record {
      source = g.source;
      by_row = g.by_row ++ one ∷ [];
      steps = ap (λ (ss : List Stepping). ss ++ one ∷ []) g.steps;
      reads = g.reads;
      under = g.under;
      rows_only = All-push IsRowStep g.by_row one g.rows_only a.kind;
      chained = chained_behind 0 g.by_row one w.input (let is = g.input in omega (arith, is)) g.chained a.takes;
      input = omega (arith, long, before);
    })

last_ended : (table : List ℕ) (cs : List Field) (w v : Flowing) → IsBegun table cs w → AddsOne is_summarize w v → IsEnded table cs v
last_ended table cs w v g a =
    let one : Stepping = record { stage = w.progress.stages + 1; doing = a.doing; columns = a.made } in
    subst (IsEnded table cs) a.so (record {
      source = g.source;
      by_row = g.by_row;
      last = one;
      steps = ap (λ (ss : List Stepping). ss ++ one ∷ []) g.steps;
      reads = g.reads;
      under = g.under;
      rows_only = g.rows_only;
      groups = a.kind;
      chained = chained_behind 0 g.by_row one w.input (let is = g.input in omega (arith, is)) g.chained a.takes;
      input = ap (λ (ss : List Stepping). length ss) g.steps;
    })

-- ---- operators

-- nothing stands behind the summarize
nothing_more : (table : List ℕ) (cs : List Field) (s : Scoping) (u v : Flowing) (at : ℕ) (bs : Operators) → IsEnded table cs u → piped s u bs ≡ Ok v
    → is_steps (summarize at ∷ operator_parts s.text bs) ≡ true → IsEnded table cs v
nothing_more table cs s u v at no_operator h e form = subst (IsEnded table cs) (done_is u v e) h
nothing_more table cs s u v at (and_operator t b bs) h e form = absurd (cc)

-- an operator, with its leftmost call of now or ago, and the others
operator_ends : (table : List ℕ) (cs : List Field) (s : Scoping) (w u v : Flowing) (bs : Operators) → IsBegun table cs w → piped s u bs ≡ Ok v
    → (IsBegun table cs u → is_steps (operator_parts s.text bs) ≡ true → IsEnded table cs v)
    → (p : Part) (o : Option ℕ) → Adds p w u → is_steps (p ∷ (foreign_at o ++ operator_parts s.text bs)) ≡ true → IsEnded table cs v
operator_ends table cs s w u v bs g e next (row_operator at) None adds form = next (row_begun table cs w u g adds) form
operator_ends table cs s w u v bs g e next (summarize at) None adds form = nothing_more table cs s u v at bs (last_ended table cs w u g adds) e form
operator_ends table cs s w u v bs g e next (row_operator at) (Some now) adds form = absurd (cc)
operator_ends table cs s w u v bs g e next (summarize at) (Some now) adds form = absurd (cc)
operator_ends table cs s w u v bs g e next (table_name at) o adds form = absurd (cc)
operator_ends table cs s w u v bs g e next (foreign at) o adds form = absurd (cc)

pub piped_ends : (table : List ℕ) (cs : List Field) (s : Scoping) (w : Flowing) (bs : Operators) (v : Flowing) → IsBegun table cs w → piped s w bs ≡ Ok v
    → is_steps (operator_parts s.text bs) ≡ true → IsEnded table cs v
piped_ends table cs s w no_operator v g e form = absurd (cc)
piped_ends table cs s w (and_operator t b bs) v g e form =
    let u = then_ok (operated s w b) (λ u. piped s u bs) v e in
    operator_ends table cs s w u.0 v bs g u.2 (λ h rest. piped_ends table cs s u.0 bs v h u.2 rest) (in_role (role_of b) t.from) (moment_in_body s.text b)
    (operated_adds s w b u.0 t.from u.1) form
