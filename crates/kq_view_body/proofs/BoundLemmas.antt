-- A query that has the form of a body over a table is bound to a plan that has it, over the table's columns.
use Rattle.std.proofs.Common.{◌≡◌, ℕ, suc, ◌+◌, Bool, true, false, cond, List, [], ◌∷◌, ◌++◌, length, Option, Some, None, Ok, refl, sym, ap, ◌∙◌, subst}
use Rattle.std.proofs.lemmas.List.Elements.{All-nil}
use Rattle.std.proofs.lemmas.Slice.Eq.{bytes_eq-Decides}
use Rattle.kq_bind_query.specs.Pipes.{tabular, piped}
use Rattle.kq_bind_query.specs.Queries.{nothing_let, scope_of, lets_made, planned, query_walked, query_bound}
use Rattle.kq_bind_expressions.specs.Verdicts.{Verdict, and_then, supported_or}
use Rattle.kq_bind_query.specs.kq_bind_operators.Flows.{Progressing, Flowing, following}
use Rattle.kq_bind_query.specs.kq_bind_operators.Scopes.{leaf_of, source_named}
use Rattle.kq_bind_query.specs.kq_bind_supported.Unsupported.{unsupported_query}
use Rattle.kq_view_body.specs.Bodies.{table_name, foreign, is_steps, is_body}
use Rattle.kq_view_body.specs.Parts.{foreign_at, lets_place, none, is_table, source_part, operator_parts, pipe_parts, query_parts}
use Rattle.kq_bind_query.proofs.Progress.{then_ok, done, done_is}
use Rattle.kq_read_grammar.specs.declared.expression.Name.{Name}
use Rattle.kq_read_grammar.specs.Trees.{TabularTree, pipeline, SourceTree, table as table_source, nested, worded, Operators, LetTree, QueryTree}
use Rattle.kq_run_gather.specs.Bodies.{known_alone, Chained, IsBody}
use Rattle.kq_run_gather.specs.Steps.{flows_from}
use Rattle.kq_plan.specs.declared.names.NameKind.TheVariants as name
use Rattle.kq_plan.specs.declared.work.LeafKind.TheVariants as kind
use Rattle.kq_plan.specs.Fits.{FitsStep, FitAfter}
use Rattle.kq_plan.specs.Names.{Known}
use Rattle.kq_plan.specs.Plans.{Doing, leaf, Stepping, Planned}
use Rattle.kq_bind_query.specs.kq_read_meanings.Names.{name_said, name_place}
use Rattle.kq_value.specs.declared.schema.Field.{Field}
use Rattle.kq_view_body.proofs.Growing.{IsRowStep, IsBegun, IsEnded, piped_ends}

-- ---- the form of the text

-- no let, the table's name, and the steps
record IsOver (text table : List ℕ) (t : TabularTree) : Type 0 where
  source : Name
  operators : Operators
  so : pipeline (table_source source) operators ≡ t
  said : name_said text source ≡ table
  steps : is_steps (operator_parts text operators) ≡ true

source_over : (text table : List ℕ) (first : Bool) (o : SourceTree) (bs : Operators) → is_body (source_part text table first o ∷ operator_parts text bs) ≡ true
    → (first ≡ true) × IsOver text table (pipeline o bs)
source_over text table false o bs h = absurd (cc)
source_over text table true (table_source n) bs h = by (is_table text table (table_source n)) refl h where
  by : (b : Bool) → is_table text table (table_source n) ≡ b
      → is_body (cond b (table_name (name_place n)) (foreign (name_place n)) ∷ operator_parts text bs) ≡ true
      → (true ≡ true) × IsOver text table (pipeline (table_source n) bs)
  by true same form =
      (refl, record { source = n; operators = bs; so = refl; said = (bytes_eq-Decides (name_said text n) table).0 same; steps = form })
  by false same form = absurd (cc)
source_over text table true (nested t q) bs h = absurd (cc)
source_over text table true (worded t b) bs h = absurd (cc)

pipe_over : (text table : List ℕ) (at : Option ℕ) (first : Bool) (t : TabularTree) → is_body (foreign_at at ++ pipe_parts text table first t) ≡ true
    → (first ≡ true) × IsOver text table t
pipe_over text table None first (pipeline o bs) h = source_over text table first o bs h
pipe_over text table (Some at) first (pipeline o bs) h = absurd (cc)

-- ---- the steps

leaf_begun : (table said : List ℕ) (cs : List Field) (p : Progressing) (at : ℕ) (k : Option Known) (v : Flowing) → p.steps ≡ [] → said ≡ table
    → k ≡ Some (name.Table, cs) → leaf_of at p said k ≡ Ok v → IsBegun table cs v
leaf_begun table said cs p at k v new same is e =
    let found : leaf_of at p said (Some (name.Table, cs)) ≡ Ok v = subst (λ o. leaf_of at p said o ≡ Ok v) is e in
    let one : Stepping = record { stage = p.stages + 1; doing = leaf kind.Table said; columns = cs } in
    subst (IsBegun table cs) (done_is (following p (leaf kind.Table said) cs) v found) (record {
      source = one;
      by_row = [];
      steps = ap (λ (ss : List Stepping). ss ++ one ∷ []) new;
      reads = ap (λ (n : List ℕ). leaf kind.Table n) same;
      under = refl;
      rows_only = All-nil IsRowStep;
      chained = tt;
      input = ap (λ (ss : List Stepping). length ss) new;
    })

over_ends : (text table : List ℕ) (known : List ℕ → Option Known) (cs : List Field) (n : Name) (bs : Operators) (v : Flowing)
    → known table ≡ Some (name.Table, cs) → name_said text n ≡ table → is_steps (operator_parts text bs) ≡ true
    → tabular (scope_of text known nothing_let) nothing_let.progress (pipeline (table_source n) bs) ≡ Ok v → IsEnded table cs v
over_ends text table known cs n bs v is same form e =
    let s = scope_of text known nothing_let in
    let w = then_ok (source_named s nothing_let.progress n) (λ w. piped s w bs) v e in
    let said = name_said text n in
    let stands : known said ≡ Some (name.Table, cs) = ap known same ∙ is in
    let begun = leaf_begun table said cs nothing_let.progress (name_place n) (known said) w.0 refl same stands w.1 in
    piped_ends table cs s w.0 bs v begun w.2 form

tabular_ends : (text table : List ℕ) (known : List ℕ → Option Known) (cs : List Field) (t : TabularTree) (v : Flowing) → known table ≡ Some (name.Table, cs)
    → IsOver text table t → tabular (scope_of text known nothing_let) nothing_let.progress t ≡ Ok v → IsEnded table cs v
tabular_ends text table known cs t v is o e =
    over_ends text table known cs o.source o.operators v is o.said o.steps
    (subst (λ q. tabular (scope_of text known nothing_let) nothing_let.progress q ≡ Ok v) (sym o.so) e)

-- ---- the steps fit over the table alone

step_alone : (known other : List ℕ → Option Known) (before : List Stepping) (d : Doing) (cs : List Field) (n : ℕ) → flows_from d ≡ Some n
    → FitsStep known before d cs → FitsStep other before d cs
step_alone known other before (leaf k said) cs n takes h = absurd (cc)
step_alone known other before _ cs n takes h = h

chain_alone : (known other : List ℕ → Option Known) (n : ℕ) (before ss : List Stepping) → Chained n ss → FitAfter known before ss → FitAfter other before ss
chain_alone known other n before [] c h = tt
chain_alone known other n before (s ∷ ss) c h =
    (step_alone known other before s.doing s.columns n c.0 h.0, chain_alone known other (suc n) (before ++ s ∷ []) ss c.1 h.1)

source_alone : (table : List ℕ) (cs given : List Field) (d : Doing) → d ≡ leaf kind.Table table → given ≡ cs → FitsStep (known_alone cs) [] d given
source_alone table cs given d reads under =
    subst (λ e. FitsStep (known_alone cs) [] e given) (sym reads) (ap (λ (fs : List Field). known_alone fs table) (sym under))

steps_alone : (table : List ℕ) (known : List ℕ → Option Known) (cs : List Field) (source : Stepping) (ss : List Stepping) → source.doing ≡ leaf kind.Table table
    → source.columns ≡ cs → Chained 0 ss → FitAfter known [] (source ∷ ss) → FitAfter (known_alone cs) [] (source ∷ ss)
steps_alone table known cs source ss reads under c h =
    (source_alone table cs source.columns source.doing reads under, chain_alone known (known_alone cs) 0 (source ∷ []) ss c h.1)

-- ---- queries

ended_body : (table : List ℕ) (known : List ℕ → Option Known) (cs : List Field) (w : Flowing) → IsEnded table cs w → FitAfter known [] w.progress.steps
    → IsBody table cs (planned w)
ended_body table known cs w h fits =
    let rest = h.by_row ++ h.last ∷ [] in
    let there : FitAfter known [] (h.source ∷ rest) = subst (λ ss. FitAfter known [] ss) h.steps fits in
    record {
      source = h.source;
      by_row = h.by_row;
      last = h.last;
      steps = h.steps;
      reads = h.reads;
      under = h.under;
      rows_only = h.rows_only;
      groups = h.groups;
      chained = h.chained;
      output = h.input;
      fits = subst (λ ss. FitAfter (known_alone cs) [] ss) (sym h.steps) (steps_alone table known cs h.source rest h.reads h.under h.chained there);
    }

walked_body : (text table : List ℕ) (known : List ℕ → Option Known) (cs : List Field) (lets : List LetTree) (t : TabularTree) (p : Planned)
    → known table ≡ Some (name.Table, cs) → none lets ≡ true → IsOver text table t
    → and_then (lets_made text known nothing_let lets) (λ l. and_then (tabular (scope_of text known l) l.progress t) (λ w. done (planned w))) ≡ Ok p
    → FitAfter known [] p.steps → IsBody table cs p
walked_body text table known cs (l ∷ more) t p is first over e fits = absurd (cc)
walked_body text table known cs [] t p is first over e fits =
    let w = then_ok (tabular (scope_of text known nothing_let) nothing_let.progress t) (λ w. done (planned w)) p e in
    let same = done_is (planned w.0) p w.2 in
    subst (IsBody table cs) same
    (ended_body table known cs w.0 (tabular_ends text table known cs t w.0 is over w.1) (subst (λ (q : Planned). FitAfter known [] q.steps) (sym same) fits))

supported : {A : Type 0} (o : Option ℕ) (v : Verdict A) (x : A) → supported_or o v ≡ Ok x → v ≡ Ok x
supported None v x e = e
supported (Some at) v x e = absurd (cc)

pub query_body : (text table : List ℕ) (known : List ℕ → Option Known) (cs : List Field) (q : QueryTree) (p : Planned) → known table ≡ Some (name.Table, cs)
    → query_bound text known q ≡ Ok p → is_body (query_parts text table q) ≡ true → FitAfter known [] p.steps → IsBody table cs p
query_body text table known cs q p is e form fits =
    let o = pipe_over text table (lets_place text [] q.lets) (none q.lets) q.tabular form in
    walked_body text table known cs q.lets q.tabular p is o.0 o.1 (supported (unsupported_query text q) (query_walked text known q) p e) fits
