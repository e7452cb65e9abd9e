-- What is answered for the query of an entry.
use Rattle.std.specs.Prelude.{◌≡◌, ℕ, List, Option, Result, Ok, Err}
use Rattle.kq_bind_query.specs.Queries.{query_bound}
use Rattle.kq_policy_entries.specs.declared.query_fault.PolicyFault.{PolicyFault}
use Rattle.kq_policy_entries.specs.declared.query_fault.PolicyFault.TheVariants as fault
use Rattle.kq_policy_entries.specs.Policies.{IsPolicyPlan}
use Rattle.kq_policy_moments.specs.kq_catalog_journal.PolicyBodies.{IsPolicyBody}
use Rattle.kq_bind_query.specs.kq_bind_operators.Flows.{columns_at}
use Rattle.kq_read_control.specs.ControlTrees.{query}
use Rattle.kq_read_control.specs.Statements.{IsStatement}
use Rattle.kq_read_grammar.specs.declared.tabular.Query.{Query}
use Rattle.kq_read_grammar.specs.TabularViews.{query_of}
use Rattle.kq_read_grammar.specs.Trees.{QueryTree}
use Rattle.kq_plan.specs.declared.plan.Plan.{Plan}
use Rattle.kq_plan.specs.Fits.{GivesColumns}
use Rattle.kq_plan.specs.Names.{Known}
use Rattle.kq_plan.specs.Plans.{Planned, planned_of}
use Rattle.kq_value.specs.declared.schema.Field.{Field}

-- ---- texts

-- the whole text is this query, and nothing else
abbrev pub IsQuery : List ℕ → QueryTree → Type 0
IsQuery text q = IsStatement text (query q)

-- it is a query, which is bound to this plan over what names stand for
pub record BindsTo (text : List ℕ) (known : List ℕ → Option Known) (p : Planned) : Type 0 where
  pub tree : QueryTree
  pub is : IsQuery text tree
  pub bound : query_bound text known tree ≡ Ok p

-- ---- the answer: the plan, or the first of the reasons why it is none of a policy

-- a text is bound to this plan, which is one of a policy from this source into a table of these columns
pub record IsPolicy (text source : List ℕ) (target : List Field) (known : List ℕ → Option Known) (p : Planned) : Type 0 where
  pub bound : BindsTo text known p
  pub plan : IsPolicyPlan source target p

-- it is bound to a plan that has no such body
pub record HasNoBody (text source : List ℕ) (known : List ℕ → Option Known) : Type 0 where
  pub planned : Planned
  pub bound : BindsTo text known planned
  pub other : IsPolicyBody source planned → ⊥

-- it is bound to a plan that has such a body, and other columns
pub record HasOtherColumns (text source : List ℕ) (target : List Field) (known : List ℕ → Option Known) : Type 0 where
  pub planned : Planned
  pub bound : BindsTo text known planned
  pub body : IsPolicyBody source planned
  pub other : GivesColumns planned.steps planned.output target → ⊥

abbrev pub AnswersPolicy : List ℕ → List ℕ → List Field → (List ℕ → Option Known) → Result Plan PolicyFault → Type 0
AnswersPolicy text source target known (Ok p) = IsPolicy text source target known (planned_of p)
AnswersPolicy text source target known (Err fault.Query) = (p : Planned) → BindsTo text known p → ⊥
AnswersPolicy text source target known (Err fault.Body) = HasNoBody text source known
AnswersPolicy text source target known (Err fault.Schema) = HasOtherColumns text source target known
AnswersPolicy text source target known (Err fault.Memory) = Unit {0}

-- ---- its parts

-- what a text reads as
abbrev pub ReadsQuery : List ℕ → Result Query PolicyFault → Type 0
ReadsQuery text (Ok q) = IsQuery text (query_of q)
ReadsQuery text (Err fault.Query) = (q : QueryTree) → IsQuery text q → ⊥
ReadsQuery text (Err fault.Body) = ⊥
ReadsQuery text (Err fault.Schema) = ⊥
ReadsQuery text (Err fault.Memory) = Unit {0}

-- how a plan is judged
abbrev pub JudgesPolicy : List ℕ → List Field → Planned → Result (Unit {0}) PolicyFault → Type 0
JudgesPolicy source target p (Ok u) = IsPolicyBody source p × (columns_at p.steps p.output ≡ target)
JudgesPolicy source target p (Err fault.Query) = ⊥
JudgesPolicy source target p (Err fault.Body) = IsPolicyBody source p → ⊥
JudgesPolicy source target p (Err fault.Schema) = IsPolicyBody source p × (columns_at p.steps p.output ≡ target → ⊥)
JudgesPolicy source target p (Err fault.Memory) = ⊥
