-- A plan is judged by its steps and its columns.
use Rattle.std.proofs.Common.{◌≡◌, ℕ, Bool, true, false, ◌||◌, List, [], ◌∷◌, Option, Some, Err, refl, sym, ap, ◌∙◌}
use Rattle.std.specs.List.{All, Any, list_any}
use Rattle.std.proofs.lemmas.List.Elements.{All-nil, All-cons}
use Rattle.std.proofs.lemmas.List.Folds.{Any-from_list_any, list_any-from_Any, list_any_none}
use Rattle.std.proofs.lemmas.Slice.Eq.{bytes_eq-Decides}
use Rattle.kq_policy_entries.specs.declared.query_fault.PolicyFault.{PolicyFault}
use Rattle.kq_policy_entries.specs.declared.query_fault.PolicyFault.TheVariants as fault
use Rattle.kq_policy_entries.specs.Answers.{BindsTo, AnswersPolicy, JudgesPolicy}
use Rattle.kq_policy_entries.specs.Policies.{table_read, reads_table}
use Rattle.kq_policy_moments.specs.kq_catalog_journal.PolicyBodies.{reads_view, asks_moment, IsLeafOf, IsPolicyBody}
use Rattle.kq_bind_query.specs.kq_bind_operators.Flows.{columns_at}
use Rattle.kq_plan.specs.declared.work.LeafKind.TheVariants as kind
use Rattle.kq_plan.specs.Fits.{GivesColumns, FitsNames}
use Rattle.kq_plan.specs.Names.{Known}
use Rattle.kq_plan.specs.Plans.{Doing, leaf, Stepping, Planned}
use Rattle.kq_value.specs.declared.schema.Field.{Field}

-- ---- tests

neither : (a b : Bool) → (a || b) ≡ false → (a ≡ false) × (b ≡ false)
neither false b e = (refl, e)
neither true b e = absurd (cc)

none_pass : {X : Type 0} (p : X → Bool) (xs : List X) → list_any p xs ≡ false → All (λ x. p x ≡ false) xs
none_pass p [] e = All-nil (λ x. p x ≡ false)
none_pass p (x ∷ xs) e =
    let so = neither (p x) (list_any p xs) e in
    All-cons (λ y. p y ≡ false) x xs so.0 (none_pass p xs so.1)

any_weaker : {X : Type 0} (P Q : X → Type 0) (xs : List X) → ((x : X) → P x → Q x) → Any P xs → Any Q xs
any_weaker P Q xs f a = (a.0, a.1, a.2, a.3, f a.1 a.4)

-- ---- the leaf of a table

leaf_of_table : (table : List ℕ) (d : Doing) → table_read table d ≡ true → d ≡ leaf kind.Table table
leaf_of_table table (leaf kind.Table said) e = ap (λ (n : List ℕ). leaf kind.Table n) ((bytes_eq-Decides said table).0 e)
leaf_of_table table (leaf kind.View said) e = absurd (cc)
leaf_of_table table (leaf kind.Part said) e = absurd (cc)
leaf_of_table table _ e = absurd (cc)

table_of_leaf : (table : List ℕ) (d : Doing) → d ≡ leaf kind.Table table → table_read table d ≡ true
table_of_leaf table d e = ap (table_read table) e ∙ (bytes_eq-Decides table table).1 refl

-- ---- bodies

pub body_passes : (source : List ℕ) (p : Planned) → list_any reads_view p.steps ≡ false → list_any (reads_table source) p.steps ≡ true → list_any asks_moment p.steps ≡ false
    → IsPolicyBody source p
body_passes source p views tables moments = record {
  no_view = none_pass reads_view p.steps views;
  names_source = any_weaker (λ (s : Stepping). reads_table source s ≡ true) (IsLeafOf source) p.steps (λ s. leaf_of_table source s.doing) (Any-from_list_any (reads_table source) p.steps tables);
  timeless = none_pass asks_moment p.steps moments;
}

pub passes_body : (source : List ℕ) (p : Planned) → IsPolicyBody source p
    → (list_any reads_view p.steps ≡ false) × (list_any (reads_table source) p.steps ≡ true) × (list_any asks_moment p.steps ≡ false)
passes_body source p b = (
  list_any_none reads_view p.steps b.no_view,
  list_any-from_Any (reads_table source) p.steps (any_weaker (IsLeafOf source) (λ (s : Stepping). reads_table source s ≡ true) p.steps (λ s. table_of_leaf source s.doing) b.names_source),
  list_any_none asks_moment p.steps b.timeless,
)

-- ---- answers

other_columns : (p : Planned) (cs target : List Field) → GivesColumns p.steps p.output cs → (cs ≡ target → ⊥) → GivesColumns p.steps p.output target → ⊥
other_columns p cs target given other g = let both : Some cs ≡ Some target = sym given ∙ g in other (cc)

-- a plan that is none of a policy
pub judged_answers : (text source : List ℕ) (target : List Field) (known : List ℕ → Option Known) (p : Planned) (f : PolicyFault) → BindsTo text known p → FitsNames known p (columns_at p.steps p.output)
    → JudgesPolicy source target p (Err f) → AnswersPolicy text source target known (Err f)
judged_answers text source target known p fault.Query bound fits wrong = absurd wrong
judged_answers text source target known p fault.Body bound fits other = record { planned = p; bound = bound; other = other }
judged_answers text source target known p fault.Schema bound fits j =
    record { planned = p; bound = bound; body = j.0; other = other_columns p (columns_at p.steps p.output) target fits.output j.1 }
judged_answers text source target known p fault.Memory bound fits wrong = absurd wrong
