-- What is found for a view that is to be made.
use Rattle.std.proofs.Common.{◌≡◌, ◌+◌, inl, inr, ℕ, Bool, true, false, cond, List, [], ◌∷◌, nat_eq, Option, Some, Result, Ok, Err, refl, ap, sym, ◌∙◌, subst}
use Rattle.std.specs.Cmp.Lexicographic.{pointwise}
use Rattle.std.specs.Option.{option_map, option_or}
use Rattle.std.proofs.lemmas.Slice.Eq.{bytes_eq-Decides}
use Rattle.kq_view_body.specs.kq_bind_query.Queries.{query_bound}
use Rattle.kq_view_body.specs.Answers.{AnswersBody}
use Rattle.kq_view_body.specs.declared.view_fault.ViewFault.{ViewFault}
use Rattle.kq_view_body.specs.declared.view_fault.ViewFault.TheVariants as unbound
use Rattle.kq_view_body.specs.Bodies.{is_body}
use Rattle.kq_view_body.specs.Parts.{query_parts}
use Rattle.kq_bind_expressions.specs.Verdicts.{unsupported, unknown, mistyped}
use Rattle.kq_catalog.specs.Intents.{commit_of}
use Rattle.kq_read_commands.specs.declared.definition.NewView.{NewView}
use Rattle.kq_view_body.specs.kq_run_gather.Bodies.{IsBody}
use Rattle.kq_catalog_journal.specs.declared.limits.Limits.{Limits}
use Rattle.kq_catalog_journal.specs.declared.table.Table.{Table}
use Rattle.kq_catalog_journal.specs.History.{History, NumberedTable, log, numbered_from, table_numbered, tables}
use Rattle.kq_plan.specs.declared.names.NameKind.TheVariants as name
use Rattle.kq_plan.specs.declared.plan.Plan.{Plan}
use Rattle.kq_plan.specs.Plans.{Planned, planned_of}
use Rattle.kq_engine_query.specs.Worlds.{known_in, known_table, known_view, view_found}
use Rattle.kq_reply.specs.declared.refusal.Refusal.{Refusal}
use Rattle.kq_engine_prepare.specs.declared.found.Found.{Found}
use Rattle.kq_engine_prepare.specs.declared.found.Found.TheVariants as founds
use Rattle.kq_engine_prepare.specs.Due.{Due, Says, Commits, IsNamedDue, IsViewDue, refusal_for, refused, tree_in}
use Rattle.kq_engine_prepare.specs.Found.{Finds}

-- what is found is due in another way too
pub Finds-map : (P Q : Due → Type 0) → ((due : Due) → P due → Q due) → (r : Result Found Refusal) → Finds P r → Finds Q r
Finds-map P Q f (Ok (founds.Says reply)) is = f (Says reply) is
Finds-map P Q f (Ok (founds.Commits offer)) is = f (Commits (commit_of offer.intent)) is
Finds-map P Q f (Ok (founds.Merges merging)) is = absurd is
Finds-map P Q f (Ok (founds.Folds folding)) is = absurd is
Finds-map P Q f (Ok founds.Pending) is = absurd is
Finds-map P Q f (Err r) (inl memory) = inl memory
Finds-map P Q f (Err r) (inr is) = inr (f (refused r) is)

-- ---- the table

numbered_name : (k : ℕ) (said : List ℕ) (ts : List Table) (n : NumberedTable) → numbered_from k said ts ≡ Some n → n.table.name ≡ said
numbered_name k said [] n e = cc
numbered_name k said (t ∷ ts) n e = by_test (pointwise nat_eq t.name said) refl e (numbered_name (k + 1) said ts n)
  where
    by_test : (b : Bool) → pointwise nat_eq t.name said ≡ b → cond b (Some (let m : NumberedTable = record { number = k; table = t } in m)) (numbered_from (k + 1) said ts) ≡ Some n → (numbered_from (k + 1) said ts ≡ Some n → n.table.name ≡ said) → n.table.name ≡ said
    by_test true is e later =
        let m : NumberedTable = record { number = k; table = t } in
        let same : m ≡ n = cc in
        ap (λ (x : NumberedTable). x.table.name) (sym same) ∙ (bytes_eq-Decides t.name said).0 is
    by_test false is e later = later e

-- a table that a name finds has the name
pub table_name : (said : List ℕ) (ts : List Table) (n : NumberedTable) → table_numbered said ts ≡ Some n → n.table.name ≡ said
table_name said ts n e = numbered_name 0 said ts n e

-- and is what the name stands for
pub table_known : (h : History) (said : List ℕ) (n : NumberedTable) → table_numbered said (tables (log h)) ≡ Some n → known_in h said ≡ Some (name.Table, n.table.schema)
table_known h said n e = ap (λ (o : Option NumberedTable). option_or (option_map known_table o) (option_map known_view (view_found h said))) e

-- ---- the body

pub formed_due : (limits : Limits) (h : History) (view : NewView) (table : NumberedTable) (p : Planned) → query_bound view.body.text (known_in h) (tree_in view) ≡ Ok p
    → is_body (query_parts view.body.text view.table.text (tree_in view)) ≡ true → IsBody table.table.name table.table.schema p → (due : Due)
    → IsNamedDue limits (log h) view table.number p due → IsViewDue limits (log h) view (Some table) due
formed_due limits h view table p bound parts body due is = (Ok p, record { history = h; logged = refl; bound = bound }, inl (record { parts = parts; body = body; due_so = is }))

-- a body that isn't bound, or that leaves the form
pub unbound_due : (limits : Limits) (h : History) (view : NewView) (table : NumberedTable) (f : ViewFault)
    → AnswersBody (query_bound view.body.text (known_in h) (tree_in view)) (query_parts view.body.text view.table.text (tree_in view)) (Err f) → Finds (IsViewDue limits (log h) view (Some table)) (Err (refusal_for f))
unbound_due limits h view table (unbound.Unsupported at) is = inr (Err (unsupported at), record { history = h; logged = refl; bound = is }, refl)
unbound_due limits h view table (unbound.Unknown at) is = inr (Err (unknown at), record { history = h; logged = refl; bound = is }, refl)
unbound_due limits h view table (unbound.Mistyped at) is = inr (Err (mistyped at), record { history = h; logged = refl; bound = is }, refl)
unbound_due limits h view table (unbound.BadView at) is = inr (Ok is.0, record { history = h; logged = refl; bound = is.1 }, inr (record { at = at; leaves = is.2; is = refl }))
unbound_due limits h view table unbound.Memory is = inl refl

-- a body that is bound is due what its name is
pub bound_named : (limits : Limits) (h : History) (view : NewView) (table : NumberedTable) (plan : Plan) (r : Result Found Refusal) → table_numbered view.table.text (tables (log h)) ≡ Some table
    → AnswersBody (query_bound view.body.text (known_in h) (tree_in view)) (query_parts view.body.text view.table.text (tree_in view)) (Ok plan) → IsBody view.table.text table.table.schema (planned_of plan)
    → Finds (IsNamedDue limits (log h) view table.number (planned_of plan)) r → Finds (IsViewDue limits (log h) view (Some table)) r
bound_named limits h view table plan r named answer body is =
    let same = table_name view.table.text (tables (log h)) table named in
    let over = subst (λ (said : List ℕ). IsBody said table.table.schema (planned_of plan)) (sym same) body in
    Finds-map (IsNamedDue limits (log h) view table.number (planned_of plan)) (IsViewDue limits (log h) view (Some table)) (formed_due limits h view table (planned_of plan) answer.0 answer.1 over) r is
