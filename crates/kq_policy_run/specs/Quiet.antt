-- What disturbs what came of a batch.
use Rattle.std.specs.Prelude.{◌&&◌, ◌||◌, ◌++◌, ℕ, Bool, true, false, not, List, [], ◌∷◌, Option, Some, None, nat_eq, if◌then◌else◌}
use Rattle.std.specs.List.{slice_get}
use Rattle.kq_catalog_journal.specs.declared.batch.Batch.{Batch}
use Rattle.kq_catalog_journal.specs.declared.event.Commit.{Commit}
use Rattle.kq_catalog_journal.specs.declared.event.Commit.TheVariants as commits
use Rattle.kq_catalog_journal.specs.declared.event.Operation.{Operation}
use Rattle.kq_catalog_journal.specs.declared.event.Operation.TheVariants as operations
use Rattle.kq_catalog_journal.specs.declared.policy.Due.{Due}
use Rattle.kq_catalog_journal.specs.declared.policy.Entry.{Entry}
use Rattle.kq_catalog_journal.specs.Force.{policy_at}
use Rattle.kq_catalog_journal.specs.History.{History, Log, NumberedTable, table_numbered, tables}
use Rattle.kq_catalog_journal.specs.Policies.{policies}
use Rattle.kq_plan.specs.declared.work.LeafKind.TheVariants as kind
use Rattle.kq_plan.specs.Plans.{Doing, Stepping, leaf, planned_of}

-- ---- the tables that queries look into

-- a table is looked into unless it is the source, whose batch the query is run for
abbrev pub other_than : ℕ → Option NumberedTable → Option ℕ
other_than source None = None
other_than source (Some found) = if nat_eq found.number source then None else Some found.number

-- the table that a step looks into
abbrev pub looked_by : Log → ℕ → Doing → Option ℕ
looked_by l source (leaf kind.Table said) = other_than source (table_numbered said (tables l))
looked_by l source d = None

abbrev pub in_front : Option ℕ → List ℕ → List ℕ
in_front None ts = ts
in_front (Some t) ts = t ∷ ts

-- those of steps, as often as they are looked into
abbrev pub looked_from : Log → ℕ → List Stepping → List ℕ
looked_from l source [] = []
looked_from l source (s ∷ steps) = in_front (looked_by l source s.doing) (looked_from l source steps)

-- those of the query of an entry
abbrev pub looked_in : Log → Entry → List ℕ
looked_in l e = looked_from l e.source (planned_of e.plan).steps

abbrev pub looked_at : Log → Option Entry → List ℕ
looked_at l None = []
looked_at l (Some e) = looked_in l e

-- those of the queries of entries, each of which goes by its place in its target's policy
abbrev pub looked : Log → List Due → List ℕ
looked l [] = []
looked l (d ∷ asked) = looked_at l (slice_get (policy_at (policies l) d.target) d.place) ++ looked l asked

-- ---- events

abbrev pub is_one_of : ℕ → List ℕ → Bool
is_one_of t [] = false
is_one_of t (n ∷ ns) = nat_eq n t || is_one_of t ns

-- whether one of the batches is for one of the tables
abbrev pub gives_one : List ℕ → List Batch → Bool
gives_one ts [] = false
gives_one ts (b ∷ bs) = is_one_of b.table ts || gives_one ts bs

-- a commit disturbs what came of a batch where it makes or widens a table, sets a policy, or gives rows to one of these tables
abbrev pub changes : List ℕ → Commit → Bool
changes ts (commits.CreateTable name schema) = true
changes ts (commits.SetPolicy table entries) = true
changes ts (commits.CreateView view) = false
changes ts (commits.AlterMerge table columns) = true
changes ts (commits.Ingest batches failures) = gives_one ts batches

abbrev pub disturbs : List ℕ → Operation → Bool
disturbs ts (operations.Commit c) = changes ts c
disturbs ts (operations.Fold view to) = false
disturbs ts (operations.Merge table old new) = false

-- none of the events disturbs what came of a batch by queries that looked into these tables
abbrev pub is_quiet : List ℕ → History → Bool
is_quiet ts [] = true
is_quiet ts (e ∷ h) = not (disturbs ts e.operation) && is_quiet ts h
