-- The update policies that a log leaves, what a cascade goes by, and the failures that the log notes.
use Rattle.std.specs.Prelude.{ℕ, ◌+◌, List, [], ◌∷◌, ◌++◌, map}
use Rattle.kq_catalog_journal.specs.declared.batch.Failure.{Failure}
use Rattle.kq_catalog_journal.specs.declared.batch.Noted.{Noted}
use Rattle.kq_catalog_journal.specs.declared.event.Commit.{Commit}
use Rattle.kq_catalog_journal.specs.declared.event.Commit.TheVariants.{CreateTable, SetPolicy, CreateView, AlterMerge, Ingest}
use Rattle.kq_catalog_journal.specs.declared.policy.Due.{Due}
use Rattle.kq_catalog_journal.specs.declared.policy.Entry.{Entry}
use Rattle.kq_catalog_journal.specs.Changed.{changed}
use Rattle.kq_catalog_journal.specs.Enabled.{enabled}
use Rattle.kq_catalog_journal.specs.Force.{Rules}
use Rattle.kq_catalog_journal.specs.History.{Log}
use Rattle.kq_catalog_journal.specs.Records.{schema_of}

-- the policies with that of one table, by its number, set anew
abbrev pub with_policy : ℕ → List Entry → List (List Entry) → List (List Entry)
with_policy table entries = changed (λ (before : List Entry). entries) table

-- the policies after one more commit: a new table has no entries
abbrev pub policies_with : Commit → List (List Entry) → List (List Entry)
policies_with (CreateTable name schema) policies = policies ++ [] ∷ []
policies_with (SetPolicy table entries) policies = with_policy table entries policies
policies_with (CreateView view) policies = policies
policies_with (AlterMerge table columns) policies = policies
policies_with (Ingest batches failures) policies = policies

abbrev pub policies_from : List (List Entry) → Log → List (List Entry)
policies_from policies [] = policies
policies_from policies (c ∷ l) = policies_from (policies_with c policies) l

-- the policy of each table, in the order of their creation: the entries that were set last, in array order
abbrev pub policies : Log → List (List Entry)
policies = policies_from []

-- the enabled entries of all policies, targets in the order of their creation
abbrev pub dues : Log → List Due
dues l = enabled (policies l)

-- what a cascade goes by: the columns of each table, and the policies in force
abbrev pub rules : Log → Rules
rules l = record { columns = schema_of l; policies = policies l }

-- ---- failures

abbrev pub noted_at : ℕ → Failure → Noted
noted_at cursor failure = record { cursor = cursor; failure = failure }

-- the failures that a commit at a cursor notes
abbrev pub noted_by : ℕ → Commit → List Noted
noted_by cursor (CreateTable name schema) = []
noted_by cursor (SetPolicy table entries) = []
noted_by cursor (CreateView view) = []
noted_by cursor (AlterMerge table columns) = []
noted_by cursor (Ingest batches failures) = map (noted_at cursor) failures

abbrev pub noted_from : ℕ → Log → List Noted
noted_from n [] = []
noted_from n (c ∷ l) = noted_by (n + 1) c ++ noted_from (n + 1) l

-- the failures of all ingestions, with the cursor of each, in order
abbrev pub noted : Log → List Noted
noted = noted_from 0
