-- The tags that a log gave the extents of its tables, and when first.
use Rattle.std.specs.Prelude.{ℕ, ◌+◌, Bool, false, ◌&&◌, List, [], ◌∷◌, ◌++◌, Option, Some, None, nat_eq, min, codes, if◌then◌else◌}
use Rattle.std.specs.List.{list_any}
use Rattle.kq_catalog_journal.specs.declared.batch.Batch.{Batch}
use Rattle.kq_catalog_journal.specs.declared.event.Commit.{Commit}
use Rattle.kq_catalog_journal.specs.declared.event.Commit.TheVariants.{CreateTable, SetPolicy, CreateView, AlterMerge, Ingest}
use Rattle.kq_catalog_journal.specs.History.{Log}
use Rattle.kq_value_text_sets.specs.Names.{is_among}

-- whether a batch gives a table an extent with the tag
abbrev pub gives_tag : ℕ → List ℕ → Batch → Bool
gives_tag t tag b = nat_eq b.table t && is_among tag b.tags

-- whether a commit has such a batch
abbrev pub is_tagged_by : ℕ → List ℕ → Commit → Bool
is_tagged_by t tag (CreateTable name schema) = false
is_tagged_by t tag (CreateView view) = false
is_tagged_by t tag (SetPolicy table entries) = false
is_tagged_by t tag (AlterMerge table columns) = false
is_tagged_by t tag (Ingest batches failures) = list_any (gives_tag t tag) batches

abbrev pub first_tagged_from : ℕ → Log → ℕ → List ℕ → Option ℕ
first_tagged_from n [] t tag = None
first_tagged_from n (c ∷ l) t tag = if is_tagged_by t tag c then Some (n + 1) else first_tagged_from (n + 1) l t tag

-- the cursor of the first commit that gave a table a batch with the tag
abbrev pub first_tagged : Log → ℕ → List ℕ → Option ℕ
first_tagged = first_tagged_from 0

-- the lesser of two cursors, or the one that there is
abbrev pub lesser : Option ℕ → Option ℕ → Option ℕ
lesser None b = b
lesser (Some a) None = Some a
lesser (Some a) (Some b) = Some (min a b)

-- the least cursor of a commit that gave a table a batch with one of the tags
abbrev pub least_tagged : Log → ℕ → List (List ℕ) → Option ℕ
least_tagged l t [] = None
least_tagged l t (tag ∷ tags) = lesser (first_tagged l t tag) (least_tagged l t tags)

-- the tag that tells what an extent was ingested by
abbrev pub ingested_by : List ℕ → List ℕ
ingested_by by = codes "ingest-by:" ++ by
