-- The commands of the generated script, and how they are joined.
use Rattle.std.specs.Prelude.{ℕ, ◌%◌, ◌==◌, if◌then◌else◌, List, [], ◌∷◌, ◌++◌, codes, decimal, map}
use Rattle.std.specs.List.{enumerate_from, flat_map, join_by, range_with_len}
use Rattle.itertools.specs.List.{chunks}

-- pieces one after another, with a separator between each two
abbrev pub joined : List ℕ → List (List ℕ) → List ℕ
joined = join_by (λ piece. piece)

-- row i is `K,I` with I = i and K = i mod 10
abbrev pub row_text : ℕ → List ℕ
row_text i = decimal (i % 10) ++ codes "," ++ decimal i

-- so many rows, from row i on
abbrev pub rows_from : ℕ → ℕ → List (List ℕ)
rows_from i count = map row_text (range_with_len i count)

-- rows in batches of 1000, the last one shorter, and none without rows
abbrev pub batches : List (List ℕ) → List (List (List ℕ))
batches = chunks 1000

-- a batch goes in by one command, a line for each row
abbrev pub ingestion : List (List ℕ) → List ℕ
ingestion rows = joined (codes "\n") (codes ".ingest inline into table G <|" ∷ rows)

-- a fold of the view and a merge of the table
abbrev pub upkeep : List (List ℕ)
upkeep = codes "#fold GV" ∷ codes "#merge G" ∷ []

-- the batch of this number, and the upkeep behind every tenth
abbrev pub batch_commands : ℕ × List (List ℕ) → List (List ℕ)
batch_commands batch = ingestion batch.1 ∷ (if batch.0 % 10 == 0 then upkeep else [])

-- the commands of these batches, which have the numbers from this one on
abbrev pub commands_from : ℕ → List (List (List ℕ)) → List (List ℕ)
commands_from number all = flat_map batch_commands (enumerate_from number all)

-- the table, the view over it, the batches of n rows from number 1 on, and two queries
abbrev pub commands : ℕ → List (List ℕ)
commands n =
    codes ".create table G (k:long, v:long)"
    ∷ codes ".create materialized-view GV on table G { G | summarize n = count(), s = sum(v), m = max(v) by k }"
    ∷ commands_from 1 (batches (rows_from 0 n))
    ++ codes "G | count"
    ∷ codes "GV | summarize total = sum(s), groups = count()"
    ∷ []

-- the script of n rows: its commands with one empty line between them, and LF at the end
abbrev pub script : ℕ → List ℕ
script n = joined (codes "\n\n") (commands n) ++ codes "\n"

-- pieces one after another, with a separator before each
abbrev pub each_behind : List ℕ → List (List ℕ) → List ℕ
each_behind separator = flat_map (λ piece. separator ++ piece)
