-- What a plan gives over a world.
use Rattle.std.specs.Prelude.{◌≡◌, ℕ, ℤ, Bool, true, false, List, [], ◌∷◌, ◌++◌, map, MatchBool}
use Rattle.kq_value.specs.declared.schema.Field.{Field}
use Rattle.kq_value.specs.Same.{Same}
use Rattle.kq_value.specs.Computed.{Computed, Is, Overflow, each}
use Rattle.kq_plan.specs.declared.work.LeafKind.{LeafKind}
use Rattle.kq_plan.specs.Plans.{Planned, Stepping, Sorting, Doing, leaf, one_row, numbers, written, scalar, kept, mapped, cut, counted, sorted, topped, apart, summarized, joined, united, expanded}
use Rattle.kq_run_gather.specs.kq_eval_row.Val.{Surroundings, surroundings, meaning}
use Rattle.kq_run_plan.specs.declared.outcome.Outcome.{Outcome}
use Rattle.kq_run_plan.specs.declared.outcome.Outcome.TheVariants as outcome
use Rattle.kq_run_plan.specs.Grouping.{GroupsTo}
use Rattle.kq_run_sort.specs.Orders.{Sorted, Topped}
use Rattle.kq_run_plan.specs.Outcomes.{Row, is_fault, outcome_at, rows_of, order_of, cells_of}
use Rattle.kq_run_plan.specs.Reshaped.{come_in_stage, range_at, DiffersTo, JoinsTo, columns_before, arms_together, expanded_by}
use Rattle.kq_run_gather.specs.kq_eval_pieces.Operators.{values_at, filtered}
use Rattle.kq_run_plan.specs.Operators.{single, tally, in_stage, cell_in_stage, Taken}

-- which rows a name may give, of this kind and under these columns, or that it may overflow
abbrev pub World : Type 1
World = List ℕ → LeafKind → List Field → Computed (List Row) → Type 0

-- rows in any order, or an overflow at this stage
abbrev pub Unordered : ℕ → Computed (List Row) → Outcome → Type 0
Unordered stage (Is given) o = (rows : List Row) × Same rows given × (o ≡ outcome.Table false rows)
Unordered stage Overflow o = o ≡ outcome.Overflow stage

-- the same of one of what there may be
abbrev pub Handed : (Computed (List Row) → Type 0) → ℕ → Outcome → Type 0
Handed may_be stage o = (given : Computed (List Row)) × may_be given × Unordered stage given o

-- the rows in an order of the keys, or an overflow at this stage
pub record SortsTo (ks : List Sorting) (s : Surroundings) (rows : List Row) (stage : ℕ) (o : Outcome) : Type 0 where
  pub came : Computed (List Row)
  pub sorted_so : Sorted ks s rows came
  pub is : o ≡ in_stage stage true came

-- the first of the rows in an order of the key, or an overflow at this stage
pub record TopsTo (n : ℕ) (k : Sorting) (s : Surroundings) (rows : List Row) (stage : ℕ) (o : Outcome) : Type 0 where
  pub came : Computed (List Row)
  pub topped_so : Topped n k s rows came
  pub is : o ≡ in_stage stage true came

-- what stands around a row: the moment, and the cells of the lets so far
abbrev pub around : ℤ → List Outcome → Surroundings
around now done = surroundings now (cells_of done)

-- after these steps and what they gave, the work may give o at its stage
abbrev pub Does : World → ℤ → List Stepping → List Outcome → ℕ → List Field → Doing → Outcome → Type 0
Does w now before done stage columns (leaf kind name) o = Handed (w name kind columns) stage o
Does w now before done stage columns (one_row es) o = o ≡ in_stage stage false (single es (around now done))
Does w now before done stage columns (written rows) o = o ≡ outcome.Table false rows
Does w now before done stage columns (scalar e) o = o ≡ cell_in_stage stage (meaning e (around now done) [])
Does w now before done stage columns (kept i e) o = o ≡ in_stage stage (order_of done i) (filtered e (around now done) (rows_of done i))
Does w now before done stage columns (mapped i es) o = o ≡ in_stage stage (order_of done i) (each (values_at es (around now done)) (rows_of done i))
Does w now before done stage columns (cut i n) o = Taken (order_of done i) (rows_of done i) n o
Does w now before done stage columns (counted i) o = o ≡ outcome.Table false (tally (rows_of done i))
Does w now before done stage columns (sorted i ks) o = SortsTo ks (around now done) (rows_of done i) stage o
Does w now before done stage columns (topped i n k) o = TopsTo n k (around now done) (rows_of done i) stage o
Does w now before done stage columns (numbers from to by) o = o ≡ come_in_stage stage (range_at from to by (around now done))
Does w now before done stage columns (apart i cs) o = DiffersTo cs (rows_of done i) o
Does w now before done stage columns (joined kind i j on) o = JoinsTo kind on (columns_before before i) (columns_before before j) (rows_of done i) (rows_of done j) o
Does w now before done stage columns (united arms) o = o ≡ arms_together done columns arms
Does w now before done stage columns (expanded i e c t) o = o ≡ in_stage stage false (expanded_by e (around now done) c t (rows_of done i))
Does w now before done stage columns (summarized i es gs) o = GroupsTo es gs columns (around now done) (rows_of done i) stage o

abbrev pub Case : World → ℤ → List Stepping → List Outcome → Stepping → Outcome → Type 0
Case w now before done s o = Does w now before done s.stage s.columns s.doing o

-- after these steps and what they gave, the others come to o: the first fault, or else the outcome of the step with the number `output`
abbrev pub Follows : World → ℤ → List Stepping → List Outcome → List Stepping → ℕ → Outcome → Type 0
Follows w now before done [] output o = o ≡ outcome_at done output
Follows w now before done (s ∷ steps) output o =
    (x : Outcome) × Case w now before done s x × MatchBool (is_fault x) (o ≡ x) (Follows w now (before ++ s ∷ []) (done ++ x ∷ []) steps output o)

abbrev pub Gives : Planned → World → ℤ → Outcome → Type 0
Gives p w now o = Follows w now [] [] p.steps p.output o
