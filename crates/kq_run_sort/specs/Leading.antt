-- Rows that are kept in place of all that came, since the others can't be among the first of an order.
use Rattle.std.specs.Prelude.{◌≡◌, ◌<◌, ◌-◌, ℕ, false, List, ◌∷◌, [], ◌++◌, Option, Some, None, Result, Ok, Err, length}
use Rattle.std.specs.List.{All}
use Rattle.std.specs.Ordering.{is_lt}
use Rattle.kq_value.specs.declared.value.Value.{Value}
use Rattle.kq_value.specs.Computed.{Computed, Is, Overflow}
use Rattle.kq_value.specs.declared.fault.EvalFault.{EvalFault}
use Rattle.kq_value.specs.declared.fault.EvalFault.TheVariants as fault
use Rattle.kq_plan.specs.Plans.{Sorting}
use Rattle.kq_store_rows.specs.Chunks.{row_at}
use Rattle.kq_eval_row.specs.Val.{Surroundings, cell_of}
use Rattle.kq_run_sort.specs.Orders.{Row, Topped, computed_row, key_cmp, keys_at}
use Rattle.kq_run_sort.specs.declared.leaders.Leaders.{Leaders}

-- the value of the key over a row
abbrev pub key_of : Sorting → Surroundings → Row → Value
key_of k s r = cell_of (computed_row (keys_at (k ∷ []) s r)) 0

-- whatever comes behind, the first of those that are kept are the first of all
pub record StandFor (n : ℕ) (k : Sorting) (s : Surroundings) (all kept : List Row) : Type 0 where
  pub with_more : (more : List Row) (c : Computed (List Row)) → Topped n k s (kept ++ more) c → Topped n k s (all ++ more) c

-- so many are kept that don't stand behind this value
pub record HoldBack (n : ℕ) (k : Sorting) (s : Surroundings) (kept : List Row) (bound : Value) : Type 0 where
  pub front : List Row
  pub back : List Row
  pub parts : kept ≡ front ++ back
  pub many : length front ≡ n
  pub before : All (λ r. is_lt (key_cmp k bound (key_of k s r)) ≡ false) front

abbrev pub HoldBackIf : ℕ → Sorting → Surroundings → List Row → Option Value → Type 0
HoldBackIf n k s kept (Some bound) = HoldBack n k s kept bound
HoldBackIf n k s kept None = Unit {0}

pub record Lead (n : ℕ) (k : Sorting) (s : Surroundings) (all : List Row) (l : Leaders) : Type 0 where
  pub stand : StandFor n k s all l.rows
  pub bound : HoldBackIf n k s l.rows l.bound

-- the value of the key over the last of so many rows
pub record IsLastKey (n : ℕ) (k : Sorting) (s : Surroundings) (rows : List Row) (v : Value) : Type 0 where
  pub some : 0 < n
  pub many : length rows ≡ n
  pub is : keys_at (k ∷ []) s (row_at rows (n - 1)) ≡ Is (v ∷ [])

-- rows that came are taken in, or the key overflows on one of them
abbrev pub TakesIn : ℕ → Sorting → Surroundings → List Row → Leaders → Leaders → Result (Unit {0}) EvalFault → Type 0
TakesIn n k s rows old new (Ok done) = (all : List Row) → Lead n k s all old → Lead n k s (all ++ rows) new
TakesIn n k s rows old new (Err fault.Overflow) = (all more : List Row) → Topped n k s (all ++ (rows ++ more)) Overflow
TakesIn n k s rows old new (Err fault.Memory) = Unit {0}

-- those that are kept still lead, or a key overflows on a row that came
abbrev pub Settles : ℕ → Sorting → Surroundings → Leaders → Leaders → Result (Unit {0}) EvalFault → Type 0
Settles n k s old new (Ok done) = (all : List Row) → Lead n k s all old → Lead n k s all new
Settles n k s old new (Err fault.Overflow) = (all more : List Row) → Lead n k s all old → Topped n k s (all ++ more) Overflow
Settles n k s old new (Err fault.Memory) = Unit {0}
