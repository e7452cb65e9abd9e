-- What a sort by columns comes to.
use Rattle.std.specs.Prelude.{◌≡◌, List, Option, Some, None, Result, Ok, Err}
use Rattle.kq_value.specs.Computed.{Computed, Is, Overflow, each}
use Rattle.kq_value.specs.declared.fault.EvalFault.{EvalFault}
use Rattle.kq_value.specs.declared.fault.EvalFault.TheVariants as fault
use Rattle.kq_plan.specs.Plans.{Sorting}
use Rattle.kq_run_gather.specs.kq_eval_row.Val.{Surroundings, meaning}
use Rattle.kq_run_sort.specs.Orders.{Sorted}
use Rattle.kq_run_sort.specs.Parts.{part_keys, part_rows}
use Rattle.kq_run_sort.specs.declared.parts.Part.{Part}
use Rattle.kq_run_plan.specs.Outcomes.{Row}

-- the rows in an order of the keys, or an overflow; nothing is said where it isn't made
abbrev pub SortsIf : List Sorting → Surroundings → List Row → Result (Option (List Row)) EvalFault → Type 0
SortsIf ks s rows (Ok None) = Unit {0}
SortsIf ks s rows (Ok (Some out)) = Sorted ks s rows (Is out)
SortsIf ks s rows (Err fault.Overflow) = Sorted ks s rows Overflow
SortsIf ks s rows (Err fault.Memory) = Unit {0}

-- these rows, and beside them the values of the key over them
pub record IsPart (k : Sorting) (s : Surroundings) (rows : List Row) (p : Part) : Type 0 where
  pub rows_are : part_rows p ≡ rows
  pub keys_are : each (meaning k.value s) rows ≡ Is (part_keys p)

-- the same of a part that may not be made, or the key overflows on one of the rows
abbrev pub IsPartOf : Sorting → Surroundings → List Row → Result (Option Part) EvalFault → Type 0
IsPartOf k s rows (Ok None) = Unit {0}
IsPartOf k s rows (Ok (Some p)) = IsPart k s rows p
IsPartOf k s rows (Err fault.Overflow) = each (meaning k.value s) rows ≡ Overflow
IsPartOf k s rows (Err fault.Memory) = Unit {0}
