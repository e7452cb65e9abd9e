-- Rows side by side.
use Rattle.std.specs.Prelude.{List}
use Rattle.kq_value.specs.declared.value.Value.{Value}
use Rattle.kq_run_scan.specs.declared.gathered.Gathered.{Gathered}
use Rattle.kq_run_scan.specs.declared.gathered.Gathered.TheVariants.{Own, Copied}

abbrev pub gathered : Gathered → List (List Value)
gathered (Own rows) = rows.now
gathered (Copied rows) = rows
