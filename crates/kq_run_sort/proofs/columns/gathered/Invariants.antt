use Rattle.std.proofs.Common.{◌≡◌, Some, map, take}
use Rattle.kq_run_sort.specs.Parts.{number_in}
use Rattle.kq_run_sort.proofs.columns.gathered.Given as goal

abbrev pub invariant-loop-spot : goal.invariant-loop-spot
invariant-loop-spot l = map Some l.numbers.items ≡ map (number_in (map (λ xs. xs.now) l.slices)) (take l.spot-index l.places)
