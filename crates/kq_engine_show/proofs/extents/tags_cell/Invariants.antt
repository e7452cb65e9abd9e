use Rattle.std.proofs.Common.{◌≡◌, map, take}
use Rattle.kq_value.specs.declared.dynamic.Dyn.TheVariants.{Text}
use Rattle.kq_engine_show.proofs.extents.tags_cell.Given as goal

abbrev pub invariant-loop-text : goal.invariant-loop-text
invariant-loop-text l = l.items.items ≡ map Text (take l.text-index l.texts)
