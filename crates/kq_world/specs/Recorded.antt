-- The items that were recorded.
use Rattle.std.specs.Prelude.{List, [], ◌∷◌, ◌++◌}
use Rattle.kq_world.specs.declared.recorded.Link.{Link}
use Rattle.kq_world.specs.declared.recorded.Link.TheVariants.{Start, More}

-- the items before, and one more
abbrev pub items : {T : Type 0} → Link T → List T
items Start = []
items (More before item) = before.value ++ item.value ∷ []
