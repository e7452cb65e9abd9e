-- One part or more, as the code holds them.
use Rattle.std.specs.Prelude.{List, Vec, map}
use Rattle.std.specs.declared.alloc.Global.{Global}

-- the first part and the others
abbrev pub first_and_others : {X Y : Type 0} → (X → Y) → X × Vec X Global → Y × List Y
first_and_others view p = (view p.0, map view p.1.items)
