-- Terms that mean the same as others around some rows.
use Rattle.std.specs.Prelude.{◌≡◌, List, [], ◌∷◌, Option, Some, None, Result, Ok, Err, Vec, map}
use Rattle.std.specs.declared.alloc.AllocError.{AllocError}
use Rattle.std.specs.declared.alloc.Global.{Global}
use Rattle.kq_value.specs.declared.value.Value.{Value}
use Rattle.kq_value.specs.Computed.{Is}
use Rattle.kq_plan_expressions.specs.declared.expr.Expr.{Expr}
use Rattle.kq_plan_expressions.specs.declared.expr.Link.{Link}
use Rattle.kq_plan_expressions.specs.declared.expr.Link.TheVariants as link
use Rattle.kq_plan_expressions.specs.declared.operation.Operation.TheVariants as operation
use Rattle.kq_plan_expressions.specs.Terms.{Term, term_of}
use Rattle.kq_run_row_operators.specs.kq_eval_pieces.Operators.{Row}
use Rattle.kq_run_row_operators.specs.kq_eval_row.Val.{Surroundings, meaning, surroundings}
use Rattle.kq_run_scan.specs.declared.settled.Around.{Around}

-- what stands around rows, as the definitions speak of it
abbrev pub seen : Around → Surroundings
seen around = surroundings around.now around.lets.now

-- the second term gives of each row what the first gives
abbrev pub MeansAs : Surroundings → Term → Term → Type 0
MeansAs s e d = (row : Row) → meaning d s row ≡ meaning e s row

-- and so do the terms of two lists, one by one
abbrev pub MeanAs : Surroundings → List Term → List Term → Type 0
MeanAs s [] [] = Unit {0}
MeanAs s (e ∷ es) (d ∷ ds) = MeansAs s e d × MeanAs s es ds
MeanAs s [] (d ∷ ds) = ⊥
MeanAs s (e ∷ es) [] = ⊥

-- the term gives this value of each row
abbrev pub StandsFor : Surroundings → Term → Value → Type 0
StandsFor s e v = (row : Row) → meaning e s row ≡ Is v

-- what came means the same as the term, where something came
abbrev pub SettlesTo : Surroundings → Term → Result (Option Expr) AllocError → Type 0
SettlesTo s t (Ok (Some e)) = MeansAs s (term_of e) t
SettlesTo s t (Ok None) = Unit {0}
SettlesTo s t (Err x) = Unit {0}

-- and so do all that came
abbrev pub SettleTo : Surroundings → List Term → Result (Option (Vec Expr Global)) AllocError → Type 0
SettleTo s ts (Ok (Some es)) = MeanAs s (map term_of es.items) ts
SettleTo s ts (Ok None) = Unit {0}
SettleTo s ts (Err x) = Unit {0}

-- the link is an `and` with an operand that means the same as this term
pub record IsJoined (s : Surroundings) (l : Link Term) (e : Term) : Type 0 where
  pub operand : Term
  pub is : l ≡ link.With operation.And operand
  pub same : MeansAs s e operand

abbrev pub JoinsTo : Surroundings → Link Term → Result (Option Expr) AllocError → Type 0
JoinsTo s l (Ok (Some e)) = IsJoined s l (term_of e)
JoinsTo s l (Ok None) = Unit {0}
JoinsTo s l (Err x) = Unit {0}
