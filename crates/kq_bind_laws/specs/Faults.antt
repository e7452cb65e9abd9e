-- All faults of an expression, in the order of its text.
use Rattle.std.specs.Prelude.{ℕ, List, [], ◌∷◌, ◌++◌, map, Option, Some, None, Ok}
use Rattle.kq_bind_expressions.specs.Apply.{type_of, apply}
use Rattle.kq_bind_expressions.specs.Bound.{bound, bounds, stepped, member_name}
use Rattle.kq_bind_expressions.specs.Lookup.{meant}
use Rattle.kq_bind_expressions.specs.Names.{Names}
use Rattle.kq_bind_expressions.specs.Operators.{sign, comparison, membership, interval, operation}
use Rattle.kq_bind_expressions.specs.Verdicts.{Fault, Verdict, unsupported, unknown, mistyped, and_then, all_of}
use Rattle.kq_plan_expressions.specs.Terms.{Bound}
use Rattle.kq_plan_functions.specs.declared.function.Function.{Function}
use Rattle.kq_plan_functions.specs.declared.function.Function.TheVariants as f
use Rattle.kq_plan_functions.specs.Names.{function_named}
use Rattle.kq_plan_functions.specs.Table.{chosen}
use Rattle.kq_read_grammar.specs.Trees.{Precedence, Tree, name, literal, group, call, path, signed, compare, within, between, chain, Trees, no_tree, and_tree, Links, no_link, and_link, OneStep, member, index, Steps, no_step, and_step}
use Rattle.kq_read_meanings.specs.Literals.{literal_value}
use Rattle.kq_read_meanings.specs.Names.{name_said, name_place}
use Rattle.kq_read_meanings.specs.Pieces.{piece}
use Rattle.kq_value.specs.declared.schema.Field.{Field}
use Rattle.kq_bind_laws.specs.Told.{unless_there, where_bound}

-- no line of the function takes these types
abbrev pub untaken : Function → ℕ → List Bound → List Fault
untaken f at given = unless_there (chosen f (map type_of given)) (mistyped at)

-- an operator's own fault, where all its operands bind
abbrev pub misfit : Function → ℕ → List (Verdict Bound) → List Fault
misfit f at operands = where_bound (all_of operands) (untaken f at)

-- a called name that is no function's, or the function's own fault, where all arguments bind
abbrev pub misnamed : ℕ → Option Function → Verdict (List Bound) → List Fault
misnamed at None arguments = unknown at ∷ []
misnamed at (Some f) arguments = where_bound arguments (untaken f at)

-- a value that is looked for among others: its own fault, where it and all of them bind
abbrev pub misplaced : Function → ℕ → Verdict Bound → Verdict Bound → Verdict (List Bound) → List Fault
misplaced f at x y zs = where_bound x (λ a. where_bound y (λ b. where_bound zs (λ cs. untaken f at (a ∷ b ∷ cs))))

-- faults stand at names that stand for nothing, at literals without a value, and at operators and called names whose operands bind and don't fit
abbrev mutual
  pub faults_in : Names → List Field → Tree → List Fault
  faults_in s cs (name n) = unless_there (meant s cs (name_said s.text n)) (unknown (name_place n))
  faults_in s cs (literal t) = unless_there (literal_value s.text t) (unsupported t.from)
  faults_in s cs (group t e) = faults_in s cs e
  faults_in s cs (call t es) = misnamed t.from (function_named (piece s.text t)) (bounds s cs es) ++ faults_among s cs es
  faults_in s cs (path e p ps) = faults_in s cs e ++ (step_faults s cs (bound s cs e) p ++ steps_faults s cs (and_then (bound s cs e) (λ x. stepped s cs x p)) ps)
  faults_in s cs (signed t e) = misfit (sign t.kind) t.from (bound s cs e ∷ []) ++ faults_in s cs e
  faults_in s cs (compare a t b) = faults_in s cs a ++ (misfit (comparison t.kind) t.from (bound s cs a ∷ bound s cs b ∷ []) ++ faults_in s cs b)
  faults_in s cs (within a t e es) =
      faults_in s cs a ++ (misplaced (membership t.kind) t.from (bound s cs a) (bound s cs e) (bounds s cs es) ++ (faults_in s cs e ++ faults_among s cs es))
  faults_in s cs (between a t b c) =
      faults_in s cs a ++ (misfit (interval t.kind) t.from (bound s cs a ∷ bound s cs b ∷ bound s cs c ∷ []) ++ (faults_in s cs b ++ faults_in s cs c))
  faults_in s cs (chain l a t b ls) =
      faults_in s cs a ++ (misfit (operation l t.kind) t.from (bound s cs a ∷ bound s cs b ∷ []) ++ (faults_in s cs b
      ++ link_faults s cs l (apply (operation l t.kind) t.from (bound s cs a ∷ bound s cs b ∷ [])) ls))

  pub faults_among : Names → List Field → Trees → List Fault
  faults_among s cs no_tree = []
  faults_among s cs (and_tree e es) = faults_in s cs e ++ faults_among s cs es

  -- those of the operators and operands behind a part
  pub link_faults : Names → List Field → Precedence → Verdict Bound → Links → List Fault
  link_faults s cs l x no_link = []
  link_faults s cs l x (and_link t e ls) =
      misfit (operation l t.kind) t.from (x ∷ bound s cs e ∷ []) ++ (faults_in s cs e ++ link_faults s cs l (apply (operation l t.kind) t.from (x ∷ bound s cs e ∷ [])) ls)

  pub step_faults : Names → List Field → Verdict Bound → OneStep → List Fault
  step_faults s cs x (member d n) = misfit f.Member d.from (x ∷ Ok (member_name s n) ∷ [])
  step_faults s cs x (index d e) = misfit f.Member d.from (x ∷ bound s cs e ∷ []) ++ faults_in s cs e

  pub steps_faults : Names → List Field → Verdict Bound → Steps → List Fault
  steps_faults s cs x no_step = []
  steps_faults s cs x (and_step p ps) = step_faults s cs x p ++ steps_faults s cs (and_then x (λ y. stepped s cs y p)) ps
