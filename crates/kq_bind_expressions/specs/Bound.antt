-- What an expression is bound to: one line for each form of the grammar.
use Rattle.std.specs.Prelude.{List, [], ◌∷◌, Ok, option_map}
use Rattle.kq_bind_expressions.specs.Names.{Names}
use Rattle.kq_bind_expressions.specs.Verdicts.{Verdict, unsupported, unknown, and_then, or_fault}
use Rattle.kq_bind_expressions.specs.Lookup.{named}
use Rattle.kq_bind_expressions.specs.Apply.{apply, applied}
use Rattle.kq_bind_expressions.specs.Operators.{sign, comparison, membership, interval, operation}
use Rattle.kq_plan_expressions.specs.Terms.{Bound, literal as constant}
use Rattle.kq_plan_functions.specs.declared.function.Function.{Function}
use Rattle.kq_plan_functions.specs.declared.function.Function.TheVariants as f
use Rattle.kq_plan_functions.specs.Names.{function_named}
use Rattle.kq_read_grammar.specs.declared.expression.Name.{Name}
use Rattle.kq_read_grammar.specs.Trees.{Precedence, Tree, name, literal, group, call, path, signed, compare, within, between, chain, Trees, no_tree, and_tree, Links, no_link, and_link, OneStep, member, index, Steps, no_step, and_step}
use Rattle.kq_read_meanings.specs.Literals.{literal_value}
use Rattle.kq_read_meanings.specs.Names.{name_said}
use Rattle.kq_read_meanings.specs.Pieces.{piece}
use Rattle.kq_read_symbols.specs.declared.kind.Symbol.{Symbol}
use Rattle.kq_value.specs.declared.schema.Field.{Field}
use Rattle.kq_value.specs.declared.value.Value.{Value}
use Rattle.kq_value.specs.declared.value.Value.TheVariants.{Text}
use Rattle.kq_value.specs.Typed.{type_of}

abbrev pub constant_of : Value → Bound
constant_of v = (constant v, type_of v)

-- the value of a literal; one that has none isn't supported
abbrev pub literal_of : Names → Symbol → Verdict Bound
literal_of s t = or_fault (unsupported t.from) (option_map constant_of (literal_value s.text t))

-- the name of a member, as a string
abbrev pub member_name : Names → Name → Bound
member_name s n = constant_of (Text (name_said s.text n))

abbrev pub function_of : Names → Symbol → Verdict Function
function_of s t = or_fault (unknown t.from) (function_named (piece s.text t))

abbrev mutual
  pub bound : Names → List Field → Tree → Verdict Bound
  bound s cs (name n) = named s cs n
  bound s cs (literal t) = literal_of s t
  bound s cs (group t e) = bound s cs e
  bound s cs (call t es) = and_then (function_of s t) (λ f. and_then (bounds s cs es) (applied f t.from))
  bound s cs (path e p ps) = and_then (bound s cs e) (λ x. and_then (stepped s cs x p) (λ y. walked s cs y ps))
  bound s cs (signed t e) = apply (sign t.kind) t.from (bound s cs e ∷ [])
  bound s cs (compare a t b) = apply (comparison t.kind) t.from (bound s cs a ∷ bound s cs b ∷ [])
  bound s cs (within a t e es) =
      and_then (bound s cs a) (λ x. and_then (bound s cs e) (λ y. and_then (bounds s cs es) (λ zs. applied (membership t.kind) t.from (x ∷ y ∷ zs))))
  bound s cs (between a t b c) = apply (interval t.kind) t.from (bound s cs a ∷ bound s cs b ∷ bound s cs c ∷ [])
  bound s cs (chain l a t b ls) = and_then (apply (operation l t.kind) t.from (bound s cs a ∷ bound s cs b ∷ [])) (λ x. chained s cs l x ls)

  pub bounds : Names → List Field → Trees → Verdict (List Bound)
  bounds s cs no_tree = Ok []
  bounds s cs (and_tree e es) = and_then (bound s cs e) (λ x. and_then (bounds s cs es) (λ xs. Ok (x ∷ xs)))

  -- operands of one precedence are paired from the left
  pub chained : Names → List Field → Precedence → Bound → Links → Verdict Bound
  chained s cs l x no_link = Ok x
  chained s cs l x (and_link t e ls) = and_then (apply (operation l t.kind) t.from (Ok x ∷ bound s cs e ∷ [])) (λ y. chained s cs l y ls)

  -- the first symbol is the dot or the bracket
  pub stepped : Names → List Field → Bound → OneStep → Verdict Bound
  stepped s cs x (member d n) = applied f.Member d.from (x ∷ member_name s n ∷ [])
  stepped s cs x (index d e) = apply f.Member d.from (Ok x ∷ bound s cs e ∷ [])

  pub walked : Names → List Field → Bound → Steps → Verdict Bound
  walked s cs x no_step = Ok x
  walked s cs x (and_step p ps) = and_then (stepped s cs x p) (λ y. walked s cs y ps)
