-- How many stages a text has: its scalar lets, its sources that aren't parentheses, and its operators.
use Rattle.std.specs.Prelude.{ℕ, ◌+◌, List, [], ◌∷◌}
use Rattle.kq_read_grammar.specs.Trees.{Tree, TabularTree, pipeline, SourceTree, table, nested, worded, FromTree, union, UnionTree, arms, ArmTree, named_arm, nested_arm, Arms, no_arm, and_arm, Operators, no_operator, and_operator, BodyTree, join, unite, LetTree, QueryTree}
use Rattle.kq_read_symbols.specs.Choices.{Right, scalar, table as tabular_alone, either}

abbrev mutual
  pub tabular_stages : TabularTree → ℕ
  tabular_stages (pipeline o bs) = source_stages o + operator_stages bs

  pub source_stages : SourceTree → ℕ
  source_stages (table n) = 1
  source_stages (nested t q) = tabular_stages q
  source_stages (worded t b) = from_stages b

  pub from_stages : FromTree → ℕ
  from_stages (union u) = 1 + union_stages u
  from_stages _ = 1

  pub union_stages : UnionTree → ℕ
  union_stages (arms kind a more) = arm_stages a + arms_stages more

  pub arms_stages : Arms → ℕ
  arms_stages no_arm = 0
  arms_stages (and_arm a more) = arm_stages a + arms_stages more

  pub arm_stages : ArmTree → ℕ
  arm_stages (named_arm n) = 1
  arm_stages (nested_arm t q) = tabular_stages q

  pub operator_stages : Operators → ℕ
  operator_stages no_operator = 0
  operator_stages (and_operator t b bs) = body_stages b + operator_stages bs

  pub body_stages : BodyTree → ℕ
  body_stages (join kind q k ks) = 1 + tabular_stages q
  body_stages (unite u) = 1 + union_stages u
  body_stages _ = 1

-- a name alone, which has both readings, is one stage in both
abbrev pub right_stages : Right Tree TabularTree → ℕ
right_stages (scalar e) = 1
right_stages (tabular_alone q) = tabular_stages q
right_stages (either e q) = tabular_stages q

abbrev pub let_stages : List LetTree → ℕ
let_stages [] = 0
let_stages (l ∷ ls) = right_stages l.right + let_stages ls

abbrev pub stages_of : QueryTree → ℕ
stages_of q = let_stages q.lets + tabular_stages q.tabular
