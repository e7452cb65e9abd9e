-- The parts of a query, in the order of its text.
use Rattle.std.specs.Prelude.{ℕ, Bool, true, false, ◌&&◌, List, [], ◌∷◌, ◌++◌, Option, Some, None, if◌then◌else◌}
use Rattle.std.specs.List.{list_any}
use Rattle.kq_view_body.specs.declared.body.Role.{Role}
use Rattle.kq_view_body.specs.declared.body.Role.TheVariants as role
use Rattle.kq_view_body.specs.Bodies.{Part, table_name, row_operator, summarize, foreign}
use Rattle.kq_view_body.specs.Moments.{or_later, moment_in, moment_in_body}
use Rattle.kq_read_grammar.specs.declared.expression.Name.{Name}
use Rattle.kq_read_grammar.specs.Trees as tree
use Rattle.kq_read_grammar.specs.Trees.{Tree, TabularTree, pipeline, SourceTree, table, nested, worded, Operators, no_operator, and_operator, BodyTree, LetTree, QueryTree}
use Rattle.kq_read_meanings.specs.Names.{name_said, name_place}
use Rattle.kq_read_symbols.specs.Choices as right
use Rattle.kq_read_symbols.specs.Choices.{Right}
use Rattle.kq_read_symbols.specs.declared.kind.Symbol.{Symbol}
use Rattle.kq_read_tokens.specs.Bytes.{is_text}

abbrev pub foreign_at : Option ℕ → List Part
foreign_at None = []
foreign_at (Some at) = foreign at ∷ []

-- ---- lets

-- a name alone, in any number of parentheses
abbrev pub bare_name : Tree → Option Name
bare_name (tree.name n) = Some n
bare_name (tree.group t e) = bare_name e
bare_name _ = None

-- whether it is a name alone, that of one of these lets
abbrev pub names_let : List ℕ → List LetTree → Option Name → Bool
names_let text lets None = false
names_let text lets (Some n) = list_any (λ l. is_text (name_said text l.name) (name_said text n)) lets

-- the place of the first token
abbrev pub source_place : SourceTree → ℕ
source_place (table n) = name_place n
source_place (nested t q) = t.from
source_place (worded t b) = t.from

abbrev pub pipe_place : TabularTree → ℕ
pipe_place (pipeline o bs) = source_place o

-- the leftmost source, or call of now or ago, behind lets without either: what has both readings is a source, unless it is the name of one of these
abbrev pub right_place : List ℕ → List LetTree → Right Tree TabularTree → Option ℕ
right_place text before (right.scalar e) = moment_in text e
right_place text before (right.table q) = Some (pipe_place q)
right_place text before (right.either e q) = if names_let text before (bare_name e) then None else Some (pipe_place q)

abbrev pub lets_place : List ℕ → List LetTree → List LetTree → Option ℕ
lets_place text before [] = None
lets_place text before (l ∷ more) = or_later (right_place text before l.right) (lets_place text (before ++ l ∷ []) more)

-- ---- a pipe

abbrev pub none : List LetTree → Bool
none [] = true
none (l ∷ more) = false

abbrev pub is_table : List ℕ → List ℕ → SourceTree → Bool
is_table text name (table n) = is_text (name_said text n) name
is_table text name o = false

-- the source, where `first` says that no let stands before it
abbrev pub source_part : List ℕ → List ℕ → Bool → SourceTree → Part
source_part text name first o = if first && is_table text name o then table_name (source_place o) else foreign (source_place o)

abbrev pub role_of : BodyTree → Role
role_of (tree.filter e) = role.Row
role_of (tree.extend i is) = role.Row
role_of (tree.project i is) = role.Row
role_of (tree.project_away n ns) = role.Row
role_of (tree.project_rename p ps) = role.Row
role_of (tree.summarize a more g) = role.Summarize
role_of (tree.summarize_by g) = role.Summarize
role_of _ = role.Foreign

abbrev pub in_role : Role → ℕ → Part
in_role role.Row at = row_operator at
in_role role.Summarize at = summarize at
in_role role.Foreign at = foreign at

-- an operator, then its leftmost call of now or ago, then the others
abbrev pub operator_parts : List ℕ → Operators → List Part
operator_parts text no_operator = []
operator_parts text (and_operator t b bs) = in_role (role_of b) t.from ∷ (foreign_at (moment_in_body text b) ++ operator_parts text bs)

abbrev pub pipe_parts : List ℕ → List ℕ → Bool → TabularTree → List Part
pipe_parts text name first (pipeline o bs) = source_part text name first o ∷ operator_parts text bs

-- What stands within a source or an operator that no body has is behind its first token, and isn't looked at.
abbrev pub query_parts : List ℕ → List ℕ → QueryTree → List Part
query_parts text name q = foreign_at (lets_place text [] q.lets) ++ pipe_parts text name (none q.lets) q.tabular
