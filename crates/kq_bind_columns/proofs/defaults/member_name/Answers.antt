use Rattle.std.proofs.Common.{◌≡◌, ℕ, ◌≤◌, List, [], ◌∷◌, None, length, map, refl, arith}
use Rattle.kq_bind_columns.specs.Defaults.{path_name}
use Rattle.kq_bind_columns.proofs.defaults.member_name.Goals as goal
use Rattle.kq_read_grammar.specs.declared.expression.Name.{Name}
use Rattle.kq_read_grammar.specs.declared.expression.Step.{Step}
use Rattle.kq_read_grammar.specs.Trees.{Tree, path, member}
use Rattle.kq_read_grammar.specs.Views.{tree_of, step_of, steps_of}
use Rattle.kq_read_grammar.specs.kq_read_symbols.Symbol.{Symbol}
use Rattle.kq_value.specs.declared.schema.Field.{Field}

longer : (text : List ℕ) (cs : List Field) (e : Tree) (d : Symbol) (n : Name) (ss : List Step) → 1 ≤ length ss → None ≡ path_name text cs (path e (member d n) (steps_of (map step_of ss)))
longer text cs e d n [] h = absurd (omega arith)
longer text cs e d n (s ∷ ss) h = refl

pub returns-in-len1-up : goal.returns-in-len1-up
returns-in-len1-up c = longer c.args.text.now c.args.columns.now (tree_of c.args.first.now) c.args.dot c.args.name c.args.others.now c.in-len1-up.len_at_least
