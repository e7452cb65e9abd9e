-- What `print` makes: one row.
use Rattle.std.specs.Prelude.{ℕ, ◌+◌, List, [], ◌∷◌, Ok, codes}
use Rattle.kq_bind_columns.specs.Naming.{numbered}
use Rattle.kq_bind_columns.specs.Items.{Making, nothing_made, put_default, put_given}
use Rattle.kq_bind_expressions.specs.Names.{Names}
use Rattle.kq_bind_expressions.specs.Bound.{bound}
use Rattle.kq_bind_expressions.specs.Verdicts.{Verdict, and_then}
use Rattle.kq_read_grammar.specs.Trees.{ItemTree, plain, named}

-- an expression without a name is named by its position, from 0
abbrev pub position_name : ℕ → List ℕ
position_name i = numbered (codes "print_") i

abbrev pub item_printed : Names → ℕ → Making → ItemTree → Verdict Making
item_printed s i m (plain e) = and_then (bound s [] e) (λ x. Ok (put_default [] m x (position_name i)))
item_printed s i m (named n e) = and_then (bound s [] e) (λ x. put_given s.text m x n)

-- the items at the positions from i
abbrev pub items_printed : Names → ℕ → Making → List ItemTree → Verdict Making
items_printed s i m [] = Ok m
items_printed s i m (e ∷ es) = and_then (item_printed s i m e) (λ n. items_printed s (i + 1) n es)

abbrev pub printed : Names → List ItemTree → Verdict Making
printed s es = items_printed s 0 nothing_made es
