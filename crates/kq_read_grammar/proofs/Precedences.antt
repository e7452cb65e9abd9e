-- The symbols with which an expression goes on.
use Rattle.std.specs.Prelude.{ℕ, nat_le, if◌then◌else◌}
use Rattle.kq_read_grammar.specs.Trees.{disjunction, conjunction, sum, product}
use Rattle.kq_read_symbols.specs.Classes as k
use Rattle.kq_read_symbols.specs.Classes.{Class}
use Rattle.kq_read_grammar.specs.Precedences.{operators, relation, step_sign}

-- With these an expression of that precedence or more goes on.
abbrev pub goes_on : ℕ → Class
goes_on n x =
    if operators disjunction x then nat_le n 0 else
    (if operators conjunction x then nat_le n 1 else
    (if relation x then nat_le n 2 else
    (if operators sum x then nat_le n 3 else
    (if operators product x then nat_le n 4 else
    (if step_sign x then nat_le n 6 else k.open_parenthesis x)))))
