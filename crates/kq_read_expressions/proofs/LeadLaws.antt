-- What expressions begin with.
use Rattle.std.proofs.Common.{◌≡◌, ◌≤◌, ◌||◌, true, List, ◌++◌, refl, arith}
use Rattle.kq_read_grammar.specs.Expressions.{spells}
use Rattle.kq_read_grammar.specs.Precedences.{binding}
use Rattle.kq_read_grammar.specs.Trees.{Tree, literal, group, call, path, signed, compare, within, between, chain}
use Rattle.kq_read_grammar.specs.Trees.Tree.{name}
use Rattle.kq_read_symbols.specs.declared.kind.Symbol.{Symbol}
use Rattle.kq_read_symbols.specs.Classes as k
use Rattle.kq_read_symbols.specs.Classes.{Class, of}
use Rattle.kq_read_symbols.specs.Forms.{one, starts}
use Rattle.kq_read_symbols.proofs.ClassLemmas.{part}
use Rattle.kq_read_expressions.proofs.NameLaws.{starts_part, one_leads, front_leads, name_leads}
use Rattle.kq_read_expressions.proofs.LevelLaws.{too_tight}

-- what an expression without a sign in front begins with
abbrev pub begins_operand : Class
begins_operand x = k.any_word x || k.literal x || k.open_parenthesis x || k.open_bracket x

one_begins : (a b : Class) → ((t : Symbol) → of a t ≡ true → of b t ≡ true) → (t : Symbol) (u z : List Symbol) → one (of a) t u → starts (of b) (u ++ z) ≡ true
one_begins a b sub t u z s = starts_part a b sub (u ++ z) (one_leads a t u z s)

pub operand_leads : (e : Tree) (u z : List Symbol) → 6 ≤ binding e → spells e u → starts (of begins_operand) (u ++ z) ≡ true
operand_leads (name n) u z le s = starts_part k.begins_name begins_operand (part k.begins_name begins_operand refl) (u ++ z) (name_leads n u z s)
operand_leads (literal t) u z le s = one_begins k.literal begins_operand (part k.literal begins_operand refl) t u z s
operand_leads (group t e) u z le s = front_leads (of begins_operand) u s.left s.right z s.joined (λ w. one_begins k.open_parenthesis begins_operand (part k.open_parenthesis begins_operand refl) t s.left w s.before)
operand_leads (call t es) u z le s = front_leads (of begins_operand) u s.left s.right z s.joined (λ w. one_begins k.any_word begins_operand (part k.any_word begins_operand refl) t s.left w s.before)
operand_leads (path e x xs) u z le s = front_leads (of begins_operand) u s.left s.right z s.joined (λ w. operand_leads e s.left w (omega (arith, s.before.0)) s.before.1)
operand_leads (signed t e) u z le s = absurd (omega arith)
operand_leads (compare a t b) u z le s = absurd (omega arith)
operand_leads (within a t b es) u z le s = absurd (omega arith)
operand_leads (between a t b c) u z le s = absurd (omega arith)
operand_leads (chain l e t f ls) u z le s = absurd (too_tight l 6 (omega arith) le)

operand_begins : (e : Tree) (u z : List Symbol) → 6 ≤ binding e → spells e u → starts (of k.begins_expression) (u ++ z) ≡ true
operand_begins e u z le s = starts_part begins_operand k.begins_expression (part begins_operand k.begins_expression refl) (u ++ z) (operand_leads e u z le s)

pub expression_leads : (e : Tree) (u z : List Symbol) → spells e u → starts (of k.begins_expression) (u ++ z) ≡ true
expression_leads (name n) u z s = operand_begins (name n) u z (omega arith) s
expression_leads (literal t) u z s = operand_begins (literal t) u z (omega arith) s
expression_leads (group t e) u z s = operand_begins (group t e) u z (omega arith) s
expression_leads (call t es) u z s = operand_begins (call t es) u z (omega arith) s
expression_leads (path e x xs) u z s = operand_begins (path e x xs) u z (omega arith) s
expression_leads (signed t e) u z s = front_leads (of k.begins_expression) u s.left s.right z s.joined (λ w. one_begins k.additive k.begins_expression (part k.additive k.begins_expression refl) t s.left w s.before)
expression_leads (compare a t b) u z s = front_leads (of k.begins_expression) u s.left s.right z s.joined (λ w. expression_leads a s.left w s.before.1)
expression_leads (within a t b es) u z s = front_leads (of k.begins_expression) u s.left s.right z s.joined (λ w. expression_leads a s.left w s.before.1)
expression_leads (between a t b c) u z s = front_leads (of k.begins_expression) u s.left s.right z s.joined (λ w. expression_leads a s.left w s.before.1)
expression_leads (chain l e t f ls) u z s = front_leads (of k.begins_expression) u s.left s.right z s.joined (λ w. expression_leads e s.left w s.before.1)
