-- The readers of columns and cells are exact.
use Rattle.std.proofs.Common.{◌≡◌, ℕ, zero, suc, ◌≤◌, ◌-◌, Bool, true, false, List, [], ◌∷◌, ◌++◌, ◌⊎◌, inl, inr, length, Option, Some, None, refl, sym, ◌∙◌, ap, subst, append-nil, arith}
use Rattle.kq_read_clauses.proofs.Following.{columns_go_on, cells_go_on}
use Rattle.kq_read_clauses.specs.Reading as reading
use Rattle.kq_read_expressions.specs.Reading.{name}
use Rattle.kq_read_grammar.specs.declared.clause.Cell.{Cell}
use Rattle.kq_read_grammar.specs.declared.clause.Column.{Column}
use Rattle.kq_read_grammar.specs.declared.expression.Name.{Name}
use Rattle.kq_read_grammar.specs.Clauses as grammar
use Rattle.kq_read_grammar.specs.Expressions.{Text, name_text}
use Rattle.kq_read_symbols.specs.declared.kind.Kind.TheVariants as kind
use Rattle.kq_read_symbols.specs.declared.kind.Symbol.{Symbol}
use Rattle.kq_read_symbols.specs.declared.word.Word.TheVariants as word
use Rattle.kq_read_tokens.specs.declared.kind.Operator.TheVariants as operator
use Rattle.kq_read_tokens.specs.declared.kind.Punctuation.TheVariants as sign
use Rattle.kq_read_symbols.specs.Classes as k
use Rattle.kq_read_symbols.specs.Classes.{Class, of}
use Rattle.kq_read_symbols.specs.Forms.{Parser, one, some, ◌⨾◌, Maybe, pure, starts, expect, both, ◌<$>◌, choose, maybe, skip}
use Rattle.kq_read_symbols.proofs.Forms.{Alike, Parses, Then, Image}
use Rattle.kq_read_symbols.proofs.ClassLemmas.{apart, within, part}
use Rattle.kq_read_symbols.proofs.Laws.{Exact, Example, Leads, nothing, stops_nothing, both_exact, image_exact, same_exact, pure_exact, one_exact, choose_exact, maybe_exact, skip_exact, skip_leads, skip_example, starts_stops, stops_starts}
use Rattle.kq_read_expressions.proofs.NameLaws.{example_of, starts_part, one_leads, name_exact, name_example, name_leads}
use Rattle.kq_read_clauses.proofs.ListLaws.{Begins, front_begins, listed_exact, listed_example, listed_begins}

-- ---- columns

abbrev a_colon : Symbol
a_colon = example_of (kind.Punctuation sign.Colon)

type_example : Example (one (of k.any_word))
type_example = record { value = example_of (kind.Word word.Other); text = example_of (kind.Word word.Other) ∷ []; spelled = (refl, refl) }

abbrev behind_colon : Symbol → Text
behind_colon t = some (of k.colon) ⨾ one (of k.any_word) t

abbrev column_of : Name × Symbol → Column
column_of p = record { name = p.0; ty = p.1 }

pub column_exact : (more : Symbol → Bool) (n : ℕ) → Exact grammar.column_text more reading.column n
unfolding reading.column
column_exact more n =
    same_exact (Image column_of (Then name_text behind_colon)) grammar.column_text more
    (λ c u s. subst (λ w. grammar.column_text w u) (sym s.is) s.spelled)
    (λ c u s. record { value = (c.name, c.ty); is = refl; spelled = s })
    n reading.column
    (image_exact column_of (Then name_text behind_colon) more n (both name (skip (of k.colon) (expect (of k.any_word))))
    (both_exact name_text behind_colon nothing more (λ y v z s stops. stops_nothing (v ++ z)) n name (skip (of k.colon) (expect (of k.any_word))) (name_exact nothing n)
    (skip_exact (of k.colon) a_colon refl (one (of k.any_word)) more n n (omega arith) (expect (of k.any_word)) (one_exact (of k.any_word) (example_of (kind.Word word.Other)) refl more n) type_example)
    (skip_example (of k.colon) a_colon refl (one (of k.any_word)) nothing type_example)))

pub column_example : Example grammar.column_text
column_example =
    let ty = skip_example (of k.colon) a_colon refl (one (of k.any_word)) nothing type_example in
    record { value = record { name = name_example.value; ty = ty.value }; text = name_example.text ++ ty.text; spelled = record { left = name_example.text; right = ty.text; joined = refl; before = name_example.spelled; after = ty.spelled } }

pub column_begins : Begins k.begins_name grammar.column_text
column_begins c u z s = front_begins k.begins_name (name_text c.name) (behind_colon c.ty) true (name_leads c.name) u z s

pub columns_exact : (n : ℕ) → Exact grammar.columns_text (of columns_go_on) (reading.columns n) n
unfolding reading.columns
columns_exact n = listed_exact grammar.column_text nothing (of columns_go_on) (λ t h. refl) (λ t h. refl) (λ t h. h) n reading.column (column_exact nothing n) column_example

pub columns_example : Example grammar.columns_text
columns_example = listed_example grammar.column_text column_example

pub columns_begin : Begins k.begins_name grammar.columns_text
columns_begin = listed_begins grammar.column_text k.begins_name column_begins

-- ---- cells

abbrev a_literal : Symbol
a_literal = example_of kind.WholeNumber

abbrev minus_form : Option Symbol → Text
minus_form = Maybe (one (of k.minus))

minus_leads : Leads (of k.minus) true (one (of k.minus)) (of k.minus)
minus_leads t u z s stops = one_leads k.minus t u z s

abbrev cell_of : Option Symbol × Symbol → Cell
cell_of p = record { minus = p.0; literal = p.1 }

pub cell_exact : (more : Symbol → Bool) (n : ℕ) → Exact grammar.cell_text more reading.cell n
unfolding reading.cell
cell_exact more n =
    same_exact (Image cell_of (Then minus_form (one (of k.literal)))) grammar.cell_text more
    (λ c u s. subst (λ w. grammar.cell_text w u) (sym s.is) s.spelled)
    (λ c u s. record { value = (c.minus, c.literal); is = refl; spelled = s })
    n reading.cell
    (image_exact cell_of (Then minus_form (one (of k.literal))) more n (both (maybe (of k.minus) (expect (of k.minus))) (expect (of k.literal)))
    (both_exact minus_form (one (of k.literal)) (of k.minus) more (λ t v z s stops. stops_starts (of k.literal) (of k.minus) (apart k.literal k.minus refl) (v ++ z) (one_leads k.literal t v z s)) n (maybe (of k.minus) (expect (of k.minus))) (expect (of k.literal))
    (maybe_exact (one (of k.minus)) (of k.minus) (of k.minus) minus_leads (λ t h. h) n (expect (of k.minus)) (one_exact (of k.minus) (example_of (kind.Operator operator.Minus)) refl (of k.minus) n))
    (one_exact (of k.literal) a_literal refl more n)
    (record { value = a_literal; text = a_literal ∷ []; spelled = (refl, refl) })))

pub cell_example : Example grammar.cell_text
cell_example = record { value = record { minus = None; literal = a_literal }; text = a_literal ∷ []; spelled = record { left = []; right = a_literal ∷ []; joined = refl; before = refl; after = (refl, refl) } }

cell_begins_at : (m : Option Symbol) (t : Symbol) (u z : List Symbol) → Then minus_form (one (of k.literal)) (m, t) u → starts (of k.begins_cell) (u ++ z) ≡ true
cell_begins_at (Some m) t u z s = front_begins k.begins_cell (one (of k.minus) m) (one (of k.literal) t) true (λ v z s. starts_part k.minus k.begins_cell (part k.minus k.begins_cell refl) (v ++ z) (one_leads k.minus m v z s)) u z s
cell_begins_at None t u z s = ap (λ l. starts (of k.begins_cell) (l ++ z)) (s.joined ∙ ap (λ l. l ++ s.right) s.before) ∙ starts_part k.literal k.begins_cell (part k.literal k.begins_cell refl) (s.right ++ z) (one_leads k.literal t s.right z s.after)

pub cell_begins : Begins k.begins_cell grammar.cell_text
cell_begins c u z s = cell_begins_at c.minus c.literal u z s

-- ---- lists of cells

abbrev first_cell : List Cell → Text
first_cell = Image (λ (p : Cell × List Cell). p.0 ∷ p.1) (Then grammar.cell_text grammar.more_cells)

abbrev no_cell : List Cell → Text
no_cell cs u = (cs ≡ []) × (u ≡ [])

from_first_cell : (cs : List Cell) (u : List Symbol) → first_cell cs u → grammar.cells_text cs u
from_first_cell cs u s = subst (λ w. grammar.cells_text w u) (sym s.is) s.spelled

from_no_cell : (cs : List Cell) (u : List Symbol) → no_cell cs u → grammar.cells_text cs u
from_no_cell cs u s = subst (λ w. grammar.cells_text w u) (sym s.0) s.1

cells_cases : (cs : List Cell) (u : List Symbol) → grammar.cells_text cs u → first_cell cs u ⊎ no_cell cs u
cells_cases [] u s = inr (refl, s)
cells_cases (c ∷ cs) u s = inl (record { value = (c, cs); is = refl; spelled = s })

first_cell_begins : Begins k.begins_cell first_cell
first_cell_begins cs u z s = front_begins k.begins_cell (grammar.cell_text s.value.0) (grammar.more_cells s.value.1) true (cell_begins s.value.0) u z s.spelled

-- cells, of which the reader reads those behind the first
abbrev read_cells : Parser Symbol (List Cell) → Parser Symbol (List Cell)
read_cells p = choose (of k.begins_cell) ((λ xs. xs.0 ∷ xs.1) <$> both reading.cell p) (pure [])

no_more : Example grammar.more_cells
no_more = record { value = []; text = []; spelled = inl refl }

read_cells_exact : (n : ℕ) (p : Parser Symbol (List Cell)) → Exact grammar.more_cells (of cells_go_on) p n → Exact grammar.cells_text (of cells_go_on) (read_cells p) n
read_cells_exact n p exact =
    choose_exact (of k.begins_cell) first_cell no_cell grammar.cells_text (of cells_go_on) from_first_cell from_no_cell cells_cases
    (λ cs u z s stops. first_cell_begins cs u z s)
    (λ cs u z s stops. ap (λ l. starts (of k.begins_cell) (l ++ z)) s.1 ∙ starts_stops (of k.begins_cell) (of cells_go_on) (within cells_go_on k.begins_cell refl) z stops)
    n ((λ xs. xs.0 ∷ xs.1) <$> both reading.cell p) (pure [])
    (image_exact (λ (xs : Cell × List Cell). xs.0 ∷ xs.1) (Then grammar.cell_text grammar.more_cells) (of cells_go_on) n (both reading.cell p)
    (both_exact grammar.cell_text grammar.more_cells nothing (of cells_go_on) (λ y v z s stops. stops_nothing (v ++ z)) n reading.cell p (cell_exact nothing n) exact no_more))
    (pure_exact [] no_cell (of cells_go_on) (refl, refl) (λ cs u s. s) n)

pub cells_example : Example grammar.cells_text
cells_example = record { value = []; text = []; spelled = refl }

-- ---- behind the first cell

abbrev a_comma : Symbol
a_comma = example_of (kind.Punctuation sign.Comma)

abbrev behind_comma : List Cell → Text
behind_comma cs = some (of k.comma) ⨾ grammar.cells_text cs

from_comma : (cs : List Cell) (u : List Symbol) → behind_comma cs u → grammar.more_cells cs u
from_comma [] u s = inr (subst (λ l. some (of k.comma) l) (sym (s.joined ∙ ap (λ l. s.left ++ l) s.after ∙ append-nil s.left)) s.before)
from_comma (c ∷ cs) u s = s

from_end : (cs : List Cell) (u : List Symbol) → no_cell cs u → grammar.more_cells cs u
from_end cs u s = subst (λ w. grammar.more_cells w u) (sym s.0) (inl s.1)

more_cases : (cs : List Cell) (u : List Symbol) → grammar.more_cells cs u → behind_comma cs u ⊎ no_cell cs u
more_cases [] u (inl e) = inr (refl, e)
more_cases [] u (inr s) = inl (record { left = u; right = []; joined = sym (append-nil u); before = s; after = refl })
more_cases (c ∷ cs) u s = inl s

comma_leads : (cs : List Cell) (u z : List Symbol) → behind_comma cs u → starts (of k.comma) (u ++ z) ≡ true
comma_leads = skip_leads (of k.comma) a_comma refl grammar.cells_text nothing

ends_at : (cs : List Cell) (u z ahead : List Symbol) → behind_comma cs u ⊎ no_cell cs u → Alike {T = Symbol} [] ahead → u ++ z ≡ ahead → (cs ≡ []) × (z ≡ ahead)
ends_at cs u z ahead (inr s) alike e = (s.0, ap (λ l. l ++ z) (sym s.1) ∙ e)
ends_at cs u z [] (inl s) alike e = let no : false ≡ true = sym (ap (starts (of k.comma)) e) ∙ comma_leads cs u z s in cc
ends_at cs u z (t ∷ ahead) (inl s) alike e = absurd alike

more_at_end : (ts : List Symbol) → length ts ≤ 0 → Parses grammar.more_cells (of cells_go_on) ts [] ts
more_at_end [] le = record { front = []; split = refl; spelled = inl refl; only = λ y u z ahead s stops alike e. ends_at y u z ahead (more_cases y u s) alike e }
more_at_end (t ∷ ts) le = absurd (omega arith)

pub more_cells_exact : (f n : ℕ) → n ≤ f → Exact grammar.more_cells (of cells_go_on) (reading.more_cells f) n
unfolding reading.more_cells
more_cells_exact zero n le = record { meets = λ ts l. more_at_end ts (omega arith) }
more_cells_exact (suc f) n le =
    choose_exact (of k.comma) behind_comma no_cell grammar.more_cells (of cells_go_on) from_comma from_end more_cases
    (λ cs u z s stops. comma_leads cs u z s)
    (λ cs u z s stops. ap (λ l. starts (of k.comma) (l ++ z)) s.1 ∙ starts_stops (of k.comma) (of cells_go_on) (within cells_go_on k.comma refl) z stops)
    n (skip (of k.comma) (read_cells (reading.more_cells f))) (pure [])
    (skip_exact (of k.comma) a_comma refl grammar.cells_text (of cells_go_on) n (n - 1) (omega arith) (read_cells (reading.more_cells f)) (read_cells_exact (n - 1) (reading.more_cells f) (more_cells_exact f (n - 1) (omega arith))) cells_example)
    (pure_exact [] no_cell (of cells_go_on) (refl, refl) (λ cs u s. s) n)

pub cells_exact : (n : ℕ) → Exact grammar.cells_text (of cells_go_on) (reading.cells n) n
unfolding reading.cells
cells_exact n = read_cells_exact n (reading.more_cells n) (more_cells_exact n n (omega arith))
