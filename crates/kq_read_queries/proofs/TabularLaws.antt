-- The reader of sources with their operators is exact.
use Rattle.std.proofs.Common.{◌≡◌, ◌≤◌, ℕ, zero, suc, true, false, List, [], ◌∷◌, ◌++◌, length, refl, sym, ◌∙◌, ap, subst, arith}
use Rattle.kq_read_grammar.specs.Expressions.{Text}
use Rattle.kq_read_grammar.specs.Tabulars.{operator_of, operator_key, tabular_text, source_text, operators_text, body_text}
use Rattle.kq_read_grammar.specs.TabularViews.{operators_of}
use Rattle.kq_read_grammar.specs.Trees.{TabularTree, pipeline, SourceTree, Operators, no_operator, and_operator, BodyTree}
use Rattle.kq_read_queries.proofs.Following.{source_goes_on, operator_goes_on, tabular_goes_on}
use Rattle.kq_read_queries.specs.Reading as reading
use Rattle.kq_read_symbols.specs.declared.kind.Kind.TheVariants as kind
use Rattle.kq_read_symbols.specs.declared.kind.Symbol.{Symbol}
use Rattle.kq_read_tokens.specs.declared.kind.Punctuation.TheVariants as sign
use Rattle.kq_read_symbols.specs.Classes as k
use Rattle.kq_read_symbols.specs.Classes.{Class, of}
use Rattle.kq_read_symbols.specs.Forms.{Parser, some, ◌⨾◌, Many, starts, both, many, skip}
use Rattle.kq_read_symbols.proofs.Forms.{Alike, Stuck, Then, Image}
use Rattle.kq_read_symbols.proofs.Switching.{Keyed}
use Rattle.kq_read_symbols.proofs.ClassLemmas.{apart, within}
use Rattle.kq_read_symbols.proofs.Laws.{Exact, Example, nothing, both_exact, image_exact, same_exact, many_exact, many_follows, skip_exact, skip_leads}
use Rattle.kq_read_expressions.proofs.NameLaws.{example_of}
use Rattle.kq_read_clauses.proofs.ListLaws.{Begins, front_begins}
use Rattle.kq_read_queries.proofs.SourceLaws.{source_exact, source_example, source_begins}
use Rattle.kq_read_queries.proofs.OperatorLaws.{operator_exact, operator_example}

abbrev operator_text : Symbol × BodyTree → Text
operator_text = Keyed operator_of operator_key body_text

abbrev piped : Symbol × BodyTree → Text
piped p = some (of k.pipe) ⨾ operator_text p

abbrev a_pipe : Symbol
a_pipe = example_of (kind.Punctuation sign.Pipe)

to_operators : (l : List (Symbol × BodyTree)) (u : List Symbol) → Many piped l u → operators_text (operators_of l) u
to_operators [] u s = s
to_operators (a ∷ l) u s = record { left = s.0; right = s.1; joined = s.2; before = s.3; after = to_operators l s.1 s.4 }

from_operators : (os : Operators) (u : List Symbol) → operators_text os u → (l : List (Symbol × BodyTree)) × (os ≡ operators_of l) × Many piped l u
from_operators no_operator u s = ([], refl, s)
from_operators (and_operator t b os) u s = let rest = from_operators os s.right s.after in ((t, b) ∷ rest.0, ap (λ m. and_operator t b m) rest.1, (s.left, s.right, s.joined, s.before, rest.2))

abbrev pipeline_of : SourceTree × List (Symbol × BodyTree) → TabularTree
pipeline_of p = pipeline p.0 (operators_of p.1)

abbrev pipeline_parts : SourceTree × List (Symbol × BodyTree) → Text
pipeline_parts = Then source_text (Many piped)

to_tabular : (y : TabularTree) (u : List Symbol) → Image pipeline_of pipeline_parts y u → tabular_text y u
to_tabular y u s =
    subst (λ w. tabular_text w u) (sym s.is)
    (record { left = s.spelled.left; right = s.spelled.right; joined = s.spelled.joined; before = s.spelled.before; after = to_operators s.value.1 s.spelled.right s.spelled.after })

from_tabular : (y : TabularTree) (u : List Symbol) → tabular_text y u → Image pipeline_of pipeline_parts y u
from_tabular (pipeline x os) u s =
    let rest = from_operators os s.right s.after in
    record { value = (x, rest.0); is = ap (λ m. pipeline x m) rest.1; spelled = record { left = s.left; right = s.right; joined = s.joined; before = s.before; after = rest.2 } }

pub tabular_example : Example tabular_text
tabular_example = record { value = pipeline source_example.value no_operator; text = source_example.text ++ []; spelled = record { left = source_example.text; right = []; joined = refl; before = source_example.spelled; after = refl } }

pub tabular_begins : Begins k.begins_tabular tabular_text
tabular_begins (pipeline x os) u z s = front_begins k.begins_tabular (source_text x) (operators_text os) true (source_begins x) u z s

piped_leads : (p : Symbol × BodyTree) (u z : List Symbol) → piped p u → starts (of k.pipe) (u ++ z) ≡ true
piped_leads = skip_leads (of k.pipe) a_pipe refl operator_text nothing

module _ (rec : Parser Symbol TabularTree) (n : ℕ) (rec_exact : Exact tabular_text (of tabular_goes_on) rec n) where
  pub pipeline_exact : Exact tabular_text (of tabular_goes_on) (reading.pipeline rec (suc n)) (suc n)
  unfolding reading.pipeline
  pipeline_exact =
      same_exact (Image pipeline_of pipeline_parts) tabular_text (of tabular_goes_on) to_tabular from_tabular (suc n) (reading.pipeline rec (suc n))
      (image_exact pipeline_of pipeline_parts (of tabular_goes_on) (suc n) (both (reading.source rec (suc n)) (many (of k.pipe) (skip (of k.pipe) (reading.operator rec (suc n))) (suc n)))
      (both_exact source_text (Many piped) (of source_goes_on) (of tabular_goes_on) (many_follows piped (of k.pipe) (of source_goes_on) (of tabular_goes_on) piped_leads (apart k.pipe source_goes_on refl) (within tabular_goes_on source_goes_on refl) (within tabular_goes_on k.pipe refl)) (suc n) (reading.source rec (suc n)) (many (of k.pipe) (skip (of k.pipe) (reading.operator rec (suc n))) (suc n)) (source_exact rec n rec_exact tabular_example)
      (many_exact piped (of k.pipe) (of operator_goes_on) (of tabular_goes_on) piped_leads (apart k.pipe operator_goes_on refl) (within tabular_goes_on operator_goes_on refl) (within tabular_goes_on k.pipe refl) (suc n) (suc n) (omega arith) (skip (of k.pipe) (reading.operator rec (suc n)))
      (skip_exact (of k.pipe) a_pipe refl operator_text (of operator_goes_on) (suc n) (suc n) (omega arith) (reading.operator rec (suc n)) (operator_exact rec n rec_exact tabular_example) operator_example))
      (record { value = []; text = []; spelled = refl })))

never_here : (y : TabularTree) (u z ahead : List Symbol) → tabular_text y u → Alike {T = Symbol} [] ahead → u ++ z ≡ ahead → ⊥
never_here y u z [] s alike e = let no : false ≡ true = sym (ap (starts (of k.begins_tabular)) e) ∙ tabular_begins y u z s in cc
never_here y u z (t ∷ ahead) s alike e = alike

nothing_exact : (ts : List Symbol) → length ts ≤ 0 → Stuck tabular_text (of tabular_goes_on) ts ts
nothing_exact [] l = record {
  front = [];
  split = refl;
  value = tabular_example.value;
  missing = tabular_example.text;
  completed = tabular_example.spelled;
  never = λ y u z ahead s stops alike e. never_here y u z ahead s alike e;
}
nothing_exact (t ∷ ts) l = absurd (omega arith)

pub tabular_exact : (n : ℕ) → Exact tabular_text (of tabular_goes_on) (reading.tabular n) n
unfolding reading.tabular
tabular_exact zero = record { meets = nothing_exact }
tabular_exact (suc n) = pipeline_exact (reading.tabular n) n (tabular_exact n)
