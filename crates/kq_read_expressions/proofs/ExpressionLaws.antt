-- The reader of expressions is exact.
use Rattle.std.proofs.Common.{◌≡◌, ℕ, zero, suc, ◌≤◌, true, false, List, [], ◌∷◌, ◌++◌, length, refl, sym, ◌∙◌, ap, arith}
use Rattle.kq_read_grammar.specs.Expressions.{spells}
use Rattle.kq_read_grammar.specs.Precedences.{operators}
use Rattle.kq_read_grammar.proofs.Precedences.{goes_on}
use Rattle.kq_read_grammar.specs.Trees.{disjunction as ors, conjunction as ands, sum as sums, product as products, Tree}
use Rattle.kq_read_symbols.specs.declared.kind.Kind.TheVariants as kind
use Rattle.kq_read_symbols.specs.declared.kind.Symbol.{Symbol}
use Rattle.kq_read_symbols.specs.declared.word.ReservedWord.TheVariants as reserved
use Rattle.kq_read_symbols.specs.declared.word.Word.TheVariants as word
use Rattle.kq_read_tokens.specs.declared.kind.Operator.TheVariants as operator
use Rattle.kq_read_symbols.specs.Classes as k
use Rattle.kq_read_symbols.specs.Classes.{of}
use Rattle.kq_read_symbols.specs.Forms.{Parser, starts}
use Rattle.kq_read_symbols.proofs.Forms.{Alike, Stuck}
use Rattle.kq_read_symbols.proofs.ClassLemmas.{apart, within}
use Rattle.kq_read_symbols.proofs.Laws.{Exact, Example, same_exact}
use Rattle.kq_read_expressions.specs.Reading.{signed, product, sum, comparison, conjunction, disjunction, expression}
use Rattle.kq_read_expressions.proofs.NameLaws.{example_of}
use Rattle.kq_read_expressions.proofs.LevelLaws.{at, chain_exact}
use Rattle.kq_read_expressions.proofs.LeadLaws.{expression_leads}
use Rattle.kq_read_expressions.proofs.PrimaryLaws.{one_spelled}
use Rattle.kq_read_expressions.proofs.PathLaws.{signed_exact}
use Rattle.kq_read_expressions.proofs.RelationLaws.{comparison_exact}

pub expression_example : Example spells
expression_example = one_spelled

pub begins_leads : (e : Tree) (u z : List Symbol) → spells e u → starts (of k.begins_expression) (u ++ z) ≡ true
begins_leads = expression_leads

module _ (rec : Parser Symbol Tree) (f n : ℕ) (le : suc n ≤ f) (rec_exact : Exact spells (of (goes_on 0)) rec n) where
  sum_exact : Exact (at 3) (of (goes_on 3)) (sum rec f) (suc n)
  unfolding sum product
  sum_exact =
      let a = signed_exact rec f n le rec_exact in
      let b = chain_exact products (example_of (kind.Operator operator.Star)) refl (apart (operators products) (goes_on 5) refl) (within (goes_on 4) (goes_on 5) refl) (within (goes_on 4) (operators products) refl) (omega arith) f (suc n) le (signed rec f) a in
      chain_exact sums (example_of (kind.Operator operator.Plus)) refl (apart (operators sums) (goes_on 4) refl) (within (goes_on 3) (goes_on 4) refl) (within (goes_on 3) (operators sums) refl) (omega arith) f (suc n) le (product rec f) b

  disjunction_exact : Exact (at 0) (of (goes_on 0)) (disjunction rec f) (suc n)
  unfolding disjunction conjunction
  disjunction_exact =
      let d = comparison_exact rec f n le rec_exact sum_exact in
      let e = chain_exact ands (example_of (kind.Word (word.Reserved reserved.And))) refl (apart (operators ands) (goes_on 2) refl) (within (goes_on 1) (goes_on 2) refl) (within (goes_on 1) (operators ands) refl) (omega arith) f (suc n) le (comparison rec f) d in
      chain_exact ors (example_of (kind.Word (word.Reserved reserved.Or))) refl (apart (operators ors) (goes_on 1) refl) (within (goes_on 0) (goes_on 1) refl) (within (goes_on 0) (operators ors) refl) (omega arith) f (suc n) le (conjunction rec f) e

never_here : (y : Tree) (u z ahead : List Symbol) → spells y u → Alike {T = Symbol} [] ahead → u ++ z ≡ ahead → ⊥
never_here y u z [] s alike e = let no : false ≡ true = sym (ap (starts (of k.begins_expression)) e) ∙ begins_leads y u z s in cc
never_here y u z (t ∷ ahead) s alike e = alike

nothing_exact : (ts : List Symbol) → length ts ≤ 0 → Stuck spells (of (goes_on 0)) ts ts
nothing_exact [] l = record {
  front = [];
  split = refl;
  value = one_spelled.value;
  missing = one_spelled.text;
  completed = one_spelled.spelled;
  never = λ y u z ahead s stops alike e. never_here y u z ahead s alike e;
}
nothing_exact (t ∷ ts) l = absurd (omega arith)

pub expression_exact : (n : ℕ) → Exact spells (of (goes_on 0)) (expression n) n
unfolding expression
expression_exact zero = record { meets = nothing_exact }
expression_exact (suc n) =
    same_exact (at 0) spells (of (goes_on 0)) (λ y u s. s.1) (λ y u s. (omega arith, s)) (suc n) (disjunction (expression n) (suc n))
    (disjunction_exact (expression n) (suc n) n (omega arith) (expression_exact n))
