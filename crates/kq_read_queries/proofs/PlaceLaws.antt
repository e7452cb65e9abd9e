-- Where an exact reader stops is where symbols stop to begin a text of its form.
use Rattle.std.specs.Prelude.{MatchResult}
use Rattle.std.proofs.Common.{◌≡◌, ℕ, Bool, List, [], ◌∷◌, ◌++◌, length, Result, Ok, Err, refl, sym, ◌∙◌, ap, subst, append_assoc, append-nil, arith}
use Rattle.kq_read_grammar.specs.Expressions.{Text}
use Rattle.kq_read_queries.specs.declared.asking.ParseFault.{ParseFault}
use Rattle.kq_read_queries.specs.declared.asking.ParseFault.TheVariants as fault
use Rattle.kq_read_queries.specs.Depth.{IsShallow}
use Rattle.kq_read_queries.specs.Places.{AcceptsOnly, EndsAt, BreaksForm, IsOnly, IsRefusal, TakesAll, RefusesAt}
use Rattle.kq_read_symbols.specs.declared.cursor.Stop.{Stop}
use Rattle.kq_read_symbols.specs.declared.cursor.Stop.TheVariants.{Syntax, Memory}
use Rattle.kq_read_symbols.specs.declared.kind.Symbol.{Symbol}
use Rattle.kq_read_symbols.specs.Outcomes.{IsOutcome}
use Rattle.kq_read_symbols.specs.Forms.{Parser, Outcome}
use Rattle.kq_read_symbols.proofs.Forms.{Meets, Parses, Stuck}
use Rattle.kq_read_symbols.proofs.Laws.{Exact}

empty_of : (ts : List Symbol) → length ts ≡ 0 → ts ≡ []
empty_of [] none = refl
empty_of (t ∷ ts) none = absurd (omega arith)

module _ {A : Type 0} (form : A → Text) (more : Symbol → Bool) where
  join_one : (front : List Symbol) (t : Symbol) (after : List Symbol) → (front ++ t ∷ []) ++ after ≡ front ++ (t ∷ after)
  join_one front t after = append_assoc front (t ∷ []) after

  whole_read : (ts : List Symbol) (x : A) → Parses form more ts x [] → IsOnly form ts x
  whole_read ts x a =
      let all : ts ≡ a.front = a.split ∙ append-nil a.front in
      record {
        spelled = subst (form x) (sym all) a.spelled;
        only = λ other s. (a.only other ts [] [] s tt tt (append-nil ts ∙ all ∙ sym (append-nil a.front))).0;
      }

  left_over : (ts : List Symbol) (x : A) (t : Symbol) (rest : List Symbol) → Parses form more ts x (t ∷ rest) → BreaksForm form ts (t ∷ rest)
  left_over ts x t rest a = record {
    front = a.front;
    split = a.split;
    begins = (x, [], subst (form x) (sym (append-nil a.front)) a.spelled);
    ends = λ s.
        let found = (a.only s.0 ((a.front ++ t ∷ []) ++ s.1) [] (t ∷ s.1) s.2 tt refl (append-nil ((a.front ++ t ∷ []) ++ s.1) ∙ join_one a.front t s.1)).1 in
        let wrong : [] ≡ t ∷ s.1 = found in
        cc;
  }

  stuck_ends : (ts rest : List Symbol) → (a : Stuck form more ts rest) → EndsAt form a.front rest
  stuck_ends ts [] a = λ x s. a.never x a.front [] [] s tt tt refl
  stuck_ends ts (t ∷ rest) a = λ s. a.never s.0 ((a.front ++ t ∷ []) ++ s.1) [] (t ∷ s.1) s.2 tt refl (append-nil ((a.front ++ t ∷ []) ++ s.1) ∙ join_one a.front t s.1)

  stuck_breaks : (ts rest : List Symbol) → Stuck form more ts rest → BreaksForm form ts rest
  stuck_breaks ts rest a = record { front = a.front; split = a.split; begins = (a.value, a.missing, a.completed); ends = stuck_ends ts rest a }

  module _ (reader : ℕ → Parser Symbol A) (exact : (n : ℕ) → Exact form more (reader n) n) where
    read_meets : (ts : List Symbol) (o : Outcome Symbol A) → reader (length ts) ts ≡ o → Meets form more ts o
    read_meets ts o e = subst (λ o. Meets form more ts o) e ((exact (length ts)).meets ts (omega arith))

    reads_whole : (ts : List Symbol) (x : A) (rest : List Symbol) → reader (length ts) ts ≡ Ok (x, rest) → length rest ≡ 0 → IsOnly form ts x
    reads_whole ts x [] e none = whole_read ts x (read_meets ts (Ok (x, [])) e)
    reads_whole ts x (t ∷ rest) e none = absurd (omega arith)

    refuses : (ts rest : List Symbol) (end : ℕ) (r : ParseFault) → IsShallow ts → BreaksForm form ts rest → IsRefusal rest end r → RefusesAt form ts end r
    refuses ts rest end (fault.Syntax place) shallow breaks is = (shallow, (rest, is, breaks))
    refuses ts rest end (fault.Deep place) shallow breaks is = absurd is
    refuses ts rest end fault.Memory shallow breaks is = tt

    refuses_left : (ts : List Symbol) (x : A) (rest : List Symbol) (end : ℕ) (r : ParseFault) → IsShallow ts → reader (length ts) ts ≡ Ok (x, rest) → (length rest ≡ 0 → ⊥) → IsRefusal rest end r → RefusesAt form ts end r
    refuses_left ts x [] end r shallow e some is = absurd (some refl)
    refuses_left ts x (t ∷ rest) end r shallow e some is = refuses ts (t ∷ rest) end r shallow (left_over ts x t rest (read_meets ts (Ok (x, t ∷ rest)) e)) is

    refuses_stuck : (ts rest : List Symbol) (end : ℕ) (r : ParseFault) → IsShallow ts → reader (length ts) ts ≡ Err rest → IsRefusal rest end r → RefusesAt form ts end r
    refuses_stuck ts rest end r shallow e is = refuses ts rest end r shallow (stuck_breaks ts rest (read_meets ts (Err rest) e)) is

    -- what is answered of symbols that were read and found to be whole
    pub whole_answers : {V : Type 0} (view : V → A) (ts rest : List Symbol) (end : ℕ) (found : Result V Stop) (r : Result V ParseFault)
        → IsShallow ts → IsOutcome view (reader (length ts) ts) found rest → TakesAll rest end found r
        → MatchResult r (λ x. AcceptsOnly form ts (view x)) (RefusesAt form ts end)
    whole_answers view ts rest end (Ok x) (Ok y) shallow e is = (shallow, reads_whole ts (view y) rest (e ∙ ap (λ v. Ok (view v, rest)) is.0) (ap length is.1))
    whole_answers view ts rest end (Ok x) (Err f) shallow e is = refuses_left ts (view x) rest end f shallow e (λ none. is.0 (empty_of rest none)) is.1
    whole_answers view ts rest end (Err Syntax) (Ok y) shallow e wrong = absurd wrong
    whole_answers view ts rest end (Err Syntax) (Err f) shallow e is = refuses_stuck ts rest end f shallow e is
    whole_answers view ts rest end (Err Memory) (Ok y) shallow e wrong = absurd wrong
    whole_answers view ts rest end (Err Memory) (Err f) shallow e is = subst (RefusesAt form ts end) (sym is) tt
