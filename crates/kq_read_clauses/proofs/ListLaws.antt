-- Parts with commas between them, and what texts begin with.
use Rattle.std.proofs.Common.{◌≡◌, ℕ, Bool, true, false, List, [], ◌++◌, refl, sym, ◌∙◌, ap, subst, append_assoc, arith}
use Rattle.kq_read_clauses.specs.Reading as reading
use Rattle.kq_read_grammar.specs.Clauses as grammar
use Rattle.kq_read_grammar.specs.Expressions.{Text}
use Rattle.kq_read_symbols.specs.declared.kind.Kind.TheVariants as kind
use Rattle.kq_read_symbols.specs.declared.kind.Symbol.{Symbol}
use Rattle.kq_read_tokens.specs.declared.kind.Punctuation.TheVariants as sign
use Rattle.kq_read_symbols.specs.Classes as k
use Rattle.kq_read_symbols.specs.Classes.{Class, of}
use Rattle.kq_read_symbols.specs.Forms.{Parser, some, ◌⨾◌, starts}
use Rattle.kq_read_symbols.proofs.Forms.{Stops, Then}
use Rattle.kq_read_symbols.proofs.Laws.{Exact, Example, Follows, separated_exact}
use Rattle.kq_read_expressions.proofs.NameLaws.{example_of}

-- ---- what texts begin with

-- each text of the form begins with a symbol of the class
abbrev pub Begins : {A : Type 0} → Class → (A → Text) → Type 0
Begins {A = A} is form = (y : A) (u z : List Symbol) → form y u → starts (of is) (u ++ z) ≡ true

pub some_begins_not : (a b : Class) → ((t : Symbol) → of a t ≡ true → of b t ≡ false) → (second : Text) (u z : List Symbol) → ◌⨾◌ (some (of a)) second u → starts (of b) (u ++ z) ≡ false
some_begins_not a b apart second u z s = ap (λ l. starts (of b) (l ++ z)) (s.joined ∙ ap (λ l. l ++ s.right) s.before.1.1) ∙ apart s.before.0 s.before.1.0

pub some_begins : (a b : Class) → ((t : Symbol) → of a t ≡ true → of b t ≡ true) → (second : Text) (u z : List Symbol) → ◌⨾◌ (some (of a)) second u → starts (of b) (u ++ z) ≡ true
some_begins a b sub second u z s = ap (λ l. starts (of b) (l ++ z)) (s.joined ∙ ap (λ l. l ++ s.right) s.before.1.1) ∙ sub s.before.0 s.before.1.0

-- a text begins as its first part does
pub front_begins : (is : Class) (first second : Text) (b : Bool) → ((u z : List Symbol) → first u → starts (of is) (u ++ z) ≡ b) → (u z : List Symbol) → ◌⨾◌ first second u → starts (of is) (u ++ z) ≡ b
front_begins is first second b begins u z s = ap (λ l. starts (of is) (l ++ z)) s.joined ∙ ap (starts (of is)) (append_assoc s.left s.right z) ∙ begins s.left (s.right ++ z) s.before

-- ---- one part and then another

pub then_follows : {A B : Type 0} (first : A → Text) (second : B → Text) (m mid more : Symbol → Bool) → Follows m first mid → Follows mid second more → Follows m (Then first second) more
then_follows first second m mid more f g y v z s stops =
    subst (λ l. Stops m (l ++ z)) (sym s.joined) (subst (λ l. Stops m l) (sym (append_assoc s.left s.right z)) (f y.0 s.left (s.right ++ z) s.before (g y.1 s.right z s.after stops)))

-- ---- one or more with commas between them

module _ {A : Type 0} (form : A → Text) where
  pub listed_exact : (m more : Symbol → Bool) → ((t : Symbol) → of k.comma t ≡ true → m t ≡ false) → ((t : Symbol) → more t ≡ false → m t ≡ false) → ((t : Symbol) → more t ≡ false → of k.comma t ≡ false) → (n : ℕ) (p : Parser Symbol A) → Exact form m p n → Example form → Exact (grammar.listed form) more (reading.listed p n) n
  listed_exact m more apart within stops_at n p exact example = separated_exact (of k.comma) (example_of (kind.Punctuation sign.Comma)) refl form m more apart within stops_at n n (omega arith) p exact example

  pub listed_example : Example form → Example (grammar.listed form)
  listed_example e = record { value = (e.value, []); text = e.text ++ []; spelled = record { left = e.text; right = []; joined = refl; before = e.spelled; after = refl } }

  pub listed_begins : (is : Class) → Begins is form → Begins is (grammar.listed form)
  listed_begins is begins p u z s = ap (λ l. starts (of is) (l ++ z)) s.joined ∙ ap (starts (of is)) (append_assoc s.left s.right z) ∙ begins p.0 s.left (s.right ++ z) s.before
