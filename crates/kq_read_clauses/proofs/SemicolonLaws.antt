-- No part of a source or an operator has a semicolon in it.
use Rattle.std.proofs.Common.{List, [], ◌∷◌, refl, sym, subst}
use Rattle.kq_read_grammar.specs.Clauses as grammar
use Rattle.kq_read_grammar.specs.Expressions.{Text}
use Rattle.kq_read_symbols.specs.declared.kind.Symbol.{Symbol}
use Rattle.kq_read_symbols.specs.Classes as k
use Rattle.kq_read_symbols.specs.Classes.{of}
use Rattle.kq_read_symbols.specs.Forms.{some, ◌⨾◌, Many}
use Rattle.kq_read_symbols.proofs.ClassLemmas.{apart}
use Rattle.kq_read_expressions.proofs.SemicolonLaws.{free, free_joined, free_some}

-- no text has a semicolon in it
abbrev pub Free : Text → Type 0
Free text = (u : List Symbol) → text u → free u

pub joined_free : (first second : Text) → Free first → Free second → Free (◌⨾◌ first second)
joined_free first second a b u s = free_joined u s.left s.right s.joined (a s.left s.before) (b s.right s.after)

comma_free : Free (some (of k.comma))
comma_free = free_some k.comma (apart k.comma k.semicolon refl)

module _ {A : Type 0} (form : A → Text) (off : (x : A) → Free (form x)) where
  others_free : (xs : List A) → Free (Many (λ x. some (of k.comma) ⨾ form x) xs)
  others_free [] u s = subst free (sym s) tt
  others_free (x ∷ xs) u s = free_joined u s.0 s.1 s.2 (joined_free (some (of k.comma)) (form x) comma_free (off x) s.0 s.3) (others_free xs s.1 s.4)

  pub listed_free : (p : A × List A) → Free (grammar.listed form p)
  listed_free p = joined_free (form p.0) (Many (λ x. some (of k.comma) ⨾ form x) p.1) (off p.0) (others_free p.1)

-- ---- names, items and keys

-- ---- aggregates

-- ---- joins

-- ---- columns and cells
