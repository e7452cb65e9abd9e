-- The reader of the cells behind the first beside a loop that counts up.
use Rattle.std.proofs.Common.{◌≡◌, ℕ, suc, ◌+◌, ◌-◌, ◌<◌, ◌≤◌, true, false, List, [], ◌∷◌, ◌++◌, Ok, Err, refl, sym, ap, ◌∙◌, append_assoc, append-nil, arith}
use Rattle.kq_read_clauses.specs.Reading.{cell, more_cells}
use Rattle.kq_read_grammar.specs.declared.clause.Cell.{Cell}
use Rattle.kq_read_symbols.specs.declared.kind.Symbol.{Symbol}
use Rattle.kq_read_symbols.specs.declared.cursor.Stop.{Stop}
use Rattle.kq_read_symbols.specs.declared.cursor.Stop.TheVariants.{Syntax, Memory}
use Rattle.kq_read_symbols.specs.Classes as k
use Rattle.kq_read_symbols.specs.Classes.{of}
use Rattle.kq_read_symbols.specs.Forms.{Outcome, and_then, pure, starts, expect, with_front}
use Rattle.kq_read_symbols.specs.Outcomes.{IsOutcome}

by_outcome : (front : List Cell) (t : Symbol) (x : Cell) (out : Outcome Symbol (List Cell)) → with_front front (and_then {T = Symbol} {A = Symbol × List Cell} {B = List Cell} (and_then {T = Symbol} {A = List Cell} {B = Symbol × List Cell} (and_then {T = Symbol} {A = Cell × List Cell} {B = List Cell} (and_then {T = Symbol} {A = List Cell} {B = Cell × List Cell} out (λ y. pure (x, y))) (λ w. pure (w.0 ∷ w.1))) (λ y. pure (t, y))) (λ w. pure w.1)) ≡ with_front (front ++ x ∷ []) out
by_outcome front t x (Ok q) = let e : front ++ x ∷ q.0 ≡ (front ++ x ∷ []) ++ q.0 = sym (append_assoc front (x ∷ []) q.0) in cc
by_outcome front t x (Err r) = refl

taken : (n : ℕ) (front : List Cell) (ts mid rest : List Symbol) (t : Symbol) (x : Cell) → starts (of k.comma) ts ≡ true → expect (of k.comma) ts ≡ Ok (t, mid) → starts (of k.begins_cell) mid ≡ true → cell mid ≡ Ok (x, rest) → with_front front (more_cells (suc n) ts) ≡ with_front (front ++ x ∷ []) (more_cells n rest)
unfolding more_cells
taken n front ts mid rest t x comma took begins e = rw (comma, took, begins, e) (by_outcome front t x (more_cells n rest))

stuck : (n : ℕ) (front : List Cell) (ts mid rest : List Symbol) (t : Symbol) → starts (of k.comma) ts ≡ true → expect (of k.comma) ts ≡ Ok (t, mid) → starts (of k.begins_cell) mid ≡ true → cell mid ≡ Err rest → with_front front (more_cells (suc n) ts) ≡ Err rest
unfolding more_cells
stuck n front ts mid rest t comma took begins e = rw (comma, took, begins, e) refl

trailed : (n : ℕ) (front : List Cell) (ts mid : List Symbol) (t : Symbol) → starts (of k.comma) ts ≡ true → expect (of k.comma) ts ≡ Ok (t, mid) → starts (of k.begins_cell) mid ≡ false → with_front front (more_cells (suc n) ts) ≡ Ok (front, mid)
unfolding more_cells
trailed n front ts mid t comma took begins = rw (comma, took, begins) (let e : front ++ [] ≡ front = append-nil front in cc)

ended : (n : ℕ) (front : List Cell) (ts : List Symbol) → starts (of k.comma) ts ≡ false → with_front front (more_cells (suc n) ts) ≡ Ok (front, ts)
unfolding more_cells
ended n front ts comma = rw comma (let e : front ++ [] ≡ front = append-nil front in cc)

done : (front : List Cell) (ts : List Symbol) → with_front front (more_cells 0 ts) ≡ Ok (front, ts)
unfolding more_cells
done front ts = let e : front ++ [] ≡ front = append-nil front in cc

module _ (start : Outcome Symbol (List Cell)) (n at : ℕ) (front : List Cell) (ts : List Symbol) (so_far : start ≡ with_front front (more_cells (n - at) ts)) where
  one_turn : at < n → start ≡ with_front front (more_cells (suc (n - (at + 1))) ts)
  one_turn below = let turn : n - at ≡ suc (n - (at + 1)) = omega arith in so_far ∙ ap (λ m. with_front front (more_cells m ts)) turn

  pub turn_taken : (mid rest : List Symbol) (t : Symbol) (x : Cell) → at < n → starts (of k.comma) ts ≡ true → expect (of k.comma) ts ≡ Ok (t, mid) → starts (of k.begins_cell) mid ≡ true → cell mid ≡ Ok (x, rest) → start ≡ with_front (front ++ x ∷ []) (more_cells (n - (at + 1)) rest)
  turn_taken mid rest t x below comma took begins e = one_turn below ∙ taken (n - (at + 1)) front ts mid rest t x comma took begins e

  pub turn_stuck : {X : Type 0} (view : X → List Cell) (mid rest : List Symbol) (t : Symbol) (stop : Stop) → at < n → starts (of k.comma) ts ≡ true → expect (of k.comma) ts ≡ Ok (t, mid) → starts (of k.begins_cell) mid ≡ true → IsOutcome (λ (x : Cell). x) (cell mid) (Err stop) rest → IsOutcome view start (Err stop) rest
  turn_stuck view mid rest t Syntax below comma took begins e = one_turn below ∙ stuck (n - (at + 1)) front ts mid rest t comma took begins e
  turn_stuck view mid rest t Memory below comma took begins e = tt

  pub turn_trailed : (mid : List Symbol) (t : Symbol) → at < n → starts (of k.comma) ts ≡ true → expect (of k.comma) ts ≡ Ok (t, mid) → starts (of k.begins_cell) mid ≡ false → start ≡ Ok (front, mid)
  turn_trailed mid t below comma took begins = one_turn below ∙ trailed (n - (at + 1)) front ts mid t comma took begins

  pub turn_ended : at < n → starts (of k.comma) ts ≡ false → start ≡ Ok (front, ts)
  turn_ended below comma = one_turn below ∙ ended (n - (at + 1)) front ts comma

  pub turns_done : n ≤ at → start ≡ Ok (front, ts)
  turns_done above = let none : n - at ≡ 0 = omega arith in so_far ∙ ap (λ m. with_front front (more_cells m ts)) none ∙ done front ts
