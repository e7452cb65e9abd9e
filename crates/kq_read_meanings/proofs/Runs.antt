-- Digits to the end.
use Rattle.std.proofs.Common.{◌≡◌, ◌≢◌, ℕ, suc, ◌+◌, Bool, true, false, ◌&&◌, cond, List, [], ◌∷◌, drop, refl, ap, arith}
use Rattle.std.specs.List.{list_all, prefix_len}
use Rattle.kq_read_tokens.specs.Bytes.{is_end, run_then}

-- a run goes to the end where every byte is of the class
run_to_end : (class : ℕ → Bool) (bs : List ℕ) → list_all class bs ≡ is_end (drop (prefix_len class bs) bs)
run_to_end class [] = refl
run_to_end class (b ∷ bs) = by (class b) (run_to_end class bs) where
  by : (t : Bool) → list_all class bs ≡ is_end (drop (prefix_len class bs) bs) → (t && list_all class bs) ≡ is_end (drop (cond t (1 + prefix_len class bs) 0) (b ∷ bs))
  by true e = let more : 1 + prefix_len class bs ≡ suc (prefix_len class bs) = omega arith in rw more e
  by false e = refl

-- with one byte or more
pub run_of_some : (class : ℕ → Bool) (bs : List ℕ) → bs ≢ [] → list_all class bs ≡ run_then class is_end bs
run_of_some class [] some = absurd (some refl)
run_of_some class (b ∷ bs) some = ap (λ t. class b && t) (run_to_end class bs)

pub run_of_none : (class : ℕ → Bool) (bs : List ℕ) → bs ≡ [] → false ≡ run_then class is_end bs
run_of_none class [] none = refl
run_of_none class (b ∷ bs) none = absurd (cc none)

pub ruleset run_lemmas = (run_of_some, run_of_none)
