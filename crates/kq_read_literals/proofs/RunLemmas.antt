-- Runs of bytes of a class.
use Rattle.std.proofs.Common.{◌≡◌, ℕ, suc, ◌<◌, ◌+◌, Bool, true, false, cond, List, [], ◌∷◌, length, drop, refl, subst, arith}
use Rattle.std.specs.List.{list_all, prefix_len}
use Rattle.kq_read_tokens.specs.Bytes.{is_end, run_then}
use Rattle.kq_read_tokens.proofs.TestLemmas.{both_true, and_true}

abbrev pub Includes : (ℕ → Bool) → (ℕ → Bool) → Type 0
Includes ok class = (b : ℕ) → class b ≡ true → ok b ≡ true

pub end_all : (ok : ℕ → Bool) (bs : List ℕ) → is_end bs ≡ true → list_all ok bs ≡ true
end_all ok [] h = refl
end_all ok (b ∷ bs) h = let no_way : false ≡ true = h in absurd (cc)

run_at : (class ok : ℕ → Bool) → Includes ok class → (b : ℕ) (bs : List ℕ) (t : Bool) → class b ≡ t → list_all ok (drop (cond t (1 + prefix_len class bs) 0) (b ∷ bs)) ≡ true → (list_all ok (drop (prefix_len class bs) bs) ≡ true → list_all ok bs ≡ true) → list_all ok (b ∷ bs) ≡ true
run_at class ok includes b bs true e h rest =
    let one_more : 1 + prefix_len class bs ≡ suc (prefix_len class bs) = omega arith in
    let left = subst (λ k. list_all ok (drop k (b ∷ bs)) ≡ true) one_more h in
    and_true (ok b) (list_all ok bs) (includes b e) (rest left)
run_at class ok includes b bs false e h rest = h

-- a run, and what follows it
pub run_and_rest : (class ok : ℕ → Bool) → Includes ok class → (bs : List ℕ) → list_all ok (drop (prefix_len class bs) bs) ≡ true → list_all ok bs ≡ true
run_and_rest class ok includes [] h = refl
run_and_rest class ok includes (b ∷ bs) h = run_at class ok includes b bs (class b) refl h (run_and_rest class ok includes bs)

-- a run to the end has a byte, and each byte is of the class
pub run_all : (class : ℕ → Bool) (bs : List ℕ) → run_then class is_end bs ≡ true → (0 < length bs) × (list_all class bs ≡ true)
run_all class [] h = let no_way : false ≡ true = h in absurd (cc)
run_all class (b ∷ bs) h =
    let p = both_true (class b) (is_end (drop (prefix_len class bs) bs)) h in
    (omega arith, and_true (class b) (list_all class bs) p.0 (run_and_rest class class (λ c k. k) bs (end_all class (drop (prefix_len class bs) bs) p.1)))
