-- The least and the greatest of some numbers.
use Rattle.std.proofs.Common.{◌≡◌, ◌≤◌, ℕ, zero, suc, List, [], ◌∷◌, Some, ap, arith}
use Rattle.std.specs.List.{All, Contains}
use Rattle.kq_store_column.specs.Bounds.{AreBounds}
use Rattle.kq_engine_show.specs.ExtentRows.{greatest, greatest_of, least, least_of}

least_below : (n : ℕ) (ns : List ℕ) → All (λ x. least_of n ns ≤ x) (n ∷ ns)
least_below n [] zero d lt = omega arith
least_below n [] (suc k) d lt = absurd (omega arith)
least_below n (m ∷ ms) zero d lt = omega arith
least_below n (m ∷ ms) (suc k) d lt = let h = least_below m ms k d (omega arith) in omega arith

-- a number that none is below is at most the least
below_least : (x n : ℕ) (ns : List ℕ) → All (λ y. x ≤ y) (n ∷ ns) → x ≤ least_of n ns
below_least x n [] h = h 0 0 (omega arith)
below_least x n (m ∷ ms) h =
    let first : x ≤ n = h 0 0 (omega arith) in
    let rest : x ≤ least_of m ms = below_least x m ms (λ k d lt. h (suc k) d (omega arith)) in
    omega arith

greatest_above : (n : ℕ) (ns : List ℕ) → All (λ x. x ≤ greatest_of n ns) (n ∷ ns)
greatest_above n [] zero d lt = omega arith
greatest_above n [] (suc k) d lt = absurd (omega arith)
greatest_above n (m ∷ ms) zero d lt = omega arith
greatest_above n (m ∷ ms) (suc k) d lt = let h = greatest_above m ms k d (omega arith) in omega arith

above_greatest : (x n : ℕ) (ns : List ℕ) → All (λ y. y ≤ x) (n ∷ ns) → greatest_of n ns ≤ x
above_greatest x n [] h = h 0 0 (omega arith)
above_greatest x n (m ∷ ms) h =
    let first : n ≤ x = h 0 0 (omega arith) in
    let rest : greatest_of m ms ≤ x = above_greatest x m ms (λ k d lt. h (suc k) d (omega arith)) in
    omega arith

stands_below : (xs : List ℕ) (x y : ℕ) → Contains xs x → All (λ z. y ≤ z) xs → y ≤ x
stands_below xs x y stands all = let (k, within, is) = stands in let h = all k x within in omega arith

stands_above : (xs : List ℕ) (x y : ℕ) → Contains xs x → All (λ z. z ≤ y) xs → x ≤ y
stands_above xs x y stands all = let (k, within, is) = stands in let h = all k x within in omega arith

none_stands : (x : ℕ) → Contains [] x → ⊥
none_stands x stands = let (k, within, is) = stands in omega arith

pub least-bounds : (xs : List ℕ) (lower upper : ℕ) → AreBounds ◌≤◌ xs lower upper → Some lower ≡ least xs
least-bounds [] lower upper b = absurd (none_stands lower b.least_stands)
least-bounds (n ∷ ns) lower upper b =
    let up = stands_below (n ∷ ns) lower (least_of n ns) b.least_stands (least_below n ns) in
    let down = below_least lower n ns b.none_below in
    let same : lower ≡ least_of n ns = omega arith in
    ap Some same

pub greatest-bounds : (xs : List ℕ) (lower upper : ℕ) → AreBounds ◌≤◌ xs lower upper → Some upper ≡ greatest xs
greatest-bounds [] lower upper b = absurd (none_stands upper b.greatest_stands)
greatest-bounds (n ∷ ns) lower upper b =
    let down = stands_above (n ∷ ns) upper (greatest_of n ns) b.greatest_stands (greatest_above n ns) in
    let up = above_greatest upper n ns b.none_above in
    let same : upper ≡ greatest_of n ns = omega arith in
    ap Some same
