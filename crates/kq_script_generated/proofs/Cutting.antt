-- What is cut off the front of rows, and how much stands behind it.
use Rattle.std.proofs.Common.{◌≡◌, ℕ, zero, suc, ◌+◌, ◌-◌, ◌*◌, ◌==◌, ◌<◌, ◌∙◌, inl, inr, min, true, false, List, [], ◌∷◌, ◌++◌, length, refl, ap, subst, append_assoc, eq-eqb, arith, length-append}
use Rattle.std.specs.List.{range_with_len}
use Rattle.std.proofs.lemmas.Bool.{cases_lt, ne_eqb}
use Rattle.std.proofs.lemmas.List.{append-nil, map-append}
use Rattle.std.proofs.lemmas.List.FromFn.{length-map-range_with_len}
use Rattle.itertools.specs.List.{chunks, chunks_from}
use Rattle.kq_script_generated.specs.Commands.{batch_commands, batches, commands_from, each_behind, row_text, rows_from}
use Rattle.kq_script_generated.proofs.Putting.{put-front}

range_with_len-add : (a m n : ℕ) → range_with_len a (m + n) ≡ range_with_len a m ++ range_with_len (a + m) n
range_with_len-add a zero n = grind arith
range_with_len-add a (suc m) n =
    let one : suc m + n ≡ suc (m + n) = omega arith in
    let start : a + suc m ≡ a + 1 + m = omega arith in
    let later = range_with_len-add (a + 1) m n in
    rw (one, start) (ap (λ (l : List ℕ). a ∷ l) later)

rows_from-add : (i m n : ℕ) → rows_from i (m + n) ≡ rows_from i m ++ rows_from (i + m) n
rows_from-add i m n = rw range_with_len-add (map-append row_text (range_with_len i m) (range_with_len (i + m) n))

length-rows_from : (i count : ℕ) → length (rows_from i count) ≡ count
length-rows_from i count = length-map-range_with_len row_text i count

-- the first row of those up to an end
pub rows_from-next : (i end : ℕ) → i < end → rows_from i (end - i) ≡ row_text i ∷ rows_from (i + 1) (end - (i + 1))
rows_from-next i end below = let e : end - i ≡ suc (end - (i + 1)) = omega arith in rw e refl

chunks_from-full : {A : Type 0} (k : ℕ) (acc xs rest : List A) → length acc + length xs ≡ k → 0 < length xs → chunks_from k acc (xs ++ rest) ≡ (acc ++ xs) ∷ chunks_from k [] rest
chunks_from-full k acc [] rest full some = absurd (omega arith)
chunks_from-full k acc (x ∷ []) rest full some =
    let e : (length acc + 1 == k) ≡ true = eq-eqb (length acc + 1) k (omega arith) in
    rw e refl
chunks_from-full {A} k acc (x ∷ y ∷ xs) rest full some =
    let e : (length acc + 1 == k) ≡ false = ne_eqb (length acc + 1) k (λ same. omega arith) in
    let long : length (acc ++ x ∷ []) + length (y ∷ xs) ≡ k = omega (arith, length-append acc (x ∷ [])) in
    let later = chunks_from-full k (acc ++ x ∷ []) (y ∷ xs) rest long (omega arith) in
    rw e (later ∙ ap (λ (front : List A). front ∷ chunks_from k [] rest) (append_assoc acc (x ∷ []) (y ∷ xs)))

chunks_from-short : {A : Type 0} (k : ℕ) (acc xs : List A) → length acc + length xs < k → 0 < length acc + length xs → chunks_from k acc xs ≡ (acc ++ xs) ∷ []
chunks_from-short k [] [] short some = absurd (omega arith)
chunks_from-short k (a ∷ acc) [] short some = rw append-nil refl
chunks_from-short {A} k acc (x ∷ xs) short some =
    let e : (length acc + 1 == k) ≡ false = ne_eqb (length acc + 1) k (λ same. omega arith) in
    let long : length (acc ++ x ∷ []) + length xs < k = omega (arith, length-append acc (x ∷ [])) in
    let later = chunks_from-short k (acc ++ x ∷ []) xs long (omega (arith, length-append acc (x ∷ []))) in
    rw e (later ∙ ap (λ (front : List A). front ∷ []) (append_assoc acc (x ∷ []) xs))

-- the first batch of so many rows
chunks-next : (k i left count : ℕ) → 0 < left → 0 < k → count ≡ min k left → chunks k (rows_from i left) ≡ rows_from i count ∷ chunks k (rows_from (i + k) (left - k))
chunks-next k i left count some positive least =
    elim (cases_lt left k) [
      | inr long ↦
          let is_k : count ≡ k = omega arith in
          let all : left ≡ k + (left - k) = omega arith in
          let cut = rows_from-add i k (left - k) in
          let full = chunks_from-full k [] (rows_from i k) (rows_from (i + k) (left - k)) (omega (arith, length-rows_from i k)) (omega (arith, length-rows_from i k)) in
          cc
      | inl short ↦
          let is_left : count ≡ left = omega arith in
          let none : left - k ≡ 0 = omega arith in
          let one = chunks_from-short k [] (rows_from i left) (omega (arith, length-rows_from i left)) (omega (arith, length-rows_from i left)) in
          rw (is_left, none) one
    ]

-- the commands of the first batch, and those behind them
pub commands_from-next : (number first left count : ℕ) → 0 < left → count ≡ min 1000 left
    → commands_from number (batches (rows_from first left)) ≡ batch_commands (number, rows_from first count) ++ commands_from (number + 1) (batches (rows_from (first + 1000) (left - 1000)))
commands_from-next number first left count some least = ap (commands_from number) (chunks-next 1000 first left count some (omega arith) least)

-- a batch went out, and what stands there is still the whole with those that are to come
pub batch-put : (separator text text' whole : List ℕ) (batch n count : ℕ) → batch * 1000 < n → count ≡ min 1000 (n - batch * 1000)
    → text' ≡ text ++ each_behind separator (batch_commands (batch + 1, rows_from (batch * 1000) (batch * 1000 + count - batch * 1000)))
    → text ++ each_behind separator (commands_from (batch + 1) (batches (rows_from (batch * 1000) (n - batch * 1000)))) ≡ whole
    → text' ++ each_behind separator (commands_from (batch + 1 + 1) (batches (rows_from ((batch + 1) * 1000) (n - (batch + 1) * 1000)))) ≡ whole
batch-put separator text text' whole batch n count below least put before =
    let size : batch * 1000 + count - batch * 1000 ≡ count = omega arith in
    let next : (batch + 1) * 1000 ≡ batch * 1000 + 1000 = omega arith in
    let fewer : n - (batch + 1) * 1000 ≡ n - batch * 1000 - 1000 = omega arith in
    let all = commands_from-next (batch + 1) (batch * 1000) (n - batch * 1000) count (omega arith) least in
    let front = subst (λ (size : ℕ). text' ≡ text ++ each_behind separator (batch_commands (batch + 1, rows_from (batch * 1000) size))) size put in
    rw (fewer, next) (put-front separator text text' whole (batch_commands (batch + 1, rows_from (batch * 1000) count)) _ _ front all before)
