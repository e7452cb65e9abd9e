-- Runs of bytes of a class, and the longest fronts that meet a test.
use Rattle.std.proofs.Common.{◌≡◌, ℕ, zero, suc, ◌<◌, ◌≤◌, ◌+◌, ◌-◌, Bool, true, false, ◌&&◌, ◌==◌, if◌then◌else◌, List, [], ◌∷◌, length, take, drop, refl, sym, ◌∙◌, ap, subst, arith, length-drop}
use Rattle.std.proofs.lemmas.Bool.Decides.{nat_tests}
use Rattle.std.specs.List.{prefix_len}
use Rattle.std.proofs.lemmas.List.Sums.{prefix_len-le-length}
use Rattle.kq_read_tokens.specs.Bytes.{starts, is_end, run_then, byte_then}
use Rattle.kq_read_tokens.specs.Scanning.{more_than, len_behind}
use Rattle.kq_read_tokens.proofs.TestLemmas.{both_true, and_true, false_true}

pub and_left : (a b c : Bool) → a ≡ true → b ≡ c → (a && b) ≡ c
and_left true b c h e = e
and_left false b c h e = let no_way : false ≡ true = h in cc

pub prefix_yes : (class : ℕ → Bool) (b : ℕ) (bs : List ℕ) → class b ≡ true → prefix_len class (b ∷ bs) ≡ suc (prefix_len class bs)
prefix_yes class b bs h = let one_more : 1 + prefix_len class bs ≡ suc (prefix_len class bs) = omega arith in rw h one_more

pub prefix_no : (class : ℕ → Bool) (b : ℕ) (bs : List ℕ) → class b ≡ false → prefix_len class (b ∷ bs) ≡ 0
prefix_no class b bs h = rw h refl

-- a run within a front is one of the whole
prefix_take_at : (class : ℕ → Bool) (b : ℕ) (bs : List ℕ) (m : ℕ) (t : Bool) → class b ≡ t → prefix_len class (b ∷ bs) ≤ suc m → (prefix_len class bs ≤ m → prefix_len class (take m bs) ≡ prefix_len class bs) → prefix_len class (b ∷ take m bs) ≡ prefix_len class (b ∷ bs)
prefix_take_at class b bs m true e le rest =
    let n = prefix_yes class b bs e in
    prefix_yes class b (take m bs) e ∙ ap suc (rest (omega arith)) ∙ sym n
prefix_take_at class b bs m false e le rest = prefix_no class b (take m bs) e ∙ sym (prefix_no class b bs e)

pub prefix_take : (class : ℕ → Bool) (bs : List ℕ) (m : ℕ) → prefix_len class bs ≤ m → prefix_len class (take m bs) ≡ prefix_len class bs
prefix_take class [] zero le = refl
prefix_take class [] (suc m) le = refl
prefix_take class (b ∷ bs) zero le = let none : prefix_len class (b ∷ bs) ≡ 0 = omega arith in sym none
prefix_take class (b ∷ bs) (suc m) le = prefix_take_at class b bs m (class b) refl le (λ le'. prefix_take class bs m le')

take_nil : (k : ℕ) → ◌≡◌ {A = List ℕ} (take k []) []
take_nil zero = refl
take_nil (suc k) = refl

pub drop_take : (bs : List ℕ) (n m : ℕ) → n ≤ m → drop n (take m bs) ≡ take (m - n) (drop n bs)
drop_take bs zero m le = let same : m ≡ m - 0 = omega arith in ap (λ k. take k bs) same
drop_take [] (suc n) zero le = absurd (omega arith)
drop_take [] (suc n) (suc m) le = sym (take_nil (suc m - suc n))
drop_take (b ∷ bs) (suc n) zero le = absurd (omega arith)
drop_take (b ∷ bs) (suc n) (suc m) le = let same : m - n ≡ suc m - suc n = omega arith in drop_take bs n m (omega arith) ∙ ap (λ k. take k (drop n bs)) same

-- behind the run, the test is of what is left
pub run_take : (class : ℕ → Bool) (others : List ℕ → Bool) (bytes : List ℕ) (m : ℕ) → starts class bytes ≡ true → prefix_len class bytes ≤ m → run_then class others (take m bytes) ≡ others (take (m - prefix_len class bytes) (drop (prefix_len class bytes) bytes))
run_take class others [] m h le = let no_way : false ≡ true = h in absurd (cc)
run_take class others (b ∷ bs) zero h le = let n = prefix_yes class b bs h in absurd (omega arith)
run_take class others (b ∷ bs) (suc m) h le =
    let n = prefix_yes class b bs h in
    let in_run = prefix_take class bs m (omega arith) in
    let left = ap (λ k. drop k (take m bs)) in_run ∙ drop_take bs (prefix_len class bs) m (omega arith) in
    let count : m - prefix_len class bs ≡ suc m - prefix_len class (b ∷ bs) = omega arith in
    and_left (class b) (others (drop (prefix_len class (take m bs)) (take m bs))) (others (take (suc m - prefix_len class (b ∷ bs)) (drop (prefix_len class (b ∷ bs)) (b ∷ bs)))) h
    (ap others (left ∙ ap (λ k. take k (drop (prefix_len class bs) bs)) count ∙ ap (λ k. take (suc m - prefix_len class (b ∷ bs)) (drop k (b ∷ bs))) (sym n)))

pub run_none : (class : ℕ → Bool) (others : List ℕ → Bool) (bytes : List ℕ) (m : ℕ) → starts class bytes ≡ false → run_then class others (take m bytes) ≡ false
run_none class others [] zero h = refl
run_none class others [] (suc m) h = refl
run_none class others (b ∷ bs) zero h = refl
run_none class others (b ∷ bs) (suc m) h = rw h refl

-- ---- the longest front that meets a test, of so many bytes, or of none where no front does
pub record Reach (test : List ℕ → Bool) (n : ℕ) (bytes : List ℕ) : Type 0 where
  pub within : n ≤ length bytes
  pub form : 0 < n → test (take n bytes) ≡ true
  pub only : (m : ℕ) → n ≤ m → m ≤ length bytes → test (take m bytes) ≡ true → (0 < n) × (m ≡ n)

pub end_only : (bytes : List ℕ) (m : ℕ) → m ≤ length bytes → is_end (take m bytes) ≡ true → m ≡ 0
end_only bytes zero le h = refl
end_only [] (suc m) le h = absurd (omega arith)
end_only (b ∷ bs) (suc m) le h = let no_way : false ≡ true = h in absurd (cc)

-- a run to the end
run_reach_at : (class : ℕ → Bool) (bytes : List ℕ) (t : Bool) → starts class bytes ≡ t → Reach (run_then class is_end) (prefix_len class bytes) bytes
run_reach_at class [] true h = let no_way : false ≡ true = h in absurd (cc)
run_reach_at class (b ∷ bs) true h =
    let n = prefix_yes class b bs h in
    record {
      within = prefix_len-le-length class (b ∷ bs);
      form = λ some. run_take class is_end (b ∷ bs) (prefix_len class (b ∷ bs)) h (omega arith) ∙ (let none : prefix_len class (b ∷ bs) - prefix_len class (b ∷ bs) ≡ 0 = omega arith in ap (λ k. is_end (take k (drop (prefix_len class (b ∷ bs)) (b ∷ bs)))) none);
      only = λ m le within met.
          let left = sym (run_take class is_end (b ∷ bs) m h le) ∙ met in
          let none = end_only (drop (prefix_len class (b ∷ bs)) (b ∷ bs)) (m - prefix_len class (b ∷ bs)) (omega (arith, length-drop (prefix_len class (b ∷ bs)) (b ∷ bs))) left in
          (omega arith, omega arith);
    }
run_reach_at class [] false h = record {
  within = omega arith;
  form = λ some. absurd (omega arith);
  only = λ m le within met. absurd (false_true (run_then class is_end (take m [])) (run_none class is_end [] m h) met);
}
run_reach_at class (b ∷ bs) false h =
    let n = prefix_no class b bs h in
    record {
      within = prefix_len-le-length class (b ∷ bs);
      form = λ some. absurd (omega arith);
      only = λ m le within met. absurd (false_true (run_then class is_end (take m (b ∷ bs))) (run_none class is_end (b ∷ bs) m h) met);
    }

pub run_reach : (class : ℕ → Bool) (bytes : List ℕ) → Reach (run_then class is_end) (prefix_len class bytes) bytes
run_reach class bytes = run_reach_at class bytes (starts class bytes) refl

-- a byte before it
more_some : (n : ℕ) → 0 < n → more_than 1 n ≡ suc n
more_some zero h = absurd (omega arith)
more_some (suc n) h = let some : (suc n == 0) ≡ false = grind (arith, nat_tests) in rw some (omega arith)

behind_only : (class : ℕ → Bool) (test : List ℕ → Bool) (n : ℕ) (b : ℕ) (bs : List ℕ) → Reach test n bs → (m : ℕ) → more_than 1 n ≤ m → m ≤ length (b ∷ bs) → byte_then class test (take m (b ∷ bs)) ≡ true → (0 < more_than 1 n) × (m ≡ more_than 1 n)
behind_only class test n b bs r zero le within met = let no_way : false ≡ true = met in absurd (cc)
behind_only class test zero b bs r (suc m) le within met = absurd (omega (arith, (r.only m (omega arith) (omega arith) (both_true (class b) (test (take m bs)) met).1).0))
behind_only class test (suc n) b bs r (suc m) le within met =
    let more = more_some (suc n) (omega arith) in
    let found = r.only m (omega arith) (omega arith) (both_true (class b) (test (take m bs)) met).1 in
    (omega arith, omega arith)

behind_form : (class : ℕ → Bool) (test : List ℕ → Bool) (n : ℕ) (b : ℕ) (bs : List ℕ) → class b ≡ true → Reach test n bs → 0 < more_than 1 n → byte_then class test (take (more_than 1 n) (b ∷ bs)) ≡ true
behind_form class test zero b bs h r some = absurd (omega arith)
behind_form class test (suc n) b bs h r some = subst (λ k. byte_then class test (take k (b ∷ bs)) ≡ true) (sym (more_some (suc n) (omega arith))) (and_true (class b) (test (take (suc n) bs)) h (r.form (omega arith)))

more_within : (n k : ℕ) → n ≤ k → more_than 1 n ≤ suc k
more_within zero k h = omega arith
more_within (suc n) k h = let one_more = more_some (suc n) (omega arith) in omega arith

behind_at : (class : ℕ → Bool) (test : List ℕ → Bool) (n : ℕ) (b : ℕ) (bs : List ℕ) (t : Bool) → class b ≡ t → Reach test n bs → Reach (byte_then class test) (if t then more_than 1 n else 0) (b ∷ bs)
behind_at class test n b bs true h r = record {
  within = more_within n (length bs) r.within;
  form = behind_form class test n b bs h r;
  only = behind_only class test n b bs r;
}
behind_at class test n b bs false h r = record {
  within = omega arith;
  form = λ some. absurd (omega arith);
  only = behind_none;
} where
  behind_none : (m : ℕ) → 0 ≤ m → m ≤ length (b ∷ bs) → byte_then class test (take m (b ∷ bs)) ≡ true → (0 < 0) × (m ≡ 0)
  behind_none zero le within met = let no_way : false ≡ true = met in absurd (cc)
  behind_none (suc m) le within met = absurd (false_true (class b) h (both_true (class b) (test (take m bs)) met).0)

pub behind_reach : (class : ℕ → Bool) (test : List ℕ → Bool) (len : List ℕ → ℕ) → ((bs : List ℕ) → Reach test (len bs) bs) → (bytes : List ℕ) → Reach (byte_then class test) (len_behind class len bytes) bytes
behind_reach class test len r [] = record {
  within = omega arith;
  form = λ some. absurd (omega arith);
  only = none_left;
} where
  none_left : (m : ℕ) → 0 ≤ m → m ≤ length {A = ℕ} [] → byte_then class test (take m []) ≡ true → (0 < 0) × (m ≡ 0)
  none_left zero le within met = let no_way : false ≡ true = met in absurd (cc)
  none_left (suc m) le within met = absurd (omega arith)
behind_reach class test len r (b ∷ bs) = behind_at class test (len bs) b bs (class b) refl (r bs)
