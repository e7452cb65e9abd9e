-- The parenthesis and the raw text of a typed literal.
use Rattle.std.proofs.Common.{◌≡◌, ℕ, zero, suc, ◌≤◌, ◌+◌, ◌-◌, Bool, true, false, ◌||◌, ◌&&◌, ◌==◌, List, [], ◌∷◌, length, take, drop, Some, refl, sym, ◌∙◌, ap, subst, arith}
use Rattle.std.specs.List.{prefix_len}
use Rattle.kq_read_tokens.specs.declared.kind.LiteralWord.{LiteralWord}
use Rattle.kq_read_tokens.specs.declared.kind.LiteralWord.TheVariants as literal
use Rattle.kq_read_tokens.specs.declared.delimited.Within.TheVariants.{Raw}
use Rattle.kq_read_tokens.specs.Bytes.{is_space, starts, byte_then}
use Rattle.kq_read_tokens.specs.Delimited.{opened, is_raw, step, nesting_step, unnested}
use Rattle.kq_read_tokens.specs.Forms.{opens}
use Rattle.kq_read_tokens.specs.Scanning.{raw_len}
use Rattle.kq_read_tokens.proofs.TestLemmas.{both_true, and_true}
use Rattle.kq_read_tokens.proofs.RunLemmas.{prefix_yes, prefix_no}
use Rattle.kq_read_tokens.proofs.DelimitedLemmas.{closes_only, closes_form}

not_false : {A : Type 0} → false ≡ true → A
not_false h = absurd (cc)

opened_space : (test : List ℕ → Bool) (c : ℕ) (cs : List ℕ) → is_space c ≡ true → opened test (c ∷ cs) ≡ opened test cs
opened_space test c cs h = ap (λ k. byte_then (λ b. b == 40) test (drop k (c ∷ cs))) (prefix_yes is_space c cs h)

opened_at_once : (test : List ℕ → Bool) (c : ℕ) (cs : List ℕ) → is_space c ≡ false → opened test (c ∷ cs) ≡ (c == 40 && test cs)
opened_at_once test c cs h = ap (λ k. byte_then (λ b. b == 40) test (drop k (c ∷ cs))) (prefix_no is_space c cs h)

-- a front that opens, and what follows its parenthesis there
pub record OpenedAt (test : List ℕ → Bool) (bytes : List ℕ) (m : ℕ) : Type 0 where
  pub opens : opens bytes ≡ true
  pub more : 1 + prefix_len is_space bytes ≤ m
  pub met : test (take (m - (1 + prefix_len is_space bytes)) (drop (1 + prefix_len is_space bytes) bytes)) ≡ true

opened_take_at : (test : List ℕ → Bool) (c : ℕ) (cs : List ℕ) (m : ℕ) (t : Bool) → is_space c ≡ t → opened test (c ∷ take m cs) ≡ true → (opened test (take m cs) ≡ true → OpenedAt test cs m) → OpenedAt test (c ∷ cs) (suc m)
opened_take_at test c cs m true s h rest =
    let r = rest (sym (opened_space test c (take m cs) s) ∙ h) in
    let n = prefix_yes is_space c cs s in
    let one_more : suc (1 + prefix_len is_space cs) ≡ 1 + prefix_len is_space (c ∷ cs) = omega arith in
    let count : m - (1 + prefix_len is_space cs) ≡ suc m - (1 + prefix_len is_space (c ∷ cs)) = omega arith in
    record {
      opens = opened_space (λ _. true) c cs s ∙ r.opens;
      more = omega (arith, r.more);
      met = subst (λ k. test (take (suc m - (1 + prefix_len is_space (c ∷ cs))) (drop k (c ∷ cs))) ≡ true) one_more (subst (λ k. test (take k (drop (1 + prefix_len is_space cs) cs)) ≡ true) count r.met);
    }
opened_take_at test c cs m false s h rest =
    let p = both_true (c == 40) (test (take m cs)) (sym (opened_at_once test c (take m cs) s) ∙ h) in
    let n = prefix_no is_space c cs s in
    let one : 1 ≡ 1 + prefix_len is_space (c ∷ cs) = omega arith in
    let count : m ≡ suc m - (1 + prefix_len is_space (c ∷ cs)) = omega arith in
    record {
      opens = opened_at_once (λ _. true) c cs s ∙ and_true (c == 40) true p.0 refl;
      more = omega arith;
      met = subst (λ k. test (take (suc m - (1 + prefix_len is_space (c ∷ cs))) (drop k (c ∷ cs))) ≡ true) one (subst (λ k. test (take k cs) ≡ true) count p.1);
    }

pub opened_take : (test : List ℕ → Bool) (bytes : List ℕ) (m : ℕ) → opened test (take m bytes) ≡ true → OpenedAt test bytes m
opened_take test [] zero h = not_false h
opened_take test [] (suc m) h = not_false h
opened_take test (c ∷ cs) zero h = not_false h
opened_take test (c ∷ cs) (suc m) h = opened_take_at test c cs m (is_space c) refl h (λ r. opened_take test cs m r)

take_opened_at : (test : List ℕ → Bool) (c : ℕ) (cs : List ℕ) (k : ℕ) (t : Bool) → is_space c ≡ t → opens (c ∷ cs) ≡ true → test (take k (drop (1 + prefix_len is_space (c ∷ cs)) (c ∷ cs))) ≡ true
    → (opens cs ≡ true → test (take k (drop (1 + prefix_len is_space cs) cs)) ≡ true → opened test (take (prefix_len is_space cs + (1 + k)) cs) ≡ true) → opened test (take (prefix_len is_space (c ∷ cs) + (1 + k)) (c ∷ cs)) ≡ true
take_opened_at test c cs k true s o h rest =
    let n = prefix_yes is_space c cs s in
    let one_more : 1 + prefix_len is_space (c ∷ cs) ≡ suc (1 + prefix_len is_space cs) = omega arith in
    let count : suc (prefix_len is_space cs + (1 + k)) ≡ prefix_len is_space (c ∷ cs) + (1 + k) = omega arith in
    let r = rest (sym (opened_space (λ _. true) c cs s) ∙ o) (subst (λ i. test (take k (drop i (c ∷ cs))) ≡ true) one_more h) in
    subst (λ i. opened test (take i (c ∷ cs)) ≡ true) count (opened_space test c (take (prefix_len is_space cs + (1 + k)) cs) s ∙ r)
take_opened_at test c cs k false s o h rest =
    let n = prefix_no is_space c cs s in
    let one : 1 + prefix_len is_space (c ∷ cs) ≡ 1 = omega arith in
    let count : suc k ≡ prefix_len is_space (c ∷ cs) + (1 + k) = omega arith in
    let open_is = (both_true (c == 40) true (sym (opened_at_once (λ _. true) c cs s) ∙ o)).0 in
    subst (λ i. opened test (take i (c ∷ cs)) ≡ true) count (opened_at_once test c (take k cs) s ∙ and_true (c == 40) (test (take k cs)) open_is (subst (λ i. test (take k (drop i (c ∷ cs))) ≡ true) one h))

pub take_opened : (test : List ℕ → Bool) (bytes : List ℕ) (k : ℕ) → opens bytes ≡ true → test (take k (drop (1 + prefix_len is_space bytes) bytes)) ≡ true → opened test (take (prefix_len is_space bytes + (1 + k)) bytes) ≡ true
take_opened test [] k o h = not_false o
take_opened test (c ∷ cs) k o h = take_opened_at test c cs k (is_space c) refl o h (λ p q. take_opened test cs k p q)

-- the byte with which an opening begins
opens_first_at : (c : ℕ) (cs : List ℕ) (t : Bool) → is_space c ≡ t → opens (c ∷ cs) ≡ true → (t || c == 40) ≡ true
opens_first_at c cs true s h = refl
opens_first_at c cs false s h = (both_true (c == 40) true (sym (opened_at_once (λ _. true) c cs s) ∙ h)).0

abbrev pub begins_opening : ℕ → Bool
begins_opening c = is_space c || c == 40

pub opens_starts : (bytes : List ℕ) → opens bytes ≡ true → starts begins_opening bytes ≡ true
opens_starts [] h = not_false h
opens_starts (c ∷ cs) h = opens_first_at c cs (is_space c) refl h

-- ---- raw texts

pub raw_only : (w : LiteralWord) (bytes : List ℕ) (m : ℕ) → m ≤ length bytes → is_raw w (take m bytes) ≡ true → raw_len w bytes ≡ Some m
raw_only literal.Dynamic bytes m le h = closes_only nesting_step unnested bytes m le h
raw_only _ bytes m le h = closes_only step Raw bytes m le h

pub record RawAt (w : LiteralWord) (bytes : List ℕ) (m : ℕ) : Type 0 where
  pub within : m ≤ length bytes
  pub form : is_raw w (take m bytes) ≡ true

pub raw_form : (w : LiteralWord) (bytes : List ℕ) (m : ℕ) → raw_len w bytes ≡ Some m → RawAt w bytes m
raw_form literal.Dynamic bytes m h = let c = closes_form nesting_step unnested bytes m h in record { within = c.within; form = c.form }
raw_form _ bytes m h = let c = closes_form step Raw bytes m h in record { within = c.within; form = c.form }
