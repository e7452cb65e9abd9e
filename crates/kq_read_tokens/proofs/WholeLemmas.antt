-- When bytes are one whole string.
use Rattle.std.proofs.Common.{◌≡◌, ℕ, Bool, true, false, ◌==◌, List, length, take, drop, Option, Some, None, Result, refl, sym, ◌∙◌, subst, ap, arith}
use Rattle.std.proofs.Math.Seq.{take-length, drop-length}
use Rattle.std.proofs.lemmas.Bool.{eqb-true, eq-eqb}
use Rattle.kq_read_tokens.specs.declared.delimited.End.{End}
use Rattle.kq_read_tokens.specs.Bytes.{starts}
use Rattle.kq_read_tokens.specs.Delimited.{closes, is_verbatim}
use Rattle.kq_read_tokens.specs.Scanning.{closing_len, verbatim_len}
use Rattle.kq_read_tokens.proofs.DelimitedLemmas.{closes_only, closes_form, verbatim_only, verbatim_form}

alike : (a b : Bool) → (a ≡ true → b ≡ true) → (b ≡ true → a ≡ true) → a ≡ b
alike true b to from = sym (to refl)
alike false true to from = from refl
alike false false to from = refl

some_is : (m n : ℕ) → Some m ≡ Some n → m ≡ n
some_is m n e = cc

none_is : (n : ℕ) {A : Type 0} → ◌≡◌ {A = Option ℕ} None (Some n) → A
none_is n e = absurd (cc e)

module _ {S : Type 0} (step : S → ℕ → Result S End) (s : S) (bs : List ℕ) where
  all_of : (n : ℕ) → n ≡ length bs → closes step s (take n bs) ≡ true → closes step s bs ≡ true
  all_of n e h = subst (λ l. closes step s l ≡ true) (ap (λ m. take m bs) e ∙ take-length bs) h

  found : closes step s bs ≡ true → closing_len step s bs ≡ Some (length bs)
  found h = closes_only step s bs (length bs) (omega arith) (subst (λ l. closes step s l ≡ true) (sym (take-length bs)) h)

  pub closes_at_end : (n : ℕ) → closing_len step s bs ≡ Some n → (n == length bs) ≡ closes step s bs
  closes_at_end n e = alike (n == length bs) (closes step s bs)
      (λ h. all_of n (eqb-true n (length bs) h) (closes_form step s bs n e).form)
      (λ h. eq-eqb n (length bs) (some_is n (length bs) (sym e ∙ found h)))

  pub closes_nowhere : closing_len step s bs ≡ None → false ≡ closes step s bs
  closes_nowhere e = alike false (closes step s bs) (λ h. none_is 0 (cc)) (λ h. none_is (length bs) (sym e ∙ found h))

module _ (quote : ℕ) (bs : List ℕ) where
  all_quoted : (n : ℕ) → n ≡ length bs → is_verbatim quote false (take n bs) ≡ true → is_verbatim quote false bs ≡ true
  all_quoted n e h = subst (λ l. is_verbatim quote false l ≡ true) (ap (λ m. take m bs) e ∙ take-length bs) h

  nothing_left : starts (λ b. b == quote) (drop (length bs) bs) ≡ false
  nothing_left = subst (λ l. starts (λ b. b == quote) l ≡ false) (sym (drop-length bs)) refl

  found_quoted : is_verbatim quote false bs ≡ true → verbatim_len quote false bs ≡ Some (length bs)
  found_quoted h = verbatim_only quote false bs (length bs) (omega arith) (subst (λ l. is_verbatim quote false l ≡ true) (sym (take-length bs)) h) nothing_left

  pub verbatim_at_end : (n : ℕ) → verbatim_len quote false bs ≡ Some n → (n == length bs) ≡ is_verbatim quote false bs
  verbatim_at_end n e = alike (n == length bs) (is_verbatim quote false bs)
      (λ h. all_quoted n (eqb-true n (length bs) h) (verbatim_form quote false bs n e).form)
      (λ h. eq-eqb n (length bs) (some_is n (length bs) (sym e ∙ found_quoted h)))

  pub verbatim_nowhere : verbatim_len quote false bs ≡ None → false ≡ is_verbatim quote false bs
  verbatim_nowhere e = alike false (is_verbatim quote false bs) (λ h. none_is 0 (cc)) (λ h. none_is (length bs) (sym e ∙ found_quoted h))

pub ruleset whole_lemmas = (closes_at_end, closes_nowhere, verbatim_at_end, verbatim_nowhere)
