-- The tags of a longer log.
use Rattle.std.proofs.Common.{◌≡◌, ℕ, ◌+◌, Bool, true, false, cond, List, [], ◌∷◌, ◌++◌, length, Some, None, refl, ap, sym, ◌∙◌, arith, add-zero, zero-add}
use Rattle.std.specs.Option.{option_or}
use Rattle.kq_catalog_journal.specs.declared.event.Commit.{Commit}
use Rattle.kq_catalog_journal.specs.History.{Log}
use Rattle.kq_catalog_journal.specs.Tagged.{is_tagged_by, first_tagged_from, first_tagged}

first_tagged_from-append : (n : ℕ) (l more : Log) (t : ℕ) (tag : List ℕ) → first_tagged_from n (l ++ more) t tag ≡ option_or (first_tagged_from n l t tag) (first_tagged_from (n + length l) more t tag)
first_tagged_from-append n [] more t tag = ap (λ (m : ℕ). first_tagged_from m more t tag) (sym (add-zero n))
first_tagged_from-append n (c ∷ l) more t tag = by_test (is_tagged_by t tag c) (first_tagged_from-append (n + 1) l more t tag ∙ ap (λ (m : ℕ). option_or (first_tagged_from (n + 1) l t tag) (first_tagged_from m more t tag)) next)
  where
    next : n + 1 + length l ≡ n + length (c ∷ l)
    next = omega arith

    by_test : (is : Bool) → first_tagged_from (n + 1) (l ++ more) t tag ≡ option_or (first_tagged_from (n + 1) l t tag) (first_tagged_from (n + length (c ∷ l)) more t tag)
        → cond is (Some (n + 1)) (first_tagged_from (n + 1) (l ++ more) t tag) ≡ option_or (cond is (Some (n + 1)) (first_tagged_from (n + 1) l t tag)) (first_tagged_from (n + length (c ∷ l)) more t tag)
    by_test true rest = refl
    by_test false rest = rest

-- a commit more
pub first_tagged-push : (l : Log) (c : Commit) (t : ℕ) (tag : List ℕ) → first_tagged (l ++ c ∷ []) t tag ≡ option_or (first_tagged l t tag) (cond (is_tagged_by t tag c) (Some (length l + 1)) None)
first_tagged-push l c t tag = first_tagged_from-append 0 l (c ∷ []) t tag ∙ ap (λ (m : ℕ). option_or (first_tagged l t tag) (cond (is_tagged_by t tag c) (Some (m + 1)) None)) (zero-add (length l))
