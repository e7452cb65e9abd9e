-- A reader of many parts beside a loop that counts up.
use Rattle.std.proofs.Common.{◌≡◌, ℕ, suc, ◌+◌, ◌-◌, ◌<◌, ◌≤◌, Bool, true, false, List, [], ◌∷◌, ◌++◌, Ok, Err, refl, sym, ap, ◌∙◌, append_assoc, append-nil, arith}
use Rattle.kq_read_symbols.specs.Forms.{Outcome, Parser, and_then, pure, starts, many, with_front}

module _ {T A : Type 0} (is : T → Bool) (p : Parser T A) where
  pub taken : (n : ℕ) (front : List A) (ts mid : List T) (x : A) → starts is ts ≡ true → p ts ≡ Ok (x, mid) → with_front front (many is p (suc n) ts) ≡ with_front (front ++ x ∷ []) (many is p n mid)
  taken n front ts mid x h e = rw (h, e) (by_outcome front x (many is p n mid)) where
    by_outcome : (front : List A) (x : A) (out : Outcome T (List A)) → with_front front (and_then {T = T} {A = A × List A} {B = List A} (and_then {T = T} {A = List A} {B = A × List A} out (λ y. pure (x, y))) (λ w. pure (w.0 ∷ w.1))) ≡ with_front (front ++ x ∷ []) out
    by_outcome front x (Ok q) = let e : front ++ x ∷ q.0 ≡ (front ++ x ∷ []) ++ q.0 = sym (append_assoc front (x ∷ []) q.0) in cc
    by_outcome front x (Err r) = refl

  pub left : (n : ℕ) (front : List A) (ts : List T) → starts is ts ≡ false → with_front front (many is p (suc n) ts) ≡ Ok (front, ts)
  left n front ts h = rw h (let e : front ++ [] ≡ front = append-nil front in cc)

  pub stuck : (n : ℕ) (front : List A) (ts rest : List T) → starts is ts ≡ true → p ts ≡ Err rest → with_front front (many is p (suc n) ts) ≡ Err rest
  stuck n front ts rest h e = rw (h, e) refl

  pub done : (front : List A) (ts : List T) → with_front front (many is p 0 ts) ≡ Ok (front, ts)
  done front ts = let e : front ++ [] ≡ front = append-nil front in cc

module _ {T A : Type 0} (is : T → Bool) (p : Parser T A) (start : Outcome T (List A)) (n at : ℕ) (front : List A) (ts : List T) (so_far : start ≡ with_front front (many is p (n - at) ts)) where
  pub turn_taken : (mid : List T) (x : A) → at < n → starts is ts ≡ true → p ts ≡ Ok (x, mid) → start ≡ with_front (front ++ x ∷ []) (many is p (n - (at + 1)) mid)
  turn_taken mid x below h e = let turn : n - at ≡ suc (n - (at + 1)) = omega arith in so_far ∙ ap (λ m. with_front front (many is p m ts)) turn ∙ taken is p (n - (at + 1)) front ts mid x h e

  pub turn_left : at < n → starts is ts ≡ false → start ≡ Ok (front, ts)
  turn_left below h = let turn : n - at ≡ suc (n - (at + 1)) = omega arith in so_far ∙ ap (λ m. with_front front (many is p m ts)) turn ∙ left is p (n - (at + 1)) front ts h

  pub turn_stuck : (rest : List T) → at < n → starts is ts ≡ true → p ts ≡ Err rest → start ≡ Err rest
  turn_stuck rest below h e = let turn : n - at ≡ suc (n - (at + 1)) = omega arith in so_far ∙ ap (λ m. with_front front (many is p m ts)) turn ∙ stuck is p (n - (at + 1)) front ts rest h e

  pub turns_done : n ≤ at → start ≡ Ok (front, ts)
  turns_done above = let none : n - at ≡ 0 = omega arith in so_far ∙ ap (λ m. with_front front (many is p m ts)) none ∙ done is p front ts
