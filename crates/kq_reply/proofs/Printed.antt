-- An answer is put together piece by piece.
use Rattle.std.proofs.Common.{◌≡◌, ◌<◌, ◌+◌, ℕ, List, [], ◌∷◌, ◌++◌, All, length, map, take, get_or, refl, sym, ap, ◌∙◌, append_assoc, length-take-le, arith}
use Rattle.std.proofs.lemmas.List.{take_more, map-append, length-map}
use Rattle.std.proofs.lemmas.List.Elements.{All-cons, All-nil}
use Rattle.kq_value.specs.declared.schema.Field.{Field}
use Rattle.kq_value.specs.declared.value.Value.{Value}
use Rattle.kq_value.specs.Typed.{HasTypes, IsProper}
use Rattle.kq_reply.specs.Answer.{tabbed, tab_before}

tabbed-push : (pieces : List (List ℕ)) (p : List ℕ) → tabbed (pieces ++ p ∷ []) ≡ (tabbed pieces ++ tab_before (length pieces)) ++ p
tabbed-push [] p = refl
tabbed-push (x ∷ []) p = sym (append_assoc x (9 ∷ []) p)
tabbed-push (x ∷ y ∷ xs) p =
    ap (λ (l : List ℕ). x ++ 9 ∷ l) (tabbed-push (y ∷ xs) p)
    ∙ sym (append_assoc x (9 ∷ (tabbed (y ∷ xs) ++ 9 ∷ [])) p)
    ∙ ap (λ (l : List ℕ). l ++ p) (sym (append_assoc x (9 ∷ tabbed (y ∷ xs)) (9 ∷ [])))

-- a line with one more piece
tabbed-more : {X : Type 0} (f : X → List ℕ) (xs : List X) (i : ℕ) (d : X) → i < length xs → tabbed (map f (take (i + 1) xs)) ≡ (tabbed (map f (take i xs)) ++ tab_before i) ++ f (get_or xs i d)
tabbed-more {X} f xs i d within =
    ap (λ (ys : List X). tabbed (map f ys)) (take_more xs i d within)
    ∙ ap tabbed (map-append f (take i xs) (get_or xs i d ∷ []))
    ∙ tabbed-push (map f (take i xs)) (f (get_or xs i d))
    ∙ ap (λ (n : ℕ). (tabbed (map f (take i xs)) ++ tab_before n) ++ f (get_or xs i d)) (length-taken)
  where
    length-taken : length (map f (take i xs)) ≡ i
    length-taken = length-map (take i xs) f ∙ length-take-le i xs (omega (arith, within))

-- a tab and a piece are put behind a line that was begun
pub tabbed-put : {X : Type 0} (f : X → List ℕ) (xs : List X) (i : ℕ) (x : X) (start old tab new : List ℕ) → i < length xs → x ≡ get_or xs i x
    → old ≡ start ++ tabbed (map f (take i xs)) → tab ≡ old ++ tab_before i → new ≡ tab ++ f x → new ≡ start ++ tabbed (map f (take (i + 1) xs))
tabbed-put {X} f xs i x start old tab new within is before then last =
    let line = tabbed (map f (take i xs)) in
    last
    ∙ ap (λ (l : List ℕ). l ++ f x) (then ∙ ap (λ (l : List ℕ). l ++ tab_before i) before ∙ append_assoc start line (tab_before i))
    ∙ append_assoc start (line ++ tab_before i) (f x)
    ∙ ap (λ (y : X). start ++ ((line ++ tab_before i) ++ f y)) is
    ∙ ap (λ (l : List ℕ). start ++ l) (sym (tabbed-more f xs i x within))

-- cells of the columns' types are proper
pub IsProper-typed : (schema : List Field) (row : List Value) → HasTypes schema row → All IsProper row
IsProper-typed [] [] typed = All-nil IsProper
IsProper-typed [] (v ∷ vs) typed = absurd typed
IsProper-typed (f ∷ fs) [] typed = absurd typed
IsProper-typed (f ∷ fs) (v ∷ vs) typed = All-cons IsProper v vs typed.0.1 (IsProper-typed fs vs typed.1)
