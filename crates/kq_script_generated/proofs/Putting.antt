-- Pieces that are put behind a text.
use Rattle.std.proofs.Common.{◌≡◌, ℕ, List, [], ◌∷◌, ◌++◌, append_assoc}
use Rattle.std.proofs.lemmas.Grind.{flat_map-append}
use Rattle.std.proofs.lemmas.List.{append-nil}
use Rattle.kq_script_generated.specs.Commands.{each_behind, joined}

-- pieces went out, and what stands there is still the whole with those that are to come
pub put-front : (separator text text' whole : List ℕ) (front rest pieces : List (List ℕ)) → text' ≡ text ++ each_behind separator front → pieces ≡ front ++ rest → text ++ each_behind separator pieces ≡ whole → text' ++ each_behind separator rest ≡ whole
put-front separator text text' whole front rest pieces put all before =
    let split = flat_map-append (λ (piece : List ℕ). separator ++ piece) front rest in
    let regrouped = append_assoc text (each_behind separator front) (each_behind separator rest) in
    cc

-- the same of one piece
pub put-first : (separator text text' whole piece : List ℕ) (rest pieces : List (List ℕ)) → text' ≡ text ++ separator ++ piece → pieces ≡ piece ∷ rest → text ++ each_behind separator pieces ≡ whole → text' ++ each_behind separator rest ≡ whole
put-first separator text text' whole piece rest pieces put all before =
    let h = rw all at before in
    rw put (simp append_assoc (simp append_assoc at h))

-- two pieces at either side of others, and an end
pub joined-put : (separator first second third fourth end t0 t1 t2 t3 t4 t5 t6 : List ℕ) (middle : List (List ℕ))
    → t0 ≡ [] → t1 ≡ t0 ++ first → t2 ≡ t1 ++ separator ++ second → t3 ≡ t2 ++ each_behind separator middle → t4 ≡ t3 ++ separator ++ third → t5 ≡ t4 ++ separator ++ fourth → t6 ≡ t5 ++ end
    → t6 ≡ joined separator (first ∷ second ∷ middle ++ third ∷ fourth ∷ []) ++ end
joined-put separator first second third fourth end t0 t1 t2 t3 t4 t5 t6 middle none a b c d e f =
    let split = flat_map-append (λ (piece : List ℕ). separator ++ piece) middle (third ∷ fourth ∷ []) in
    rw (f, e, d, c, b, a, none) (simp (split, append_assoc, append-nil))
