-- Lines in one buffer, and the pieces that it is cut into.
use Rattle.std.proofs.Common.{◌≡◌, ◌<◌, ◌≤◌, ◌+◌, ◌-◌, ℕ, suc, List, [], ◌∷◌, ◌++◌, length, map, take, drop, get_or, refl, sym, ap, ◌∙◌, append_assoc, length-append, length-drop, arith}
use Rattle.std.specs.List.{concat, sum}
use Rattle.std.proofs.Math.Seq.{drop-cons, take-append_seam, drop-append_seam}
use Rattle.std.proofs.lemmas.List.{append-nil, map-append, map_more}
use Rattle.std.proofs.lemmas.List.Folds.{concat-append}
use Rattle.std.proofs.lemmas.List.Sums.{sum_by-cons}
use Rattle.kq_reply.specs.Lines.{AreLines, pieces}

pushed : (lines : List (List ℕ)) (line bytes more sizes measures : List ℕ) (size : ℕ) → AreLines lines bytes sizes
    → more ≡ bytes ++ line → measures ≡ sizes ++ size ∷ [] → size ≡ length more - length bytes → AreLines (lines ++ line ∷ []) more measures
pushed lines line bytes more sizes measures size held then last is =
    let long : size ≡ length line = omega (arith, is, ap length then, length-append bytes line) in
    record {
      joined = then ∙ ap (λ (l : List ℕ). l ++ line) held.joined ∙ ap (λ (l : List ℕ). concat lines ++ l) (sym (append-nil line)) ∙ sym (concat-append lines (line ∷ []));
      measured = last ∙ ap (λ (l : List ℕ). l ++ size ∷ []) held.measured ∙ ap (λ (n : ℕ). map length lines ++ n ∷ []) long ∙ sym (map-append length lines (line ∷ []));
    }

-- one line more
pub lines-more : {X : Type 0} (f : X → List ℕ) (xs : List X) (i : ℕ) (x : X) (bytes more sizes measures : List ℕ) (size : ℕ) → i < length xs → x ≡ get_or xs i x
    → AreLines (map f (take i xs)) bytes sizes → more ≡ bytes ++ f x → measures ≡ sizes ++ size ∷ [] → size ≡ length more - length bytes
    → AreLines (map f (take (i + 1) xs)) more measures
lines-more {X} f xs i x bytes more sizes measures size within is held then last long =
    let lines = map f (take i xs) in
    let grown : map f (take (i + 1) xs) ≡ lines ++ f x ∷ [] = map_more f xs i x within ∙ ap (λ (y : X). lines ++ f y ∷ []) (sym is) in
    rw grown (pushed lines (f x) bytes more sizes measures size held then last long)

joined_pieces : (lines : List (List ℕ)) → pieces (map length lines) (concat lines) ≡ lines
joined_pieces [] = refl
joined_pieces (l ∷ ls) = rw (take-append_seam l (concat ls), drop-append_seam l (concat ls), joined_pieces ls) refl

-- the pieces of the lines' sizes are the lines
pub pieces-lines : (lines : List (List ℕ)) (bytes sizes : List ℕ) → AreLines lines bytes sizes → pieces sizes bytes ≡ lines
pieces-lines lines bytes sizes held = rw (held.joined, held.measured) (joined_pieces lines)

sum-lengths : (lines : List (List ℕ)) → sum (map length lines) ≡ length (concat lines)
sum-lengths [] = refl
sum-lengths (l ∷ ls) = sum_by-cons (λ x. x) (length l) (map length ls) ∙ ap (λ (n : ℕ). length l + n) (sum-lengths ls) ∙ sym (length-append l (concat ls))

pub sizes_fit : (lines : List (List ℕ)) (bytes sizes : List ℕ) → AreLines lines bytes sizes → sum sizes ≤ length bytes
sizes_fit lines bytes sizes held = rw (held.joined, held.measured) (omega (arith, sum-lengths lines))

next_size : (sizes : List ℕ) (i : ℕ) → i < length sizes → sum (drop i sizes) ≡ get_or sizes i 0 + sum (drop (suc i) sizes)
next_size sizes i within = ap sum (drop-cons sizes i 0 within) ∙ sum_by-cons (λ x. x) (get_or sizes i 0) (drop (suc i) sizes)

pub first_fits : (sizes : List ℕ) (i room : ℕ) → i < length sizes → sum (drop i sizes) ≤ room → get_or sizes i 0 ≤ room
first_fits sizes i room within fits = omega (arith, next_size sizes i within)

pub others_fit : (sizes : List ℕ) (i : ℕ) (rest behind : List ℕ) → i < length sizes → sum (drop i sizes) ≤ length rest → behind ≡ drop (get_or sizes i 0) rest
    → sum (drop (i + 1) sizes) ≤ length behind
others_fit sizes i rest behind within fits after =
    let next : i + 1 ≡ suc i = omega arith in
    rw (next, after) (omega (arith, next_size sizes i within, length-drop (get_or sizes i 0) rest))

-- one piece more was cut off
pub pieces-more : (lines more : List (List ℕ)) (sizes : List ℕ) (i : ℕ) (rest line behind : List ℕ) (whole : List (List ℕ)) → i < length sizes
    → line ≡ take (get_or sizes i 0) rest → behind ≡ drop (get_or sizes i 0) rest → more ≡ lines ++ line ∷ []
    → lines ++ pieces (drop i sizes) rest ≡ whole → more ++ pieces (drop (i + 1) sizes) behind ≡ whole
pieces-more lines more sizes i rest line behind whole within first after pushed cut =
    let next : i + 1 ≡ suc i = omega arith in
    let n = get_or sizes i 0 in
    let later = pieces (drop (suc i) sizes) (drop n rest) in
    rw (pushed, next, first, after) (append_assoc lines (take n rest ∷ []) later ∙ rw (drop-cons sizes i 0 within) at cut)
