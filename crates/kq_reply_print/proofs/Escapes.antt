-- A name goes out sign by sign.
use Rattle.std.proofs.Common.{◌≡◌, ◌<◌, ℕ, ◌+◌, List, [], ◌∷◌, ◌++◌, length, take, drop, get_or, sym, ap, ◌∙◌, append-nil}
use Rattle.std.proofs.lemmas.List.{take_more, take-append-drop}
use Rattle.std.proofs.lemmas.Grind.{flat_map-append}
use Rattle.kq_value_formats.specs.Cells.{escaped_byte, escaped}

pub escaped-more : (name : List ℕ) (i : ℕ) → i < length name → escaped (take (i + 1) name) ≡ escaped (take i name) ++ escaped_byte (get_or name i 0)
escaped-more name i within =
    ap escaped (take_more name i 0 within) ∙ flat_map-append escaped_byte (take i name) (get_or name i 0 ∷ []) ∙ ap (λ l. escaped (take i name) ++ l) (append-nil (escaped_byte (get_or name i 0)))

pub escaped-split : (name : List ℕ) (i : ℕ) → escaped name ≡ escaped (take i name) ++ escaped (drop i name)
escaped-split name i = ap escaped (sym (take-append-drop i name)) ∙ flat_map-append escaped_byte (take i name) (drop i name)

-- the names before a sign, the sign, and the rest
pub escaped-at : (name : List ℕ) (i : ℕ) → i < length name → escaped name ≡ escaped (take i name) ++ escaped_byte (get_or name i 0) ++ escaped (drop (i + 1) name)
escaped-at name i within = escaped-split name (i + 1) ∙ ap (λ l. l ++ escaped (drop (i + 1) name)) (escaped-more name i within)

-- a part of a name, and what is behind it
pub escaped-parts : (name part behind : List ℕ) (n : ℕ) → part ≡ take n name → behind ≡ drop n name → escaped name ≡ escaped part ++ escaped behind
escaped-parts name part behind n front back = rw (front, back) (escaped-split name n)
