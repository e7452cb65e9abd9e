-- What was read of a script.
use Rattle.std.proofs.Common.{◌≡◌, ◌+◌, ◌≤◌, ◌==◌, ◌&&◌, ◌||◌, ℕ, zero, suc, Bool, true, false, List, ◌++◌, take, drop, refl, ap, sym, ◌∙◌, eq-eqb, arith}
use Rattle.std.proofs.lemmas.Bool.{ne_eqb}
use Rattle.std.proofs.lemmas.List.{take-append-drop}
use Rattle.kq_world.specs.Outside.{Delivers}
use Rattle.kq_script_generated.specs.Commands.{script}
use Rattle.kq_script_generated.specs.Source.{ScriptState, script_read, script_told, script_unread}

-- a source that told a whole script at first, and has given bytes since, has the same script
pub told-since : (n : ℕ) (now : ScriptState) (bytes : List ℕ) → Delivers (script_unread n) (script_told now) bytes → script_told now ≡ script_read n now.at now.ended
told-since n now bytes gave =
    let taken : take now.at now.text ≡ bytes = gave.taken in
    let left : script n ≡ bytes ++ drop now.at now.text = gave.left in
    let same : now.text ≡ script n = sym (take-append-drop now.at now.text) ∙ ap (λ (l : List ℕ). l ++ drop now.at now.text) taken ∙ sym left in
    ap (λ (text : List ℕ). script_told (record { text = text; at = now.at; ended = now.ended })) same

or_true : (b : Bool) → b || true ≡ true
or_true true = refl
or_true false = refl

-- a read of n bytes meets the end where it gives none, and the end was met only behind the last byte
pub met-end : (was now : Bool) (at n size : ℕ) → (was ≡ true → at ≡ size) → at + n ≤ size → (n ≡ 0 → at ≡ size) → now ≡ was || (n == 0) → now && (at + n == size) ≡ (was && (at == size)) || (n == 0)
met-end was now at zero size behind within last met =
    let whole : (at + 0 == size) ≡ true = eq-eqb (at + 0) size (omega (arith, last refl)) in
    let is : now ≡ true = met ∙ or_true was in
    rw (is, whole) (sym (or_true (was && (at == size))))
met-end true now at (suc n) size behind within last met = absurd (omega (arith, behind refl, within))
met-end false now at (suc n) size behind within last met =
    let some : (suc n == 0) ≡ false = ne_eqb (suc n) 0 (λ none. omega (arith, none)) in
    rw (met, some) refl
