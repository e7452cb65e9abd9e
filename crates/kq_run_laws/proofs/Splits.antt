-- A split cuts at the leftmost places, and nothing else does.
use Rattle.std.proofs.Common.{◌≡◌, ◌<◌, ◌≤◌, ℕ, zero, suc, ◌+◌, ◌-◌, Bool, true, false, true≢false, List, [], ◌∷◌, ◌++◌, length, take, drop, nat_eq, refl, sym, ap, ◌∙◌, subst, append_assoc, length-append, length-take, length-drop, take-append-drop, arith}
use Rattle.std.specs.Prelude.{◌↔◌}
use Rattle.std.specs.List.{starts_with}
use Rattle.std.specs.Str.Pattern.{LacksTextAt}
use Rattle.std.proofs.Math.Seq.{take-append_seam}
use Rattle.std.proofs.lemmas.List.{take-append-le, drop-append-le}
use Rattle.std.proofs.lemmas.Slice.Eq.{bytes_eq-Decides}
use Rattle.kq_value_formats.specs.Strings.{split, joined_by}
use Rattle.kq_value_strings.proofs.Pieces.{split-first, split-last}
use Rattle.kq_run_laws.specs.Splits.{StandsAt, AreCutLeftmost, IsSplitBy}

-- ---- where a text stands

stands : (t s rest : List ℕ) (k : ℕ) → k ≤ length s → drop k s ≡ t ++ rest → StandsAt t s k
stands t s rest k le e = record {
  front = take k s;
  back = rest;
  parts = sym (take-append-drop k s) ∙ ap (λ xs. take k s ++ xs) e;
  place = omega (arith, length-take k s);
}

lacks : (t s : List ℕ) (k : ℕ) → k ≤ length s → (StandsAt t s k → ⊥) → LacksTextAt t s k
lacks t s k le never rest e = never (stands t s rest k le e)

-- what begins with t within the front of a text begins so without what follows
cut_off : (t xs after rest : List ℕ) → length t ≤ length xs → xs ++ after ≡ t ++ rest → xs ≡ t ++ drop (length t) xs
cut_off t xs after rest le e =
    let same : take (length t) xs ≡ t = sym (take-append-le (length t) xs after le) ∙ ap (take (length t)) e ∙ take-append_seam t rest in
    sym (take-append-drop (length t) xs) ∙ ap (λ ys. ys ++ drop (length t) xs) same

lacks_before : (t p after : List ℕ) (k : ℕ) → k < length p → (StandsAt t (p ++ t) k → ⊥) → LacksTextAt t (p ++ (t ++ after)) k
lacks_before t p after k lt never rest e =
    let n : length (p ++ t) ≡ length p + length t = length-append p t in
    let m : length (drop k (p ++ t)) ≡ length (p ++ t) - k = length-drop k (p ++ t) in
    let f : drop k (p ++ t) ++ after ≡ t ++ rest = sym (drop-append-le k (p ++ t) after (omega arith)) ∙ ap (drop k) (append_assoc p t after) ∙ e in
    never (stands t (p ++ t) (drop (length t) (drop k (p ++ t))) k (omega arith) (cut_off t (drop k (p ++ t)) after rest (omega arith) f))

-- ---- pieces that are cut so are the pieces of a split

from_cuts : (t : List ℕ) → 0 < length t → (ps : List (List ℕ)) (s : List ℕ) → joined_by t ps ≡ s → AreCutLeftmost t ps → split s t ≡ ps
from_cuts t some [] s e h = absurd h
from_cuts t some (p ∷ []) s e h =
    split-last s t some (λ k le. lacks t s k le (λ st. h k (subst (λ (xs : List ℕ). StandsAt t xs k) (sym e) st))) ∙ ap (λ x. x ∷ []) (sym e)
from_cuts t some (p ∷ q ∷ ps) s e h =
    let after = joined_by t (q ∷ ps) in
    let parts : p ++ (t ++ after) ≡ s = sym (append_assoc p t after) ∙ e in
    let first = split-first s t p after (length p) some (sym parts) refl (λ k lt. subst (λ (xs : List ℕ). LacksTextAt t xs k) parts (lacks_before t p after k lt (h.0 k lt))) in
    first ∙ ap (λ x. p ∷ x) (from_cuts t some (q ∷ ps) after refl h.1)

-- ---- a text can be cut so

at_front : (t s after : List ℕ) → s ≡ t ++ after → (ps : List (List ℕ)) → IsSplitBy after t ps → (ps : List (List ℕ)) × IsSplitBy s t ps
at_front t s after e [] h = absurd h.leftmost
at_front t s after e (q ∷ qs) h = ([] ∷ q ∷ qs, record { joined = ap (λ x. t ++ x) h.joined ∙ sym e; leftmost = (λ i lt st. absurd (omega arith), h.leftmost) })

tail_of : (t s : List ℕ) (c i : ℕ) (front back : List ℕ) → c ∷ s ≡ front ++ (t ++ back) → length front ≡ suc i → StandsAt t s i
tail_of t s c i [] back e n = absurd (omega arith)
tail_of t s c i (x ∷ front) back e n = record { front = front; back = back; parts = cc; place = omega arith }

further : (t s : List ℕ) (c i : ℕ) → StandsAt t (c ∷ s) (suc i) → StandsAt t s i
further t s c i st = tail_of t s c i st.front st.back st.parts st.place

wider : (t s after : List ℕ) (i : ℕ) → StandsAt t s i → StandsAt t (s ++ after) i
wider t s after i st = record {
  front = st.front;
  back = st.back ++ after;
  parts = ap (λ x. x ++ after) st.parts ∙ append_assoc st.front (t ++ st.back) after ∙ ap (λ x. st.front ++ x) (append_assoc t st.back after);
  place = st.place;
}

lacks_last : (t s q : List ℕ) (c : ℕ) → q ≡ s → (StandsAt t (c ∷ s) 0 → ⊥) → ((i : ℕ) → StandsAt t q i → ⊥) → (i : ℕ) → StandsAt t (c ∷ q) i → ⊥
lacks_last t s q c e never h zero st = never (subst (λ (xs : List ℕ). StandsAt t (c ∷ xs) 0) e st)
lacks_last t s q c e never h (suc i) st = h i (further t q c i st)

lacks_first : (t s q after : List ℕ) (c : ℕ) → (q ++ t) ++ after ≡ s → (StandsAt t (c ∷ s) 0 → ⊥) → ((i : ℕ) → i < length q → StandsAt t (q ++ t) i → ⊥) → (i : ℕ) → i < suc (length q) → StandsAt t (c ∷ (q ++ t)) i → ⊥
lacks_first t s q after c e never h zero lt st = never (subst (λ (xs : List ℕ). StandsAt t (c ∷ xs) 0) e (wider t (c ∷ (q ++ t)) after 0 st))
lacks_first t s q after c e never h (suc i) lt st = h i (omega arith) (further t (q ++ t) c i st)

one_more : (t s : List ℕ) (c : ℕ) → (StandsAt t (c ∷ s) 0 → ⊥) → (ps : List (List ℕ)) → IsSplitBy s t ps → (ps : List (List ℕ)) × IsSplitBy (c ∷ s) t ps
one_more t s c never [] h = absurd h.leftmost
one_more t s c never (q ∷ []) h = ((c ∷ q) ∷ [], record { joined = ap (λ x. c ∷ x) h.joined; leftmost = lacks_last t s q c h.joined never h.leftmost })
one_more t s c never (q ∷ r ∷ qs) h =
    ((c ∷ q) ∷ r ∷ qs, record { joined = ap (λ x. c ∷ x) h.joined; leftmost = (lacks_first t s q (joined_by t (r ∷ qs)) c h.joined never h.leftmost.0, h.leftmost.1) })

begins : (t after : List ℕ) → starts_with nat_eq (t ++ after) t ≡ true
begins t after = (bytes_eq-Decides t (take (length t) (t ++ after))).1 (sym (take-append_seam t after))

no_front : (t s front back : List ℕ) → starts_with nat_eq s t ≡ false → s ≡ front ++ (t ++ back) → length front ≡ 0 → ⊥
no_front t s [] back e parts n = true≢false (sym (begins t back) ∙ ap (λ xs. starts_with nat_eq xs t) (sym parts) ∙ e)
no_front t s (x ∷ front) back e parts n = absurd (omega arith)

none_stands : (t : List ℕ) → 0 < length t → (i : ℕ) (front back : List ℕ) → [] ≡ front ++ (t ++ back) → ⊥
none_stands t some i front back e =
    let n : 0 ≡ length (front ++ (t ++ back)) = ap length e in
    absurd (omega (arith, length-append front (t ++ back), length-append t back))

tested : (t : List ℕ) → 0 < length t → (n c : ℕ) (s : List ℕ) → length (c ∷ s) < suc n
    → ((xs : List ℕ) → length xs < n → (ps : List (List ℕ)) × IsSplitBy xs t ps) → (b : Bool) → starts_with nat_eq (c ∷ s) t ≡ b → (ps : List (List ℕ)) × IsSplitBy (c ∷ s) t ps
tested t some n c s h shorter true e =
    let after = drop (length t) (c ∷ s) in
    let same : t ≡ take (length t) (c ∷ s) = (bytes_eq-Decides t (take (length t) (c ∷ s))).0 e in
    let parts : c ∷ s ≡ t ++ after = sym (take-append-drop (length t) (c ∷ s)) ∙ ap (λ xs. xs ++ after) (sym same) in
    let cuts = shorter after (omega (arith, length-drop (length t) (c ∷ s))) in
    at_front t (c ∷ s) after parts cuts.0 cuts.1
tested t some n c s h shorter false e =
    let cuts = shorter s (omega arith) in
    one_more t s c (λ st. no_front t (c ∷ s) st.front st.back e st.parts st.place) cuts.0 cuts.1

cuts_of : (t : List ℕ) → 0 < length t → (n : ℕ) (s : List ℕ) → length s < n → (ps : List (List ℕ)) × IsSplitBy s t ps
cuts_of t some zero s h = absurd (omega arith)
cuts_of t some (suc n) [] h = ([] ∷ [], record { joined = refl; leftmost = λ i st. none_stands t some i st.front st.back st.parts })
cuts_of t some (suc n) (c ∷ s) h = tested t some n c s h (cuts_of t some n) (starts_with nat_eq (c ∷ s) t) refl

pub pieces : (s t : List ℕ) (ps : List (List ℕ)) → 0 < length t → (ps ≡ split s t) ↔ IsSplitBy s t ps
pieces s t ps some =
    let cuts = cuts_of t some (suc (length s)) s (omega arith) in
    (λ e. subst (IsSplitBy s t) (sym (e ∙ from_cuts t some cuts.0 s cuts.1.joined cuts.1.leftmost)) cuts.1, λ h. sym (from_cuts t some ps s h.joined h.leftmost))
