-- Places in a text, in characters and in bytes.
use Rattle.std.proofs.Common.{◌≡◌, ◌<◌, ◌≤◌, ℕ, zero, suc, ◌+◌, ◌-◌, ℤ, pos, negsuc, true, false, List, [], ◌∷◌, ◌++◌, length, get_or, take, drop, nat_eq, Option, Some, None, refl, sym, ap, ◌∙◌, subst, length-append, arith}
use Rattle.std.specs.Prelude.{◌<ℤ◌, ◌≤ℤ◌, slice_range, unsigned_abs}
use Rattle.std.specs.List.{starts_with}
use Rattle.std.specs.Option.{is_some, option_map, unwrap_or}
use Rattle.std.specs.Str.{chars, encode_utf8_all, IsUtf8, IsCharBoundary}
use Rattle.std.specs.Str.Iter.{chars_rest, chars_steps}
use Rattle.std.specs.declared.str.Chars.{Chars}
use Rattle.std.specs.Char.{encode_utf8}
use Rattle.std.proofs.Math.Seq.{drop-append_seam, take-append_seam}
use Rattle.std.proofs.lemmas.Slice.Eq.{bytes_eq-Decides}
use Rattle.std.proofs.lemmas.Int.{ints}
use Rattle.std.proofs.lemmas.List.{drop-drop, drop_all, take-append-drop, take-append-le, length-drop, length-take}
use Rattle.std.proofs.lemmas.Str.{IsUtf8-take, IsUtf8-past_char, IsCharBoundary-start, IsCharBoundary-at_seam, chars_from_encodes, chars_past_char, chars-append, chars-nil, encodes-append, encodes-chars, length-le-encodes}
use Rattle.memchr.specs.Find.{OccursAt, FindsNeedle}
use Rattle.kq_value_strings.proofs.Occurs.{OccursAt-from, occurs_at-from, not_true}
use Rattle.kq_value_formats.specs.Strings.{first_place, indexof, occurs_at, start_in, strlen, substring, substring_from}

-- ---- one character after another

-- r is what follows the first k characters of a text
pub record IsBehind (text : List ℕ) (k : ℕ) (r : List ℕ) : Type 0 where
  pub same : chars r ≡ drop k (chars text)
  pub utf8 : IsUtf8 r

pub behind-start : (text : List ℕ) → IsUtf8 text → IsBehind text 0 text
behind-start text u = record { same = refl; utf8 = u }

pub behind-more : (text r rest : List ℕ) (k c : ℕ) → IsBehind text k r → r ≡ encode_utf8 c ++ rest → IsBehind text (k + 1) rest
behind-more text r rest k c b e =
    let past : chars r ≡ c ∷ chars rest = chars_past_char r rest c b.utf8 e in
    record {
      same = ap (drop 1) (sym past ∙ b.same) ∙ drop-drop 1 k (chars text);
      utf8 = IsUtf8-past_char r rest c b.utf8 e;
    }

pub behind-value : (text r : List ℕ) (k : ℕ) → IsBehind text k r → r ≡ encode_utf8_all (drop k (chars text))
behind-value text r k b = sym (encodes-chars r b.utf8) ∙ ap encode_utf8_all b.same

empty_text : (r : List ℕ) → length r ≡ 0 → chars r ≡ []
empty_text [] h = chars-nil
empty_text (b ∷ r) h = absurd (omega arith)

-- where nothing is left, nothing follows later either
pub behind-end : (text r : List ℕ) (k n : ℕ) → IsBehind text k r → length r ≡ 0 → k ≤ n → [] ≡ encode_utf8_all (drop n (chars text))
behind-end text r k n b e h =
    let none : drop k (chars text) ≡ [] = sym b.same ∙ empty_text r e in
    let few : length (chars text) ≤ n = omega (arith, ap length none, length-drop k (chars text)) in
    ap encode_utf8_all (sym (drop_all n (chars text) few))

-- ---- a step over the characters

pub step-ends : (s t : Chars) (r : Option ℕ) → chars_steps s r t → is_some r ≡ false → length (chars_rest s) ≡ 0
step-ends s t None m h = m.0.0
step-ends s t (Some c) m h = absurd (cc)

pub step-more : (text : List ℕ) (k : ℕ) (s t : Chars) (r : Option ℕ) → IsBehind text k (chars_rest s) → chars_steps s r t → is_some r ≡ true → IsBehind text (k + 1) (chars_rest t)
step-more text k s t None b m h = absurd (cc)
step-more text k s t (Some c) b m h = behind-more text (chars_rest s) (chars_rest t) k c b m.0

-- ---- the front of a text

pub in_two : (text : List ℕ) (n : ℕ) → IsUtf8 text → text ≡ encode_utf8_all (take n (chars text)) ++ encode_utf8_all (drop n (chars text))
in_two text n u = sym (encodes-chars text u) ∙ ap encode_utf8_all (sym (take-append-drop n (chars text))) ∙ encodes-append (take n (chars text)) (drop n (chars text))

pub front-length : (text rest : List ℕ) (n : ℕ) → IsUtf8 text → rest ≡ encode_utf8_all (drop n (chars text)) → length text ≡ length (encode_utf8_all (take n (chars text))) + length rest
front-length text rest n u e = ap length (in_two text n u) ∙ length-append (encode_utf8_all (take n (chars text))) (encode_utf8_all (drop n (chars text))) ∙ ap (λ m. length (encode_utf8_all (take n (chars text))) + m) (ap length (sym e))

pub front-value : (text rest : List ℕ) (n : ℕ) → IsUtf8 text → rest ≡ encode_utf8_all (drop n (chars text)) → take (length text - length rest) text ≡ encode_utf8_all (take n (chars text))
front-value text rest n u e =
    let front = encode_utf8_all (take n (chars text)) in
    let long : length text - length rest ≡ length front = omega (arith, front-length text rest n u e) in
    ap (λ (k : ℕ). take k text) long ∙ ap (take (length front)) (in_two text n u) ∙ take-append_seam front (encode_utf8_all (drop n (chars text)))

pub front-boundary : (text rest : List ℕ) (n : ℕ) → IsUtf8 text → IsUtf8 rest → rest ≡ encode_utf8_all (drop n (chars text)) → IsCharBoundary text (length text - length rest)
front-boundary text rest n u v e =
    let front = encode_utf8_all (take n (chars text)) in
    let long : length front ≡ length text - length rest = omega (arith, front-length text rest n u e) in
    subst (IsCharBoundary text) long (IsCharBoundary-at_seam text front rest (in_two text n u ∙ ap (λ (xs : List ℕ). front ++ xs) (sym e)) v)

-- ---- substring

pub start-before : (from : ℤ) (len : ℕ) → from <ℤ pos 0 → start_in len from ≡ len - unsigned_abs from
start-before (pos n) len h = absurd (omega (arith, ints))
start-before (negsuc back) len h = omega (arith, ints)

pub non_negative : (z : ℤ) → pos 0 ≤ℤ z → z ≡ pos (unsigned_abs z)
non_negative (pos n) h = refl
non_negative (negsuc n) h = absurd (omega (arith, ints))

pub start-from : (from : ℤ) (len : ℕ) → pos 0 ≤ℤ from → start_in len from ≡ unsigned_abs from
start-from (pos n) len h = refl
start-from (negsuc n) len h = absurd (omega (arith, ints))

pub whole_range : (xs : List ℕ) (n : ℕ) → slice_range xs 0 n ≡ take n xs
whole_range xs n = let all : n - 0 ≡ n = omega arith in ap (λ (k : ℕ). take k xs) all

pub substring-part : (text rest : List ℕ) (from : ℤ) (n : ℕ) → IsUtf8 rest → rest ≡ substring_from text from → encode_utf8_all (take n (chars rest)) ≡ substring text from (pos n)
substring-part text rest from n u e =
    ap (λ (cs : List ℕ). encode_utf8_all (take n cs)) (sym (chars_from_encodes (drop (start_in (strlen text) from) (chars text)) rest u (sym e)))

-- ---- indexof

starts : (s t : List ℕ) → starts_with nat_eq s t ≡ true → take (length t) s ≡ t
starts s t h = sym ((bytes_eq-Decides t (take (length t) s)).0 h)

-- none before the seam, and one at it
first-at : (t xs ys : List ℕ) → ((k : ℕ) → k < length xs → starts_with nat_eq (drop k (xs ++ ys)) t ≡ false) → starts_with nat_eq ys t ≡ true → first_place t (xs ++ ys) ≡ Some (length xs)
first-at t [] [] none here = rw here refl
first-at t [] (y ∷ ys) none here = rw here refl
first-at t (x ∷ xs) ys none here = rw (none 0 (omega arith)) (ap (option_map suc) (first-at t xs ys (λ k h. none (suc k) (omega arith)) here))

first-none : (t s : List ℕ) → ((k : ℕ) → k ≤ length s → starts_with nat_eq (drop k s) t ≡ false) → first_place t s ≡ None
first-none t [] none = rw (none 0 (omega arith)) refl
first-none t (x ∷ s) none = rw (none 0 (omega arith)) (ap (option_map suc) (first-none t s (λ k h. none (suc k) (omega arith))))

begins : (t after : List ℕ) → starts_with nat_eq (t ++ after) t ≡ true
begins t after = (bytes_eq-Decides t (take (length t) (t ++ after))).1 (sym (take-append_seam t after))

-- an occurrence among the characters is one among the bytes
in_bytes : (text part : List ℕ) (k : ℕ) → IsUtf8 text → IsUtf8 part → starts_with nat_eq (drop k (chars text)) (chars part) ≡ true
    → occurs_at text part (length (encode_utf8_all (take k (chars text)))) ≡ true
in_bytes text part k u v h =
    let front = encode_utf8_all (take k (chars text)) in
    let ds = drop k (chars text) in
    let after = encode_utf8_all (drop (length (chars part)) ds) in
    let there : encode_utf8_all ds ≡ part ++ after =
    ap encode_utf8_all (sym (take-append-drop (length (chars part)) ds)) ∙ encodes-append (take (length (chars part)) ds) (drop (length (chars part)) ds)
    ∙ ap (λ (xs : List ℕ). xs ++ after) (ap encode_utf8_all (starts ds (chars part) h) ∙ encodes-chars part v) in
    let rest : drop (length front) text ≡ part ++ after = ap (drop (length front)) (in_two text k u) ∙ drop-append_seam front (encode_utf8_all ds) ∙ there in
    ap (λ (xs : List ℕ). starts_with nat_eq xs part) rest ∙ begins part after

-- a place before another in characters is before it in bytes
earlier : (xs ys : List ℕ) (k : ℕ) → k < length xs → length (encode_utf8_all (take k (xs ++ ys))) < length (encode_utf8_all xs)
earlier xs ys k h =
    let same : take k (xs ++ ys) ≡ take k xs = take-append-le k xs ys (omega arith) in
    let two : length (encode_utf8_all xs) ≡ length (encode_utf8_all (take k xs)) + length (encode_utf8_all (drop k xs)) =
    ap length (ap encode_utf8_all (sym (take-append-drop k xs)) ∙ encodes-append (take k xs) (drop k xs)) ∙ length-append (encode_utf8_all (take k xs)) (encode_utf8_all (drop k xs)) in
    omega (arith, ap (λ (cs : List ℕ). length (encode_utf8_all cs)) same, two, length-le-encodes (drop k xs), length-drop k xs)

-- the byte with which a text begins, and so one that begins with it, doesn't go on with a character
begins_char : (text part : List ℕ) (i : ℕ) → IsUtf8 part → 0 < length part → OccursAt text part i → IsCharBoundary text i
begins_char text part i v some o =
    let at : get_or text (i + 0) 0 ≡ get_or part 0 0 = o.reads 0 some in
    let here : i + 0 ≡ i = omega arith in
    let first : get_or text i 0 ≡ get_or part 0 0 = ap (λ (j : ℕ). get_or text j 0) (sym here) ∙ at in
    let starts = (IsCharBoundary-start part v).1 some in
    (omega (arith, o.fits), λ l h. rw first (starts (rw first at h)))

empty_occurs : (text part : List ℕ) → length part ≡ 0 → OccursAt text part 0
empty_occurs text part e = record { fits = omega arith; reads = λ j l. absurd (omega arith) }

pub found-boundary : (text part : List ℕ) (i : ℕ) → IsUtf8 text → IsUtf8 part → FindsNeedle text part 0 (Some i) → IsCharBoundary text i
found-boundary text [] zero u v h = IsCharBoundary-start text u
found-boundary text [] (suc i) u v h = absurd (h.0.before 0 (omega arith) (omega arith) (empty_occurs text [] refl))
found-boundary text (b ∷ part) i u v h = begins_char text (b ∷ part) i v (omega arith) h.1

pub index-found : (text part : List ℕ) (i : ℕ) → IsUtf8 text → IsUtf8 part → FindsNeedle text part 0 (Some i) → indexof text part ≡ pos (strlen (take i text))
index-found text part i u v h =
    let boundary = found-boundary text part i u v h in
    let front : IsUtf8 (take i text) = IsUtf8-take text i u boundary in
    let xs = chars (take i text) in
    let ys = chars (drop i text) in
    let whole : chars text ≡ xs ++ ys = ap chars (sym (take-append-drop i text)) ∙ chars-append (take i text) (drop i text) front in
    let fits = h.1.fits in
    let size : length (encode_utf8_all xs) ≡ i = ap length (encodes-chars (take i text) front) ∙ length-take i text ∙ omega arith in
    let none : (k : ℕ) → k < length xs → starts_with nat_eq (drop k (xs ++ ys)) (chars part) ≡ false = λ k l. not_true _ (λ e.
    let moved : length (encode_utf8_all (take k (chars text))) ≡ length (encode_utf8_all (take k (xs ++ ys))) = ap (λ (cs : List ℕ). length (encode_utf8_all (take k cs))) whole in
    let place : length (encode_utf8_all (take k (chars text))) < i = omega (arith, moved, earlier xs ys k l, size) in
    let there = in_bytes text part k u v (ap (λ (cs : List ℕ). starts_with nat_eq (drop k cs) (chars part)) whole ∙ e) in
    h.0.before _ (omega arith) place (OccursAt-from text part (length (encode_utf8_all (take k (chars text)))) (omega arith) there)) in
    let stands : take (length part) (drop i text) ≡ part = starts (drop i text) part (occurs_at-from text part i h.1) in
    let after = drop (length part) (drop i text) in
    let rest : drop i text ≡ part ++ after = sym (take-append-drop (length part) (drop i text)) ∙ ap (λ (zs : List ℕ). zs ++ after) stands in
    let here : starts_with nat_eq ys (chars part) ≡ true = rw (ap chars rest ∙ chars-append part after v) (begins (chars part) (chars after)) in
    ap (λ (o : Option ℕ). unwrap_or (option_map pos o) (negsuc 0)) (ap (first_place (chars part)) whole ∙ first-at (chars part) xs ys none here)

pub index-missing : (text part : List ℕ) → IsUtf8 text → IsUtf8 part → FindsNeedle text part 0 None → indexof text part ≡ negsuc 0
index-missing text part u v h =
    let none : (k : ℕ) → k ≤ length (chars text) → starts_with nat_eq (drop k (chars text)) (chars part) ≡ false = λ k l. not_true _ (λ e.
    let two = ap length (in_two text k u) ∙ length-append (encode_utf8_all (take k (chars text))) (encode_utf8_all (drop k (chars text))) in
    h (length (encode_utf8_all (take k (chars text)))) (omega arith) (omega (arith, two))
    (OccursAt-from text part (length (encode_utf8_all (take k (chars text)))) (omega (arith, two)) (in_bytes text part k u v e))) in
    ap (λ (o : Option ℕ). unwrap_or (option_map pos o) (negsuc 0)) (first-none (chars part) (chars text) none)
