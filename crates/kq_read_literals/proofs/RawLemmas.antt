-- The parts of a typed literal.
use Rattle.std.proofs.Common.{◌≡◌, ℕ, suc, ◌<◌, ◌≤◌, ◌+◌, ◌-◌, Bool, true, false, ◌==◌, not, nat_eq, cond, ltb, if◌then◌else◌, List, [], ◌∷◌, ◌++◌, length, take, drop, length-append, length-drop, Some, None, append_assoc, Result, Ok, Err, refl, sym, ◌∙◌, ap, subst, arith}
use Rattle.std.specs.List.{list_all, position_or_len, prefix_len}
use Rattle.std.specs.Cmp.Lexicographic.{pointwise}
use Rattle.std.proofs.lemmas.Bool.Decides.{nat_tests}
use Rattle.std.proofs.lemmas.List.{take-append-drop, take_all}
use Rattle.std.proofs.lemmas.List.Folds.{list_all-append}
use Rattle.kq_read_tokens.specs.declared.kind.LiteralWord.{LiteralWord}
use Rattle.kq_read_tokens.specs.declared.kind.LiteralWord.TheVariants as literal
use Rattle.kq_read_tokens.specs.declared.delimited.Within.{Within}
use Rattle.kq_read_tokens.specs.declared.delimited.Within.TheVariants.{Raw}
use Rattle.kq_read_tokens.specs.declared.delimited.End.{End}
use Rattle.kq_read_tokens.specs.declared.delimited.End.TheVariants.{Closed, Refused}
use Rattle.kq_read_tokens.specs.declared.literals.Nesting.{Nesting}
use Rattle.kq_read_tokens.specs.declared.literals.Quoting.{Quoting}
use Rattle.kq_read_tokens.specs.declared.literals.Quoting.TheVariants.{Outside, Inside, Escaped}
use Rattle.kq_read_tokens.specs.Bytes.{begins_with, byte_then, is_end, is_space}
use Rattle.kq_read_tokens.specs.Spellings.{literal_word_spelling}
use Rattle.kq_read_tokens.specs.Delimited.{by_step, closes, closing_bracket, is_closing, is_opening, is_raw, is_typed_literal, nesting_step, opened, quoted_step, step, unnested}
use Rattle.kq_read_tokens.proofs.TestLemmas.{both_true, and_true, equal_of}
use Rattle.kq_read_literals.specs.Raw.{HasRaw, raw_text_of, without_last}
use Rattle.kq_read_literals.proofs.RunLemmas.{Includes}

-- ---- raw texts end with the `)` that closes them

module _ {S : Type 0} (step_of : S → ℕ → Result S End) (Stays : S → Type 0) (stays : (s : S) (b : ℕ) (t : S) → Stays s → step_of s b ≡ Ok t → Stays t) (closed : (s : S) (b : ℕ) → Stays s → step_of s b ≡ Err Closed → b ≡ 41) where
  ends_at : (s : S) (b : ℕ) (bs : List ℕ) (o : Result S End) → Stays s → step_of s b ≡ o → by_step o (λ t. closes step_of t bs) (is_end bs) false ≡ true → ((t : S) → Stays t → closes step_of t bs ≡ true → (raw : List ℕ) × (bs ≡ raw ++ 41 ∷ [])) → (raw : List ℕ) × (b ∷ bs ≡ raw ++ 41 ∷ [])
  ends_at s b bs (Ok t) here e h rest = let r = rest t (stays s b t here e) h in (b ∷ r.0, ap (λ l. b ∷ l) r.1)
  ends_at s b [] (Err Closed) here e h rest = ([], ap (λ c. c ∷ []) (closed s b here e))
  ends_at s b (c ∷ bs) (Err Closed) here e h rest = let no_way : false ≡ true = h in absurd (cc)
  ends_at s b bs (Err Refused) here e h rest = let no_way : false ≡ true = h in absurd (cc)

  ends_closed : (s : S) (bs : List ℕ) → Stays s → closes step_of s bs ≡ true → (raw : List ℕ) × (bs ≡ raw ++ 41 ∷ [])
  ends_closed s [] here h = let no_way : false ≡ true = h in absurd (cc)
  ends_closed s (b ∷ bs) here h = ends_at s b bs (step_of s b) here refl h (λ t there k. ends_closed t bs there k)

raw_stays : (t : Bool) (s : Within) → ◌≡◌ {A = Result Within End} (if t then Err Closed else Ok Raw) (Ok s) → s ≡ Raw
raw_stays true s e = absurd (cc)
raw_stays false s e = cc

raw_closed : (b : ℕ) (t : Bool) → (b == 41) ≡ t → ◌≡◌ {A = Result Within End} (if t then Err Closed else Ok Raw) (Err Closed) → b ≡ 41
raw_closed b true e h = equal_of b 41 e
raw_closed b false e h = absurd (cc)

bracket_closed : (depth b : ℕ) (t u : Bool) → (b == 41) ≡ u → ◌≡◌ {A = Result Nesting End} (if t then (if u then Err Closed else Ok (record { depth = 0; quoting = Outside })) else Ok (record { depth = depth - 1; quoting = Outside })) (Err Closed) → b ≡ 41
bracket_closed depth b true true e h = equal_of b 41 e
bracket_closed depth b true false e h = absurd (cc)
bracket_closed depth b false u e h = absurd (cc)

outside_closed : (n : Nesting) (b : ℕ) (t u v : Bool) (x y z : Nesting) → ◌≡◌ {A = Result Nesting End} (if t then Ok x else (if u then Ok y else (if v then closing_bracket n.depth b else Ok z))) (Err Closed) → b ≡ 41
outside_closed n b true u v x y z h = absurd (cc)
outside_closed n b false true v x y z h = absurd (cc)
outside_closed n b false false true x y z h = bracket_closed n.depth b (n.depth == 0) (b == 41) refl h
outside_closed n b false false false x y z h = absurd (cc)

inside_closed : (t u : Bool) (x y z : Nesting) → ◌≡◌ {A = Result Nesting End} (if t then Ok x else (if u then Ok y else Ok z)) (Err Closed) → ⊥
inside_closed true u x y z h = cc
inside_closed false true x y z h = cc
inside_closed false false x y z h = cc

quoted_closed : (n : Nesting) (b : ℕ) (q : Quoting) → quoted_step q n.depth b ≡ Err Closed → b ≡ 41
quoted_closed n b Outside h = outside_closed n b (b == 34) (is_opening b) (is_closing b) (record { depth = n.depth; quoting = Inside }) (record { depth = n.depth + 1; quoting = Outside }) (record { depth = n.depth; quoting = Outside }) h
quoted_closed n b Inside h = absurd (inside_closed (b == 34) (b == 92) (record { depth = n.depth; quoting = Outside }) (record { depth = n.depth; quoting = Escaped }) (record { depth = n.depth; quoting = Inside }) h)
quoted_closed n b Escaped h = absurd (cc)

plain_closed : (bytes : List ℕ) → closes step Raw bytes ≡ true → (raw : List ℕ) × (bytes ≡ raw ++ 41 ∷ [])
plain_closed bytes h = ends_closed step (λ s. s ≡ Raw)
    (λ s b t here e. raw_stays (b == 41) t (subst (λ r. step r b ≡ Ok t) here e))
    (λ s b here e. raw_closed b (b == 41) refl (subst (λ r. step r b ≡ Err Closed) here e))
    Raw bytes refl h

is_closed : (word : LiteralWord) (bytes : List ℕ) → is_raw word bytes ≡ true → (raw : List ℕ) × (bytes ≡ raw ++ 41 ∷ [])
is_closed literal.Dynamic bytes h = ends_closed nesting_step (λ s. Unit {0}) (λ s b t here e. tt) (λ s b here e. quoted_closed s b s.quoting e) unnested bytes tt h
is_closed literal.Long bytes h = plain_closed bytes h
is_closed literal.Int64 bytes h = plain_closed bytes h
is_closed literal.Bool bytes h = plain_closed bytes h
is_closed literal.Boolean bytes h = plain_closed bytes h
is_closed literal.Datetime bytes h = plain_closed bytes h
is_closed literal.Date bytes h = plain_closed bytes h
is_closed literal.Timespan bytes h = plain_closed bytes h
is_closed literal.Time bytes h = plain_closed bytes h
is_closed literal.Int bytes h = plain_closed bytes h
is_closed literal.Real bytes h = plain_closed bytes h
is_closed literal.Double bytes h = plain_closed bytes h
is_closed literal.Decimal bytes h = plain_closed bytes h
is_closed literal.Guid bytes h = plain_closed bytes h

-- ---- what stands before the raw text has no `(`

abbrev is_other : ℕ → Bool
is_other b = not (b == 40)

no_opening : (word : LiteralWord) → list_all is_other (literal_word_spelling word) ≡ true
no_opening literal.Long = refl
no_opening literal.Int64 = refl
no_opening literal.Bool = refl
no_opening literal.Boolean = refl
no_opening literal.Datetime = refl
no_opening literal.Date = refl
no_opening literal.Timespan = refl
no_opening literal.Time = refl
no_opening literal.Dynamic = refl
no_opening literal.Int = refl
no_opening literal.Real = refl
no_opening literal.Double = refl
no_opening literal.Decimal = refl
no_opening literal.Guid = refl

space_other : (b : ℕ) → is_space b ≡ true → is_other b ≡ true
space_other b h = grind (arith, nat_tests)

all_within : (class ok : ℕ → Bool) → Includes ok class → (bs : List ℕ) → list_all class bs ≡ true → list_all ok bs ≡ true
all_within class ok includes [] h = refl
all_within class ok includes (b ∷ bs) h = let p = both_true (class b) (list_all class bs) h in and_true (ok b) (list_all ok bs) (includes b p.0) (all_within class ok includes bs p.1)

position_at : (b : ℕ) (front rest : List ℕ) (t : Bool) → (b == 40) ≡ t → not t ≡ true → position_or_len (λ c. c == 40) (front ++ 40 ∷ rest) ≡ length front → position_or_len (λ c. c == 40) (b ∷ (front ++ 40 ∷ rest)) ≡ suc (length front)
position_at b front rest true e h k = let no_way : false ≡ true = h in absurd (cc)
position_at b front rest false e h k = let one_more : 1 + position_or_len (λ c. c == 40) (front ++ 40 ∷ rest) ≡ suc (length front) = omega arith in rw e one_more

position_front : (front rest : List ℕ) → list_all is_other front ≡ true → position_or_len (λ c. c == 40) (front ++ 40 ∷ rest) ≡ length front
position_front [] rest h = refl
position_front (b ∷ front) rest h =
    let p = both_true (is_other b) (list_all is_other front) h in
    position_at b front rest (b == 40) refl p.0 (position_front front rest p.1)

run_at : (class : ℕ → Bool) (b : ℕ) (bs : List ℕ) (t : Bool) → class b ≡ t → list_all class (take (prefix_len class bs) bs) ≡ true → list_all class (take (cond t (1 + prefix_len class bs) 0) (b ∷ bs)) ≡ true
run_at class b bs true e h =
    let one_more : suc (prefix_len class bs) ≡ 1 + prefix_len class bs = omega arith in
    subst (λ k. list_all class (take k (b ∷ bs)) ≡ true) one_more (and_true (class b) (list_all class (take (prefix_len class bs) bs)) e h)
run_at class b bs false e h = refl

run_is : (class : ℕ → Bool) (bs : List ℕ) → list_all class (take (prefix_len class bs) bs) ≡ true
run_is class [] = refl
run_is class (b ∷ bs) = run_at class b bs (class b) refl (run_is class bs)

pub same_text : (text bytes : List ℕ) → pointwise nat_eq text bytes ≡ true → text ≡ bytes
same_text [] [] h = refl
same_text [] (b ∷ bytes) h = let no_way : false ≡ true = h in absurd (cc)
same_text (a ∷ text) [] h = let no_way : false ≡ true = h in absurd (cc)
same_text (a ∷ text) (b ∷ bytes) h =
    let p = both_true (nat_eq a b) (pointwise nat_eq text bytes) h in
    let here = equal_of a b p.0 in
    let rest = same_text text bytes p.1 in
    cc

-- ---- the parts

pub record Parts (word : LiteralWord) (bytes : List ℕ) : Type 0 where
  pub spaces : List ℕ
  pub raw : List ℕ
  pub blank : list_all is_space spaces ≡ true
  pub is : bytes ≡ (literal_word_spelling word ++ spaces) ++ 40 ∷ (raw ++ 41 ∷ [])

opened_at : (word : LiteralWord) (bytes rest more : List ℕ) → bytes ≡ literal_word_spelling word ++ rest → drop (prefix_len is_space rest) rest ≡ more → byte_then (λ b. b == 40) (is_raw word) more ≡ true → Parts word bytes
opened_at word bytes rest [] e d h = let no_way : false ≡ true = h in absurd (cc)
opened_at word bytes rest (b ∷ more) e d h =
    let p = both_true (b == 40) (is_raw word more) h in
    let here = equal_of b 40 p.0 in
    let closed = is_closed word more p.1 in
    let front = literal_word_spelling word in
    let spaces = take (prefix_len is_space rest) rest in
    let behind : drop (prefix_len is_space rest) rest ≡ 40 ∷ (closed.0 ++ 41 ∷ []) = d ∙ ap (λ c. c ∷ more) here ∙ ap (λ l. 40 ∷ l) closed.1 in
    let whole : rest ≡ spaces ++ 40 ∷ (closed.0 ++ 41 ∷ []) = sym (take-append-drop (prefix_len is_space rest) rest) ∙ ap (λ l. spaces ++ l) behind in
    record {
      spaces = spaces;
      raw = closed.0;
      blank = run_is is_space rest;
      is = e ∙ ap (λ l. front ++ l) whole ∙ sym (append_assoc front spaces (40 ∷ (closed.0 ++ 41 ∷ [])));
    }

pub parts_of : (word : LiteralWord) (bytes : List ℕ) → is_typed_literal word bytes ≡ true → Parts word bytes
parts_of word bytes h =
    let front = literal_word_spelling word in
    let rest = drop (length front) bytes in
    let p = both_true (begins_with front bytes) (opened (is_raw word) rest) h in
    let begun : front ≡ take (length front) bytes = same_text front (take (length front) bytes) p.0 in
    let whole : bytes ≡ front ++ rest = sym (take-append-drop (length front) bytes) ∙ ap (λ l. l ++ rest) (sym begun) in
    opened_at word bytes rest (drop (prefix_len is_space rest) rest) whole refl p.1

front_other : (word : LiteralWord) (spaces : List ℕ) → list_all is_space spaces ≡ true → list_all is_other (literal_word_spelling word ++ spaces) ≡ true
front_other word spaces h =
    list_all-append is_other (literal_word_spelling word) spaces ∙ and_true (list_all is_other (literal_word_spelling word)) (list_all is_other spaces) (no_opening word) (all_within is_space is_other space_other spaces h)

-- where the `(` stands, and what follows it
pub opening_at : (word : LiteralWord) (bytes : List ℕ) (p : Parts word bytes) → position_or_len (λ b. b == 40) bytes ≡ length (literal_word_spelling word ++ p.spaces)
opening_at word bytes p =
    ap (λ l. position_or_len (λ b. b == 40) l) p.is ∙ position_front (literal_word_spelling word ++ p.spaces) (p.raw ++ 41 ∷ []) (front_other word p.spaces p.blank)

drop_front : (front : List ℕ) (b : ℕ) (rest : List ℕ) → drop (suc (length front)) (front ++ b ∷ rest) ≡ rest
drop_front [] b rest = refl
drop_front (a ∷ front) b rest = drop_front front b rest

take_front : (front rest : List ℕ) → take (length front) (front ++ rest) ≡ front
take_front [] rest = refl
take_front (a ∷ front) rest = ap (λ l. a ∷ l) (take_front front rest)

pub behind_opening : (word : LiteralWord) (bytes : List ℕ) (p : Parts word bytes) → drop (position_or_len (λ b. b == 40) bytes + 1) bytes ≡ p.raw ++ 41 ∷ []
behind_opening word bytes p =
    let place : position_or_len (λ b. b == 40) bytes + 1 ≡ suc (length (literal_word_spelling word ++ p.spaces)) = omega (arith, opening_at word bytes p) in
    ap (λ k. drop k bytes) place ∙ ap (λ l. drop (suc (length (literal_word_spelling word ++ p.spaces))) l) p.is ∙ drop_front (literal_word_spelling word ++ p.spaces) 40 (p.raw ++ 41 ∷ [])

pub without_last-raw : (raw : List ℕ) → without_last (raw ++ 41 ∷ []) ≡ raw
without_last-raw raw =
    let count : length (raw ++ 41 ∷ []) - 1 ≡ length raw = omega (arith, length-append raw (41 ∷ [])) in
    ap (λ k. take k (raw ++ 41 ∷ [])) count ∙ take_front raw (41 ∷ [])

pub raw_is : (word : LiteralWord) (bytes : List ℕ) (p : Parts word bytes) → raw_text_of bytes ≡ p.raw
unfolding raw_text_of
raw_is word bytes p = ap without_last (behind_opening word bytes p) ∙ without_last-raw p.raw

pub has_raw : (word : LiteralWord) (bytes : List ℕ) → is_typed_literal word bytes ≡ true → HasRaw word bytes (raw_text_of bytes)
has_raw word bytes h =
    let p = parts_of word bytes h in
    let front = literal_word_spelling word ++ p.spaces in
    let whole : bytes ≡ front ++ 40 ∷ [] ++ p.raw ++ 41 ∷ [] = p.is ∙ sym (append_assoc front (40 ∷ []) (p.raw ++ 41 ∷ [])) ∙ sym (append_assoc (front ++ 40 ∷ []) p.raw (41 ∷ [])) in
    (p.spaces, p.blank, subst (λ raw. bytes ≡ front ++ 40 ∷ [] ++ raw ++ 41 ∷ []) (sym (raw_is word bytes p)) whole)

-- there is a `(`, and something behind it
pub opening_inside : (word : LiteralWord) (bytes : List ℕ) → is_typed_literal word bytes ≡ true → position_or_len (λ b. b == 40) bytes + 2 ≤ length bytes
opening_inside word bytes h =
    let p = parts_of word bytes h in
    let front = literal_word_spelling word ++ p.spaces in
    let len : length bytes ≡ length front + suc (length (p.raw ++ 41 ∷ [])) = ap length p.is ∙ length-append front (40 ∷ (p.raw ++ 41 ∷ [])) in
    let some : length (p.raw ++ 41 ∷ []) ≡ length p.raw + 1 = length-append p.raw (41 ∷ []) in
    omega (arith, opening_at word bytes p)

-- ---- the place that a search for the `(` gives

abbrev pub opening_of : List ℕ → ℕ
opening_of bytes = position_or_len (λ b. b == 40) bytes

found_at : (place len at : ℕ) (t : Bool) → Some at ≡ cond t (Some place) None → at ≡ place
found_at place len at true e = cc
found_at place len at false e = absurd (cc)

pub found_opening : (bytes : List ℕ) (at : ℕ) → Some at ≡ cond (ltb (opening_of bytes) (length bytes)) (Some (opening_of bytes)) None → at ≡ opening_of bytes
found_opening bytes at e = found_at (opening_of bytes) (length bytes) at (ltb (opening_of bytes) (length bytes)) e

none_at : (place len : ℕ) (t : Bool) → ltb place len ≡ t → place < len → None ≡ cond t (Some place) None → ⊥
none_at place len true h lt e = cc
none_at place len false h lt e = grind (arith, nat_tests)

pub no_opening_found : (word : LiteralWord) (bytes : List ℕ) → is_typed_literal word bytes ≡ true → None ≡ cond (ltb (opening_of bytes) (length bytes)) (Some (opening_of bytes)) None → ⊥
no_opening_found word bytes h e = none_at (opening_of bytes) (length bytes) (ltb (opening_of bytes) (length bytes)) refl (omega (arith, opening_inside word bytes h)) e

-- what the code takes
pub sliced_is : (bytes : List ℕ) (at : ℕ) → at ≡ opening_of bytes → without_last (take (length bytes - (at + 1)) (drop (at + 1) bytes)) ≡ raw_text_of bytes
unfolding raw_text_of
sliced_is bytes at e =
    let all : take (length bytes - (at + 1)) (drop (at + 1) bytes) ≡ drop (at + 1) bytes = take_all (length bytes - (at + 1)) (drop (at + 1) bytes) (omega (arith, length-drop (at + 1) bytes)) in
    ap without_last all ∙ ap (λ k. without_last (drop (k + 1) bytes)) e
