-- The word, spelled token or typed literal that is found is the longest token.
use Rattle.std.proofs.Common.{◌≡◌, ℕ, zero, suc, ◌<◌, ◌≤◌, ◌+◌, ◌-◌, Bool, true, false, ◌||◌, ◌&&◌, not, ◌==◌, nat_lt, if◌then◌else◌, List, [], ◌∷◌, length, take, drop, Option, Some, None, refl, sym, ◌∙◌, ap, subst, arith, length-drop}
use Rattle.std.proofs.lemmas.Bool.Decides.{nat_tests}
use Rattle.std.proofs.lemmas.List.Sums.{prefix_len-le-length}
use Rattle.std.specs.List.{list_all, prefix_len}
use Rattle.std.specs.Option.{option_map}
use Rattle.kq_read_tokens.specs.declared.kind.TokenKind.{TokenKind}
use Rattle.kq_read_tokens.specs.declared.kind.TokenKind.TheVariants as kind
use Rattle.kq_read_tokens.specs.declared.kind.LiteralWord.{LiteralWord}
use Rattle.kq_read_tokens.specs.declared.kind.LiteralWord.TheVariants as literal
use Rattle.kq_read_tokens.specs.declared.spelling.TheConstants.{SPELLED, LITERAL_WORDS}
use Rattle.kq_read_tokens.specs.Bytes.{is_space, is_letter, is_word_byte, is_text, begins_with, starts}
use Rattle.kq_read_tokens.specs.Spellings.{spelling, literal_word_spelling}
use Rattle.kq_read_tokens.specs.Delimited.{opened, is_raw}
use Rattle.kq_read_tokens.specs.Forms.{is_word, is_form, is_literal_word, opens}
use Rattle.kq_read_tokens.specs.Reading.{IsLongest, IsToken, IsTokenOrNone}
use Rattle.kq_read_tokens.specs.Scanning.{begins, spelled_at, raw_len, literal_word_of, literal_len, opening_word, spelled_or_word, is_joint, literal_or_word, word_at}
use Rattle.kq_read_tokens.proofs.TestLemmas.{both_true, and_true, false_true, equal_of, text_len, begins_within}
use Rattle.kq_read_tokens.proofs.TableLemmas.{In, all_in, any_in, in_any, find_in}
use Rattle.kq_read_tokens.proofs.RunLemmas.{prefix_yes, prefix_no, drop_take}
use Rattle.kq_read_tokens.proofs.SpelledLemmas.{letter, kind_family, is_spelled, in_spelled, spelled_begins, spelled_token, none_spelled, entry_some, spelled_form}
use Rattle.kq_read_tokens.proofs.LeadLemmas.{letter_family, first_of, refused}
use Rattle.kq_read_tokens.proofs.StringLemmas.{begins_take, take_begins}
use Rattle.kq_read_tokens.proofs.OpeningLemmas.{opened_take, take_opened, opens_starts, begins_opening, raw_only, raw_form}

not_false : {A : Type 0} → false ≡ true → A
not_false h = absurd (cc)

-- ---- runs

run_all_at : (class : ℕ → Bool) (b : ℕ) (bs : List ℕ) (t : Bool) → class b ≡ t → list_all class (take (prefix_len class bs) bs) ≡ true → list_all class (take (prefix_len class (b ∷ bs)) (b ∷ bs)) ≡ true
run_all_at class b bs true e h = subst (λ n. list_all class (take n (b ∷ bs)) ≡ true) (sym (prefix_yes class b bs e)) (and_true (class b) (list_all class (take (prefix_len class bs) bs)) e h)
run_all_at class b bs false e h = subst (λ n. list_all class (take n (b ∷ bs)) ≡ true) (sym (prefix_no class b bs e)) refl

run_all : (class : ℕ → Bool) (bs : List ℕ) → list_all class (take (prefix_len class bs) bs) ≡ true
run_all class [] = refl
run_all class (b ∷ bs) = run_all_at class b bs (class b) refl (run_all class bs)

run_max : (class : ℕ → Bool) (bs : List ℕ) (m : ℕ) → m ≤ length bs → list_all class (take m bs) ≡ true → m ≤ prefix_len class bs
run_max class bs zero le h = omega arith
run_max class [] (suc m) le h = absurd (omega arith)
run_max class (b ∷ bs) (suc m) le h =
    let p = both_true (class b) (list_all class (take m bs)) h in
    let n = prefix_yes class b bs p.0 in
    omega (arith, run_max class bs m (omega arith) p.1)

-- a text that begins the bytes, and goes on behind its run, ends their run too
record Stops (class : ℕ → Bool) (text bytes : List ℕ) : Type 0 where
  same : prefix_len class bytes ≡ prefix_len class text
  joint : (p : ℕ → Bool) → starts p (drop (prefix_len class text) text) ≡ true → starts p (drop (prefix_len class bytes) bytes) ≡ true

stops_first : (class : ℕ → Bool) (c b : ℕ) (text bytes : List ℕ) (t : Bool) → c ≡ b → class c ≡ t → prefix_len class (c ∷ text) < length (c ∷ text) → (prefix_len class text < length text → Stops class text bytes) → Stops class (c ∷ text) (b ∷ bytes)
stops_first class c b text bytes true e h lt rest =
    let nc = prefix_yes class c text h in
    let nb = prefix_yes class b bytes (subst (λ x. class x ≡ true) e h) in
    let r = rest (omega arith) in
    record {
      same = nb ∙ ap suc r.same ∙ sym nc;
      joint = λ p j. subst (λ k. starts p (drop k (b ∷ bytes)) ≡ true) (sym nb) (r.joint p (subst (λ k. starts p (drop k (c ∷ text)) ≡ true) nc j));
    }
stops_first class c b text bytes false e h lt rest =
    let nc = prefix_no class c text h in
    let nb = prefix_no class b bytes (subst (λ x. class x ≡ false) e h) in
    record {
      same = nb ∙ sym nc;
      joint = λ p j. subst (λ k. starts p (drop k (b ∷ bytes)) ≡ true) (sym nb) (subst (λ x. p x ≡ true) e (subst (λ k. starts p (drop k (c ∷ text)) ≡ true) nc j));
    }

stops : (class : ℕ → Bool) (text bytes : List ℕ) → begins_with text bytes ≡ true → prefix_len class text < length text → Stops class text bytes
stops class [] bytes h lt = absurd (omega arith)
stops class (c ∷ text) [] h lt = not_false h
stops class (c ∷ text) (b ∷ bytes) h lt =
    let p = both_true (c == b) (begins_with text bytes) h in
    stops_first class c b text bytes (class c) (equal_of c b p.0) refl lt (λ l. stops class text bytes p.1 l)

no_start : (class : ℕ → Bool) (bytes : List ℕ) → starts class bytes ≡ false → prefix_len class bytes ≡ 0
no_start class [] h = refl
no_start class (b ∷ bs) h = prefix_no class b bs h

-- a text of the class that begins the bytes, and that no byte of the class follows, is their run
prefix_is : (class : ℕ → Bool) (text bytes : List ℕ) → begins_with text bytes ≡ true → list_all class text ≡ true → starts class (drop (length text) bytes) ≡ false → prefix_len class bytes ≡ length text
prefix_is class [] bytes h all follows = no_start class bytes follows
prefix_is class (c ∷ text) [] h all follows = not_false h
prefix_is class (c ∷ text) (b ∷ bytes) h all follows =
    let p = both_true (c == b) (begins_with text bytes) h in
    let q = both_true (class c) (list_all class text) all in
    prefix_yes class b bytes (subst (λ x. class x ≡ true) (equal_of c b p.0) q.0) ∙ ap suc (prefix_is class text bytes p.1 q.1 follows)

-- ---- words

word_max : (b : ℕ) (bs : List ℕ) (m : ℕ) → m ≤ length (b ∷ bs) → is_word (take m (b ∷ bs)) ≡ true → m ≤ prefix_len is_word_byte (b ∷ bs)
word_max b bs zero le h = omega arith
word_max b bs (suc m) le h =
    let p = both_true (is_letter b) (list_all is_word_byte (take m bs)) h in
    run_max is_word_byte (b ∷ bs) (suc m) le (and_true (is_word_byte b) (list_all is_word_byte (take m bs)) (letter_is_word b p.0) p.1) where
      letter_is_word : (b : ℕ) → is_letter b ≡ true → is_word_byte b ≡ true
      letter_is_word b h = rw h refl

letter_in_word : (b : ℕ) → is_letter b ≡ true → is_word_byte b ≡ true
letter_in_word b h = rw h refl

word_form : (b : ℕ) (bs : List ℕ) → is_letter b ≡ true → is_word (take (prefix_len is_word_byte (b ∷ bs)) (b ∷ bs)) ≡ true
word_form b bs h = subst (λ n. is_word (take n (b ∷ bs)) ≡ true) (sym (prefix_yes is_word_byte b bs (letter_in_word b h))) (and_true (is_letter b) (list_all is_word_byte (take (prefix_len is_word_byte bs) bs)) h (run_all is_word_byte bs))

-- ---- spelled tokens that begin with a letter

abbrev goes_on : TokenKind → Bool
goes_on k = not (starts is_letter (spelling k)) || (nat_lt (prefix_len is_word_byte (spelling k)) (length (spelling k)) && starts is_joint (drop (prefix_len is_word_byte (spelling k)) (spelling k)))

all_go_on : list_all goes_on SPELLED ≡ true
all_go_on = refl

starts_same : (class : ℕ → Bool) (text : List ℕ) (b : ℕ) (bs : List ℕ) → 0 < length text → begins_with text (b ∷ bs) ≡ true → class b ≡ true → starts class text ≡ true
starts_same class [] b bs some h k = absurd (omega arith)
starts_same class (c ∷ text) b bs some h k = subst (λ x. class x ≡ true) (sym (equal_of c b (both_true (c == b) (begins_with text bs) h).0)) k

or_of_not : (a b : Bool) → (not a || b) ≡ true → a ≡ true → b ≡ true
or_of_not true b h e = h
or_of_not false b h e = not_false e

below_of : (m n : ℕ) → nat_lt m n ≡ true → m < n
below_of m n h = grind (arith, nat_tests)

spelled_joint : (b : ℕ) (bs : List ℕ) → is_letter b ≡ true → (k : TokenKind) (m : ℕ) → is_spelled k ≡ true → m ≤ length (b ∷ bs) → is_form k (take m (b ∷ bs)) ≡ true
    → (prefix_len is_word_byte (b ∷ bs) < m) × (starts is_joint (drop (prefix_len is_word_byte (b ∷ bs)) (b ∷ bs)) ≡ true)
spelled_joint b bs h k m s within form =
    let here = spelled_begins k (b ∷ bs) m s within form in
    let entry = entry_some k (in_spelled k s) in
    let on = or_of_not (starts is_letter (spelling k)) (nat_lt (prefix_len is_word_byte (spelling k)) (length (spelling k)) && starts is_joint (drop (prefix_len is_word_byte (spelling k)) (spelling k))) (all_in goes_on SPELLED k all_go_on (in_spelled k s)) (starts_same is_letter (spelling k) b bs entry.1 here.0 h) in
    let p = both_true (nat_lt (prefix_len is_word_byte (spelling k)) (length (spelling k))) (starts is_joint (drop (prefix_len is_word_byte (spelling k)) (spelling k))) on in
    let below = below_of (prefix_len is_word_byte (spelling k)) (length (spelling k)) p.0 in
    let st = stops is_word_byte (spelling k) (b ∷ bs) here.0 below in
    (omega (arith, st.same, here.1), st.joint is_joint p.1)

joint_or_opening : (bytes : List ℕ) → starts is_joint bytes ≡ true → opens bytes ≡ true → ⊥
joint_or_opening [] j o = not_false j
joint_or_opening (c ∷ cs) j o = never c j (opens_starts (c ∷ cs) o) where
  never : (c : ℕ) → is_joint c ≡ true → begins_opening c ≡ true → ⊥
  never c j o = grind (arith, nat_tests)

-- ---- typed literals

pub literal_of_spelling : (w : LiteralWord) → literal_word_of (literal_word_spelling w) ≡ Some w
unfolding literal_word_of
literal_of_spelling literal.Long = refl
literal_of_spelling literal.Int64 = refl
literal_of_spelling literal.Bool = refl
literal_of_spelling literal.Boolean = refl
literal_of_spelling literal.Datetime = refl
literal_of_spelling literal.Date = refl
literal_of_spelling literal.Timespan = refl
literal_of_spelling literal.Time = refl
literal_of_spelling literal.Dynamic = refl
literal_of_spelling literal.Int = refl
literal_of_spelling literal.Real = refl
literal_of_spelling literal.Double = refl
literal_of_spelling literal.Decimal = refl
literal_of_spelling literal.Guid = refl

text_is : (text bytes : List ℕ) → is_text text bytes ≡ true → text ≡ bytes
text_is [] [] h = refl
text_is [] (b ∷ bs) h = not_false h
text_is (c ∷ text) [] h = not_false h
text_is (c ∷ text) (b ∷ bs) h =
    let p = both_true (c == b) (is_text text bs) h in
    ap (λ x. x ∷ text) (equal_of c b p.0) ∙ ap (λ l. b ∷ l) (text_is text bs p.1)

literal_at : (w : LiteralWord) (bytes : List ℕ) → is_text (literal_word_spelling w) bytes ≡ true → literal_word_of bytes ≡ Some w
literal_at w bytes h = ap literal_word_of (sym (text_is (literal_word_spelling w) bytes h)) ∙ literal_of_spelling w

literal_spells : (w : LiteralWord) (bytes : List ℕ) → literal_word_of bytes ≡ Some w → In w LITERAL_WORDS × (is_text (literal_word_spelling w) bytes ≡ true)
unfolding literal_word_of
literal_spells w bytes h = find_in (λ word. is_text (literal_word_spelling word) bytes) LITERAL_WORDS w h

is_literal : (w : LiteralWord) (bytes : List ℕ) → literal_word_of bytes ≡ Some w → is_literal_word bytes ≡ true
is_literal w bytes h = let s = literal_spells w bytes h in in_any (λ word. is_text (literal_word_spelling word) bytes) LITERAL_WORDS w s.0 s.1

false_of : (b : Bool) → (b ≡ true → ⊥) → b ≡ false
false_of true h = absurd (h refl)
false_of false h = refl

no_literal : (bytes : List ℕ) → literal_word_of bytes ≡ None → is_literal_word bytes ≡ false
no_literal bytes h = false_of (is_literal_word bytes) (λ some.
    let found = any_in (λ word. is_text (literal_word_spelling word) bytes) LITERAL_WORDS some in
    let no_way : None ≡ Some found.0 = sym h ∙ literal_at found.0 bytes found.2 in
    cc)

all_word_bytes : (w : LiteralWord) → list_all is_word_byte (literal_word_spelling w) ≡ true
all_word_bytes literal.Long = refl
all_word_bytes literal.Int64 = refl
all_word_bytes literal.Bool = refl
all_word_bytes literal.Boolean = refl
all_word_bytes literal.Datetime = refl
all_word_bytes literal.Date = refl
all_word_bytes literal.Timespan = refl
all_word_bytes literal.Time = refl
all_word_bytes literal.Dynamic = refl
all_word_bytes literal.Int = refl
all_word_bytes literal.Real = refl
all_word_bytes literal.Double = refl
all_word_bytes literal.Decimal = refl
all_word_bytes literal.Guid = refl

no_word_opens : (bytes : List ℕ) → opens bytes ≡ true → starts is_word_byte bytes ≡ false
no_word_opens [] o = refl
no_word_opens (c ∷ cs) o = no_word c (opens_starts (c ∷ cs) o) where
  no_word : (c : ℕ) → begins_opening c ≡ true → is_word_byte c ≡ false
  no_word c o = grind (arith, nat_tests)

-- a typed literal whose word has n bytes, of m bytes in all
record TypedAt (w : LiteralWord) (n : ℕ) (bytes : List ℕ) (m : ℕ) : Type 0 where
  word : is_text (literal_word_spelling w) (take n bytes) ≡ true
  opens : opens (drop n bytes) ≡ true
  more : n + (1 + prefix_len is_space (drop n bytes)) ≤ m
  raw : raw_len w (drop (1 + prefix_len is_space (drop n bytes)) (drop n bytes)) ≡ Some (m - n - (1 + prefix_len is_space (drop n bytes)))

typed_found : (w : LiteralWord) (bytes : List ℕ) (m : ℕ) → m ≤ length bytes → is_form (kind.TypedLiteral w) (take m bytes) ≡ true → TypedAt w (prefix_len is_word_byte bytes) bytes m
typed_found w bytes m within form =
    let text = literal_word_spelling w in
    let l = length (literal_word_spelling w) in
    let p = both_true (begins_with (literal_word_spelling w) (take m bytes)) (opened (is_raw w) (drop l (take m bytes))) form in
    let begun = begins_take (literal_word_spelling w) bytes m p.0 in
    let o = opened_take (is_raw w) (drop l bytes) (m - l) (subst (λ u. opened (is_raw w) u ≡ true) (drop_take bytes l m begun.0) p.1) in
    let n = prefix_is is_word_byte (literal_word_spelling w) bytes begun.1 (all_word_bytes w) (no_word_opens (drop l bytes) o.opens) in
    let s = 1 + prefix_len is_space (drop l bytes) in
    let fits : m - l - s ≤ length (drop s (drop l bytes)) = omega (arith, length-drop s (drop l bytes), length-drop l bytes, o.more, begun.0) in
    subst (λ i. TypedAt w i bytes m) (sym n) (record {
      word = begun.1;
      opens = o.opens;
      more = omega (arith, o.more, begun.0);
      raw = raw_only w (drop s (drop l bytes)) (m - l - s) fits o.met;
    })

typed_opening : (w : LiteralWord) (bytes : List ℕ) (n m : ℕ) → TypedAt w n bytes m → opening_word (take n bytes) (drop n bytes) ≡ Some w
typed_opening w bytes n m t = if_opens (opens (drop n bytes)) (literal_word_of (take n bytes)) (Some w) t.opens (literal_at w (take n bytes) t.word) where
  if_opens : (b : Bool) (x y : Option LiteralWord) → b ≡ true → x ≡ y → (if b then x else None) ≡ y
  if_opens true x y h e = e
  if_opens false x y h e = not_false h

-- ---- kinds that begin with a letter

data LetterKind (k : TokenKind) : Type 0 where
  a_word : k ≡ kind.Word → LetterKind k
  a_literal : (w : LiteralWord) → k ≡ kind.TypedLiteral w → LetterKind k
  a_spelled : is_spelled k ≡ true → LetterKind k

letter_kinds : (k : TokenKind) → kind_family k ≡ letter → LetterKind k
letter_kinds kind.Word e = a_word refl
letter_kinds kind.WholeNumber e = absurd (cc)
letter_kinds kind.Real e = absurd (cc)
letter_kinds kind.Timespan e = absurd (cc)
letter_kinds (kind.TypedLiteral w) e = a_literal w refl
letter_kinds kind.String e = absurd (cc)
letter_kinds kind.VerbatimString e = absurd (cc)
letter_kinds kind.LongString e = absurd (cc)
letter_kinds (kind.DashedWord x) e = a_spelled refl
letter_kinds (kind.Side x) e = a_spelled refl
letter_kinds (kind.WordOperator x) e = a_spelled refl
letter_kinds (kind.Punctuation x) e = a_spelled refl
letter_kinds (kind.Operator x) e = a_spelled refl

letter_kind : (b : ℕ) (bs : List ℕ) → is_letter b ≡ true → (k : TokenKind) (m : ℕ) → 0 < m → is_form k (take m (b ∷ bs)) ≡ true → LetterKind k
letter_kind b bs h k m some form = letter_kinds k (sym (first_of k b bs m some form) ∙ letter_family b h)

form_of : (k j : TokenKind) (u : List ℕ) → k ≡ j → is_form k u ≡ true → is_form j u ≡ true
form_of k j u e h = subst (λ i. is_form i u ≡ true) e h

-- the word is the longest, if no spelled token and no literal stands there
word_only : (b : ℕ) (bs : List ℕ) → ((k : TokenKind) (m : ℕ) → is_spelled k ≡ true → m ≤ length (b ∷ bs) → is_form k (take m (b ∷ bs)) ≡ true → ⊥) → ((w : LiteralWord) (m : ℕ) → m ≤ length (b ∷ bs) → is_form (kind.TypedLiteral w) (take m (b ∷ bs)) ≡ true → ⊥)
    → (k : TokenKind) (m : ℕ) → prefix_len is_word_byte (b ∷ bs) ≤ m → m ≤ length (b ∷ bs) → is_form k (take m (b ∷ bs)) ≡ true → LetterKind k → (k ≡ kind.Word) × (m ≡ prefix_len is_word_byte (b ∷ bs))
word_only b bs no_spelled no_typed k m le within form (a_word e) = (e, omega (arith, word_max b bs m within (form_of k kind.Word (take m (b ∷ bs)) e form)))
word_only b bs no_spelled no_typed k m le within form (a_literal w e) = absurd (no_typed w m within (form_of k (kind.TypedLiteral w) (take m (b ∷ bs)) e form))
word_only b bs no_spelled no_typed k m le within form (a_spelled s) = absurd (no_spelled k m s within form)

word_longest : (b : ℕ) (bs : List ℕ) → is_letter b ≡ true → ((k : TokenKind) (m : ℕ) → is_spelled k ≡ true → m ≤ length (b ∷ bs) → is_form k (take m (b ∷ bs)) ≡ true → ⊥) → ((w : LiteralWord) (m : ℕ) → m ≤ length (b ∷ bs) → is_form (kind.TypedLiteral w) (take m (b ∷ bs)) ≡ true → ⊥)
    → IsLongest kind.Word (prefix_len is_word_byte (b ∷ bs)) (b ∷ bs)
word_longest b bs h no_spelled no_typed =
    let n = prefix_yes is_word_byte b bs (letter_in_word b h) in
    record {
      some = omega arith;
      within = prefix_len-le-length is_word_byte (b ∷ bs);
      form = word_form b bs h;
      only = λ k m le within form. word_only b bs no_spelled no_typed k m le within form (letter_kind b bs h k m (omega arith) form);
    }

-- ---- no literal opens

word_precedes : (word rest : List ℕ) (o : Bool) → opens rest ≡ o → (if o then literal_word_of word else None) ≡ None → not (o && is_literal_word word) ≡ true
word_precedes word rest true e h = ap not (no_literal word h)
word_precedes word rest false e h = refl

no_typed_at : (bytes : List ℕ) → opening_word (take (prefix_len is_word_byte bytes) bytes) (drop (prefix_len is_word_byte bytes) bytes) ≡ None → (w : LiteralWord) (m : ℕ) → m ≤ length bytes → is_form (kind.TypedLiteral w) (take m bytes) ≡ true → ⊥
no_typed_at bytes e w m within form =
    let t = typed_found w bytes m within form in
    let no_way : None ≡ Some w = sym e ∙ typed_opening w bytes (prefix_len is_word_byte bytes) m t in
    cc

unspelled_longer : (b : ℕ) (bs : List ℕ) → is_letter b ≡ true → opening_word (take (prefix_len is_word_byte (b ∷ bs)) (b ∷ bs)) (drop (prefix_len is_word_byte (b ∷ bs)) (b ∷ bs)) ≡ None
    → (n : ℕ) → prefix_len is_word_byte (b ∷ bs) < n → (j : TokenKind) (m : ℕ) → n ≤ m → m ≤ length (b ∷ bs) → is_spelled j ≡ false → is_form j (take m (b ∷ bs)) ≡ true → LetterKind j → ⊥
unspelled_longer b bs h e n lt j m le within s form (a_word same) = omega (arith, word_max b bs m within (form_of j kind.Word (take m (b ∷ bs)) same form))
unspelled_longer b bs h e n lt j m le within s form (a_literal w same) = no_typed_at (b ∷ bs) e w m within (form_of j (kind.TypedLiteral w) (take m (b ∷ bs)) same form)
unspelled_longer b bs h e n lt j m le within s form (a_spelled t) = false_true (is_spelled j) s t

found_joint : (b : ℕ) (bs : List ℕ) → is_letter b ≡ true → (k : TokenKind) → spelled_at (b ∷ bs) ≡ Some k → prefix_len is_word_byte (b ∷ bs) < length (spelling k)
unfolding spelled_at
found_joint b bs h k e =
    let here = find_in (begins (b ∷ bs)) SPELLED k e in
    let entry = entry_some k here.0 in
    let form = begins_form k (b ∷ bs) entry.0 here.1 in
    (spelled_joint b bs h k (length (spelling k)) entry.0 (begins_within (spelling k) (b ∷ bs) here.1) form).0 where
      begins_form : (k : TokenKind) (bytes : List ℕ) → is_spelled k ≡ true → begins_with (spelling k) bytes ≡ true → is_form k (take (length (spelling k)) bytes) ≡ true
      begins_form k bytes s h = spelled_form k s (take (length (spelling k)) bytes) ∙ h

word_or_spelled : (b : ℕ) (bs : List ℕ) → is_letter b ≡ true → opening_word (take (prefix_len is_word_byte (b ∷ bs)) (b ∷ bs)) (drop (prefix_len is_word_byte (b ∷ bs)) (b ∷ bs)) ≡ None
    → (o : Option TokenKind) → spelled_at (b ∷ bs) ≡ o → IsTokenOrNone (Some (spelled_or_word o (prefix_len is_word_byte (b ∷ bs)))) (b ∷ bs)
word_or_spelled b bs h e None none = record {
  longest = word_longest b bs h (none_spelled (b ∷ bs) none) (no_typed_at (b ∷ bs) e);
  may_precede = word_precedes (take (prefix_len is_word_byte (b ∷ bs)) (b ∷ bs)) (drop (prefix_len is_word_byte (b ∷ bs)) (b ∷ bs)) (opens (drop (prefix_len is_word_byte (b ∷ bs)) (b ∷ bs))) refl e;
}
word_or_spelled b bs h e (Some k) found =
    let lt = found_joint b bs h k found in
    spelled_token (b ∷ bs) k found (λ j m le within s form. unspelled_longer b bs h e (length (spelling k)) lt j m le within s form (letter_kind b bs h j m (omega arith) form))

word_or_joined : (b : ℕ) (bs : List ℕ) → is_letter b ≡ true → opening_word (take (prefix_len is_word_byte (b ∷ bs)) (b ∷ bs)) (drop (prefix_len is_word_byte (b ∷ bs)) (b ∷ bs)) ≡ None
    → (t : Bool) → starts is_joint (drop (prefix_len is_word_byte (b ∷ bs)) (b ∷ bs)) ≡ t → IsTokenOrNone (Some (spelled_or_word (if t then spelled_at (b ∷ bs) else None) (prefix_len is_word_byte (b ∷ bs)))) (b ∷ bs)
word_or_joined b bs h e true j = word_or_spelled b bs h e (spelled_at (b ∷ bs)) refl
word_or_joined b bs h e false j = record {
  longest = word_longest b bs h (λ k m s within form. false_true (starts is_joint (drop (prefix_len is_word_byte (b ∷ bs)) (b ∷ bs))) j (spelled_joint b bs h k m s within form).1) (no_typed_at (b ∷ bs) e);
  may_precede = word_precedes (take (prefix_len is_word_byte (b ∷ bs)) (b ∷ bs)) (drop (prefix_len is_word_byte (b ∷ bs)) (b ∷ bs)) (opens (drop (prefix_len is_word_byte (b ∷ bs)) (b ∷ bs))) refl e;
}

-- ---- a literal opens

record Opening (w : LiteralWord) (word rest : List ℕ) : Type 0 where
  opens : opens rest ≡ true
  literal : literal_word_of word ≡ Some w

opening_is : (w : LiteralWord) (word rest : List ℕ) (t : Bool) → opens rest ≡ t → (if t then literal_word_of word else None) ≡ Some w → Opening w word rest
opening_is w word rest true e h = record { opens = e; literal = h }
opening_is w word rest false e h = absurd (cc h)

opened_no_spelled : (b : ℕ) (bs : List ℕ) → is_letter b ≡ true → opens (drop (prefix_len is_word_byte (b ∷ bs)) (b ∷ bs)) ≡ true → (k : TokenKind) (m : ℕ) → is_spelled k ≡ true → m ≤ length (b ∷ bs) → is_form k (take m (b ∷ bs)) ≡ true → ⊥
opened_no_spelled b bs h o k m s within form = joint_or_opening (drop (prefix_len is_word_byte (b ∷ bs)) (b ∷ bs)) (spelled_joint b bs h k m s within form).1 o

-- a literal that stands here is of this word, and its raw text is the one that is found
same_literal : (w j : LiteralWord) (bytes : List ℕ) (n m : ℕ) → literal_word_of (take n bytes) ≡ Some w → TypedAt j n bytes m → j ≡ w
same_literal w j bytes n m e t =
    let both : Some w ≡ Some j = sym e ∙ literal_at j (take n bytes) t.word in
    let same : w ≡ j = cc in
    sym same

open_literal : (b : ℕ) (bs : List ℕ) → is_letter b ≡ true → (w : LiteralWord) (n : ℕ) → n ≡ prefix_len is_word_byte (b ∷ bs) → Opening w (take n (b ∷ bs)) (drop n (b ∷ bs)) → raw_len w (drop (1 + prefix_len is_space (drop n (b ∷ bs))) (drop n (b ∷ bs))) ≡ None → (j : LiteralWord) (m : ℕ) → m ≤ length (b ∷ bs) → is_form (kind.TypedLiteral j) (take m (b ∷ bs)) ≡ true → ⊥
open_literal b bs h w n n_is o e j m within form =
    let t = subst (λ i. TypedAt j i (b ∷ bs) m) (sym n_is) (typed_found j (b ∷ bs) m within form) in
    let same = same_literal w j (b ∷ bs) n m o.literal t in
    let raw = subst (λ i. raw_len i (drop (1 + prefix_len is_space (drop n (b ∷ bs))) (drop n (b ∷ bs))) ≡ Some (m - n - (1 + prefix_len is_space (drop n (b ∷ bs))))) same t.raw in
    let no_way : None ≡ Some (m - n - (1 + prefix_len is_space (drop n (b ∷ bs)))) = sym e ∙ raw in
    cc

literal_only : (b : ℕ) (bs : List ℕ) → is_letter b ≡ true → (w : LiteralWord) (r : ℕ) → Opening w (take (prefix_len is_word_byte (b ∷ bs)) (b ∷ bs)) (drop (prefix_len is_word_byte (b ∷ bs)) (b ∷ bs))
    → raw_len w (drop (1 + prefix_len is_space (drop (prefix_len is_word_byte (b ∷ bs)) (b ∷ bs))) (drop (prefix_len is_word_byte (b ∷ bs)) (b ∷ bs))) ≡ Some r
    → (j : TokenKind) (m : ℕ) → prefix_len is_word_byte (b ∷ bs) + (prefix_len is_space (drop (prefix_len is_word_byte (b ∷ bs)) (b ∷ bs)) + (1 + r)) ≤ m → m ≤ length (b ∷ bs) → is_form j (take m (b ∷ bs)) ≡ true → LetterKind j
    → (j ≡ kind.TypedLiteral w) × (m ≡ prefix_len is_word_byte (b ∷ bs) + (prefix_len is_space (drop (prefix_len is_word_byte (b ∷ bs)) (b ∷ bs)) + (1 + r)))
literal_only b bs h w r o e j m le within form (a_word same) = absurd (omega (arith, word_max b bs m within (form_of j kind.Word (take m (b ∷ bs)) same form)))
literal_only b bs h w r o e j m le within form (a_spelled s) = absurd (opened_no_spelled b bs h o.opens j m s within form)
literal_only b bs h w r o e j m le within form (a_literal v same) =
    let n = prefix_len is_word_byte (b ∷ bs) in
    let s = 1 + prefix_len is_space (drop n (b ∷ bs)) in
    let t = typed_found v (b ∷ bs) m within (form_of j (kind.TypedLiteral v) (take m (b ∷ bs)) same form) in
    let same_word = same_literal w v (b ∷ bs) n m o.literal t in
    let raw = subst (λ i. raw_len i (drop s (drop n (b ∷ bs))) ≡ Some (m - n - s)) same_word t.raw in
    let both : Some r ≡ Some (m - n - s) = sym e ∙ raw in
    let r_is : r ≡ m - n - s = cc in
    (same ∙ ap (λ i. kind.TypedLiteral i) same_word, omega (arith, t.more))

literal_longest : (b : ℕ) (bs : List ℕ) → is_letter b ≡ true → (w : LiteralWord) (r : ℕ) → Opening w (take (prefix_len is_word_byte (b ∷ bs)) (b ∷ bs)) (drop (prefix_len is_word_byte (b ∷ bs)) (b ∷ bs))
    → raw_len w (drop (1 + prefix_len is_space (drop (prefix_len is_word_byte (b ∷ bs)) (b ∷ bs))) (drop (prefix_len is_word_byte (b ∷ bs)) (b ∷ bs))) ≡ Some r
    → IsToken (kind.TypedLiteral w) (prefix_len is_word_byte (b ∷ bs) + (prefix_len is_space (drop (prefix_len is_word_byte (b ∷ bs)) (b ∷ bs)) + (1 + r))) (b ∷ bs)
literal_longest b bs h w r o e =
    let n = prefix_len is_word_byte (b ∷ bs) in
    let rest = drop n (b ∷ bs) in
    let k = prefix_len is_space rest + (1 + r) in
    let found = raw_form w (drop (1 + prefix_len is_space rest) rest) r e in
    let spelled = (literal_spells w (take n (b ∷ bs)) o.literal).1 in
    let word_len = text_len (literal_word_spelling w) (b ∷ bs) n (prefix_len-le-length is_word_byte (b ∷ bs)) spelled in
    let begun : begins_with (literal_word_spelling w) (b ∷ bs) ≡ true = subst (λ i. is_text (literal_word_spelling w) (take i (b ∷ bs)) ≡ true) word_len spelled in
    let opens_raw = take_opened (is_raw w) rest r o.opens found.form in
    let at_n : opened (is_raw w) (drop n (take (n + k) (b ∷ bs))) ≡ true = subst (λ l. opened (is_raw w) l ≡ true) (ap (λ i. take i rest) (let count : k ≡ n + k - n = omega arith in count) ∙ sym (drop_take (b ∷ bs) n (n + k) (omega arith))) opens_raw in
    let some = prefix_yes is_word_byte b bs (letter_in_word b h) in
    record {
      longest = record {
        some = omega arith;
        within = omega (arith, found.within, length-drop (1 + prefix_len is_space rest) rest, length-drop n (b ∷ bs), opening_within rest o.opens, prefix_len-le-length is_word_byte (b ∷ bs));
        form = and_true (begins_with (literal_word_spelling w) (take (n + k) (b ∷ bs))) (opened (is_raw w) (drop (length (literal_word_spelling w)) (take (n + k) (b ∷ bs)))) (take_begins (literal_word_spelling w) (b ∷ bs) (n + k) (omega arith) begun) (subst (λ i. opened (is_raw w) (drop i (take (n + k) (b ∷ bs))) ≡ true) word_len at_n);
        only = λ j m le within form. literal_only b bs h w r o e j m le within form (letter_kind b bs h j m (omega arith) form);
      };
      may_precede = refl;
    } where
      opening_within : (rest : List ℕ) → opens rest ≡ true → 1 + prefix_len is_space rest ≤ length rest
      opening_within rest h = (opened_take (λ _. true) rest (length rest) (subst (λ l. opens l ≡ true) (sym (take_all rest)) h)).more where
        take_all : (xs : List ℕ) → take (length xs) xs ≡ xs
        take_all [] = refl
        take_all (x ∷ xs) = ap (λ l. x ∷ l) (take_all xs)

literal_right_at : (b : ℕ) (bs : List ℕ) → is_letter b ≡ true → (w : LiteralWord) → Opening w (take (prefix_len is_word_byte (b ∷ bs)) (b ∷ bs)) (drop (prefix_len is_word_byte (b ∷ bs)) (b ∷ bs)) → (o : Option ℕ)
    → raw_len w (drop (1 + prefix_len is_space (drop (prefix_len is_word_byte (b ∷ bs)) (b ∷ bs))) (drop (prefix_len is_word_byte (b ∷ bs)) (b ∷ bs))) ≡ o
    → IsTokenOrNone (option_map (λ m. (kind.TypedLiteral w, prefix_len is_word_byte (b ∷ bs) + m)) (option_map (λ r. prefix_len is_space (drop (prefix_len is_word_byte (b ∷ bs)) (b ∷ bs)) + (1 + r)) o)) (b ∷ bs)
literal_right_at b bs h w o None e =
    let n = prefix_len is_word_byte (b ∷ bs) in
    refused kind.Word n (b ∷ bs) (word_longest b bs h (opened_no_spelled b bs h o.opens) (open_literal b bs h w n refl o e))
    (ap not (and_true (opens (drop n (b ∷ bs))) (is_literal_word (take n (b ∷ bs))) o.opens (is_literal w (take n (b ∷ bs)) o.literal)))
literal_right_at b bs h w o (Some r) e = literal_longest b bs h w r o e

literal_right : (b : ℕ) (bs : List ℕ) → is_letter b ≡ true → (w : LiteralWord) → Opening w (take (prefix_len is_word_byte (b ∷ bs)) (b ∷ bs)) (drop (prefix_len is_word_byte (b ∷ bs)) (b ∷ bs))
    → IsTokenOrNone (option_map (λ m. (kind.TypedLiteral w, prefix_len is_word_byte (b ∷ bs) + m)) (literal_len w (drop (prefix_len is_word_byte (b ∷ bs)) (b ∷ bs)))) (b ∷ bs)
unfolding literal_len
literal_right b bs h w o = literal_right_at b bs h w o (raw_len w (drop (1 + prefix_len is_space (drop (prefix_len is_word_byte (b ∷ bs)) (b ∷ bs))) (drop (prefix_len is_word_byte (b ∷ bs)) (b ∷ bs)))) refl

-- ---- all

word_right_at : (b : ℕ) (bs : List ℕ) → is_letter b ≡ true → (o : Option LiteralWord) → opening_word (take (prefix_len is_word_byte (b ∷ bs)) (b ∷ bs)) (drop (prefix_len is_word_byte (b ∷ bs)) (b ∷ bs)) ≡ o → IsTokenOrNone (literal_or_word o (prefix_len is_word_byte (b ∷ bs)) (b ∷ bs)) (b ∷ bs)
word_right_at b bs h None e = word_or_joined b bs h e (starts is_joint (drop (prefix_len is_word_byte (b ∷ bs)) (b ∷ bs))) refl
word_right_at b bs h (Some w) e = literal_right b bs h w (opening_is w (take (prefix_len is_word_byte (b ∷ bs)) (b ∷ bs)) (drop (prefix_len is_word_byte (b ∷ bs)) (b ∷ bs)) (opens (drop (prefix_len is_word_byte (b ∷ bs)) (b ∷ bs))) refl e)

pub word_right : (b : ℕ) (bs : List ℕ) → is_letter b ≡ true → IsTokenOrNone (word_at (b ∷ bs)) (b ∷ bs)
unfolding word_at
word_right b bs h = word_right_at b bs h (opening_word (take (prefix_len is_word_byte (b ∷ bs)) (b ∷ bs)) (drop (prefix_len is_word_byte (b ∷ bs)) (b ∷ bs))) refl
