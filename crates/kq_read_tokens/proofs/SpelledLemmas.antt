-- The tokens of one spelling: where they stand in their table, and the longest of them.
use Rattle.std.proofs.Common.{◌≡◌, ℕ, ◌<◌, ◌≤◌, Bool, true, false, ◌&&◌, ◌==◌, nat_lt, if◌then◌else◌, List, [], ◌∷◌, ◌⊎◌, inl, inr, length, take, drop, Some, None, refl, sym, ◌∙◌, ap, arith, lit<}
use Rattle.std.proofs.lemmas.Bool.Decides.{nat_tests}
use Rattle.kq_read_tokens.specs.declared.kind.TokenKind.{TokenKind}
use Rattle.kq_read_tokens.specs.declared.kind.TokenKind.TheVariants as kind
use Rattle.kq_read_tokens.specs.declared.kind.DashedWord.TheVariants as dashed
use Rattle.kq_read_tokens.specs.declared.kind.Side.TheVariants as side
use Rattle.kq_read_tokens.specs.declared.kind.LiteralWord.{LiteralWord}
use Rattle.kq_read_tokens.specs.declared.kind.LiteralWord.TheVariants as literal
use Rattle.kq_read_tokens.specs.declared.kind.WordOperator.TheVariants as word
use Rattle.kq_read_tokens.specs.declared.kind.Punctuation.TheVariants as sign
use Rattle.kq_read_tokens.specs.declared.kind.Operator.TheVariants as operator
use Rattle.kq_read_tokens.specs.declared.spelling.TheConstants.{SPELLED}
use Rattle.kq_read_tokens.specs.Bytes.{is_letter, is_digit, is_text, begins_with}
use Rattle.kq_read_tokens.specs.Spellings.{spelling, literal_word_spelling}
use Rattle.kq_read_tokens.specs.Delimited.{is_quote}
use Rattle.kq_read_tokens.specs.Forms.{is_form, may_precede}
use Rattle.kq_read_tokens.specs.Reading.{IsToken}
use Rattle.kq_read_tokens.specs.Scanning.{begins, spelled_at}
use Rattle.kq_read_tokens.proofs.TestLemmas.{both_true, text_len, text_begins, begins_within}
use Rattle.kq_read_tokens.proofs.TableLemmas.{In, in_at, all_in, find_in, find_none, first_longest}

not_false : {A : Type 0} → false ≡ true → A
not_false h = absurd (cc)

not_true : {A : Type 0} → true ≡ false → A
not_true h = absurd (cc)

-- ---- families of kinds, by the first byte

pub data Family : Type 0 where
  letter : Family
  digit : Family
  quote : Family
  at_sign : Family
  tick : Family
  other : Family

abbrev pub family_of : ℕ → Family
family_of b =
    if is_letter b then letter
    else (if is_digit b then digit
    else (if is_quote b then quote
    else (if b == 64 then at_sign
    else (if b == 96 then tick
    else other))))

abbrev pub text_family : List ℕ → Family
text_family [] = other
text_family (b ∷ bs) = family_of b

abbrev pub kind_family : TokenKind → Family
kind_family kind.Word = letter
kind_family kind.WholeNumber = digit
kind_family kind.Real = digit
kind_family kind.Timespan = digit
kind_family (kind.TypedLiteral w) = letter
kind_family kind.String = quote
kind_family kind.VerbatimString = at_sign
kind_family kind.LongString = tick
kind_family k = text_family (spelling k)

abbrev pub is_spelled : TokenKind → Bool
is_spelled (kind.DashedWord w) = true
is_spelled (kind.Side s) = true
is_spelled (kind.WordOperator o) = true
is_spelled (kind.Punctuation p) = true
is_spelled (kind.Operator o) = true
is_spelled _ = false

pub spelled_family : (k : TokenKind) → is_spelled k ≡ true → (kind_family k ≡ letter) ⊎ (kind_family k ≡ other)
spelled_family (kind.DashedWord dashed.ProjectAway) h = inl refl
spelled_family (kind.DashedWord dashed.ProjectRename) h = inl refl
spelled_family (kind.DashedWord dashed.MvExpand) h = inl refl
spelled_family (kind.DashedWord dashed.MaterializedView) h = inl refl
spelled_family (kind.DashedWord dashed.AlterMerge) h = inl refl
spelled_family (kind.Side side.Left) h = inr refl
spelled_family (kind.Side side.Right) h = inr refl
spelled_family (kind.WordOperator word.NotHasCs) h = inr refl
spelled_family (kind.WordOperator word.NotHas) h = inr refl
spelled_family (kind.WordOperator word.NotContainsCs) h = inr refl
spelled_family (kind.WordOperator word.NotContains) h = inr refl
spelled_family (kind.WordOperator word.NotStartsWithCs) h = inr refl
spelled_family (kind.WordOperator word.NotStartsWith) h = inr refl
spelled_family (kind.WordOperator word.NotEndsWithCs) h = inr refl
spelled_family (kind.WordOperator word.NotEndsWith) h = inr refl
spelled_family (kind.WordOperator word.NotInTilde) h = inr refl
spelled_family (kind.WordOperator word.NotIn) h = inr refl
spelled_family (kind.WordOperator word.NotBetween) h = inr refl
spelled_family (kind.WordOperator word.InTilde) h = inl refl
spelled_family (kind.Punctuation sign.Pipe) h = inr refl
spelled_family (kind.Punctuation sign.OpenParenthesis) h = inr refl
spelled_family (kind.Punctuation sign.CloseParenthesis) h = inr refl
spelled_family (kind.Punctuation sign.OpenBracket) h = inr refl
spelled_family (kind.Punctuation sign.CloseBracket) h = inr refl
spelled_family (kind.Punctuation sign.OpenBrace) h = inr refl
spelled_family (kind.Punctuation sign.CloseBrace) h = inr refl
spelled_family (kind.Punctuation sign.Comma) h = inr refl
spelled_family (kind.Punctuation sign.Semicolon) h = inr refl
spelled_family (kind.Punctuation sign.Colon) h = inr refl
spelled_family (kind.Punctuation sign.DotDot) h = inr refl
spelled_family (kind.Punctuation sign.Dot) h = inr refl
spelled_family (kind.Punctuation sign.BodyMark) h = inr refl
spelled_family (kind.Punctuation sign.Hash) h = inr refl
spelled_family (kind.Operator operator.Equal) h = inr refl
spelled_family (kind.Operator operator.EqualTilde) h = inr refl
spelled_family (kind.Operator operator.Assign) h = inr refl
spelled_family (kind.Operator operator.NotEqual) h = inr refl
spelled_family (kind.Operator operator.NotEqualTilde) h = inr refl
spelled_family (kind.Operator operator.LessOrEqual) h = inr refl
spelled_family (kind.Operator operator.Less) h = inr refl
spelled_family (kind.Operator operator.GreaterOrEqual) h = inr refl
spelled_family (kind.Operator operator.Greater) h = inr refl
spelled_family (kind.Operator operator.Plus) h = inr refl
spelled_family (kind.Operator operator.Minus) h = inr refl
spelled_family (kind.Operator operator.Star) h = inr refl
spelled_family (kind.Operator operator.Slash) h = inr refl
spelled_family (kind.Operator operator.Percent) h = inr refl
spelled_family kind.Word h = not_false h
spelled_family kind.WholeNumber h = not_false h
spelled_family kind.Real h = not_false h
spelled_family kind.Timespan h = not_false h
spelled_family (kind.TypedLiteral w) h = not_false h
spelled_family kind.String h = not_false h
spelled_family kind.VerbatimString h = not_false h
spelled_family kind.LongString h = not_false h

pub in_spelled : (k : TokenKind) → is_spelled k ≡ true → In k SPELLED
in_spelled (kind.DashedWord dashed.ProjectAway) h = in_at SPELLED 0 (kind.DashedWord dashed.ProjectAway) (lit< tt) refl
in_spelled (kind.DashedWord dashed.ProjectRename) h = in_at SPELLED 1 (kind.DashedWord dashed.ProjectRename) (lit< tt) refl
in_spelled (kind.DashedWord dashed.MvExpand) h = in_at SPELLED 2 (kind.DashedWord dashed.MvExpand) (lit< tt) refl
in_spelled (kind.DashedWord dashed.MaterializedView) h = in_at SPELLED 3 (kind.DashedWord dashed.MaterializedView) (lit< tt) refl
in_spelled (kind.DashedWord dashed.AlterMerge) h = in_at SPELLED 4 (kind.DashedWord dashed.AlterMerge) (lit< tt) refl
in_spelled (kind.Side side.Left) h = in_at SPELLED 5 (kind.Side side.Left) (lit< tt) refl
in_spelled (kind.Side side.Right) h = in_at SPELLED 6 (kind.Side side.Right) (lit< tt) refl
in_spelled (kind.WordOperator word.NotHasCs) h = in_at SPELLED 7 (kind.WordOperator word.NotHasCs) (lit< tt) refl
in_spelled (kind.WordOperator word.NotHas) h = in_at SPELLED 8 (kind.WordOperator word.NotHas) (lit< tt) refl
in_spelled (kind.WordOperator word.NotContainsCs) h = in_at SPELLED 9 (kind.WordOperator word.NotContainsCs) (lit< tt) refl
in_spelled (kind.WordOperator word.NotContains) h = in_at SPELLED 10 (kind.WordOperator word.NotContains) (lit< tt) refl
in_spelled (kind.WordOperator word.NotStartsWithCs) h = in_at SPELLED 11 (kind.WordOperator word.NotStartsWithCs) (lit< tt) refl
in_spelled (kind.WordOperator word.NotStartsWith) h = in_at SPELLED 12 (kind.WordOperator word.NotStartsWith) (lit< tt) refl
in_spelled (kind.WordOperator word.NotEndsWithCs) h = in_at SPELLED 13 (kind.WordOperator word.NotEndsWithCs) (lit< tt) refl
in_spelled (kind.WordOperator word.NotEndsWith) h = in_at SPELLED 14 (kind.WordOperator word.NotEndsWith) (lit< tt) refl
in_spelled (kind.WordOperator word.NotInTilde) h = in_at SPELLED 15 (kind.WordOperator word.NotInTilde) (lit< tt) refl
in_spelled (kind.WordOperator word.NotIn) h = in_at SPELLED 16 (kind.WordOperator word.NotIn) (lit< tt) refl
in_spelled (kind.WordOperator word.NotBetween) h = in_at SPELLED 17 (kind.WordOperator word.NotBetween) (lit< tt) refl
in_spelled (kind.WordOperator word.InTilde) h = in_at SPELLED 18 (kind.WordOperator word.InTilde) (lit< tt) refl
in_spelled (kind.Punctuation sign.Pipe) h = in_at SPELLED 19 (kind.Punctuation sign.Pipe) (lit< tt) refl
in_spelled (kind.Punctuation sign.OpenParenthesis) h = in_at SPELLED 20 (kind.Punctuation sign.OpenParenthesis) (lit< tt) refl
in_spelled (kind.Punctuation sign.CloseParenthesis) h = in_at SPELLED 21 (kind.Punctuation sign.CloseParenthesis) (lit< tt) refl
in_spelled (kind.Punctuation sign.OpenBracket) h = in_at SPELLED 22 (kind.Punctuation sign.OpenBracket) (lit< tt) refl
in_spelled (kind.Punctuation sign.CloseBracket) h = in_at SPELLED 23 (kind.Punctuation sign.CloseBracket) (lit< tt) refl
in_spelled (kind.Punctuation sign.OpenBrace) h = in_at SPELLED 24 (kind.Punctuation sign.OpenBrace) (lit< tt) refl
in_spelled (kind.Punctuation sign.CloseBrace) h = in_at SPELLED 25 (kind.Punctuation sign.CloseBrace) (lit< tt) refl
in_spelled (kind.Punctuation sign.Comma) h = in_at SPELLED 26 (kind.Punctuation sign.Comma) (lit< tt) refl
in_spelled (kind.Punctuation sign.Semicolon) h = in_at SPELLED 27 (kind.Punctuation sign.Semicolon) (lit< tt) refl
in_spelled (kind.Punctuation sign.Colon) h = in_at SPELLED 28 (kind.Punctuation sign.Colon) (lit< tt) refl
in_spelled (kind.Punctuation sign.DotDot) h = in_at SPELLED 29 (kind.Punctuation sign.DotDot) (lit< tt) refl
in_spelled (kind.Punctuation sign.Dot) h = in_at SPELLED 30 (kind.Punctuation sign.Dot) (lit< tt) refl
in_spelled (kind.Punctuation sign.BodyMark) h = in_at SPELLED 31 (kind.Punctuation sign.BodyMark) (lit< tt) refl
in_spelled (kind.Punctuation sign.Hash) h = in_at SPELLED 32 (kind.Punctuation sign.Hash) (lit< tt) refl
in_spelled (kind.Operator operator.Equal) h = in_at SPELLED 33 (kind.Operator operator.Equal) (lit< tt) refl
in_spelled (kind.Operator operator.EqualTilde) h = in_at SPELLED 34 (kind.Operator operator.EqualTilde) (lit< tt) refl
in_spelled (kind.Operator operator.Assign) h = in_at SPELLED 35 (kind.Operator operator.Assign) (lit< tt) refl
in_spelled (kind.Operator operator.NotEqual) h = in_at SPELLED 36 (kind.Operator operator.NotEqual) (lit< tt) refl
in_spelled (kind.Operator operator.NotEqualTilde) h = in_at SPELLED 37 (kind.Operator operator.NotEqualTilde) (lit< tt) refl
in_spelled (kind.Operator operator.LessOrEqual) h = in_at SPELLED 38 (kind.Operator operator.LessOrEqual) (lit< tt) refl
in_spelled (kind.Operator operator.Less) h = in_at SPELLED 39 (kind.Operator operator.Less) (lit< tt) refl
in_spelled (kind.Operator operator.GreaterOrEqual) h = in_at SPELLED 40 (kind.Operator operator.GreaterOrEqual) (lit< tt) refl
in_spelled (kind.Operator operator.Greater) h = in_at SPELLED 41 (kind.Operator operator.Greater) (lit< tt) refl
in_spelled (kind.Operator operator.Plus) h = in_at SPELLED 42 (kind.Operator operator.Plus) (lit< tt) refl
in_spelled (kind.Operator operator.Minus) h = in_at SPELLED 43 (kind.Operator operator.Minus) (lit< tt) refl
in_spelled (kind.Operator operator.Star) h = in_at SPELLED 44 (kind.Operator operator.Star) (lit< tt) refl
in_spelled (kind.Operator operator.Slash) h = in_at SPELLED 45 (kind.Operator operator.Slash) (lit< tt) refl
in_spelled (kind.Operator operator.Percent) h = in_at SPELLED 46 (kind.Operator operator.Percent) (lit< tt) refl
in_spelled kind.Word h = not_false h
in_spelled kind.WholeNumber h = not_false h
in_spelled kind.Real h = not_false h
in_spelled kind.Timespan h = not_false h
in_spelled (kind.TypedLiteral w) h = not_false h
in_spelled kind.String h = not_false h
in_spelled kind.VerbatimString h = not_false h
in_spelled kind.LongString h = not_false h

pub literal_word_family : (w : LiteralWord) → text_family (literal_word_spelling w) ≡ letter
literal_word_family literal.Long = refl
literal_word_family literal.Int64 = refl
literal_word_family literal.Bool = refl
literal_word_family literal.Boolean = refl
literal_word_family literal.Datetime = refl
literal_word_family literal.Date = refl
literal_word_family literal.Timespan = refl
literal_word_family literal.Time = refl
literal_word_family literal.Dynamic = refl
literal_word_family literal.Int = refl
literal_word_family literal.Real = refl
literal_word_family literal.Double = refl
literal_word_family literal.Decimal = refl
literal_word_family literal.Guid = refl

pub spelled_form : (k : TokenKind) → is_spelled k ≡ true → (u : List ℕ) → is_form k u ≡ is_text (spelling k) u
spelled_form (kind.DashedWord x) h u = refl
spelled_form (kind.Side x) h u = refl
spelled_form (kind.WordOperator x) h u = refl
spelled_form (kind.Punctuation x) h u = refl
spelled_form (kind.Operator x) h u = refl
spelled_form kind.Word h u = not_false h
spelled_form kind.WholeNumber h u = not_false h
spelled_form kind.Real h u = not_false h
spelled_form kind.Timespan h u = not_false h
spelled_form (kind.TypedLiteral w) h u = not_false h
spelled_form kind.String h u = not_false h
spelled_form kind.VerbatimString h u = not_false h
spelled_form kind.LongString h u = not_false h

pub spelled_precedes : (k : TokenKind) → is_spelled k ≡ true → (bytes rest : List ℕ) → may_precede k bytes rest ≡ true
spelled_precedes (kind.DashedWord x) h bytes rest = refl
spelled_precedes (kind.Side x) h bytes rest = refl
spelled_precedes (kind.WordOperator x) h bytes rest = refl
spelled_precedes (kind.Punctuation x) h bytes rest = refl
spelled_precedes (kind.Operator x) h bytes rest = refl
spelled_precedes kind.Word h bytes rest = not_false h
spelled_precedes kind.WholeNumber h bytes rest = not_false h
spelled_precedes kind.Real h bytes rest = not_false h
spelled_precedes kind.Timespan h bytes rest = not_false h
spelled_precedes (kind.TypedLiteral w) h bytes rest = not_false h
spelled_precedes kind.String h bytes rest = not_false h
spelled_precedes kind.VerbatimString h bytes rest = not_false h
spelled_precedes kind.LongString h bytes rest = not_false h

pub spelled_lead : (k : TokenKind) → is_spelled k ≡ true → kind_family k ≡ text_family (spelling k)
spelled_lead (kind.DashedWord x) h = refl
spelled_lead (kind.Side x) h = refl
spelled_lead (kind.WordOperator x) h = refl
spelled_lead (kind.Punctuation x) h = refl
spelled_lead (kind.Operator x) h = refl
spelled_lead kind.Word h = not_false h
spelled_lead kind.WholeNumber h = not_false h
spelled_lead kind.Real h = not_false h
spelled_lead kind.Timespan h = not_false h
spelled_lead (kind.TypedLiteral w) h = not_false h
spelled_lead kind.String h = not_false h
spelled_lead kind.VerbatimString h = not_false h
spelled_lead kind.LongString h = not_false h

pub unspelled_lead : (k : TokenKind) → is_spelled k ≡ false → kind_family k ≡ other → ⊥
unspelled_lead (kind.DashedWord x) h e = not_true h
unspelled_lead (kind.Side x) h e = not_true h
unspelled_lead (kind.WordOperator x) h e = not_true h
unspelled_lead (kind.Punctuation x) h e = not_true h
unspelled_lead (kind.Operator x) h e = not_true h
unspelled_lead kind.Word h e = cc
unspelled_lead kind.WholeNumber h e = cc
unspelled_lead kind.Real h e = cc
unspelled_lead kind.Timespan h e = cc
unspelled_lead (kind.TypedLiteral w) h e = cc
unspelled_lead kind.String h e = cc
unspelled_lead kind.VerbatimString h e = cc
unspelled_lead kind.LongString h e = cc

-- ---- the table

abbrev is_entry : TokenKind → Bool
is_entry k = is_spelled k && nat_lt 0 (length (spelling k))

pub entry_some : (k : TokenKind) → In k SPELLED → (is_spelled k ≡ true) × (0 < length (spelling k))
entry_some k i =
    let parts = both_true (is_spelled k) (nat_lt 0 (length (spelling k))) (all_in is_entry SPELLED k refl i) in
    (parts.0, some_of (length (spelling k)) parts.1) where
      some_of : (n : ℕ) → nat_lt 0 n ≡ true → 0 < n
      some_of n h = grind (arith, nat_tests)

-- a form of a kind of one spelling begins the bytes with it
pub spelled_begins : (k : TokenKind) (bytes : List ℕ) (m : ℕ) → is_spelled k ≡ true → m ≤ length bytes → is_form k (take m bytes) ≡ true → (begins_with (spelling k) bytes ≡ true) × (m ≡ length (spelling k))
spelled_begins k bytes m h within form =
    let form' = sym (spelled_form k h (take m bytes)) ∙ form in
    (text_begins (spelling k) bytes m within form', text_len (spelling k) bytes m within form')

unspelled_or : (k : TokenKind) (s : Bool) → is_spelled k ≡ s → (is_spelled k ≡ true) ⊎ (is_spelled k ≡ false)
unspelled_or k true h = inl h
unspelled_or k false h = inr h

pub spelled_or_not : (k : TokenKind) → (is_spelled k ≡ true) ⊎ (is_spelled k ≡ false)
spelled_or_not k = unspelled_or k (is_spelled k) refl

-- the one that is found is the longest, if no token of many spellings is as long
pub spelled_token : (bytes : List ℕ) (k : TokenKind) → spelled_at bytes ≡ Some k → ((j : TokenKind) (m : ℕ) → length (spelling k) ≤ m → m ≤ length bytes → is_spelled j ≡ false → is_form j (take m bytes) ≡ true → ⊥) → IsToken k (length (spelling k)) bytes
unfolding spelled_at
spelled_token bytes k found none =
    let here = find_in (begins bytes) SPELLED k found in
    let entry = entry_some k here.0 in
    record {
      longest = record {
        some = entry.1;
        within = begins_within (spelling k) bytes here.1;
        form = spelled_form k entry.0 (take (length (spelling k)) bytes) ∙ here.1;
        only = λ j m le within form. elim (spelled_or_not j) [
          | inl s ↦
              let b = spelled_begins j bytes m s within form in
              let same = first_longest spelling bytes SPELLED k j refl found (in_spelled j s) b.0 (omega arith) in
              (same, b.1 ∙ ap (λ x. length (spelling x)) same)
          | inr s ↦ absurd (none j m le within s form)
        ];
      };
      may_precede = spelled_precedes k entry.0 (take (length (spelling k)) bytes) (drop (length (spelling k)) bytes);
    }

pub spelled_some : (k : TokenKind) (bytes : List ℕ) → spelled_at bytes ≡ Some k → 0 < length (spelling k)
unfolding spelled_at
spelled_some k bytes found = (entry_some k (find_in (begins bytes) SPELLED k found).0).1

-- where none is found, no token of one spelling stands
pub none_spelled : (bytes : List ℕ) → spelled_at bytes ≡ None → (k : TokenKind) (m : ℕ) → is_spelled k ≡ true → m ≤ length bytes → is_form k (take m bytes) ≡ true → ⊥
unfolding spelled_at
none_spelled bytes found k m h within form = find_none (begins bytes) SPELLED k found (in_spelled k h) (spelled_begins k bytes m h within form).0
