-- The string that is found is the longest token.
use Rattle.std.proofs.Common.{◌≡◌, ℕ, zero, suc, ◌<◌, ◌≤◌, ◌+◌, ◌-◌, Bool, true, false, ◌&&◌, not, ◌==◌, if◌then◌else◌, List, [], ◌∷◌, inl, inr, length, take, drop, Option, Some, None, refl, sym, ◌∙◌, ap, subst, arith, length-drop}
use Rattle.std.specs.Prelude.{codes}
use Rattle.std.specs.Option.{option_map}
use Rattle.kq_read_tokens.specs.declared.kind.TokenKind.{TokenKind}
use Rattle.kq_read_tokens.specs.declared.kind.TokenKind.TheVariants as kind
use Rattle.kq_read_tokens.specs.declared.delimited.Within.TheVariants.{Quoted, Ticked}
use Rattle.kq_read_tokens.specs.Bytes.{begins_with, starts}
use Rattle.kq_read_tokens.specs.Delimited.{is_quote, closes, step, is_verbatim, is_verbatim_quoted, is_verbatim_string}
use Rattle.kq_read_tokens.specs.Forms.{is_form}
use Rattle.kq_read_tokens.specs.Reading.{IsToken, NoToken, IsTokenOrNone}
use Rattle.kq_read_tokens.specs.Scanning.{closing_len, verbatim_len, string_at, verbatim_at, long_string_at}
use Rattle.kq_read_tokens.proofs.TestLemmas.{both_true, and_true, false_true, begins_within}
use Rattle.kq_read_tokens.proofs.RunLemmas.{drop_take}
use Rattle.kq_read_tokens.proofs.DelimitedLemmas.{closes_only, closes_form, verbatim_only, verbatim_form}
use Rattle.kq_read_tokens.proofs.SpelledLemmas.{Family, letter, quote, at_sign, tick, other, kind_family, spelled_family, is_spelled}
use Rattle.kq_read_tokens.proofs.LeadLemmas.{quote_family, at_family, tick_family, first_of}

not_false : {A : Type 0} → false ≡ true → A
not_false h = absurd (cc)

not_spelled : (k : TokenKind) (f : Family) → is_spelled k ≡ true → kind_family k ≡ f → (letter ≡ f → ⊥) → (other ≡ f → ⊥) → ⊥
not_spelled k f s e l o = elim (spelled_family k s) [ inl g ↦ l (sym g ∙ e) | inr g ↦ o (sym g ∙ e) ]

pub quote_kinds : (k : TokenKind) → kind_family k ≡ quote → k ≡ kind.String
quote_kinds kind.Word e = absurd (cc)
quote_kinds kind.WholeNumber e = absurd (cc)
quote_kinds kind.Real e = absurd (cc)
quote_kinds kind.Timespan e = absurd (cc)
quote_kinds (kind.TypedLiteral w) e = absurd (cc)
quote_kinds kind.String e = refl
quote_kinds kind.VerbatimString e = absurd (cc)
quote_kinds kind.LongString e = absurd (cc)
quote_kinds (kind.DashedWord x) e = absurd (not_spelled (kind.DashedWord x) quote refl e (λ h. cc) (λ h. cc))
quote_kinds (kind.Side x) e = absurd (not_spelled (kind.Side x) quote refl e (λ h. cc) (λ h. cc))
quote_kinds (kind.WordOperator x) e = absurd (not_spelled (kind.WordOperator x) quote refl e (λ h. cc) (λ h. cc))
quote_kinds (kind.Punctuation x) e = absurd (not_spelled (kind.Punctuation x) quote refl e (λ h. cc) (λ h. cc))
quote_kinds (kind.Operator x) e = absurd (not_spelled (kind.Operator x) quote refl e (λ h. cc) (λ h. cc))

pub at_kinds : (k : TokenKind) → kind_family k ≡ at_sign → k ≡ kind.VerbatimString
at_kinds kind.Word e = absurd (cc)
at_kinds kind.WholeNumber e = absurd (cc)
at_kinds kind.Real e = absurd (cc)
at_kinds kind.Timespan e = absurd (cc)
at_kinds (kind.TypedLiteral w) e = absurd (cc)
at_kinds kind.String e = absurd (cc)
at_kinds kind.VerbatimString e = refl
at_kinds kind.LongString e = absurd (cc)
at_kinds (kind.DashedWord x) e = absurd (not_spelled (kind.DashedWord x) at_sign refl e (λ h. cc) (λ h. cc))
at_kinds (kind.Side x) e = absurd (not_spelled (kind.Side x) at_sign refl e (λ h. cc) (λ h. cc))
at_kinds (kind.WordOperator x) e = absurd (not_spelled (kind.WordOperator x) at_sign refl e (λ h. cc) (λ h. cc))
at_kinds (kind.Punctuation x) e = absurd (not_spelled (kind.Punctuation x) at_sign refl e (λ h. cc) (λ h. cc))
at_kinds (kind.Operator x) e = absurd (not_spelled (kind.Operator x) at_sign refl e (λ h. cc) (λ h. cc))

pub tick_kinds : (k : TokenKind) → kind_family k ≡ tick → k ≡ kind.LongString
tick_kinds kind.Word e = absurd (cc)
tick_kinds kind.WholeNumber e = absurd (cc)
tick_kinds kind.Real e = absurd (cc)
tick_kinds kind.Timespan e = absurd (cc)
tick_kinds (kind.TypedLiteral w) e = absurd (cc)
tick_kinds kind.String e = absurd (cc)
tick_kinds kind.VerbatimString e = absurd (cc)
tick_kinds kind.LongString e = refl
tick_kinds (kind.DashedWord x) e = absurd (not_spelled (kind.DashedWord x) tick refl e (λ h. cc) (λ h. cc))
tick_kinds (kind.Side x) e = absurd (not_spelled (kind.Side x) tick refl e (λ h. cc) (λ h. cc))
tick_kinds (kind.WordOperator x) e = absurd (not_spelled (kind.WordOperator x) tick refl e (λ h. cc) (λ h. cc))
tick_kinds (kind.Punctuation x) e = absurd (not_spelled (kind.Punctuation x) tick refl e (λ h. cc) (λ h. cc))
tick_kinds (kind.Operator x) e = absurd (not_spelled (kind.Operator x) tick refl e (λ h. cc) (λ h. cc))

-- a token of m bytes is of the one kind, and what closes it was found behind so many bytes
pub record FoundBehind (the_kind : TokenKind) (front : ℕ) (len : Option ℕ) (k : TokenKind) (m : ℕ) : Type 0 where
  pub same : k ≡ the_kind
  pub rest : ℕ
  pub count : m ≡ rest + front
  pub found : len ≡ Some rest

found_none : (the_kind : TokenKind) (front : ℕ) (len : Option ℕ) (k : TokenKind) (m : ℕ) → len ≡ None → FoundBehind the_kind front len k m → ⊥
found_none the_kind front len k m e f = let no_way : None ≡ Some f.rest = sym e ∙ f.found in cc

found_same : (the_kind : TokenKind) (front : ℕ) (len : Option ℕ) (k : TokenKind) (m n : ℕ) → len ≡ Some n → FoundBehind the_kind front len k m → (k ≡ the_kind) × (m ≡ n + front)
found_same the_kind front len k m n e f =
    let both : Some n ≡ Some f.rest = sym e ∙ f.found in
    let same : n ≡ f.rest = cc in
    (f.same, omega (arith, f.count))

-- ---- strings in quotes

string_found : (b : ℕ) (bs : List ℕ) → is_quote b ≡ true → (k : TokenKind) (m : ℕ) → 0 < m → m ≤ length (b ∷ bs) → is_form k (take m (b ∷ bs)) ≡ true → FoundBehind kind.String 1 (closing_len step (Quoted b) bs) k m
string_found b bs h k zero some within form = absurd (omega arith)
string_found b bs h k (suc m) some within form =
    let same = quote_kinds k (sym (first_of k b bs (suc m) some form) ∙ quote_family b h) in
    let form' : (is_quote b && closes step (Quoted b) (take m bs)) ≡ true = subst (λ j. is_form j (b ∷ take m bs) ≡ true) same form in
    record { same = same; rest = m; count = omega arith; found = closes_only step (Quoted b) bs m (omega arith) (both_true (is_quote b) (closes step (Quoted b) (take m bs)) form').1 }

string_right_at : (b : ℕ) (bs : List ℕ) → is_quote b ≡ true → (o : Option ℕ) → closing_len step (Quoted b) bs ≡ o → IsTokenOrNone (option_map (λ n. (kind.String, n + 1)) o) (b ∷ bs)
string_right_at b bs h None e = λ k m t. found_none kind.String 1 (closing_len step (Quoted b) bs) k m e (string_found b bs h k m t.longest.some t.longest.within t.longest.form)
string_right_at b bs h (Some n) e =
    let c = closes_form step (Quoted b) bs n e in
    subst (λ i. IsToken kind.String i (b ∷ bs)) (let one_more : suc n ≡ n + 1 = omega arith in one_more) (record {
      longest = record {
        some = omega arith;
        within = omega (arith, c.within);
        form = and_true (is_quote b) (closes step (Quoted b) (take n bs)) h c.form;
        only = λ k m le within form.
            let found = found_same kind.String 1 (closing_len step (Quoted b) bs) k m n e (string_found b bs h k m (omega arith) within form) in
            (found.0, omega (arith, found.1));
      };
      may_precede = refl;
    })

pub string_right : (b : ℕ) (bs : List ℕ) → is_quote b ≡ true → IsTokenOrNone (string_at b bs) (b ∷ bs)
unfolding string_at
string_right b bs h = string_right_at b bs h (closing_len step (Quoted b) bs) refl

-- ---- long strings

pub begins_take : (text bytes : List ℕ) (m : ℕ) → begins_with text (take m bytes) ≡ true → (length text ≤ m) × (begins_with text bytes ≡ true)
begins_take [] bytes m h = (omega arith, refl)
begins_take (c ∷ text) bytes zero h = not_false h
begins_take (c ∷ text) [] (suc m) h = not_false h
begins_take (c ∷ text) (b ∷ bytes) (suc m) h =
    let p = both_true (c == b) (begins_with text (take m bytes)) h in
    let rest = begins_take text bytes m p.1 in
    (omega (arith, rest.0), and_true (c == b) (begins_with text bytes) p.0 rest.1)

pub take_begins : (text bytes : List ℕ) (m : ℕ) → length text ≤ m → begins_with text bytes ≡ true → begins_with text (take m bytes) ≡ true
take_begins [] bytes m le h = refl
take_begins (c ∷ text) bytes zero le h = absurd (omega arith)
take_begins (c ∷ text) [] (suc m) le h = not_false h
take_begins (c ∷ text) (b ∷ bytes) (suc m) le h =
    let p = both_true (c == b) (begins_with text bytes) h in
    and_true (c == b) (begins_with text (take m bytes)) p.0 (take_begins text bytes m (omega arith) p.1)

abbrev ticks : List ℕ
ticks = codes "```"

record TickedAt (bytes : List ℕ) (k : TokenKind) (m : ℕ) : Type 0 where
  begun : begins_with ticks bytes ≡ true
  found : FoundBehind kind.LongString 3 (closing_len step Ticked (drop 3 bytes)) k m

ticked_found : (b : ℕ) (bs : List ℕ) → (b == 96) ≡ true → (k : TokenKind) (m : ℕ) → 0 < m → m ≤ length (b ∷ bs) → is_form k (take m (b ∷ bs)) ≡ true → TickedAt (b ∷ bs) k m
ticked_found b bs h k m some within form =
    let bytes : List ℕ = b ∷ bs in
    let same = tick_kinds k (sym (first_of k b bs m some form) ∙ tick_family b h) in
    let form' : (begins_with ticks (take m (b ∷ bs)) && closes step Ticked (drop 3 (take m (b ∷ bs)))) ≡ true = subst (λ j. is_form j (take m (b ∷ bs)) ≡ true) same form in
    let p = both_true (begins_with ticks (take m (b ∷ bs))) (closes step Ticked (drop 3 (take m (b ∷ bs)))) form' in
    let begun = begins_take ticks (b ∷ bs) m p.0 in
    let three : 3 ≤ m = begun.0 in
    let closed : closes step Ticked (take (m - 3) (drop 3 (b ∷ bs))) ≡ true = subst (λ l. closes step Ticked l ≡ true) (drop_take (b ∷ bs) 3 m three) p.1 in
    let fits : m - 3 ≤ length (drop 3 (b ∷ bs)) = omega (arith, length-drop 3 (b ∷ bs)) in
    record { begun = begun.1; found = record { same = same; rest = m - 3; count = omega arith; found = closes_only step Ticked (drop 3 (b ∷ bs)) (m - 3) fits closed } }

long_right_at : (b : ℕ) (bs : List ℕ) → (b == 96) ≡ true → (t : Bool) → begins_with ticks (b ∷ bs) ≡ t → (o : Option ℕ) → closing_len step Ticked (drop 3 (b ∷ bs)) ≡ o → IsTokenOrNone (if t then option_map (λ n. (kind.LongString, n + 3)) o else None) (b ∷ bs)
long_right_at b bs h false begun o e = λ k m t. false_true (begins_with ticks (b ∷ bs)) begun (ticked_found b bs h k m t.longest.some t.longest.within t.longest.form).begun
long_right_at b bs h true begun None e = λ k m t. found_none kind.LongString 3 (closing_len step Ticked (drop 3 (b ∷ bs))) k m e (ticked_found b bs h k m t.longest.some t.longest.within t.longest.form).found
long_right_at b bs h true begun (Some n) e =
    let c = closes_form step Ticked (drop 3 (b ∷ bs)) n e in
    let three : 3 ≤ n + 3 = omega arith in
    let count : n ≡ n + 3 - 3 = omega arith in
    record {
      longest = record {
        some = omega arith;
        within = omega (arith, c.within, length-drop 3 (b ∷ bs), begins_within ticks (b ∷ bs) begun);
        form = and_true (begins_with ticks (take (n + 3) (b ∷ bs))) (closes step Ticked (drop 3 (take (n + 3) (b ∷ bs)))) (take_begins ticks (b ∷ bs) (n + 3) three begun)
            (subst (λ l. closes step Ticked l ≡ true) (ap (λ i. take i (drop 3 (b ∷ bs))) count ∙ sym (drop_take (b ∷ bs) 3 (n + 3) three)) c.form);
        only = λ k m le within form. found_same kind.LongString 3 (closing_len step Ticked (drop 3 (b ∷ bs))) k m n e (ticked_found b bs h k m (omega arith) within form).found;
      };
      may_precede = refl;
    }

pub long_string_right : (b : ℕ) (bs : List ℕ) → (b == 96) ≡ true → IsTokenOrNone (long_string_at (b ∷ bs)) (b ∷ bs)
unfolding long_string_at
long_string_right b bs h = long_right_at b bs h (begins_with ticks (b ∷ bs)) refl (closing_len step Ticked (drop 3 (b ∷ bs))) refl

-- ---- verbatim strings

record VerbatimAt (bs : List ℕ) (k : TokenKind) (m : ℕ) : Type 0 where
  same : k ≡ kind.VerbatimString
  quote_is : ℕ
  behind_quote : List ℕ
  rest_is : bs ≡ quote_is ∷ behind_quote
  a_quote : is_quote quote_is ≡ true
  rest : ℕ
  count : m ≡ suc (suc rest)
  form : is_verbatim quote_is false (take rest behind_quote) ≡ true

verbatim_at_kind : (b : ℕ) (bs : List ℕ) (m : ℕ) → m ≤ length (b ∷ bs) → is_verbatim_string (take m (b ∷ bs)) ≡ true → VerbatimAt bs kind.VerbatimString m
verbatim_at_kind b bs zero within form = not_false form
verbatim_at_kind b bs (suc zero) within form = not_false (both_true (b == 64) (is_verbatim_quoted []) form).1
verbatim_at_kind b [] (suc (suc m)) within form = absurd (omega arith)
verbatim_at_kind b (q ∷ cs) (suc (suc m)) within form =
    let p = both_true (is_quote q) (is_verbatim q false (take m cs)) (both_true (b == 64) (is_verbatim_quoted (q ∷ take m cs)) form).1 in
    record { same = refl; quote_is = q; behind_quote = cs; rest_is = refl; a_quote = p.0; rest = m; count = refl; form = p.1 }

verbatim_found : (b : ℕ) (bs : List ℕ) → (b == 64) ≡ true → (k : TokenKind) (m : ℕ) → 0 < m → m ≤ length (b ∷ bs) → is_form k (take m (b ∷ bs)) ≡ true → (k ≡ kind.VerbatimString) × VerbatimAt bs kind.VerbatimString m
verbatim_found b bs h k m some within form =
    let same = at_kinds k (sym (first_of k b bs m some form) ∙ at_family b h) in
    (same, verbatim_at_kind b bs m within (subst (λ j. is_form j (take m (b ∷ bs)) ≡ true) same form))

not_is : (t : Bool) → not t ≡ true → t ≡ false
not_is true k = not_false k
not_is false k = refl

-- where no quote closes, no token stands
open_verbatim : (b q : ℕ) (cs : List ℕ) → (b == 64) ≡ true → verbatim_len q false cs ≡ None → NoToken (b ∷ q ∷ cs)
open_verbatim b q cs h e = λ k m t. none_at k m t (verbatim_found b (q ∷ cs) h k m t.longest.some t.longest.within t.longest.form).0 where
  none_of : (m : ℕ) → IsToken kind.VerbatimString m (b ∷ q ∷ cs) → ⊥
  none_of zero t = omega (arith, t.longest.some)
  none_of (suc zero) t = not_false (both_true (b == 64) (is_verbatim_quoted []) t.longest.form).1
  none_of (suc (suc m)) t =
      let p = both_true (is_quote q) (is_verbatim q false (take m cs)) (both_true (b == 64) (is_verbatim_quoted (q ∷ take m cs)) t.longest.form).1 in
      let ends : starts (λ c. c == q) (drop m cs) ≡ false = not_is (starts (λ c. c == q) (drop m cs)) t.may_precede in
      let found = verbatim_only q false cs m (omega (arith, t.longest.within)) p.1 ends in
      let no_way : None ≡ Some m = sym e ∙ found in
      cc

  none_at : (k : TokenKind) (m : ℕ) → IsToken k m (b ∷ q ∷ cs) → k ≡ kind.VerbatimString → ⊥
  none_at k m t same = none_of m (subst (λ j. IsToken j m (b ∷ q ∷ cs)) same t)

verbatim_quoted_at : (b q : ℕ) (cs : List ℕ) → (b == 64) ≡ true → is_quote q ≡ true → (o : Option ℕ) → verbatim_len q false cs ≡ o → IsTokenOrNone (option_map (λ n. (kind.VerbatimString, n + 2)) o) (b ∷ q ∷ cs)
verbatim_quoted_at b q cs h quoted None e = open_verbatim b q cs h e
verbatim_quoted_at b q cs h quoted (Some n) e =
    let c = verbatim_form q false cs n e in
    subst (λ i. IsToken kind.VerbatimString i (b ∷ q ∷ cs)) (let two_more : suc (suc n) ≡ n + 2 = omega arith in two_more) (record {
      longest = record {
        some = omega arith;
        within = omega (arith, c.within);
        form = and_true (b == 64) (is_quote q && is_verbatim q false (take n cs)) h (and_true (is_quote q) (is_verbatim q false (take n cs)) quoted c.form);
        only = verbatim_others;
      };
      may_precede = ap not c.ends;
    }) where
      verbatim_others : (k : TokenKind) (m : ℕ) → suc (suc n) ≤ m → m ≤ length (b ∷ q ∷ cs) → is_form k (take m (b ∷ q ∷ cs)) ≡ true → (k ≡ kind.VerbatimString) × (m ≡ suc (suc n))
      verbatim_others k zero le within form = absurd (omega arith)
      verbatim_others k (suc zero) le within form = absurd (omega arith)
      verbatim_others k (suc (suc m)) le within form =
          let same = (verbatim_found b (q ∷ cs) h k (suc (suc m)) (omega arith) within form).0 in
          let form' : (b == 64 && (is_quote q && is_verbatim q false (take m cs))) ≡ true = subst (λ j. is_form j (b ∷ q ∷ take m cs) ≡ true) same form in
          let p = both_true (is_quote q) (is_verbatim q false (take m cs)) (both_true (b == 64) (is_quote q && is_verbatim q false (take m cs)) form').1 in
          (same, ap (λ i. suc (suc i)) ((verbatim_form q false cs n e).only m (omega arith) (omega arith) p.1))

no_quote : (b q : ℕ) (cs : List ℕ) → (b == 64) ≡ true → is_quote q ≡ false → NoToken (b ∷ q ∷ cs)
no_quote b q cs h e = λ k m t.
    let found = verbatim_found b (q ∷ cs) h k m t.longest.some t.longest.within t.longest.form in
    bad found.1 where
      head_same : (x y : ℕ) (xs ys : List ℕ) → x ∷ xs ≡ y ∷ ys → x ≡ y
      head_same x y xs ys p = cc

      bad : {m : ℕ} → VerbatimAt (q ∷ cs) kind.VerbatimString m → ⊥
      bad v = false_true (is_quote q) e (subst (λ c. is_quote c ≡ true) (sym (head_same q v.quote_is cs v.behind_quote v.rest_is)) v.a_quote)

verbatim_right_at : (b q : ℕ) (cs : List ℕ) → (b == 64) ≡ true → (t : Bool) → is_quote q ≡ t → IsTokenOrNone (if t then option_map (λ n. (kind.VerbatimString, n + 2)) (verbatim_len q false cs) else None) (b ∷ q ∷ cs)
verbatim_right_at b q cs h true quoted = verbatim_quoted_at b q cs h quoted (verbatim_len q false cs) refl
verbatim_right_at b q cs h false quoted = no_quote b q cs h quoted

pub verbatim_right : (b : ℕ) (bs : List ℕ) → (b == 64) ≡ true → IsTokenOrNone (verbatim_at bs) (b ∷ bs)
unfolding verbatim_at
verbatim_right b [] h = λ k m t. alone (verbatim_found b [] h k m t.longest.some t.longest.within t.longest.form).1 where
  alone : {m : ℕ} → VerbatimAt [] kind.VerbatimString m → ⊥
  alone v = let no_way : [] ≡ v.quote_is ∷ v.behind_quote = v.rest_is in cc
verbatim_right b (q ∷ cs) h = verbatim_right_at b q cs h (is_quote q) refl
