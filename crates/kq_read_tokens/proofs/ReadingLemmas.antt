-- The loop over the tokens of a text.
use Rattle.std.proofs.Common.{◌≡◌, ℕ, zero, suc, ◌<◌, ◌≤◌, ◌+◌, ◌-◌, Bool, true, false, ◌&&◌, ◌==◌, if◌then◌else◌, List, [], ◌∷◌, ◌++◌, length, take, drop, refl, sym, ◌∙◌, ap, subst, arith, length-drop, All, get_or}
use Rattle.std.specs.List.{prefix_len}
use Rattle.std.proofs.lemmas.List.Sums.{prefix_len-le-length}
use Rattle.std.proofs.lemmas.List.Elements.{All-push}
use Rattle.kq_read_tokens.specs.declared.kind.TokenKind.{TokenKind}
use Rattle.kq_read_tokens.specs.declared.token.Token.{Token}
use Rattle.kq_read_tokens.specs.Bytes.{is_space, is_in_line, is_slash, starts}
use Rattle.kq_read_tokens.specs.Lexed.{StandsIn}
use Rattle.kq_read_tokens.specs.Reading.{IsToken, NoToken, Tokenizes, start, blank, token, is_complete, is_ingestion, ends_in_mark, is_body_mark, blank_len, AreTokens, BreaksAt}

blank_within_at : (space comment : Bool) (b : ℕ) (bs : List ℕ) → (if space then 1 else (if comment then 1 + prefix_len is_in_line bs else 0)) ≤ length (b ∷ bs)
blank_within_at true comment b bs = omega arith
blank_within_at false true b bs = omega (arith, prefix_len-le-length is_in_line bs)
blank_within_at false false b bs = omega arith

pub blank_within : (bytes : List ℕ) → blank_len bytes ≤ length bytes
blank_within [] = omega arith
blank_within (b ∷ bs) = blank_within_at (is_space b) (b == 47 && starts is_slash bs) b bs

pub reads_within : {text : List ℕ} {tokens : List Token} {at : ℕ} → Tokenizes text tokens at → at ≤ length text
reads_within start = omega arith
reads_within {text} (blank {tokens} {at} r incomplete some) = omega (arith, reads_within r, blank_within (drop at text), length-drop at text)
reads_within {text} (token {tokens} {at} r incomplete none t) = omega (arith, reads_within r, t.longest.within, length-drop at text)

pub reads_stand : {text : List ℕ} {tokens : List Token} {at : ℕ} → Tokenizes text tokens at → All (StandsIn text) tokens
reads_stand start = λ k d h. absurd (omega arith)
reads_stand (blank r incomplete some) = reads_stand r
reads_stand {text} (token {tokens} {at} {kind} {n} r incomplete none t) =
    All-push (StandsIn text) tokens (record { kind = kind; from = at; to = at + n }) (reads_stand r) (omega arith, reads_within (token r incomplete none t))

-- the last token says it
pub ends_at : (tokens : List Token) (n : ℕ) (d : Token) → length tokens ≡ suc n → ends_in_mark tokens ≡ is_body_mark (get_or tokens n d).kind
ends_at [] n d h = absurd (omega arith)
ends_at (t ∷ []) zero d h = refl
ends_at (t ∷ []) (suc n) d h = absurd (omega arith)
ends_at (t ∷ u ∷ us) zero d h = absurd (omega arith)
ends_at (t ∷ u ∷ us) (suc n) d h = ends_at (u ∷ us) n d (omega arith)

pub ends_last : (tokens : List Token) (d : Token) → 1 ≤ length tokens → ends_in_mark tokens ≡ is_body_mark (get_or tokens (length tokens - 1) d).kind
ends_last tokens d some = ends_at tokens (length tokens - 1) d (omega arith)

pub complete_marked : (text : List ℕ) (tokens : List Token) (ingestion : Bool) → ingestion ≡ is_ingestion text tokens → ends_in_mark tokens ≡ true → ingestion ≡ is_complete text tokens
complete_marked text tokens true e h = let i : is_ingestion text tokens ≡ true = sym e in rw (i, h) refl
complete_marked text tokens false e h = let i : is_ingestion text tokens ≡ false = sym e in rw i refl

pub complete_unmarked : (text : List ℕ) (tokens : List Token) → ends_in_mark tokens ≡ false → is_complete text tokens ≡ false
complete_unmarked text tokens h = by_ingestion (is_ingestion text tokens) h where
  by_ingestion : (b : Bool) → ends_in_mark tokens ≡ false → (b && ends_in_mark tokens) ≡ false
  by_ingestion true h = h
  by_ingestion false h = refl

-- the loop's invariant
pub record InReading (text : List ℕ) (tokens : List Token) (at : ℕ) : Type 0 where
  pub reads : Tokenizes text tokens at
  pub incomplete : is_complete text tokens ≡ false

take_all : (xs : List ℕ) (n : ℕ) → length xs ≤ n → take n xs ≡ xs
take_all [] zero le = refl
take_all [] (suc n) le = refl
take_all (x ∷ xs) zero le = absurd (omega arith)
take_all (x ∷ xs) (suc n) le = ap (λ l. x ∷ l) (take_all xs n (omega arith))

-- what is left of the text, as a slice
pub slice_is : (text : List ℕ) (at : ℕ) → take (length text - at) (drop at text) ≡ drop at text
slice_is text at = take_all (drop at text) (length text - at) (omega (arith, length-drop at text))

pub in_reading_start : (text : List ℕ) → InReading text [] 0
in_reading_start text = record { reads = start; incomplete = refl }

pub in_reading_blank : (text : List ℕ) (tokens : List Token) (at n : ℕ) → InReading text tokens at → n ≡ blank_len (take (length text - at) (drop at text)) → 0 < n → InReading text tokens (at + n)
in_reading_blank text tokens at n r e some =
    let same : n ≡ blank_len (drop at text) = e ∙ ap blank_len (slice_is text at) in
    let some' : 0 < blank_len (drop at text) = omega arith in
    record { reads = subst (λ m. Tokenizes text tokens (at + m)) (sym same) (blank r.reads r.incomplete some'); incomplete = r.incomplete }

pub reads_token : (text : List ℕ) (tokens : List Token) (at n blank_n : ℕ) (kind : TokenKind) → InReading text tokens at → blank_n ≡ blank_len (take (length text - at) (drop at text)) → blank_n ≡ 0 → IsToken kind n (take (length text - at) (drop at text)) → Tokenizes text (tokens ++ record { kind = kind; from = at; to = at + n } ∷ []) (at + n)
reads_token text tokens at n blank_n kind r e none t =
    let none' : blank_len (drop at text) ≡ 0 = ap blank_len (sym (slice_is text at)) ∙ sym e ∙ none in
    token r.reads r.incomplete none' (subst (IsToken kind n) (slice_is text at) t)

pub complete : (text : List ℕ) (tokens : List Token) (at : ℕ) → Tokenizes text tokens at → is_complete text tokens ≡ true → AreTokens text tokens
complete text tokens at r c = record { end = at; reads = r; whole = λ f. let no : true ≡ false = sym c ∙ f in cc }

pub at_end : (text : List ℕ) (tokens : List Token) (at : ℕ) → InReading text tokens at → length text ≤ at → AreTokens text tokens
at_end text tokens at r le = record { end = at; reads = r.reads; whole = λ _. omega (arith, reads_within r.reads) }

pub breaks : (text : List ℕ) (tokens : List Token) (at blank_n : ℕ) → InReading text tokens at → at < length text → blank_n ≡ blank_len (take (length text - at) (drop at text)) → blank_n ≡ 0 → NoToken (take (length text - at) (drop at text)) → BreaksAt text at
breaks text tokens at blank_n r some e none without = record {
  tokens = tokens;
  reads = r.reads;
  incomplete = r.incomplete;
  some_left = some;
  no_blank = ap blank_len (sym (slice_is text at)) ∙ sym e ∙ none;
  no_token = subst NoToken (slice_is text at) without;
}

pub tokens_stand : (text : List ℕ) (tokens : List Token) → AreTokens text tokens → All (StandsIn text) tokens
tokens_stand text tokens t = reads_stand t.reads
