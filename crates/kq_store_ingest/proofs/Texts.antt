-- The fields of a body in UTF-8 are texts in UTF-8.
use Rattle.std.proofs.Common.{◌≡◌, ◌<◌, ℕ, suc, ◌+◌, Bool, true, false, ◌&&◌, ◌||◌, cond, ◌==◌, List, [], ◌∷◌, ◌++◌, append_assoc, append-nil, get_or, length, length-append, take, drop, Option, Some, None, refl, sym, ap, ◌∙◌, subst, arith}
use Rattle.std.specs.Prelude.{IsUtf8}
use Rattle.std.proofs.Math.Utf8.{encode, encodes, scalars, scalar}
use Rattle.std.proofs.lemmas.Bool.Decides.{nat_tests}
use Rattle.std.proofs.lemmas.List.{get_or-append-add}
use Rattle.std.proofs.lemmas.Str.{IsUtf8-append, IsUtf8-take, IsUtf8-drop, IsCharBoundary-before_ascii, IsCharBoundary-after_ascii, cons_from_encodes}
use Rattle.csv.specs.Machine.{Read, ends_at_end, field_after, fields_after, in_field, is_end, next_record, start_field, start_record, step}
use Rattle.csv.specs.Reading.{NextIs, ReadsNext, default_config, is_bom, strip_bom}
use Rattle.csv.specs.Records.{AllText}
use Rattle.csv.specs.declared.parser.State.{State}
use Rattle.csv.specs.declared.parser.State.TheVariants as st
use Rattle.csv.specs.declared.parser.Action.{Action}
use Rattle.csv.specs.declared.parser.Action.TheVariants as act
use Rattle.csv.proofs.RecordFacts.{text-more}
use Rattle.kq_store_ingest.specs.Reading.{NotInComment}

-- ---- a byte of ASCII parts a text

take_front : (front rest : List ℕ) → take (length front) (front ++ rest) ≡ front
take_front [] rest = refl
take_front (a ∷ front) rest = ap (λ l. a ∷ l) (take_front front rest)

drop_front : (front rest : List ℕ) (b : ℕ) → drop (length front + 1) (front ++ b ∷ rest) ≡ rest
drop_front [] rest b = refl
drop_front (a ∷ front) rest b =
    let more : length (a ∷ front) + 1 ≡ suc (length front + 1) = omega arith in
    ap (λ n. drop n (a ∷ (front ++ b ∷ rest))) more ∙ drop_front front rest b

pub record Parted (front rest : List ℕ) : Type 0 where
  pub before : IsUtf8 front
  pub behind : IsUtf8 rest

pub parted : (front : List ℕ) (b : ℕ) (rest : List ℕ) → b < 128 → IsUtf8 (front ++ b ∷ rest) → Parted front rest
parted front b rest small utf8 =
    let none : length front + 0 ≡ length front = omega arith in
    let at : get_or (front ++ b ∷ rest) (length front) 0 ≡ b = ap (λ n. get_or (front ++ b ∷ rest) n 0) (sym none) ∙ get_or-append-add front (b ∷ rest) 0 0 in
    let within : length front < length (front ++ b ∷ rest) = omega (arith, length-append front (b ∷ rest)) in
    let ascii : get_or (front ++ b ∷ rest) (length front) 0 < 128 = subst (λ n. n < 128) (sym at) small in
    record {
      before = subst IsUtf8 (take_front front (b ∷ rest)) (IsUtf8-take (front ++ b ∷ rest) (length front) utf8 (IsCharBoundary-before_ascii (front ++ b ∷ rest) (length front) within ascii));
      behind = subst IsUtf8 (drop_front front rest b) (IsUtf8-drop (front ++ b ∷ rest) (length front + 1) utf8 (IsCharBoundary-after_ascii (front ++ b ∷ rest) (length front) utf8 within ascii));
    }

-- ---- a step of the reader

-- a byte that isn't copied is one of ASCII
abbrev IsLeft : ℕ → Action → Type 0
IsLeft c act.Copy = Unit {0}
IsLeft c act.Skip = c < 128
IsLeft c act.EndField = c < 128
IsLeft c act.EndRecord = c < 128

record KeepsText (c : ℕ) (p : State × Action) : Type 0 where
  outside : NotInComment p.0
  left : IsLeft c p.1

either : (c : ℕ) (b : Bool) (x y : State × Action) → (b ≡ true → KeepsText c x) → KeepsText c y → KeepsText c (cond b x y)
either c true x y h k = h refl
either c false x y h k = k

either_outside : (b : Bool) → NotInComment (cond b st.AfterCr st.StartRecord)
either_outside true = tt
either_outside false = tt

small_comma : (c : ℕ) → (c == 44) ≡ true → c < 128
small_comma c h = grind (arith, nat_tests)

small_quote : (c : ℕ) → (c == 34) ≡ true → c < 128
small_quote c h = grind (arith, nat_tests)

small_line_end : (c : ℕ) → ((c == 13) || (c == 10)) ≡ true → c < 128
small_line_end c h = grind (arith, nat_tests)

small_line_feed : (c : ℕ) → (c == 10) ≡ true → c < 128
small_line_feed c h = grind (arith, nat_tests)

in_field-text : (c : ℕ) → KeepsText c (in_field default_config c)
in_field-text c =
    either c (c == 44) _ _ (λ e. record { outside = tt; left = small_comma c e })
    (either c ((c == 13) || (c == 10)) _ _ (λ e. record { outside = either_outside (c == 13); left = small_line_end c e }) (record { outside = tt; left = tt }))

start_field-text : (c : ℕ) → KeepsText c (start_field default_config c)
start_field-text c = either c (c == 34) _ _ (λ e. record { outside = tt; left = small_quote c e }) (in_field-text c)

start_record-text : (c : ℕ) → KeepsText c (start_record default_config c)
start_record-text c = either c ((c == 13) || (c == 10)) _ _ (λ e. record { outside = tt; left = small_line_end c e }) (start_field-text c)

step-text : (s : State) (c : ℕ) → NotInComment s → KeepsText c (step default_config s c)
step-text st.StartRecord c h = start_record-text c
step-text st.StartField c h = start_field-text c
step-text st.InField c h = in_field-text c
step-text st.InQuoted c h = either c (c == 34) _ _ (λ e. record { outside = tt; left = small_quote c e }) (record { outside = tt; left = tt })
step-text st.InEscape c h = record { outside = tt; left = tt }
step-text st.AfterQuote c h = either c (c == 34) _ _ (λ e. record { outside = tt; left = tt }) (in_field-text c)
step-text st.InComment c h = absurd h
step-text st.AfterCr c h = either c (c == 10) _ _ (λ e. record { outside = tt; left = small_line_feed c e }) (start_record-text c)

-- ---- a record

pub record IsTextRead (fields : List (List ℕ)) (s : State) (left : List ℕ) : Type 0 where
  pub fields_are : AllText fields
  pub outside : NotInComment s
  pub utf8 : IsUtf8 left

some-is : {A : Type 0} (x y : A) → Some x ≡ Some y → x ≡ y
some-is x y e = cc

no_read : (p : Read) → None ≡ Some p → ⊥
no_read p e = cc

is_read : (p q : Read) → Some p ≡ Some q → IsTextRead p.0 p.1 p.2 → IsTextRead q.0 q.1 q.2
is_read p q e h = subst (λ (r : Read). IsTextRead r.0 r.1 r.2) (some-is p q e) h

at_end : (fields : List (List ℕ)) (field : List ℕ) (p : Read) (b : Bool) → AllText fields → IsUtf8 (field ++ [])
    → cond b (Some (fields ++ (field ∷ []), st.StartRecord, [])) None ≡ Some p → IsTextRead p.0 p.1 p.2
at_end fields field p true h utf8 e =
    is_read (fields ++ (field ∷ []), st.StartRecord, []) p e
    (record { fields_are = text-more fields field h (subst IsUtf8 (append-nil field) utf8); outside = tt; utf8 = ([], (refl, refl)) })
at_end fields field p false h utf8 e = absurd (no_read p e)

-- one byte, and what is known of the others
at_byte : (c : ℕ) (rest : List ℕ) (fields : List (List ℕ)) (field : List ℕ) (s : State) (a : Action) (p : Read) (later : Option Read)
    → KeepsText c (s, a) → AllText fields → IsUtf8 (field ++ c ∷ rest) → cond (is_end a) (Some (fields_after a fields field, s, rest)) later ≡ Some p
    → (AllText (fields_after a fields field) → IsUtf8 (field_after a c field ++ rest) → later ≡ Some p → IsTextRead p.0 p.1 p.2) → IsTextRead p.0 p.1 p.2
at_byte c rest fields field s act.Copy p later k h utf8 e more = more h (subst IsUtf8 (sym (append_assoc field (c ∷ []) rest)) utf8) e
at_byte c rest fields field s act.Skip p later k h utf8 e more =
    let both = parted field c rest k.left utf8 in
    more h (IsUtf8-append field rest both.before both.behind) e
at_byte c rest fields field s act.EndField p later k h utf8 e more =
    let both = parted field c rest k.left utf8 in
    more (text-more fields field h both.before) both.behind e
at_byte c rest fields field s act.EndRecord p later k h utf8 e more =
    let both = parted field c rest k.left utf8 in
    is_read (fields ++ field ∷ [], s, rest) p e (record { fields_are = text-more fields field h both.before; outside = k.outside; utf8 = both.behind })

next-text : (s : State) (fields : List (List ℕ)) (field xs : List ℕ) (p : Read) → NotInComment s → AllText fields → IsUtf8 (field ++ xs)
    → next_record default_config s fields field xs ≡ Some p → IsTextRead p.0 p.1 p.2
unfolding next_record
next-text s fields field [] p outside h utf8 e = at_end fields field p (ends_at_end s) h utf8 e
next-text s fields field (c ∷ rest) p outside h utf8 e =
    let keeps = step-text s c outside in
    at_byte c rest fields field (step default_config s c).0 (step default_config s c).1 p _ keeps h utf8 e
    (λ all text later. next-text (step default_config s c).0 _ _ rest p keeps.outside all text later)

no_fields : AllText []
unfolding AllText
no_fields = tt

no_flag : false ≡ true → ⊥
no_flag e = cc

is_next : (s s2 : State) (xs ys : List ℕ) (fields : List (List ℕ)) (next : Option Read) → NotInComment s → IsUtf8 xs → next_record default_config s [] [] xs ≡ next
    → NextIs next true fields s2 ys → IsTextRead fields s2 ys
is_next s s2 xs ys fields None outside utf8 is read = absurd (no_flag (sym read))
is_next s s2 xs ys fields (Some p) outside utf8 is read = rw (read.1, read.2, read.3) (next-text s [] [] xs p outside no_fields utf8 is)

-- the fields of the next record are texts, and what is left is one
pub read-text : (s s2 : State) (xs ys : List ℕ) (fields : List (List ℕ)) → NotInComment s → IsUtf8 xs → ReadsNext default_config s (Some xs) (Some ys) true fields s2 → IsTextRead fields s2 ys
read-text s s2 xs ys fields outside utf8 read = is_next s s2 xs ys fields (next_record default_config s [] [] xs) outside utf8 refl read

pub fields-text : (s s2 : State) (xs : List ℕ) (after : Option (List ℕ)) (fields : List (List ℕ)) → NotInComment s → IsUtf8 xs
    → ReadsNext default_config s (Some xs) after true fields s2 → AllText fields
fields-text s s2 xs None fields outside utf8 read = absurd read
fields-text s s2 xs (Some ys) fields outside utf8 read = (read-text s s2 xs ys fields outside utf8 read).fields_are

-- ---- the byte order mark

both_true : (a b : Bool) → (a && b) ≡ true → (a ≡ true) × (b ≡ true)
both_true true b h = (refl, h)
both_true false b h = absurd cc

is_number : (a b : ℕ) → (a == b) ≡ true → a ≡ b
is_number a b h = grind (arith, nat_tests)

behind_mark : (cs rest : List ℕ) → scalars cs ≡ true → encodes cs ≡ 0xEF ∷ 0xBB ∷ 0xBF ∷ rest → IsUtf8 rest
unfolding encode
behind_mark cs rest h e =
    let (es, is, left) = cons_from_encodes cs rest 0xFEFF e in
    (es, ((both_true (scalar 0xFEFF) (scalars es) (subst (λ l. scalars l ≡ true) is h)).1, left))

without_mark : (a b c : ℕ) (rest : List ℕ) (mark : Bool) → is_bom a b c ≡ mark → IsUtf8 (a ∷ b ∷ c ∷ rest) → IsUtf8 (cond mark rest (a ∷ b ∷ c ∷ rest))
without_mark a b c rest true e utf8 =
    let all = both_true _ (c == 0xBF) e in
    let first = both_true (a == 0xEF) (b == 0xBB) all.0 in
    let (cs, is) = utf8 in
    behind_mark cs rest is.0 (rw (is_number a 0xEF first.0, is_number b 0xBB first.1, is_number c 0xBF all.1) at is.1)
without_mark a b c rest false e utf8 = utf8

pub strip_bom-text : (xs : List ℕ) → IsUtf8 xs → IsUtf8 (strip_bom xs)
unfolding strip_bom
strip_bom-text [] utf8 = utf8
strip_bom-text (a ∷ []) utf8 = utf8
strip_bom-text (a ∷ b ∷ []) utf8 = utf8
strip_bom-text (a ∷ b ∷ c ∷ rest) utf8 = without_mark a b c rest (is_bom a b c) refl utf8
