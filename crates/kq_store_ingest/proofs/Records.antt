-- The records of a text, taken one after another, are those that `records` says.
use Rattle.std.proofs.Common.{◌≡◌, ◌<◌, ◌≤◌, ℕ, zero, suc, ◌+◌, ◌-◌, Bool, true, false, cond, List, [], ◌∷◌, ◌++◌, length, Option, Some, None, refl, ap, ◌∙◌, arith}
use Rattle.std.specs.Prelude.{◌==◌}
use Rattle.std.proofs.lemmas.List.{append-nil}
use Rattle.csv.specs.Machine.{Read, after_end, ends_at_end, in_field, is_end, next_record, start_field, start_record, step}
use Rattle.csv.specs.Reading.{NextIs, Reached, ReadsNext, default_config, records, records_from}
use Rattle.csv.specs.declared.parser.Config.{Config}
use Rattle.csv.specs.declared.parser.Terminator.{Terminator}
use Rattle.csv.specs.declared.parser.Terminator.TheVariants as term
use Rattle.csv.specs.declared.parser.State.{State}
use Rattle.csv.specs.declared.parser.State.TheVariants as st
use Rattle.csv.specs.declared.parser.Action.{Action}
use Rattle.csv.specs.declared.parser.Action.TheVariants as act

-- ---- after a record the machine stands between two

-- a step that ends a record leaves nothing begun
record EndsClean (p : State × Action) : Type 0 where
  clean : is_end p.1 ≡ true → ends_at_end p.0 ≡ false

either : (b : Bool) (x y : State × Action) → EndsClean x → EndsClean y → EndsClean (cond b x y)
either true x y h k = h
either false x y h k = k

either_state : (b : Bool) → ends_at_end (cond b st.AfterCr st.StartRecord) ≡ false
either_state true = refl
either_state false = refl

after_end-clean : (t : Terminator) (c : ℕ) → ends_at_end (after_end t c) ≡ false
after_end-clean term.CRLF c = either_state (c == 13)
after_end-clean (term.Any t) c = refl

skips : (s : State) → EndsClean (s, act.Skip)
skips s = record { clean = λ e. cc }

copies : (s : State) → EndsClean (s, act.Copy)
copies s = record { clean = λ e. cc }

ends_field : (s : State) → EndsClean (s, act.EndField)
ends_field s = record { clean = λ e. cc }

in_field-clean : (cfg : Config) (c : ℕ) → EndsClean (in_field cfg c)
in_field-clean cfg c = either _ _ _ (ends_field st.StartField) (either _ _ _ (record { clean = λ e. after_end-clean cfg.terminator c }) (copies st.InField))

start_field-clean : (cfg : Config) (c : ℕ) → EndsClean (start_field cfg c)
start_field-clean cfg c = either _ _ _ (skips st.InQuoted) (in_field-clean cfg c)

start_record-clean : (cfg : Config) (c : ℕ) → EndsClean (start_record cfg c)
start_record-clean cfg c = either _ _ _ (skips st.StartRecord) (either _ _ _ (skips st.InComment) (start_field-clean cfg c))

step-clean : (cfg : Config) (s : State) (c : ℕ) → EndsClean (step cfg s c)
step-clean cfg st.StartRecord c = start_record-clean cfg c
step-clean cfg st.StartField c = start_field-clean cfg c
step-clean cfg st.InField c = in_field-clean cfg c
step-clean cfg st.InQuoted c = either _ _ _ (skips st.AfterQuote) (either _ _ _ (skips st.InEscape) (copies st.InQuoted))
step-clean cfg st.InEscape c = copies st.InQuoted
step-clean cfg st.AfterQuote c = either _ _ _ (copies st.InQuoted) (in_field-clean cfg c)
step-clean cfg st.InComment c = either _ _ _ (skips st.StartRecord) (skips st.InComment)
step-clean cfg st.AfterCr c = either _ _ _ (skips st.StartRecord) (start_record-clean cfg c)

-- ---- a record takes a byte or more

record ReadsOn (xs : List ℕ) (p : Read) : Type 0 where
  clean : ends_at_end p.1 ≡ false
  shorter : length p.2 ≤ length xs - 1

no_flag : true ≡ false → ⊥
no_flag e = cc

some-is : {A : Type 0} (x y : A) → Some x ≡ Some y → x ≡ y
some-is x y e = cc

no_read : (p : Read) → None ≡ Some p → ⊥
no_read p e = cc

at_end : (fields : List (List ℕ)) (field : List ℕ) (p : Read) (b : Bool) → cond b (Some (fields ++ (field ∷ []), st.StartRecord, [])) None ≡ Some p → ReadsOn [] p
at_end fields field p true e = rw (← some-is _ _ e) (record { clean = refl; shorter = omega arith })
at_end fields field p false e = absurd (no_read p e)

at_byte : (cfg : Config) (s : State) (c : ℕ) (rest : List ℕ) (fields : List (List ℕ)) (p : Read) (later : Option Read) (b : Bool) → is_end (step cfg s c).1 ≡ b
    → cond b (Some (fields, (step cfg s c).0, rest)) later ≡ Some p → (later ≡ Some p → ReadsOn rest p) → ReadsOn (c ∷ rest) p
at_byte cfg s c rest fields p later true b e more = rw (← some-is _ _ e) (record { clean = (step-clean cfg s c).clean b; shorter = omega arith })
at_byte cfg s c rest fields p later false b e more = let r = more e in record { clean = r.clean; shorter = omega (arith, r.shorter) }

next-reads_on : (cfg : Config) (s : State) (fields : List (List ℕ)) (field xs : List ℕ) (p : Read) → next_record cfg s fields field xs ≡ Some p → ReadsOn xs p
unfolding next_record
next-reads_on cfg s fields field [] p e = at_end fields field p (ends_at_end s) e
next-reads_on cfg s fields field (c ∷ rest) p e = at_byte cfg s c rest _ p _ (is_end (step cfg s c).1) refl e (next-reads_on cfg (step cfg s c).0 _ _ rest p)

-- between records no bytes are no record
between : (cfg : Config) (s : State) (xs : List ℕ) (p : Read) → ends_at_end s ≡ false → next_record cfg s [] [] xs ≡ Some p → length p.2 + 1 ≤ length xs
unfolding next_record
between cfg s [] p clean e = absurd (no_read p (rw clean at e))
between cfg s (c ∷ rest) p clean e = omega (arith, (next-reads_on cfg s [] [] (c ∷ rest) p e).shorter)

-- so there are no more records than bytes
reached-short : (cfg : Config) (s : State) (xs : List ℕ) (seen : List (List (List ℕ))) (s2 : State) (ys : List ℕ) → ends_at_end s ≡ false → Reached cfg s xs seen s2 ys → length seen ≤ length xs
unfolding Reached
reached-short cfg s xs [] s2 ys clean h = omega arith
reached-short cfg s xs (r ∷ rs) s2 ys clean h =
    let (p, next, same, more) = h in
    let now = between cfg s xs p clean next in
    let later = reached-short cfg p.1 p.2 rs s2 ys (next-reads_on cfg s [] [] xs p next).clean more in
    omega (arith, now, later)

-- a record leaves the machine between two
reached-clean : (cfg : Config) (s : State) (xs : List ℕ) (seen : List (List (List ℕ))) (s2 : State) (ys : List ℕ) → ends_at_end s ≡ false → Reached cfg s xs seen s2 ys → ends_at_end s2 ≡ false
unfolding Reached
reached-clean cfg s xs [] s2 ys clean h = rw (← h.0) clean
reached-clean cfg s xs (r ∷ rs) s2 ys clean h =
    let (p, next, same, more) = h in
    reached-clean cfg p.1 p.2 rs s2 ys (next-reads_on cfg s [] [] xs p next).clean more

-- how many bytes are known to be left
abbrev pub bytes_in : Option (List ℕ) → ℕ
bytes_in None = 0
bytes_in (Some bytes) = length bytes

less_left : (cfg : Config) (s s2 : State) (xs ys : List ℕ) (fields : List (List ℕ)) (next : Option Read) → ends_at_end s ≡ false → next_record cfg s [] [] xs ≡ next
    → NextIs next true fields s2 ys → length ys < length xs
less_left cfg s s2 xs ys fields None clean is read = absurd (no_flag read)
less_left cfg s s2 xs ys fields (Some p) clean is read = rw read.3 (omega (arith, between cfg s xs p clean is))

-- a read of one more record leaves fewer bytes
pub read-less : (s s2 : State) (xs ys : List ℕ) (after : Option (List ℕ)) (seen : List (List (List ℕ))) (fields : List (List ℕ)) → Reached default_config st.StartRecord xs seen s ys
    → ReadsNext default_config s (Some ys) after true fields s2 → bytes_in after < length ys
read-less s s2 xs ys None seen fields reached read = absurd read
read-less s s2 xs ys (Some zs) seen fields reached read =
    less_left default_config s s2 ys zs fields (next_record default_config s [] [] ys) (reached-clean default_config st.StartRecord xs seen s ys refl reached) refl read

-- ---- the function

reached-from : (cfg : Config) (k n : ℕ) (s : State) (xs : List ℕ) (seen : List (List (List ℕ))) (s2 : State) (ys : List ℕ) → k ≡ length seen + n → Reached cfg s xs seen s2 ys
    → records_from cfg k s xs ≡ seen ++ records_from cfg n s2 ys
unfolding Reached records_from
reached-from cfg k n s xs [] s2 ys e h =
    let same : k ≡ n = omega (arith, e) in
    rw (same, h.0, h.1) refl
reached-from cfg zero n s xs (r ∷ rs) s2 ys e h = absurd (omega (arith, e))
reached-from cfg (suc k) n s xs (r ∷ rs) s2 ys e h =
    let (p, next, same, more) = h in
    let left : k ≡ length rs + n = omega (arith, e) in
    rw (next, same) (ap (λ l. p.0 ∷ l) (reached-from cfg k n p.1 p.2 rs s2 ys left more))

-- the records that were reached are the first of them all
pub records-more : (xs : List ℕ) (seen : List (List (List ℕ))) (s2 : State) (ys : List ℕ) → Reached default_config st.StartRecord xs seen s2 ys
    → (more : List (List (List ℕ))) × (records default_config xs ≡ seen ++ more)
records-more xs seen s2 ys h =
    let short = reached-short default_config st.StartRecord xs seen s2 ys refl h in
    let left : length xs + 1 ≡ length seen + (length xs + 1 - length seen) = omega (arith, short) in
    (records_from default_config (length xs + 1 - length seen) s2 ys, reached-from default_config (length xs + 1) _ st.StartRecord xs seen s2 ys left h)

-- and all of them where none is left
pub records-end : (xs : List ℕ) (seen : List (List (List ℕ))) (s2 : State) (ys : List ℕ) → Reached default_config st.StartRecord xs seen s2 ys
    → next_record default_config s2 [] [] ys ≡ None → records default_config xs ≡ seen
unfolding records_from
records-end xs seen s2 ys h none =
    let short = reached-short default_config st.StartRecord xs seen s2 ys refl h in
    let left : length xs + 1 ≡ length seen + suc (length xs - length seen) = omega (arith, short) in
    reached-from default_config (length xs + 1) (suc (length xs - length seen)) st.StartRecord xs seen s2 ys left h ∙ rw none (append-nil seen)
