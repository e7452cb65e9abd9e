-- What closes is found at its one place.
use Rattle.std.proofs.Common.{◌≡◌, ℕ, zero, suc, ◌<◌, ◌≤◌, ◌+◌, Bool, true, false, ◌==◌, if◌then◌else◌, List, [], ◌∷◌, length, take, drop, Option, Some, None, Result, Ok, Err, refl, sym, ◌∙◌, ap, subst, arith}
use Rattle.std.specs.Option.{option_map}
use Rattle.kq_read_tokens.specs.declared.delimited.End.{End}
use Rattle.kq_read_tokens.specs.declared.delimited.End.TheVariants.{Closed, Refused}
use Rattle.kq_read_tokens.specs.Bytes.{is_end, starts}
use Rattle.kq_read_tokens.specs.Delimited.{by_step, closes, is_verbatim}
use Rattle.kq_read_tokens.specs.Scanning.{closing_len, verbatim_len}
use Rattle.kq_read_tokens.proofs.TestLemmas.{both_true, and_true, false_true}
use Rattle.kq_read_tokens.proofs.RunLemmas.{end_only}

pub some_more : (r : Option ℕ) (m n : ℕ) → r ≡ Some m → suc m ≡ n → option_map (λ x. x + 1) r ≡ Some n
some_more r m n e sum = rw e (let e' : m + 1 ≡ n = omega arith in ap Some e')

pub of_some_more : (r : Option ℕ) (n : ℕ) → option_map (λ x. x + 1) r ≡ Some n → (m : ℕ) × (r ≡ Some m) × (n ≡ suc m)
of_some_more None n h = absurd (cc h)
of_some_more (Some m) n h = let e : m + 1 ≡ n = cc in (m, refl, omega arith)

module _ {S : Type 0} (step : S → ℕ → Result S End) where
  only_at : (o : Result S End) (bs : List ℕ) (m : ℕ) → m ≤ length bs → by_step o (λ t. closes step t (take m bs)) (is_end (take m bs)) false ≡ true → ((t : S) → closes step t (take m bs) ≡ true → closing_len step t bs ≡ Some m)
      → by_step o (λ t. option_map (λ n. n + 1) (closing_len step t bs)) (Some 1) None ≡ Some (suc m)
  only_at (Ok t) bs m le h rest = some_more (closing_len step t bs) m (suc m) (rest t h) refl
  only_at (Err Closed) bs m le h rest = let e : 1 ≡ suc m = omega (arith, end_only bs m le h) in ap Some e
  only_at (Err Refused) bs m le h rest = let no_way : false ≡ true = h in absurd (cc)

  pub closes_only : (s : S) (bs : List ℕ) (m : ℕ) → m ≤ length bs → closes step s (take m bs) ≡ true → closing_len step s bs ≡ Some m
  closes_only s [] zero le h = let no_way : false ≡ true = h in absurd (cc)
  closes_only s [] (suc m) le h = absurd (omega arith)
  closes_only s (b ∷ bs) zero le h = let no_way : false ≡ true = h in absurd (cc)
  closes_only s (b ∷ bs) (suc m) le h = only_at (step s b) bs m (omega arith) h (λ t k. closes_only t bs m (omega arith) k)

  pub record Closes (s : S) (bs : List ℕ) (n : ℕ) : Type 0 where
    pub some : 0 < n
    pub within : n ≤ length bs
    pub form : closes step s (take n bs) ≡ true

  closes_at : (s : S) (b : ℕ) (bs : List ℕ) (n : ℕ) (o : Result S End) → step s b ≡ o → by_step o (λ t. option_map (λ n. n + 1) (closing_len step t bs)) (Some 1) None ≡ Some n → ((t : S) (m : ℕ) → closing_len step t bs ≡ Some m → Closes t bs m) → Closes s (b ∷ bs) n
  closes_at s b bs n (Ok t) e h rest =
      let parts = of_some_more (closing_len step t bs) n h in
      let c = rest t parts.0 parts.1 in
      let met : by_step (step s b) (λ t. closes step t (take parts.0 bs)) (is_end (take parts.0 bs)) false ≡ true = rw e c.form in
      subst (Closes s (b ∷ bs)) (sym parts.2) (record { some = omega arith; within = omega (arith, c.within); form = met })
  closes_at s b bs n (Err Closed) e h rest =
      let one_is : 1 ≡ n = cc in
      let met : by_step (step s b) (λ t. closes step t (take 0 bs)) (is_end (take 0 bs)) false ≡ true = rw e refl in
      subst (Closes s (b ∷ bs)) one_is (record { some = omega arith; within = omega arith; form = met })
  closes_at s b bs n (Err Refused) e h rest = absurd (cc h)

  pub closes_form : (s : S) (bs : List ℕ) (n : ℕ) → closing_len step s bs ≡ Some n → Closes s bs n
  closes_form s [] n h = absurd (cc h)
  closes_form s (b ∷ bs) n h = closes_at s b bs n (step s b) refl h (λ t m k. closes_form t bs m k)

-- ---- verbatim strings

module _ (quote : ℕ) where
  abbrev is_this : ℕ → Bool
  is_this b = b == quote

  if_yes : {A : Type 0} (t : Bool) (x y : A) → t ≡ true → (if t then x else y) ≡ x
  if_yes true x y h = refl
  if_yes false x y h = let no_way : false ≡ true = h in absurd (cc)

  if_no : {A : Type 0} (t : Bool) (x y : A) → t ≡ false → (if t then x else y) ≡ y
  if_no true x y h = let no_way : true ≡ false = h in absurd (cc)
  if_no false x y h = refl

  -- a front that is one, and that the quote does not follow, is the one that is found
  pub verbatim_only : (closed : Bool) (bs : List ℕ) (m : ℕ) → m ≤ length bs → is_verbatim quote closed (take m bs) ≡ true → starts is_this (drop m bs) ≡ false → verbatim_len quote closed bs ≡ Some m
  verbatim_only true [] zero le h k = refl
  verbatim_only false [] zero le h k = let no_way : false ≡ true = h in absurd (cc)
  verbatim_only closed [] (suc m) le h k = absurd (omega arith)
  verbatim_only true (b ∷ bs) zero le h k = if_no (b == quote) (option_map (λ n. n + 1) (verbatim_len quote false bs)) (Some 0) k
  verbatim_only false (b ∷ bs) zero le h k = let no_way : false ≡ true = h in absurd (cc)
  verbatim_only true (b ∷ bs) (suc m) le h k =
      let parts = both_true (b == quote) (is_verbatim quote false (take m bs)) h in
      if_yes (b == quote) (option_map (λ n. n + 1) (verbatim_len quote false bs)) (Some 0) parts.0 ∙ some_more (verbatim_len quote false bs) m (suc m) (verbatim_only false bs m (omega arith) parts.1 k) refl
  verbatim_only false (b ∷ bs) (suc m) le h k = some_more (verbatim_len quote (b == quote) bs) m (suc m) (verbatim_only (b == quote) bs m (omega arith) h k) refl

  pub record Quoted (closed : Bool) (bs : List ℕ) (n : ℕ) : Type 0 where
    pub within : n ≤ length bs
    pub form : is_verbatim quote closed (take n bs) ≡ true
    pub ends : starts is_this (drop n bs) ≡ false
    pub only : (m : ℕ) → n ≤ m → m ≤ length bs → is_verbatim quote closed (take m bs) ≡ true → m ≡ n

  at_once : (closed : Bool) (b : ℕ) (bs : List ℕ) (m : ℕ) → (b == quote) ≡ false → is_verbatim quote true (take m (b ∷ bs)) ≡ true → m ≡ 0
  at_once closed b bs zero e h = refl
  at_once closed b bs (suc m) e h = absurd (false_true (b == quote) e (both_true (b == quote) (is_verbatim quote false (take m bs)) h).0)

  quoted_pair : (b : ℕ) (bs : List ℕ) (n : ℕ) (t : Bool) → (b == quote) ≡ t → (if t then option_map (λ n. n + 1) (verbatim_len quote false bs) else Some 0) ≡ Some n → ((m : ℕ) → verbatim_len quote false bs ≡ Some m → Quoted false bs m) → Quoted true (b ∷ bs) n
  quoted_pair b bs n true e h rest =
      let parts = of_some_more (verbatim_len quote false bs) n h in
      let c = rest parts.0 parts.1 in
      subst (Quoted true (b ∷ bs)) (sym parts.2) (record {
        within = omega (arith, c.within);
        form = and_true (b == quote) (is_verbatim quote false (take parts.0 bs)) e c.form;
        ends = c.ends;
        only = pair_only parts.0 c;
      }) where
        pair_only : (k : ℕ) → Quoted false bs k → (m : ℕ) → suc k ≤ m → m ≤ length (b ∷ bs) → is_verbatim quote true (take m (b ∷ bs)) ≡ true → m ≡ suc k
        pair_only k c zero le within met = absurd (omega arith)
        pair_only k c (suc m) le within met = ap suc (c.only m (omega arith) (omega arith) (both_true (b == quote) (is_verbatim quote false (take m bs)) met).1)
  quoted_pair b bs n false e h rest =
      let none : 0 ≡ n = cc in
      subst (Quoted true (b ∷ bs)) none (record {
        within = omega arith;
        form = refl;
        ends = e;
        only = λ m le within met. at_once true b bs m e met;
      })

  quoted_next : (b : ℕ) (bs : List ℕ) (n : ℕ) (t : Bool) → (b == quote) ≡ t → option_map (λ n. n + 1) (verbatim_len quote t bs) ≡ Some n → ((m : ℕ) → verbatim_len quote t bs ≡ Some m → Quoted t bs m) → Quoted false (b ∷ bs) n
  quoted_next b bs n t e h rest =
      let parts = of_some_more (verbatim_len quote t bs) n h in
      let c = rest parts.0 parts.1 in
      subst (Quoted false (b ∷ bs)) (sym parts.2) (record {
        within = omega (arith, c.within);
        form = subst (λ u. is_verbatim quote u (take parts.0 bs) ≡ true) (sym e) c.form;
        ends = c.ends;
        only = next_only parts.0 c;
      }) where
        next_only : (k : ℕ) → Quoted t bs k → (m : ℕ) → suc k ≤ m → m ≤ length (b ∷ bs) → is_verbatim quote false (take m (b ∷ bs)) ≡ true → m ≡ suc k
        next_only k c zero le within met = absurd (omega arith)
        next_only k c (suc m) le within met = ap suc (c.only m (omega arith) (omega arith) (subst (λ u. is_verbatim quote u (take m bs) ≡ true) e met))

  nothing_only : (m : ℕ) → m ≤ length {A = ℕ} [] → m ≡ 0
  nothing_only m le = omega arith

  pub verbatim_form : (closed : Bool) (bs : List ℕ) (n : ℕ) → verbatim_len quote closed bs ≡ Some n → Quoted closed bs n
  verbatim_form true [] n h = let none : 0 ≡ n = cc in subst (Quoted true []) none (record { within = omega arith; form = refl; ends = refl; only = λ m le within met. nothing_only m within })
  verbatim_form false [] n h = absurd (cc h)
  verbatim_form true (b ∷ bs) n h = quoted_pair b bs n (b == quote) refl h (λ m k. verbatim_form false bs m k)
  verbatim_form false (b ∷ bs) n h = quoted_next b bs n (b == quote) refl h (λ m k. verbatim_form (b == quote) bs m k)
