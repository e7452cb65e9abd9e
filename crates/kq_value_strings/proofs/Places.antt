-- What the bytes that agreed, and the one that didn't, say of the places of a text.
use Rattle.std.proofs.Common.{◌≡◌, ℕ, ◌+◌, ◌-◌, ◌<◌, ◌≤◌, true, false, List, length, take, drop, slice_index, max, min, sym, ap, subst, ◌∙◌, ⊎_elim, arith}
use Rattle.std.proofs.lemmas.Bool.{cases_lt}
use Rattle.std.proofs.lemmas.List.{length-drop, length-take-le}
use Rattle.memchr.specs.Critical.{IsRepeat, IsCritical, NoPeriodBelow}
use Rattle.memchr.specs.Find.{Nowhere, NoneBefore}
use Rattle.memchr.specs.TwoWay.{OccursIn}
use Rattle.kq_value_formats.specs.Strings.{occurs_at}
use Rattle.kq_value_strings.specs.declared.case.Case.{Case}
use Rattle.kq_value_strings.specs.declared.cut.Cut.{Cut}
use Rattle.kq_value_strings.specs.declared.search.Occurrence.{Occurrence}
use Rattle.kq_value_strings.specs.Case.{in_case, folded, seen, StandsBetween, HasByte}
use Rattle.kq_value_strings.specs.Cut.{IsCutOf}
use Rattle.kq_value_strings.specs.Found.{NoneBelow}
use Rattle.kq_value_strings.proofs.Cases.{length-in_case, seen-folded, seen-range}
use Rattle.kq_value_strings.proofs.Counted.{counts-none}
use Rattle.kq_value_strings.proofs.Occurs.{OccursAt-from, occurs_at-from, not_true}

module _ (x : ℕ → ℕ) (m : ℕ) (h : ℕ → ℕ) (n : ℕ) where
  -- all after the cut stands at pos: no place after it and before the next shift holds the part
  pub nowhere_between : (c s : ℕ) → IsCritical x m c → NoPeriodBelow x m s → (pos : ℕ) → ((k : ℕ) → c ≤ k → k < m → x k ≡ h (pos + k))
      → Nowhere (OccursIn x m h n) (pos + 1) (pos + s)
  nowhere_between c s critical short pos same q from below occurs =
      let d = q - pos in
      let rep : IsRepeat x m c d = λ k l a b.
      let place : pos + (k + d) ≡ q + k = omega arith in
      sym (occurs.reads k (omega arith)) ∙ ap h (sym place) ∙ sym (same (k + d) a b) in
      short d (omega arith) (omega arith) (critical d (omega arith) rep)

  -- what is known a shift later
  pub known_later : (cut : Cut) → IsCutOf x m cut → (pos : ℕ) → ((k : ℕ) → cut.critical ≤ k → k < m → x k ≡ h (pos + k))
      → (k : ℕ) → 0 ≤ k → k < cut.known → x k ≡ h (pos + cut.shift + k)
  known_later cut is pos same k low l =
      let fits = is.fits in
      let place : pos + (k + cut.shift) ≡ pos + cut.shift + k = omega arith in
      is.repeats k l ∙ same (k + cut.shift) (is.compared k l) (omega arith) ∙ ap h place

module _ (by : Case) (s t : List ℕ) (i c known : ℕ) where
  -- what stands after the cut, of which some was known and the rest was compared
  pub stands_after : (start end : ℕ) → start ≡ max c known → StandsBetween by s t i 0 known → StandsBetween by s t i start end → StandsBetween by s t i c end
  stands_after start end is before same k low high = ⊎_elim (λ early. before k (omega arith) (omega arith)) (λ late. same k late high) (cases_lt k start)

  -- what stands in all, where what was not known before the cut was compared too
  pub stands_whole : (start left end m : ℕ) → start ≡ min c known → left ≡ c → m ≤ end → StandsBetween by s t i 0 known → StandsBetween by s t i start left
      → StandsBetween by s t i c end → StandsBetween by s t i 0 m
  stands_whole start left end m is all fits before same after k low high =
      ⊎_elim
      (λ early. ⊎_elim (λ known_too. before k low known_too) (λ late. same k (omega arith) (omega arith)) (cases_lt k known))
      (λ late. after k late (omega arith))
      (cases_lt k c)

module _ (by : Case) (text part : List ℕ) where
  -- an occurrence, in the words of the search
  pub OccursIn-from : (k : ℕ) → k ≤ length text → occurs_at (in_case by text) (in_case by part) k ≡ true
      → OccursIn (seen by part) (length part) (seen by text) (length text) k
  OccursIn-from k low e =
      let n = length-in_case by text in
      let m = length-in_case by part in
      let occurs = OccursAt-from (in_case by text) (in_case by part) k (omega arith) e in
      let fits = occurs.fits in
      record { fits = omega arith; reads = λ j l. occurs.reads j (omega arith) }

  pub occurs_at-in : (k : ℕ) → k + length part ≤ length text → StandsBetween by text part k 0 (length part)
      → occurs_at (in_case by text) (in_case by part) k ≡ true
  occurs_at-in k fits same =
      let n = length-in_case by text in
      let m = length-in_case by part in
      occurs_at-from (in_case by text) (in_case by part) k (record { fits = omega arith; reads = λ j l. sym (same j (omega arith) (omega arith)) })

  -- none below a place, and nowhere up to a later one
  pub none_below-then : (which : Occurrence) (i j : ℕ) → j ≤ length text → NoneBelow which (in_case by text) (in_case by part) i
      → Nowhere (OccursIn (seen by part) (length part) (seen by text) (length text)) i j → NoneBelow which (in_case by text) (in_case by part) j
  none_below-then which i j fits below nowhere k high =
      ⊎_elim
      (λ early. below k early)
      (λ late. counts-none which (in_case by text) (in_case by part) k (not_true _ (λ e. nowhere k late high (OccursIn-from k (omega arith) e))))
      (cases_lt k i)

  -- where the byte at one place doesn't stand, the part doesn't
  pub differs-none : (k r : ℕ) → k ≤ length text → r < length part → (seen by part r ≡ seen by text (k + r) → ⊥) → occurs_at (in_case by text) (in_case by part) k ≡ false
  differs-none k r low inside differs = not_true _ (λ e. differs (sym ((OccursIn-from k low e).reads r inside)))

  -- nor at any place between
  pub nowhere_byte : (i j r : ℕ) → r < length part → Nowhere (HasByte by text part r) i j
      → Nowhere (OccursIn (seen by part) (length part) (seen by text) (length text)) i j
  nowhere_byte i j r inside nowhere k low high occurs = nowhere k low high (sym (occurs.reads r inside))

-- ---- the places at which a byte of the part stands, found in the n bytes of the text from it on

module _ (by : Case) (s t : List ℕ) (i j n : ℕ) (within : i + j + n ≤ length s) where
  length-range : length (take n (drop (i + j) s)) ≡ n
  length-range = let rest = length-drop (i + j) s in length-take-le n (drop (i + j) s) (omega arith)

  -- whether the byte stands in them
  abbrev HasSame : ℕ → Type 0
  HasSame k = folded by (slice_index t j) ≡ seen by (take n (drop (i + j) s)) k

  read-from : (d : ℕ) → d < n → HasByte by s t j (i + d) → HasSame d
  read-from d h has =
      let place : i + d + j ≡ i + j + d = omega arith in
      sym (seen-folded by t j) ∙ has ∙ ap (seen by s) place ∙ sym (seen-range by s (i + j) n d h)

  has-from : (d : ℕ) → d < n → HasSame d → HasByte by s t j (i + d)
  has-from d h reads =
      let place : i + j + d ≡ i + d + j = omega arith in
      seen-folded by t j ∙ reads ∙ seen-range by s (i + j) n d h ∙ ap (seen by s) place

  unread : (d : ℕ) → Nowhere HasSame 0 d → d ≤ n → Nowhere (HasByte by s t j) i (i + d)
  unread d nowhere fits k low high has =
      let place : i + (k - i) ≡ k = omega arith in
      nowhere (k - i) (omega arith) (omega arith) (read-from (k - i) (omega arith) (subst (HasByte by s t j) (sym place) has))

  pub candidates-none : (end : ℕ) → i + n ≡ end → Nowhere HasSame 0 (length (take n (drop (i + j) s))) → Nowhere (HasByte by s t j) i end
  candidates-none end is nowhere =
      let all = length-range in
      subst (Nowhere (HasByte by s t j) i) is (unread n (λ k low high. nowhere k low (omega arith)) (omega arith))

  pub candidate-some : (end d : ℕ) → i + n ≡ end → NoneBefore HasSame 0 (length (take n (drop (i + j) s))) d → HasSame d
      → NoneBefore (HasByte by s t j) i end (i + d) × HasByte by s t j (i + d)
  candidate-some end d is first here =
      let all = length-range in
      let high = first.high in (
        record { low = omega arith; high = omega arith; before = unread d first.before (omega arith) },
        has-from d (omega arith) here,
      )
