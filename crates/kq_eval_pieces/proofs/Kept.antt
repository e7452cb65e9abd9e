-- The rows at the places of the true values are those that a filter keeps.
use Rattle.std.proofs.Common.{◌≡◌, ◌<◌, ◌≤◌, ◌+◌, ◌-◌, ℕ, zero, suc, Bool, true, false, cond, Err, List, [], ◌∷◌, ◌++◌, map, length, get_or, take, drop, refl, sym, ap, ◌∙◌, subst, arith, append-nil, append_assoc}
use Rattle.std.proofs.lemmas.List.{length-map}
use Rattle.std.proofs.lemmas.List.Elements.{All-nil, All-cons}
use Rattle.std.specs.List.{All}
use Rattle.kq_value.specs.declared.value.Value.{Value}
use Rattle.kq_value.specs.declared.value.Value.TheVariants.{Bool as Truth}
use Rattle.kq_eval_columns.specs.kq_value_arithmetic.Logic.{is_yes}
use Rattle.kq_value.specs.Computed.{Computed, Is, Overflow, and_then, each, Answers, AnswersAs}
use Rattle.kq_value.specs.declared.fault.EvalFault.{EvalFault}
use Rattle.kq_value.specs.declared.fault.EvalFault.TheVariants as faults
use Rattle.kq_plan_expressions.specs.Terms.{Term}
use Rattle.kq_store_rows.specs.Chunks.{row_at}
use Rattle.kq_eval_columns.specs.kq_eval_row.Val.{Surroundings, meaning, cell_of}
use Rattle.kq_eval_pieces.specs.Operators.{filtered}
use Rattle.kq_eval_pieces.specs.Pieces.{places_true, places_where}
use Rattle.kq_eval_pieces.proofs.Laws.{up_to, each_long, piece_counts}

if_append : (b : Bool) (k : ℕ) (ps qs : List ℕ) → cond b (k ∷ ps ++ qs) (ps ++ qs) ≡ cond b (k ∷ ps) ps ++ qs
if_append true k ps qs = refl
if_append false k ps qs = refl

-- the places of two lists one after another
places_append : (vs ws : List Value) (from n : ℕ) → from + length vs ≡ n → places_true from (vs ++ ws) ≡ places_true from vs ++ places_true n ws
places_append [] ws from n h = let same : from ≡ n = omega arith in ap (λ (k : ℕ). places_true k ws) same
places_append (v ∷ vs) ws from n h =
    ap (λ ps. cond (is_yes v) (from ∷ ps) ps) (places_append vs ws (from + 1) n (omega arith)) ∙ if_append (is_yes v) from (places_true (from + 1) vs) (places_true n ws)

-- all places of so many values
places_within : (k n : ℕ) (vs : List Value) → k + length vs ≤ n → All (λ p. p < n) (places_true k vs)
places_within k n [] h = All-nil (λ (p : ℕ). p < n)
places_within k n (v ∷ vs) h = either (is_yes v) (places_within (k + 1) n vs (omega arith))
  where
    either : (b : Bool) → All (λ p. p < n) (places_true (k + 1) vs) → All (λ p. p < n) (cond b (k ∷ places_true (k + 1) vs) (places_true (k + 1) vs))
    either true rest = All-cons (λ p. p < n) k (places_true (k + 1) vs) (omega arith) rest
    either false rest = rest

-- one value more has been looked at
pub places_step : (whole made : List ℕ) (from i : ℕ) (cells : List Value) (v : Value) → i < length cells → whole ≡ made ++ places_true (from + i) (drop i cells) → v ≡ cell_of cells i
    → whole ≡ (made ++ cond (is_yes v) ((from + i) ∷ []) []) ++ places_true (from + suc i) (drop (suc i) cells)
places_step whole made from i cells v h is e =
    let on : (from + i) + 1 ≡ from + suc i = omega arith in
    is ∙ ap (λ vs. made ++ places_true (from + i) vs) (next cells i h)
    ∙ (λ j. made ++ cond (is_yes (e' j)) ((from + i) ∷ places_true (on j) (drop (suc i) cells)) (places_true (on j) (drop (suc i) cells)))
    ∙ ap (λ ps. made ++ ps) (apart (is_yes v) (from + i) (places_true (from + suc i) (drop (suc i) cells)))
    ∙ sym (append_assoc made (cond (is_yes v) ((from + i) ∷ []) []) (places_true (from + suc i) (drop (suc i) cells)))
  where
    e' : cell_of cells i ≡ v
    e' = sym e

    next : (cells : List Value) (i : ℕ) → i < length cells → drop i cells ≡ cell_of cells i ∷ drop (suc i) cells
    next [] i h = absurd (omega arith)
    next (x ∷ xs) zero h = refl
    next (x ∷ xs) (suc i) h = next xs i (omega arith)

    apart : (b : Bool) (k : ℕ) (ps : List ℕ) → cond b (k ∷ ps) ps ≡ cond b (k ∷ []) [] ++ ps
    apart true k ps = refl
    apart false k ps = refl

-- the cell of a truth
truth_at : (truths : List Bool) (i : ℕ) → i < length truths → Truth (get_or truths i false) ≡ cell_of (map Truth truths) i
truth_at [] i h = absurd (omega arith)
truth_at (b ∷ bs) zero h = refl
truth_at (b ∷ bs) (suc i) h = truth_at bs i (omega arith)

yes_is : (b : Bool) → is_yes (Truth b) ≡ b
yes_is true = refl
yes_is false = refl

-- one truth more has been looked at
pub truths_step : (whole made : List ℕ) (from i : ℕ) (truths : List Bool) → i < length truths → whole ≡ made ++ places_true (from + i) (drop i (map Truth truths))
    → whole ≡ (made ++ cond (get_or truths i false) ((from + i) ∷ []) []) ++ places_true (from + suc i) (drop (suc i) (map Truth truths))
truths_step whole made from i truths h is =
    let n = length-map truths Truth in
    places_step whole made from i (map Truth truths) (Truth (get_or truths i false)) (omega (arith, n, h)) is (truth_at truths i h)
    ∙ ap (λ (b : Bool). (made ++ cond b ((from + i) ∷ []) []) ++ places_true (from + suc i) (drop (suc i) (map Truth truths))) (yes_is (get_or truths i false))

pub places_all : (whole made : List ℕ) (from i : ℕ) (cells : List Value) → length cells ≤ i → whole ≡ made ++ places_true (from + i) (drop i cells) → made ≡ whole
places_all whole made from i cells h is = sym (is ∙ ap (λ vs. made ++ places_true (from + i) vs) (none cells i h) ∙ append-nil made)
  where
    none : (cells : List Value) (i : ℕ) → length cells ≤ i → drop i cells ≡ []
    none [] zero h = refl
    none [] (suc i) h = refl
    none (x ∷ xs) zero h = absurd (omega arith)
    none (x ∷ xs) (suc i) h = none xs i (omega arith)

module _ {A : Type 0} (f : A → Computed Value) where
  abbrev pub rest_of : List A → ℕ → List ℕ → Computed (List ℕ)
  rest_of xs from made = and_then (each f (drop from xs)) (λ vs. Is (made ++ places_true from vs))

  joined : (made : List ℕ) (vs : List Value) (from to : ℕ) (o : Computed (List Value)) → from + length vs ≡ to
      → and_then (and_then o (λ others. Is (vs ++ others))) (λ ws. Is (made ++ places_true from ws)) ≡ and_then o (λ ws. Is ((made ++ places_true from vs) ++ places_true to ws))
  joined made vs from to Overflow h = refl
  joined made vs from to (Is ws) h = ap Is (ap (λ ps. made ++ ps) (places_append vs ws from to h) ∙ sym (append_assoc made (places_true from vs) (places_true to ws)))

  pub places_more : (whole : Computed (List ℕ)) (xs : List A) (from to : ℕ) (made : List ℕ) (vs : List Value) → from ≤ to → to ≤ length xs
      → whole ≡ rest_of xs from made → each f (take (to - from) (drop from xs)) ≡ Is vs → whole ≡ rest_of xs to (made ++ places_true from vs)
  places_more whole xs from to made vs low high h e =
      let count = piece_counts f xs from to vs low high e in
      h ∙ ap (λ o. and_then o (λ ws. Is (made ++ places_true from ws))) (up_to f xs from to low ∙ ap (λ o. and_then o (λ vs. and_then (each f (drop to xs)) (λ others. Is (vs ++ others)))) e)
      ∙ joined made vs from to (each f (drop to xs)) (omega arith)

  pub places_fault : {V W : Type 0} (see : V → List ℕ) (saw : W → List Value) (whole : Computed (List ℕ)) (xs : List A) (from to : ℕ) (made : List ℕ) (fault : EvalFault) → from ≤ to
      → whole ≡ rest_of xs from made → AnswersAs saw (each f (take (to - from) (drop from xs))) (Err fault) → AnswersAs see whole (Err fault)
  places_fault see saw whole xs from to made faults.Memory low h e = tt
  places_fault see saw whole xs from to made faults.Overflow low h e =
      h ∙ ap (λ o. and_then o (λ ws. Is (made ++ places_true from ws))) (up_to f xs from to low ∙ ap (λ o. and_then o (λ vs. and_then (each f (drop to xs)) (λ others. Is (vs ++ others)))) e)

  pub places_end : (whole : Computed (List ℕ)) (xs : List A) (from : ℕ) (made : List ℕ) → length xs ≤ from → whole ≡ rest_of xs from made → whole ≡ Is made
  places_end whole xs from made h is = is ∙ rw (none xs from h) (ap Is (append-nil made))
    where
      none : (xs : List A) (i : ℕ) → length xs ≤ i → drop i xs ≡ []
      none [] zero h = refl
      none [] (suc i) h = refl
      none (x ∷ xs) zero h = absurd (omega arith)
      none (x ∷ xs) (suc i) h = none xs i (omega arith)

  pub places_in : (xs : List A) (ps : List ℕ) → places_where f xs ≡ Is ps → All (λ p. p < length xs) ps
  places_in xs ps h = go (each f xs) refl h
    where
      go : (o : Computed (List Value)) → each f xs ≡ o → and_then o (λ vs. Is (places_true 0 vs)) ≡ Is ps → All (λ p. p < length xs) ps
      go Overflow e h = absurd cc
      go (Is vs) e h =
          let same : places_true 0 vs ≡ ps = cc in
          let long = each_long f xs vs e in
          subst (λ (ps : List ℕ). All (λ p. p < length xs) ps) same (places_within 0 (length xs) vs (omega arith))

-- what a filter keeps, by the places of the true values
module _ (e : Term) (s : Surroundings) (g : ℕ → List Value) where
  chosen : (b : Bool) (k : ℕ) (r : List Value) (ps : List ℕ) → g k ≡ r → cond b (r ∷ map g ps) (map g ps) ≡ map g (cond b (k ∷ ps) ps)
  chosen true k r ps is = ap (λ x. x ∷ map g ps) (sym is)
  chosen false k r ps is = refl

  kept_step : (o : Computed Value) (os : Computed (List Value)) (r : List Value) (k : ℕ) → g k ≡ r
      → and_then o (λ v. and_then (and_then os (λ vs. Is (map g (places_true (k + 1) vs)))) (λ others. Is (cond (is_yes v) (r ∷ others) others)))
      ≡ and_then (and_then o (λ v. and_then os (λ vs. Is (v ∷ vs)))) (λ vs. Is (map g (places_true k vs)))
  kept_step Overflow os r k is = refl
  kept_step (Is v) Overflow r k is = refl
  kept_step (Is v) (Is vs) r k is = ap Is (chosen (is_yes v) k r (places_true (k + 1) vs) is)

  kept_from : (rows : List (List Value)) (k : ℕ) → ((i n : ℕ) → n ≡ k + i → g n ≡ get_or rows i []) → filtered e s rows ≡ and_then (each (meaning e s) rows) (λ vs. Is (map g (places_true k vs)))
  kept_from [] k h = refl
  kept_from (r ∷ rows) k h =
      ap (λ os. and_then (meaning e s r) (λ v. and_then os (λ others. Is (cond (is_yes v) (r ∷ others) others)))) (kept_from rows (k + 1) (λ i n is. h (suc i) n (omega arith)))
      ∙ kept_step (meaning e s r) (each (meaning e s) rows) r k (h 0 k (omega arith))

module _ (e : Term) (s : Surroundings) (rows : List (List Value)) where
  kept : filtered e s rows ≡ and_then (each (meaning e s) rows) (λ vs. Is (map (row_at rows) (places_true 0 vs)))
  kept = kept_from e s (row_at rows) rows 0 (λ i n is. let back : n ≡ i = omega arith in ap (row_at rows) back)

  pub kept_rows : (ps : List ℕ) → places_where (meaning e s) rows ≡ Is ps → filtered e s rows ≡ Is (map (row_at rows) ps)
  kept_rows ps h = kept ∙ go (each (meaning e s) rows) h
    where
      go : (o : Computed (List Value)) → and_then o (λ vs. Is (places_true 0 vs)) ≡ Is ps → and_then o (λ vs. Is (map (row_at rows) (places_true 0 vs))) ≡ Is (map (row_at rows) ps)
      go Overflow h = absurd cc
      go (Is vs) h = let same : places_true 0 vs ≡ ps = cc in ap (λ ps. Is (map (row_at rows) ps)) same

  pub kept_fault : {V : Type 0} (see : V → List ℕ) (fault : EvalFault) → AnswersAs see (places_where (meaning e s) rows) (Err fault) → Answers (filtered e s rows) (Err fault)
  kept_fault see faults.Memory h = tt
  kept_fault see faults.Overflow h = kept ∙ go (each (meaning e s) rows) h
    where
      go : (o : Computed (List Value)) → and_then o (λ vs. Is (places_true 0 vs)) ≡ Overflow → and_then o (λ vs. Is (map (row_at rows) (places_true 0 vs))) ≡ Overflow
      go Overflow h = refl
      go (Is vs) h = absurd cc
