-- The body of a view as a plan: what it makes of rows, it may give over a world where its table gives these.
use Rattle.std.proofs.Common.{◌≡◌, ◌+◌, ℕ, pos, suc, Bool, true, false, List, [], ◌∷◌, ◌++◌, Some, length, refl, sym, ap, ◌∙◌, subst, arith, length-append}
use Rattle.std.specs.List.{All}
use Rattle.std.proofs.lemmas.Bool.{false≢true}
use Rattle.std.proofs.lemmas.List.Elements.{All-head, All-tail}
use Rattle.kq_value.specs.Computed.{Computed, Is, Overflow}
use Rattle.kq_run_gather.proofs.Regrouped.{summarized_lost}
use Rattle.kq_run_gather.specs.Bodies.{Chained, FailsAt, IsBody, MadeBy, MadeOf, OverflowsAt, aggregates_in, alone, is_body_step, is_summarize, keys_in}
use Rattle.kq_run_gather.specs.Grouping.{Summarized, keyed}
use Rattle.kq_run_gather.specs.Steps.{flows_from, is_rowwise, last_of, operators_of, stage_at}
use Rattle.kq_plan.specs.declared.work.LeafKind.TheVariants as kind
use Rattle.kq_plan.specs.Plans.{Doing, Planned, Stepping, apart, kept, leaf, mapped, summarized, topped}
use Rattle.kq_run_gather.specs.kq_run_row_operators.Ran.{Ran, came, failed, ran}
use Rattle.kq_value.specs.declared.schema.Field.{Field}
use Rattle.kq_value.proofs.SameLemmas.{Same-refl}
use Rattle.kq_run_plan.specs.declared.outcome.Outcome.{Outcome}
use Rattle.kq_run_plan.specs.declared.outcome.Outcome.TheVariants as outcome
use Rattle.kq_run_plan.specs.Gives.{Case, Does, Follows, Gives, World}
use Rattle.kq_run_plan.specs.Operators.{in_stage}
use Rattle.kq_run_plan.specs.Outcomes.{Row}
use Rattle.kq_run_plan.specs.Stretches.{Closes, ComesTo, Linked, flows_into}
use Rattle.kq_run_plan.proofs.Stretched.{stretch_follows}

-- ---- its steps in a row

rowwise : (d : Doing) → is_body_step d ≡ true → is_rowwise d ≡ true
rowwise (kept i e) is = refl
rowwise (mapped i es) is = refl
rowwise d is = absurd (false≢true is)

into : (d : Doing) (n : ℕ) → flows_from d ≡ Some n → flows_into d ≡ Some n
into (topped i m k) n from = absurd cc
into (apart i is) n from = absurd cc
into d n from = from

abbrev ByRow : Stepping → Type 0
ByRow s = is_body_step s.doing ≡ true

linked : (n : ℕ) (xs : List Stepping) (l : Stepping) → All ByRow xs → Chained n (xs ++ l ∷ []) → Linked (suc n) (xs ++ l ∷ [])
linked n [] l wise chain = tt
linked n (x ∷ []) l wise chain = (rowwise x.doing (All-head ByRow x [] wise), into l.doing (suc n) chain.1.0, tt)
linked n (x ∷ y ∷ xs) l wise chain = (rowwise x.doing (All-head ByRow x (y ∷ xs) wise), into y.doing (suc n) chain.1.0, linked (suc n) (y ∷ xs) l (All-tail ByRow x (y ∷ xs) wise) chain.1)

last_tail : (xs : List Stepping) (l : Stepping) → last_of (xs ++ l ∷ []) ≡ l
last_tail [] l = refl
last_tail (x ∷ []) l = refl
last_tail (x ∷ y ∷ xs) l = last_tail (y ∷ xs) l

-- ---- what comes to its end

closes : (d : Doing) (stage : ℕ) (cs : List Field) (ordered : Bool) (left : List Row) (c : Computed (List Row)) → is_summarize d ≡ true → Summarized (keys_in d) (aggregates_in d) cs alone left c
    → Closes d stage cs alone ordered left (in_stage stage false c)
closes (summarized i es gs) stage cs ordered left c is so = record { came = c; grouped_so = so; is = refl }
closes d stage cs ordered left c is so = absurd (false≢true is)

module _ (source s : Stepping) (ss : List Stepping) (n : ℕ) (ends : is_summarize (last_of (s ∷ ss)).doing ≡ true) where
  abbrev plan : Planned
  plan = record { steps = source ∷ s ∷ ss; output = n }

  abbrev last : Stepping
  last = last_of (s ∷ ss)

  comes_made : (ordered : Bool) (r : Ran) (out : List Row) → MadeBy plan r (Is out) → ComesTo (s ∷ ss) alone ordered r (outcome.Table false out)
  comes_made ordered (came left) out so = closes last.doing last.stage last.columns _ left (Is out) ends so
  comes_made ordered (failed m) out so = absurd cc

  comes_over : (ordered : Bool) (r : Ran) (stage : ℕ) → FailsAt plan r stage → ComesTo (s ∷ ss) alone ordered r (outcome.Overflow stage)
  comes_over ordered (came left) stage (over, at) =
      subst (λ (k : ℕ). ComesTo (s ∷ ss) alone ordered (came left) (outcome.Overflow k)) (sym at)
      (closes last.doing last.stage last.columns _ left Overflow ends (summarized_lost (keys_in last.doing) (aggregates_in last.doing) last.columns alone left over))
  comes_over ordered (failed m) stage at = ap (λ (k : ℕ). outcome.Overflow k) at

  -- an overflow, at some stage
  record ComesLost (ordered : Bool) (r : Ran) : Type 0 where
    stage : ℕ
    comes : ComesTo (s ∷ ss) alone ordered r (outcome.Overflow stage)

  comes_lost : (ordered : Bool) (r : Ran) → MadeBy plan r Overflow → ComesLost ordered r
  comes_lost ordered (came left) so = record { stage = last.stage; comes = closes last.doing last.stage last.columns _ left Overflow ends so }
  comes_lost ordered (failed m) so = record { stage = stage_at (s ∷ ss) m; comes = refl }

-- ---- over a world

module _ (w : World) (source : Stepping) (table : List ℕ) (columns : List Field) (rows : List Row) (reads : source.doing ≡ leaf kind.Table table) (under : source.columns ≡ columns) (given : w table kind.Table columns (Is rows)) where
  abbrev Read : Outcome
  Read = outcome.Table false rows

  read : Case w (pos 0) [] [] source Read
  read =
      subst (λ (d : Doing). Does w (pos 0) [] [] source.stage source.columns d Read) (sym reads)
      (subst (λ (cs : List Field). Does w (pos 0) [] [] source.stage cs (leaf kind.Table table) Read) (sym under) (Is rows, given, (rows, Same-refl rows, refl)))

  follows : (xs : List Stepping) (l : Stepping) (o : Outcome) → All ByRow xs → Chained 0 (xs ++ l ∷ []) → ComesTo (xs ++ l ∷ []) alone false (ran (operators_of (xs ++ l ∷ [])) alone rows) o
      → Follows w (pos 0) [] [] (source ∷ (xs ++ l ∷ [])) (suc (length xs)) o
  follows [] l o wise chain comes = (Read, read, stretch_follows w (pos 0) (source ∷ []) (Read ∷ []) l [] 0 1 o (into l.doing 0 chain.0) tt refl comes)
  follows (x ∷ xs) l o wise chain comes =
      let n = length-append xs (l ∷ []) in
      (Read, read, stretch_follows w (pos 0) (source ∷ []) (Read ∷ []) x (xs ++ l ∷ []) 0 (suc (length (x ∷ xs))) o (into x.doing 0 chain.0) (linked 0 (x ∷ xs) l wise chain) (omega (arith, n)) comes)

-- ---- a body

module _ (table : List ℕ) (columns : List Field) (p : Planned) (b : IsBody table columns p) (w : World) (rows : List Row) (given : w table kind.Table columns (Is rows)) where
  abbrev whole : List Stepping → Planned
  whole xs = record { steps = b.source ∷ (xs ++ b.last ∷ []); output = suc (length xs) }

  is_whole : p ≡ whole b.by_row
  is_whole = λ i. record { steps = b.steps i; output = b.output i }

  ends_so : is_summarize (last_of (b.by_row ++ b.last ∷ [])).doing ≡ true
  ends_so = ap (λ (s : Stepping). is_summarize s.doing) (last_tail b.by_row b.last) ∙ b.groups

  gives : (o : Outcome) → ComesTo (b.by_row ++ b.last ∷ []) alone false (ran (operators_of (b.by_row ++ b.last ∷ [])) alone rows) o → Gives p w (pos 0) o
  gives o comes = subst (λ (q : Planned). Gives q w (pos 0) o) (sym is_whole) (follows w b.source table columns rows b.reads b.under given b.by_row b.last o b.rows_only b.chained comes)

  made_so : (xs : List Stepping) (out : List Row) → is_summarize (last_of (xs ++ b.last ∷ [])).doing ≡ true → MadeOf (whole xs) rows (Is out)
      → ComesTo (xs ++ b.last ∷ []) alone false (ran (operators_of (xs ++ b.last ∷ [])) alone rows) (outcome.Table false out)
  made_so [] out ends so = comes_made b.source b.last [] 1 ends false _ out so
  made_so (x ∷ xs) out ends so = comes_made b.source x (xs ++ b.last ∷ []) (suc (length (x ∷ xs))) ends false _ out so

  -- what it makes of the rows
  pub body_gives : (out : List Row) → MadeOf p rows (Is out) → Gives p w (pos 0) (outcome.Table false out)
  body_gives out so = gives (outcome.Table false out) (made_so b.by_row out ends_so (subst (λ (q : Planned). MadeOf q rows (Is out)) is_whole so))

  over_so : (xs : List Stepping) (stage : ℕ) → is_summarize (last_of (xs ++ b.last ∷ [])).doing ≡ true → OverflowsAt (whole xs) rows stage
      → ComesTo (xs ++ b.last ∷ []) alone false (ran (operators_of (xs ++ b.last ∷ [])) alone rows) (outcome.Overflow stage)
  over_so [] stage ends over = comes_over b.source b.last [] 1 ends false _ stage over
  over_so (x ∷ xs) stage ends over = comes_over b.source x (xs ++ b.last ∷ []) (suc (length (x ∷ xs))) ends false _ stage over

  -- an overflow of an operator, a key or an argument, at its stage
  pub body_overflows : (stage : ℕ) → OverflowsAt p rows stage → Gives p w (pos 0) (outcome.Overflow stage)
  body_overflows stage over = gives (outcome.Overflow stage) (over_so b.by_row stage ends_so (subst (λ (q : Planned). OverflowsAt q rows stage) is_whole over))

  pub record GivesOverflow : Type 0 where
    pub stage : ℕ
    pub gives_so : Gives p w (pos 0) (outcome.Overflow stage)

  lost_so : (xs : List Stepping) → is_summarize (last_of (xs ++ b.last ∷ [])).doing ≡ true → MadeOf (whole xs) rows Overflow
      → (stage : ℕ) × ComesTo (xs ++ b.last ∷ []) alone false (ran (operators_of (xs ++ b.last ∷ [])) alone rows) (outcome.Overflow stage)
  lost_so [] ends so = let lost = comes_lost b.source b.last [] 1 ends false _ so in (lost.stage, lost.comes)
  lost_so (x ∷ xs) ends so = let lost = comes_lost b.source x (xs ++ b.last ∷ []) (suc (length (x ∷ xs))) ends false _ so in (lost.stage, lost.comes)

  -- any overflow, at some stage
  pub body_lost : MadeOf p rows Overflow → GivesOverflow
  body_lost so =
      let (stage, comes) = lost_so b.by_row ends_so (subst (λ (q : Planned). MadeOf q rows Overflow) is_whole so) in
      record { stage = stage; gives_so = gives (outcome.Overflow stage) comes }
