-- The first rows in an order, of rows that come a piece at a time.
use Rattle.std.proofs.Common.{◌≡◌, ◌++◌, ◌∙◌, ℕ, min, IfOk, List, [], OnOk, Result, Ok, Err, refl, sym, ap, subst, append_assoc}
use Rattle.std.specs.List.{All}
use Rattle.std.specs.declared.alloc.AllocError.{AllocError}
use Rattle.std.proofs.lemmas.List.Elements.{All-append, All-nil}
use Rattle.kq_value.specs.Computed.{AnswersAs, Is, Overflow, each}
use Rattle.kq_value.specs.declared.fault.EvalFault.{EvalFault}
use Rattle.kq_value.specs.declared.fault.EvalFault.TheVariants as fault
use Rattle.kq_run_scan.specs.Flowing.{Flowing, Flows}
use Rattle.kq_run_scan.specs.Sources.{source_rows}
use Rattle.kq_run_scan.specs.Yielded.{Yields}
use Rattle.kq_run_scan.specs.declared.flow.Next.{Next}
use Rattle.kq_run_scan.specs.declared.flow.Next.TheVariants as next
use Rattle.kq_run_scan.specs.declared.source.Source.{Source}
use Rattle.kq_run_scan.specs.kq_eval_pieces.Operators.{Row}
use Rattle.kq_run_scan.specs.kq_eval_row.Val.{Surroundings, meaning, surroundings}
use Rattle.kq_run_sort.proofs.Leading.{lead_wide, lost_among, lost_in_first, lost_in_rest, topped_both}
use Rattle.kq_run_sort.specs.Answered.{AnswersOne}
use Rattle.kq_run_sort.specs.Leading.{Lead, Settles, TakesIn}
use Rattle.kq_run_sort.specs.Orders.{Topped}
use Rattle.kq_run_sort.specs.declared.leaders.Leaders.{Leaders}
use Rattle.kq_plan.specs.Plans.{Sorting, sorting_of}
use Rattle.kq_store_rows.specs.Chunks.{HasWidth}
use Rattle.kq_run_row_operators.proofs.Laws.{ran_append}
use Rattle.kq_run_row_operators.specs.Pieces.{rows_in}
use Rattle.kq_run_row_operators.specs.declared.piece.Piece.{Piece}
use Rattle.kq_run_row_operators.specs.Ran.{Ran, came, failed, joined}
use Rattle.kq_store_column_view.specs.Vectors.{cells_of}
use Rattle.kq_store_column_view.specs.declared.vector.Vector.{Vector}
use Rattle.kq_run_gather.specs.Leading.{Advance, AreFirst, HaveWidth, LeadTogether, LeadsAs, LeadsTo, TopsOf, lost_before}
use Rattle.kq_run_gather.specs.Pipelines.{ran_through, width_through}
use Rattle.kq_run_gather.specs.declared.leading.Top.{Top}
use Rattle.kq_run_gather.specs.declared.leading.Leading.{Leading}
use Rattle.kq_run_gather.specs.declared.leading.Leading.TheVariants as leading
use Rattle.kq_run_gather.proofs.Pieces.{all_came, at_first, piece_came, piece_due}

-- what holds anyway does on success
pub whatever : {A E : Type 0} (answer : Result A E) (P : Type 0) → P → OnOk answer P
whatever (Ok done) P p = p
whatever (Err met) P p = tt

module _ (n : ℕ) (k : Sorting) (s : Surroundings) where
  -- ---- a piece more

  -- a key that overflows on a row of a piece does so on one of all rows
  pub piece_lost : (rows : List Row) (old new : Leaders) (met : EvalFault) → AnswersAs {A = Vector} cells_of (each (meaning k.value s) rows) (Err met) → TakesIn n k s rows old new (Err met)
  piece_lost rows old new fault.Overflow lost = λ all more. lost_among n k s rows all more lost
  piece_lost rows old new fault.Memory lost = tt

  pub advance_lost : (rows : List Row) (old new : Leaders) (met : EvalFault) → TakesIn n k s rows old new (Err met) → Advance n k s rows old new (Err met)
  advance_lost rows old new fault.Overflow lost = λ all more lead. lost all more
  advance_lost rows old new fault.Memory lost = tt

  pub advance_settled : (rows : List Row) (old mid new : Leaders) (done : Unit {0}) (answer : Result (Unit {0}) EvalFault) → TakesIn n k s rows old mid (Ok done) → Settles n k s mid new answer → Advance n k s rows old new answer
  advance_settled rows old mid new done (Ok settled) takes settles = λ all lead. settles (all ++ rows) (takes all lead)
  advance_settled rows old mid new done (Err fault.Overflow) takes lost = λ all more lead. subst (λ (rs : List Row). Topped n k s rs Overflow) (append_assoc all rows more) (lost (all ++ rows) more (takes all lead))
  advance_settled rows old mid new done (Err fault.Memory) takes lost = tt

  -- ---- how far it is

  -- what leads of the rows that have come
  pub record Reached (whole now : Flowing) (l : Leaders) : Type 0 where
    pub all : List Row
    pub so_far : whole.to_come ≡ joined (came all) now.to_come
    pub lead : Lead n k s all l
    pub came_wide : All (HasWidth whole.width) all
    pub wide : All (HasWidth whole.width) l.rows
    pub width : now.width ≡ whole.width

  pub reached_first : (whole : Flowing) (l : Leaders) → Lead n k s [] l → l.rows ≡ [] → Reached whole whole l
  reached_first whole l lead none = record {
    all = [];
    so_far = at_first whole.to_come;
    lead = lead;
    came_wide = All-nil (HasWidth whole.width);
    wide = subst (All (HasWidth whole.width)) (sym none) (All-nil (HasWidth whole.width));
    width = refl;
  }

  pub piece_wide : (whole old new : Flowing) (l : Leaders) (x : Next) (piece : Piece Source) → Reached whole old l → Yields old new x → x ≡ next.Piece piece → All (HasWidth whole.width) (rows_in source_rows piece)
  piece_wide whole old new l x piece reached yields is =
      let more : Flows old (rows_in source_rows piece) new = subst (Yields old new) is yields in
      subst (λ (w : ℕ). All (HasWidth w) (rows_in source_rows piece)) reached.width more.wide

  pub reached_more : (whole old new : Flowing) (l end : Leaders) (x : Next) (piece : Piece Source) (done : Unit {0}) → Reached whole old l → Yields old new x → x ≡ next.Piece piece
      → Advance n k s (rows_in source_rows piece) l end (Ok done) → All (HasWidth whole.width) end.rows → Reached whole new end
  reached_more whole old new l end x piece done reached yields is takes wide =
      let more : Flows old (rows_in source_rows piece) new = subst (Yields old new) is yields in
      record {
        all = reached.all ++ rows_in source_rows piece;
        so_far = piece_came whole.to_come old new x piece reached.all reached.so_far yields is;
        lead = takes reached.all reached.lead;
        came_wide = All-append (HasWidth whole.width) reached.all (rows_in source_rows piece) reached.came_wide (piece_wide whole old new l x piece reached yields is);
        wide = wide;
        width = more.width ∙ reached.width;
      }

  -- at the end
  pub reached_end : (whole old new : Flowing) (l : Leaders) (x : Next) (answer : Result Leading AllocError) (reached : Reached whole old l) → Yields old new x → x ≡ next.End
      → IfOk answer (LeadsTo whole.width n k s (came reached.all)) → IfOk answer (LeadsTo whole.width n k s whole.to_come)
  reached_end whole old new l x answer reached yields is ends =
      subst (λ (r : Ran). IfOk answer (LeadsTo whole.width n k s r)) (sym (all_came whole.to_come old.to_come reached.all reached.so_far (subst (Yields old new) is yields))) ends

  -- where an operator fails
  pub reached_failure : (whole old new : Flowing) (l : Leaders) (x : Next) (m : ℕ) → Reached whole old l → Yields old new x → x ≡ next.Failed m → LeadsTo whole.width n k s whole.to_come (leading.Failed m)
  reached_failure whole old new l x m reached yields is =
      let end : old.to_come ≡ failed m = subst (Yields old new) is yields in
      subst (λ (r : Ran). LeadsTo whole.width n k s r (leading.Failed m)) (sym (reached.so_far ∙ ap (joined (came reached.all)) end)) refl

  -- at an overflow
  overflow_at : (w : ℕ) (before piece : List Row) (rest : Ran) → ((more : List Row) → Topped n k s (before ++ (piece ++ more)) Overflow) → LeadsTo w n k s (joined (came before) (joined (came piece) rest)) (lost_before rest)
  overflow_at w before piece (came after) lost = lost after
  overflow_at w before piece (failed m) lost = refl

  overflows_at : (w : ℕ) (whole rest : Ran) (before piece : List Row) (answer : Result Leading AllocError) → whole ≡ joined (came before) (joined (came piece) rest) → ((more : List Row) → Topped n k s (before ++ (piece ++ more)) Overflow)
      → IfOk answer (λ l. l ≡ lost_before rest) → IfOk answer (LeadsTo w n k s whole)
  overflows_at w whole rest before piece (Ok l) all lost is =
      subst (λ (r : Ran). LeadsTo w n k s r l) (sym all) (subst (LeadsTo w n k s (joined (came before) (joined (came piece) rest))) (sym is) (overflow_at w before piece rest lost))
  overflows_at w whole rest before piece (Err e) all lost is = tt

  pub reached_lost : (whole old new : Flowing) (l end : Leaders) (x : Next) (piece : Piece Source) (met : EvalFault) (answer : Result Leading AllocError) → Reached whole old l → Yields old new x → x ≡ next.Piece piece
      → Advance n k s (rows_in source_rows piece) l end (Err met) → met ≡ fault.Overflow → IfOk answer (λ a. a ≡ lost_before new.to_come) → IfOk answer (LeadsTo whole.width n k s whole.to_come)
  reached_lost whole old new l end x piece met answer reached yields is lost over rest =
      let so = subst (λ (f : EvalFault). Advance n k s (rows_in source_rows piece) l end (Err f)) over lost in
      overflows_at whole.width whole.to_come new.to_come reached.all (rows_in source_rows piece) answer (piece_due whole.to_come old new x piece reached.all reached.so_far yields is)
      (λ more. so reached.all more reached.lead) rest

  -- ---- rows in two parts

  pub have_width : (w : ℕ) (r : Ran) (l : Leading) → LeadsTo w n k s r l → HaveWidth w l
  have_width w (came rows) (leading.Rows first) leads = leads.1
  have_width w (failed m) (leading.Rows first) leads = absurd leads
  have_width w r leading.Overflow leads = tt
  have_width w r (leading.Failed m) leads = tt

  first_wide : (w : ℕ) (all : List Row) (l : Leading) → All (HasWidth w) all → AreFirst n k s all l → LeadsTo w n k s (came all) l
  first_wide w all (leading.Rows first) wide topped = (topped, lead_wide w n k s all first topped wide)
  first_wide w all leading.Overflow wide lost = lost
  first_wide w all (leading.Failed m) wide none = none

  pub first_came : (w : ℕ) (all : List Row) (answer : Result Leading AllocError) → All (HasWidth w) all → IfOk answer (AreFirst n k s all) → IfOk answer (LeadsTo w n k s (came all))
  first_came w all (Ok l) wide first = first_wide w all l wide first
  first_came w all (Err e) wide first = tt

  -- the first of both parts' first ones are the first of all
  both_first : (xs ys first rest : List Row) (l : Leading) → Topped n k s xs (Is first) → Topped n k s ys (Is rest) → AreFirst n k s (first ++ rest) l → AreFirst n k s (xs ++ ys) l
  both_first xs ys first rest (leading.Rows few) a b both = topped_both n k s xs ys first rest (Is few) a b both
  both_first xs ys first rest leading.Overflow a b both = topped_both n k s xs ys first rest Overflow a b both
  both_first xs ys first rest (leading.Failed m) a b both = both

  few_wide : (w : ℕ) (first rest : List Row) (all : List Row) (l : Leading) → All (HasWidth w) first → All (HasWidth w) rest → AreFirst n k s (first ++ rest) l → AreFirst n k s all l → LeadsTo w n k s (came all) l
  few_wide w first rest all (leading.Rows few) a b both topped = (topped, lead_wide w n k s (first ++ rest) few both (All-append (HasWidth w) first rest a b))
  few_wide w first rest all leading.Overflow a b both lost = lost
  few_wide w first rest all (leading.Failed m) a b both none = none

module _ (t : Top) (w : ℕ) where
  abbrev n : ℕ
  n = t.count

  abbrev k : Sorting
  k = sorting_of t.key.now

  abbrev s : Surroundings
  s = surroundings t.pipeline.moment t.pipeline.lets.now

  pub leads_joined : (r q : Ran) (a b c : Leading) → LeadsAs t w r a → LeadsAs t w q b → LeadTogether t a b c → LeadsAs t w (joined r q) c
  leads_joined (came xs) (came ys) (leading.Rows first) (leading.Rows rest) c p q both =
      few_wide n k s w first rest (xs ++ ys) c p.1 q.1 both (both_first n k s xs ys first rest c p.0 q.0 both)
  leads_joined (came xs) (came ys) (leading.Rows first) leading.Overflow c p q is = subst (LeadsAs t w (came (xs ++ ys))) (sym is) (lost_in_rest n k s xs ys q)
  leads_joined (came xs) (came ys) (leading.Rows first) (leading.Failed m) c p q is = absurd q
  leads_joined (came xs) (came ys) leading.Overflow (leading.Rows rest) c p q is = subst (LeadsAs t w (came (xs ++ ys))) (sym is) (lost_in_first n k s xs ys p)
  leads_joined (came xs) (came ys) leading.Overflow leading.Overflow c p q is = subst (LeadsAs t w (came (xs ++ ys))) (sym is) (lost_in_first n k s xs ys p)
  leads_joined (came xs) (came ys) leading.Overflow (leading.Failed m) c p q is = absurd q
  leads_joined (came xs) (came ys) (leading.Failed l) b c p q is = absurd p
  leads_joined (came xs) (failed j) (leading.Rows first) (leading.Failed m) c p q is = subst (LeadsAs t w (failed j)) (sym is) q
  leads_joined (came xs) (failed j) leading.Overflow (leading.Failed m) c p q is = subst (LeadsAs t w (failed j)) (sym is) q
  leads_joined (came xs) (failed j) (leading.Failed l) b c p q is = absurd p
  leads_joined (came xs) (failed j) (leading.Rows first) (leading.Rows rest) c p q is = absurd q
  leads_joined (came xs) (failed j) (leading.Rows first) leading.Overflow c p q is = absurd q
  leads_joined (came xs) (failed j) leading.Overflow (leading.Rows rest) c p q is = absurd q
  leads_joined (came xs) (failed j) leading.Overflow leading.Overflow c p q is = absurd q
  leads_joined (failed i) r (leading.Rows first) b c p q is = absurd p
  leads_joined (failed i) r leading.Overflow b c p q is = absurd p
  leads_joined (failed i) (came ys) (leading.Failed l) (leading.Rows rest) c p q is = subst (LeadsAs t w (failed i)) (sym is) p
  leads_joined (failed i) (came ys) (leading.Failed l) leading.Overflow c p q is = subst (LeadsAs t w (failed i)) (sym is) p
  leads_joined (failed i) (came ys) (leading.Failed l) (leading.Failed m) c p q is = absurd q
  leads_joined (failed i) (failed j) (leading.Failed l) (leading.Rows rest) c p q is = absurd q
  leads_joined (failed i) (failed j) (leading.Failed l) leading.Overflow c p q is = absurd q
  leads_joined (failed i) (failed j) (leading.Failed l) (leading.Failed m) c p q is = subst (LeadsAs t w (failed (min i j))) (sym is) (λ x. min (p x) (q x))

-- the whole rows in two parts
pub tops_joined : (t : Top) (whole rows xs ys : List Row) (a b : Leading) (answer : Result Leading AllocError) → rows ≡ xs ++ ys → TopsOf t whole xs a → TopsOf t whole ys b → IfOk answer (LeadTogether t a b) → IfOk answer (TopsOf t whole rows)
tops_joined t whole rows xs ys a b (Ok c) is p q both =
    let w = width_through t.pipeline whole in
    subst (λ (r : Ran). LeadsAs t w r c) (sym (ap (ran_through t.pipeline) is ∙ ran_append _ _ xs ys)) (leads_joined t w (ran_through t.pipeline xs) (ran_through t.pipeline ys) a b c p q both)
tops_joined t whole rows xs ys a b (Err e) is p q both = tt
