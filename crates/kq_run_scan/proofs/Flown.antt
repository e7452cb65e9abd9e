-- What comes through row operators of rows that are read in parts.
use Rattle.std.proofs.Common.{◌≡◌, ◌<◌, ◌≤◌, ℕ, min, List, [], length, take, refl, sym, subst, ap, ◌∙◌, arith, length-append}
use Rattle.std.specs.List.{All}
use Rattle.std.proofs.lemmas.List.{length-take}
use Rattle.kq_run_row_operators.specs.kq_eval_pieces.Operators.{Row}
use Rattle.kq_run_row_operators.specs.kq_eval_row.Val.{Surroundings}
use Rattle.kq_run_row_operators.specs.Operators.{Rowwise}
use Rattle.kq_run_row_operators.specs.Ran.{Ran, came, failed, joined, ran, width_in_end}
use Rattle.kq_run_row_operators.proofs.Laws.{joined_assoc, joined_first, ran_append, ran_failed, ran_none, ran_take, ran_wide}
use Rattle.kq_store_rows.specs.Chunks.{HasWidth}
use Rattle.kq_run_scan.specs.Flowing.{Flows, flowing}
use Rattle.kq_run_scan.specs.Opened.{IsOpen}
use Rattle.kq_run_scan.specs.Ruled.{LeavesNothing}
use Rattle.kq_run_scan.specs.Unread.{UnreadView, IsRead}

module _ (os : List Rowwise) (s : Surroundings) where
  pub none_left : (rows : List Row) → rows ≡ [] → ran os s rows ≡ came []
  none_left rows none = ap (ran os s) none ∙ ran_none os s

  in_parts : (old new : UnreadView) (part : List Row) → IsRead old part new → ran os s old.rows ≡ joined (ran os s part) (ran os s new.rows)
  in_parts old new part read = ap (ran os s) read.rows ∙ ran_append os s part new.rows

  -- what came of a part
  pub part_came : (old new : UnreadView) (part out : List Row) → IsOpen os s old part new → came out ≡ ran os s part → Flows (flowing os s old) out (flowing os s new)
  part_came old new part out read is = record {
    to_come = read.comes ∙ ap (λ (r : Ran). joined r (ran os s new.rows)) (sym is);
    fewer = read.fewer;
    wide = ran_wide os s old.width part out read.wide (sym is);
    width = ap (width_in_end os) read.width;
  }

  -- an operator fails on a part
  pub part_failed : (old new : UnreadView) (part : List Row) (n m : ℕ) → IsOpen os s old part new → failed n ≡ ran os s part → joined (failed n) (ran os s new.rows) ≡ failed m → ran os s old.rows ≡ failed m
  part_failed old new part n m read is rest = read.comes ∙ ap (λ (r : Ran). joined r (ran os s new.rows)) (sym is) ∙ rest

  -- the least number behind one part more
  pub least_next : (old new : UnreadView) (part : List Row) (n m : ℕ) → IsRead old part new → joined (failed n) (ran os s part) ≡ failed m → joined (failed n) (ran os s old.rows) ≡ joined (failed m) (ran os s new.rows)
  least_next old new part n m read is =
      ap (λ (r : Ran). joined (failed n) r) (in_parts old new part read) ∙ sym (joined_assoc (failed n) (ran os s part) (ran os s new.rows)) ∙ ap (λ (r : Ran). joined r (ran os s new.rows)) is

  pub least_came : (first : ℕ) (part out : List Row) → came out ≡ ran (take first os) s part → joined (failed first) (ran os s part) ≡ failed first
  least_came first part out is = ran_take os s first part ∙ ap (λ (r : Ran). joined (failed first) r) (sym is)

  pub less : (first : ℕ) (part : List Row) (n : ℕ) → failed n ≡ ran (take first os) s part → n < first
  less first part n is = let b = ran_failed (take first os) s part n (sym is) in omega (arith, b, length-take first os)

  pub least_failed : (first : ℕ) (part : List Row) (n : ℕ) → failed n ≡ ran (take first os) s part → joined (failed first) (ran os s part) ≡ failed n
  least_failed first part n is =
      let b = less first part n is in
      let least : min first n ≡ n = omega (arith, b) in
      ran_take os s first part ∙ ap (λ (r : Ran). joined (failed first) r) (sym is) ∙ ap failed least

-- ---- parts that are passed over

-- nothing comes of what has been passed over
pub record IsPassed (os : List Rowwise) (s : Surroundings) (old new : UnreadView) : Type 0 where
  pub same : ran os s old.rows ≡ ran os s new.rows
  pub fewer : length new.rows ≤ length old.rows
  pub width : new.width ≡ old.width

pub passed_first : (os : List Rowwise) (s : Surroundings) (all : UnreadView) → IsPassed os s all all
passed_first os s all = record { same = refl; fewer = omega arith; width = refl }

pub passed_more : (os : List Rowwise) (s : Surroundings) (old between new : UnreadView) (part : List Row) → IsPassed os s old between → IsRead between part new → LeavesNothing os s part → IsPassed os s old new
passed_more os s old between new part passed read nothing = record {
  same = passed.same ∙ in_parts os s between new part read ∙ ap (λ (r : Ran). joined r (ran os s new.rows)) nothing ∙ joined_first (ran os s new.rows);
  fewer = let n = ap length read.rows in omega (arith, n, length-append part new.rows, passed.fewer);
  width = read.width ∙ passed.width;
}

pub passed_all : (os : List Rowwise) (s : Surroundings) (old between : UnreadView) → IsPassed os s old between → between.rows ≡ [] → LeavesNothing os s old.rows
passed_all os s old between passed none = passed.same ∙ none_left os s between.rows none

pub opened : (os : List Rowwise) (s : Surroundings) (old between new : UnreadView) (part : List Row) → IsPassed os s old between → IsRead between part new → IsOpen os s old part new
opened os s old between new part passed read = record {
  comes = passed.same ∙ in_parts os s between new part read;
  fewer = let n = ap length read.rows in omega (arith, n, length-append part new.rows, read.some, passed.fewer);
  wide = subst (λ (w : ℕ). All (HasWidth w) part) passed.width read.wide;
  width = read.width ∙ passed.width;
}
