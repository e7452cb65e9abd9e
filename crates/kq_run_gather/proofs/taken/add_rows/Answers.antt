use Rattle.std.proofs.Common.{◌≡◌, ◌<◌, ◌++◌, ◌∷◌, ◌∙◌, ℕ, List, [], length, take, ap, sym, subst, arith, append_assoc}
use Rattle.std.specs.List.{All}
use Rattle.std.proofs.lemmas.List.{take_all, take_more}
use Rattle.kq_value.specs.Computed.{Is, each}
use Rattle.kq_run_scan.specs.kq_eval_row.Val.{Surroundings}
use Rattle.kq_run_sort.specs.Leading.{Lead}
use Rattle.kq_run_sort.specs.Orders.{keys_at}
use Rattle.kq_run_sort.proofs.Leading.{key_at_place}
use Rattle.kq_plan.specs.Plans.{sorting_of}
use Rattle.kq_store_rows.specs.Chunks.{HasWidth, row_at}
use Rattle.kq_value.specs.declared.value.Value.{Value}
use Rattle.kq_store_column_view.specs.Vectors.{cells_of}
use Rattle.kq_run_scan.specs.kq_eval_pieces.Operators.{Row}
use Rattle.kq_run_gather.proofs.taken.add_rows.Goals as goal

pub add_row-requires-clause-wide : goal.add_row-requires-clause-wide
add_row-requires-clause-wide g c =
    let rows = g.R.Relation.rows c.args.piece.now in
    let i = c.loop-i.i in
    let w = c.requires.wide.0 in
    let within : i < length rows = omega (arith, c.loop-i-test.true, c.len-i-end.ensures, c.requires.along) in
    let wide = c.loop-i.invariant.wide w c.requires.wide.1 c.requires.wide.2 in
    subst (λ (n : ℕ). All (HasWidth n) c.loop-i.leaders.rows) (sym (c.requires.wide.2 i [] within)) wide

pub loop-i-preserved : goal.loop-i-preserved
loop-i-preserved g c =
    let rows = g.R.Relation.rows c.args.piece.now in
    let i = c.loop-i.i in
    let k = sorting_of c.args.key.now in
    let v = c.in_ok-cell.field-0 in
    let within : i < length rows = omega (arith, c.loop-i-test.true, c.len-i-end.ensures, c.requires.along) in
    record {
      lead = λ n s all is lead.
          let key : keys_at (k ∷ []) s (row_at rows i) ≡ Is (v ∷ []) = subst (λ (x : Value). keys_at (k ∷ []) s (row_at rows i) ≡ Is (x ∷ [])) (sym c.in_ok-cell.ensures) (key_at_place k s rows (cells_of c.args.values.now) is i [] within) in
          let next = c.in_ok-add_row.ensures.lead n s (all ++ take i rows) key (c.loop-i.invariant.lead n s all is lead) in
          subst (λ (rs : List Row). Lead n k s rs c.add_row.new.leaders) (append_assoc all (take i rows) (row_at rows i ∷ []) ∙ ap (λ (rs : List Row). all ++ rs) (sym (take_more rows i [] within))) next;
      wide = λ w old piece. subst (λ (n : ℕ). All (HasWidth n) c.add_row.new.leaders.rows) (piece i [] within) c.in_ok-add_row.ensures.wide;
      none = c.in_ok-add_row.ensures.none;
    }
