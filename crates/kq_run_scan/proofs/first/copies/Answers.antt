use Rattle.std.proofs.Common.{◌≡◌, ◌<◌, ℕ, List, length, map, take, ap, sym, ◌∙◌, subst, arith}
use Rattle.std.specs.List.{All, range_with_len}
use Rattle.std.specs.Result.{IfOk}
use Rattle.kq_store_rows.specs.Chunks.{row_at}
use Rattle.kq_value.specs.declared.value.Value.{Value}
use Rattle.kq_run_scan.proofs.Firsts.{first_are, first_below}
use Rattle.kq_run_scan.proofs.first.copies.Goals as goal

pub select-requires : goal.select-requires
select-requires c =
    let are : c.deref.result.now ≡ range_with_len 0 c.args.count = c.deref.ensures.value ∙ c.in_ok-places.ensures in
    subst (λ (ps : List ℕ). All (λ p. p < length c.args.rows.now) ps) (sym are) (first_below c.args.count (length c.args.rows.now) (omega arith))

pub returns : goal.returns
returns c =
    let rows = c.args.rows.now in
    let are : map (row_at rows) c.deref.result.now ≡ take c.args.count rows = ap (map (row_at rows)) (c.deref.ensures.value ∙ c.in_ok-places.ensures) ∙ first_are rows c.args.count (omega arith) in
    subst (λ (rs : List (List Value)). IfOk c.select.result (λ few. few ≡ rs)) are c.select.ensures
