use Rattle.std.proofs.Common.{rules}
use Rattle.std.proofs.lemmas.Result.{IfOk-weaker}
use Rattle.std.specs.Ordering.{nat_cmp, on, then_cmp}
use Rattle.kq_run_sort.specs.declared.placed.Placed.{Placed}
use Rattle.kq_run_sort.specs.Entries.{placed_before, placed_cmp}
use Rattle.kq_run_sort.proofs.Least.{FirstInOrder-whole}
use Rattle.kq_run_sort.proofs.Picked.{first_by}
use Rattle.kq_run_sort.proofs.Ranked.{placed_total}
use Rattle.kq_run_sort.proofs.first.first_entries.Goals as goal

pub returns-then-count-len : goal.returns-then-count-len
returns-then-count-len c =
    IfOk-weaker c.sort_first.result _ _ (λ few up. first_by (then_cmp placed_cmp (on (λ (e : Placed). e.place) nat_cmp)) placed_total c.args.count c.args.entries.items few.items up (λ a r q k. search rules)) c.sort_first.ensures

pub returns-else-count-len : goal.returns-else-count-len
returns-else-count-len c =
    IfOk-weaker c.in_order.result _ _ (λ few first. FirstInOrder-whole placed_before c.args.count c.args.entries.items few.items (search rules) first) c.in_order.ensures
