-- The laws are proved over the definition.
use Rattle.kq_run_sort.specs.Orders.{keys_at}
use Rattle.kq_run_laws.proofs.Sorts.{order_from, order_to, top_from, top_to}
use Rattle.kq_run_laws.proofs.Summaries.{each_lost, lost_each}
use Rattle.kq_run_laws.proofs.laws.sorts_are_in_order_of_their_keys.Goals as goal

pub returns-clause-sort : goal.returns-clause-sort
returns-clause-sort c ks s rows out = (order_from ks s rows out, order_to ks s rows out)

pub returns-clause-top : goal.returns-clause-top
returns-clause-top c n k s rows few = (top_from n k s rows few, top_to n k s rows few)

pub returns-clause-overflow : goal.returns-clause-overflow
returns-clause-overflow c ks s rows = (each_lost (keys_at ks s) rows, lost_each (keys_at ks s) rows)
