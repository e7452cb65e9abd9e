-- What stands of groups is said of keys and arguments beside each other.
use Rattle.std.proofs.Common.{sym, subst, ℕ}
use Rattle.kq_run_groups.specs.Groups.{rows_from}
use Rattle.kq_run_gather.specs.Bodies.{MadeBy, aggregates_of, alone, columns_made, keys_of}
use Rattle.kq_run_gather.proofs.Regrouped.{grouped_all, keyed_parts}
use Rattle.kq_run_gather.specs.kq_run_row_operators.Ran.{Ran}
use Rattle.kq_run_laws.proofs.Groups.{keys_from}
use Rattle.kq_run_laws.specs.Groups.{AreGroupKeys}
use Rattle.kq_run_laws.proofs.laws.groups_have_the_keys_of_their_rows.Goals as goal

pub returns-clause-keys : goal.returns-clause-keys
returns-clause-keys c es gs ts s rows g of = record {
  keys = of.keys;
  keyed = (keyed_parts es gs s rows of.keys of.args of.keyed_so).0;
  one_each = subst (λ (width : ℕ). AreGroupKeys width of.keys g.keys) of.width_is (keys_from g.width of.keys g.keys of.stands.of_rows);
}

pub returns-clause-views : goal.returns-clause-views
returns-clause-views c body rows g stands =
    subst (λ (r : Ran). MadeBy body r (rows_from g.states g.keys 0)) (sym stands.came_so) (grouped_all (keys_of body) (aggregates_of body) (columns_made body) alone stands.left g stands.groups)
