-- What threads share while they gather groups may be shared, and what they hand back may go to another thread. The lemma on each type is found from
-- those on its
-- parts; where a type is seen as another, from that on what is inside.
use denote.Param.Send.{IsSend, IsSync, sendable}
use denote.Ref.{NamedLft}
use Rattle.std.proofs.Crossing.{crosses}
use Rattle.kq_value.proofs.dynamic.DynBag.TheLaws.TheKnot as dynamic_knot
use Rattle.kq_value.specs.contracts.text.Text as text
use Rattle.kq_value.specs.contracts.dynamic.Dyn as dynamic
use Rattle.kq_value.specs.contracts.dyn_box.DynBox as boxed
use Rattle.kq_value.specs.contracts.value.Value as value
use Rattle.kq_value.specs.contracts.schema.Field as field
use Rattle.kq_value.specs.contracts.row.Row as row
use Rattle.kq_plan_functions.specs.contracts.function.Function as function
use Rattle.kq_plan_expressions.proofs.expr.Expr.TheLaws.TheKnot as expr_knot
use Rattle.kq_plan_expressions.specs.contracts.expr.Expr as expr
use Rattle.kq_plan.specs.contracts.work.Aggregate as aggregate
use Rattle.kq_plan.specs.contracts.work.SortKey as sort_key
use Rattle.kq_run_aggregates.specs.contracts.element.Element as element
use Rattle.kq_run_aggregates.specs.contracts.element.Element.TheInside as element_inside
use Rattle.kq_run_aggregates.specs.contracts.set.Set as sets
use Rattle.kq_run_aggregates.specs.contracts.set.Set.TheInside as sets_inside
use Rattle.kq_run_aggregates.specs.contracts.states.States as states
use Rattle.kq_run_aggregates.specs.contracts.states.States.TheInside as states_inside
use Rattle.kq_store_hash_chains.proofs.added.Added.TheLaws.TheKnot as added_knot
use Rattle.kq_store_hash_chains.specs.contracts.added.Added as added
use Rattle.kq_store_hash_chains.specs.contracts.chain.Chain as chain
use Rattle.kq_store_hash_chains.specs.contracts.chain.Chain.TheInside as chain_inside
use Rattle.kq_store_rows.specs.contracts.rows.Rows as rows
use Rattle.kq_store_rows.specs.contracts.rows.Rows.TheInside as rows_inside
use Rattle.kq_run_groups.specs.contracts.groups.Groups as groups
use Rattle.kq_run_groups.specs.contracts.groups.Groups.TheInside as groups_inside
use Rattle.kq_store_extent.proofs.Sent.{extent_sync, held_sync as extents_sync}
use Rattle.kq_store_frame.proofs.Sent.{frame_sync}
use Rattle.kq_run_join.specs.contracts.index.Index as index
use Rattle.kq_run_join.specs.contracts.index.Index.TheInside as index_inside
use Rattle.kq_run_join.specs.contracts.lookup.Lookup as keys
use Rattle.kq_run_join.specs.contracts.lookup.Lookup.TheInside as keys_inside
use Rattle.kq_run_row_operators.specs.contracts.operator.Operator as operator
use Rattle.kq_value.specs.contracts.schema.Schema as schema
use Rattle.kq_value.specs.contracts.schema.Schema.TheInside as schema_inside
use Rattle.kq_run_scan.specs.contracts.lending.Lending as lending
use Rattle.kq_run_scan.specs.contracts.lending.Lending.TheInside as lending_inside
use Rattle.kq_run_scan.specs.contracts.held.Held as held
use Rattle.kq_run_scan.specs.contracts.held.Held.TheInside as held_inside
use Rattle.kq_run_gather.specs.contracts.arriving.Arrived as arrived
use Rattle.kq_run_gather.specs.contracts.collecting.Collected as collected
use Rattle.kq_run_gather.specs.contracts.leading.Leading as leading
use Rattle.kq_run_gather.specs.contracts.counting.Counted as counted
use Rattle.kq_run_parallel.specs.contracts.asked.Asked as asked
use Rattle.kq_run_parallel.specs.contracts.lookup.Lookup as lookup
use Rattle.kq_run_parallel.specs.contracts.paired.Pairing as pairing
use Rattle.kq_run_parallel.specs.contracts.counted.Counting as counting
use Rattle.kq_run_parallel.specs.contracts.topped.Topping as topping
use Rattle.kq_run_parallel.specs.contracts.rows.Collecting as collecting

-- ---- values and rows

text_send : IsSend text.the_row
text_send = search (sendable, crosses) depth 60 fits 20000

text_sync : IsSync text.the_row
text_sync = search (sendable, crosses) depth 60 fits 20000

dynamic_send : IsSend dynamic.the_row
dynamic_send = search (dynamic_knot.crosses, sendable, crosses) depth 60 fits 20000

dynamic_sync : IsSync dynamic.the_row
dynamic_sync = search (dynamic_knot.crosses, sendable, crosses) depth 60 fits 20000

boxed_send : IsSend boxed.the_row
boxed_send = search (dynamic_send, dynamic_sync, sendable, crosses) depth 60 fits 20000

boxed_sync : IsSync boxed.the_row
boxed_sync = search (dynamic_send, dynamic_sync, sendable, crosses) depth 60 fits 20000

value_send : IsSend value.the_row
value_send = search (text_send, boxed_send, sendable, crosses) depth 60 fits 20000

value_sync : IsSync value.the_row
value_sync = search (text_sync, boxed_sync, sendable, crosses) depth 60 fits 20000

value_field_sync : IsSync value.the_field.row
value_field_sync = search (text_sync, boxed_sync, sendable, crosses) depth 60 fits 20000

row_send : IsSend row.the_row
row_send = search (value_send, sendable, crosses) depth 60 fits 20000

rows_inside_send : IsSend rows_inside.the_row
rows_inside_send = search (value_send, sendable, crosses) depth 60 fits 20000

rows_inside_sync : IsSync rows_inside.the_row
rows_inside_sync = search (value_sync, sendable, crosses) depth 60 fits 20000

rows_send : IsSend rows.the_row
rows_send = search (rows_inside_send, sendable, crosses) depth 60 fits 20000

rows_sync : IsSync rows.the_row
rows_sync = search (rows_inside_sync, sendable, crosses) depth 60 fits 20000

pub field_sync : IsSync field.the_row
field_sync = search (text_sync, sendable, crosses) depth 60 fits 20000

-- ---- rows

schema_inside_sync : IsSync schema_inside.the_row
schema_inside_sync = search (field_sync, sendable, crosses) depth 60 fits 20000

schema_sync : IsSync schema.the_row
schema_sync = search (schema_inside_sync, sendable, crosses) depth 60 fits 20000

lending_inside_sync : IsSync lending_inside.the_row
lending_inside_sync = search (extents_sync, schema_sync, sendable, crosses) depth 60 fits 20000

lending_sync : IsSync lending.the_row
lending_sync = search (lending_inside_sync, sendable, crosses) depth 60 fits 20000

held_inside_sync : IsSync held_inside.the_row
held_inside_sync = search (rows_sync, frame_sync, lending_sync, sendable, crosses) depth 60 fits 20000

held_sync : IsSync held.the_row
held_sync = search (held_inside_sync, sendable, crosses) depth 60 fits 20000

-- ---- what is asked

function_sync : IsSync function.the_field.row
function_sync = search (sendable, crosses) depth 400 fits 100000

expr_sync : IsSync expr.the_row
expr_sync = search (expr_knot.crosses, text_sync, boxed_sync, function_sync, sendable, crosses) depth 400 fits 100000

expr_field_sync : IsSync expr.the_field.row
expr_field_sync = search (expr_knot.crosses, value_field_sync, function_sync, sendable, crosses) depth 400 fits 100000

aggregate_sync : IsSync aggregate.the_row
aggregate_sync = search (expr_field_sync, sendable, crosses) depth 60 fits 20000

sort_key_sync : IsSync sort_key.the_row
sort_key_sync = search (expr_field_sync, sendable, crosses) depth 60 fits 20000

operator_sync : (l : NamedLft) → IsSync (operator.the_row l)
operator_sync l = search (expr_sync, sendable, crosses) depth 60 fits 20000

pub asked_sync : (l : NamedLft) → IsSync (asked.the_row l)
asked_sync l = search (operator_sync, expr_sync, aggregate_sync, field_sync, value_sync, held_sync, sendable, crosses) depth 60 fits 20000

pub counting_sync : (l : NamedLft) → IsSync (counting.the_row l)
counting_sync l = search (operator_sync, value_sync, held_sync, sendable, crosses) depth 60 fits 20000

pub collecting_sync : (l : NamedLft) → IsSync (collecting.the_row l)
collecting_sync l = search (operator_sync, value_sync, held_sync, sendable, crosses) depth 60 fits 20000

pub topping_sync : (l : NamedLft) → IsSync (topping.the_row l)
topping_sync l = search (operator_sync, sort_key_sync, value_sync, held_sync, sendable, crosses) depth 60 fits 20000

-- ---- what comes of it

pub counted_send : IsSend counted.the_row
counted_send = search (sendable, crosses) depth 60 fits 20000

pub collected_send : IsSend collected.the_row
collected_send = search (rows_send, sendable, crosses) depth 60 fits 20000

pub leading_send : IsSend leading.the_row
leading_send = search (rows_send, sendable, crosses) depth 60 fits 20000

element_inside_send : IsSend element_inside.the_row
element_inside_send = search (text_send, boxed_send, sendable, crosses) depth 60 fits 20000

element_send : IsSend element.the_row
element_send = search (element_inside_send, sendable, crosses) depth 60 fits 20000

sets_inside_send : IsSend sets_inside.the_row
sets_inside_send = search (element_send, sendable, crosses) depth 60 fits 20000

sets_send : IsSend sets.the_row
sets_send = search (sets_inside_send, sendable, crosses) depth 60 fits 20000

states_inside_send : IsSend states_inside.the_row
states_inside_send = search (sets_send, row_send, value_send, sendable, crosses) depth 60 fits 20000

states_send : IsSend states.the_row
states_send = search (states_inside_send, sendable, crosses) depth 60 fits 20000

added_send : IsSend added.the_row
added_send = search (added_knot.crosses, crosses, sendable) depth 60 fits 20000

chain_inside_send : IsSend chain_inside.the_row
chain_inside_send = search (added_send, added_knot.crosses, sendable, crosses) depth 60 fits 20000

chain_send : IsSend chain.the_row
chain_send = search (chain_inside_send, sendable, crosses) depth 60 fits 20000

groups_inside_send : IsSend groups_inside.the_row
groups_inside_send = search (chain_send, rows_send, states_send, sendable, crosses) depth 60 fits 20000

groups_send : IsSend groups.the_row
groups_send = search (groups_inside_send, sendable, crosses) depth 60 fits 20000

pub arrived_send : IsSend arrived.the_row
arrived_send = search (groups_send, sendable, crosses) depth 60 fits 20000

-- ---- groups that are looked up

row_sync : IsSync row.the_row
row_sync = search (value_sync, sendable, crosses) depth 60 fits 20000

element_inside_sync : IsSync element_inside.the_row
element_inside_sync = search (text_sync, boxed_sync, sendable, crosses) depth 60 fits 20000

element_sync : IsSync element.the_row
element_sync = search (element_inside_sync, sendable, crosses) depth 60 fits 20000

sets_inside_sync : IsSync sets_inside.the_row
sets_inside_sync = search (element_sync, sendable, crosses) depth 60 fits 20000

sets_sync : IsSync sets.the_row
sets_sync = search (sets_inside_sync, sendable, crosses) depth 60 fits 20000

states_inside_sync : IsSync states_inside.the_row
states_inside_sync = search (sets_sync, row_sync, value_sync, sendable, crosses) depth 60 fits 20000

states_sync : IsSync states.the_row
states_sync = search (states_inside_sync, sendable, crosses) depth 60 fits 20000

added_sync : IsSync added.the_row
added_sync = search (added_knot.crosses, crosses, sendable) depth 60 fits 20000

chain_inside_sync : IsSync chain_inside.the_row
chain_inside_sync = search (added_sync, added_knot.crosses, sendable, crosses) depth 60 fits 20000

chain_sync : IsSync chain.the_row
chain_sync = search (chain_inside_sync, sendable, crosses) depth 60 fits 20000

groups_inside_sync : IsSync groups_inside.the_row
groups_inside_sync = search (chain_sync, rows_sync, states_sync, sendable, crosses) depth 60 fits 20000

groups_sync : IsSync groups.the_row
groups_sync = search (groups_inside_sync, sendable, crosses) depth 60 fits 20000

pub lookup_sync : (l : NamedLft) → IsSync (lookup.the_row l)
lookup_sync l = search (groups_sync, sendable, crosses) depth 60 fits 20000

-- ---- partners that are looked up

index_inside_sync : (l : NamedLft) → IsSync (index_inside.the_row l)
index_inside_sync l = search (rows_sync, chain_sync, sendable, crosses) depth 60 fits 20000

index_sync : (l : NamedLft) → IsSync (index.the_row l)
index_sync l = search (index_inside_sync, sendable, crosses) depth 60 fits 20000

keys_inside_sync : (l : NamedLft) → IsSync (keys_inside.the_row l)
keys_inside_sync l = search (index_sync, sendable, crosses) depth 60 fits 20000

keys_sync : (l : NamedLft) → IsSync (keys.the_row l)
keys_sync l = search (keys_inside_sync, sendable, crosses) depth 60 fits 20000

pub pairing_sync : (l : NamedLft) → IsSync (pairing.the_row l)
pairing_sync l = search (keys_sync, rows_sync, frame_sync, extent_sync, field_sync, sendable, crosses) depth 60 fits 20000
