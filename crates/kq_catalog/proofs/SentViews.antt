-- Views with their parts, and the entries of policies, may go to another thread, and many threads may share them. The lemma on each type is found
-- from those on
-- its parts; where a type is seen as another, from that on what is inside.
use denote.Param.Send.{IsSend, IsSync, sendable}
use Rattle.std.proofs.Crossing.{crosses}
use Rattle.kq_value.proofs.dynamic.DynBag.TheLaws.TheKnot as dynamic_knot
use Rattle.kq_value.specs.contracts.text.Text as text
use Rattle.kq_value.specs.contracts.dynamic.Dyn as dynamic
use Rattle.kq_value.specs.contracts.dyn_box.DynBox as boxed
use Rattle.kq_value.specs.contracts.value.Value as value
use Rattle.kq_value.specs.contracts.row.Row as row
use Rattle.kq_plan_functions.specs.contracts.function.Function as function
use Rattle.kq_plan_expressions.proofs.expr.Expr.TheLaws.TheKnot as expr_knot
use Rattle.kq_plan_expressions.specs.contracts.expr.Expr as expr
use Rattle.kq_plan.specs.contracts.work.SortKey as sort_key
use Rattle.kq_plan.specs.contracts.work.Aggregate as aggregate
use Rattle.kq_plan.specs.contracts.work.Arm as arm
use Rattle.kq_plan.specs.contracts.work.Work as work
use Rattle.kq_plan.specs.contracts.plan.Step as step
use Rattle.kq_plan.specs.contracts.plan.Plan as plan
use Rattle.kq_run_aggregates.specs.contracts.element.Element as element
use Rattle.kq_run_aggregates.specs.contracts.element.Element.TheInside as element_inside
use Rattle.kq_run_aggregates.specs.contracts.set.Set as sets
use Rattle.kq_run_aggregates.specs.contracts.set.Set.TheInside as sets_inside
use Rattle.kq_run_aggregates.specs.contracts.states.States as states
use Rattle.kq_run_aggregates.specs.contracts.states.States.TheInside as states_inside
use Rattle.kq_store_hash_chains.proofs.added.Added.TheLaws.TheKnot as added_knot
use Rattle.kq_store_hash_chains.specs.contracts.added.Added as added
use Rattle.kq_store_hash_chains.specs.contracts.chain.Chain as chain
use Rattle.kq_store_hash_chains.specs.contracts.chain.Chain.TheInside as chain_inside
use Rattle.kq_store_rows.specs.contracts.rows.Rows as rows
use Rattle.kq_store_rows.specs.contracts.rows.Rows.TheInside as rows_inside
use Rattle.kq_run_groups.specs.contracts.aggregated.Aggregated as aggregated
use Rattle.kq_run_groups.specs.contracts.aggregated.Aggregated.TheInside as aggregated_inside
use Rattle.kq_run_groups.specs.contracts.groups.Groups as groups
use Rattle.kq_run_groups.specs.contracts.groups.Groups.TheInside as groups_inside
use Rattle.kq_run_shards.specs.contracts.parted.Parted as parted
use Rattle.kq_run_shards.specs.contracts.parted.Parted.TheInside as parted_inside
use Rattle.kq_catalog_journal.specs.contracts.batch.Noted as noted
use Rattle.kq_catalog_journal.specs.contracts.policy.Due as due
use Rattle.kq_catalog_journal.specs.contracts.policy.Entry as entry
use Rattle.kq_catalog_journal.specs.contracts.policy.Entries as entries
use Rattle.kq_catalog_journal.specs.contracts.policy.Entries.TheInside as entries_inside
use Rattle.kq_catalog_journal.specs.contracts.view.View as view
use Rattle.kq_catalog_journal.specs.contracts.view.SharedView as shared_view
use Rattle.kq_catalog_journal.specs.contracts.view.SharedView.TheInside as shared_view_inside

text_send : IsSend text.the_row
text_send = search (sendable, crosses) depth 60 fits 20000

text_sync : IsSync text.the_row
text_sync = search (sendable, crosses) depth 60 fits 20000

dynamic_send : IsSend dynamic.the_row
dynamic_send = search (dynamic_knot.crosses, sendable, crosses) depth 60 fits 20000

dynamic_sync : IsSync dynamic.the_row
dynamic_sync = search (dynamic_knot.crosses, sendable, crosses) depth 60 fits 20000

boxed_send : IsSend boxed.the_row
boxed_send = search (dynamic_send, dynamic_sync, sendable, crosses) depth 60 fits 20000

boxed_sync : IsSync boxed.the_row
boxed_sync = search (dynamic_send, dynamic_sync, sendable, crosses) depth 60 fits 20000

value_send : IsSend value.the_row
value_send = search (text_send, boxed_send, sendable, crosses) depth 60 fits 20000

value_sync : IsSync value.the_row
value_sync = search (text_sync, boxed_sync, sendable, crosses) depth 60 fits 20000

value_field_send : IsSend value.the_field.row
value_field_send = search (text_send, boxed_send, sendable, crosses) depth 60 fits 20000

value_field_sync : IsSync value.the_field.row
value_field_sync = search (text_sync, boxed_sync, sendable, crosses) depth 60 fits 20000

function_send : IsSend function.the_field.row
function_send = search (sendable, crosses) depth 400 fits 100000

function_sync : IsSync function.the_field.row
function_sync = search (sendable, crosses) depth 400 fits 100000

expr_send : IsSend expr.the_row
expr_send = search (expr_knot.crosses, text_send, boxed_send, function_send, sendable, crosses) depth 400 fits 100000

expr_sync : IsSync expr.the_row
expr_sync = search (expr_knot.crosses, text_sync, boxed_sync, function_sync, sendable, crosses) depth 400 fits 100000

expr_field_send : IsSend expr.the_field.row
expr_field_send = search (expr_knot.crosses, value_field_send, function_send, sendable, crosses) depth 400 fits 100000

expr_field_sync : IsSync expr.the_field.row
expr_field_sync = search (expr_knot.crosses, value_field_sync, function_sync, sendable, crosses) depth 400 fits 100000

sort_key_send : IsSend sort_key.the_row
sort_key_send = search (expr_field_send, sendable, crosses) depth 60 fits 20000

sort_key_sync : IsSync sort_key.the_row
sort_key_sync = search (expr_field_sync, sendable, crosses) depth 60 fits 20000

aggregate_send : IsSend aggregate.the_row
aggregate_send = search (expr_field_send, sendable, crosses) depth 60 fits 20000

aggregate_sync : IsSync aggregate.the_row
aggregate_sync = search (expr_field_sync, sendable, crosses) depth 60 fits 20000

arm_send : IsSend arm.the_row
arm_send = search (sendable, crosses) depth 60 fits 20000

arm_sync : IsSync arm.the_row
arm_sync = search (sendable, crosses) depth 60 fits 20000

work_field_send : IsSend work.the_field.row
work_field_send = search (text_send, value_send, expr_send, expr_field_send, sort_key_send, aggregate_send, arm_send, sendable, crosses) depth 100 fits 50000

work_field_sync : IsSync work.the_field.row
work_field_sync = search (text_sync, value_sync, expr_sync, expr_field_sync, sort_key_sync, aggregate_sync, arm_sync, sendable, crosses) depth 100 fits 50000

step_send : IsSend step.the_row
step_send = search (text_send, work_field_send, sendable, crosses) depth 60 fits 20000

step_sync : IsSync step.the_row
step_sync = search (text_sync, work_field_sync, sendable, crosses) depth 60 fits 20000

plan_send : IsSend plan.the_field.row
plan_send = search (step_send, sendable, crosses) depth 60 fits 20000

plan_sync : IsSync plan.the_field.row
plan_sync = search (step_sync, sendable, crosses) depth 60 fits 20000

element_inside_send : IsSend element_inside.the_row
element_inside_send = search (text_send, boxed_send, sendable, crosses) depth 60 fits 20000

element_inside_sync : IsSync element_inside.the_row
element_inside_sync = search (text_sync, boxed_sync, sendable, crosses) depth 60 fits 20000

element_send : IsSend element.the_row
element_send = search (element_inside_send, sendable, crosses) depth 60 fits 20000

element_sync : IsSync element.the_row
element_sync = search (element_inside_sync, sendable, crosses) depth 60 fits 20000

sets_inside_send : IsSend sets_inside.the_row
sets_inside_send = search (element_send, sendable, crosses) depth 60 fits 20000

sets_inside_sync : IsSync sets_inside.the_row
sets_inside_sync = search (element_sync, sendable, crosses) depth 60 fits 20000

sets_send : IsSend sets.the_row
sets_send = search (sets_inside_send, sendable, crosses) depth 60 fits 20000

sets_sync : IsSync sets.the_row
sets_sync = search (sets_inside_sync, sendable, crosses) depth 60 fits 20000

row_send : IsSend row.the_row
row_send = search (value_send, sendable, crosses) depth 60 fits 20000

row_sync : IsSync row.the_row
row_sync = search (value_sync, sendable, crosses) depth 60 fits 20000

states_inside_send : IsSend states_inside.the_row
states_inside_send = search (sets_send, row_send, value_send, sendable, crosses) depth 60 fits 20000

states_inside_sync : IsSync states_inside.the_row
states_inside_sync = search (sets_sync, row_sync, value_sync, sendable, crosses) depth 60 fits 20000

states_send : IsSend states.the_row
states_send = search (states_inside_send, sendable, crosses) depth 60 fits 20000

states_sync : IsSync states.the_row
states_sync = search (states_inside_sync, sendable, crosses) depth 60 fits 20000

added_send : IsSend added.the_row
added_send = search (added_knot.crosses, crosses, sendable) depth 60 fits 20000

chain_inside_send : IsSend chain_inside.the_row
chain_inside_send = search (added_send, added_knot.crosses, sendable, crosses) depth 60 fits 20000

added_sync : IsSync added.the_row
added_sync = search (added_knot.crosses, crosses, sendable) depth 60 fits 20000

chain_inside_sync : IsSync chain_inside.the_row
chain_inside_sync = search (added_sync, added_knot.crosses, sendable, crosses) depth 60 fits 20000

chain_send : IsSend chain.the_row
chain_send = search (chain_inside_send, sendable, crosses) depth 60 fits 20000

chain_sync : IsSync chain.the_row
chain_sync = search (chain_inside_sync, sendable, crosses) depth 60 fits 20000

rows_inside_send : IsSend rows_inside.the_row
rows_inside_send = search (value_send, sendable, crosses) depth 60 fits 20000

rows_inside_sync : IsSync rows_inside.the_row
rows_inside_sync = search (value_sync, sendable, crosses) depth 60 fits 20000

rows_send : IsSend rows.the_row
rows_send = search (rows_inside_send, sendable, crosses) depth 60 fits 20000

rows_sync : IsSync rows.the_row
rows_sync = search (rows_inside_sync, sendable, crosses) depth 60 fits 20000

groups_inside_send : IsSend groups_inside.the_row
groups_inside_send = search (chain_send, rows_send, states_send, sendable, crosses) depth 60 fits 20000

groups_inside_sync : IsSync groups_inside.the_row
groups_inside_sync = search (chain_sync, rows_sync, states_sync, sendable, crosses) depth 60 fits 20000

groups_send : IsSend groups.the_row
groups_send = search (groups_inside_send, sendable, crosses) depth 60 fits 20000

groups_sync : IsSync groups.the_row
groups_sync = search (groups_inside_sync, sendable, crosses) depth 60 fits 20000

aggregated_inside_send : IsSend aggregated_inside.the_row
aggregated_inside_send = search (sendable, crosses) depth 60 fits 20000

aggregated_inside_sync : IsSync aggregated_inside.the_row
aggregated_inside_sync = search (sendable, crosses) depth 60 fits 20000

aggregated_send : IsSend aggregated.the_row
aggregated_send = search (aggregated_inside_send, sendable, crosses) depth 60 fits 20000

aggregated_sync : IsSync aggregated.the_row
aggregated_sync = search (aggregated_inside_sync, sendable, crosses) depth 60 fits 20000

parted_inside_send : IsSend parted_inside.the_row
parted_inside_send = search (groups_send, groups_sync, aggregated_send, aggregated_sync, sendable, crosses) depth 60 fits 20000

parted_inside_sync : IsSync parted_inside.the_row
parted_inside_sync = search (groups_send, groups_sync, aggregated_send, aggregated_sync, sendable, crosses) depth 60 fits 20000

pub parted_send : IsSend parted.the_row
parted_send = search (parted_inside_send, sendable, crosses) depth 60 fits 20000

pub parted_sync : IsSync parted.the_row
parted_sync = search (parted_inside_sync, sendable, crosses) depth 60 fits 20000

view_send : IsSend view.the_row
view_send = search (text_send, plan_send, sendable, crosses) depth 60 fits 20000

view_sync : IsSync view.the_row
view_sync = search (text_sync, plan_sync, sendable, crosses) depth 60 fits 20000

shared_view_inside_send : IsSend shared_view_inside.the_row
shared_view_inside_send = search (view_send, view_sync, sendable, crosses) depth 60 fits 20000

shared_view_inside_sync : IsSync shared_view_inside.the_row
shared_view_inside_sync = search (view_send, view_sync, sendable, crosses) depth 60 fits 20000

pub shared_view_send : IsSend shared_view.the_row
shared_view_send = search (shared_view_inside_send, sendable, crosses) depth 60 fits 20000

pub shared_view_sync : IsSync shared_view.the_row
shared_view_sync = search (shared_view_inside_sync, sendable, crosses) depth 60 fits 20000

entry_send : IsSend entry.the_row
entry_send = search (text_send, plan_send, sendable, crosses) depth 60 fits 20000

entry_sync : IsSync entry.the_row
entry_sync = search (text_sync, plan_sync, sendable, crosses) depth 60 fits 20000

entries_inside_send : IsSend entries_inside.the_row
entries_inside_send = search (entry_send, entry_sync, sendable, crosses) depth 60 fits 20000

entries_inside_sync : IsSync entries_inside.the_row
entries_inside_sync = search (entry_send, entry_sync, sendable, crosses) depth 60 fits 20000

pub entries_send : IsSend entries.the_row
entries_send = search (entries_inside_send, sendable, crosses) depth 60 fits 20000

pub entries_sync : IsSync entries.the_row
entries_sync = search (entries_inside_sync, sendable, crosses) depth 60 fits 20000

pub due_send : IsSend due.the_row
due_send = search (sendable, crosses) depth 60 fits 20000

pub due_sync : IsSync due.the_row
due_sync = search (sendable, crosses) depth 60 fits 20000

pub noted_send : IsSend noted.the_row
noted_send = search (sendable, crosses) depth 60 fits 20000

pub noted_sync : IsSync noted.the_row
noted_sync = search (sendable, crosses) depth 60 fits 20000
