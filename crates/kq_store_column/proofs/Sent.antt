-- Columns may go to other threads. The lemma on each type is found from those on its parts.
use denote.Param.Send.{IsSend, IsSync, sendable}
use Rattle.std.proofs.Crossing.{crosses}
use Rattle.kq_value.proofs.dynamic.DynBag.TheLaws.TheKnot as knot
use Rattle.kq_value.specs.contracts.text.Text as text
use Rattle.kq_value.specs.contracts.dynamic.Dyn as dynamic
use Rattle.kq_value.specs.contracts.dyn_box.DynBox as boxed
use Rattle.kq_value.specs.contracts.value.Value as value
use Rattle.kq_store_column.specs.contracts.column.Column as column

text_send : IsSend text.the_row
text_send = search (sendable, crosses) depth 40 fits 5000

text_sync : IsSync text.the_row
text_sync = search (sendable, crosses) depth 40 fits 5000

dynamic_send : IsSend dynamic.the_row
dynamic_send = search (knot.crosses, crosses, sendable) depth 60 fits 20000

dynamic_sync : IsSync dynamic.the_row
dynamic_sync = search (knot.crosses, crosses, sendable) depth 60 fits 20000

boxed_send : IsSend boxed.the_row
boxed_send = search (dynamic_send, dynamic_sync, sendable, crosses) depth 40 fits 5000

boxed_sync : IsSync boxed.the_row
boxed_sync = search (dynamic_send, dynamic_sync, sendable, crosses) depth 40 fits 5000

pub value_send : IsSend value.the_row
value_send = search (text_send, boxed_send, sendable, crosses) depth 40 fits 5000

pub value_sync : IsSync value.the_row
value_sync = search (text_sync, boxed_sync, sendable, crosses) depth 40 fits 5000

pub column_send : IsSend column.the_row
column_send = search (value_send, text_send, dynamic_send, sendable, crosses) depth 40 fits 5000

pub column_sync : IsSync column.the_row
column_sync = search (value_sync, text_sync, dynamic_sync, sendable, crosses) depth 40 fits 5000
