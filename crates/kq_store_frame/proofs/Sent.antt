-- Rows in columns may be shared by many threads.
use denote.Param.Send.{IsSend, IsSync, sendable}
use Rattle.std.proofs.Crossing.{crosses}
use Rattle.kq_value.proofs.dynamic.DynBag.TheLaws.TheKnot as knot
use Rattle.kq_value.specs.contracts.text.Text as text
use Rattle.kq_value.specs.contracts.dynamic.Dyn as dynamic
use Rattle.kq_value.specs.contracts.dyn_box.DynBox as boxed
use Rattle.kq_value.specs.contracts.value.Value as value
use Rattle.kq_store_frame.specs.contracts.series.Series as series
use Rattle.kq_store_frame.specs.contracts.frame.Frame as frame
use Rattle.kq_store_frame.specs.contracts.frame.Frame.TheInside as inside

text_sync : IsSync text.the_row
text_sync = search (sendable, crosses) depth 60 fits 20000

dynamic_send : IsSend dynamic.the_row
dynamic_send = search (knot.crosses, sendable, crosses) depth 60 fits 20000

dynamic_sync : IsSync dynamic.the_row
dynamic_sync = search (knot.crosses, sendable, crosses) depth 60 fits 20000

boxed_sync : IsSync boxed.the_row
boxed_sync = search (dynamic_send, dynamic_sync, sendable, crosses) depth 60 fits 20000

value_sync : IsSync value.the_row
value_sync = search (text_sync, boxed_sync, sendable, crosses) depth 60 fits 20000

series_sync : IsSync series.the_row
series_sync = search (value_sync, sendable, crosses) depth 60 fits 20000

inside_sync : IsSync inside.the_row
inside_sync = search (series_sync, sendable, crosses) depth 60 fits 20000

pub frame_sync : IsSync frame.the_row
frame_sync = search (inside_sync, sendable, crosses) depth 60 fits 20000
