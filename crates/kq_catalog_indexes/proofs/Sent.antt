-- An index may go to other threads and be shared by them.
-- A tree holds trees by handles, which ask that what they hold may do both, so the lemmas on a tree have both premises.
use denote.Param.Send.{IsSend, IsSync, sendable}
use Rattle.std.proofs.Crossing.{crosses}
use Rattle.kq_value.specs.contracts.text.Text as text
use Rattle.kq_catalog_indexes.proofs.tag_tree.Tree.TheLaws.TheKnot as knot
use Rattle.kq_catalog_indexes.specs.contracts.tag_entry.Entry as entry
use Rattle.kq_catalog_indexes.specs.contracts.tag_tree.Tree as tree
use Rattle.kq_catalog_indexes.specs.contracts.tags.TagIndex as index
use Rattle.kq_catalog_indexes.specs.contracts.tags.TagIndex.TheInside as index_inside

text_send : IsSend text.the_row
text_send = search (sendable, crosses) depth 40 fits 5000

text_sync : IsSync text.the_row
text_sync = search (sendable, crosses) depth 40 fits 5000

entry_send : IsSend entry.the_row
entry_send = search (text_send, sendable, crosses) depth 40 fits 5000

entry_sync : IsSync entry.the_row
entry_sync = search (text_sync, sendable, crosses) depth 40 fits 5000

tree_send : IsSend tree.the_field.row
tree_send = knot.both_send-Tree (search (entry_send, sendable, crosses) depth 40 fits 5000) (search (entry_sync, sendable, crosses) depth 40 fits 5000) (λ h s y. search crosses) (λ h s y. search crosses)

tree_sync : IsSync tree.the_field.row
tree_sync = knot.both_sync-Tree (search (entry_send, sendable, crosses) depth 40 fits 5000) (search (entry_sync, sendable, crosses) depth 40 fits 5000) (λ h s y. search crosses) (λ h s y. search crosses)

inside_send : IsSend index_inside.the_row
inside_send = search (tree_send, tree_sync, sendable, crosses) depth 40 fits 5000

inside_sync : IsSync index_inside.the_row
inside_sync = search (tree_send, tree_sync, sendable, crosses) depth 40 fits 5000

pub index_send : IsSend index.the_row
index_send = search (inside_send, sendable) depth 40 fits 5000

pub index_sync : IsSync index.the_row
index_sync = search (inside_sync, sendable) depth 40 fits 5000
