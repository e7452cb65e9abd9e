-- A catalogue, a snapshot and what was staged may go to another thread, and many threads may share them. The lemma on each type
-- is found from those on its parts.
use denote.Param.Send.{IsSend, IsSync, sendable}
use Rattle.std.proofs.Crossing.{crosses}
use Rattle.kq_value.specs.contracts.text.Text as text
use Rattle.kq_value.specs.contracts.tags.Tags as tags
use Rattle.kq_store_shared_lists.proofs.Sent.{list_send, list_sync}
use Rattle.kq_store_shared_lists.specs.contracts.list.SharedList as list
use Rattle.kq_catalog_indexes.specs.contracts.names.Names as names
use Rattle.kq_store_extent.proofs.Sent.{held_send, held_sync, recorded_send, recorded_sync}
use Rattle.kq_catalog_indexes.proofs.Sent.{index_send, index_sync}
use Rattle.kq_catalog_journal.specs.contracts.batch.Noted as noted
use Rattle.kq_catalog_journal.specs.contracts.event.Event as event
use Rattle.kq_catalog_journal.specs.contracts.policy.Entries as entries
use Rattle.kq_catalog.specs.contracts.held.HeldTable as table
use Rattle.kq_catalog.specs.contracts.tables.Tables as tables
use Rattle.kq_catalog.specs.contracts.policies.Policies as policies
use Rattle.kq_catalog.specs.contracts.policies.Policies.TheInside as policies_inside
use Rattle.kq_catalog.specs.contracts.held_view.HeldView as held_view
use Rattle.kq_catalog.specs.contracts.held_view.HeldView.TheInside as held_view_inside
use Rattle.kq_catalog.specs.contracts.views.Views as views
use Rattle.kq_catalog.specs.contracts.state.State as state
use Rattle.kq_catalog.specs.contracts.snapshot.Snapshot as snapshot
use Rattle.kq_catalog.specs.contracts.catalog.Catalog as catalog
use Rattle.kq_catalog.specs.contracts.catalog.Staged as staged
use Rattle.kq_catalog.proofs.SentViews.{due_send, due_sync, entries_send, entries_sync, noted_send, noted_sync, parted_send, parted_sync, shared_view_send, shared_view_sync}

text_send : IsSend text.the_row
text_send = search (sendable, crosses) depth 40 fits 5000

text_sync : IsSync text.the_row
text_sync = search (sendable, crosses) depth 40 fits 5000

tags_send : IsSend tags.the_row
tags_send = search (text_send, sendable, crosses) depth 40 fits 5000

tags_sync : IsSync tags.the_row
tags_sync = search (text_sync, sendable, crosses) depth 40 fits 5000

names_send : IsSend names.the_row
names_send = search (text_send, sendable, crosses) depth 40 fits 5000

names_sync : IsSync names.the_row
names_sync = search (text_sync, sendable, crosses) depth 40 fits 5000

table_send : IsSend table.the_row
table_send = search (text_send, text_sync, held_send, sendable, crosses) depth 40 fits 5000

table_sync : IsSync table.the_row
table_sync = search (text_send, text_sync, held_sync, sendable, crosses) depth 40 fits 5000

held_tables_send : IsSend (list.the_row table.the_row)
held_tables_send = list_send table.the_row table_send table_sync

held_tables_sync : IsSync (list.the_row table.the_row)
held_tables_sync = list_sync table.the_row table_send table_sync

tables_send : IsSend tables.the_row
tables_send = search (held_tables_send, names_send, names_sync, sendable, crosses) depth 40 fits 5000

tables_sync : IsSync tables.the_row
tables_sync = search (held_tables_sync, names_send, names_sync, sendable, crosses) depth 40 fits 5000

held_view_inside_send : IsSend held_view_inside.the_row
held_view_inside_send = search (shared_view_send, parted_send, sendable, crosses) depth 40 fits 5000

held_view_inside_sync : IsSync held_view_inside.the_row
held_view_inside_sync = search (shared_view_sync, parted_sync, sendable, crosses) depth 40 fits 5000

held_view_send : IsSend held_view.the_row
held_view_send = search (held_view_inside_send, sendable, crosses) depth 40 fits 5000

held_view_sync : IsSync held_view.the_row
held_view_sync = search (held_view_inside_sync, sendable, crosses) depth 40 fits 5000

held_views_send : IsSend (list.the_row held_view.the_row)
held_views_send = list_send held_view.the_row held_view_send held_view_sync

held_views_sync : IsSync (list.the_row held_view.the_row)
held_views_sync = list_sync held_view.the_row held_view_send held_view_sync

views_send : IsSend views.the_row
views_send = search (held_views_send, names_send, names_sync, sendable, crosses) depth 40 fits 5000

views_sync : IsSync views.the_row
views_sync = search (held_views_sync, names_send, names_sync, sendable, crosses) depth 40 fits 5000

event_send : IsSend event.the_row
event_send = search (text_send, tags_send, recorded_send, entries_send, shared_view_send, sendable, crosses) depth 40 fits 5000

event_sync : IsSync event.the_row
event_sync = search (text_sync, tags_sync, recorded_sync, entries_sync, shared_view_sync, sendable, crosses) depth 40 fits 5000

journal_send : IsSend (list.the_row event.the_row)
journal_send = list_send event.the_row event_send event_sync

journal_sync : IsSync (list.the_row event.the_row)
journal_sync = list_sync event.the_row event_send event_sync

held_policies_send : IsSend (list.the_row entries.the_row)
held_policies_send = list_send entries.the_row entries_send entries_sync

held_policies_sync : IsSync (list.the_row entries.the_row)
held_policies_sync = list_sync entries.the_row entries_send entries_sync

policies_inside_send : IsSend policies_inside.the_row
policies_inside_send = search (held_policies_send, due_send, due_sync, sendable, crosses) depth 40 fits 5000

policies_inside_sync : IsSync policies_inside.the_row
policies_inside_sync = search (held_policies_sync, due_send, due_sync, sendable, crosses) depth 40 fits 5000

policies_send : IsSend policies.the_row
policies_send = search (policies_inside_send, sendable, crosses) depth 40 fits 5000

policies_sync : IsSync policies.the_row
policies_sync = search (policies_inside_sync, sendable, crosses) depth 40 fits 5000

failures_send : IsSend (list.the_row noted.the_row)
failures_send = list_send noted.the_row noted_send noted_sync

failures_sync : IsSync (list.the_row noted.the_row)
failures_sync = list_sync noted.the_row noted_send noted_sync

state_send : IsSend state.the_row
state_send = search (journal_send, tables_send, policies_send, views_send, failures_send, index_send, sendable, crosses) depth 40 fits 5000

state_sync : IsSync state.the_row
state_sync = search (journal_sync, tables_sync, policies_sync, views_sync, failures_sync, index_sync, sendable, crosses) depth 40 fits 5000

pub snapshot_send : IsSend snapshot.the_row
snapshot_send = search (state_send, state_sync, sendable, crosses) depth 40 fits 5000

pub snapshot_sync : IsSync snapshot.the_row
snapshot_sync = search (state_send, state_sync, sendable, crosses) depth 40 fits 5000

pub catalog_send : IsSend catalog.the_row
catalog_send = search (snapshot_send, sendable, crosses) depth 40 fits 5000

pub catalog_sync : IsSync catalog.the_row
catalog_sync = search (snapshot_sync, sendable, crosses) depth 40 fits 5000

pub staged_send : IsSend staged.the_row
staged_send = search (snapshot_send, sendable, crosses) depth 40 fits 5000

pub staged_sync : IsSync staged.the_row
staged_sync = search (snapshot_sync, sendable, crosses) depth 40 fits 5000
