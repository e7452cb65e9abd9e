-- What contracts see of a catalogue, of a snapshot and of what was staged, and when a catalogue is sound.
use Rattle.std.specs.Prelude.{◌≡◌, ℕ, List}
use Rattle.std.specs.List.{AllZip}
use Rattle.kq_catalog_journal.specs.declared.batch.Noted.{Noted}
use Rattle.kq_catalog_journal.specs.declared.event.Event.{Event}
use Rattle.kq_catalog_journal.specs.declared.limits.Limits.{Limits}
use Rattle.kq_catalog_journal.specs.History.{History, log, cursor as cursor_of}
use Rattle.kq_catalog_journal.specs.Lawful.{AreLawful}
use Rattle.kq_catalog_journal.specs.Policies.{noted, policies}
use Rattle.kq_catalog_journal.specs.Records.{extents_made}
use Rattle.kq_catalog_journal.specs.Tables.{table_states}
use Rattle.kq_catalog_journal.specs.declared.policy.Entry.{Entry}
use Rattle.kq_catalog_indexes.specs.declared.tag_entry.Entry.{Entry as Tagging}
use Rattle.kq_catalog.specs.Held.{HeldTable, IsHeld}
use Rattle.kq_catalog.specs.Tagged.{TellsTags}
use Rattle.kq_catalog.specs.Views.{AreHeldViews, HeldView}

-- the events in order, the tables and the views by number with what is held of them, the entries of each table's update policy, and the failures of
-- ingestions
pub record CatalogView : Type 0 where
  pub limits : Limits
  pub history : List Event
  pub held : List HeldTable
  pub policies : List (List Entry)
  pub views : List HeldView
  pub failures : List Noted

-- a catalogue that holds these
abbrev pub catalog_of : Limits → List Event → List HeldTable → List (List Entry) → List HeldView → List Noted → CatalogView
catalog_of limits history held policies views failures = record { limits = limits; history = history; held = held; policies = policies; views = views; failures = failures }

-- a snapshot is seen as the catalogue was
abbrev pub SnapshotView : Type 0
SnapshotView = CatalogView

-- what will stand once it is put in
pub record StagedView : Type 0 where
  pub limits : Limits
  pub history : List Event

-- the history that a catalogue holds
abbrev pub hist : CatalogView → History
hist c = c.history

-- of each table and each view is held what the history says of it, the policies are those that were set last, the failures are those that were noted,
-- and each event of the history is lawful over the events before it
pub record Sound (c : CatalogView) : Type 0 where
  pub tables : AllZip IsHeld c.held (table_states (hist c))
  pub policies : c.policies ≡ policies (log (hist c))
  pub views : AreHeldViews (hist c) c.views
  pub failures : c.failures ≡ noted (log (hist c))
  pub lawful : AreLawful c.limits (hist c)

-- a sound catalogue, with the number of its commits, that of the extents that were made, and an index of their tags
pub record HoldsHistory (c : CatalogView) (cursor made : ℕ) (index : List Tagging) : Type 0 where
  pub sound : Sound c
  pub count : cursor ≡ cursor_of (hist c)
  pub made_count : made ≡ extents_made (hist c)
  pub tags : TellsTags index (log (hist c))
