-- When a merge is told, what is merged, and what a merge makes.
use Rattle.std.specs.Prelude.{◌≡◌, ◌≢◌, ◌<◌, ◌≤◌, ◌+◌, ◌⊎◌, ℕ, false, List, [], ◌∷◌, ◌++◌, length, take, Option, Some, None}
use Rattle.kq_catalog_journal.specs.declared.event.By.{By}
use Rattle.kq_catalog_journal.specs.declared.event.Operation.{Operation}
use Rattle.kq_catalog_journal.specs.declared.event.Operation.TheVariants as operation
use Rattle.kq_catalog_journal.specs.History.{History, NumberedTable, cursor, log, tables, table_numbered}
use Rattle.kq_catalog_journal.specs.Records.{item_ids, extents_made, picked}
use Rattle.kq_catalog.specs.declared.merging.Merging.{Merging}
use Rattle.kq_catalog.specs.Merges.{IsUnion}
use Rattle.kq_read_commands.specs.declared.columns.Identifier.{Identifier}
use Rattle.kq_read_commands.specs.declared.command.Command.{Command}
use Rattle.kq_read_commands.specs.declared.command.Command.TheVariants.{Merge}
use Rattle.kq_reply.specs.declared.refusal.Refusal.TheVariants as refusals
use Rattle.kq_reply.specs.declared.reply.Reply.{Reply}
use Rattle.kq_reply.specs.declared.reply.Reply.TheVariants as replies

-- ---- the reply

-- the last event of this history merged so many extents of a table by its number
pub record HasMerged (h : History) (table extents : ℕ) : Type 0 where
  pub before : History
  pub by : By
  pub old : List ℕ
  pub new : ℕ
  pub last : h ≡ before ++ record { by = by; operation = operation.Merge table old new } ∷ []
  pub count : extents ≡ length old

-- a table that stands was merged, or fewer than two extents of it could be
abbrev pub MergesTable : History → ℕ → Reply → Type 0
MergesTable h table (replies.Merged extents) = HasMerged h table extents
MergesTable h table replies.Nothing = length (picked h table) < 2
MergesTable h table _ = ⊥

abbrev pub MergesNamed : History → Identifier → Option NumberedTable → Reply → Type 0
MergesNamed h table None reply = reply ≡ replies.Refused (refusals.Unknown table.at)
MergesNamed h table (Some found) reply = MergesTable h found.number reply

-- the reply to a merge of the table that has the name, over a history with the merge's own event
abbrev pub AnswersMerge : History → Identifier → Reply → Type 0
AnswersMerge h table reply = MergesNamed h table (table_numbered table.text (tables (log h))) reply

-- the last event of this history has the request id
pub record IsLastBy (h : History) (request : By) : Type 0 where
  pub before : History
  pub made : Operation
  pub last : h ≡ before ++ record { by = request; operation = made } ∷ []

-- the last event of this history is a merge of all that were picked in a table at one place, which is no earlier than a given one
pub record HasMergedAll (h : History) (from : ℕ) : Type 0 where
  pub before : History
  pub by : By
  pub table : ℕ
  pub old : List ℕ
  pub new : ℕ
  pub last : h ≡ before ++ record { by = by; operation = operation.Merge table old new } ∷ []
  pub at : ℕ
  pub since : from ≤ at
  pub within : at ≤ length before
  pub all : old ≡ item_ids (picked (take at before) table)

-- the reply tells of no merge and of no fold
pub record IsStill (reply : Reply) : Type 0 where
  pub no_merge : (extents : ℕ) → reply ≢ replies.Merged extents
  pub no_fold : (at : ℕ) → reply ≢ replies.Folded at

-- or of a fold alone that is told up to this cursor or a later one
abbrev pub IsSettled : ℕ → Reply → Type 0
IsSettled least reply = IsStill reply ⊎ ((at : ℕ) × (reply ≡ replies.Folded at) × (least ≤ at))

-- a merge that is told has the request id
abbrev pub IsMergedBy : History → By → Reply → Type 0
IsMergedBy h request reply = (extents : ℕ) → reply ≡ replies.Merged extents → IsLastBy h request

-- a merge that is told is one of all that were picked at a place from the given one on, and a fold is told up to the cursor of that place or a later
-- one
pub record NamesAll (h : History) (from : ℕ) (reply : Reply) : Type 0 where
  pub merged : (extents : ℕ) → reply ≡ replies.Merged extents → HasMergedAll h from
  pub folded : (at : ℕ) → reply ≡ replies.Folded at → cursor (take from h) ≤ at

-- ---- what is found

-- all extents that are picked in a table by its number, and the one that they become
pub record IsMergingIn (h : History) (number : ℕ) (m : Merging) : Type 0 where
  pub table : m.table ≡ number
  pub all : m.old ≡ item_ids (picked h number)
  pub union : IsUnion h number m.old m.extent

-- those of the table that has the name
pub record IsMergingOf (h : History) (table : Identifier) (m : Merging) : Type 0 where
  pub found : NumberedTable
  pub named : table_numbered table.text (tables (log h)) ≡ Some found
  pub merging : IsMergingIn h found.number m

abbrev pub IsMergingFor : History → Command → Merging → Type 0
IsMergingFor h (Merge table) m = IsMergingOf h table m
IsMergingFor h _ m = ⊥

-- two or more are picked in a table, or there is nothing to merge
abbrev pub PicksIn : History → ℕ → Option Merging → Type 0
PicksIn h number (Some m) = IsMergingIn h number m
PicksIn h number None = length (picked h number) < 2

-- ---- what is made

-- the event of a merge of the table that has the name, with its reply
pub record IsMergeOf (h : History) (table : Identifier) (reply : Reply) (number : ℕ) (old : List ℕ) : Type 0 where
  pub found : NumberedTable
  pub named : table_numbered table.text (tables (log h)) ≡ Some found
  pub same : number ≡ found.number
  pub told : reply ≡ replies.Merged (length old)

abbrev pub TendsMerge : History → Command → Reply → ℕ → List ℕ → Type 0
TendsMerge h (Merge table) reply number old = IsMergeOf h table reply number old
TendsMerge h _ reply number old = ⊥
