-- When an index of tags tells what a log says.
use Rattle.std.specs.Prelude.{◌≡◌, ℕ, List}
use Rattle.kq_catalog_journal.specs.History.{Log}
use Rattle.kq_catalog_journal.specs.Tagged.{first_tagged}
use Rattle.kq_catalog_indexes.specs.declared.tag_entry.Entry.{Entry}
use Rattle.kq_catalog_indexes.specs.Tags.{cursor_at}

-- each tag of each table has in the index the cursor of the first commit that gave it
pub record TellsTags (index : List Entry) (l : Log) : Type 0 where
  pub is : (t : ℕ) (tag : List ℕ) → cursor_at index t tag ≡ first_tagged l t tag
