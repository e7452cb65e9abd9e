-- Which small extents are merged, and what they become.
use Rattle.std.specs.Prelude.{ℕ, List, length, take, nat_lt, Option, Some, None, if◌then◌else◌}
use Rattle.std.specs.List.{flat_map}
use Rattle.kq_store_extent.specs.Seen.{ExtentView, records_in}
use Rattle.kq_value_text_sets.specs.EachOnce.{each_once}

-- the first 64 of a table's small extents, or all where there are fewer; none where there are fewer than two
abbrev pub picked_of : List ExtentView → Option (List ExtentView)
picked_of small = if nat_lt (length small) 2 then None else Some (take 64 small)

-- the tags of extents, one extent after another
abbrev pub tags_in : List ExtentView → List (List ℕ)
tags_in = flat_map (λ (e : ExtentView). e.tags)

-- one extent with all records of some, one extent after another, and with each of their tags once, in the order of first appearance
abbrev pub merge_of : ℕ → List ExtentView → ExtentView
merge_of id es = record { id = id; records = records_in es; tags = each_once (tags_in es) }
