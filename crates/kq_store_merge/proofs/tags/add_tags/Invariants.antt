use Rattle.std.proofs.Common.{◌≡◌, ◌++◌, take}
use Rattle.kq_store_merge.proofs.tags.add_tags.Given as goal

abbrev pub invariant-loop-tag : goal.invariant-loop-tag
invariant-loop-tag l = l.texts.items ≡ l.initial.texts.items ++ take l.tag-index l.tag-items
