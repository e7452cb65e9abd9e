use Rattle.std.proofs.Common.{◌≡◌, take, Some}
use Rattle.serde_json.specs.View.{items_view}
use Rattle.kq_store_ingest.specs.TagTexts.{strings_of}
use Rattle.kq_store_ingest.proofs.tags.strings.Given as goal

abbrev pub invariant-loop-item : goal.invariant-loop-item
invariant-loop-item l = strings_of (items_view (take l.item-index l.items)) ≡ Some l.texts
