use Rattle.std.proofs.Common.{◌≡◌, ◌∙◌, ap, sym, true, false}
use Rattle.std.specs.Arc.{arc_value}
use Rattle.kq_catalog_indexes.specs.declared.tag_tree.Tree.{Tree}
use Rattle.kq_catalog_indexes.specs.Tags.{cursor_at, key_hash}
use Rattle.kq_catalog_indexes.specs.TagTrees.{entries_of, goes_right}
use Rattle.kq_catalog_indexes.proofs.Tagged.{found_left, found_right}
use Rattle.kq_catalog_indexes.proofs.tag_tree.Tree.+find.Goals as goal

pub returns-then-goes_right : goal.returns-then-goes_right
returns-then-goes_right t c =
    let placed = rw c.in-Fork.is at c.requires.placed in
    let goes : goes_right c.args.level (key_hash c.args.table c.args.tag.now) ≡ true = ap (goes_right c.args.level) (sym c.requires.hash) ∙ sym c.goes_right.ensures ∙ c.if-goes_right.true in
    rw c.in-Fork.is
    (c.find.ensures ∙ ap (λ (x : Tree). cursor_at (entries_of x) c.args.table c.args.tag.now) c.deref.ensures
    ∙ sym (found_right c.args.level (entries_of (arc_value c.in-Fork.left)) (entries_of (arc_value c.in-Fork.right)) c.args.table c.args.tag.now placed.1 goes))

pub returns-else-goes_right : goal.returns-else-goes_right
returns-else-goes_right t c =
    let placed = rw c.in-Fork.is at c.requires.placed in
    let goes : goes_right c.args.level (key_hash c.args.table c.args.tag.now) ≡ false = ap (goes_right c.args.level) (sym c.requires.hash) ∙ sym c.goes_right.ensures ∙ c.if-goes_right.false in
    rw c.in-Fork.is
    (c.find-else-goes_right.ensures ∙ ap (λ (x : Tree). cursor_at (entries_of x) c.args.table c.args.tag.now) c.deref-else-goes_right.ensures
    ∙ sym (found_left c.args.level (entries_of (arc_value c.in-Fork.left)) (entries_of (arc_value c.in-Fork.right)) c.args.table c.args.tag.now placed.2 goes))
