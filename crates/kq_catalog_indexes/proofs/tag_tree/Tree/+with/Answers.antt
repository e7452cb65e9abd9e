use Rattle.std.proofs.Common.{◌≡◌, ◌∙◌, List, [], ◌∷◌, ◌++◌, ap, sym, false}
use Rattle.std.specs.Arc.{arc_value}
use Rattle.kq_catalog_indexes.specs.declared.tag_entry.Entry.{Entry}
use Rattle.kq_catalog_indexes.specs.Tags.{AddsTags, is_key, key_hash}
use Rattle.kq_catalog_indexes.specs.TagTrees.{entries_of, goes_right}
use Rattle.kq_catalog_indexes.proofs.Tagged.{AddsTags-last, AddsTags-left, AddsTags-right}
use Rattle.kq_catalog_indexes.proofs.tag_tree.Tree.+with.Goals as goal

pub returns-in_ok-leaf_or_fork-in-Leaf-clause-adds : goal.returns-in_ok-leaf_or_fork-in-Leaf-clause-adds
returns-in_ok-leaf_or_fork-in-Leaf-clause-adds t c =
    rw c.in-Leaf.is
    (AddsTags-last c.in-Leaf.entries.items c.in_ok-all-in-Leaf.all.items (entries_of (arc_value c.in_ok-leaf_or_fork-in-Leaf.field-0)) c.args.entry
    (c.in_ok-all-in-Leaf.ensures ∙ ap (λ (es : List Entry). es ++ c.args.entry ∷ []) c.as_slice.ensures.value) c.in_ok-leaf_or_fork-in-Leaf.ensures.alike)

pub returns-in_ok-new-in-Fork-clause-adds : goal.returns-in_ok-new-in-Fork-clause-adds
returns-in_ok-new-in-Fork-clause-adds t c =
    let e = c.args.entry in
    let left = entries_of (arc_value c.in-Fork.left) in
    let right = entries_of (arc_value c.in-Fork.right) in
    let new = entries_of (arc_value c.in_ok-right-in-Fork.right) in
    let adds : AddsTags right (is_key e.table e.tag) e.cursor new = rw c.deref.ensures at c.in_ok-right-in-Fork.ensures.adds in
    rw (c.in-Fork.is, c.in_ok-new-in-Fork.ensures.ok, c.in_ok-left-in-Fork.ensures) (AddsTags-right left right new (is_key e.table e.tag) e.cursor adds)

pub returns-in_ok-new-in-Fork-2-clause-adds : goal.returns-in_ok-new-in-Fork-2-clause-adds
returns-in_ok-new-in-Fork-2-clause-adds t c =
    let e = c.args.entry in
    let left = entries_of (arc_value c.in-Fork.left) in
    let right = entries_of (arc_value c.in-Fork.right) in
    let new = entries_of (arc_value c.in_ok-left-in-Fork-2.left) in
    let placed = rw c.in-Fork.is at c.requires.placed in
    let goes : goes_right c.args.level (key_hash e.table e.tag) ≡ false = ap (goes_right c.args.level) (sym c.requires.hash) ∙ sym c.goes_right.ensures ∙ c.if-goes_right.false in
    let adds : AddsTags left (is_key e.table e.tag) e.cursor new = rw c.deref-else-goes_right.ensures at c.in_ok-left-in-Fork-2.ensures.adds in
    rw (c.in-Fork.is, c.in_ok-new-in-Fork-2.ensures.ok, c.in_ok-right-in-Fork-2.ensures) (AddsTags-left c.args.level left right new e.table e.tag e.cursor placed.2 goes adds)
