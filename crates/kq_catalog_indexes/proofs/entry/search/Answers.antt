use Rattle.std.proofs.Common.{rules}
use Rattle.std.proofs.lemmas.Fn.{always_returns_same}
use Rattle.kq_catalog_indexes.specs.Index.{name_cmp}
use Rattle.kq_catalog_indexes.specs.declared.entry.Entry.{Entry}
use Rattle.kq_catalog_indexes.proofs.Sorted.{searched}
use Rattle.kq_catalog_indexes.proofs.entry.search.Goals as goal

pub returns-clause-found : goal.returns-clause-found
returns-clause-found c =
    let facts = c.binary_search_by.ensures in
    let by_name = facts.position (λ (e : Entry). name_cmp e.name c.args.name.now) (always_returns_same _ _ _ (λ a r g called. search rules)) in
    (searched c.args.entries.now c.args.name.now c.binary_search_by.result c.requires facts.bound by_name).0

pub returns-clause-gap : goal.returns-clause-gap
returns-clause-gap c =
    let facts = c.binary_search_by.ensures in
    let by_name = facts.position (λ (e : Entry). name_cmp e.name c.args.name.now) (always_returns_same _ _ _ (λ a r g called. search rules)) in
    (searched c.args.entries.now c.args.name.now c.binary_search_by.result c.requires facts.bound by_name).1
