use Rattle.std.proofs.Common.{rules, ◌≡◌, ◌∙◌, ap, sym, subst, length, take, List}
use Rattle.std.proofs.lemmas.Iterator.Adapters.{YieldsList-from_vec}
use Rattle.std.proofs.lemmas.Iterator.Consumers.{YieldsList-turn, YieldsList-so_far}
use Rattle.std.proofs.lemmas.List.{map-id}
use Rattle.kq_catalog_journal.specs.Edits.{FitsTables}
use Rattle.kq_catalog.specs.Edits.{edit_of, put_in, put_all}
use Rattle.kq_catalog.specs.Held.{HeldTable, tables_in}
use Rattle.kq_catalog.proofs.Putting.{FitAll-at, put_all-push}
use Rattle.kq_catalog.proofs.tables.Tables.with_all.Goals as goal

pub put-requires : goal.put-requires
put-requires c =
    let x = c.in-Some.change in
    let cs = c.args.changes.items in
    let done = c.loop-change.yielded in
    let hs = c.args.self.now in
    let all = YieldsList-from_vec {s = c.into_iter-change-iterator.result} cs (search rules) (search rules) in
    let turn = YieldsList-turn all done c.loop-change.change-iterator c.loop-change.yielded_by c.next.result c.next.new.self x c.in-Some.is c.next.ensures.steps in
    let before : done ≡ take (length done) cs = sym (map-id done) ∙ YieldsList-so_far all done c.loop-change.change-iterator c.loop-change.yielded_by in
    let is : put_all hs (take (length done) cs) ≡ c.loop-change.tables = ap (put_all hs) (sym before) ∙ sym c.loop-change.invariant in
    subst (λ (ts : List HeldTable). FitsTables (tables_in ts) (edit_of x)) is (FitAll-at hs cs (length done) x turn.0 turn.1 c.requires)

pub loop-change-preserved : goal.loop-change-preserved
loop-change-preserved c =
    c.in_ok-put.ensures ∙ ap (λ (ts : List HeldTable). put_in ts c.in-Some.change) c.loop-change.invariant ∙ sym (put_all-push c.args.self.now c.loop-change.yielded c.in-Some.change)
