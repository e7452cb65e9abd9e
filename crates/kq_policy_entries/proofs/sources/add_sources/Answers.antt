use Rattle.std.proofs.Common.{◌≡◌, ◌++◌, ◌∙◌, ◌∷◌, List, [], ap, arith, get_or, suc, subst, sym, take, ℕ, ◌+◌}
use Rattle.std.proofs.Math.Seq.{take-suc}
use Rattle.std.proofs.lemmas.List.Elements.{Contains-get_or}
use Rattle.std.specs.List.{Contains}
use Rattle.kq_catalog_journal.specs.declared.policy.Entry.{Entry}
use Rattle.kq_policy_entries.specs.Search.{AddsSources, marked_with, open_with}
use Rattle.kq_policy_entries.proofs.Marking.{AddsSources-more}
use Rattle.kq_policy_entries.proofs.sources.add_sources.Goals as goal

pub returns-then-entry-target-clause-found : goal.returns-then-entry-target-clause-found
returns-then-entry-target-clause-found c = λ is.
    let e = c.entry-item.result in
    record {
      entry = e;
      stands = subst (Contains c.args.policy.now) (sym c.entry-item.is) (Contains-get_or c.args.policy.now c.loop-entry.entry-index e c.loop-entry-test.true);
      names = c.if-entry-target.true;
    }

pub loop-entry-preserved : goal.loop-entry-preserved
loop-entry-preserved c =
    let es = c.args.policy.now in
    let i = c.loop-entry.entry-index in
    let e = c.entry-item.result in
    let target = c.args.target in
    let marked = c.loop-entry.marked.items in
    let opened = c.loop-entry.open.items in
    let one : i + 1 ≡ suc i = omega arith in
    let longer : take (i + 1) es ≡ take i es ++ e ∷ [] = ap (λ (k : ℕ). take k es) one ∙ take-suc es i e c.loop-entry-test.true ∙ ap (λ (x : Entry). take i es ++ x ∷ []) (sym c.entry-item.is) in
    let more = AddsSources-more (take i es) e target c.args.marked.now.items marked c.args.open.now.items opened c.if-entry-target.false c.loop-entry.invariant in
    rw (longer, c.in_ok-add.ensures.marks, c.in_ok-add.ensures.opens) more
