use Rattle.std.proofs.Common.{◌≡◌, arith, length, subst, sym, take}
use Rattle.std.proofs.lemmas.List.{take_all}
use Rattle.kq_catalog_journal.specs.History.{History}
use Rattle.kq_catalog.specs.declared.merging.MergeFault.{MergeFault}
use Rattle.kq_catalog.specs.Merges.{IsGone, Moves}
use Rattle.kq_catalog.specs.Seen.{hist}
use Rattle.kq_engine_prepare.specs.Merges.{IsMergingFor}
use Rattle.kq_engine.proofs.Uniting.{Acts-merge, merging_picked, not_gone}
use Rattle.kq_engine.proofs.on_catalog.merge_now.Goals as goal

pub merge-requires : goal.merge-requires
merge-requires c =
    let h = hist c.args.catalog.now in
    let command = c.args.work.now.command in
    let m = c.args.merging in
    let whole : take (length h) h ≡ h = take_all (length h) h (omega arith) in
    merging_picked h (length h) command m (subst (λ (g : History). IsMergingFor g command m) (sym whole) c.requires)

pub unreachable-requires : goal.unreachable-requires
unreachable-requires c =
    let h = hist c.args.catalog.now in
    let m = c.args.merging in
    let gone : IsGone h m c.in-Err-Moved.field-0-0 = subst (λ (f : MergeFault). Moves h m f) c.in-Err-Moved.field-0-is c.in-Err-Moved.ensures.moved in
    not_gone h c.args.work.now.command m c.in-Err-Moved.field-0-0 c.requires gone

pub returns-in-Ok-clause-acts : goal.returns-in-Ok-clause-acts
returns-in-Ok-clause-acts c =
    let now = c.args.catalog.now in
    let h = hist now in
    let work = c.args.work.now in
    let m = c.args.merging in
    let whole : take (length h) h ≡ h = take_all (length h) h (omega arith) in
    Acts-merge now.limits h (hist c.merge.new.catalog) work (length h) m c.in-Ok.outcome (omega arith) (subst (λ (g : History). IsMergingFor g work.command m) (sym whole) c.requires) c.in-Ok.ensures.puts
