use Rattle.std.proofs.Common.{◌≡◌, arith, length, subst, sym, take}
use Rattle.std.proofs.lemmas.List.{take_all}
use Rattle.kq_catalog_journal.specs.History.{History}
use Rattle.kq_catalog.specs.declared.merging.MergeFault.{MergeFault}
use Rattle.kq_catalog.specs.Merges.{IsUnion, Moves}
use Rattle.kq_catalog.specs.Seen.{hist}
use Rattle.kq_engine.proofs.Uniting.{none_gone}
use Rattle.kq_engine.proofs.Upholding.{Upholds-picked}
use Rattle.kq_engine.proofs.upkeep.merge_picked.Goals as goal

pub merge-requires : goal.merge-requires
merge-requires c =
    let h = hist c.args.catalog.now in
    let m = c.args.merging in
    let whole : take (length h) h ≡ h = take_all (length h) h (omega arith) in
    record { place = length h; union = subst (λ (g : History). IsUnion g m.table m.old m.extent) (sym whole) c.requires.union }

pub unreachable-requires : goal.unreachable-requires
unreachable-requires c =
    let h = hist c.args.catalog.now in
    let m = c.args.merging in
    let gone = subst (λ (f : MergeFault). Moves h m f) c.in-Err-Moved.field-0-is c.in-Err-Moved.ensures.moved in
    none_gone h m.table m c.in-Err-Moved.field-0-0 c.requires gone

pub returns-in-Ok-clause-upholds : goal.returns-in-Ok-clause-upholds
returns-in-Ok-clause-upholds c = Upholds-picked (hist c.args.catalog.now) (hist c.merge.new.catalog) c.args.by c.args.merging c.in-Ok.outcome c.requires c.in-Ok.ensures.puts
