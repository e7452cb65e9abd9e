use Rattle.std.proofs.Common.{◌++◌, ◌∷◌, [], List, sym, subst}
use Rattle.kq_export_ranges.specs.declared.range.ExportRange.{ExportRange}
use Rattle.kq_export_ranges.specs.Ledgers.{IsKept}
use Rattle.kq_export_ranges.proofs.Ledgers.{kept_more}
use Rattle.kq_export_ranges.proofs.ledger.Ledger.put.Goals as goal

pub invariant_of-self : goal.invariant_of-self
invariant_of-self g c =
    let rs = c.self.inside.ranges in
    let puts = g.A.Artefacts.kept c.self.inside.artefacts in
    let begins = c.requires.begins in
    let more = kept_more rs puts c.args.range.now (record { name = c.args.name.now; bytes = c.args.bytes.now }) c.self.invariant (cc) c.requires.ahead in
    subst (λ (l : List ExportRange). IsKept l (g.A.Artefacts.kept c.put.new.self)) (sym c.push.ensures) (subst (IsKept (rs ++ c.args.range.now ∷ [])) (sym c.in-Ok.ensures.keeps) more)
