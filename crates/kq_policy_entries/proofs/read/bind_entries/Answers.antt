use Rattle.std.proofs.Common.{◌≡◌, ◌+◌, ◌++◌, ◌∷◌, ◌∙◌, List, Option, [], ap, arith, suc, sym, take, ℕ}
use Rattle.std.proofs.Math.Seq.{take-suc}
use Rattle.kq_policy_entries.specs.Entries.{AreEntries}
use Rattle.kq_catalog_journal.specs.History.{log}
use Rattle.kq_policy_entries.specs.declared.written.Written.{Written}
use Rattle.kq_policy_entries.proofs.Binding.{AreEntries-push}
use Rattle.kq_policy_entries.proofs.read.bind_entries.Goals as goal

pub loop-i-preserved : goal.loop-i-preserved
loop-i-preserved g c =
    let known = g.N.Names.known c.args.names.now in
    let l = log c.args.snapshot.now.history in
    let target = c.args.target.now in
    let xs = c.args.elements.now in
    let i = c.loop-i.i in
    let x = c.index-elements-i.result in
    let one : i + 1 ≡ suc i = omega arith in
    let longer : take (i + 1) xs ≡ take i xs ++ x ∷ [] = ap (λ (k : ℕ). take k xs) one ∙ take-suc xs i x c.loop-i-test.true ∙ ap (λ (y : Option Written). take i xs ++ y ∷ []) (sym c.index-elements-i.is) in
    let more = AreEntries-push known l target (take i xs) c.loop-i.entries.items x c.in-Ok.entry c.loop-i.invariant c.in-Ok.ensures in
    rw (longer, c.in_ok-push-in-Ok.ensures.items) more
