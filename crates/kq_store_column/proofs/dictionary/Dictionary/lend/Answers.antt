use Rattle.std.proofs.Common.{◌-◌, ℕ, List, take, drop, ap}
use Rattle.kq_store_column.proofs.Lent.{words_lent}
use Rattle.kq_store_column.proofs.dictionary.Dictionary.lend.Goals as goal

pub returns : goal.returns
returns c =
    let s = c.self.inside in
    let n = c.args.to - c.args.from in
    words_lent s.words.items c.deref.result.now s.codes.items _ c.args.self.now n c.args.from c.deref.ensures.value
    (ap (λ (xs : List ℕ). take n (drop c.args.from xs)) c.deref-2.ensures.value) c.self.view_is
