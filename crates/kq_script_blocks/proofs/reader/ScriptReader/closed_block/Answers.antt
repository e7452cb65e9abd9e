use Rattle.std.proofs.Common.{◌++◌, take, sym, ap, ◌∙◌, append_assoc, ◌-◌, drop, ◌+◌}
use Rattle.kq_script_blocks.proofs.Readers.{piece-looked}
use Rattle.kq_script_blocks.proofs.reader.ScriptReader.closed_block.Goals as goal

pub returns-clause-looks : goal.returns-clause-looks
returns-clause-looks c = λ taken given h.
    let self = c.args.self.now in
    let n = c.add_all-n.result.0 in
    let piece = c.deref.result.now in
    let same = c.deref.ensures.value in
    let bytes = take (self.end - self.at) (drop self.at piece) in
    let rest = take (self.end - (self.at + n)) (drop (self.at + n) piece) in
    let adds = c.add_all-n.ensures.adds h.looked h.block in (
      adds.1.0,
      adds.1.1,
      record {
        looked = h.looked ++ take n bytes;
        ahead = h.ahead ∙ ap (λ xs. h.looked ++ take (self.end - self.at) (drop self.at xs)) (sym same) ∙ ap (λ bs. h.looked ++ bs) (piece-looked piece self.at self.end n c.add_all-n.ensures.within) ∙ sym (append_assoc h.looked (take n bytes) rest) ∙ ap (λ xs. (h.looked ++ take n bytes) ++ take (self.end - (self.at + n)) (drop (self.at + n) xs)) same;
        given_all = ap (λ bs. bs ++ adds.1.0) h.given_all ∙ sym adds.1.2;
        block = adds.0;
      },
    )
