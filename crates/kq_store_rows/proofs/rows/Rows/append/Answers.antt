use Rattle.std.proofs.Common.{◌≡◌, ◌+◌, ◌++◌, sym, ◌∙◌, arith, List, subst}
use Rattle.kq_value.specs.declared.value.Value.{Value}
use Rattle.kq_store_rows.specs.Chunks.{chunks, same_width}
use Rattle.kq_store_rows.proofs.Chunked.{long_append, chunks_append}
use Rattle.kq_store_rows.proofs.rows.Rows.append.Goals as goal

pub invariant_of-self-2 : goal.invariant_of-self-2
invariant_of-self-2 c =
    let s = c.self.inside in
    let o = c.other.inside in
    let both : chunks s.count s.width s.cells.items ++ chunks o.count o.width o.cells.items ≡ c.args.self.now ++ c.args.other = λ i. c.self.view_is i ++ c.other.view_is i in
    let wide = subst (λ (rs : List (List Value)). same_width rs) (sym both) c.requires in
    let items : c.append.new.self.items ≡ s.cells.items ++ o.cells.items = c.in_ok-append.ensures.items in
    (rw items (long_append s.count s.width o.count o.width s.cells.items o.cells.items (omega arith) c.self.invariant.0 c.other.invariant.0 wide), omega (arith, c.in_ok-room.ensures.ok))

pub returns-clause-ok : goal.returns-clause-ok
returns-clause-ok c =
    let s = c.self.inside in
    let o = c.other.inside in
    let both : chunks s.count s.width s.cells.items ++ chunks o.count o.width o.cells.items ≡ c.args.self.now ++ c.args.other = λ i. c.self.view_is i ++ c.other.view_is i in
    let wide = subst (λ (rs : List (List Value)). same_width rs) (sym both) c.requires in
    let items : c.append.new.self.items ≡ s.cells.items ++ o.cells.items = c.in_ok-append.ensures.items in
    let new : chunks (s.count + o.count) o.width c.append.new.self.items ≡ c.args.self.now ++ c.args.other =
    rw items (chunks_append s.count s.width o.count o.width s.cells.items o.cells.items (omega arith) c.self.invariant.0 c.other.invariant.0 wide ∙ both) in
    new
