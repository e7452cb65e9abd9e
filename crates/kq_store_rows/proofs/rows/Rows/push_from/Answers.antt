use Rattle.std.proofs.Common.{◌≡◌, ◌++◌, ◌∷◌, ◌+◌, [], sym, ap, ◌∙◌, length, subst, List, arith, rules}
use Rattle.std.specs.List.{All}
use Rattle.kq_value.specs.declared.value.Value.{Value}
use Rattle.kq_store_rows.specs.Chunks.{chunks, HasWidth}
use Rattle.kq_store_rows.proofs.Chunked.{long_push, chunks_push}
use Rattle.kq_store_rows.proofs.rows.Rows.push_from.Goals as goal

pub invariant_of-self-2 : goal.invariant_of-self-2
invariant_of-self-2 c =
    let s = c.self.inside in
    let row = c.args.row.now.items in
    let v : chunks s.count s.width s.cells.items ≡ c.args.self.now = c.self.view_is in
    let wide = subst (λ (rs : List (List Value)). All (HasWidth (length row)) rs) (sym v) c.requires in
    let items : c.append.new.self.items ≡ s.cells.items ++ row = c.in_ok-append.ensures.items in
    let w : c.len-width.result ≡ length row = search rules in
    (rw (items, w) (long_push s.count s.width s.cells.items row c.self.invariant.0 wide), omega (arith, c.in_ok-room.ensures.ok))

pub returns-clause-ok : goal.returns-clause-ok
returns-clause-ok c =
    let s = c.self.inside in
    let row = c.args.row.now.items in
    let v : chunks s.count s.width s.cells.items ≡ c.args.self.now = c.self.view_is in
    let wide = subst (λ (rs : List (List Value)). All (HasWidth (length row)) rs) (sym v) c.requires in
    let items : c.append.new.self.items ≡ s.cells.items ++ row = c.in_ok-append.ensures.items in
    let w : c.len-width.result ≡ length row = search rules in
    let new : chunks (s.count + 1) (c.len-width.result) c.append.new.self.items ≡ c.args.self.now ++ row ∷ [] =
    rw (items, w) (chunks_push s.count s.width s.cells.items row c.self.invariant.0 wide ∙ ap (λ (rs : List (List Value)). rs ++ row ∷ []) v) in
    new
