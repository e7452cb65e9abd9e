use Rattle.std.proofs.Common.{◌≡◌, List, refl, sym, subst, arith}
use Rattle.std.specs.List.{All}
use Rattle.std.proofs.lemmas.Bool.{eqb-true, eq-eqb}
use Rattle.kq_value.specs.declared.value.Value.{Value}
use Rattle.kq_store_rows.specs.Chunks.{chunks, HasWidth}
use Rattle.kq_store_rows.proofs.Chunked.{none_wide, wide_by, width_is}
use Rattle.kq_store_rows.proofs.rows.Rows.has_width.Goals as goal

pub returns-then-self-eq0 : goal.returns-then-self-eq0
returns-then-self-eq0 c =
    let s = c.self.inside in
    let v : chunks s.count s.width s.cells.items ≡ c.args.self.now = c.self.view_is in
    let wide = none_wide s.count s.width c.args.width s.cells.items (omega arith) in
    ((λ yes. subst (λ (rs : List (List Value)). All (HasWidth c.args.width) rs) v wide), (λ wide. refl))

pub returns : goal.returns
returns c =
    let s = c.self.inside in
    let v : chunks s.count s.width s.cells.items ≡ c.args.self.now = c.self.view_is in (
      (λ yes. subst (λ (rs : List (List Value)). All (HasWidth c.args.width) rs) v (wide_by s.count s.width c.args.width s.cells.items c.self.invariant.0 (eqb-true s.width c.args.width yes))),
      (λ wide. eq-eqb s.width c.args.width (width_is s.count s.width c.args.width s.cells.items (omega arith) c.self.invariant.0 (subst (λ (rs : List (List Value)). All (HasWidth c.args.width) rs) (sym v) wide))),
    )
