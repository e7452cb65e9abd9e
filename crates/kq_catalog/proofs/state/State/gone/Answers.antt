use Rattle.std.proofs.Common.{◌≡◌, ℕ, List, ◌∷◌, drop, slice_index_or, ap, sym, ◌∙◌}
use Rattle.kq_catalog.proofs.Merged.{first_id, gone_now, table_stands}
use Rattle.kq_catalog.proofs.state.State.gone.Goals as goal

pub comes_first-requires : goal.comes_first-requires
comes_first-requires c = table_stands c.args.self.now c.args.merging.now c.place-place.ensures.sound c.requires

pub returns-else-comes_first-clause-gone : goal.returns-else-comes_first-clause-gone
returns-else-comes_first-clause-gone c =
    let v = c.args.self.now in
    let m = c.args.merging.now in
    let id = slice_index_or c.as_slice.result.now 0 0 in
    let begins = first_id v m c.requires in
    let is : m.old ≡ id ∷ drop 1 m.old = begins ∙ ap (λ (ns : List ℕ). slice_index_or ns 0 0 ∷ drop 1 m.old) (sym c.as_slice.ensures) in
    gone_now v m id (drop 1 m.old) c.place-place.ensures.sound c.requires is (sym c.comes_first.ensures ∙ c.if-comes_first.false)
