-- What is found is where it is refused.
use Rattle.std.proofs.Common.{◌∙◌, ℕ, Option, Some, ap, sym}
use Rattle.std.specs.Prelude.{unwrap_or}
use Rattle.kq_view_body.specs.Parts.{pipe_place}
use Rattle.kq_export_laws.proofs.Owned.{foreign_found}
use Rattle.kq_export_laws.proofs.laws.refused_bodies_have_their_places.Goals as goal

pub returns : goal.returns
returns c = λ text table known cs q p stands none bound other.
    let found = foreign_found text table known cs stands q p none bound other in
    found.1 ∙ ap (λ (at : ℕ). Some at) (sym (ap (λ (o : Option ℕ). unwrap_or o (pipe_place q.tabular)) found.1))
