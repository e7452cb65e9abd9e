-- Which plans those of entries of update policies may be.
use Rattle.std.specs.Prelude.{◌≡◌, ℕ, Bool, true, false, List}
use Rattle.std.specs.List.{All, Any}
use Rattle.kq_catalog_journal.specs.Moments.{step_asks}
use Rattle.kq_plan.specs.declared.work.LeafKind.{LeafKind}
use Rattle.kq_plan.specs.declared.work.LeafKind.TheVariants as kind
use Rattle.kq_plan.specs.Plans.{Doing, leaf, Stepping, Planned}

-- ---- steps

abbrev pub is_view : LeafKind → Bool
is_view kind.Table = false
is_view kind.View = true
is_view kind.Part = true

abbrev pub view_read : Doing → Bool
view_read (leaf k said) = is_view k
view_read _ = false

-- whether it gives the rows of a view, or of the part of one
abbrev pub reads_view : Stepping → Bool
reads_view s = view_read s.doing

-- whether it asks for the moment of a command
abbrev pub asks_moment : Stepping → Bool
asks_moment s = step_asks s.doing

-- it gives the rows of this table
abbrev pub IsLeafOf : List ℕ → Stepping → Type 0
IsLeafOf table s = s.doing ≡ leaf kind.Table table

-- ---- plans

-- its leaves are tables alone, the source among them, and it asks for no moment
pub record IsPolicyBody (source : List ℕ) (p : Planned) : Type 0 where
  pub no_view : All (λ (s : Stepping). reads_view s ≡ false) p.steps
  pub names_source : Any (IsLeafOf source) p.steps
  pub timeless : All (λ (s : Stepping). asks_moment s ≡ false) p.steps
