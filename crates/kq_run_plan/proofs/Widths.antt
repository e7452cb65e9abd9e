-- The widths of the rows that a fitting step takes.
use Rattle.std.proofs.Common.{◌≡◌, ◌<◌, ◌+◌, ℕ, List, [], ◌∷◌, ◌++◌, Option, Vec, Global, length, map, subst, sym, ap, ◌∙◌, arith, length-append}
use Rattle.std.specs.List.{All}
use Rattle.std.proofs.lemmas.List.{get_or-map, length-map}
use Rattle.kq_plan.specs.declared.work.JoinKind.{JoinKind}
use Rattle.kq_plan.specs.declared.work.LeafKind.{LeafKind}
use Rattle.kq_plan.specs.Fits.{FitsLeaf, FitsStep, GivesColumns}
use Rattle.kq_plan.specs.Names.{Known}
use Rattle.kq_plan.specs.Plans.{Doing, Stepping, cells_seen, leaf, written, joined}
use Rattle.kq_store_rows.proofs.Typed.{typed_width}
use Rattle.kq_store_rows.specs.Chunks.{HasWidth}
use Rattle.kq_value.specs.declared.schema.Field.{Field}
use Rattle.kq_value.specs.declared.value.Value.{Value}
use Rattle.kq_run_plan.specs.declared.outcome.Outcome.{Outcome}
use Rattle.kq_run_plan.specs.Gives.{World}
use Rattle.kq_run_plan.specs.Outcomes.{Row, rows_of}
use Rattle.kq_run_plan.specs.Reshaped.{columns_before}
use Rattle.kq_run_plan.specs.Typed.{IsNext, Stood}
use Rattle.kq_run_plan.proofs.TypedOutcomes.{columns_before-given, rows_typed}

-- rows of a step are as wide as its columns
pub rows_wide : (before : List Stepping) (done : List Outcome) (i : ℕ) (cs : List Field) → Stood before done → GivesColumns before i cs → All (HasWidth (length (columns_before before i))) (rows_of done i)
rows_wide before done i cs stood is =
    subst (λ (fs : List Field). All (HasWidth (length fs)) (rows_of done i)) (sym (columns_before-given before i cs is)) (typed_width cs (rows_of done i) (rows_typed before done i cs stood is))

joined_fits : (known : List ℕ → Option Known) (w : World) (before : List Stepping) (done : List Outcome) (s : Stepping) (kind : JoinKind) (i j : ℕ) (on : List (ℕ × ℕ)) (next : IsNext known w before done s) → s.doing ≡ joined kind i j on
    → FitsStep known before (joined kind i j on) s.columns
joined_fits known w before done s kind i j on next is = subst (λ (d : Doing). FitsStep known before d s.columns) is next.fits

pub left_wide : (known : List ℕ → Option Known) (w : World) (before : List Stepping) (done : List Outcome) (s : Stepping) (kind : JoinKind) (i j : ℕ) (on : List (ℕ × ℕ)) → IsNext known w before done s → s.doing ≡ joined kind i j on
    → All (HasWidth (length (columns_before before i))) (rows_of done i)
left_wide known w before done s kind i j on next is =
    let fits = joined_fits known w before done s kind i j on next is in
    rows_wide before done i fits.0 next.stood fits.2

pub right_wide : (known : List ℕ → Option Known) (w : World) (before : List Stepping) (done : List Outcome) (s : Stepping) (kind : JoinKind) (i j : ℕ) (on : List (ℕ × ℕ)) → IsNext known w before done s → s.doing ≡ joined kind i j on
    → All (HasWidth (length (columns_before before j))) (rows_of done j)
right_wide known w before done s kind i j on next is =
    let fits = joined_fits known w before done s kind i j on next is in
    rows_wide before done j fits.1 next.stood fits.3

-- the rows of a datatable are as wide as its columns
pub written_wide : (known : List ℕ → Option Known) (w : World) (before : List Stepping) (done : List Outcome) (s : Stepping) (rows : List Row) → IsNext known w before done s → s.doing ≡ written rows → All (HasWidth (length s.columns)) rows
written_wide known w before done s rows next is = typed_width s.columns rows (subst (λ (d : Doing). FitsStep known before d s.columns) is next.fits)

-- the same as the code has them
pub cells_wide : (rows : List (Vec Value Global)) (width : ℕ) → All (HasWidth width) (map cells_seen rows) → All (λ (row : Vec Value Global). length row.items ≡ width) rows
cells_wide rows width wide k d within =
    let inside : k < length (map cells_seen rows) = let a = length-map rows cells_seen in omega (arith, a, within) in
    ap length (sym (get_or-map cells_seen rows k d [] within)) ∙ wide k [] inside

-- a leaf is known as it is asked for
pub leaf_fits : (known : List ℕ → Option Known) (w : World) (before : List Stepping) (done : List Outcome) (s : Stepping) (kind : LeafKind) (name : List ℕ) → IsNext known w before done s → s.doing ≡ leaf kind name
    → FitsLeaf kind (known name) s.columns
leaf_fits known w before done s kind name next is = subst (λ (d : Doing). FitsStep known before d s.columns) is next.fits
