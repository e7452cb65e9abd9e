-- A plan that fits the names that it is bound over: the columns and the types of every step.
use Rattle.std.specs.Prelude.{◌≡◌, ◌≢◌, ◌⊎◌, ℕ, zero, suc, List, [], ◌∷◌, ◌++◌, All, map, Option, Some, None, slice_get, option_and_then}
use Rattle.kq_plan_expressions.specs.HasType.{Has, HoldsProper}
use Rattle.kq_plan_expressions.specs.Terms.{Term}
use Rattle.kq_plan.specs.declared.names.NameKind.TheVariants as name
use Rattle.kq_plan.specs.declared.work.JoinKind.{JoinKind}
use Rattle.kq_plan.specs.declared.work.JoinKind.TheVariants as join
use Rattle.kq_plan.specs.declared.work.LeafKind.{LeafKind}
use Rattle.kq_plan.specs.declared.work.LeafKind.TheVariants as kind
use Rattle.kq_plan.specs.Names.{Known}
use Rattle.kq_plan.specs.Plans.{Sorting, Aggregating, rows_counted, summed, least_of, greatest_of, at_greatest, at_least, any_of, set_of, Filling, Doing, leaf, one_row, numbers, written, scalar, kept, mapped, cut, counted, sorted, topped, apart, summarized, joined, united, expanded, Stepping, Planned}
use Rattle.kq_plan_expressions.specs.kq_value.Field.{Field}
use Rattle.kq_plan_expressions.specs.kq_value.Ty.{Ty}
use Rattle.kq_plan_expressions.specs.kq_value.TheVariants as ty
use Rattle.kq_plan_expressions.specs.kq_value.Typed.{HasTypes}

-- ---- what earlier steps give

abbrev pub cells_in : Doing → List Field → List Field
cells_in (scalar e) cs = cs
cells_in _ cs = []

-- the scalar lets among steps, in order
abbrev pub lets_of : List Stepping → List Field
lets_of [] = []
lets_of (s ∷ ss) = cells_in s.doing s.columns ++ lets_of ss

abbrev pub rows_in : Doing → List Field → Option (List Field)
rows_in (scalar e) cs = None
rows_in _ cs = Some cs

abbrev pub columns_given : Stepping → Option (List Field)
columns_given s = rows_in s.doing s.columns

-- the step of this number gives rows of these columns
abbrev pub GivesColumns : List Stepping → ℕ → List Field → Type 0
GivesColumns ss i cs = option_and_then columns_given (slice_get ss i) ≡ Some cs

-- ---- types

-- a term of this type over these lets and columns, whose literals are ones that rows may hold
abbrev pub IsTyped : List Field → List Field → Term → Ty → Type 0
IsTyped lets cs e t = Has lets cs e t × HoldsProper e

-- a term for each column, of its type
abbrev pub AreTyped : List Field → List Field → List Term → List Field → Type 0
AreTyped lets cs [] [] = Unit {0}
AreTyped lets cs [] (f ∷ fs) = ⊥
AreTyped lets cs (e ∷ es) [] = ⊥
AreTyped lets cs (e ∷ es) (f ∷ fs) = IsTyped lets cs e f.ty × AreTyped lets cs es fs

abbrev pub type_at : List Field → ℕ → Option Ty
type_at [] i = None
type_at (c ∷ cs) zero = Some c.ty
type_at (c ∷ cs) (suc i) = type_at cs i

-- the columns of these numbers have these types
abbrev pub HaveTypes : List Field → List ℕ → List Field → Type 0
HaveTypes from [] [] = Unit {0}
HaveTypes from [] (f ∷ fs) = ⊥
HaveTypes from (i ∷ is) [] = ⊥
HaveTypes from (i ∷ is) (f ∷ fs) = (type_at from i ≡ Some f.ty) × HaveTypes from is fs

-- a value that rows are sorted by: no dynamic
abbrev pub IsSortKey : List Field → List Field → Sorting → Type 0
IsSortKey lets cs k = (t : Ty) × IsTyped lets cs k.value t × (t ≢ ty.Dynamic)

-- ---- sources

-- what the name stands for, and its columns; a view alone has a part
abbrev pub FitsLeaf : LeafKind → Option Known → List Field → Type 0
FitsLeaf kind.Table known cs = known ≡ Some (name.Table, cs)
FitsLeaf kind.View known cs = known ≡ Some (name.View, cs)
FitsLeaf kind.Part known cs = known ≡ Some (name.View, cs)

-- the values of a range, and its step
abbrev pub StepsBy : Ty → Ty → Type 0
StepsBy ty.Long u = u ≡ ty.Long
StepsBy ty.Moment u = u ≡ ty.Span
StepsBy ty.Span u = u ≡ ty.Span
StepsBy t u = ⊥

abbrev pub FitsRange : List Field → Term → Term → Term → List Field → Type 0
FitsRange lets a b c [] = ⊥
FitsRange lets a b c (f ∷ []) = (u : Ty) × StepsBy f.ty u × IsTyped lets [] a f.ty × IsTyped lets [] b f.ty × IsTyped lets [] c u
FitsRange lets a b c (f ∷ g ∷ fs) = ⊥

-- ---- several inputs

-- columns of one type, of the left rows and of the right ones, and no dynamics
abbrev pub Match : List Field → List Field → ℕ × ℕ → Type 0
Match ls rs p = (t : Ty) × (type_at ls p.0 ≡ Some t) × (type_at rs p.1 ≡ Some t) × (t ≢ ty.Dynamic)

abbrev pub ty_of : Field → Ty
ty_of f = f.ty

-- the types of a join's columns: semi and anti joins give the rows of their side
abbrev pub join_types : JoinKind → List Field → List Field → List Ty
join_types join.LeftSemi ls rs = map ty_of ls
join_types join.LeftAnti ls rs = map ty_of ls
join_types join.RightSemi ls rs = map ty_of rs
join_types join.RightAnti ls rs = map ty_of rs
join_types _ ls rs = map ty_of ls ++ map ty_of rs

abbrev pub IsFilled : List Field → Option ℕ → Field → Type 0
IsFilled from None f = Unit {0}
IsFilled from (Some i) f = type_at from i ≡ Some f.ty

-- for each column of the union nothing, or a column of its type
abbrev pub AreFilled : List Field → List (Option ℕ) → List Field → Type 0
AreFilled from [] [] = Unit {0}
AreFilled from [] (f ∷ fs) = ⊥
AreFilled from (o ∷ os) [] = ⊥
AreFilled from (o ∷ os) (f ∷ fs) = IsFilled from o f × AreFilled from os fs

abbrev pub FitsArm : List Stepping → List Field → Filling → Type 0
FitsArm before cs arm = (from : List Field) × GivesColumns before arm.0 from × AreFilled from arm.1 cs

-- ---- groups

-- what an aggregate makes of rows of these columns: its own columns
abbrev pub FitsAggregate : List Field → List Field → Aggregating → List Field → Type 0
FitsAggregate lets from rows_counted cs = map ty_of cs ≡ ty.Long ∷ []
FitsAggregate lets from (summed e) cs = (t : Ty) × (map ty_of cs ≡ t ∷ []) × IsTyped lets from e t × ((t ≡ ty.Long) ⊎ (t ≡ ty.Span))
FitsAggregate lets from (least_of e) cs = (t : Ty) × (map ty_of cs ≡ t ∷ []) × IsTyped lets from e t × (t ≢ ty.Dynamic)
FitsAggregate lets from (greatest_of e) cs = (t : Ty) × (map ty_of cs ≡ t ∷ []) × IsTyped lets from e t × (t ≢ ty.Dynamic)
FitsAggregate lets from (at_greatest e is) [] = ⊥
FitsAggregate lets from (at_greatest e is) (c ∷ cs) = IsTyped lets from e c.ty × (c.ty ≢ ty.Dynamic) × HaveTypes from is cs
FitsAggregate lets from (at_least e is) [] = ⊥
FitsAggregate lets from (at_least e is) (c ∷ cs) = IsTyped lets from e c.ty × (c.ty ≢ ty.Dynamic) × HaveTypes from is cs
FitsAggregate lets from (any_of is) cs = HaveTypes from is cs
FitsAggregate lets from (set_of e n) cs = (t : Ty) × IsTyped lets from e t × (map ty_of cs ≡ ty.Dynamic ∷ [])

-- the columns of the aggregates one after another
abbrev pub FitAggregates : List Field → List Field → List Aggregating → List Field → Type 0
FitAggregates lets from [] cs = cs ≡ []
FitAggregates lets from (g ∷ gs) cs = (own : List Field) × (more : List Field) × (cs ≡ own ++ more) × FitsAggregate lets from g own × FitAggregates lets from gs more

-- ---- steps

-- the type that stands at a place; one behind the last stands last
abbrev pub types_with : List Ty → ℕ → Ty → List Ty
types_with [] i t = t ∷ []
types_with (u ∷ us) zero t = t ∷ us
types_with (u ∷ us) (suc i) t = u ∷ types_with us i t

abbrev pub part_type : Option Ty → Ty
part_type (Some t) = t
part_type None = ty.Dynamic

-- over these names and after these steps, a step that does this gives rows of these columns
abbrev pub FitsStep : (List ℕ → Option Known) → List Stepping → Doing → List Field → Type 0
FitsStep known before (leaf k said) cs = FitsLeaf k (known said) cs
FitsStep known before (one_row es) cs = AreTyped (lets_of before) [] es cs
FitsStep known before (numbers a b c) cs = FitsRange (lets_of before) a b c cs
FitsStep known before (written rows) cs = All (HasTypes cs) rows
FitsStep known before (scalar e) cs = (t : Ty) × (map ty_of cs ≡ t ∷ []) × IsTyped (lets_of before) [] e t
FitsStep known before (kept i e) cs = GivesColumns before i cs × IsTyped (lets_of before) cs e ty.Bool
FitsStep known before (mapped i es) cs = (from : List Field) × GivesColumns before i from × AreTyped (lets_of before) from es cs
FitsStep known before (cut i n) cs = GivesColumns before i cs
FitsStep known before (counted i) cs = (from : List Field) × GivesColumns before i from × (map ty_of cs ≡ ty.Long ∷ [])
FitsStep known before (sorted i ks) cs = GivesColumns before i cs × All (IsSortKey (lets_of before) cs) ks
FitsStep known before (topped i n k) cs = GivesColumns before i cs × IsSortKey (lets_of before) cs k
FitsStep known before (apart i is) cs = (from : List Field) × GivesColumns before i from × HaveTypes from is cs × All (λ (c : Field). c.ty ≢ ty.Dynamic) cs
FitsStep known before (summarized i es gs) cs =
    (from : List Field) × GivesColumns before i from
    × (ks : List Field) × (made : List Field) × (cs ≡ ks ++ made) × AreTyped (lets_of before) from es ks × All (λ (c : Field). c.ty ≢ ty.Dynamic) ks
    × FitAggregates (lets_of before) from gs made
FitsStep known before (joined k i j on) cs =
    (ls : List Field) × (rs : List Field) × GivesColumns before i ls × GivesColumns before j rs × All (Match ls rs) on × (map ty_of cs ≡ join_types k ls rs)
FitsStep known before (united arms) cs = All (FitsArm before cs) arms
FitsStep known before (expanded i e at t) cs =
    (from : List Field) × GivesColumns before i from × IsTyped (lets_of before) from e ty.Dynamic × (map ty_of cs ≡ types_with (map ty_of from) at (part_type t))

-- each step fits after those before it
abbrev pub FitAfter : (List ℕ → Option Known) → List Stepping → List Stepping → Type 0
FitAfter known before [] = Unit {0}
FitAfter known before (s ∷ ss) = FitsStep known before s.doing s.columns × FitAfter known (before ++ s ∷ []) ss

-- the answer is rows of these columns
pub record FitsNames (known : List ℕ → Option Known) (p : Planned) (columns : List Field) : Type 0 where
  pub steps : FitAfter known [] p.steps
  pub output : GivesColumns p.steps p.output columns
