-- What ranges, different rows, joins, unions and the parts of dynamics come to is typed.
use Rattle.std.proofs.Common.{◌≡◌, ℕ, Bool, true, false, Option, List, [], ◌∷◌, get_or, length, map, nat_lt, sym, subst}
use Rattle.std.specs.Prelude.{All, if◌then◌else◌}
use Rattle.std.proofs.lemmas.List.Elements.{All-cons, All-head, All-map, All-nil, All-tail}
use Rattle.kq_run_gather.proofs.kq_value_arithmetic.Typed.{GivesType}
use Rattle.kq_value.specs.Computed.{Computed, Is, Overflow, and_then, each}
use Rattle.kq_plan_expressions.specs.Terms.{Term}
use Rattle.kq_run_join.proofs.Typed.{Joined-typed}
use Rattle.kq_run_join.specs.Joined.{Joined}
use Rattle.kq_plan.specs.declared.work.JoinKind.{JoinKind}
use Rattle.kq_plan.specs.Fits.{FitsArm, FitsRange, GivesColumns, HaveTypes, IsTyped, join_types, part_type, ty_of, types_with}
use Rattle.kq_plan.specs.Plans.{Filling, Stepping}
use Rattle.kq_run_reshape.proofs.Parted.{expand_typed}
use Rattle.kq_run_reshape.proofs.Typed.{ArmFits, distinct_typed, range_typed, union_typed}
use Rattle.kq_run_reshape.specs.MvExpand.{expanded}
use Rattle.kq_run_reshape.specs.Range.{range_of}
use Rattle.kq_run_reshape.specs.Union.{united}
use Rattle.kq_run_gather.specs.kq_eval_row.Val.{Surroundings, meaning}
use Rattle.kq_value.specs.declared.schema.Field.{Field}
use Rattle.kq_value.specs.declared.ty.Ty.{Ty}
use Rattle.kq_value.specs.declared.ty.Ty.TheVariants as ty
use Rattle.kq_value.specs.declared.value.Value.{Value}
use Rattle.kq_value.specs.Typed.{HasType, HasTypes}
use Rattle.kq_run_plan.specs.declared.outcome.Outcome.{Outcome}
use Rattle.kq_run_plan.specs.declared.outcome.Outcome.TheVariants as outcome
use Rattle.kq_run_plan.specs.Operators.{in_stage}
use Rattle.kq_run_plan.specs.Outcomes.{Row, rows_of}
use Rattle.kq_run_plan.specs.Reshaped.{DiffersTo, JoinsTo, arm_given, arms_together, columns_before, come_in_stage, expanded_by, few_rows, range_at}
use Rattle.kq_run_plan.specs.Typed.{IsTypedTable, Stood}
use Rattle.kq_run_plan.proofs.TypedOutcomes.{columns_before-given, rows_typed, staged_typed, table_typed}
use Rattle.kq_run_plan.proofs.TypedRows.{GivesRows, Surrounds, meaning_typed}

-- ---- ranges

few_or_not : (cs : List Field) (rows : List Row) (more : Bool) → All (HasTypes cs) rows → IsTypedTable cs (if more then outcome.Full 1048576 else outcome.Table false rows)
few_or_not cs rows true all = tt
few_or_not cs rows false all = all

few_typed : (cs : List Field) (rows : List Row) → All (HasTypes cs) rows → IsTypedTable cs (few_rows rows)
few_typed cs rows all = few_or_not cs rows (nat_lt 1048576 (length rows)) all

-- a typed table, or an overflow
abbrev GivesTable : List Field → Computed Outcome → Type 0
GivesTable cs (Is o) = IsTypedTable cs o
GivesTable cs Overflow = Unit {0}

come_typed : (cs : List Field) (stage : ℕ) (c : Computed Outcome) → GivesTable cs c → IsTypedTable cs (come_in_stage stage c)
come_typed cs stage (Is o) typed = typed
come_typed cs stage Overflow typed = tt

between_typed : (f : Field) (a b c : Computed Value) → GivesType f.ty a → GivesType f.ty b
    → GivesTable (f ∷ []) (and_then a (λ x. and_then b (λ y. and_then c (λ z. Is (few_rows (range_of x y z))))))
between_typed f (Is x) (Is y) (Is z) p q = few_typed (f ∷ []) (range_of x y z) (range_typed f x y z p q)
between_typed f (Is x) (Is y) Overflow p q = tt
between_typed f (Is x) Overflow c p q = tt
between_typed f Overflow b c p q = tt

pub numbers_typed : (lets cs : List Field) (s : Surroundings) (from to by : Term) (stage : ℕ) (o : Outcome)
    → Surrounds lets s → FitsRange lets from to by cs → o ≡ come_in_stage stage (range_at from to by s) → IsTypedTable cs o
numbers_typed lets [] s from to by stage o around fits is = absurd fits
numbers_typed lets (f ∷ []) s from to by stage o around (u, steps, p, q, r) is =
    let begins = meaning_typed lets [] s [] from f.ty around tt p in
    let ends = meaning_typed lets [] s [] to f.ty around tt q in
    subst (IsTypedTable (f ∷ [])) (sym is) (come_typed (f ∷ []) stage (range_at from to by s) (between_typed f (meaning from s []) (meaning to s []) (meaning by s []) begins ends))
numbers_typed lets (f ∷ g ∷ cs) s from to by stage o around fits is = absurd fits

-- ---- different rows

pub apart_typed : (from cs : List Field) (columns : List ℕ) (rows : List Row) (o : Outcome) → HaveTypes from columns cs → All (HasTypes from) rows → DiffersTo columns rows o → IsTypedTable cs o
apart_typed from cs columns rows o have all to = table_typed cs false to.out o to.is (distinct_typed from cs columns rows to.out have all to.apart_so)

-- ---- joins

pub joined_typed : (kind : JoinKind) (on : List (ℕ × ℕ)) (before : List Stepping) (ls rs cs : List Field) (i j : ℕ) (left right : List Row) (o : Outcome)
    → GivesColumns before i ls → GivesColumns before j rs → All (HasTypes ls) left → All (HasTypes rs) right → map ty_of cs ≡ join_types kind ls rs
    → JoinsTo kind on (columns_before before i) (columns_before before j) left right o → IsTypedTable cs o
joined_typed kind on before ls rs cs i j left right o p q lefts rights is to =
    let from_left = subst (λ (fs : List Field). Joined kind on fs (columns_before before j) left right to.out) (columns_before-given before i ls p) to.joined_so in
    let from_both = subst (λ (fs : List Field). Joined kind on ls fs left right to.out) (columns_before-given before j rs q) from_left in
    table_typed cs false to.out o to.is (Joined-typed kind on ls rs cs left right to.out lefts rights is from_both)

-- ---- unions

pub united_typed : (before : List Stepping) (done : List Outcome) (cs : List Field) (arms : List Filling) (o : Outcome)
    → Stood before done → All (FitsArm before cs) arms → o ≡ arms_together done cs arms → IsTypedTable cs o
united_typed before done cs arms o stood fits is =
    let each_fits : All (ArmFits cs) (map (arm_given done) arms) =
    All-map (ArmFits cs) (arm_given done) arms (λ k d within. let fit = fits k d within in (fit.0, rows_typed before done (get_or arms k d).0 fit.0 stood fit.1, fit.2)) in
    table_typed cs false (united cs (map (arm_given done) arms)) o is (union_typed cs (map (arm_given done) arms) each_fits)

-- ---- the parts of dynamics

-- values of this type, or an overflow
abbrev GivesAll : Ty → Computed (List Value) → Type 0
GivesAll t (Is vs) = All (HasType t) vs
GivesAll t Overflow = Unit {0}

value_and_values : (t : Ty) (c : Computed Value) (rest : Computed (List Value)) → GivesType t c → GivesAll t rest → GivesAll t (and_then c (λ v. and_then rest (λ vs. Is (v ∷ vs))))
value_and_values t (Is v) (Is vs) has more = All-cons (HasType t) v vs has more
value_and_values t (Is v) Overflow has more = tt
value_and_values t Overflow rest has more = tt

each_value : (lets from : List Field) (s : Surroundings) (e : Term) (t : Ty) (rows : List Row) → Surrounds lets s → IsTyped lets from e t → All (HasTypes from) rows → GivesAll t (each (meaning e s) rows)
each_value lets from s e t [] around has all = All-nil (HasType t)
each_value lets from s e t (r ∷ rows) around has all =
    value_and_values t (meaning e s r) (each (meaning e s) rows) (meaning_typed lets from s r e t around (All-head (HasTypes from) r rows all) has)
    (each_value lets from s e t rows around has (All-tail (HasTypes from) r rows all))

parts_come : (from cs : List Field) (at : ℕ) (t : Option Ty) (rows : List Row) (c : Computed (List Value)) → map ty_of cs ≡ types_with (map ty_of from) at (part_type t) → All (HasTypes from) rows
    → GivesAll ty.Dynamic c → GivesRows cs (and_then c (λ vs. Is (expanded at t rows vs)))
parts_come from cs at t rows (Is vs) is all dynamics = expand_typed from cs at t rows vs is all dynamics
parts_come from cs at t rows Overflow is all dynamics = tt

pub expanded_typed : (lets from cs : List Field) (s : Surroundings) (e : Term) (at : ℕ) (t : Option Ty) (rows : List Row) (stage : ℕ) (o : Outcome)
    → Surrounds lets s → IsTyped lets from e ty.Dynamic → map ty_of cs ≡ types_with (map ty_of from) at (part_type t) → All (HasTypes from) rows
    → o ≡ in_stage stage false (expanded_by e s at t rows) → IsTypedTable cs o
expanded_typed lets from cs s e at t rows stage o around has is all came =
    staged_typed cs stage false (expanded_by e s at t rows) o came
    (parts_come from cs at t rows (each (meaning e s) rows) is all (each_value lets from s e ty.Dynamic rows around has all))
