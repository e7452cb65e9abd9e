-- The rows of a datatable have the types of its columns.
use Rattle.std.proofs.Common.{◌≡◌, ℕ, ℤ, Bool, true, false, cond, List, [], ◌∷◌, ◌++◌, All, Option, Some, None, Ok, refl, ◌∙◌, subst, append_assoc}
use Rattle.std.specs.Prelude.{option_and_then}
use Rattle.std.proofs.lemmas.List.Elements.{All-nil, All-cons}
use Rattle.kq_value_arithmetic.specs.Arithmetic.{negated}
use Rattle.kq_value_arithmetic.proofs.Typed.{GivesType, negated-typed}
use Rattle.kq_bind_query.specs.kq_bind_operators.Clauses.{table_rows}
use Rattle.kq_bind_query.specs.kq_bind_operators.Flows.{Progressing, Flowing, following}
use Rattle.kq_bind_query.specs.kq_bind_operators.Scopes.{Scoping}
use Rattle.kq_bind_clauses.specs.Tables.{takes_sign, if_value, with_sign, as_int, of_column, place_of, signed_in, cell_made, none_left, rows_made, Tabled, table_columns, tabled}
use Rattle.kq_bind_expressions.specs.Verdicts.{and_then, or_fault, mistyped, unsupported}
use Rattle.kq_value.specs.Computed.{Computed, Is, Overflow}
use Rattle.kq_read_grammar.specs.declared.clause.Cell.{Cell}
use Rattle.kq_read_grammar.specs.declared.clause.Column.{Column}
use Rattle.kq_plan.specs.Plans.{written}
use Rattle.kq_read_meanings.specs.Literals.{literal_value}
use Rattle.kq_read_meanings.proofs.Proper.{literal_proper}
use Rattle.kq_read_symbols.specs.declared.kind.Kind.{Kind}
use Rattle.kq_read_symbols.specs.declared.kind.Kind.TheVariants as kind
use Rattle.kq_read_symbols.specs.declared.kind.Symbol.{Symbol}
use Rattle.kq_value.specs.declared.schema.Field.{Field}
use Rattle.kq_value.specs.declared.ty.Ty.{Ty}
use Rattle.kq_value.specs.declared.ty.Ty.TheVariants as ty
use Rattle.kq_value.specs.declared.value.Value.{Value}
use Rattle.kq_value.specs.declared.value.Value.TheVariants as cell
use Rattle.kq_value.specs.Ty.{same_ty}
use Rattle.kq_value.specs.Typed.{type_of, IsProper, HasType, HasTypes}
use Rattle.kq_value_formats.specs.Numerals.{is_int}
use Rattle.kq_bind_query.proofs.Progress.{then_ok, done, done_is, Holds, Goes, following_goes}
use Rattle.kq_bind_query.proofs.Columns.{same_is, found_ok}

-- ---- cells

value_typed : (t : Ty) (c : Computed Value) (w : Value) → GivesType t c → if_value c ≡ Some w → IsProper w
value_typed t (Is v) w h e = let is : v ≡ w = cc in subst IsProper is h.1
value_typed t Overflow w h e = absurd (cc)

signed_by : (v w : Value) (t : Ty) → type_of v ≡ t → cond (takes_sign t) (if_value (negated v)) None ≡ Some w → IsProper w
signed_by v w ty.Long is e = value_typed ty.Long (negated v) w (negated-typed ty.Long v is ((λ x. cc), (λ x. cc))) e
signed_by v w ty.Int is e = value_typed ty.Int (negated v) w (negated-typed ty.Int v is ((λ x. cc), (λ x. cc))) e
signed_by v w ty.Span is e = value_typed ty.Span (negated v) w (negated-typed ty.Span v is ((λ x. cc), (λ x. cc))) e
signed_by v w ty.Text is e = absurd (cc)
signed_by v w ty.Bool is e = absurd (cc)
signed_by v w ty.Moment is e = absurd (cc)
signed_by v w ty.Dynamic is e = absurd (cc)

sign_proper : (o : Option Symbol) (v w : Value) → IsProper v → with_sign o v ≡ Some w → IsProper w
sign_proper None v w h e = let is : v ≡ w = cc in subst IsProper is h
sign_proper (Some t) v w h e = signed_by v w (type_of v) refl e

int_typed : (z : ℤ) (b : Bool) (w : Value) → cond b (Some (cell.Int z)) None ≡ Some w → HasType ty.Int w
int_typed z true w e = let is : cell.Int z ≡ w = cc in subst (HasType ty.Int) is (refl, tt)
int_typed z false w e = absurd (cc)

as_int_typed : (k : Kind) (t : Ty) (v w : Value) → as_int k t v ≡ Some w → HasType t w
as_int_typed kind.WholeNumber ty.Int (cell.Long z) w e = int_typed z (is_int z) w e
as_int_typed k t v w e = absurd (cc)

column_typed : (k : Kind) (t : Ty) (v w : Value) → IsProper v → of_column k t v ≡ Some w → HasType t w
column_typed k t v w h e = by (same_ty (type_of v) t) refl e where
  by : (b : Bool) → same_ty (type_of v) t ≡ b → cond b (Some v) (as_int k t v) ≡ Some w → HasType t w
  by true same g = let is : v ≡ w = cc in subst (HasType t) is (same_is (type_of v) t same, h)
  by false same g = as_int_typed k t v w g

signed_typed : (t : Ty) (c : Cell) (o : Option Value) (w : Value) → ((v : Value) → o ≡ Some v → IsProper v)
    → option_and_then (of_column c.literal.kind t) o ≡ Some w → HasType t w
signed_typed t c (Some v) w h e = column_typed c.literal.kind t v w (h v refl) e
signed_typed t c None w h e = absurd (cc)

cell_typed : (text : List ℕ) (t : Ty) (c : Cell) (w : Value) → cell_made text t c ≡ Ok w → HasType t w
cell_typed text t c w e =
    let v = then_ok (or_fault (unsupported c.literal.from) (literal_value text c.literal))
    (λ v. or_fault (mistyped (place_of c.minus c.literal)) (signed_in t c v)) w e in
    let proper = literal_proper text c.literal v.0 (found_ok (unsupported c.literal.from) (literal_value text c.literal) v.0 v.1) in
    signed_typed t c (with_sign c.minus v.0) w (λ u is. sign_proper c.minus v.0 u proper is)
    (found_ok (mistyped (place_of c.minus c.literal)) (signed_in t c v.0) w v.2)

-- ---- rows

types_behind : (fs : List Field) (vs : List Value) (f : Field) (v : Value) → HasTypes fs vs → HasType f.ty v → HasTypes (fs ++ f ∷ []) (vs ++ v ∷ [])
types_behind [] [] f v h is = (is, tt)
types_behind [] (x ∷ vs) f v h is = absurd h
types_behind (g ∷ fs) [] f v h is = absurd h
types_behind (g ∷ fs) (x ∷ vs) f v h is = (h.0, types_behind fs vs f v h.1 is)

none_typed : (at : ℕ) (cs : List Field) (row : List Value) (rows : List (List Value)) → none_left at row ≡ Ok rows → All (HasTypes cs) rows
none_typed at cs [] rows e = subst (All (HasTypes cs)) (done_is [] rows e) (All-nil (HasTypes cs))
none_typed at cs (v ∷ row) rows e = absurd (cc)

-- the first row has the types of the columns so far
rows_typed : (text : List ℕ) (at : ℕ) (cs front : List Field) (row : List Value) (left : List Field) (xs : List Cell) (rows : List (List Value))
    → front ++ left ≡ cs → HasTypes front row → rows_made text at cs row left xs ≡ Ok rows → All (HasTypes cs) rows
rows_typed text at cs front row left [] rows is h e = none_typed at cs row rows e
rows_typed text at cs front row [] (x ∷ xs) rows is h e = absurd (cc)
rows_typed text at cs front row (c ∷ []) (x ∷ xs) rows is h e =
    let v = then_ok (cell_made text c.ty x) (λ v. and_then (rows_made text at cs [] cs xs) (λ more. done ((row ++ v ∷ []) ∷ more))) rows e in
    let more = then_ok (rows_made text at cs [] cs xs) (λ more. done ((row ++ v.0 ∷ []) ∷ more)) rows v.2 in
    let first : HasTypes cs (row ++ v.0 ∷ []) =
    subst (λ (fs : List Field). HasTypes fs (row ++ v.0 ∷ [])) is (types_behind front row c v.0 h (cell_typed text c.ty x v.0 v.1)) in
    subst (All (HasTypes cs)) (done_is ((row ++ v.0 ∷ []) ∷ more.0) rows more.2)
    (All-cons (HasTypes cs) (row ++ v.0 ∷ []) more.0 first (rows_typed text at cs [] [] cs xs more.0 refl tt more.1))
rows_typed text at cs front row (c ∷ d ∷ left) (x ∷ xs) rows is h e =
    let v = then_ok (cell_made text c.ty x) (λ v. rows_made text at cs (row ++ v ∷ []) (d ∷ left) xs) rows e in
    rows_typed text at cs (front ++ c ∷ []) (row ++ v.0 ∷ []) (d ∷ left) xs rows (append_assoc front (c ∷ []) (d ∷ left) ∙ is)
    (types_behind front row c v.0 h (cell_typed text c.ty x v.0 v.1)) v.2

tabled_typed : (text : List ℕ) (at : ℕ) (cs : List Column) (xs : List Cell) (t : Tabled) → tabled text at cs xs ≡ Ok t → All (HasTypes t.0) t.1
tabled_typed text at cs xs t e =
    let fs = then_ok (table_columns text [] cs) (λ fs. and_then (rows_made text at fs [] fs xs) (λ rows. done (fs, rows))) t e in
    let rows = then_ok (rows_made text at fs.0 [] fs.0 xs) (λ rows. done (fs.0, rows)) t fs.2 in
    subst (λ (z : Tabled). All (HasTypes z.0) z.1) (done_is (fs.0, rows.0) t rows.2) (rows_typed text at fs.0 [] [] fs.0 xs rows.0 refl tt rows.1)

pub table_goes : (s : Scoping) (p : Progressing) (at : ℕ) (cs : List Column) (xs : List Cell) (v : Flowing) → Holds s p.steps → table_rows s p at cs xs ≡ Ok v
    → Goes s p.steps v
table_goes s p at cs xs v h e =
    let t = then_ok (tabled s.text at cs xs) (λ t. done (following p (written t.1) t.0)) v e in
    subst (Goes s p.steps) (done_is (following p (written t.0.1) t.0.0) v t.2)
    (following_goes s p (written t.0.1) t.0.0 h (tabled_typed s.text at cs xs t.0 t.1) refl refl)
