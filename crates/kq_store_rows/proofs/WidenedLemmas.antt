-- What is known of widened rows.
use Rattle.std.proofs.Common.{◌≡◌, ◌≤◌, ℕ, zero, suc, List, [], ◌∷◌, ◌++◌, length, map, Option, Some, None, refl, ap, sym, arith}
use Rattle.std.specs.List.{slice_get, All}
use Rattle.std.specs.Option.{option_or}
use Rattle.std.proofs.lemmas.List.Elements.{All-nil, All-cons, All-head, All-tail}
use Rattle.kq_value.specs.declared.record.Record.{Record}
use Rattle.kq_value.specs.declared.record_id.RecordId.{RecordId}
use Rattle.kq_value.specs.declared.schema.Field.{Field}
use Rattle.kq_value.specs.declared.ty.Ty.{Ty}
use Rattle.kq_value.specs.declared.ty.Ty.TheVariants as ty
use Rattle.kq_value.specs.declared.value.Value.{Value}
use Rattle.kq_value.specs.Typed.{HasType, HasTypes, missing_of}
use Rattle.kq_store_rows.specs.Widened.{widened, widened_records, missing_at}

-- a row that lacks nothing stays
pub widened-whole : (fields : List Field) (row : List Value) → length fields ≤ length row → widened fields row ≡ row
widened-whole [] row long = refl
widened-whole (f ∷ fields) [] long = absurd (omega (arith, long))
widened-whole (f ∷ fields) (v ∷ row) long = ap (λ (vs : List Value). v ∷ vs) (widened-whole fields row (omega (arith, long)))

-- one cell more is the next that is missing
pub widened-next : (fields : List Field) (row : List Value) (f : Field) → slice_get fields (length row) ≡ Some f → widened fields (row ++ missing_of f.ty ∷ []) ≡ widened fields row
widened-next [] row f at = absurd (cc)
widened-next (g ∷ fields) [] f at = let same : g ≡ f = cc in ap (λ (x : Field). missing_of x.ty ∷ widened fields []) (sym same)
widened-next (g ∷ fields) (v ∷ row) f at = ap (λ (vs : List Value). v ∷ vs) (widened-next fields row f at)

-- widened to the first columns and then to all is widened to all
pub widened-twice : (fields more : List Field) (row : List Value) → widened (fields ++ more) (widened fields row) ≡ widened (fields ++ more) row
widened-twice [] more row = refl
widened-twice (f ∷ fields) more [] = ap (λ (vs : List Value). missing_of f.ty ∷ vs) (widened-twice fields more [])
widened-twice (f ∷ fields) more (v ∷ row) = ap (λ (vs : List Value). v ∷ vs) (widened-twice fields more row)

-- the cell in a column is the row's, and else what stands there where a row has none
pub widened-cell : (fields : List Field) (row : List Value) (j : ℕ) → slice_get (widened fields row) j ≡ option_or (slice_get row j) (missing_at fields j)
widened-cell [] row j = by_case (slice_get row j)
  where
    by_case : (o : Option Value) → o ≡ option_or o None
    by_case None = refl
    by_case (Some v) = refl
widened-cell (f ∷ fields) [] zero = refl
widened-cell (f ∷ fields) [] (suc j) = widened-cell fields [] j
widened-cell (f ∷ fields) (v ∷ row) zero = refl
widened-cell (f ∷ fields) (v ∷ row) (suc j) = widened-cell fields row j

-- ---- types

missing_typed : (t : Ty) → HasType t (missing_of t)
missing_typed ty.Long = (refl, ((λ e. cc), (λ e. cc)))
missing_typed ty.Int = (refl, ((λ e. cc), (λ e. cc)))
missing_typed ty.Text = (refl, tt)
missing_typed ty.Bool = (refl, ((λ e. cc), (λ e. cc)))
missing_typed ty.Moment = (refl, ((λ e. cc), (λ e. cc)))
missing_typed ty.Span = (refl, ((λ e. cc), (λ e. cc)))
missing_typed ty.Dynamic = (refl, tt)

missing_all : (fields : List Field) → HasTypes fields (widened fields [])
missing_all [] = tt
missing_all (f ∷ fields) = (missing_typed f.ty, missing_all fields)

-- a row of the first columns' types has, widened, the types of all
pub widened-typed : (fields more : List Field) (row : List Value) → HasTypes fields row → HasTypes (fields ++ more) (widened (fields ++ more) row)
widened-typed [] more [] typed = missing_all more
widened-typed [] more (v ∷ row) typed = absurd typed
widened-typed (f ∷ fields) more [] typed = absurd typed
widened-typed (f ∷ fields) more (v ∷ row) typed = (typed.0, widened-typed fields more row typed.1)

-- a row of the columns' types lacks nothing
pub widened-same : (fields : List Field) (row : List Value) → HasTypes fields row → widened fields row ≡ row
widened-same [] row typed = refl
widened-same (f ∷ fields) [] typed = absurd typed
widened-same (f ∷ fields) (v ∷ row) typed = ap (λ (vs : List Value). v ∷ vs) (widened-same fields row typed.1)

-- a row of the columns' types has a cell for each
pub typed-long : (fields : List Field) (row : List Value) → HasTypes fields row → length row ≡ length fields
typed-long [] [] typed = refl
typed-long [] (v ∷ row) typed = absurd typed
typed-long (f ∷ fields) [] typed = absurd typed
typed-long (f ∷ fields) (v ∷ row) typed = ap (λ (n : ℕ). suc n) (typed-long fields row typed.1)

-- ---- records

abbrev row_of : Record → List Value
row_of r = r.row

pub widened_records-twice : (fields more : List Field) (rs : List Record) → widened_records (fields ++ more) (widened_records fields rs) ≡ widened_records (fields ++ more) rs
widened_records-twice fields more [] = refl
widened_records-twice fields more (r ∷ rs) =
    (λ i. (record { id = r.id; row = widened-twice fields more r.row i }) ∷ widened_records-twice fields more rs i)

pub widened_records-same : (fields : List Field) (rs : List Record) → All (HasTypes fields) (map row_of rs) → widened_records fields rs ≡ rs
widened_records-same fields [] typed = refl
widened_records-same fields (r ∷ rs) typed =
    let first = widened-same fields r.row (All-head (HasTypes fields) r.row (map row_of rs) typed) in
    let rest = widened_records-same fields rs (All-tail (HasTypes fields) r.row (map row_of rs) typed) in
    (λ i. (record { id = r.id; row = first i }) ∷ rest i)

-- records of the first columns' types have, widened, the types of all
pub widened_records-typed : (fields more : List Field) (rs : List Record) → All (HasTypes fields) (map row_of rs) → All (HasTypes (fields ++ more)) (map row_of (widened_records (fields ++ more) rs))
widened_records-typed fields more [] typed = All-nil (HasTypes (fields ++ more))
widened_records-typed fields more (r ∷ rs) typed =
    All-cons (HasTypes (fields ++ more)) (widened (fields ++ more) r.row) (map row_of (widened_records (fields ++ more) rs))
    (widened-typed fields more r.row (All-head (HasTypes fields) r.row (map row_of rs) typed))
    (widened_records-typed fields more rs (All-tail (HasTypes fields) r.row (map row_of rs) typed))

-- the ids stay
pub widened_records-ids : (fields : List Field) (rs : List Record) → map (λ (r : Record). r.id) (widened_records fields rs) ≡ map (λ (r : Record). r.id) rs
widened_records-ids fields [] = refl
widened_records-ids fields (r ∷ rs) = ap (λ (ids : List RecordId). r.id ∷ ids) (widened_records-ids fields rs)

-- and the rows are widened
pub widened_records-rows : (fields : List Field) (rs : List Record) → map row_of (widened_records fields rs) ≡ map (widened fields) (map row_of rs)
widened_records-rows fields [] = refl
widened_records-rows fields (r ∷ rs) = ap (λ (rows : List (List Value)). widened fields r.row ∷ rows) (widened_records-rows fields rs)

pub widened_records-none : (rs : List Record) → widened_records [] rs ≡ rs
widened_records-none [] = refl
widened_records-none (r ∷ rs) = ap (λ (qs : List Record). r ∷ qs) (widened_records-none rs)
