-- What operators make of rows has types, where the rows and the terms have them.
use Rattle.std.proofs.Common.{◌≡◌, Bool, true, false, List, [], ◌∷◌, ◌++◌, map, subst}
use Rattle.std.specs.Prelude.{All, if◌then◌else◌}
use Rattle.std.proofs.lemmas.List.Elements.{All-nil, All-cons, All-head, All-tail}
use Rattle.kq_run_gather.specs.kq_value_arithmetic.Logic.{is_yes}
use Rattle.kq_run_gather.proofs.kq_value_arithmetic.Typed.{GivesType}
use Rattle.kq_value.specs.Computed.{Computed, Is, Overflow, and_then, each}
use Rattle.kq_plan_expressions.specs.Terms.{Term}
use Rattle.kq_plan.specs.Fits.{AreTyped, IsTyped, ty_of}
use Rattle.kq_run_gather.proofs.kq_eval_row.Typed.{meaning-typed}
use Rattle.kq_run_gather.specs.kq_eval_row.Val.{Surroundings, meaning}
use Rattle.kq_value.proofs.SameLemmas.{All-Same, Same-sym, rest_of}
use Rattle.kq_value.specs.declared.schema.Field.{Field}
use Rattle.kq_value.specs.declared.ty.Ty.{Ty}
use Rattle.kq_value.specs.declared.value.Value.{Value}
use Rattle.kq_value.specs.Same.{NoOftener}
use Rattle.kq_value.specs.Typed.{HasType, HasTypes, IsMoment}
use Rattle.kq_run_gather.specs.kq_eval_pieces.Operators.{filtered, values_at}
use Rattle.kq_run_plan.specs.Operators.{single}
use Rattle.kq_run_plan.specs.Outcomes.{Row}

-- what stands around rows: a moment, and lets of these types
pub record Surrounds (lets : List Field) (s : Surroundings) : Type 0 where
  pub moment : IsMoment s.now
  pub typed : HasTypes lets s.lets

-- a row of the columns' types, or an overflow
abbrev pub GivesRow : List Field → Computed Row → Type 0
GivesRow cs (Is vs) = HasTypes cs vs
GivesRow cs Overflow = Unit {0}

-- rows of the columns' types, or an overflow
abbrev pub GivesRows : List Field → Computed (List Row) → Type 0
GivesRows cs (Is rows) = All (HasTypes cs) rows
GivesRows cs Overflow = Unit {0}

-- ---- rows

-- a cell in the one column of its type
pub HasTypes-one : (cs : List Field) (t : Ty) (v : Value) → map ty_of cs ≡ t ∷ [] → HasType t v → HasTypes cs (v ∷ [])
HasTypes-one [] t v is has = absurd (cc)
HasTypes-one (c ∷ []) t v is has = let same : t ≡ c.ty = cc in (subst (λ (u : Ty). HasType u v) same has, tt)
HasTypes-one (c ∷ d ∷ cs) t v is has = absurd (cc)

pub HasTypes-append : (cs ds : List Field) (vs ws : Row) → HasTypes cs vs → HasTypes ds ws → HasTypes (cs ++ ds) (vs ++ ws)
HasTypes-append [] ds [] ws has more = more
HasTypes-append [] ds (v ∷ vs) ws has more = absurd has
HasTypes-append (c ∷ cs) ds [] ws has more = absurd has
HasTypes-append (c ∷ cs) ds (v ∷ vs) ws has more = (has.0, HasTypes-append cs ds vs ws has.1 more)

pub All-one : (cs : List Field) (r : Row) → HasTypes cs r → All (HasTypes cs) (r ∷ [])
All-one cs r has = All-cons (HasTypes cs) r [] has (All-nil (HasTypes cs))

All-front : (P : Row → Type 0) (a b : List Row) → All P (a ++ b) → All P a
All-front P [] b all = All-nil P
All-front P (x ∷ a) b all = All-cons P x a (All-head P x (a ++ b) all) (All-front P a b (All-tail P x (a ++ b) all))

-- rows of which none stands oftener
pub All-NoOftener : (P : Row → Type 0) (few rows : List Row) → NoOftener few rows → All P rows → All P few
All-NoOftener P few rows less all =
    let more = rest_of few rows less in
    All-front P few more.0 (All-Same P rows (few ++ more.0) (Same-sym (few ++ more.0) rows more.1) all)

-- ---- terms over a row

pub meaning_typed : (lets cs : List Field) (s : Surroundings) (row : Row) (e : Term) (t : Ty)
    → Surrounds lets s → HasTypes cs row → IsTyped lets cs e t → GivesType t (meaning e s row)
meaning_typed lets cs s row e t around has is = meaning-typed lets cs s row around.moment around.typed has e t is.1 is.0

next_typed : (f : Field) (fs : List Field) (c : Computed Value) (rest : Computed Row)
    → GivesType f.ty c → GivesRow fs rest → GivesRow (f ∷ fs) (and_then c (λ v. and_then rest (λ vs. Is (v ∷ vs))))
next_typed f fs (Is v) (Is vs) has more = (has, more)
next_typed f fs (Is v) Overflow has more = tt
next_typed f fs Overflow rest has more = tt

pub values_typed : (lets cs : List Field) (s : Surroundings) (row : Row) (es : List Term) (fs : List Field)
    → Surrounds lets s → HasTypes cs row → AreTyped lets cs es fs → GivesRow fs (values_at es s row)
values_typed lets cs s row [] [] around has are = tt
values_typed lets cs s row [] (f ∷ fs) around has are = absurd are
values_typed lets cs s row (e ∷ es) [] around has are = absurd are
values_typed lets cs s row (e ∷ es) (f ∷ fs) around has are =
    next_typed f fs (meaning e s row) (values_at es s row) (meaning_typed lets cs s row e f.ty around has are.0)
    (values_typed lets cs s row es fs around has are.1)

-- ---- operators

single_of : (cs : List Field) (c : Computed Row) → GivesRow cs c → GivesRows cs (and_then c (λ vs. Is (vs ∷ [])))
single_of cs (Is vs) has = All-one cs vs has
single_of cs Overflow has = tt

pub single_typed : (lets cs : List Field) (s : Surroundings) (es : List Term) → Surrounds lets s → AreTyped lets [] es cs → GivesRows cs (single es s)
single_typed lets cs s es around are = single_of cs (values_at es s []) (values_typed lets [] s [] es cs around tt are)

row_and_rows : (cs : List Field) (c : Computed Row) (rest : Computed (List Row))
    → GivesRow cs c → GivesRows cs rest → GivesRows cs (and_then c (λ r. and_then rest (λ rows. Is (r ∷ rows))))
row_and_rows cs (Is r) (Is rows) has more = All-cons (HasTypes cs) r rows has more
row_and_rows cs (Is r) Overflow has more = tt
row_and_rows cs Overflow rest has more = tt

-- what gives typed rows of typed rows gives them of each
pub each_typed : (from cs : List Field) (f : Row → Computed Row)
    → ((r : Row) → HasTypes from r → GivesRow cs (f r)) → (rows : List Row) → All (HasTypes from) rows → GivesRows cs (each f rows)
each_typed from cs f gives [] all = All-nil (HasTypes cs)
each_typed from cs f gives (r ∷ rows) all =
    row_and_rows cs (f r) (each f rows) (gives r (All-head (HasTypes from) r rows all)) (each_typed from cs f gives rows (All-tail (HasTypes from) r rows all))

kept_or_not : (cs : List Field) (r : Row) (others : List Row) (keep : Bool)
    → HasTypes cs r → All (HasTypes cs) others → All (HasTypes cs) (if keep then r ∷ others else others)
kept_or_not cs r others true has more = All-cons (HasTypes cs) r others has more
kept_or_not cs r others false has more = more

filtered_next : (cs : List Field) (r : Row) (c : Computed Value) (rest : Computed (List Row)) → HasTypes cs r → GivesRows cs rest
    → GivesRows cs (and_then c (λ v. and_then rest (λ others. Is (if is_yes v then r ∷ others else others))))
filtered_next cs r (Is v) (Is others) has more = kept_or_not cs r others (is_yes v) has more
filtered_next cs r (Is v) Overflow has more = tt
filtered_next cs r Overflow rest has more = tt

pub filtered_typed : (cs : List Field) (e : Term) (s : Surroundings) (rows : List Row) → All (HasTypes cs) rows → GivesRows cs (filtered e s rows)
filtered_typed cs e s [] all = All-nil (HasTypes cs)
filtered_typed cs e s (r ∷ rows) all =
    filtered_next cs r (meaning e s r) (filtered e s rows) (All-head (HasTypes cs) r rows all) (filtered_typed cs e s rows (All-tail (HasTypes cs) r rows all))
