-- Groups of rows that come a piece at a time.
use Rattle.std.proofs.Common.{◌≡◌, ◌++◌, ◌∙◌, false, ℕ, zero, suc, List, [], ◌∷◌, drop, length, map, IfOk, Result, Ok, Err, refl, sym, ap, subst}
use Rattle.std.specs.List.{All}
use Rattle.std.specs.declared.alloc.AllocError.{AllocError}
use Rattle.std.proofs.lemmas.List.{length-map}
use Rattle.kq_value.specs.Computed.{Answers, AnswersAs, Computed, Is, Overflow, and_then, each}
use Rattle.kq_value.specs.declared.fault.EvalFault.{EvalFault}
use Rattle.kq_value.specs.declared.fault.EvalFault.TheVariants as fault
use Rattle.kq_plan_expressions.specs.Terms.{Term}
use Rattle.kq_run_groups.specs.Grouped.{AggregateShape as Aggregated, FitArgs, Grouped}
use Rattle.kq_run_groups.specs.Groups.{AddsRows, EndsWide, Grouping, HasAllGroups, Stands, Starts, args_at, beside, rows_from, shape_of}
use Rattle.kq_run_groups.proofs.Finishing.{EndsWide-Stands, Grouped-Stands}
use Rattle.kq_run_scan.proofs.kq_eval_pieces.Laws.{each_append}
use Rattle.kq_run_scan.specs.kq_eval_pieces.Operators.{Row, values_at}
use Rattle.kq_plan.specs.Fits.{ty_of}
use Rattle.kq_plan.specs.Plans.{Aggregating}
use Rattle.kq_run_scan.specs.kq_eval_row.Val.{Surroundings}
use Rattle.kq_run_scan.specs.Flowing.{Flowing}
use Rattle.kq_run_scan.specs.Sources.{source_rows}
use Rattle.kq_run_scan.specs.Yielded.{Yields}
use Rattle.kq_run_scan.specs.declared.flow.Next.{Next}
use Rattle.kq_run_scan.specs.declared.flow.Next.TheVariants as next
use Rattle.kq_run_scan.specs.declared.source.Source.{Source}
use Rattle.kq_run_row_operators.specs.Pieces.{rows_in}
use Rattle.kq_run_row_operators.specs.Ran.{Ran, came, failed, joined}
use Rattle.kq_run_row_operators.specs.declared.piece.Piece.{Piece}
use Rattle.kq_value.specs.declared.schema.Field.{Field}
use Rattle.kq_value.specs.declared.ty.Ty.{Ty}
use Rattle.kq_run_gather.specs.declared.arriving.Arrived.{Arrived}
use Rattle.kq_run_gather.specs.declared.arriving.Arrived.TheVariants as arrived
use Rattle.kq_run_gather.specs.Arriving.{ArriveAs, overflow_before}
use Rattle.kq_run_gather.specs.Grouping.{ComeTo, ThenComes, GroupsOf, Summarized, all_made, arguments_at, arguments_over, keyed, under}
use Rattle.kq_run_gather.proofs.Arguments.{fit_args, length-each}
use Rattle.kq_run_gather.proofs.Pieces.{all_came, at_first, piece_came, piece_due}

-- ---- the keys and the arguments of rows one after another

abbrev Args : Type 0
Args = List (List Row)

heads_and_tails : (a b : Computed (List Row)) (c d : Computed Args)
    → and_then (and_then a (λ x. and_then b (λ y. Is (x ++ y)))) (λ z. and_then (and_then c (λ xs. and_then d (λ ys. Is (beside xs ys)))) (λ zs. Is (z ∷ zs)))
    ≡ and_then (and_then a (λ x. and_then c (λ xs. Is (x ∷ xs)))) (λ us. and_then (and_then b (λ y. and_then d (λ ys. Is (y ∷ ys)))) (λ vs. Is (beside us vs)))
heads_and_tails Overflow b c d = refl
heads_and_tails (Is x) Overflow Overflow d = refl
heads_and_tails (Is x) Overflow (Is xs) d = refl
heads_and_tails (Is x) (Is y) Overflow d = refl
heads_and_tails (Is x) (Is y) (Is xs) Overflow = refl
heads_and_tails (Is x) (Is y) (Is xs) (Is ys) = refl

args_append : (gs : List Aggregating) (s : Surroundings) (rows others : List Row)
    → each (arguments_over s (rows ++ others)) gs ≡ and_then (each (arguments_over s rows) gs) (λ xs. and_then (each (arguments_over s others) gs) (λ ys. Is (beside xs ys)))
args_append [] s rows others = refl
args_append (g ∷ gs) s rows others =
    ap (λ (c : Computed (List Row)). and_then c (λ z. and_then (each (arguments_over s (rows ++ others)) gs) (λ zs. Is (z ∷ zs)))) (each_append (arguments_at g s) rows others)
    ∙ ap (λ (c : Computed Args). and_then (and_then (arguments_over s rows g) (λ x. and_then (arguments_over s others g) (λ y. Is (x ++ y)))) (λ z. and_then c (λ zs. Is (z ∷ zs)))) (args_append gs s rows others)
    ∙ heads_and_tails (arguments_over s rows g) (arguments_over s others g) (each (arguments_over s rows) gs) (each (arguments_over s others) gs)

abbrev Keyed : Type 0
Keyed = List Row × Args

-- of rows in two parts
abbrev with_more : Computed Keyed → Computed Keyed → Computed Keyed
with_more c d = and_then c (λ u. and_then d (λ v. Is (u.0 ++ v.0, beside u.1 v.1)))

keys_and_args : (a b : Computed (List Row)) (c d : Computed Args)
    → and_then (and_then a (λ x. and_then b (λ y. Is (x ++ y)))) (λ z. and_then (and_then c (λ xs. and_then d (λ ys. Is (beside xs ys)))) (λ zs. Is (z, zs)))
    ≡ with_more (and_then a (λ x. and_then c (λ xs. Is (x, xs)))) (and_then b (λ y. and_then d (λ ys. Is (y, ys))))
keys_and_args Overflow b c d = refl
keys_and_args (Is x) Overflow Overflow d = refl
keys_and_args (Is x) Overflow (Is xs) d = refl
keys_and_args (Is x) (Is y) Overflow d = refl
keys_and_args (Is x) (Is y) (Is xs) Overflow = refl
keys_and_args (Is x) (Is y) (Is xs) (Is ys) = refl

pub keyed_append : (es : List Term) (gs : List Aggregating) (s : Surroundings) (rows others : List Row) → keyed es gs s (rows ++ others) ≡ with_more (keyed es gs s rows) (keyed es gs s others)
keyed_append es gs s rows others =
    ap (λ (c : Computed (List Row)). and_then c (λ z. and_then (each (arguments_over s (rows ++ others)) gs) (λ zs. Is (z, zs)))) (each_append (values_at es s) rows others)
    ∙ ap (λ (c : Computed Args). and_then (and_then (each (values_at es s) rows) (λ x. and_then (each (values_at es s) others) (λ y. Is (x ++ y)))) (λ z. and_then c (λ zs. Is (z, zs)))) (args_append gs s rows others)
    ∙ keys_and_args (each (values_at es s) rows) (each (values_at es s) others) (each (arguments_over s rows) gs) (each (arguments_over s others) gs)

pub overflows : (c d : Computed Keyed) → d ≡ Overflow → with_more c d ≡ Overflow
overflows Overflow d is = refl
overflows (Is u) d is = ap (λ (e : Computed Keyed). and_then e (λ v. Is (u.0 ++ v.0, beside u.1 v.1))) is

-- an overflow on one piece is one of all rows
keyed_lost : (es : List Term) (gs : List Aggregating) (s : Surroundings) (before piece after : List Row) → keyed es gs s piece ≡ Overflow → keyed es gs s (before ++ (piece ++ after)) ≡ Overflow
keyed_lost es gs s before piece after is =
    keyed_append es gs s before (piece ++ after)
    ∙ overflows (keyed es gs s before) _ (keyed_append es gs s piece after ∙ ap (λ (c : Computed Keyed). with_more c (keyed es gs s after)) is)

pub keyed_more : (es : List Term) (gs : List Aggregating) (s : Surroundings) (rows others keys more : List Row) (args those : Args) → keyed es gs s rows ≡ Is (keys, args) → keyed es gs s others ≡ Is (more, those)
    → keyed es gs s (rows ++ others) ≡ Is (keys ++ more, beside args those)
keyed_more es gs s rows others keys more args those a b =
    keyed_append es gs s rows others ∙ ap (λ (c : Computed Keyed). with_more c (keyed es gs s others)) a ∙ ap (λ (c : Computed Keyed). with_more (Is (keys, args)) c) b

-- ---- its parts

abbrev firsts : Computed Keyed → Computed (List Row)
firsts Overflow = Overflow
firsts (Is u) = Is u.0

abbrev seconds : Computed Keyed → Computed Args
seconds Overflow = Overflow
seconds (Is u) = Is u.1

both_are : (c : Computed (List Row)) (d : Computed Args) (keys : List Row) (args : Args) → and_then c (λ x. and_then {B = Keyed} d (λ y. Is (x, y))) ≡ Is (keys, args) → (c ≡ Is keys) × (d ≡ Is args)
both_are Overflow d keys args e = absurd cc
both_are (Is x) Overflow keys args e = absurd cc
both_are (Is x) (Is y) keys args e = (ap firsts e, ap seconds e)

pub keyed_parts : (es : List Term) (gs : List Aggregating) (s : Surroundings) (rows keys : List Row) (args : Args) → keyed es gs s rows ≡ Is (keys, args)
    → (each (values_at es s) rows ≡ Is keys) × (each (arguments_over s rows) gs ≡ Is args)
keyed_parts es gs s rows keys args e = both_are (each (values_at es s) rows) (each (arguments_over s rows) gs) keys args e

pub keyed_is : (es : List Term) (gs : List Aggregating) (s : Surroundings) (rows keys : List Row) (args : Args) → each (values_at es s) rows ≡ Is keys → each (arguments_over s rows) gs ≡ Is args → keyed es gs s rows ≡ Is (keys, args)
keyed_is es gs s rows keys args a b =
    ap (λ (c : Computed (List Row)). and_then c (λ x. and_then (each (arguments_over s rows) gs) (λ y. Is (x, y)))) a ∙ ap (λ (c : Computed Args). and_then c (λ y. Is (keys, y))) b

-- rows whose keys and arguments are these came to groups
pub come_to : (es : List Term) (gs : List Aggregating) (s : Surroundings) (rows keys : List Row) (args : Args) (old new : Grouping) → each (values_at es s) rows ≡ Is keys → each (arguments_over s rows) gs ≡ Is args → AddsRows keys args old new
    → ComeTo es gs s rows old new (Ok tt)
come_to es gs s rows keys args old new a b adds = (keys, args, keyed_is es gs s rows keys args a b, adds)

comes_lost : {B : Type 0} (c : Computed (List Row)) (d : Computed Args) (these : List Row → Args → Computed B → Type 0) → and_then c (λ x. and_then {B = Keyed} d (λ y. Is (x, y))) ≡ Overflow
    → ThenComes c (λ x. ThenComes d (λ y. these x y)) Overflow
comes_lost {B} Overflow d these e = refl
comes_lost {B} (Is x) Overflow these e = refl
comes_lost {B} (Is x) (Is y) these e = absurd cc

pub summarized_lost : (es : List Term) (gs : List Aggregating) (cs : List Field) (s : Surroundings) (rows : List Row) → keyed es gs s rows ≡ Overflow → Summarized es gs cs s rows Overflow
summarized_lost es gs cs s rows e = comes_lost (each (values_at es s) rows) (each (arguments_over s rows) gs) (λ keys args. Grouped (length es) (under gs (map ty_of (drop (length es) cs))) keys args) e

pub keys_lost : (es : List Term) (gs : List Aggregating) (s : Surroundings) (rows : List Row) (old new : Grouping) (met : EvalFault) → Answers (each (values_at es s) rows) (Err met) → ComeTo es gs s rows old new (Err met)
keys_lost es gs s rows old new fault.Overflow over = ap (λ (c : Computed (List Row)). and_then c (λ x. and_then (each (arguments_over s rows) gs) (λ y. Is (x, y)))) over
keys_lost es gs s rows old new fault.Memory over = tt

pub args_lost : {C : Type 0} (see : C → Args) (es : List Term) (gs : List Aggregating) (s : Surroundings) (rows keys : List Row) (old new : Grouping) (met : EvalFault) → each (values_at es s) rows ≡ Is keys
    → AnswersAs see (each (arguments_over s rows) gs) (Err met) → ComeTo es gs s rows old new (Err met)
args_lost {C} see es gs s rows keys old new fault.Overflow one over =
    ap (λ (c : Computed (List Row)). and_then c (λ x. and_then (each (arguments_over s rows) gs) (λ y. Is (x, y)))) one ∙ ap (λ (c : Computed Args). and_then c (λ y. Is (keys, y))) over
args_lost {C} see es gs s rows keys old new fault.Memory one over = tt

-- ---- groups of the rows so far

abbrev none_of : List Aggregating → Args
none_of gs = map (λ (g : Aggregating). []) gs

none_keyed : (gs : List Aggregating) (s : Surroundings) → each (arguments_over s []) gs ≡ Is (none_of gs)
none_keyed [] s = refl
none_keyed (g ∷ gs) s = ap (λ (c : Computed Args). and_then c (λ ys. Is ([] ∷ ys))) (none_keyed gs s)

none_at : (gs : List Aggregating) (a : ℕ) → args_at (none_of gs) a ≡ []
none_at [] a = refl
none_at (g ∷ gs) zero = refl
none_at (g ∷ gs) (suc a) = none_at gs a

pub groups_start : (es : List Term) (gs : List Aggregating) (ts : List Ty) (s : Surroundings) (g : Grouping) → Starts (length es) (under gs ts) g → GroupsOf es gs ts s [] g
groups_start es gs ts s g starts = record {
  keys = [];
  args = none_of gs;
  keyed_so = keyed_is es gs s [] [] (none_of gs) refl (none_keyed gs s);
  width_is = starts.width_is;
  shapes = starts.shapes;
  whole = starts.whole;
  stands = record {
    of_rows = starts.stands.of_rows;
    along = λ a h. ap length (none_at gs a);
    holds = λ a n h l. starts.stands.holds a n h l;
  };
}

pub groups_more : (es : List Term) (gs : List Aggregating) (ts : List Ty) (s : Surroundings) (rows others : List Row) (old new : Grouping) (done : Unit {0})
    → GroupsOf es gs ts s rows old → ComeTo es gs s others old new (Ok done) → GroupsOf es gs ts s (rows ++ others) new
groups_more es gs ts s rows others old new done of (more, those, keyed_so, adds) = record {
  keys = of.keys ++ more;
  args = beside of.args those;
  keyed_so = keyed_more es gs s rows others of.keys more of.args those of.keyed_so keyed_so;
  width_is = adds.width_is ∙ of.width_is;
  shapes = adds.shapes ∙ of.shapes;
  whole = adds.whole;
  stands = adds.more of.keys of.args of.stands;
}

-- ---- what groups ask

length-under : (gs : List Aggregating) (ts : List Ty) → length (under gs ts) ≡ length gs
length-under [] ts = refl
length-under (g ∷ gs) ts = ap suc (length-under gs _)

pub states_along : (es : List Term) (gs : List Aggregating) (ts : List Ty) (s : Surroundings) (rows : List Row) (g : Grouping) → GroupsOf es gs ts s rows g → length g.states ≡ length gs
states_along es gs ts s rows g of = sym (length-map g.states shape_of) ∙ ap length of.shapes ∙ length-under gs ts

pub groups_wide : (es : List Term) (gs : List Aggregating) (ts : List Ty) (s : Surroundings) (rows : List Row) (g : Grouping) → length ts ≡ all_made gs → GroupsOf es gs ts s rows g → All EndsWide g.states
groups_wide es gs ts s rows g long of =
    EndsWide-Stands of.keys of.args g of.stands of.whole
    (subst (λ (shapes : List Aggregated). FitArgs shapes of.args) (sym of.shapes) (fit_args gs s rows ts of.args long ((keyed_parts es gs s rows of.keys of.args of.keyed_so).1)))

pub grouped_all : (es : List Term) (gs : List Aggregating) (cs : List Field) (s : Surroundings) (rows : List Row) (g : Grouping) → GroupsOf es gs (map ty_of (drop (length es) cs)) s rows g
    → Summarized es gs cs s rows (rows_from g.states g.keys 0)
grouped_all es gs cs s rows g of =
    let ts = map ty_of (drop (length es) cs) in
    let parts = keyed_parts es gs s rows of.keys of.args of.keyed_so in
    let long : length of.args ≡ length g.states = length-each (arguments_over s rows) gs of.args parts.1 ∙ sym (states_along es gs ts s rows g of) in
    let made = Grouped-Stands of.keys of.args g of.stands long in
    let out = rows_from g.states g.keys 0 in
    let right = subst (λ (w : ℕ). Grouped w (under gs ts) of.keys of.args out) of.width_is (subst (λ (shapes : List Aggregated). Grouped g.width shapes of.keys of.args out) of.shapes made) in
    subst (λ (c : Computed (List Row)). ThenComes c (λ keys. ThenComes (each (arguments_over s rows) gs) (λ args. Grouped (length es) (under gs ts) keys args)) out) (sym parts.0)
    (subst (λ (c : Computed Args). ThenComes c (λ args. Grouped (length es) (under gs ts) of.keys args) out) (sym parts.1) right)

-- ---- how far it is

-- these are groups of the rows that have come
pub record Reached (es : List Term) (gs : List Aggregating) (ts : List Ty) (s : Surroundings) (whole left : Ran) (g : Grouping) : Type 0 where
  pub rows : List Row
  pub so_far : whole ≡ joined (came rows) left
  pub groups : GroupsOf es gs ts s rows g

pub reached_first : (es : List Term) (gs : List Aggregating) (ts : List Ty) (s : Surroundings) (whole : Ran) (g : Grouping) (width : ℕ) (aggregates : List Aggregated) → width ≡ length es → aggregates ≡ under gs ts → Starts width aggregates g
    → Reached es gs ts s whole whole g
reached_first es gs ts s whole g width aggregates wide made starts = record {
  rows = [];
  so_far = at_first whole;
  groups = groups_start es gs ts s g (subst (λ (n : ℕ). Starts n (under gs ts) g) wide (subst (λ (as_made : List Aggregated). Starts width as_made g) made starts));
}

pub reached_more : (es : List Term) (gs : List Aggregating) (ts : List Ty) (s : Surroundings) (whole : Ran) (old new : Flowing) (n : Next) (piece : Piece Source) (g h : Grouping) (done : Unit {0})
    → Reached es gs ts s whole old.to_come g → Yields old new n → n ≡ next.Piece piece → ComeTo es gs s (rows_in source_rows piece) g h (Ok done) → Reached es gs ts s whole new.to_come h
reached_more es gs ts s whole old new n piece g h done at yields is come = record {
  rows = at.rows ++ rows_in source_rows piece;
  so_far = piece_came whole old new n piece at.rows at.so_far yields is;
  groups = groups_more es gs ts s at.rows (rows_in source_rows piece) g h done at.groups come;
}

pub reached_along : (es : List Term) (gs : List Aggregating) (ts : List Ty) (s : Surroundings) (whole left : Ran) (g : Grouping) → Reached es gs ts s whole left g → length g.states ≡ length gs
reached_along es gs ts s whole left g at = states_along es gs ts s at.rows g at.groups

-- at the end
ends_so : (es : List Term) (gs : List Aggregating) (cs : List Field) (s : Surroundings) (whole : Ran) (rows : List Row) (g : Grouping) → whole ≡ came rows → GroupsOf es gs (map ty_of (drop (length es) cs)) s rows g
    → ArriveAs es gs cs s whole (arrived.Groups g)
ends_so es gs cs s whole rows g all of = subst (λ (r : Ran). ArriveAs es gs cs s r (arrived.Groups g)) (sym all) of

pub reached_end : (es : List Term) (gs : List Aggregating) (cs : List Field) (s : Surroundings) (whole : Ran) (old new : Flowing) (n : Next) (g : Grouping) (width : ℕ) → width ≡ length es
    → Reached es gs (map ty_of (drop width cs)) s whole old.to_come g → Yields old new n → n ≡ next.End → ArriveAs es gs cs s whole (arrived.Groups g)
reached_end es gs cs s whole old new n g width wide at yields end =
    ends_so es gs cs s whole at.rows g (all_came whole old.to_come at.rows at.so_far (subst (Yields old new) end yields))
    (subst (λ (w : ℕ). GroupsOf es gs (map ty_of (drop w cs)) s at.rows g) wide at.groups)

-- where an operator fails
pub reached_failure : (es : List Term) (gs : List Aggregating) (ts : List Ty) (cs : List Field) (s : Surroundings) (whole : Ran) (old new : Flowing) (n : Next) (g : Grouping) (m : ℕ)
    → Reached es gs ts s whole old.to_come g → Yields old new n → n ≡ next.Failed m → ArriveAs es gs cs s whole (arrived.Failed m)
reached_failure es gs ts cs s whole old new n g m at yields is =
    let end : old.to_come ≡ failed m = subst (Yields old new) is yields in
    subst (λ (r : Ran). ArriveAs es gs cs s r (arrived.Failed m)) (sym (at.so_far ∙ ap (joined (came at.rows)) end)) refl

-- at an overflow
overflow_at : (es : List Term) (gs : List Aggregating) (cs : List Field) (s : Surroundings) (before piece : List Row) (rest : Ran) → keyed es gs s piece ≡ Overflow
    → ArriveAs es gs cs s (joined (came before) (joined (came piece) rest)) (overflow_before rest)
overflow_at es gs cs s before piece (came after) lost = keyed_lost es gs s before piece after lost
overflow_at es gs cs s before piece (failed n) lost = refl

overflows_at : (es : List Term) (gs : List Aggregating) (cs : List Field) (s : Surroundings) (whole rest : Ran) (before piece : List Row) (r : Result Arrived AllocError) → whole ≡ joined (came before) (joined (came piece) rest)
    → keyed es gs s piece ≡ Overflow → IfOk r (λ a. a ≡ overflow_before rest) → IfOk r (ArriveAs es gs cs s whole)
overflows_at es gs cs s whole rest before piece (Ok a) all lost is =
    subst (λ (w : Ran). ArriveAs es gs cs s w a) (sym all) (subst (ArriveAs es gs cs s (joined (came before) (joined (came piece) rest))) (sym is) (overflow_at es gs cs s before piece rest lost))
overflows_at es gs cs s whole rest before piece (Err e) all lost is = tt

pub reached_lost : (es : List Term) (gs : List Aggregating) (ts : List Ty) (cs : List Field) (s : Surroundings) (whole : Ran) (old new : Flowing) (n : Next) (piece : Piece Source) (g h : Grouping) (met : EvalFault) (r : Result Arrived AllocError)
    → Reached es gs ts s whole old.to_come g → Yields old new n → n ≡ next.Piece piece → ComeTo es gs s (rows_in source_rows piece) g h (Err met) → met ≡ fault.Overflow
    → IfOk r (λ a. a ≡ overflow_before new.to_come) → IfOk r (ArriveAs es gs cs s whole)
reached_lost es gs ts cs s whole old new n piece g h met r at yields is come over rest =
    overflows_at es gs cs s whole new.to_come at.rows (rows_in source_rows piece) r (piece_due whole old new n piece at.rows at.so_far yields is)
    (subst (λ (f : EvalFault). ComeTo es gs s (rows_in source_rows piece) g h (Err f)) over come) rest
