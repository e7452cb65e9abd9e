-- How many columns a summarize has.
use Rattle.std.proofs.Common.{◌≡◌, ◌+◌, ℕ, suc, List, [], ◌∷◌, ◌++◌, Option, length, map, refl, sym, ap, ◌∙◌, arith, length-append}
use Rattle.kq_plan_expressions.specs.Terms.{Term}
use Rattle.kq_plan.specs.Fits.{AreTyped, FitAfter, FitAggregates, FitsAggregate, FitsStep, HaveTypes, lets_of, ty_of}
use Rattle.kq_plan.specs.Names.{Known}
use Rattle.kq_plan.specs.Plans.{Aggregating, Doing, Stepping, rows_counted, summed, least_of, greatest_of, at_greatest, at_least, any_of, set_of, summarized}
use Rattle.kq_value.specs.declared.schema.Field.{Field}
use Rattle.kq_value.specs.declared.ty.Ty.{Ty}
use Rattle.kq_run_gather.specs.Grouping.{all_made, columns_made}
use Rattle.kq_run_gather.specs.Steps.{HasColumns, last_of}

pub length-AreTyped : (lets from : List Field) (es : List Term) (fs : List Field) → AreTyped lets from es fs → length es ≡ length fs
length-AreTyped lets from [] [] are = refl
length-AreTyped lets from [] (f ∷ fs) are = absurd are
length-AreTyped lets from (e ∷ es) [] are = absurd are
length-AreTyped lets from (e ∷ es) (f ∷ fs) are = ap suc (length-AreTyped lets from es fs are.1)

length-HaveTypes : (from : List Field) (is : List ℕ) (fs : List Field) → HaveTypes from is fs → length is ≡ length fs
length-HaveTypes from [] [] have = refl
length-HaveTypes from [] (f ∷ fs) have = absurd have
length-HaveTypes from (i ∷ is) [] have = absurd have
length-HaveTypes from (i ∷ is) (f ∷ fs) have = ap suc (length-HaveTypes from is fs have.1)

one_column : (cs : List Field) (t : Ty) → map ty_of cs ≡ t ∷ [] → length cs ≡ 1
one_column [] t e = absurd cc
one_column (c ∷ []) t e = refl
one_column (c ∷ d ∷ cs) t e = absurd cc

pub width_made : (lets from : List Field) (g : Aggregating) (cs : List Field) → FitsAggregate lets from g cs → length cs ≡ columns_made g
width_made lets from rows_counted cs fits = one_column cs _ fits
width_made lets from (summed e) cs (t, one, has, kind) = one_column cs t one
width_made lets from (least_of e) cs (t, one, has, plain) = one_column cs t one
width_made lets from (greatest_of e) cs (t, one, has, plain) = one_column cs t one
width_made lets from (at_greatest e is) [] fits = absurd fits
width_made lets from (at_greatest e is) (c ∷ cs) (has, plain, have) = ap suc (sym (length-HaveTypes from is cs have))
width_made lets from (at_least e is) [] fits = absurd fits
width_made lets from (at_least e is) (c ∷ cs) (has, plain, have) = ap suc (sym (length-HaveTypes from is cs have))
width_made lets from (any_of is) cs fits = sym (length-HaveTypes from is cs fits)
width_made lets from (set_of e n) cs (t, has, one) = one_column cs _ one

pub all_made_by : (lets from : List Field) (gs : List Aggregating) (made : List Field) → FitAggregates lets from gs made → length made ≡ all_made gs
all_made_by lets from [] made fit = ap length fit
all_made_by lets from (g ∷ gs) made (own, more, apart, fits, fit) =
    let a = width_made lets from g own fits in
    let b = all_made_by lets from gs more fit in
    let c : length made ≡ length own + length more = ap length apart ∙ length-append own more in
    omega (arith, a, b, c)

-- a summarize has a column for each key, and those of its aggregates
has_columns : (known : List ℕ → Option Known) (before : List Stepping) (d : Doing) (cs : List Field) → FitsStep known before d cs → HasColumns d cs
has_columns known before (summarized i es gs) cs (from, gives, ks, made, is, are, plain, fit) =
    let a = length-AreTyped (lets_of before) from es ks are in
    let b = all_made_by (lets_of before) from gs made fit in
    let c : length cs ≡ length ks + length made = ap length is ∙ length-append ks made in
    omega (arith, a, b, c)
has_columns known before d cs fits = tt

pub last_columns : (known : List ℕ → Option Known) (before ss : List Stepping) → FitAfter known before ss → HasColumns (last_of ss).doing (last_of ss).columns
last_columns known before [] fits = tt
last_columns known before (s ∷ []) fits = has_columns known before s.doing s.columns fits.0
last_columns known before (s ∷ t ∷ ss) fits = last_columns known (before ++ s ∷ []) (t ∷ ss) fits.1
