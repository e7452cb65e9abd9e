-- What a summarize adds is a step that fits.
use Rattle.std.proofs.Common.{◌≡◌, ◌≢◌, ℕ, Bool, true, false, cond, List, [], ◌∷◌, ◌++◌, map, Option, Some, None, Ok, Err, refl, sym, ap, ◌∙◌, subst, append_assoc, append-nil}
use Rattle.kq_bind_query.specs.kq_bind_operators.Clauses.{summarized_by, grouped}
use Rattle.kq_bind_query.specs.kq_bind_operators.Flows.{Flowing, columns}
use Rattle.kq_bind_query.specs.kq_bind_operators.Scopes.{Scoping, names}
use Rattle.kq_bind_aggregates.specs.Arguments.{all_argued, unkeyed}
use Rattle.kq_bind_aggregates.specs.Functions.{aggregate_named}
use Rattle.kq_bind_aggregates.specs.Gathered.{Gathering, no_aggregate, put_defaults, put_named, put_columns, gathered, aggregate_made, each_made, aggregates_made}
use Rattle.kq_bind_aggregates.specs.Made.{Aggregated, made}
use Rattle.kq_bind_columns.specs.Items.{field, nothing_made, items_made}
use Rattle.kq_bind_columns.specs.Naming.{is_taken, free_name}
use Rattle.kq_bind_expressions.specs.Names.{Names}
use Rattle.kq_bind_expressions.specs.Verdicts.{Verdict, and_then, or_fault, mistyped, unknown}
use Rattle.kq_read_grammar.specs.declared.expression.Name.{Name}
use Rattle.kq_read_grammar.specs.Trees.{AggregateTree, ItemTree}
use Rattle.kq_plan.specs.Fits.{IsTyped, AreTyped, HaveTypes, ty_of, FitsAggregate, FitAggregates}
use Rattle.kq_plan.specs.Plans.{Aggregating, rows_counted, summed, least_of, greatest_of, at_greatest, at_least, any_of, set_of, Stepping, summarized}
use Rattle.kq_read_meanings.specs.Names.{name_said, name_place}
use Rattle.kq_read_meanings.specs.Pieces.{piece}
use Rattle.kq_value.specs.declared.schema.Field.{Field}
use Rattle.kq_value.specs.declared.ty.Ty.{Ty}
use Rattle.kq_value.specs.declared.ty.Ty.TheVariants as ty
use Rattle.kq_bind_query.proofs.Progress.{then_ok, done, done_is, Goes, after_goes, over_lets}
use Rattle.kq_bind_query.proofs.Columns.{found_ok}
use Rattle.kq_bind_query.proofs.Items.{nothing_is_made, items_good}
use Rattle.kq_bind_query.proofs.Chosen.{AreThere}
use Rattle.kq_bind_query.proofs.Aggregates.{all_argued_typed, unkeyed_there, made_fits}

-- ---- an aggregate's columns under other names

abbrev types : List Field → List Ty
types cs = map ty_of cs

same_have : (from : List Field) (is : List ℕ) (a b : List Field) → types a ≡ types b → HaveTypes from is a → HaveTypes from is b
same_have from [] [] [] e h = tt
same_have from [] [] (g ∷ b) e h = absurd (cc)
same_have from [] (f ∷ a) b e h = absurd h
same_have from (i ∷ is) [] b e h = absurd h
same_have from (i ∷ is) (f ∷ a) [] e h = absurd (cc)
same_have from (i ∷ is) (f ∷ a) (g ∷ b) e h = let here : f.ty ≡ g.ty = cc in let more : types a ≡ types b = cc in
    (h.0 ∙ ap (λ (t : Ty). Some t) here, same_have from is a b more h.1)

same_fit : (lets from : List Field) (g : Aggregating) (a b : List Field) → types a ≡ types b → FitsAggregate lets from g a → FitsAggregate lets from g b
same_fit lets from rows_counted a b e h = sym e ∙ h
same_fit lets from (summed x) a b e h = (h.0, sym e ∙ h.1, h.2, h.3)
same_fit lets from (least_of x) a b e h = (h.0, sym e ∙ h.1, h.2, h.3)
same_fit lets from (greatest_of x) a b e h = (h.0, sym e ∙ h.1, h.2, h.3)
same_fit lets from (at_greatest x is) [] b e h = absurd h
same_fit lets from (at_greatest x is) (c ∷ a) [] e h = absurd (cc)
same_fit lets from (at_greatest x is) (c ∷ a) (d ∷ b) e h =
    let own : c.ty ≡ d.ty = cc in let more : types a ≡ types b = cc in
    (subst (IsTyped lets from x) own h.0, subst (λ (t : Ty). t ≢ ty.Dynamic) own h.1, same_have from is a b more h.2)
same_fit lets from (at_least x is) [] b e h = absurd h
same_fit lets from (at_least x is) (c ∷ a) [] e h = absurd (cc)
same_fit lets from (at_least x is) (c ∷ a) (d ∷ b) e h =
    let own : c.ty ≡ d.ty = cc in let more : types a ≡ types b = cc in
    (subst (IsTyped lets from x) own h.0, subst (λ (t : Ty). t ≢ ty.Dynamic) own h.1, same_have from is a b more h.2)
same_fit lets from (any_of is) a b e h = same_have from is a b e h
same_fit lets from (set_of x n) a b e h = (h.0, h.1, sym e ∙ h.2)

-- ---- columns that are put behind

-- these columns, and behind them some of these types
abbrev IsPut : List Field → List Field → List Field → Type 0
IsPut fields cs put = (own : List Field) × (put ≡ fields ++ own) × (types cs ≡ types own)

defaults_put : (fields cs : List Field) → IsPut fields cs (put_defaults fields cs)
defaults_put fields [] = ([], sym (append-nil fields), refl)
defaults_put fields (c ∷ cs) =
    let f = field (free_name fields [] c.name) c.ty in
    let more = defaults_put (fields ++ f ∷ []) cs in
    (f ∷ more.0, more.1 ∙ append_assoc fields (f ∷ []) more.0, ap (λ (ts : List Ty). c.ty ∷ ts) more.2)

named_put : (fields : List Field) (said : List ℕ) (cs : List Field) → IsPut fields cs (put_named fields said cs)
named_put fields said [] = ([], sym (append-nil fields), refl)
named_put fields said (c ∷ cs) =
    let f = field said c.ty in
    let more = defaults_put (fields ++ f ∷ []) cs in
    (f ∷ more.0, more.1 ∙ append_assoc fields (f ∷ []) more.0, ap (λ (ts : List Ty). c.ty ∷ ts) more.2)

columns_put : (text : List ℕ) (fields : List Field) (o : Option Name) (cs gs : List Field) → put_columns text fields o cs ≡ Ok gs → IsPut fields cs gs
columns_put text fields None cs gs e = subst (IsPut fields cs) (done_is (put_defaults fields cs) gs e) (defaults_put fields cs)
columns_put text fields (Some n) cs gs e = by (is_taken fields (name_said text n)) e where
  by : (b : Bool) → cond {A = Verdict (List Field)} b (Err (mistyped (name_place n))) (done (put_named fields (name_said text n) cs)) ≡ Ok gs → IsPut fields cs gs
  by true k = absurd (cc)
  by false k = subst (IsPut fields cs) (done_is (put_named fields (name_said text n) cs) gs k) (named_put fields (name_said text n) cs)

-- ---- one aggregate after another

fit_behind : (lets from : List Field) (gs : List Aggregating) (cs : List Field) (g : Aggregating) (own : List Field) → FitAggregates lets from gs cs
    → FitsAggregate lets from g own → FitAggregates lets from (gs ++ g ∷ []) (cs ++ own)
fit_behind lets from [] cs g own h is = (own, [], ap (λ (x : List Field). x ++ own) h ∙ sym (append-nil own), is, refl)
fit_behind lets from (k ∷ gs) cs g own h is =
    (h.0, h.1 ++ own, ap (λ (x : List Field). x ++ own) h.2 ∙ append_assoc h.0 h.1 own, h.3, fit_behind lets from gs h.1 g own h.4 is)

-- the keys, and the columns of the aggregates behind them
abbrev IsGathered : List Field → List Field → List Field → Gathering → Type 0
IsGathered lets from keys g = (made : List Field) × (g.fields ≡ keys ++ made) × FitAggregates lets from g.aggregates made

gathered_fits : (text : List ℕ) (lets from keys : List Field) (g : Gathering) (o : Option Name) (x : Aggregated) (h : Gathering) → IsGathered lets from keys g
    → FitsAggregate lets from x.0 x.1 → gathered text g o x ≡ Ok h → IsGathered lets from keys h
gathered_fits text lets from keys g o x h before is e =
    let put = λ (fields : List Field). let r : Gathering = record { aggregates = g.aggregates ++ x.0 ∷ []; fields = fields } in r in
    let fields = then_ok (put_columns text g.fields o x.1) (λ fields. done (put fields)) h e in
    let p = columns_put text g.fields o x.1 fields.0 fields.1 in
    let all : fields.0 ≡ keys ++ (before.0 ++ p.0) = p.1 ∙ ap (λ (y : List Field). y ++ p.0) before.1 ∙ append_assoc keys before.0 p.0 in
    subst (IsGathered lets from keys) (done_is (put fields.0) h fields.2)
    (before.0 ++ p.0, all, fit_behind lets from g.aggregates before.0 x.0 p.0 before.2 (same_fit lets from x.0 x.1 p.0 p.2 is))

one_fits : (s : Names) (from keys : List Field) (starred : List ℕ) (g : Gathering) (a : AggregateTree) (h : Gathering) → AreThere from false starred
    → IsGathered s.lets from keys g → aggregate_made s from starred g a ≡ Ok h → IsGathered s.lets from keys h
one_fits s from keys starred g a h st before e =
    let at = a.function.from in
    let named = aggregate_named (piece s.text a.function) in
    let last = gathered s.text g a.given in
    let f = then_ok (or_fault (unknown at) named)
    (λ f. and_then (all_argued s from a.arguments) (λ given. and_then (or_fault (mistyped at) (made f from starred given)) last)) h e in
    let given = then_ok (all_argued s from a.arguments) (λ given. and_then (or_fault (mistyped at) (made f.0 from starred given)) last) h f.2 in
    let x = then_ok (or_fault (mistyped at) (made f.0 from starred given.0)) last h given.2 in
    let is = made_fits f.0 s.lets from starred given.0 x.0 st (all_argued_typed s from a.arguments given.0 given.1)
    (found_ok (mistyped at) (made f.0 from starred given.0) x.0 x.1) in
    gathered_fits s.text s.lets from keys g a.given x.0 h before is x.2

each_fits : (s : Names) (from keys : List Field) (starred : List ℕ) (g : Gathering) (more : List AggregateTree) (h : Gathering) → AreThere from false starred
    → IsGathered s.lets from keys g → each_made s from starred g more ≡ Ok h → IsGathered s.lets from keys h
each_fits s from keys starred g [] h st before e = subst (IsGathered s.lets from keys) (done_is g h e) before
each_fits s from keys starred g (a ∷ more) h st before e =
    let k = then_ok (aggregate_made s from starred g a) (λ k. each_made s from starred k more) h e in
    each_fits s from keys starred k.0 more h st (one_fits s from keys starred g a k.0 st before k.1) k.2

pub grouped_goes : (s : Scoping) (ss : List Stepping) (w v : Flowing) (aggs : List AggregateTree) (is : List ItemTree) → Goes s ss w
    → grouped s w aggs is ≡ Ok v → Goes s ss v
grouped_goes s ss w v aggs is g e =
    let cs = columns w in
    let m = then_ok (items_made (names s) cs [] true nothing_made is)
    (λ m. and_then (aggregates_made (names s) cs m.fields (no_aggregate m.fields) aggs) (λ h. done (summarized_by w m.terms h))) v e in
    let h = then_ok (aggregates_made (names s) cs m.0.fields (no_aggregate m.0.fields) aggs) (λ h. done (summarized_by w m.0.terms h)) v m.2 in
    let keys = items_good (names s) cs [] true nothing_made is m.0 (nothing_is_made s.lets cs true) m.1 in
    let more = each_fits (names s) cs m.0.fields (unkeyed 0 cs m.0.fields) (no_aggregate m.0.fields) aggs h.0 (unkeyed_there cs m.0.fields)
    ([], sym (append-nil m.0.fields), refl) h.1 in
    let typed = over_lets s w.progress.steps (λ ls. AreTyped ls cs m.0.terms m.0.fields) g.holds keys.typed in
    let fit = over_lets s w.progress.steps (λ ls. FitAggregates ls cs h.0.aggregates more.0) g.holds more.2 in
    subst (Goes s ss) (done_is (summarized_by w m.0.terms h.0) v h.2)
    (after_goes s ss w (λ i. summarized i m.0.terms h.0.aggregates) h.0.fields g (cs, g.rows, m.0.fields, more.0, more.1, typed, keys.keyed, fit) refl refl)
