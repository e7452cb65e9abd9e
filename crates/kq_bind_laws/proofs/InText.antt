-- The faults of an expression stand in the order of its text.
use Rattle.std.proofs.Common.{◌≡◌, ℕ, List, [], ◌∷◌, ◌++◌, map, append-nil, append_assoc, Option, Some, None, Ok, Err, refl, sym, subst}
use Rattle.kq_bind_expressions.specs.Apply.{type_of, apply}
use Rattle.kq_bind_expressions.specs.Bound.{bound, bounds, stepped, member_name}
use Rattle.kq_bind_expressions.specs.Lookup.{meant}
use Rattle.kq_bind_expressions.specs.Names.{Names}
use Rattle.kq_bind_expressions.specs.Operators.{sign, comparison, membership, interval, operation}
use Rattle.kq_bind_expressions.specs.Verdicts.{Fault, Verdict, unsupported, unknown, mistyped, and_then, all_of}
use Rattle.kq_plan_expressions.specs.Terms.{Bound}
use Rattle.kq_plan_functions.specs.declared.function.Function.{Function}
use Rattle.kq_plan_functions.specs.declared.function.Function.TheVariants as f
use Rattle.kq_plan_functions.specs.Names.{function_named}
use Rattle.kq_plan_functions.specs.Table.{chosen}
use Rattle.kq_read_grammar.specs.declared.expression.Name.{Name}
use Rattle.kq_read_grammar.specs.declared.expression.Name.TheVariants as shown
use Rattle.kq_read_grammar.specs.Expressions.{name_text, spells, spells_all, spells_more, spells_links, spells_step, spells_steps}
use Rattle.kq_read_grammar.specs.Trees.{Precedence, Tree, name, literal, group, call, path, signed, compare, within, between, chain, Trees, no_tree, and_tree, Links, no_link, and_link, OneStep, member, index, Steps, no_step, and_step}
use Rattle.kq_read_meanings.specs.Literals.{literal_value}
use Rattle.kq_read_meanings.specs.Names.{name_said, name_place}
use Rattle.kq_read_meanings.specs.Pieces.{piece}
use Rattle.kq_read_symbols.specs.declared.kind.Symbol.{Symbol}
use Rattle.kq_value.specs.declared.schema.Field.{Field}
use Rattle.kq_bind_laws.specs.Faults.{untaken, misfit, misnamed, misplaced, faults_in, faults_among, link_faults, step_faults, steps_faults}
use Rattle.kq_bind_laws.specs.Told.{unless_there, where_bound, place_of, InText, none, here, later}

-- ---- one behind another

pub skipped : (es : List Fault) (a b : List Symbol) → InText es b → InText es (a ++ b)
skipped es [] b h = h
skipped es (t ∷ a) b h = later (skipped es a b h)

pub joined : (es fs : List Fault) (a b : List Symbol) → InText es a → InText fs b → InText (es ++ fs) (a ++ b)
joined [] fs a b none k = skipped fs a b k
joined (e ∷ es) fs (t ∷ a) b (here at h) k = here at (joined es fs (t ∷ a) b h k)
joined es fs (t ∷ a) b (later h) k = later (joined es fs a b h k)

pub both : (ts a b : List Symbol) (es fs : List Fault) → ts ≡ a ++ b → InText es a → InText fs b → InText (es ++ fs) ts
both ts a b es fs e h k = subst (InText (es ++ fs)) (sym e) (joined es fs a b h k)

pub behind : (ts a b : List Symbol) (es : List Fault) → ts ≡ a ++ b → InText es b → InText es ts
behind ts a b es e h = subst (InText es) (sym e) (skipped es a b h)

pub before : (ts a b : List Symbol) (es : List Fault) → ts ≡ a ++ b → InText es a → InText es ts
before ts a b es e h = subst (λ (z : List Fault). InText z ts) (append-nil es) (both ts a b es [] e h none)

-- an operator and its operand, and what is behind them
pub linked : (es fs gs : List Fault) (ts u v a b : List Symbol) → ts ≡ u ++ v → u ≡ a ++ b → InText es a → InText fs b → InText gs v → InText (es ++ (fs ++ gs)) ts
linked es fs gs ts u v a b outer inner h k m =
    subst (λ (z : List Fault). InText z ts) (append_assoc es fs gs) (both ts u v (es ++ fs) gs outer (both u a b es fs inner h k) m)

-- ---- at one symbol

-- all stand at this place
abbrev pub AllAt : ℕ → List Fault → Type 0
AllAt at [] = Unit {0}
AllAt at (e ∷ es) = (place_of e ≡ at) × AllAt at es

pub at_symbol : (es : List Fault) (t : Symbol) (ts : List Symbol) → AllAt t.from es → InText es (t ∷ ts)
at_symbol [] t ts h = none
at_symbol (e ∷ es) t ts h = here h.0 (at_symbol es t ts h.1)

pub at_one : (es : List Fault) (t : Symbol) (ts more : List Symbol) → ts ≡ t ∷ more → AllAt t.from es → InText es ts
at_one es t ts more is h = subst (InText es) (sym is) (at_symbol es t more h)

pub at_name : (es : List Fault) (n : Name) (ts : List Symbol) → name_text n ts → AllAt (name_place n) es → InText es ts
at_name es (shown.Word t) ts h k = at_one es t ts [] h.1 k
at_name es (shown.Bracketed t s) ts h k = before ts h.left h.right es h.joined (at_one es t h.left [] h.before.1 k)

pub unless_at : {A : Type 0} (o : Option A) (e : Fault) → AllAt (place_of e) (unless_there o e)
unless_at (Some x) e = tt
unless_at None e = (refl, tt)

untaken_at : (f : Function) (at : ℕ) (given : List Bound) → AllAt at (untaken f at given)
untaken_at f at given = unless_at (chosen f (map type_of given)) (mistyped at)

pub bound_at : {A : Type 0} (at : ℕ) (v : Verdict A) (faults : A → List Fault) → ((x : A) → AllAt at (faults x)) → AllAt at (where_bound v faults)
bound_at at (Ok x) faults h = h x
bound_at at (Err e) faults h = tt

misfit_at : (f : Function) (at : ℕ) (operands : List (Verdict Bound)) → AllAt at (misfit f at operands)
misfit_at f at operands = bound_at at (all_of operands) (untaken f at) (untaken_at f at)

misnamed_at : (at : ℕ) (o : Option Function) (arguments : Verdict (List Bound)) → AllAt at (misnamed at o arguments)
misnamed_at at None arguments = (refl, tt)
misnamed_at at (Some f) arguments = bound_at at arguments (untaken f at) (untaken_at f at)

misplaced_at : (f : Function) (at : ℕ) (x y : Verdict Bound) (zs : Verdict (List Bound)) → AllAt at (misplaced f at x y zs)
misplaced_at f at x y zs =
    bound_at at x (λ a. where_bound y (λ b. where_bound zs (λ cs. untaken f at (a ∷ b ∷ cs))))
    (λ a. bound_at at y (λ b. where_bound zs (λ cs. untaken f at (a ∷ b ∷ cs))) (λ b. bound_at at zs (λ cs. untaken f at (a ∷ b ∷ cs)) (λ cs. untaken_at f at (a ∷ b ∷ cs))))

-- ---- expressions

module _ (s : Names) (cs : List Field) where
  mutual
    pub tree_in : (e : Tree) (ts : List Symbol) → spells e ts → InText (faults_in s cs e) ts
    tree_in (name n) ts h = at_name (faults_in s cs (name n)) n ts h (unless_at (meant s cs (name_said s.text n)) (unknown (name_place n)))
    tree_in (literal t) ts h = at_one (faults_in s cs (literal t)) t ts [] h.1 (unless_at (literal_value s.text t) (unsupported t.from))
    tree_in (group t e) ts h =
        behind ts h.left h.right (faults_in s cs e) h.joined (before h.right h.after.left h.after.right (faults_in s cs e) h.after.joined (tree_in e h.after.left h.after.before))
    tree_in (call t es) ts h =
        let args = h.after.after in
        let own = misnamed t.from (function_named (piece s.text t)) (bounds s cs es) in
        both ts h.left h.right own (faults_among s cs es) h.joined (at_one own t h.left [] h.before.1 (misnamed_at t.from (function_named (piece s.text t)) (bounds s cs es)))
        (behind h.right h.after.left h.after.right (faults_among s cs es) h.after.joined
        (before h.after.right args.left args.right (faults_among s cs es) args.joined (all_in es args.left args.before)))
    tree_in (path e p ps) ts h =
        let next = and_then (bound s cs e) (λ x. stepped s cs x p) in
        both ts h.left h.right (faults_in s cs e) (step_faults s cs (bound s cs e) p ++ steps_faults s cs next ps) h.joined (tree_in e h.left h.before.1)
        (both h.right h.after.left h.after.right (step_faults s cs (bound s cs e) p) (steps_faults s cs next ps) h.after.joined
        (step_in (bound s cs e) p h.after.left h.after.before) (steps_in next ps h.after.right h.after.after))
    tree_in (signed t e) ts h =
        let own = misfit (sign t.kind) t.from (bound s cs e ∷ []) in
        both ts h.left h.right own (faults_in s cs e) h.joined (at_one own t h.left [] h.before.1 (misfit_at (sign t.kind) t.from (bound s cs e ∷ []))) (tree_in e h.right h.after.1)
    tree_in (compare a t b) ts h =
        let operands = bound s cs a ∷ bound s cs b ∷ [] in
        let own = misfit (comparison t.kind) t.from operands in
        both ts h.left h.right (faults_in s cs a) (own ++ faults_in s cs b) h.joined (tree_in a h.left h.before.1)
        (both h.right h.after.left h.after.right own (faults_in s cs b) h.after.joined (at_one own t h.after.left [] h.after.before.1 (misfit_at (comparison t.kind) t.from operands))
        (tree_in b h.after.right h.after.after.1))
    tree_in (within a t e es) ts h =
        let open_on = h.after.after in
        let list = open_on.after in
        let inner = list.before in
        let own = misplaced (membership t.kind) t.from (bound s cs a) (bound s cs e) (bounds s cs es) in
        let values = faults_in s cs e ++ faults_among s cs es in
        both ts h.left h.right (faults_in s cs a) (own ++ values) h.joined (tree_in a h.left h.before.1)
        (both h.right h.after.left h.after.right own values h.after.joined
        (at_one own t h.after.left [] h.after.before.1 (misplaced_at (membership t.kind) t.from (bound s cs a) (bound s cs e) (bounds s cs es)))
        (behind h.after.right open_on.left open_on.right values open_on.joined
        (before open_on.right list.left list.right values list.joined
        (both list.left inner.left inner.right (faults_in s cs e) (faults_among s cs es) inner.joined (tree_in e inner.left inner.before) (more_in es inner.right inner.after)))))
    tree_in (between a t b c) ts h =
        let open_on = h.after.after in
        let ends = open_on.after in
        let low = ends.before in
        let high = low.after in
        let operands = bound s cs a ∷ bound s cs b ∷ bound s cs c ∷ [] in
        let own = misfit (interval t.kind) t.from operands in
        let values = faults_in s cs b ++ faults_in s cs c in
        both ts h.left h.right (faults_in s cs a) (own ++ values) h.joined (tree_in a h.left h.before.1)
        (both h.right h.after.left h.after.right own values h.after.joined (at_one own t h.after.left [] h.after.before.1 (misfit_at (interval t.kind) t.from operands))
        (behind h.after.right open_on.left open_on.right values open_on.joined
        (before open_on.right ends.left ends.right values ends.joined
        (both ends.left low.left low.right (faults_in s cs b) (faults_in s cs c) low.joined (tree_in b low.left low.before.1)
        (behind low.right high.left high.right (faults_in s cs c) high.joined (tree_in c high.right high.after.1))))))
    tree_in (chain l a t b ls) ts h =
        let pair = h.after.before in
        let operands = bound s cs a ∷ bound s cs b ∷ [] in
        let own = misfit (operation l t.kind) t.from operands in
        let rest = link_faults s cs l (apply (operation l t.kind) t.from operands) ls in
        both ts h.left h.right (faults_in s cs a) (own ++ (faults_in s cs b ++ rest)) h.joined (tree_in a h.left h.before.1)
        (linked own (faults_in s cs b) rest h.right h.after.left h.after.right pair.left pair.right h.after.joined pair.joined
        (at_one own t pair.left [] pair.before.1 (misfit_at (operation l t.kind) t.from operands)) (tree_in b pair.right pair.after.1)
        (links_in l (apply (operation l t.kind) t.from operands) ls h.after.right h.after.after))

    all_in : (es : Trees) (ts : List Symbol) → spells_all es ts → InText (faults_among s cs es) ts
    all_in no_tree ts h = none
    all_in (and_tree e es) ts h =
        both ts h.left h.right (faults_in s cs e) (faults_among s cs es) h.joined (tree_in e h.left h.before) (more_in es h.right h.after)

    more_in : (es : Trees) (ts : List Symbol) → spells_more es ts → InText (faults_among s cs es) ts
    more_in no_tree ts h = none
    more_in (and_tree e es) ts h =
        let one = h.before in
        both ts h.left h.right (faults_in s cs e) (faults_among s cs es) h.joined (behind h.left one.left one.right (faults_in s cs e) one.joined (tree_in e one.right one.after))
        (more_in es h.right h.after)

    links_in : (l : Precedence) (x : Verdict Bound) (ls : Links) (ts : List Symbol) → spells_links l ls ts → InText (link_faults s cs l x ls) ts
    links_in l x no_link ts h = none
    links_in l x (and_link t e ls) ts h =
        let pair = h.before in
        let operands = x ∷ bound s cs e ∷ [] in
        let own = misfit (operation l t.kind) t.from operands in
        let rest = link_faults s cs l (apply (operation l t.kind) t.from operands) ls in
        linked own (faults_in s cs e) rest ts h.left h.right pair.left pair.right h.joined pair.joined
        (at_one own t pair.left [] pair.before.1 (misfit_at (operation l t.kind) t.from operands)) (tree_in e pair.right pair.after.1)
        (links_in l (apply (operation l t.kind) t.from operands) ls h.right h.after)

    step_in : (x : Verdict Bound) (p : OneStep) (ts : List Symbol) → spells_step p ts → InText (step_faults s cs x p) ts
    step_in x (member t n) ts h =
        let operands = x ∷ Ok (member_name s n) ∷ [] in
        before ts h.left h.right (misfit f.Member t.from operands) h.joined (at_one (misfit f.Member t.from operands) t h.left [] h.before.1 (misfit_at f.Member t.from operands))
    step_in x (index t e) ts h =
        let operands = x ∷ bound s cs e ∷ [] in
        both ts h.left h.right (misfit f.Member t.from operands) (faults_in s cs e) h.joined
        (at_one (misfit f.Member t.from operands) t h.left [] h.before.1 (misfit_at f.Member t.from operands))
        (before h.right h.after.left h.after.right (faults_in s cs e) h.after.joined (tree_in e h.after.left h.after.before))

    steps_in : (x : Verdict Bound) (ps : Steps) (ts : List Symbol) → spells_steps ps ts → InText (steps_faults s cs x ps) ts
    steps_in x no_step ts h = none
    steps_in x (and_step p ps) ts h =
        let next = and_then x (λ y. stepped s cs y p) in
        both ts h.left h.right (step_faults s cs x p) (steps_faults s cs next ps) h.joined (step_in x p h.left h.before) (steps_in next ps h.right h.after)
