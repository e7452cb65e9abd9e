-- Binding an expression tells the first fault of its text.
use Rattle.std.proofs.Common.{◌≡◌, ℕ, List, [], ◌∷◌, ◌++◌, map, append_assoc, append-nil, Option, Some, None, Ok, Err, refl, sym, ap, ◌∙◌}
use Rattle.kq_bind_expressions.specs.Apply.{type_of, apply, applied, called_as}
use Rattle.kq_bind_expressions.specs.Bound.{bound, bounds, chained, stepped, walked, member_name, constant_of}
use Rattle.kq_bind_expressions.specs.Lookup.{meant}
use Rattle.kq_bind_expressions.specs.Names.{Names}
use Rattle.kq_bind_expressions.specs.Operators.{sign, comparison, membership, interval, operation}
use Rattle.kq_bind_expressions.specs.Verdicts.{Fault, Verdict, unsupported, unknown, mistyped, and_then, or_fault}
use Rattle.kq_plan_expressions.specs.Terms.{Bound}
use Rattle.kq_plan_functions.specs.declared.function.Function.{Function}
use Rattle.kq_plan_functions.specs.declared.function.Function.TheVariants as f
use Rattle.kq_plan_functions.specs.Names.{function_named}
use Rattle.kq_plan_functions.specs.Table.{chosen, TypedCall}
use Rattle.kq_read_grammar.specs.Trees.{Precedence, Tree, name, literal, group, call, path, signed, compare, within, between, chain, Trees, no_tree, and_tree, Links, no_link, and_link, OneStep, member, index, Steps, no_step, and_step}
use Rattle.kq_read_meanings.specs.Literals.{literal_value}
use Rattle.kq_read_meanings.specs.Names.{name_said, name_place}
use Rattle.kq_read_meanings.specs.Pieces.{piece}
use Rattle.kq_value.specs.declared.schema.Field.{Field}
use Rattle.kq_value.specs.declared.value.Value.{Value}
use Rattle.std.specs.Prelude.{option_map}
use Rattle.kq_bind_query.proofs.Progress.{done}
use Rattle.kq_bind_laws.specs.Faults.{untaken, misfit, misnamed, misplaced, faults_in, faults_among, link_faults, step_faults, steps_faults}
use Rattle.kq_bind_laws.specs.Told.{TellsFirst, unless_there}
use Rattle.kq_bind_laws.proofs.Told.{tells_same, there_tells, then_more, then_these, then_done}

-- ---- operators and functions

called_tells : (f : Function) (at : ℕ) (given : List Bound) (o : Option TypedCall) → TellsFirst (called_as f at given o) (unless_there o (mistyped at))
called_tells f at given (Some c) = refl
called_tells f at given None = ([], refl)

taken_tells : (f : Function) (at : ℕ) (given : List Bound) → TellsFirst (applied f at given) (untaken f at given)
taken_tells f at given = called_tells f at given (chosen f (map type_of given))

-- nothing stands before it and behind it
alone : (fs us gs : List Fault) → fs ≡ [] → gs ≡ [] → us ≡ fs ++ (us ++ gs)
alone fs us gs before behind = sym (append-nil us) ∙ ap (λ (z : List Fault). us ++ z) (sym behind) ∙ ap (λ (z : List Fault). z ++ (us ++ gs)) (sym before)

first_lost : (e : Fault) (fs more rest : List Fault) → fs ≡ e ∷ more → (others : List Fault) × (fs ++ rest ≡ e ∷ others)
first_lost e fs more rest is = (more ++ rest, ap (λ (z : List Fault). z ++ rest) is)

one_tells : (f : Function) (at : ℕ) (x : Verdict Bound) (fs : List Fault) → TellsFirst x fs → TellsFirst (apply f at (x ∷ [])) (misfit f at (x ∷ []) ++ fs)
one_tells f at (Ok a) fs none = tells_same (applied f at (a ∷ [])) (untaken f at (a ∷ [])) (untaken f at (a ∷ []) ++ fs) (alone [] (untaken f at (a ∷ [])) fs refl none) (taken_tells f at (a ∷ []))
one_tells f at (Err e) fs here = here

pub pair_tells : (f : Function) (at : ℕ) (x y : Verdict Bound) (fs gs : List Fault) → TellsFirst x fs → TellsFirst y gs
    → TellsFirst (apply f at (x ∷ y ∷ [])) (fs ++ (misfit f at (x ∷ y ∷ []) ++ gs))
pair_tells f at (Err e) y fs gs (more, is) there = first_lost e fs more (misfit f at (Err e ∷ y ∷ []) ++ gs) is
pair_tells f at (Ok a) (Err e) fs gs none (more, is) = (more, ap (λ (z : List Fault). z ++ gs) none ∙ is)
pair_tells f at (Ok a) (Ok b) fs gs none none_there =
    let given : List Bound = a ∷ b ∷ [] in
    tells_same (applied f at given) (untaken f at given) (fs ++ (untaken f at given ++ gs)) (alone fs (untaken f at given) gs none none_there) (taken_tells f at given)

-- the second and the third, one after another
two : (e : Fault) (gs hs more : List Fault) → gs ≡ e ∷ more → (others : List Fault) × (gs ++ hs ≡ e ∷ others)
two e gs hs more is = first_lost e gs more hs is

ends_tell : (f : Function) (at : ℕ) (x y z : Verdict Bound) (fs gs hs : List Fault) → TellsFirst x fs → TellsFirst y gs → TellsFirst z hs
    → TellsFirst (apply f at (x ∷ y ∷ z ∷ [])) (fs ++ (misfit f at (x ∷ y ∷ z ∷ []) ++ (gs ++ hs)))
ends_tell f at (Err e) y z fs gs hs (more, is) there last = first_lost e fs more (misfit f at (Err e ∷ y ∷ z ∷ []) ++ (gs ++ hs)) is
ends_tell f at (Ok a) (Err e) z fs gs hs none (more, is) last =
    let behind = two e gs hs more is in (behind.0, ap (λ (u : List Fault). u ++ (gs ++ hs)) none ∙ behind.1)
ends_tell f at (Ok a) (Ok b) (Err e) fs gs hs none no_second (more, is) =
    (more, ap (λ (u : List Fault). u ++ (gs ++ hs)) none ∙ ap (λ (u : List Fault). u ++ hs) no_second ∙ is)
ends_tell f at (Ok a) (Ok b) (Ok c) fs gs hs none no_second no_third =
    let given : List Bound = a ∷ b ∷ c ∷ [] in
    tells_same (applied f at given) (untaken f at given) (fs ++ (untaken f at given ++ (gs ++ hs)))
    (alone fs (untaken f at given) (gs ++ hs) none (ap (λ (u : List Fault). u ++ hs) no_second ∙ no_third)) (taken_tells f at given)

abbrev searched : Function → ℕ → Verdict Bound → Verdict Bound → Verdict (List Bound) → Verdict Bound
searched f at x y zs = and_then x (λ a. and_then y (λ b. and_then zs (λ cs. applied f at (a ∷ b ∷ cs))))

within_tells : (f : Function) (at : ℕ) (x y : Verdict Bound) (zs : Verdict (List Bound)) (fs gs hs : List Fault) → TellsFirst x fs → TellsFirst y gs → TellsFirst zs hs
    → TellsFirst (searched f at x y zs) (fs ++ (misplaced f at x y zs ++ (gs ++ hs)))
within_tells f at (Err e) y zs fs gs hs (more, is) there last = first_lost e fs more (misplaced f at (Err e) y zs ++ (gs ++ hs)) is
within_tells f at (Ok a) (Err e) zs fs gs hs none (more, is) last =
    let behind = two e gs hs more is in (behind.0, ap (λ (u : List Fault). u ++ (gs ++ hs)) none ∙ behind.1)
within_tells f at (Ok a) (Ok b) (Err e) fs gs hs none no_second (more, is) =
    (more, ap (λ (u : List Fault). u ++ (gs ++ hs)) none ∙ ap (λ (u : List Fault). u ++ hs) no_second ∙ is)
within_tells f at (Ok a) (Ok b) (Ok cs) fs gs hs none no_second no_third =
    let given : List Bound = a ∷ b ∷ cs in
    tells_same (applied f at given) (untaken f at given) (fs ++ (untaken f at given ++ (gs ++ hs)))
    (alone fs (untaken f at given) (gs ++ hs) none (ap (λ (u : List Fault). u ++ hs) no_second ∙ no_third)) (taken_tells f at given)

named_tells : (at : ℕ) (o : Option Function) (v : Verdict (List Bound)) (fs : List Fault) → TellsFirst v fs
    → TellsFirst (and_then (or_fault (unknown at) o) (λ f. and_then v (applied f at))) (misnamed at o v ++ fs)
named_tells at None v fs h = (fs, refl)
named_tells at (Some f) (Err e) fs h = h
named_tells at (Some f) (Ok given) fs none = tells_same (applied f at given) (untaken f at given) (untaken f at given ++ fs) (alone [] (untaken f at given) fs refl none) (taken_tells f at given)

valued_tells : (at : ℕ) (o : Option Value) → TellsFirst (or_fault (unsupported at) (option_map constant_of o)) (unless_there o (unsupported at))
valued_tells at (Some v) = refl
valued_tells at None = ([], refl)

-- the parts of a chain, the first two of which are a part of their own
paired : (fs us gs hs : List Fault) → (fs ++ (us ++ gs)) ++ hs ≡ fs ++ (us ++ (gs ++ hs))
paired fs us gs hs = append_assoc fs (us ++ gs) hs ∙ ap (λ (z : List Fault). fs ++ z) (append_assoc us gs hs)

-- ---- expressions

mutual
  pub tree_tells : (s : Names) (cs : List Field) (e : Tree) → TellsFirst (bound s cs e) (faults_in s cs e)
  tree_tells s cs (name n) = there_tells (meant s cs (name_said s.text n)) (unknown (name_place n))
  tree_tells s cs (literal t) = valued_tells t.from (literal_value s.text t)
  tree_tells s cs (group t e) = tree_tells s cs e
  tree_tells s cs (call t es) = named_tells t.from (function_named (piece s.text t)) (bounds s cs es) (faults_among s cs es) (all_tell s cs es)
  tree_tells s cs (path e p ps) =
      then_more (bound s cs e) (λ x. and_then (stepped s cs x p) (λ y. walked s cs y ps)) (faults_in s cs e)
      (λ v. step_faults s cs v p ++ steps_faults s cs (and_then v (λ x. stepped s cs x p)) ps) (tree_tells s cs e)
      (λ x. then_more (stepped s cs x p) (λ y. walked s cs y ps) (step_faults s cs (Ok x) p) (λ v. steps_faults s cs v ps) (step_tells s cs x p) (λ y. steps_tell s cs y ps))
  tree_tells s cs (signed t e) = one_tells (sign t.kind) t.from (bound s cs e) (faults_in s cs e) (tree_tells s cs e)
  tree_tells s cs (compare a t b) = pair_tells (comparison t.kind) t.from (bound s cs a) (bound s cs b) (faults_in s cs a) (faults_in s cs b) (tree_tells s cs a) (tree_tells s cs b)
  tree_tells s cs (within a t e es) =
      within_tells (membership t.kind) t.from (bound s cs a) (bound s cs e) (bounds s cs es) (faults_in s cs a) (faults_in s cs e) (faults_among s cs es)
      (tree_tells s cs a) (tree_tells s cs e) (all_tell s cs es)
  tree_tells s cs (between a t b c) =
      ends_tell (interval t.kind) t.from (bound s cs a) (bound s cs b) (bound s cs c) (faults_in s cs a) (faults_in s cs b) (faults_in s cs c)
      (tree_tells s cs a) (tree_tells s cs b) (tree_tells s cs c)
  tree_tells s cs (chain l a t b ls) =
      let pair : Verdict Bound = apply (operation l t.kind) t.from (bound s cs a ∷ bound s cs b ∷ []) in
      let own : List Fault = misfit (operation l t.kind) t.from (bound s cs a ∷ bound s cs b ∷ []) in
      tells_same (and_then pair (λ x. chained s cs l x ls)) ((faults_in s cs a ++ (own ++ faults_in s cs b)) ++ link_faults s cs l pair ls)
      (faults_in s cs a ++ (own ++ (faults_in s cs b ++ link_faults s cs l pair ls)))
      (paired (faults_in s cs a) own (faults_in s cs b) (link_faults s cs l pair ls))
      (then_more pair (λ x. chained s cs l x ls) (faults_in s cs a ++ (own ++ faults_in s cs b)) (λ v. link_faults s cs l v ls)
      (pair_tells (operation l t.kind) t.from (bound s cs a) (bound s cs b) (faults_in s cs a) (faults_in s cs b) (tree_tells s cs a) (tree_tells s cs b))
      (λ x. links_tell s cs l x ls))

  all_tell : (s : Names) (cs : List Field) (es : Trees) → TellsFirst (bounds s cs es) (faults_among s cs es)
  all_tell s cs no_tree = refl
  all_tell s cs (and_tree e es) =
      then_these (bound s cs e) (λ x. and_then (bounds s cs es) (λ xs. done (x ∷ xs))) (faults_in s cs e) (faults_among s cs es) (tree_tells s cs e)
      (λ x. then_done (bounds s cs es) (λ xs. x ∷ xs) (faults_among s cs es) (all_tell s cs es))

  links_tell : (s : Names) (cs : List Field) (l : Precedence) (x : Bound) (ls : Links) → TellsFirst (chained s cs l x ls) (link_faults s cs l (done x) ls)
  links_tell s cs l x no_link = refl
  links_tell s cs l x (and_link t e ls) =
      let pair : Verdict Bound = apply (operation l t.kind) t.from (done x ∷ bound s cs e ∷ []) in
      let own : List Fault = misfit (operation l t.kind) t.from (done x ∷ bound s cs e ∷ []) in
      tells_same (and_then pair (λ y. chained s cs l y ls)) ((own ++ faults_in s cs e) ++ link_faults s cs l pair ls)
      (own ++ (faults_in s cs e ++ link_faults s cs l pair ls)) (append_assoc own (faults_in s cs e) (link_faults s cs l pair ls))
      (then_more pair (λ y. chained s cs l y ls) (own ++ faults_in s cs e) (λ v. link_faults s cs l v ls)
      (pair_tells (operation l t.kind) t.from (done x) (bound s cs e) [] (faults_in s cs e) refl (tree_tells s cs e))
      (λ y. links_tell s cs l y ls))

  step_tells : (s : Names) (cs : List Field) (x : Bound) (p : OneStep) → TellsFirst (stepped s cs x p) (step_faults s cs (done x) p)
  step_tells s cs x (member d n) = taken_tells f.Member d.from (x ∷ member_name s n ∷ [])
  step_tells s cs x (index d e) = pair_tells f.Member d.from (done x) (bound s cs e) [] (faults_in s cs e) refl (tree_tells s cs e)

  steps_tell : (s : Names) (cs : List Field) (x : Bound) (ps : Steps) → TellsFirst (walked s cs x ps) (steps_faults s cs (done x) ps)
  steps_tell s cs x no_step = refl
  steps_tell s cs x (and_step p ps) =
      then_more (stepped s cs x p) (λ y. walked s cs y ps) (step_faults s cs (done x) p) (λ v. steps_faults s cs v ps) (step_tells s cs x p) (λ y. steps_tell s cs y ps)
