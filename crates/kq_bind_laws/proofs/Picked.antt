-- A project-away leaves the columns that no name names, and a project-rename gives the named ones their new names.
use Rattle.std.proofs.Common.{◌≡◌, ℕ, zero, suc, ◌+◌, Bool, true, false, ◌||◌, ◌&&◌, not, cond, List, [], ◌∷◌, ◌++◌, length, map, Option, Some, Ok, Err, refl, sym, ap, ◌∙◌, subst, arith, append_assoc, append-nil, add-zero, zero-add, eq-eqb}
use Rattle.std.specs.Prelude.{nat_eq, slice_get}
use Rattle.std.specs.List.{filter}
use Rattle.std.proofs.lemmas.Bool.{eqb-true, eqb-false}
use Rattle.std.proofs.lemmas.List.{length-map}
use Rattle.kq_bind_query.specs.kq_bind_operators.Flows.{Flowing, columns, after}
use Rattle.kq_bind_query.specs.kq_bind_operators.Operators.{laid_after, dropped, renamed as renamed_by}
use Rattle.kq_bind_query.specs.kq_bind_operators.Scopes.{Scoping}
use Rattle.kq_bind_columns.specs.Chosen.{has_number, place_in, choose, chosen, without, names_given, new_name, renamed}
use Rattle.kq_bind_columns.specs.Items.{field}
use Rattle.kq_bind_columns.specs.Laying.{Columns, as_they_are}
use Rattle.kq_bind_columns.specs.Naming.{is_taken}
use Rattle.kq_bind_expressions.specs.Lookup.{first_named}
use Rattle.kq_bind_expressions.specs.Verdicts.{Verdict, and_then, mistyped, unknown}
use Rattle.kq_plan_expressions.specs.Terms.{Term, column}
use Rattle.kq_read_grammar.specs.declared.expression.Name.{Name}
use Rattle.kq_plan.specs.Plans.{mapped}
use Rattle.kq_read_meanings.specs.Names.{name_said, name_place}
use Rattle.kq_value.specs.declared.schema.Field.{Field}
use Rattle.kq_value.specs.declared.ty.Ty.{Ty}
use Rattle.kq_value.specs.declared.ty.Ty.TheVariants as ty
use Rattle.kq_value.specs.Ty.{same_ty}
use Rattle.kq_bind_query.specs.Different.{AreDifferent}
use Rattle.kq_bind_query.proofs.Apart.{same, not_both, is_false, are_same, are_apart, neither, or_else, or_first, apart_different, different_apart, NamedAt, found_named}
use Rattle.kq_bind_query.proofs.Columns.{found_ok}
use Rattle.kq_bind_query.proofs.Placed.{Once, chosen_once, chosen_length, renamed_apart}
use Rattle.kq_bind_query.proofs.Progress.{then_ok, done, done_is}
use Rattle.kq_bind_laws.specs.Columns.{Valued, column_of, values_of, columns_of, numbered_from, HasNext, IsMapped}
use Rattle.kq_bind_laws.specs.Picked.{is_said, left_of, Renaming, new_of, old_of, IsRenamed, AreRenamed, HasRenamed}
use Rattle.kq_bind_laws.proofs.Steps.{next_following, next_mapped, numbered_values}

-- ---- columns that names name

pub named_is : (cs : List Field) (i : ℕ) (name : List ℕ) (c : Field) → NamedAt cs i name → slice_get cs i ≡ Some c → c.name ≡ name
named_is [] i name c h e = absurd h
named_is (d ∷ cs) zero name c h e = let is : d ≡ c = cc in ap (λ (z : Field). z.name) (sym is) ∙ h
named_is (d ∷ cs) (suc i) name c h e = named_is cs i name c h e

pub named_there : (cs : List Field) (i : ℕ) (name : List ℕ) → NamedAt cs i name → (d : Field) × (slice_get cs i ≡ Some d) × (d.name ≡ name)
named_there [] i name h = absurd h
named_there (d ∷ cs) zero name h = (d, refl, h)
named_there (d ∷ cs) (suc i) name h = named_there cs i name h

pub same_place : (cs : List Field) (i k : ℕ) (name : List ℕ) (c : Field) → AreDifferent cs → NamedAt cs i name → slice_get cs k ≡ Some c → c.name ≡ name → i ≡ k
same_place cs i k name c different at e is =
    let d = named_there cs i name at in different i k d.0 c d.1 e (d.2 ∙ sym is)

-- each of the names is that of the column of the number in its place
abbrev AreAt : List ℕ → List Field → List Name → List ℕ → Type 0
AreAt text cs [] [] = Unit {0}
AreAt text cs [] (i ∷ is) = ⊥
AreAt text cs (n ∷ ns) [] = ⊥
AreAt text cs (n ∷ ns) (i ∷ is) = NamedAt cs i (name_said text n) × AreAt text cs ns is

choose_is : (keys : Bool) (at : ℕ) (is : List ℕ) (p : ℕ × Ty) (js : List ℕ) → choose keys at is p ≡ Ok js → js ≡ is ++ p.0 ∷ []
choose_is keys at is p js e = by (has_number is p.0 || (keys && same_ty p.1 ty.Dynamic)) e where
  by : (b : Bool) → cond b (Err (mistyped at)) (done (is ++ p.0 ∷ [])) ≡ Ok js → js ≡ is ++ p.0 ∷ []
  by true g = absurd (cc)
  by false g = sym (done_is (is ++ p.0 ∷ []) js g)

record Found (text : List ℕ) (cs : List Field) (past : List ℕ) (ns : List Name) (js : List ℕ) : Type 0 where
  numbers : List ℕ
  behind : js ≡ past ++ numbers
  at : AreAt text cs ns numbers

chosen_found : (text : List ℕ) (cs : List Field) (keys : Bool) (past : List ℕ) (ns : List Name) (js : List ℕ) → chosen text cs keys past ns ≡ Ok js
    → Found text cs past ns js
chosen_found text cs keys past [] js e = record { numbers = []; behind = sym (done_is past js e) ∙ sym (append-nil past); at = tt }
chosen_found text cs keys past (n ∷ ns) js e =
    let k = then_ok (and_then (place_in text cs n) (choose keys (name_place n) past)) (λ k. chosen text cs keys k ns) js e in
    let p = then_ok (place_in text cs n) (choose keys (name_place n) past) k.0 k.1 in
    let found = found_named cs (name_said text n) p.0 (found_ok (unknown (name_place n)) (first_named 0 cs (name_said text n)) p.0 p.1) in
    let rest = chosen_found text cs keys k.0 ns js k.2 in
    record {
      numbers = p.0.0 ∷ rest.numbers;
      behind = rest.behind ∙ ap (λ z. z ++ rest.numbers) (choose_is keys (name_place n) past p.0 k.0 p.2) ∙ append_assoc past (p.0.0 ∷ []) rest.numbers;
      at = (found, rest.at);
    }

are_at : (text : List ℕ) (cs : List Field) (ns : List Name) (is : List ℕ) → chosen text cs false [] ns ≡ Ok is → AreAt text cs ns is
are_at text cs ns is e = let f = chosen_found text cs false [] ns is e in subst (AreAt text cs ns) (sym f.behind) f.at

-- ---- columns that are left

said_alike : (text : List ℕ) (cs : List Field) (n : Name) (i k : ℕ) (c : Field) → AreDifferent cs → NamedAt cs i (name_said text n) → slice_get cs k ≡ Some c
    → nat_eq i k ≡ same (name_said text n) c.name
said_alike text cs n i k c different at e = by (nat_eq i k) refl where
  by : (b : Bool) → nat_eq i k ≡ b → b ≡ same (name_said text n) c.name
  by true is =
      let one : i ≡ k = eqb-true i k is in
      let here : NamedAt cs k (name_said text n) = subst (λ j. NamedAt cs j (name_said text n)) one at in
      sym (are_same (name_said text n) c.name (sym (named_is cs k (name_said text n) c here e)))
  by false is =
      sym (are_apart (name_said text n) c.name (λ one. eqb-false i k is (same_place cs i k (name_said text n) c different at e (sym one))))

chosen_said : (text : List ℕ) (cs : List Field) (ns : List Name) (is : List ℕ) (k : ℕ) (c : Field) → AreDifferent cs → AreAt text cs ns is
    → slice_get cs k ≡ Some c → has_number is k ≡ is_said text ns c.name
chosen_said text cs [] [] k c different h e = refl
chosen_said text cs [] (i ∷ is) k c different h e = absurd h
chosen_said text cs (n ∷ ns) [] k c different h e = absurd h
chosen_said text cs (n ∷ ns) (i ∷ is) k c different h e =
    ap (λ b. b || has_number is k) (said_alike text cs n i k c different h.0 e)
    ∙ ap (λ b. same (name_said text n) c.name || b) (chosen_said text cs ns is k c different h.1 e)

abbrev stays : List ℕ → List Name → Valued → Bool
stays text ns x = not (is_said text ns (column_of x).name)

abbrev split : List Valued → Columns
split out = (values_of out, columns_of out)

without_left : (text : List ℕ) (ns : List Name) (is : List ℕ) (i : ℕ) (cs : List Field)
    → ((k : ℕ) (c : Field) → slice_get cs k ≡ Some c → has_number is (k + i) ≡ is_said text ns c.name)
    → without i cs is ≡ split (filter (stays text ns) (numbered_from i cs))
without_left text ns is i [] h = refl
without_left text ns is i (c ∷ cs) h = by (has_number is i) (is_said text ns c.name) here (without_left text ns is (suc i) cs later) where
  here : has_number is i ≡ is_said text ns c.name
  here = ap (has_number is) (sym (zero-add i)) ∙ h 0 c refl

  later : (k : ℕ) (d : Field) → slice_get cs k ≡ Some d → has_number is (k + suc i) ≡ is_said text ns d.name
  later k d e = let n : k + suc i ≡ suc k + i = omega arith in ap (has_number is) n ∙ h (suc k) d e

  rest : List Valued
  rest = filter (stays text ns) (numbered_from (suc i) cs)

  put : Columns → Columns
  put p = (column i ∷ p.0, c ∷ p.1)

  by : (a b : Bool) → a ≡ b → without (suc i) cs is ≡ split rest
      → cond a (without (suc i) cs is) (put (without (suc i) cs is)) ≡ split (cond (not b) ((column i, c) ∷ rest) rest)
  by true true e more = more
  by false false e more = ap put more
  by true false e more = absurd (cc)
  by false true e more = absurd (cc)

pub dropped_so : (s : Scoping) (w v : Flowing) (ns : List Name) → AreDifferent (columns w) → dropped s w ns ≡ Ok v → IsMapped w v (left_of s.text ns (columns w))
dropped_so s w v ns different e =
    let cs = columns w in
    let is = then_ok (chosen s.text cs false [] ns) (λ is. done (laid_after w (without 0 cs is))) v e in
    let at = are_at s.text cs ns is.0 is.1 in
    let left = without_left s.text ns is.0 0 cs (λ k c there. ap (has_number is.0) (add-zero k) ∙ chosen_said s.text cs ns is.0 k c different at there) in
    next_mapped w v (without 0 cs is.0).0 (without 0 cs is.0).1 (left_of s.text ns cs) (ap (λ (p : Columns). p.0) left) (ap (λ (p : Columns). p.1) left)
    (done_is (laid_after w (without 0 cs is.0)) v is.2)

-- ---- columns that are renamed

given_names : (text : List ℕ) (taken : List Field) (ns : List Name) (names : List (List ℕ)) → names_given text taken ns ≡ Ok names → names ≡ map (name_said text) ns
given_names text taken [] names e = sym (done_is [] names e)
given_names text taken (n ∷ ns) names e = by (is_taken taken (name_said text n)) (given_names text (taken ++ field (name_said text n) ty.Long ∷ []) ns) e where
  by : (b : Bool)
      → ((more : List (List ℕ)) → names_given text (taken ++ field (name_said text n) ty.Long ∷ []) ns ≡ Ok more → more ≡ map (name_said text) ns)
      → cond {A = Verdict (List (List ℕ))} b (Err (mistyped (name_place n)))
      (and_then (names_given text (taken ++ field (name_said text n) ty.Long ∷ []) ns) (λ more. done (name_said text n ∷ more))) ≡ Ok names
      → names ≡ name_said text n ∷ map (name_said text) ns
  by true less g = absurd (cc)
  by false less g =
      let more = then_ok (names_given text (taken ++ field (name_said text n) ty.Long ∷ []) ns) (λ more. done (name_said text n ∷ more)) names g in
      sym (done_is (name_said text n ∷ more.0) names more.2) ∙ ap (λ (z : List (List ℕ)). name_said text n ∷ z) (less more.0 more.1)

new_none : (is : List ℕ) (names : List (List ℕ)) (k : ℕ) (old : List ℕ) → has_number is k ≡ false → new_name is names k old ≡ old
new_none [] names k old h = refl
new_none (i ∷ is) [] k old h = refl
new_none (i ∷ is) (n ∷ names) k old h =
    let p = neither (nat_eq i k) (has_number is k) h in
    ap (λ b. cond b n (new_name is names k old)) p.0 ∙ new_none is names k old p.1

-- the number of a column whose name one of these says is among theirs
number_there : (text : List ℕ) (cs : List Field) (ps : List Renaming) (is : List ℕ) (j : ℕ) (p : Renaming) (k : ℕ) (c : Field) → AreDifferent cs
    → AreAt text cs (map old_of ps) is → slice_get ps j ≡ Some p → slice_get cs k ≡ Some c → name_said text (old_of p) ≡ c.name → has_number is k ≡ true
number_there text cs [] is j p k c different h at e is_old = absurd (cc)
number_there text cs (q ∷ ps) [] j p k c different h at e is_old = absurd h
number_there text cs (q ∷ ps) (i ∷ is) zero p k c different h at e is_old =
    let one : q ≡ p = cc in
    let said : name_said text (old_of q) ≡ c.name = ap (λ (z : Renaming). name_said text (old_of z)) one ∙ is_old in
    let place : i ≡ k = same_place cs i k (name_said text (old_of q)) c different h.0 e (sym said) in
    or_first (nat_eq i k) (has_number is k) (eq-eqb i k place)
number_there text cs (q ∷ ps) (i ∷ is) (suc j) p k c different h at e is_old =
    or_else (nat_eq i k) (has_number is k) (number_there text cs ps is j p k c different h.1 at e is_old)

new_there : (text : List ℕ) (cs : List Field) (ps : List Renaming) (is : List ℕ) (j : ℕ) (p : Renaming) (k : ℕ) (c : Field) → AreDifferent cs
    → AreAt text cs (map old_of ps) is → Once is → slice_get ps j ≡ Some p → slice_get cs k ≡ Some c → name_said text (old_of p) ≡ c.name
    → new_name is (map (name_said text) (map new_of ps)) k c.name ≡ name_said text (new_of p)
new_there text cs [] is j p k c different h once at e is_old = absurd (cc)
new_there text cs (q ∷ ps) [] j p k c different h once at e is_old = absurd h
new_there text cs (q ∷ ps) (i ∷ is) zero p k c different h once at e is_old =
    let one : q ≡ p = cc in
    let said : name_said text (old_of q) ≡ c.name = ap (λ (z : Renaming). name_said text (old_of z)) one ∙ is_old in
    let place : i ≡ k = same_place cs i k (name_said text (old_of q)) c different h.0 e (sym said) in
    ap (λ b. cond b (name_said text (new_of q)) (new_name is (map (name_said text) (map new_of ps)) k c.name)) (eq-eqb i k place)
    ∙ ap (λ (z : Renaming). name_said text (new_of z)) one
new_there text cs (q ∷ ps) (i ∷ is) (suc j) p k c different h once at e is_old =
    by (nat_eq i k) refl (new_there text cs ps is j p k c different h.1 once.1 at e is_old)
  where
    more : List ℕ
    more = new_name is (map (name_said text) (map new_of ps)) k c.name

    by : (b : Bool) → nat_eq i k ≡ b → more ≡ name_said text (new_of p) → cond b (name_said text (new_of q)) more ≡ name_said text (new_of p)
    by false is_other rest = rest
    by true is_same rest =
        let there = number_there text cs ps is j p k c different h.1 at e is_old in
        let here : has_number is k ≡ false = subst (λ n. has_number is n ≡ false) (eqb-true i k is_same) once.0 in
        absurd (not_both (has_number is k) there here)

-- a number among these is that of a column whose name one of them says
said_there : (text : List ℕ) (cs : List Field) (ps : List Renaming) (is : List ℕ) (k : ℕ) (c : Field) → AreAt text cs (map old_of ps) is
    → slice_get cs k ≡ Some c → has_number is k ≡ true → IsRenamed text ps c.name
said_there text cs [] [] k c h e there = absurd (cc)
said_there text cs [] (i ∷ is) k c h e there = absurd h
said_there text cs (q ∷ ps) [] k c h e there = absurd h
said_there text cs (q ∷ ps) (i ∷ is) k c h e there = by (nat_eq i k) refl there (said_there text cs ps is k c h.1 e) where
  by : (b : Bool) → nat_eq i k ≡ b → (b || has_number is k) ≡ true → (has_number is k ≡ true → IsRenamed text ps c.name) → IsRenamed text (q ∷ ps) c.name
  by true is_same more rest =
      let here : NamedAt cs k (name_said text (old_of q)) = subst (λ n. NamedAt cs n (name_said text (old_of q))) (eqb-true i k is_same) h.0 in
      record { renaming = q; among = record { number = 0; there = refl }; so = sym (named_is cs k (name_said text (old_of q)) c here e) }
  by false is_other more rest =
      let r = rest more in
      record { renaming = r.renaming; among = record { number = suc r.among.number; there = r.among.there }; so = r.so }

renamed_at : (i : ℕ) (cs : List Field) (is : List ℕ) (names : List (List ℕ)) (k : ℕ) (c : Field) → slice_get cs k ≡ Some c
    → slice_get (renamed i cs is names) k ≡ Some (field (new_name is names (k + i) c.name) c.ty)
renamed_at i [] is names k c e = absurd (cc)
renamed_at i (d ∷ cs) is names zero c e =
    let one : d ≡ c = cc in
    ap (λ (z : Field). let o : Option Field = Some (field (new_name is names i z.name) z.ty) in o) one
    ∙ ap (λ j. let o : Option Field = Some (field (new_name is names j c.name) c.ty) in o) (sym (zero-add i))
renamed_at i (d ∷ cs) is names (suc k) c e =
    let n : k + suc i ≡ suc k + i = omega arith in
    renamed_at (suc i) cs is names k c e ∙ ap (λ j. let o : Option Field = Some (field (new_name is names j c.name) c.ty) in o) n

renamed_here : (cs : List Field) (is : List ℕ) (names : List (List ℕ)) (k : ℕ) (c : Field) (name : List ℕ) → slice_get cs k ≡ Some c
    → new_name is names k c.name ≡ name → slice_get (renamed 0 cs is names) k ≡ Some (field name c.ty)
renamed_here cs is names k c name e new =
    renamed_at 0 cs is names k c e ∙ ap (λ j. let o : Option Field = Some (field (new_name is names j c.name) c.ty) in o) (add-zero k)
    ∙ ap (λ z. let o : Option Field = Some (field z c.ty) in o) new

renamed_length : (i : ℕ) (cs : List Field) (is : List ℕ) (names : List (List ℕ)) → length (renamed i cs is names) ≡ length cs
renamed_length i [] is names = refl
renamed_length i (c ∷ cs) is names = ap (λ n. suc n) (renamed_length (suc i) cs is names)

are_renamed : (text : List ℕ) (cs : List Field) (ps : List Renaming) (is : List ℕ) (names : List (List ℕ)) → AreDifferent cs
    → chosen text cs false [] (map old_of ps) ≡ Ok is → names_given text (without 0 cs is).1 (map new_of ps) ≡ Ok names
    → AreRenamed text cs ps (renamed 0 cs is names)
are_renamed text cs ps is names different e f =
    let at = are_at text cs (map old_of ps) is e in
    let once = chosen_once text cs false [] (map old_of ps) is tt e in
    let said = given_names text (without 0 cs is).1 (map new_of ps) names f in
    let many = chosen_length text cs false [] (map old_of ps) is e in
    let long : length (map new_of ps) ≡ length is = omega (arith, many, length-map ps old_of, length-map ps new_of) in
    record {
      all = renamed_length 0 cs is names;
      kept = λ k c there none.
          let free : has_number is k ≡ false = is_false (has_number is k) (λ has. none (said_there text cs ps is k c at there has)) in
          renamed_here cs is names k c c.name there (new_none is names k c.name free);
      renamed = λ k c p there has old.
          let new = new_there text cs ps is has.number p k c different at once has.there there old in
          renamed_here cs is names k c (name_said text (new_of p)) there (ap (λ (z : List (List ℕ)). new_name is z k c.name) said ∙ new);
      different = apart_different (renamed 0 cs is names) (renamed_apart text cs is (map new_of ps) names long f (different_apart cs different));
    }

pub renamed_so : (s : Scoping) (w v : Flowing) (ps : List Renaming) → AreDifferent (columns w) → renamed_by s w ps ≡ Ok v → HasRenamed s.text w v ps
renamed_so s w v ps different e =
    let cs = columns w in
    let put = λ (is : List ℕ) (names : List (List ℕ)). after w (λ i. mapped i (as_they_are 0 cs)) (renamed 0 cs is names) in
    let is = then_ok (chosen s.text cs false [] (map old_of ps))
    (λ is. and_then (names_given s.text (without 0 cs is).1 (map new_of ps)) (λ names. done (put is names))) v e in
    let names = then_ok (names_given s.text (without 0 cs is.0).1 (map new_of ps)) (λ names. done (put is.0 names)) v is.2 in
    let next = next_following w.progress v (mapped w.input (as_they_are 0 cs)) (renamed 0 cs is.0 names.0) (done_is (put is.0 names.0) v names.2) in
    record {
      out = renamed 0 cs is.0 names.0;
      are = are_renamed s.text cs ps is.0 names.0 different is.1 names.1;
      next = subst (λ (z : List Term). HasNext w.progress v (mapped w.input z) (renamed 0 cs is.0 names.0)) (sym (numbered_values 0 cs)) next;
    }
