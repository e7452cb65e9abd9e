-- Expanded rows are typed.
use Rattle.std.proofs.Common.{◌≡◌, ℕ, zero, suc, Bool, true, false, cond, nat_lt, Option, Some, None, List, [], ◌∷◌, ◌++◌, length, get_or, set, map, refl, sym, subst, arith}
use Rattle.std.specs.List.{All}
use Rattle.std.proofs.lemmas.Bool.Decides.{nat_tests}
use Rattle.std.proofs.lemmas.List.Elements.{All-append, All-cons, All-map, All-nil}
use Rattle.kq_value_conversions.proofs.Typing.{as_text-typed, as_long-typed, as_int-typed, as_bool-typed, as_moment-typed, as_span-typed, as_dynamic-typed}
use Rattle.kq_plan.specs.Fits.{part_type, ty_of, types_with}
use Rattle.kq_value.specs.declared.dynamic.Dyn.TheVariants as dyn
use Rattle.kq_value.specs.declared.schema.Field.{Field}
use Rattle.kq_value.specs.declared.ty.Ty.{Ty}
use Rattle.kq_value.specs.declared.ty.Ty.TheVariants as ty
use Rattle.kq_value.specs.declared.value.Value.{Value}
use Rattle.kq_value.specs.declared.value.Value.TheVariants.{Dynamic}
use Rattle.kq_value.specs.Seen.{tree_of}
use Rattle.kq_value.specs.Tree.{Tree, array, bag, items_of}
use Rattle.kq_value.specs.Typed.{HasType, HasTypes}
use Rattle.kq_run_reshape.specs.MvExpand.{as_value, expanded, or_null, part_as, parts, parts_of, single_entries, with_cell, with_parts}

-- ---- the parts

values_dynamic : (ts : List Tree) → All (HasType ty.Dynamic) (map as_value ts)
values_dynamic ts = All-map (HasType ty.Dynamic) as_value ts (λ k d h. (refl, tt))

or_null_dynamic : (vs : List Value) → All (HasType ty.Dynamic) vs → All (HasType ty.Dynamic) (or_null vs)
or_null_dynamic [] h = All-cons (HasType ty.Dynamic) (Dynamic dyn.Null) [] (refl, tt) (All-nil (HasType ty.Dynamic))
or_null_dynamic (v ∷ vs) h = h

only_dynamic : (v : Value) → HasType ty.Dynamic v → All (HasType ty.Dynamic) (v ∷ [])
only_dynamic v h = All-cons (HasType ty.Dynamic) v [] h (All-nil (HasType ty.Dynamic))

tree_parts : (t : Tree) → All (HasType ty.Dynamic) (parts t)
tree_parts (array ts) = or_null_dynamic (map as_value (items_of ts)) (values_dynamic (items_of ts))
tree_parts (bag es) = or_null_dynamic (map as_value (single_entries es)) (values_dynamic (single_entries es))
tree_parts t = only_dynamic (as_value t) (refl, tt)

parts_dynamic : (v : Value) → HasType ty.Dynamic v → All (HasType ty.Dynamic) (parts_of v)
parts_dynamic (Dynamic d) h = tree_parts (tree_of d)
parts_dynamic v h = only_dynamic v h

part_typed : (t : Option Ty) (v : Value) → HasType ty.Dynamic v → HasType (part_type t) (part_as t v)
part_typed None v h = h
part_typed (Some ty.Long) v h = as_long-typed v
part_typed (Some ty.Int) v h = as_int-typed v
part_typed (Some ty.Text) v h = as_text-typed v
part_typed (Some ty.Bool) v h = as_bool-typed v
part_typed (Some ty.Moment) v h = as_moment-typed v h.1
part_typed (Some ty.Span) v h = as_span-typed v
part_typed (Some ty.Dynamic) v h = as_dynamic-typed v

-- ---- the rows

same_types : (fs gs : List Field) (row : List Value) → map ty_of fs ≡ map ty_of gs → HasTypes gs row → HasTypes fs row
same_types [] [] row e h = h
same_types [] (g ∷ gs) row e h = absurd (cc)
same_types (f ∷ fs) [] row e h = absurd (cc)
same_types (f ∷ fs) (g ∷ gs) [] e h = absurd h
same_types (f ∷ fs) (g ∷ gs) (v ∷ row) e h =
    let first : g.ty ≡ f.ty = cc in
    let rest : map ty_of fs ≡ map ty_of gs = cc in
    (subst (λ (t : Ty). HasType t v) first h.0, same_types fs gs row rest h.1)

behind : (b : Bool) (w : Value) (xs ys : List Value) → cond b (w ∷ xs) (w ∷ ys) ≡ w ∷ cond b xs ys
behind true w xs ys = refl
behind false w xs ys = refl

none_below : (at : ℕ) → nat_lt at 0 ≡ false
none_below at = grind (arith, nat_tests)

first_within : (n : ℕ) → nat_lt 0 (suc n) ≡ true
first_within n = grind (arith, nat_tests)

next_within : (at n : ℕ) → nat_lt (suc at) (suc n) ≡ nat_lt at n
next_within at n = grind (arith, nat_tests)

alone_typed : (u : Ty) (cs : List Field) (v : Value) → map ty_of cs ≡ u ∷ [] → HasType u v → HasTypes cs (v ∷ [])
alone_typed u [] v e h = absurd (cc)
alone_typed u (c ∷ []) v e h = let same : u ≡ c.ty = cc in (subst (λ (t : Ty). HasType t v) same h, tt)
alone_typed u (c ∷ d ∷ cs) v e h = absurd (cc)

cell_put_typed : (from cs : List Field) (row : List Value) (at : ℕ) (u : Ty) (v : Value) → HasTypes from row → HasType u v → map ty_of cs ≡ types_with (map ty_of from) at u → HasTypes cs (with_cell row at v)
cell_put_typed [] cs [] at u v h p e = subst (λ (b : Bool). HasTypes cs (cond b (set [] at v) (v ∷ []))) (sym (none_below at)) (alone_typed u cs v e p)
cell_put_typed [] cs (w ∷ row) at u v h p e = absurd h
cell_put_typed (f ∷ from) cs [] at u v h p e = absurd h
cell_put_typed (f ∷ from) [] (w ∷ row) zero u v h p e = absurd (cc)
cell_put_typed (f ∷ from) (c ∷ cs) (w ∷ row) zero u v h p e =
    let first : u ≡ c.ty = cc in
    let rest : map ty_of cs ≡ map ty_of from = cc in
    subst (λ (b : Bool). HasTypes (c ∷ cs) (cond b (v ∷ row) (w ∷ (row ++ v ∷ [])))) (sym (first_within (length row)))
    (subst (λ (t : Ty). HasType t v) first p, same_types cs from row rest h.1)
cell_put_typed (f ∷ from) [] (w ∷ row) (suc at) u v h p e = absurd (cc)
cell_put_typed (f ∷ from) (c ∷ cs) (w ∷ row) (suc at) u v h p e =
    let first : f.ty ≡ c.ty = cc in
    let rest : map ty_of cs ≡ types_with (map ty_of from) at u = cc in
    subst (λ (b : Bool). HasTypes (c ∷ cs) (cond b (w ∷ set row at v) (w ∷ (row ++ v ∷ [])))) (sym (next_within at (length row)))
    (subst (HasTypes (c ∷ cs)) (sym (behind (nat_lt at (length row)) w (set row at v) (row ++ v ∷ [])))
    (subst (λ (t : Ty). HasType t w) first h.0, cell_put_typed from cs row at u v h.1 p rest))

row_typed : (from cs : List Field) (at : ℕ) (t : Option Ty) (row : List Value) (v : Value) → map ty_of cs ≡ types_with (map ty_of from) at (part_type t)
    → HasTypes from row → HasType ty.Dynamic v → All (HasTypes cs) (with_parts at t row v)
row_typed from cs at t row v fit h p = All-map (HasTypes cs) (λ q. with_cell row at (part_as t q)) (parts_of v)
    (λ k d within. cell_put_typed from cs row at (part_type t) (part_as t (get_or (parts_of v) k d)) h (part_typed t (get_or (parts_of v) k d) (parts_dynamic v p k d within)) fit)

pub expand_typed : (from cs : List Field) (at : ℕ) (t : Option Ty) (rows : List (List Value)) (values : List Value) → map ty_of cs ≡ types_with (map ty_of from) at (part_type t)
    → All (HasTypes from) rows → All (HasType ty.Dynamic) values → All (HasTypes cs) (expanded at t rows values)
expand_typed from cs at t [] values fit h p = All-nil (HasTypes cs)
expand_typed from cs at t (r ∷ rows) [] fit h p = All-nil (HasTypes cs)
expand_typed from cs at t (r ∷ rows) (v ∷ values) fit h p =
    All-append (HasTypes cs) (with_parts at t r v) (expanded at t rows values) (row_typed from cs at t r v fit (h 0 r (omega arith)) (p 0 v (omega arith)))
    (expand_typed from cs at t rows values fit (λ k d within. h (suc k) d (omega arith)) (λ k d within. p (suc k) d (omega arith)))
