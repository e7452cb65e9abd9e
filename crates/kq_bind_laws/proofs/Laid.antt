-- What an extend lays over the columns that came stands in their places, or behind them.
use Rattle.std.proofs.Common.{◌≡◌, ◌≢◌, ℕ, zero, suc, ◌+◌, Bool, true, false, ◌||◌, not, cond, List, [], ◌∷◌, ◌++◌, length, map, drop, Option, Some, None, Ok, refl, sym, ap, ◌∙◌, subst, arith, append_assoc, append-nil, add-zero, zero-add}
use Rattle.std.specs.Prelude.{slice_get, slice_set}
use Rattle.std.specs.List.{filter, zip}
use Rattle.std.proofs.lemmas.List.{map-append}
use Rattle.kq_bind_query.specs.kq_bind_operators.Flows.{Flowing, columns}
use Rattle.kq_bind_query.specs.kq_bind_operators.Operators.{laid_after, extended}
use Rattle.kq_bind_query.specs.kq_bind_operators.Scopes.{Scoping, names}
use Rattle.kq_bind_columns.specs.Items.{Making, nothing_made, items_made}
use Rattle.kq_bind_columns.specs.Laying.{Columns, as_they_are, laid_at, all_laid, over}
use Rattle.kq_bind_columns.specs.Naming.{is_taken}
use Rattle.kq_bind_expressions.specs.Lookup.{first_named}
use Rattle.kq_plan_expressions.specs.Terms.{Term, column}
use Rattle.kq_read_grammar.specs.Trees.{ItemTree}
use Rattle.kq_value.specs.declared.schema.Field.{Field}
use Rattle.kq_value.specs.declared.ty.Ty.{Ty}
use Rattle.kq_bind_query.specs.Different.{AreDifferent}
use Rattle.kq_bind_query.proofs.Apart.{same, not_both, are_same, are_apart, neither, or_else, or_first, taken_append, there_taken, Apart, apart_behind, different_apart, NamedAt, set_apart, found_named, unfound}
use Rattle.kq_bind_query.proofs.Progress.{then_ok, done, done_is}
use Rattle.kq_bind_laws.specs.Columns.{Valued, value_of, column_of, values_of, columns_of, numbered_from}
use Rattle.kq_bind_laws.specs.Extended.{is_new, IsLaid, IsExtended}
use Rattle.kq_bind_laws.specs.Items.{AreFew}
use Rattle.kq_bind_laws.proofs.Items.{items_are}
use Rattle.kq_bind_laws.proofs.Names.{unnamed_free}
use Rattle.kq_bind_laws.proofs.Steps.{next_mapped, numbered_columns, numbered_values}

-- ---- names

named_there : (cs : List Field) (i : ℕ) (name : List ℕ) → NamedAt cs i name → is_taken cs name ≡ true
named_there [] i name h = absurd h
named_there (c ∷ cs) zero name h = or_first (same c.name name) (is_taken cs name) (are_same c.name name h)
named_there (c ∷ cs) (suc i) name h = or_else (same c.name name) (is_taken cs name) (named_there cs i name h)

taken_set : (cs : List Field) (i : ℕ) (f : Field) (name : List ℕ) → NamedAt cs i f.name → is_taken (slice_set cs i f) name ≡ is_taken cs name
taken_set [] i f name h = absurd h
taken_set (c ∷ cs) zero f name h = ap (λ n. same n name || is_taken cs name) (sym h)
taken_set (c ∷ cs) (suc i) f name h = ap (λ b. same c.name name || b) (taken_set cs i f name h)

names_differ : (cs : List Field) (a b : List ℕ) → is_taken cs a ≡ true → is_taken cs b ≡ false → a ≢ b
names_differ cs a b t f e = not_both (is_taken cs b) (subst (λ n. is_taken cs n ≡ true) e t) f

-- ---- what stands in the place of a column

abbrev name_of : Valued → List ℕ
name_of x = (column_of x).name

-- the first of these of its name, or else itself
abbrev instead : List Valued → Valued → Valued
instead [] y = y
instead (x ∷ xs) y = cond (same (name_of x) (name_of y)) x (instead xs y)

instead_none : (xs : List Valued) (y : Valued) → is_taken (columns_of xs) (name_of y) ≡ false → instead xs y ≡ y
instead_none [] y h = refl
instead_none (x ∷ xs) y h =
    let p = neither (same (name_of x) (name_of y)) (is_taken (columns_of xs) (name_of y)) h in
    ap (λ b. cond b x (instead xs y)) p.0 ∙ instead_none xs y p.1

column_there : (xs : List Valued) (j : ℕ) (x : Valued) → slice_get xs j ≡ Some x → slice_get (columns_of xs) j ≡ Some (column_of x)
column_there [] j x e = absurd (cc)
column_there (y ∷ xs) zero x e = let is : y ≡ x = cc in ap (λ (z : Valued). Some (column_of z)) is
column_there (y ∷ xs) (suc j) x e = column_there xs j x e

instead_one : (xs : List Valued) (y x : Valued) (j : ℕ) → slice_get xs j ≡ Some x → Apart (columns_of xs) → name_of x ≡ name_of y → instead xs y ≡ x
instead_one [] y x j e h name = absurd (cc)
instead_one (z ∷ xs) y x zero e h name =
    let is : z ≡ x = cc in
    let one : name_of z ≡ name_of y = ap name_of is ∙ name in
    ap (λ b. cond b z (instead xs y)) (are_same (name_of z) (name_of y) one) ∙ is
instead_one (z ∷ xs) y x (suc j) e h name =
    let there : is_taken (columns_of xs) (name_of x) ≡ true = there_taken (columns_of xs) j (column_of x) (column_there xs j x e) in
    let other : name_of z ≢ name_of y = λ one. names_differ (columns_of xs) (name_of x) (name_of z) there h.0 (name ∙ sym one) in
    ap (λ b. cond b z (instead xs y)) (are_apart (name_of z) (name_of y) other) ∙ instead_one xs y x j e h.1 name

-- ---- all of it

abbrev stand : List Valued → List Valued → List Valued
stand xs out = map (instead xs) out

abbrev lay : List Valued → List Valued → List Valued
lay xs out = stand xs out ++ filter (is_new (columns_of out)) xs

stand_more : (x : Valued) (xs out : List Valued) → is_taken (columns_of out) (name_of x) ≡ false → stand xs out ≡ stand (x ∷ xs) out
stand_more x xs [] h = refl
stand_more x xs (y ∷ out) h =
    let p = neither (same (name_of y) (name_of x)) (is_taken (columns_of out) (name_of x)) h in
    let turned : same (name_of x) (name_of y) ≡ false =
    are_apart (name_of x) (name_of y) (λ e. not_both (same (name_of y) (name_of x)) (are_same (name_of y) (name_of x) (sym e)) p.0) in
    let here : instead xs y ≡ instead (x ∷ xs) y = ap (λ b. cond b x (instead xs y)) (sym turned) in
    ap (λ z. z ∷ stand xs out) here ∙ ap (λ (z : List Valued). instead (x ∷ xs) y ∷ z) (stand_more x xs out p.1)

stand_set : (x : Valued) (xs out : List Valued) (k : ℕ) → NamedAt (columns_of out) k (name_of x) → Apart (columns_of out)
    → is_taken (columns_of xs) (name_of x) ≡ false → stand xs (slice_set out k x) ≡ stand (x ∷ xs) out
stand_set x xs [] k at h free = absurd at
stand_set x xs (y ∷ out) zero at h free =
    let none : is_taken (columns_of out) (name_of x) ≡ false = subst (λ n. is_taken (columns_of out) n ≡ false) at h.0 in
    let here : instead xs x ≡ instead (x ∷ xs) y =
    instead_none xs x free ∙ ap (λ b. cond b x (instead xs y)) (sym (are_same (name_of x) (name_of y) (sym at))) in
    ap (λ z. z ∷ stand xs out) here ∙ ap (λ (z : List Valued). instead (x ∷ xs) y ∷ z) (stand_more x xs out none)
stand_set x xs (y ∷ out) (suc k) at h free =
    let other : name_of x ≢ name_of y = names_differ (columns_of out) (name_of x) (name_of y) (named_there (columns_of out) k (name_of x) at) h.0 in
    let here : instead xs y ≡ instead (x ∷ xs) y = ap (λ b. cond b x (instead xs y)) (sym (are_apart (name_of x) (name_of y) other)) in
    ap (λ z. z ∷ stand xs (slice_set out k x)) here ∙ ap (λ (z : List Valued). instead (x ∷ xs) y ∷ z) (stand_set x xs out k at h.1 free)

-- items that the columns tell alike are new alike
new_same : (cs ds : List Field) (xs : List Valued) → ((name : List ℕ) → is_taken cs name ≡ is_taken ds name) → filter (is_new cs) xs ≡ filter (is_new ds) xs
new_same cs ds [] h = refl
new_same cs ds (x ∷ xs) h =
    ap (λ b. cond (not b) (x ∷ filter (is_new cs) xs) (filter (is_new cs) xs)) (h (name_of x))
    ∙ ap (λ (z : List Valued). cond (is_new ds x) (x ∷ z) z) (new_same cs ds xs h)

-- another name more is as good as none
new_more : (cs : List Field) (f : Field) (xs : List Valued) → is_taken (columns_of xs) f.name ≡ false → filter (is_new (cs ++ f ∷ [])) xs ≡ filter (is_new cs) xs
new_more cs f [] h = refl
new_more cs f (x ∷ xs) h =
    let p = neither (same (name_of x) f.name) (is_taken (columns_of xs) f.name) h in
    let other : same f.name (name_of x) ≡ false =
    are_apart f.name (name_of x) (λ e. not_both (same (name_of x) f.name) (are_same (name_of x) f.name (sym e)) p.0) in
    let told : is_taken (cs ++ f ∷ []) (name_of x) ≡ is_taken cs (name_of x) =
    taken_append cs (f ∷ []) (name_of x) ∙ ap (λ b. is_taken cs (name_of x) || (b || false)) other ∙ or_none (is_taken cs (name_of x)) in
    ap (λ b. cond (not b) (x ∷ filter (is_new (cs ++ f ∷ [])) xs) (filter (is_new (cs ++ f ∷ [])) xs)) told
    ∙ ap (λ (z : List Valued). cond (is_new cs x) (x ∷ z) z) (new_more cs f xs p.1)
  where
    or_none : (b : Bool) → (b || false) ≡ b
    or_none true = refl
    or_none false = refl

-- ---- one after another

abbrev split : List Valued → Columns
split out = (values_of out, columns_of out)

split_set : (out : List Valued) (k : ℕ) (x : Valued) → laid_at (split out) x (Some (k, (column_of x).ty)) ≡ split (slice_set out k x)
split_set [] k x = refl
split_set (y ∷ out) zero x = refl
split_set (y ∷ out) (suc k) x =
    let put : Columns → Columns = λ p. (value_of y ∷ p.0, column_of y ∷ p.1) in ap put (split_set out k x)

split_behind : (out : List Valued) (x : Valued) → laid_at (split out) x None ≡ split (out ++ x ∷ [])
split_behind [] x = refl
split_behind (y ∷ out) x = let put : Columns → Columns = λ p. (value_of y ∷ p.0, column_of y ∷ p.1) in ap put (split_behind out x)

stand_none : (out : List Valued) → stand [] out ≡ out
stand_none [] = refl
stand_none (y ∷ out) = ap (λ (z : List Valued). y ∷ z) (stand_none out)

columns_set : (out : List Valued) (k : ℕ) (x : Valued) → columns_of (slice_set out k x) ≡ slice_set (columns_of out) k (column_of x)
columns_set out k x = ap (λ (p : Columns). p.1) (sym (split_set out k x))

columns_behind : (out : List Valued) (x : Valued) → columns_of (out ++ x ∷ []) ≡ columns_of out ++ column_of x ∷ []
columns_behind out x = ap (λ (p : Columns). p.1) (sym (split_behind out x))

-- an item that names a column
lay_set : (x : Valued) (xs out : List Valued) (k : ℕ) → NamedAt (columns_of out) k (name_of x) → Apart (columns_of out)
    → is_taken (columns_of xs) (name_of x) ≡ false → lay xs (slice_set out k x) ≡ lay (x ∷ xs) out
lay_set x xs out k at h free =
    let told : (name : List ℕ) → is_taken (columns_of (slice_set out k x)) name ≡ is_taken (columns_of out) name =
    λ name. ap (λ cs. is_taken cs name) (columns_set out k x) ∙ taken_set (columns_of out) k (column_of x) name at in
    let old : is_taken (columns_of out) (name_of x) ≡ true = named_there (columns_of out) k (name_of x) at in
    ap (λ (z : List Valued). z ++ filter (is_new (columns_of (slice_set out k x))) xs) (stand_set x xs out k at h free)
    ∙ ap (λ (z : List Valued). stand (x ∷ xs) out ++ z) (new_same (columns_of (slice_set out k x)) (columns_of out) xs told)
    ∙ ap (λ b. stand (x ∷ xs) out ++ cond (not b) (x ∷ filter (is_new (columns_of out)) xs) (filter (is_new (columns_of out)) xs)) (sym old)

-- one that names none
lay_behind : (x : Valued) (xs out : List Valued) → is_taken (columns_of out) (name_of x) ≡ false → is_taken (columns_of xs) (name_of x) ≡ false
    → lay xs (out ++ x ∷ []) ≡ lay (x ∷ xs) out
lay_behind x xs out new free =
    let front : stand xs (out ++ x ∷ []) ≡ stand (x ∷ xs) out ++ x ∷ [] =
    map-append (instead xs) out (x ∷ []) ∙ ap (λ z. stand xs out ++ z ∷ []) (instead_none xs x free)
    ∙ ap (λ (z : List Valued). z ++ x ∷ []) (stand_more x xs out new) in
    let back : filter (is_new (columns_of (out ++ x ∷ []))) xs ≡ filter (is_new (columns_of out)) xs =
    ap (λ (cs : List Field). filter (is_new cs) xs) (columns_behind out x) ∙ new_more (columns_of out) (column_of x) xs free in
    ap (λ (z : List Valued). z ++ filter (is_new (columns_of (out ++ x ∷ []))) xs) front
    ∙ ap (λ (z : List Valued). (stand (x ∷ xs) out ++ x ∷ []) ++ z) back
    ∙ append_assoc (stand (x ∷ xs) out) (x ∷ []) (filter (is_new (columns_of out)) xs)
    ∙ ap (λ b. stand (x ∷ xs) out ++ cond (not b) (x ∷ filter (is_new (columns_of out)) xs) (filter (is_new (columns_of out)) xs)) (sym new)

all_lay : (out xs : List Valued) → Apart (columns_of out) → Apart (columns_of xs) → all_laid (split out) xs ≡ split (lay xs out)
all_lay out [] h apart = ap split (sym (append-nil (stand [] out) ∙ stand_none out))
all_lay out (x ∷ xs) h apart =
    by (first_named 0 (columns_of out) (name_of x)) refl (λ (o : List Valued) (g : Apart (columns_of o)). all_lay o xs g apart.1)
  where
    by : (o : Option (ℕ × Ty)) → first_named 0 (columns_of out) (name_of x) ≡ o
        → ((o : List Valued) → Apart (columns_of o) → all_laid (split o) xs ≡ split (lay xs o))
        → all_laid (laid_at (split out) x (first_named 0 (columns_of out) (name_of x))) xs ≡ split (lay (x ∷ xs) out)
    by (Some k) is rest =
        let at = found_named (columns_of out) (name_of x) k is in
        let next : Apart (columns_of (slice_set out k.0 x)) =
        subst Apart (sym (columns_set out k.0 x)) (set_apart (columns_of out) k.0 (column_of x) at h) in
        ap (λ o. all_laid (laid_at (split out) x o) xs) is ∙ ap (λ p. all_laid p xs) (split_set out k.0 x)
        ∙ rest (slice_set out k.0 x) next ∙ ap split (lay_set x xs out k.0 at h apart.0)
    by None is rest =
        let new = unfound (columns_of out) (name_of x) is in
        let next : Apart (columns_of (out ++ x ∷ [])) = subst Apart (sym (columns_behind out x)) (apart_behind (columns_of out) (column_of x) h new) in
        ap (λ o. all_laid (laid_at (split out) x o) xs) is ∙ ap (λ p. all_laid p xs) (split_behind out x)
        ∙ rest (out ++ x ∷ []) next ∙ ap split (lay_behind x xs out new apart.0)

-- ---- over the columns that came

zip_split : (xs : List Valued) → zip (values_of xs) (columns_of xs) ≡ xs
zip_split [] = refl
zip_split (x ∷ xs) = ap (λ (z : List Valued). x ∷ z) (zip_split xs)

over_split : (cs : List Field) (m : Making) (xs : List Valued) → AreDifferent cs → Apart (columns_of xs) → m.terms ≡ values_of xs → m.fields ≡ columns_of xs
    → over cs m ≡ split (lay xs (numbered_from 0 cs))
over_split cs m xs different apart terms fields =
    let begun : Columns = (as_they_are 0 cs, cs) in
    let start : begun ≡ split (numbered_from 0 cs) =
    ap (λ (z : List Term). let p : Columns = (z, cs) in p) (sym (numbered_values 0 cs))
    ∙ ap (λ (z : List Field). let p : Columns = (values_of (numbered_from 0 cs), z) in p) (sym (numbered_columns 0 cs)) in
    let laid_out : zip m.terms m.fields ≡ xs =
    ap (λ (z : List Term). zip z m.fields) terms ∙ ap (λ (z : List Field). zip (values_of xs) z) fields ∙ zip_split xs in
    let h : Apart (columns_of (numbered_from 0 cs)) = subst Apart (sym (numbered_columns 0 cs)) (different_apart cs different) in
    ap (λ (z : List Valued). all_laid begun z) laid_out ∙ ap (λ (p : Columns). all_laid p xs) start
    ∙ all_lay (numbered_from 0 cs) xs h apart

-- ---- each place

placed : (g : Valued → Valued) (more : List Valued) (i : ℕ) (cs : List Field) (k : ℕ) (c : Field) → slice_get cs k ≡ Some c
    → slice_get (map g (numbered_from i cs) ++ more) k ≡ Some (g (column (k + i), c))
placed g more i [] k c e = absurd (cc)
placed g more i (d ∷ cs) zero c e =
    let is : d ≡ c = cc in
    let n : i ≡ 0 + i = sym (zero-add i) in
    ap (λ (z : Field). let o : Option Valued = Some (g (column i, z)) in o) is ∙ ap (λ j. let o : Option Valued = Some (g (column j, c)) in o) n
placed g more i (d ∷ cs) (suc k) c e =
    let n : k + suc i ≡ suc k + i = omega arith in
    placed g more (suc i) cs k c e ∙ ap (λ j. let o : Option Valued = Some (g (column j, c)) in o) n

placed_first : (g : Valued → Valued) (more : List Valued) (cs : List Field) (k : ℕ) (c : Field) → slice_get cs k ≡ Some c
    → slice_get (map g (numbered_from 0 cs) ++ more) k ≡ Some (g (column k, c))
placed_first g more cs k c e =
    placed g more 0 cs k c e ∙ ap (λ j. let o : Option Valued = Some (g (column j, c)) in o) (add-zero k)

dropped : (g : Valued → Valued) (more : List Valued) (i : ℕ) (cs : List Field) → drop (length cs) (map g (numbered_from i cs) ++ more) ≡ more
dropped g more i [] = refl
dropped g more i (c ∷ cs) = dropped g more (suc i) cs

is_laid : (cs : List Field) (xs : List Valued) → Apart (columns_of xs) → IsLaid cs xs (lay xs (numbered_from 0 cs))
is_laid cs xs apart =
    let more = filter (is_new (columns_of (numbered_from 0 cs))) xs in
    let some : Valued → Option Valued = λ z. Some z in
    record {
      kept = λ k c e none. placed_first (instead xs) more cs k c e ∙ ap some (instead_none xs (column k, c) (unnamed_free (columns_of xs) c.name none));
      replaced = λ k c x e has name. placed_first (instead xs) more cs k c e ∙ ap some (instead_one xs (column k, c) x has.number has.there apart name);
      added = dropped (instead xs) more 0 cs ∙ ap (λ (z : List Field). filter (is_new z) xs) (numbered_columns 0 cs);
    }

-- ---- extend

pub extended_so : (s : Scoping) (w v : Flowing) (is : List ItemTree) → AreDifferent (columns w) → AreFew is (columns w) → extended s w is ≡ Ok v → IsExtended s w v is
extended_so s w v is different few e =
    let cs = columns w in
    let m = then_ok (items_made (names s) cs cs false nothing_made is) (λ m. done (laid_after w (over cs m))) v e in
    let made = items_are (names s) cs cs false is m.0 few m.1 in
    let out = lay made.made (numbered_from 0 cs) in
    let over_is = over_split cs m.0 made.made different made.apart made.terms made.fields in
    record {
      made = made.made;
      are = made.are;
      out = out;
      laid = is_laid cs made.made made.apart;
      next = next_mapped w v (over cs m.0).0 (over cs m.0).1 out (ap (λ (p : Columns). p.0) over_is) (ap (λ (p : Columns). p.1) over_is)
          (done_is (laid_after w (over cs m.0)) v m.2);
    }
