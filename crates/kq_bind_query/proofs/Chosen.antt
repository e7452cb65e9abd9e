-- Columns that are chosen by their names are there, and as keys no dynamics.
use Rattle.std.proofs.Common.{◌≡◌, ◌≢◌, ℕ, zero, suc, Bool, true, false, ◌||◌, ◌&&◌, cond, List, [], ◌∷◌, ◌++◌, All, Option, Some, Ok, Err, refl, sym, ap, ◌∙◌, subst}
use Rattle.std.specs.Prelude.{slice_get}
use Rattle.std.proofs.lemmas.List.Elements.{All-nil, All-cons}
use Rattle.kq_bind_columns.specs.Chosen.{has_number, place_in, choose, chosen, if_there, columns_at, all_chosen}
use Rattle.kq_bind_expressions.specs.Verdicts.{Verdict, and_then, mistyped}
use Rattle.kq_read_grammar.specs.declared.expression.Name.{Name}
use Rattle.kq_plan.specs.Fits.{type_at, HaveTypes}
use Rattle.kq_read_meanings.specs.Names.{name_place}
use Rattle.kq_value.specs.declared.schema.Field.{Field}
use Rattle.kq_value.specs.declared.ty.Ty.{Ty}
use Rattle.kq_value.specs.declared.ty.Ty.TheVariants as ty
use Rattle.kq_value.specs.Ty.{same_ty}
use Rattle.kq_bind_query.proofs.Progress.{then_ok, done, done_is}
use Rattle.kq_bind_query.proofs.Columns.{IsNoDynamic, IfKey, StandAt, stand_next, stands_first, stand_all, differs, place_found, place_type}

-- ---- columns of numbers

-- there is a column of each of these numbers, and as a key it is no dynamic
abbrev pub AreThere : List Field → Bool → List ℕ → Type 0
AreThere cs keys [] = Unit {0}
AreThere cs keys (i ∷ is) = (t : Ty) × (type_at cs i ≡ Some t) × IfKey keys t × AreThere cs keys is

pub there_behind : (cs : List Field) (keys : Bool) (is js : List ℕ) → AreThere cs keys is → AreThere cs keys js → AreThere cs keys (is ++ js)
there_behind cs keys [] js h k = k
there_behind cs keys (i ∷ is) js h k = (h.0, h.1, h.2, there_behind cs keys is js h.3 k)

types_at : (cs : List Field) (i : ℕ) (t : Ty) → type_at cs i ≡ Some t → (c : Field) × (slice_get cs i ≡ Some c) × (c.ty ≡ t)
types_at [] i t e = absurd (cc)
types_at (c ∷ cs) zero t e = (c, refl, (cc))
types_at (c ∷ cs) (suc i) t e = types_at cs i t e

pub columns_typed : (cs : List Field) (keys : Bool) (is : List ℕ) → AreThere cs keys is → HaveTypes cs is (columns_at cs is)
columns_typed cs keys [] h = tt
columns_typed cs keys (i ∷ is) h =
    let c = types_at cs i h.0 h.1 in
    let more = columns_typed cs keys is h.3 in
    let here : type_at cs i ≡ Some c.0.ty = h.1 ∙ ap (λ (u : Ty). Some u) (sym c.2) in
    subst (λ (o : Option Field). HaveTypes cs (i ∷ is) (if_there o ++ columns_at cs is)) (sym c.1) (here, more)

columns_keyed : (cs : List Field) (is : List ℕ) → AreThere cs true is → All IsNoDynamic (columns_at cs is)
columns_keyed cs [] h = All-nil IsNoDynamic
columns_keyed cs (i ∷ is) h =
    let c = types_at cs i h.0 h.1 in
    let key : c.0.ty ≢ ty.Dynamic = subst (λ t. t ≢ ty.Dynamic) (sym c.2) h.2 in
    subst (λ (o : Option Field). All IsNoDynamic (if_there o ++ columns_at cs is)) (sym c.1)
    (All-cons IsNoDynamic c.0 (columns_at cs is) key (columns_keyed cs is h.3))

-- ---- columns that names choose

not_both : (a b : Bool) → (a || b) ≡ false → b ≡ false
not_both false b e = e
not_both true b e = absurd (cc)

if_key : (keys : Bool) (t : Ty) → (keys && same_ty t ty.Dynamic) ≡ false → IfKey keys t
if_key true t e = differs t ty.Dynamic e
if_key false t e = tt

choose_there : (cs : List Field) (keys : Bool) (at : ℕ) (is : List ℕ) (p : ℕ × Ty) (js : List ℕ) → AreThere cs keys is → type_at cs p.0 ≡ Some p.1
    → choose keys at is p ≡ Ok js → AreThere cs keys js
choose_there cs keys at is p js h found e = by (has_number is p.0 || (keys && same_ty p.1 ty.Dynamic)) refl e where
  by : (b : Bool) → (has_number is p.0 || (keys && same_ty p.1 ty.Dynamic)) ≡ b
      → cond {A = Verdict (List ℕ)} b (Err (mistyped at)) (done (is ++ p.0 ∷ [])) ≡ Ok js → AreThere cs keys js
  by true same k = absurd (cc)
  by false same k =
      let key = if_key keys p.1 (not_both (has_number is p.0) (keys && same_ty p.1 ty.Dynamic) same) in
      subst (AreThere cs keys) (done_is (is ++ p.0 ∷ []) js k) (there_behind cs keys is (p.0 ∷ []) h (p.1, found, key, tt))

chosen_there : (text : List ℕ) (cs : List Field) (keys : Bool) (is : List ℕ) (ns : List Name) (js : List ℕ) → AreThere cs keys is
    → chosen text cs keys is ns ≡ Ok js → AreThere cs keys js
chosen_there text cs keys is [] js h e = subst (AreThere cs keys) (done_is is js e) h
chosen_there text cs keys is (n ∷ ns) js h e =
    let ks = then_ok (and_then (place_in text cs n) (choose keys (name_place n) is)) (λ ks. chosen text cs keys ks ns) js e in
    let p = then_ok (place_in text cs n) (choose keys (name_place n) is) ks.0 ks.1 in
    chosen_there text cs keys ks.0 ns js (choose_there cs keys (name_place n) is p.0 ks.0 h (place_found text cs n p.0 p.1) p.2) ks.2

pub chosen_typed : (text : List ℕ) (cs : List Field) (ns : List Name) (is : List ℕ) → chosen text cs true [] ns ≡ Ok is
    → HaveTypes cs is (columns_at cs is) × All IsNoDynamic (columns_at cs is)
chosen_typed text cs ns is e = let h = chosen_there text cs true [] ns is tt e in (columns_typed cs true is h, columns_keyed cs is h)

-- ---- all columns

rest_chosen : (at : ℕ) (all : List Field) (i : ℕ) (cs : List Field) (is : List ℕ) → StandAt all i cs → all_chosen at i cs ≡ Ok is
    → HaveTypes all is cs × All IsNoDynamic cs
rest_chosen at all i [] is h e = (subst (λ (js : List ℕ). HaveTypes all js []) (done_is [] is e) tt, All-nil IsNoDynamic)
rest_chosen at all i (c ∷ cs) is h e = by (same_ty c.ty ty.Dynamic) refl (λ js. rest_chosen at all (suc i) cs js (stand_next all i c cs h)) e where
  by : (b : Bool) → same_ty c.ty ty.Dynamic ≡ b → ((js : List ℕ) → all_chosen at (suc i) cs ≡ Ok js → HaveTypes all js cs × All IsNoDynamic cs)
      → cond b (Err (mistyped at)) (and_then (all_chosen at (suc i) cs) (λ js. done (i ∷ js))) ≡ Ok is → HaveTypes all is (c ∷ cs) × All IsNoDynamic (c ∷ cs)
  by true same next k = absurd (cc)
  by false same next k =
      let js = then_ok (all_chosen at (suc i) cs) (λ js. done (i ∷ js)) is k in
      let more = next js.0 js.1 in
      let here : type_at all i ≡ Some c.ty = place_type all i c.ty (stands_first all i c cs h) in
      (subst (λ (ks : List ℕ). HaveTypes all ks (c ∷ cs)) (done_is (i ∷ js.0) is js.2) (here, more.0), All-cons IsNoDynamic c cs (differs c.ty ty.Dynamic same) more.1)

pub all_chosen_typed : (at : ℕ) (cs : List Field) (is : List ℕ) → all_chosen at 0 cs ≡ Ok is → HaveTypes cs is cs × All IsNoDynamic cs
all_chosen_typed at cs is e = rest_chosen at cs 0 cs is (stand_all cs) e
