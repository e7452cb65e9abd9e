-- What counting brackets finds.
use Rattle.std.proofs.Common.{◌≡◌, ℕ, ◌<◌, ◌≤◌, nat_lt, if◌then◌else◌, Bool, true, false, List, [], ◌∷◌, ◌++◌, Option, Some, None, MatchOption, refl, sym, ap, subst, arith}
use Rattle.std.proofs.lemmas.Bool.Decides.{nat_tests}
use Rattle.kq_read_queries.specs.Depth.{behind, open_from, IsShallow, IsDeepAt, first_deep}
use Rattle.kq_read_symbols.specs.declared.kind.Symbol.{Symbol}

-- nowhere more than 120 are open, where n are before
abbrev ShallowFrom : ℕ → List Symbol → Type 0
ShallowFrom n ts = (front rest : List Symbol) → ts ≡ front ++ rest → open_from n front ≤ 120

record DeepFrom (n : ℕ) (ts : List Symbol) (place : ℕ) : Type 0 where
  front : List Symbol
  symbol : Symbol
  rest : List Symbol
  split : ts ≡ front ++ symbol ∷ rest
  is : place ≡ symbol.from
  before : ShallowFrom n front
  deep : 120 < open_from n (front ++ symbol ∷ [])

abbrev Found : ℕ → List Symbol → Option ℕ → Type 0
Found n ts r = MatchOption r (ShallowFrom n ts) (DeepFrom n ts)

shallow_nothing : (n : ℕ) → n ≤ 120 → ShallowFrom n []
shallow_nothing n le [] rest e = le
shallow_nothing n le (t ∷ front) rest e = let no : [] ≡ t ∷ (front ++ rest) = e in cc

shallow_more : (n : ℕ) (t : Symbol) (ts : List Symbol) → n ≤ 120 → ShallowFrom (behind n t) ts → ShallowFrom n (t ∷ ts)
shallow_more n t ts le h [] rest e = le
shallow_more n t ts le h (x ∷ front) rest e =
    let same : t ≡ x = cc in
    let left : ts ≡ front ++ rest = cc in
    subst (λ y. open_from (behind n y) front ≤ 120) same (h front rest left)

deep_more : (n : ℕ) (t : Symbol) (ts : List Symbol) (place : ℕ) → n ≤ 120 → DeepFrom (behind n t) ts place → DeepFrom n (t ∷ ts) place
deep_more n t ts place le d = record {
  front = t ∷ d.front;
  symbol = d.symbol;
  rest = d.rest;
  split = ap (λ l. t ∷ l) d.split;
  is = d.is;
  before = shallow_more n t d.front le d.before;
  deep = d.deep;
}

found_more : (n : ℕ) (t : Symbol) (ts : List Symbol) (r : Option ℕ) → n ≤ 120 → Found (behind n t) ts r → Found n (t ∷ ts) r
found_more n t ts None le h = shallow_more n t ts le h
found_more n t ts (Some place) le h = deep_more n t ts place le h

found_at : (n : ℕ) (t : Symbol) (ts : List Symbol) (b : Bool) → nat_lt 120 (behind n t) ≡ b → n ≤ 120 → (behind n t ≤ 120 → Found (behind n t) ts (first_deep (behind n t) ts)) → Found n (t ∷ ts) (if b then Some t.from else first_deep (behind n t) ts)
found_at n t ts true e le more = record {
  front = [];
  symbol = t;
  rest = ts;
  split = refl;
  is = refl;
  before = shallow_nothing n le;
  deep = grind (arith, nat_tests);
}
found_at n t ts false e le more = found_more n t ts (first_deep (behind n t) ts) le (more (grind (arith, nat_tests)))

found : (n : ℕ) (ts : List Symbol) → n ≤ 120 → Found n ts (first_deep n ts)
found n [] le = shallow_nothing n le
found n (t ∷ ts) le = found_at n t ts (nat_lt 120 (behind n t)) refl le (found (behind n t) ts)

to_deep : (ts : List Symbol) (r : Option ℕ) → Found 0 ts r → MatchOption r (IsShallow ts) (IsDeepAt ts)
to_deep ts None h = h
to_deep ts (Some place) d = record { front = d.front; symbol = d.symbol; rest = d.rest; split = d.split; is = d.is; before = d.before; deep = d.deep }

pub deep_found : (ts : List Symbol) (r : Option ℕ) → r ≡ first_deep 0 ts → MatchOption r (IsShallow ts) (IsDeepAt ts)
deep_found ts r e = to_deep ts r (subst (Found 0 ts) (sym e) (found 0 ts (omega arith)))
