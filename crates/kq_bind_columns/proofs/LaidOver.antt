-- Columns laid one after another.
use Rattle.std.proofs.Common.{◌≡◌, ℕ, zero, suc, ◌+◌, ◌<◌, List, [], ◌∷◌, ◌++◌, length, map, drop, refl, sym, ap, ◌∙◌, arith, add-one, append_assoc}
use Rattle.std.specs.List.{zip}
use Rattle.std.proofs.lemmas.List.{map-append}
use Rattle.kq_bind_columns.specs.Laying.{Columns, all_laid, as_they_are, laid}
use Rattle.kq_plan_expressions.specs.declared.expr.Expr.{Expr}
use Rattle.kq_plan_expressions.specs.Terms.{Term, term_of, column}
use Rattle.kq_value.specs.declared.schema.Field.{Field}

-- ---- each column as it is

as-next : (j i : ℕ) (cs : List Field) → i < length cs → as_they_are j (drop i cs) ≡ column j ∷ as_they_are (suc j) (drop (suc i) cs)
as-next j i [] h = absurd (omega arith)
as-next j zero (c ∷ cs) h = refl
as-next j (suc i) (c ∷ cs) h = as-next j i cs (omega arith)

pub as-more : (xs ys : List Expr) (y : Expr) (i : ℕ) (cs : List Field) → i < length cs → term_of y ≡ column i → ys ≡ xs ++ y ∷ []
    → map term_of xs ++ as_they_are i (drop i cs) ≡ map term_of ys ++ as_they_are (i + 1) (drop (i + 1) cs)
as-more xs ys y i cs h t e =
    let m : map term_of ys ≡ map term_of xs ++ column i ∷ [] = ap (map term_of) e ∙ map-append term_of xs (y ∷ []) ∙ ap (λ z. map term_of xs ++ z ∷ []) t in
    rw (add-one, m, as-next i i cs h) (sym (append_assoc (map term_of xs) (column i ∷ []) (as_they_are (suc i) (drop (suc i) cs))))

-- ---- pairs of an expression and its column

abbrev pub seen : Expr × Field → Term × Field
seen p = (term_of p.0, p.1)

seen-zip : (es : List Expr) (cs : List Field) → map seen (zip es cs) ≡ zip (map term_of es) cs
seen-zip [] cs = refl
seen-zip (e ∷ es) [] = refl
seen-zip (e ∷ es) (c ∷ cs) = ap (λ ps. (term_of e, c) ∷ ps) (seen-zip es cs)

seen-parts : (ps : List (Expr × Field)) → map seen ps ≡ map seen (map (λ p. (p.0, p.1)) ps)
seen-parts [] = refl
seen-parts (p ∷ ps) = ap (λ qs. seen p ∷ qs) (seen-parts ps)

-- what a zip gives, as the definitions see it
pub seen-all : (ps : List (Expr × Field)) (es : List Expr) (cs : List Field) → map (λ p. (p.0, p.1)) ps ≡ zip es cs → map seen ps ≡ zip (map term_of es) cs
seen-all ps es cs h = seen-parts ps ∙ ap (map seen) h ∙ seen-zip es cs

-- ---- one more is laid over what all before it left

all_laid-behind : (p : Columns) (xs : List (Term × Field)) (x : Term × Field) → all_laid p (xs ++ x ∷ []) ≡ laid (all_laid p xs) x
all_laid-behind p [] x = refl
all_laid-behind p (y ∷ xs) x = all_laid-behind (laid p y) xs x

pub laid-more : (p q r : Columns) (ps : List (Expr × Field)) (e : Expr) (c : Field) → q ≡ all_laid p (map seen ps) → r ≡ laid q (term_of e, c) → r ≡ all_laid p (map seen (ps ++ (e, c) ∷ []))
laid-more p q r ps e c before now =
    now ∙ ap (λ z. laid z (term_of e, c)) before ∙ sym (all_laid-behind p (map seen ps) (term_of e, c)) ∙ ap (all_laid p) (sym (map-append seen ps ((e, c) ∷ [])))
