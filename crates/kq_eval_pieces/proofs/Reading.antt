-- What an expression gives of a row depends on the columns alone that it reads.
use Rattle.std.proofs.Common.{◌≡◌, ℕ, List, [], ◌∷◌, ◌++◌, map, refl, sym, ap, ◌∙◌, subst}
use Rattle.std.specs.List.{All, concat}
use Rattle.std.proofs.lemmas.List.Elements.{All-nil, All-cons, All-head, All-tail}
use Rattle.kq_value.specs.declared.value.Value.{Value}
use Rattle.kq_value.specs.Computed.{Is, and_then}
use Rattle.kq_eval_columns.specs.kq_plan_functions.Function.{Function}
use Rattle.kq_eval_columns.specs.kq_plan_functions.TheVariants as f
use Rattle.kq_plan_expressions.specs.declared.expr.Expr.{Expr}
use Rattle.kq_plan_expressions.specs.declared.expr.Expr.TheOpen.{Expr-F}
use Rattle.kq_plan_expressions.specs.declared.expr.Expr.TheShapes.{former-Expr-Chain-1-at-2}
use Rattle.kq_plan_expressions.specs.declared.expr.Expr.TheViews.{roll-Expr}
use Rattle.kq_plan_expressions.specs.declared.expr.Link.{Link}
use Rattle.kq_plan_expressions.specs.declared.expr.Link.TheVariants as link
use Rattle.kq_plan_expressions.specs.Operations.{function_of}
use Rattle.kq_plan_expressions.specs.declared.expr.Expr.TheFolds.{ind-Expr, fold-roll-Expr, map-Expr}
use Rattle.kq_eval_columns.specs.kq_value_arithmetic.Logic.{is_yes}
use Rattle.kq_eval_columns.specs.kq_value_conversions.Converted.{empty_test}
use Rattle.std.specs.Prelude.{if◌then◌else◌}
use Rattle.kq_eval_columns.specs.kq_eval_row.Applied.{applied}
use Rattle.kq_eval_columns.specs.kq_eval_row.Val.{Surroundings, Meaning, val, val_step, values, first_chosen, first_present, called, links_at, cell_of}
use Rattle.kq_eval_pieces.specs.Pieces.{reads_link, reads_step, columns_read}

module _ {X : Type 0} (P : X → Type 0) where
  pub first_all : (xs ys : List X) → All P (xs ++ ys) → All P xs
  first_all [] ys h = All-nil P
  first_all (x ∷ xs) ys h = All-cons P x xs (All-head P x (xs ++ ys) h) (first_all xs ys (All-tail P x (xs ++ ys) h))

  pub other_all : (xs ys : List X) → All P (xs ++ ys) → All P ys
  other_all [] ys h = h
  other_all (x ∷ xs) ys h = other_all xs ys (All-tail P x (xs ++ ys) h)

-- two rows have the same cells in these columns
abbrev pub Same : List Value → List Value → List ℕ → Type 0
Same q r js = All (λ j. cell_of q j ≡ cell_of r j) js

abbrev pub ReadsOnly : Expr → Type 0
ReadsOnly e = (s : Surroundings) (q r : List Value) → Same q r (columns_read e) → val e s q ≡ val e s r

abbrev Parts : Type 0
Parts = List ((e : Expr) × ReadsOnly e)

abbrev val_all : Parts → List Meaning
val_all es = map val (map (λ e. e.0) es)

abbrev read_all : Parts → List ℕ
read_all es = concat (map columns_read (map (λ e. e.0) es))

abbrev the_links : List (Link ((e : Expr) × ReadsOnly e)) → List (Link Expr)
the_links ls = map (former-Expr-Chain-1-at-2.map ((e : Expr) × ReadsOnly e) Expr (λ e. e.0)) ls

abbrev val_links : List (Link ((e : Expr) × ReadsOnly e)) → List (Link Meaning)
val_links ls = map (former-Expr-Chain-1-at-2.map Expr Meaning val) (the_links ls)

abbrev read_links : List (Link ((e : Expr) × ReadsOnly e)) → List ℕ
read_links ls = concat (map reads_link (map (former-Expr-Chain-1-at-2.map Expr (List ℕ) columns_read) (the_links ls)))

module _ (s : Surroundings) (q r : List Value) where
  abbrev same : ℕ → Type 0
  same j = cell_of q j ≡ cell_of r j

  one : (e : (e : Expr) × ReadsOnly e) (es : Parts) → Same q r (read_all (e ∷ es)) → val e.0 s q ≡ val e.0 s r
  one e es h = e.1 s q r (first_all same (columns_read e.0) (read_all es) h)

  others : (e : (e : Expr) × ReadsOnly e) (es : Parts) → Same q r (read_all (e ∷ es)) → Same q r (read_all es)
  others e es h = other_all same (columns_read e.0) (read_all es) h

  all_values : (es : Parts) → Same q r (read_all es) → values (val_all es) s q ≡ values (val_all es) s r
  all_values [] h = refl
  all_values (e ∷ es) h = λ j. and_then (one e es h j) (λ v. and_then (all_values es (others e es h) j) (λ vs. Is (v ∷ vs)))

  all_chosen : (es : Parts) → Same q r (read_all es) → first_chosen (val_all es) s q ≡ first_chosen (val_all es) s r
  all_chosen [] h = refl
  all_chosen (e ∷ []) h = one e [] h
  all_chosen (p ∷ e ∷ es) h =
      let h2 = others p (e ∷ es) h in
      λ j. and_then (one p (e ∷ es) h j) (λ v. if is_yes v then one e es h2 j else all_chosen es (others e es h2) j)

  all_present : (es : Parts) → Same q r (read_all es) → first_present (val_all es) s q ≡ first_present (val_all es) s r
  all_present [] h = refl
  all_present (e ∷ []) h = one e [] h
  all_present (p ∷ e ∷ es) h =
      λ j. and_then (one p (e ∷ es) h j) (λ v. if is_yes (empty_test v) then all_present (e ∷ es) (others p (e ∷ es) h) j else Is v)

  all_called : (function : Function) (es : Parts) → Same q r (read_all es) → called function (val_all es) s q ≡ called function (val_all es) s r
  all_called f.Iff es h = all_chosen es h
  all_called f.Case es h = all_chosen es h
  all_called f.Coalesce es h = all_present es h
  all_called function es h = ap (λ c. and_then c (applied function s.now)) (all_values es h)

  all_links : (ls : List (Link ((e : Expr) × ReadsOnly e))) → Same q r (read_links ls) → (v : Value) → links_at (val_links ls) s q v ≡ links_at (val_links ls) s r v
  all_links [] h v = refl
  all_links (link.ToLong ∷ ls) h v = λ j. and_then (applied f.ToLong s.now (v ∷ [])) (λ w. all_links ls h w j)
  all_links (link.With o e ∷ ls) h v =
      let operand = e.1 s q r (first_all same (columns_read e.0) (read_links ls) h) in
      let rest = other_all same (columns_read e.0) (read_links ls) h in
      λ j. and_then (and_then (operand j) (λ w. applied (function_of o) s.now (v ∷ w ∷ []))) (λ w. all_links ls rest w j)

  level : (y : Expr-F ((e : Expr) × ReadsOnly e))
      → Same q r (reads_step (map-Expr Expr (List ℕ) columns_read (map-Expr ((e : Expr) × ReadsOnly e) Expr (λ e. e.0) y)))
      → val_step (map-Expr Expr Meaning val (map-Expr ((e : Expr) × ReadsOnly e) Expr (λ e. e.0) y)) s q
      ≡ val_step (map-Expr Expr Meaning val (map-Expr ((e : Expr) × ReadsOnly e) Expr (λ e. e.0) y)) s r
  level (Expr-F.Literal v) h = refl
  level (Expr-F.Column j) h = ap Is (All-head same j [] h)
  level (Expr-F.Cell i) h = refl
  level (Expr-F.Call function args) h = all_called function args.items h
  level (Expr-F.Chain e ls) h =
      let first = e.value.1 s q r (first_all same (columns_read e.value.0) (read_links ls.items) h) in
      let rest = other_all same (columns_read e.value.0) (read_links ls.items) h in
      λ j. and_then (first j) (λ v. all_links ls.items rest v j)

here : (y : Expr-F ((e : Expr) × ReadsOnly e)) → ReadsOnly (roll-Expr (map-Expr ((e : Expr) × ReadsOnly e) Expr (λ e. e.0) y))
here y s q r h =
    let x = map-Expr ((e : Expr) × ReadsOnly e) Expr (λ e. e.0) y in
    let read = subst (λ (js : List ℕ). Same q r js) (fold-roll-Expr (List ℕ) reads_step x) h in
    ap (λ (m : Meaning). m s q) (fold-roll-Expr Meaning val_step x) ∙ level s q r y read ∙ ap (λ (m : Meaning). m s r) (sym (fold-roll-Expr Meaning val_step x))

pub reads_alone : (e : Expr) → ReadsOnly e
reads_alone = ind-Expr ReadsOnly (λ x y is. subst (λ (z : Expr-F Expr). ReadsOnly (roll-Expr z)) is (here y))
