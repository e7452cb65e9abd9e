-- Groups that stand for a body over rows stand for it over the same rows in any other order.
use Rattle.std.proofs.Common.{◌≡◌, ℕ, zero, suc, min, Bool, true, false, cond, List, [], ◌∷◌, ◌++◌, length, map, refl, sym, ap, ◌∙◌, subst}
use Rattle.std.specs.List.{All, flat_map}
use Rattle.std.proofs.lemmas.List.{length-map}
use Rattle.std.proofs.lemmas.List.Elements.{All-cons, All-head, All-nil, All-tail}
use Rattle.kq_run_aggregates.proofs.AnyOrder.{Holds-any_order}
use Rattle.kq_value.specs.Computed.{Computed, Is, Overflow, and_then, each}
use Rattle.kq_plan_expressions.specs.Terms.{Term}
use Rattle.kq_run_groups.specs.Grouped.{AreKeys, args_of}
use Rattle.kq_run_groups.specs.Groups.{Grouping, Stands, args_at, state_at}
use Rattle.kq_run_aggregates.specs.Steps.{kept_at}
use Rattle.kq_store_rows.specs.Chunks.{row_at}
use Rattle.kq_run_scan.specs.kq_eval_pieces.Operators.{Row, values_at}
use Rattle.kq_run_scan.specs.kq_eval_row.Val.{Surroundings}
use Rattle.kq_plan.specs.Plans.{Aggregating, Planned}
use Rattle.kq_run_row_operators.proofs.Laws.{ran_append, ran_none}
use Rattle.kq_run_row_operators.specs.Operators.{Rowwise}
use Rattle.kq_run_row_operators.specs.Ran.{Ran, came, failed, joined, ran}
use Rattle.kq_value.proofs.SameLemmas.{All-Same, Same-flat_map, Same-map, Same-refl, length-Same}
use Rattle.kq_value.specs.Same.{Same}
use Rattle.kq_value.specs.Values.{is_same_row}
use Rattle.kq_value.specs.declared.ty.Ty.{Ty}
use Rattle.kq_run_gather.proofs.Arguments.{each_parts}
use Rattle.kq_run_gather.specs.Bodies.{StandsFor, alone, behind_source}
use Rattle.kq_run_gather.specs.Grouping.{GroupsOf, arguments_at, arguments_over}
use Rattle.kq_run_gather.specs.Steps.{operators_of}

-- ---- what comes of each row

-- a row that came to be
abbrev had : Computed Row → Row
had (Is r) = r
had Overflow = []

module _ (f : Row → Computed Row) where
  abbrev Comes : Row → Type 0
  Comes r = f r ≡ Is (had (f r))

  abbrev out_of : Row → Row
  out_of r = had (f r)

  each_comes : (rows out : List Row) → each f rows ≡ Is out → All Comes rows × (out ≡ map out_of rows)
  each_comes [] out e = let is : out ≡ [] = cc in (All-nil Comes, is)
  each_comes (r ∷ rows) out e =
      let (y, ys, one, more, is) = each_parts (f r) (each f rows) out e in
      let rest = each_comes rows ys more in
      let here : had (f r) ≡ y = ap had one in (
        All-cons Comes r rows (one ∙ ap Is (sym here)) rest.0,
        is ∙ ap (λ (z : Row). z ∷ ys) (sym here) ∙ ap (λ (zs : List Row). had (f r) ∷ zs) rest.1,
      )

  come_all : (rows : List Row) → All Comes rows → each f rows ≡ Is (map out_of rows)
  come_all [] h = refl
  come_all (r ∷ rows) h =
      ap (λ (c : Computed Row). and_then c (λ y. and_then (each f rows) (λ ys. Is (y ∷ ys)))) (All-head Comes r rows h)
      ∙ ap (λ (c : Computed (List Row)). and_then c (λ ys. Is (had (f r) ∷ ys))) (come_all rows (All-tail Comes r rows h))

-- ---- the arguments of the rows with a key

-- what rows with the key give, by what each has for its key
module _ (key_of arg_of : Row → Row) (key : Row) where
  abbrev given : Row → List Row
  given r = cond (is_same_row key (key_of r)) (arg_of r ∷ []) []

  one_given : (b : Bool) (x : Row) (xs ys : List Row) → xs ≡ ys → cond b (x ∷ xs) xs ≡ cond b (x ∷ []) [] ++ ys
  one_given true x xs ys e = ap (λ (zs : List Row). x ∷ zs) e
  one_given false x xs ys e = e

  args_given : (rows : List Row) → args_of key (map key_of rows) (map arg_of rows) ≡ flat_map given rows
  args_given [] = refl
  args_given (r ∷ rows) = one_given (is_same_row key (key_of r)) (arg_of r) (args_of key (map key_of rows) (map arg_of rows)) (flat_map given rows) (args_given rows)

  args_same : (rows others : List Row) → Same rows others → Same (args_of key (map key_of rows) (map arg_of rows)) (args_of key (map key_of others) (map arg_of others))
  args_same rows others same =
      subst (λ (xs : List Row). Same xs (args_of key (map key_of others) (map arg_of others))) (sym (args_given rows))
      (subst (λ (ys : List Row). Same (flat_map given rows) ys) (sym (args_given others)) (Same-flat_map given rows others same))

no_args : (key : Row) (keys : List Row) → args_of key keys [] ≡ []
no_args key [] = refl
no_args key (k ∷ keys) = refl

none_at : (a : ℕ) → args_at [] a ≡ []
none_at zero = refl
none_at (suc a) = refl

-- each key has the same arguments
pub record SameArgs (keys others : List Row) (args theirs : List (List Row)) : Type 0 where
  pub long : (a : ℕ) → length (args_at theirs a) ≡ length (args_at args a)
  pub each_key : (a : ℕ) (key : Row) → Same (args_of key keys (args_at args a)) (args_of key others (args_at theirs a))

no_aggregate : (keys others : List Row) → SameArgs keys others [] []
no_aggregate keys others = record {
  long = λ a. refl;
  each_key = λ a key.
      let none : (ks : List Row) → args_of key ks (args_at [] a) ≡ [] = λ ks. ap (args_of key ks) (none_at a) ∙ no_args key ks in
      subst (λ (xs : List Row). Same xs (args_of key others (args_at [] a))) (sym (none keys)) (subst (λ (ys : List Row). Same [] ys) (sym (none others)) (Same-refl []));
}

one_aggregate : (keys others : List Row) (first second : List Row) (args theirs : List (List Row)) → length second ≡ length first
    → ((key : Row) → Same (args_of key keys first) (args_of key others second)) → SameArgs keys others args theirs → SameArgs keys others (first ∷ args) (second ∷ theirs)
one_aggregate keys others first second args theirs long same rest = record { long = longs; each_key = sames }
  where
    longs : (a : ℕ) → length (args_at (second ∷ theirs) a) ≡ length (args_at (first ∷ args) a)
    longs zero = long
    longs (suc a) = rest.long a

    sames : (a : ℕ) (key : Row) → Same (args_of key keys (args_at (first ∷ args) a)) (args_of key others (args_at (second ∷ theirs) a))
    sames zero key = same key
    sames (suc a) key = rest.each_key a key

-- the arguments of the rows in the other order
pub record OtherArgs (key_of : Row → Row) (s : Surroundings) (rows others : List Row) (gs : List Aggregating) (args : List (List Row)) : Type 0 where
  pub theirs : List (List Row)
  pub come : each (arguments_over s others) gs ≡ Is theirs
  pub same : SameArgs (map key_of rows) (map key_of others) args theirs

other_args : (key_of : Row → Row) (s : Surroundings) (rows others : List Row) → Same rows others → (gs : List Aggregating) (args : List (List Row))
    → each (arguments_over s rows) gs ≡ Is args → OtherArgs key_of s rows others gs args
other_args key_of s rows others same [] args e =
    let is : args ≡ [] = cc in
    subst (OtherArgs key_of s rows others []) (sym is) (record { theirs = []; come = refl; same = no_aggregate (map key_of rows) (map key_of others) })
other_args key_of s rows others same (g ∷ gs) args e =
    let (y, ys, one, more, is) = each_parts (arguments_over s rows g) (each (arguments_over s rows) gs) args e in
    let rest = other_args key_of s rows others same gs ys more in
    let f = arguments_at g s in
    let came = each_comes f rows y one in
    let theirs = map (out_of f) others in
    let come = come_all f others (All-Same (Comes f) rows others same came.0) in
    let long : length theirs ≡ length (map (out_of f) rows) = length-map others (out_of f) ∙ sym (length-Same rows others same) ∙ sym (length-map rows (out_of f)) in
    subst (OtherArgs key_of s rows others (g ∷ gs)) (sym (is ∙ ap (λ (z : List Row). z ∷ ys) came.1))
    (record {
      theirs = theirs ∷ rest.theirs;
      come = ap (λ (c : Computed (List Row)). and_then c (λ z. and_then (each (arguments_over s others) gs) (λ zs. Is (z ∷ zs)))) come
          ∙ ap (λ (c : Computed (List (List Row))). and_then c (λ zs. Is (theirs ∷ zs))) rest.come;
      same = one_aggregate (map key_of rows) (map key_of others) (map (out_of f) rows) theirs ys rest.theirs long (λ key. args_same key_of (out_of f) key rows others same) rest.same;
    })

-- ---- groups

keys_any : (width : ℕ) (keys others groups : List Row) → Same keys others → AreKeys width keys groups → AreKeys width others groups
keys_any zero keys others groups same are = are
keys_any (suc width) keys others groups same are = record { each = λ k. are.each k ∙ ap (λ (n : ℕ). min 1 n) (same.each k) }

stands_any : (keys others : List Row) (args theirs : List (List Row)) (g : Grouping) → Same keys others → SameArgs keys others args theirs → Stands keys args g → Stands others theirs g
stands_any keys others args theirs g same by stands = record {
  of_rows = keys_any g.width keys others g.keys same stands.of_rows;
  along = λ a h. by.long a ∙ stands.along a h ∙ length-Same keys others same;
  holds = λ a n h within.
      let s = state_at g.states a in
      let key = row_at g.keys n in
      Holds-any_order s.kind (args_of key keys (args_at args a)) (args_of key others (args_at theirs a)) (kept_at s.kept n) (by.each_key a key) (stands.holds a n h within);
}

keyed_parts : {A B : Type 0} (c : Computed A) (d : Computed B) (p : A × B) → and_then c (λ x. and_then d (λ y. Is (x, y))) ≡ Is p → (c ≡ Is p.0) × (d ≡ Is p.1)
keyed_parts {A} {B} Overflow d p e = absurd cc
keyed_parts {A} {B} (Is x) Overflow p e = absurd cc
keyed_parts {A} {B} (Is x) (Is y) p e = let is : (x, y) ≡ p = cc in (ap (λ (q : A × B). Is q.0) is, ap (λ (q : A × B). Is q.1) is)

groups_any : (es : List Term) (gs : List Aggregating) (ts : List Ty) (s : Surroundings) (rows others : List Row) (g : Grouping) → Same rows others
    → GroupsOf es gs ts s rows g → GroupsOf es gs ts s others g
groups_any es gs ts s rows others g same h =
    let f = values_at es s in
    let parts = keyed_parts (each f rows) (each (arguments_over s rows) gs) (h.keys, h.args) h.keyed_so in
    let came = each_comes f rows h.keys parts.0 in
    let keys = map (out_of f) others in
    let come = come_all f others (All-Same (Comes f) rows others same came.0) in
    let args = other_args (out_of f) s rows others same gs h.args parts.1 in
    record {
      keys = keys;
      args = args.theirs;
      keyed_so = ap (λ (c : Computed (List Row)). and_then c (λ ks. and_then (each (arguments_over s others) gs) (λ those. Is (ks, those)))) come
          ∙ ap (λ (c : Computed (List (List Row))). and_then c (λ those. Is (keys, those))) args.come;
      width_is = h.width_is;
      shapes = h.shapes;
      whole = h.whole;
      stands = stands_any (map (out_of f) rows) keys h.args args.theirs g (Same-map (out_of f) rows others same) args.same
          (subst (λ (ks : List Row). Stands ks h.args g) came.1 h.stands);
    }

-- ---- row operators

rows_of : Ran → List Row
rows_of (came rows) = rows
rows_of (failed n) = []

joined_parts : (a b : Ran) (left : List Row) → joined a b ≡ came left → (a ≡ came (rows_of a)) × (b ≡ came (rows_of b)) × (left ≡ rows_of a ++ rows_of b)
unfolding rows_of
joined_parts (came xs) (came ys) left e = let is : xs ++ ys ≡ left = cc in (refl, refl, sym is)
joined_parts (came xs) (failed m) left e = absurd cc
joined_parts (failed n) (came ys) left e = absurd cc
joined_parts (failed n) (failed m) left e = absurd cc

module _ (os : List Rowwise) (s : Surroundings) where
  abbrev left_of : Row → List Row
  left_of r = rows_of (ran os s (r ∷ []))

  abbrev Passes : Row → Type 0
  Passes r = ran os s (r ∷ []) ≡ came (left_of r)

  ran_each : (rows left : List Row) → ran os s rows ≡ came left → All Passes rows × (left ≡ flat_map left_of rows)
  ran_each [] left e = let is : came left ≡ came [] = sym e ∙ ran_none os s in let same : left ≡ [] = cc in (All-nil Passes, same)
  ran_each (r ∷ rows) left e =
      let parts = joined_parts (ran os s (r ∷ [])) (ran os s rows) left (sym (ran_append os s (r ∷ []) rows) ∙ e) in
      let rest = ran_each rows (rows_of (ran os s rows)) parts.1 in (
        All-cons Passes r rows parts.0 rest.0,
        parts.2 ∙ ap (λ (xs : List Row). left_of r ++ xs) rest.1,
      )

  ran_all : (rows : List Row) → All Passes rows → ran os s rows ≡ came (flat_map left_of rows)
  ran_all [] h = ran_none os s
  ran_all (r ∷ rows) h =
      ran_append os s (r ∷ []) rows ∙ ap (λ (x : Ran). joined x (ran os s rows)) (All-head Passes r rows h)
      ∙ ap (λ (x : Ran). joined (came (left_of r)) x) (ran_all rows (All-tail Passes r rows h))

-- ---- bodies

pub StandsFor-any_order : (p : Planned) (rows others : List Row) (g : Grouping) → Same rows others → StandsFor p rows g → StandsFor p others g
StandsFor-any_order p rows others g same h =
    let os = operators_of (behind_source p.steps) in
    let came = ran_each os alone rows h.left h.came_so in
    let left = flat_map (left_of os alone) others in
    record {
      left = left;
      came_so = ran_all os alone others (All-Same (Passes os alone) rows others same came.0);
      groups = groups_any _ _ _ alone h.left left g
          (subst (λ (xs : List Row). Same xs left) (sym came.1) (Same-flat_map (left_of os alone) rows others same)) h.groups;
    }
