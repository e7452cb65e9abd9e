-- What a name stands for is rows that are given.
use Rattle.std.proofs.Common.{◌≡◌, ℕ, Bool, true, false, cond, List, [], ◌∷◌, All, Option, Some, None, Ok, Err, refl, subst}
use Rattle.std.specs.Prelude.{nat_eq}
use Rattle.std.specs.Cmp.Lexicographic.{pointwise}
use Rattle.std.proofs.lemmas.List.Elements.{All-head, All-tail}
use Rattle.kq_bind_query.specs.kq_bind_operators.Flows.{Progressing, Flowing, following, again}
use Rattle.kq_bind_query.specs.kq_bind_operators.Scopes.{Scoping, Tabling, tabling_named, leaf_kind, leaf_of, named_rows, source_named, part_of, part_named}
use Rattle.kq_bind_columns.specs.Naming.{is_taken}
use Rattle.kq_bind_expressions.specs.Verdicts.{unknown}
use Rattle.kq_read_grammar.specs.declared.expression.Name.{Name}
use Rattle.kq_plan.specs.declared.names.NameKind.TheVariants as name
use Rattle.kq_plan.specs.declared.work.LeafKind.TheVariants as kind
use Rattle.kq_plan.specs.Fits.{FitsLeaf}
use Rattle.kq_plan.specs.Names.{Known}
use Rattle.kq_plan.specs.Plans.{Stepping, leaf}
use Rattle.kq_read_meanings.specs.Names.{name_said, name_place, string_said}
use Rattle.kq_read_meanings.specs.Pieces.{piece}
use Rattle.kq_read_symbols.specs.declared.kind.Symbol.{Symbol}
use Rattle.kq_bind_query.proofs.Progress.{done_is, IsGiven, IsTable, Holds, Goes, following_goes}

-- ---- the names of the catalogue

leaf_fits : (k : Known) (o : Option Known) → o ≡ Some k → FitsLeaf (leaf_kind k.0) o k.1
leaf_fits (name.Table, cs) o e = e
leaf_fits (name.View, cs) o e = e

leaf_goes : (s : Scoping) (p : Progressing) (at : ℕ) (said : List ℕ) (v : Flowing) (o : Option Known) → Holds s p.steps → s.known said ≡ o
    → leaf_of at p said o ≡ Ok v → Goes s p.steps v
leaf_goes s p at said v (Some k) h is e =
    subst (Goes s p.steps) (done_is (following p (leaf (leaf_kind k.0) said) k.1) v e)
    (following_goes s p (leaf (leaf_kind k.0) said) k.1 h (leaf_fits k (s.known said) is) refl refl)
leaf_goes s p at said v None h is e = absurd (cc)

part_goes : (s : Scoping) (p : Progressing) (at : ℕ) (said : List ℕ) (v : Flowing) (o : Option Known) → Holds s p.steps → s.known said ≡ o
    → part_of at p said o ≡ Ok v → Goes s p.steps v
part_goes s p at said v (Some (name.View, cs)) h is e =
    subst (Goes s p.steps) (done_is (following p (leaf kind.Part said) cs) v e) (following_goes s p (leaf kind.Part said) cs h is refl refl)
part_goes s p at said v (Some (name.Table, cs)) h is e = absurd (cc)
part_goes s p at said v None h is e = absurd (cc)

pub part_named_goes : (s : Scoping) (p : Progressing) (t : Symbol) (v : Flowing) → Holds s p.steps → part_named s p t ≡ Ok v → Goes s p.steps v
part_named_goes s p t v h e = let said = string_said (piece s.text t) in part_goes s p t.from said v (s.known said) h refl e

-- ---- lets

table_given : (ss : List Stepping) (ts : List Tabling) (said : List ℕ) (i : ℕ) → All (IsTable ss) ts → tabling_named ts said ≡ Some i → IsGiven ss i
table_given ss [] said i h e = absurd (cc)
table_given ss (t ∷ ts) said i h e = by (pointwise nat_eq t.name said) (table_given ss ts said i (All-tail (IsTable ss) t ts h)) e where
  by : (b : Bool) → (tabling_named ts said ≡ Some i → IsGiven ss i) → cond b (Some t.input) (tabling_named ts said) ≡ Some i → IsGiven ss i
  by true more g = let is : t.input ≡ i = cc in subst (IsGiven ss) is (All-head (IsTable ss) t ts h)
  by false more g = more g

named_goes : (s : Scoping) (p : Progressing) (at : ℕ) (said : List ℕ) (v : Flowing) (o : Option ℕ) → Holds s p.steps → tabling_named s.tables said ≡ o
    → named_rows s p at said o ≡ Ok v → Goes s p.steps v
named_goes s p at said v (Some i) h is e =
    subst (Goes s p.steps) (done_is (again p i) v e) (record { holds = h; rows = table_given p.steps s.tables said i h.tables is; kept = λ j cs g. g })
named_goes s p at said v None h is e = by (is_taken s.lets said) e where
  by : (b : Bool) → cond b (Err (unknown at)) (leaf_of at p said (s.known said)) ≡ Ok v → Goes s p.steps v
  by true g = absurd (cc)
  by false g = leaf_goes s p at said v (s.known said) h refl g

pub source_goes : (s : Scoping) (p : Progressing) (n : Name) (v : Flowing) → Holds s p.steps → source_named s p n ≡ Ok v → Goes s p.steps v
source_goes s p n v h e = let said = name_said s.text n in named_goes s p (name_place n) said v (tabling_named s.tables said) h refl e
