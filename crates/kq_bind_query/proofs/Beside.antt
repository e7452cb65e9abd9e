-- The columns of a join are the left ones, and behind them the right ones under free names.
use Rattle.std.proofs.Common.{◌≡◌, ℕ, zero, suc, ◌+◌, List, [], ◌∷◌, ◌++◌, length, length-append, take, Some, refl, sym, ap, ◌∙◌, subst, arith, append_assoc, append-nil}
use Rattle.std.specs.Prelude.{slice_get}
use Rattle.kq_bind_clauses.specs.Joins.{beside, join_columns}
use Rattle.kq_bind_columns.specs.Items.{field}
use Rattle.kq_bind_columns.specs.Naming.{free_name}
use Rattle.kq_plan.specs.declared.work.JoinKind.{JoinKind}
use Rattle.kq_plan.specs.declared.work.JoinKind.TheVariants as join
use Rattle.kq_value.specs.declared.schema.Field.{Field}
use Rattle.kq_bind_query.specs.Paired.{AllStandBehind, IsPaired, StandsBehind}
use Rattle.kq_bind_query.specs.Suffixes.{HaveRoom, IsMadeFree}
use Rattle.kq_bind_query.proofs.Suffixed.{made_free}

-- what stands behind the left columns
abbrev behind : List Field → List Field → List Field
behind taken [] = []
behind taken (c ∷ cs) = field (free_name taken [] c.name) c.ty ∷ behind (taken ++ field (free_name taken [] c.name) c.ty ∷ []) cs

beside_parts : (taken cs : List Field) → beside taken cs ≡ taken ++ behind taken cs
beside_parts taken [] = sym (append-nil taken)
beside_parts taken (c ∷ cs) =
    let f = field (free_name taken [] c.name) c.ty in
    beside_parts (taken ++ f ∷ []) cs ∙ append_assoc taken (f ∷ []) (behind (taken ++ f ∷ []) cs)

-- a right column under its free name, behind these
record IsBehind (before : List Field) (right column : Field) : Type 0 where
  of_type : column.ty ≡ right.ty
  named : IsMadeFree before [] right.name column.name

behind_at : (taken cs : List Field) (k : ℕ) (c : Field) → HaveRoom taken cs → slice_get cs k ≡ Some c
    → (d : Field) × (slice_get (behind taken cs) k ≡ Some d) × IsBehind (taken ++ take k (behind taken cs)) c d
behind_at taken [] k c small e = absurd (cc)
behind_at taken (x ∷ cs) zero c small e =
    let is : x ≡ c = cc in
    let f = field (free_name taken [] x.name) x.ty in
    let free = made_free taken [] x.name (omega (arith, small)) in
    let one : IsBehind (taken ++ []) x f = subst (λ ts. IsBehind ts x f) (sym (append-nil taken)) (record { of_type = refl; named = free }) in
    (f, refl, subst (λ (z : Field). IsBehind (taken ++ []) z f) is one)
behind_at taken (x ∷ cs) (suc k) c small e =
    let f = field (free_name taken [] x.name) x.ty in
    let r = behind_at (taken ++ f ∷ []) cs k c (omega (arith, small, length-append taken (f ∷ []))) e in
    (r.0, r.1, subst (λ ts. IsBehind ts c r.0) (append_assoc taken (f ∷ []) (take k (behind (taken ++ f ∷ []) cs))) r.2)

after_front : (front back : List Field) (k : ℕ) → slice_get (front ++ back) (length front + k) ≡ slice_get back k
after_front [] back k = let e : 0 + k ≡ k = omega arith in ap (slice_get back) e
after_front (x ∷ front) back k =
    let e : suc (length front) + k ≡ suc (length front + k) = omega arith in ap (slice_get (x ∷ front ++ back)) e ∙ after_front front back k

take_front : (front back : List Field) (k : ℕ) → take (length front + k) (front ++ back) ≡ front ++ take k back
take_front [] back k = let e : 0 + k ≡ k = omega arith in ap (λ n. take n back) e
take_front (x ∷ front) back k =
    let e : suc (length front) + k ≡ suc (length front + k) = omega arith in
    ap (λ n. take n (x ∷ front ++ back)) e ∙ ap (λ (cs : List Field). x ∷ cs) (take_front front back k)

take_all : (front back : List Field) → take (length front) (front ++ back) ≡ front
take_all [] back = refl
take_all (x ∷ front) back = ap (λ (cs : List Field). x ∷ cs) (take_all front back)

left_of : (ls rs : List Field) → take (length ls) (beside ls rs) ≡ ls
left_of ls rs = ap (take (length ls)) (beside_parts ls rs) ∙ take_all ls (behind ls rs)

right_of : (ls rs : List Field) (k : ℕ) (c : Field) → HaveRoom ls rs → slice_get rs k ≡ Some c
    → StandsBehind (beside ls rs) (length ls + k) c
right_of ls rs k c small e =
    let r = behind_at ls rs k c small e in
    let there = ap (λ cs. slice_get cs (length ls + k)) (beside_parts ls rs) ∙ after_front ls (behind ls rs) k ∙ r.1 in
    let before = ap (take (length ls + k)) (beside_parts ls rs) ∙ take_front ls (behind ls rs) k in
    record {
      column = r.0;
      there = there;
      of_type = r.2.of_type;
      named = subst (λ ts. IsMadeFree ts [] c.name r.0.name) (sym before) r.2.named;
    }

-- ---- joins that pair rows

paired : (k : JoinKind) (ls rs : List Field) → IsPaired k → join_columns k ls rs ≡ beside ls rs
paired join.LeftSemi ls rs h = absurd h
paired join.LeftAnti ls rs h = absurd h
paired join.RightSemi ls rs h = absurd h
paired join.RightAnti ls rs h = absurd h
paired join.InnerUnique ls rs h = refl
paired join.Inner ls rs h = refl
paired join.LeftOuter ls rs h = refl
paired join.RightOuter ls rs h = refl
paired join.FullOuter ls rs h = refl

-- the left columns come first
pub left_first : (k : JoinKind) (ls rs : List Field) → IsPaired k → take (length ls) (join_columns k ls rs) ≡ ls
left_first k ls rs h = ap (take (length ls)) (paired k ls rs h) ∙ left_of ls rs

-- each right column stands in its place behind them
pub right_behind : (k : JoinKind) (ls rs : List Field) → IsPaired k → HaveRoom ls rs → AllStandBehind (join_columns k ls rs) (length ls) rs
right_behind k ls rs h small = λ i c e. subst (λ cs. StandsBehind cs (length ls + i) c) (sym (paired k ls rs h)) (right_of ls rs i c small e)
