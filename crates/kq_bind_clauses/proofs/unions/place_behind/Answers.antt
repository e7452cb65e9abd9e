use Rattle.std.proofs.Common.{◌≡◌, ℕ, suc, ◌+◌, Bool, true, false, ◌||◌, ◌&&◌, not, cond, List, [], ◌∷◌, length, refl, arith}
use Rattle.std.specs.Prelude.{nat_eq}
use Rattle.std.specs.Cmp.Lexicographic.{pointwise}
use Rattle.kq_bind_clauses.specs.Unions.{place_behind}
use Rattle.kq_bind_clauses.proofs.unions.place_behind.Goals as goal
use Rattle.kq_bind_columns.specs.Naming.{is_taken}
use Rattle.kq_value.specs.declared.schema.Field.{Field}

-- the place behind all, where no column has the name
behind_all : (cs : List Field) (name : List ℕ) → place_behind cs name ≡ cond (is_taken cs name) (0 + place_behind cs name) (length cs)
behind_all [] name = refl
behind_all (c ∷ cs) name = by (pointwise nat_eq c.name name) (is_taken cs name) (place_behind cs name) (behind_all cs name) where
  by : (a b : Bool) (n : ℕ) → n ≡ cond b (0 + n) (length cs) → cond (a && not b) 1 (suc n) ≡ cond (a || b) (0 + cond (a && not b) 1 (suc n)) (suc (length cs))
  by true b n h = omega arith
  by false true n h = omega arith
  by false false n h = omega arith

pub loop-i-init : goal.loop-i-init
loop-i-init c = record { place = behind_all c.args.columns.now c.args.name.now; within = omega arith }
