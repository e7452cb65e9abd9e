-- What contracts see of a turn and of a pass.
use Rattle.std.specs.Prelude.{◌≡◌, ℕ, Bool, true, false, List, [], ◌∷◌, Option, None}
use Rattle.atomic_table.specs.Seated.{TableId}
use Rattle.kq_lock.specs.declared.view.View.{View}

-- which turn it is, how many passes it began with, and the fixed part of the value that it began with
pub record TurnId : Type 0 where
  pub table : TableId
  pub passes : ℕ
  pub fixed : List ℕ

-- what a pass knows, of one turn
pub record Known (E : Type 0) : Type 0 where
  pub of : TurnId
  pub seen : List E
  pub worth : ℕ
  pub added : List E
  pub taken : List ℕ
  -- whether it holds the value, and the history that it took then; once it gave the value back, the one that it gave
  pub holds : Bool
  pub base : List E

module _ {E : Type 0} where
  abbrev pub IsIdle : Known E → Type 0
  IsIdle p = p.holds ≡ false

  abbrev pub known : TableId → View E → Known E
  known table v = record {
    of = record { table = table; passes = v.passes; fixed = v.fixed };
    seen = v.seen;
    worth = v.worth;
    added = v.added;
    taken = v.taken;
    holds = v.holds;
    base = v.base;
  }

-- the slots that a seat has: the one slot, empty, while it holds the value
abbrev pub carried : {S : Type 0} → Bool → List (ℕ × Option S)
carried false = []
carried true = (0, None) ∷ []
