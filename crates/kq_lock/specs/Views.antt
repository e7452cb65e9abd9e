-- A view after each step.
use Rattle.std.specs.Prelude.{◌+◌, ◌-◌, ℕ, true, false, List, [], ◌∷◌, ◌++◌, length}
use Rattle.kq_lock.specs.declared.view.View.{View}
use Rattle.kq_lock.specs.Histories.{gained, longer}

module _ {S E : Type 0} (history : S → List E) (fixed : S → List ℕ) where
  -- the view of the first pass, at the first value
  abbrev pub first_view : ℕ → S → View E
  first_view passes x = record { seen = history x; olds = []; holds = false; base = []; worth = passes; passes = passes; fixed = fixed x; added = history x; taken = [] }

module _ {E : Type 0} where
  -- after `won take` of a value with the history h
  abbrev pub taking_view : View E → List E → View E
  taking_view v h = record v { holds = true; base = h; taken = v.taken ++ length h ∷ [] }

  -- after `count store`, where h is the new history
  abbrev pub counted_view : View E → List E → View E
  counted_view v h = record v { base = h; added = v.added ++ gained v.base h }

  -- after `turn store`
  abbrev pub given_view : View E → View E
  given_view v = record v { holds = false; seen = v.base }

  -- after `seat split`: the seat's view, and that of the new seat
  abbrev pub left_view : View E → View E
  left_view v = record v { worth = v.worth - 1 }

  abbrev pub right_view : View E → View E
  right_view v = record { seen = v.seen; olds = []; holds = false; base = []; worth = 1; passes = v.passes; fixed = v.fixed; added = []; taken = [] }

  -- after `seat join`: the seat's view, and that of the seat which is spent
  abbrev pub joined_view : View E → View E → View E
  joined_view v w = record v { seen = longer v.seen w.seen; olds = v.seen ∷ w.seen ∷ (v.olds ++ w.olds); worth = v.worth + w.worth; added = v.added ++ w.added; taken = v.taken ++ w.taken }

  abbrev pub spent_view : View E
  spent_view = record { seen = []; olds = []; holds = false; base = []; worth = 0; passes = 0; fixed = []; added = []; taken = [] }
