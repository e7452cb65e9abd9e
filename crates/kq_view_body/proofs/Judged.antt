-- The fault that is found a part at a time is the one of the form.
use Rattle.std.proofs.Common.{◌≡◌, ℕ, Bool, true, false, List, [], ◌∷◌, ◌++◌, ◌⊎◌, inl, inr, Option, Some, None, refl, sym, ap}
use Rattle.std.specs.Option.{unwrap_or}
use Rattle.kq_view_body.specs.Bodies.{Part, table_name, row_operator, summarize, foreign, place_of, is_steps, is_body, IsLeftmost, IsUnfinished, IsBodyFault}
use Rattle.kq_view_body.specs.Faults.{steps_fault, body_fault}
use Rattle.kq_view_body.specs.Parts.{foreign_at, lets_place, none, operator_parts, pipe_parts, query_parts, source_part}
use Rattle.kq_read_grammar.specs.Trees.{TabularTree, pipeline, QueryTree}

same_place : (a b : ℕ) → Some a ≡ Some b → b ≡ a
same_place a b e = sym (ap (λ o. unwrap_or o 0) e)

-- ---- no fault

steps_whole : (first : ℕ) (ps : List Part) → steps_fault false first ps ≡ None → is_steps ps ≡ true
steps_whole first [] e = let no_way : Some first ≡ None = e in absurd (cc)
steps_whole first (row_operator t ∷ ps) e = steps_whole first ps e
steps_whole first (summarize t ∷ []) e = refl
steps_whole first (summarize t ∷ p ∷ ps) e = let no_way : Some (place_of p) ≡ None = e in absurd (cc)
steps_whole first (table_name t ∷ ps) e = let no_way : Some t ≡ None = e in absurd (cc)
steps_whole first (foreign t ∷ ps) e = let no_way : Some t ≡ None = e in absurd (cc)

body_whole : (p : Part) (ps : List Part) → body_fault (p ∷ ps) ≡ None → is_body (p ∷ ps) ≡ true
body_whole (table_name t) ps e = steps_whole t ps e
body_whole (row_operator t) ps e = let no_way : Some t ≡ None = e in absurd (cc)
body_whole (summarize t) ps e = let no_way : Some t ≡ None = e in absurd (cc)
body_whole (foreign t) ps e = let no_way : Some t ≡ None = e in absurd (cc)

-- ---- a fault

abbrev BeginSteps : List Part → Type 0
BeginSteps ps = (more : List Part) × (is_steps (ps ++ more) ≡ true)

record LeftmostStep (ps : List Part) (at : ℕ) : Type 0 where
  before : List Part
  part : Part
  after : List Part
  parts : ps ≡ before ++ part ∷ after
  place : at ≡ place_of part
  goes_on : BeginSteps before
  stops : BeginSteps (before ++ part ∷ []) → ⊥

record StepsFault (first : ℕ) (ps : List Part) (at : ℕ) : Type 0 where
  no_steps : is_steps ps ≡ false
  told : LeftmostStep ps at ⊎ ((at ≡ first) × BeginSteps ps)

none_true : {A : Type 0} → false ≡ true → A
none_true e = absurd (cc)

steps_faulty : (first : ℕ) (ps : List Part) (at : ℕ) → steps_fault false first ps ≡ Some at → StepsFault first ps at
steps_faulty first [] at e = record { no_steps = refl; told = inr (same_place first at e, (summarize 0 ∷ [], refl)) }
steps_faulty first (row_operator t ∷ ps) at e =
    let f = steps_faulty first ps at e in
    record {
      no_steps = f.no_steps;
      told = elim f.told [
        | inl l ↦ inl (record {
          before = row_operator t ∷ l.before;
          part = l.part;
          after = l.after;
          parts = ap (λ x. row_operator t ∷ x) l.parts;
          place = l.place;
          goes_on = (l.goes_on.0, l.goes_on.1);
          stops = λ b. l.stops (b.0, b.1);
        })
        | inr u ↦ inr (u.0, (u.1.0, u.1.1))
      ];
    }
steps_faulty first (summarize t ∷ []) at e = let no_way : None ≡ Some at = e in absurd (cc)
steps_faulty first (summarize t ∷ p ∷ ps) at e =
    record {
      no_steps = refl;
      told = inl (record { before = summarize t ∷ []; part = p; after = ps; parts = refl; place = same_place (place_of p) at e; goes_on = ([], refl); stops = λ b. none_true b.1 });
    }
steps_faulty first (table_name t ∷ ps) at e =
    record {
      no_steps = refl;
      told = inl (record { before = []; part = table_name t; after = ps; parts = refl; place = same_place t at e; goes_on = (summarize 0 ∷ [], refl); stops = λ b. none_true b.1 });
    }
steps_faulty first (foreign t ∷ ps) at e =
    record {
      no_steps = refl;
      told = inl (record { before = []; part = foreign t; after = ps; parts = refl; place = same_place t at e; goes_on = (summarize 0 ∷ [], refl); stops = λ b. none_true b.1 });
    }

-- a first part that no body begins with
at_first : (p : Part) (ps : List Part) (at : ℕ) → (((more : List Part) × (is_body (p ∷ more) ≡ true)) → ⊥) → is_body (p ∷ ps) ≡ false → Some (place_of p) ≡ Some at → IsBodyFault (p ∷ ps) at
at_first p ps at apart leaves e =
    record {
      no_body = leaves;
      told = inl (record { before = []; part = p; after = ps; parts = refl; place = same_place (place_of p) at e; goes_on = (table_name 0 ∷ summarize 0 ∷ [], refl); stops = λ b. apart (b.0, b.1) });
    }

body_faulty : (p : Part) (ps : List Part) (at : ℕ) → body_fault (p ∷ ps) ≡ Some at → IsBodyFault (p ∷ ps) at
body_faulty (table_name t) ps at e =
    let f = steps_faulty t ps at e in
    record {
      no_body = f.no_steps;
      told = elim f.told [
        | inl l ↦ inl (record {
          before = table_name t ∷ l.before;
          part = l.part;
          after = l.after;
          parts = ap (λ x. table_name t ∷ x) l.parts;
          place = l.place;
          goes_on = (l.goes_on.0, l.goes_on.1);
          stops = λ b. l.stops (b.0, b.1);
        })
        | inr u ↦ inr (record { first = table_name t; others = ps; parts = refl; place = u.0; goes_on = (u.1.0, u.1.1) })
      ];
    }
body_faulty (row_operator t) ps at e = at_first (row_operator t) ps at (λ b. none_true b.1) refl e
body_faulty (summarize t) ps at e = at_first (summarize t) ps at (λ b. none_true b.1) refl e
body_faulty (foreign t) ps at e = at_first (foreign t) ps at (λ b. none_true b.1) refl e

-- ---- both

abbrev pub Told : List Part → Option ℕ → Type 0
Told ps None = is_body ps ≡ true
Told ps (Some at) = IsBodyFault ps at

body_told : (p : Part) (ps : List Part) (r : Option ℕ) → r ≡ body_fault (p ∷ ps) → Told (p ∷ ps) r
body_told p ps None e = body_whole p ps (sym e)
body_told p ps (Some at) e = body_faulty p ps at (sym e)

pipe_told : (text name : List ℕ) (first : Bool) (q : TabularTree) (o r : Option ℕ) → r ≡ body_fault (foreign_at o ++ pipe_parts text name first q) → Told (foreign_at o ++ pipe_parts text name first q) r
pipe_told text name first (pipeline s bs) None r e = body_told (source_part text name first s) (operator_parts text bs) r e
pipe_told text name first (pipeline s bs) (Some t) r e = body_told (foreign t) (pipe_parts text name first (pipeline s bs)) r e

pub query_told : (text name : List ℕ) (q : QueryTree) (r : Option ℕ) → r ≡ body_fault (query_parts text name q) → Told (query_parts text name q) r
query_told text name q r e = pipe_told text name (none q.lets) q.tabular (lets_place text [] q.lets) r e
