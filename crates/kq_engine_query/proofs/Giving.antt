-- What is made of rows in one order, the body may give over them in any.
use Rattle.std.proofs.Common.{◌≡◌, ℕ, ℤ, pos, suc, Bool, true, false, List, [], ◌∷◌, ◌++◌, All, length, Some, Result, Ok, Err, slice_get, refl, sym, ap, ◌∙◌, subst, arith}
use Rattle.std.specs.Bool.{MatchBool}
use Rattle.std.specs.Option.{option_and_then}
use Rattle.std.proofs.lemmas.Bool.{false≢true}
use Rattle.kq_value.specs.Computed.{Computed, Is, Overflow}
use Rattle.kq_value.specs.declared.fault.EvalFault.{EvalFault}
use Rattle.kq_value.specs.declared.fault.EvalFault.TheVariants as fault
use Rattle.kq_run_plan.specs.kq_run_gather.Bodies.{AnswersMade, IsBody, MadeOf, columns_made, is_summarize, known_alone}
use Rattle.kq_run_plan.specs.kq_run_gather.Steps.{last_of}
use Rattle.kq_run_plan.proofs.Bodied.{body_gives, body_lost}
use Rattle.kq_run_plan.proofs.Typed.{gives_typed}
use Rattle.kq_run_plan.specs.declared.outcome.Outcome.{Outcome}
use Rattle.kq_run_plan.specs.declared.outcome.Outcome.TheVariants as outcome
use Rattle.kq_run_plan.specs.Gives.{Does, Follows, Gives, Unordered}
use Rattle.kq_run_plan.specs.Operators.{AnswersOne}
use Rattle.kq_run_plan.specs.Outcomes.{Row, is_fault}
use Rattle.kq_run_plan.specs.Typed.{TypedWorld}
use Rattle.kq_plan.specs.declared.names.NameKind.TheVariants as name
use Rattle.kq_plan.specs.declared.work.LeafKind.TheVariants as kind
use Rattle.kq_plan.specs.Fits.{FitsNames, columns_given}
use Rattle.kq_plan.specs.Plans.{Doing, Planned, Stepping, leaf, summarized}
use Rattle.kq_value.specs.declared.schema.Field.{Field}
use Rattle.kq_value.specs.Same.{Same}
use Rattle.kq_value.specs.Typed.{HasTypes, IsMoment}
use Rattle.kq_value.proofs.SameLemmas.{Same-trans}
use Rattle.kq_engine_query.specs.Views.{BodyGives, alone_world}
use Rattle.kq_engine_query.proofs.Known.{known_by, other_kind, same_columns}

-- ---- worlds of the same rows

mapped : (b : Bool) (A B C : Type 0) → (B → C) → MatchBool b A B → MatchBool b A C
mapped true A B C f m = m
mapped false A B C f m = f m

module _ (a b : List Row) (same : Same a b) where
  unordered : (stage : ℕ) (given : Computed (List Row)) (o : Outcome) → given ≡ Is a → Unordered stage given o → Unordered stage (Is b) o
  unordered stage given o is so =
      let (rows, fit, ends) = subst (λ (c : Computed (List Row)). Unordered stage c o) is so in
      (rows, Same-trans rows a b fit same, ends)

  does : (now : ℤ) (before : List Stepping) (done : List Outcome) (stage : ℕ) (cs : List Field) (d : Doing) (o : Outcome) → Does (alone_world a) now before done stage cs d o → Does (alone_world b) now before done stage cs d o
  does now before done stage cs (leaf k said) o (given, is, so) = (Is b, refl, unordered stage given o is so)
  does now before done stage cs d o so = so

  follows : (now : ℤ) (before : List Stepping) (done : List Outcome) (steps : List Stepping) (output : ℕ) (o : Outcome)
      → Follows (alone_world a) now before done steps output o → Follows (alone_world b) now before done steps output o
  follows now before done [] output o so = so
  follows now before done (s ∷ steps) output o (x, step, next) = (
    x,
    does now before done s.stage s.columns s.doing x step,
    mapped (is_fault x) (o ≡ x) (Follows (alone_world a) now (before ++ s ∷ []) (done ++ x ∷ []) steps output o) (Follows (alone_world b) now (before ++ s ∷ []) (done ++ x ∷ []) steps output o)
        (follows now (before ++ s ∷ []) (done ++ x ∷ []) steps output o) next,
  )

  gives_same : (p : Planned) (now : ℤ) (o : Outcome) → Gives p (alone_world a) now o → Gives p (alone_world b) now o
  gives_same p now o so = follows now [] [] p.steps p.output o so

-- ---- the types of what a body gives

get_last : (source last : Stepping) (by_row : List Stepping) → slice_get (source ∷ (by_row ++ last ∷ [])) (suc (length by_row)) ≡ Some last
get_last source last [] = refl
get_last source last (s ∷ by_row) = get_last s last by_row

last_is : (source last : Stepping) (by_row : List Stepping) → last_of (source ∷ (by_row ++ last ∷ [])) ≡ last
last_is source last [] = refl
last_is source last (s ∷ by_row) = last_is s last by_row

rows_of_groups : (s : Stepping) → is_summarize s.doing ≡ true → columns_given s ≡ Some s.columns
rows_of_groups s groups = by_doing s.doing groups refl
  where
    by_doing : (d : Doing) → is_summarize d ≡ true → s.doing ≡ d → columns_given s ≡ Some s.columns
    by_doing (summarized i es gs) is same = ap (λ (d : Doing). columns_given (record s { doing = d })) same
    by_doing d is same = absurd (false≢true is)

module _ (table : List ℕ) (columns : List Field) (p : Planned) (body : IsBody table columns p) where
  body_fits : FitsNames (known_alone columns) p (columns_made p)
  body_fits =
      let output : slice_get p.steps p.output ≡ Some body.last =
      ap (λ (ss : List Stepping). slice_get ss p.output) body.steps
      ∙ ap (slice_get (body.source ∷ (body.by_row ++ body.last ∷ []))) body.output
      ∙ get_last body.source body.last body.by_row in
      let made : columns_made p ≡ body.last.columns = ap (λ (ss : List Stepping). (last_of ss).columns) body.steps ∙ ap (λ (s : Stepping). s.columns) (last_is body.source body.last body.by_row) in
      record {
        steps = body.fits;
        output = ap (option_and_then columns_given) output ∙ rows_of_groups body.last body.groups ∙ ap Some (sym made);
      }

  module _ (rows : List Row) (typed : All (HasTypes columns) rows) where
    table_typed : (cs : List Field) (given : List Row) → known_by name.Table columns ≡ known_by name.Table cs → Is given ≡ Is rows → All (HasTypes cs) given
    table_typed cs given fits is =
        let same = same_columns name.Table columns cs fits in
        let also : given ≡ rows = cc in
        subst (λ (fs : List Field). All (HasTypes fs) given) same (subst (All (HasTypes columns)) (sym also) typed)

    alone_typed : TypedWorld (known_alone columns) (alone_world rows)
    alone_typed said kind.Table cs given fits is = table_typed cs given fits is
    alone_typed said kind.View cs given fits is = absurd (other_kind columns cs fits)
    alone_typed said kind.Part cs given fits is = absurd (other_kind columns cs fits)

    at_start : IsMoment (pos 0)
    at_start = (omega arith, omega arith)

    -- what is made of these rows, or of them in another order
    module _ (others : List Row) (same : Same others rows) where
      made : (out : List Row) → MadeOf p others (Is out) → BodyGives p rows (Is out)
      made out so =
          let gives = gives_same others rows same p (pos 0) (outcome.Table false out) (body_gives table columns p body (alone_world others) others refl out so) in
          record {
            outcome = outcome.Table false out;
            gives = gives;
            told = (refl, gives_typed (known_alone columns) (alone_world rows) (pos 0) p (columns_made p) (outcome.Table false out) at_start alone_typed body_fits gives);
          }

      lost : MadeOf p others Overflow → BodyGives p rows Overflow
      lost so =
          let over = body_lost table columns p body (alone_world others) others refl so in
          record { outcome = outcome.Overflow over.stage; gives = gives_same others rows same p (pos 0) (outcome.Overflow over.stage) over.gives_so; told = refl }

      pub answers_gives : (r : Result (List Row) EvalFault) → AnswersMade p others r → AnswersOne (BodyGives p rows) r
      answers_gives (Ok out) so = made out so
      answers_gives (Err fault.Overflow) so = lost so
      answers_gives (Err fault.Memory) so = so
