-- A cascade whose queries are those that were asked.
use Rattle.std.proofs.Common.{◌≡◌, ◌≤◌, ◌<◌, ◌+◌, ℕ, Bool, true, false, List, [], ◌∷◌, ◌++◌, All, Contains, Option, Some, None, Ok, length, refl, ap, sym, ◌∙◌, subst, arith}
use Rattle.std.proofs.lemmas.List.{length_push}
use Rattle.std.proofs.lemmas.List.Elements.{All-nil, All-cons, All-push, Contains-append_left, Contains-push}
use Rattle.kq_catalog_journal.specs.declared.batch.Batch.{Batch}
use Rattle.kq_catalog_journal.specs.declared.batch.Failure.{Failure}
use Rattle.kq_store_rows.specs.declared.cause.Cause.{Cause}
use Rattle.kq_catalog_journal.specs.declared.policy.Due.{Due}
use Rattle.kq_policy_cascade.specs.declared.running.CascadeFault.{CascadeFault}
use Rattle.kq_policy_cascade.specs.declared.running.CascadeFault.TheVariants.{PolicyFailed, Full, Memory}
use Rattle.kq_policy_cascade.specs.declared.running.Derived.{Derived}
use Rattle.kq_catalog_journal.specs.Derived.{Row, Queries, Made, Failed, TooMany, FailsBy, gave_none, gave_too_many, Comes, Leaves, fails, next_batch, IsDerived}
use Rattle.kq_catalog_journal.specs.Enabled.{enabled}
use Rattle.kq_catalog_journal.specs.Force.{Rules, IsStanding}
use Rattle.kq_policy_cascade.specs.Makes.{among, Makes, RefusesBy}
use Rattle.kq_policy_cascade.specs.Runs.{batch_of, IsReady, Opens, Notes, RunsDue, opens, notes, FailsWhole}
use Rattle.kq_policy_cascade.specs.Steps.{State, begun, due_at, no_due, opened, left, IsLaid, Settles, FallsTo}
use Rattle.kq_catalog_journal.specs.Typed.{IsTyped}
use Rattle.kq_policy_cascade.proofs.Following.{Course, Agrees, Rests, Rests-begun, Then-left, Rests-opened, Rests-too_many, Found, Settled, Settles-settled, GoesOn, Fallen, Falls-fallen}
use Rattle.kq_policy_cascade.proofs.Listing.{left-enabled}
use Rattle.kq_catalog_journal.proofs.Wider.{Within, IsDerived-wider}

-- the course over the queries of some entries
abbrev pub course : ℕ → Rules → Queries → List Due → Batch → List Due → Course
course limit r q dues own final = record { limit = limit; rules = r; queries = among final q; dues = dues; own = own }

-- all of these are among those
abbrev pub Includes : List Due → List Due → Type 0
Includes asked final = (d : Due) → Contains asked d → Contains final d

-- whatever else is asked, what is left to come completes the whole
pub record IsUnderWay (limit : ℕ) (r : Rules) (q : Queries) (dues : List Due) (own : Batch) (asked : List Due) (s : State) : Type 0 where
  pub laid : IsLaid dues s
  pub typed : All (IsTyped r.columns) s.batches
  pub rests : (final : List Due) → Includes asked final → Rests (course limit r q dues own final) s.top s.below s.batches s.failures (length asked)

agrees : (limit : ℕ) (r : Rules) (q : Queries) (dues : List Due) (own : Batch) (final : List Due) → dues ≡ enabled r.policies → Agrees (course limit r q dues own final)
agrees limit r q dues own final are source = left-enabled r.policies source ∙ ap (λ (ds : List Due). left ds source 0) (sym are)

pub IsUnderWay-begun : (limit : ℕ) (r : Rules) (q : Queries) (dues : List Due) (own : Batch) (s : State) → dues ≡ enabled r.policies → IsTyped r.columns own → s ≡ begun own → IsUnderWay limit r q dues own [] s
IsUnderWay-begun limit r q dues own s are typed is = subst (IsUnderWay limit r q dues own []) (sym is) (record {
  laid = record { own = omega arith; noted = omega arith; below = (refl, refl) };
  typed = All-cons (IsTyped r.columns) own [] typed (All-nil (IsTyped r.columns));
  rests = λ final includes. Rests-begun (course limit r q dues own final) (agrees limit r q dues own final are);
})

-- the state once an entry is found, of which all but the frames stays
abbrev pub SettledFrom : List Due → State → Option Due → State → Type 0
SettledFrom dues s next t = Settles dues s.batches s.top s.below next t.top t.below × (t.batches ≡ s.batches) × (t.failures ≡ s.failures)

pub settled : (limit : ℕ) (r : Rules) (q : Queries) (dues : List Due) (own : Batch) (asked final : List Due) (s t : State) (next : Option Due) → IsUnderWay limit r q dues own asked s → SettledFrom dues s next t → Includes asked final
    → Settled (course limit r q dues own final) t.top t.below s.batches s.failures (length asked) next
settled limit r q dues own asked final s t next way from includes =
    Settles-settled (course limit r q dues own final) s.batches s.failures (length asked) s.top s.below next t.top t.below way.laid.own way.laid.noted way.laid.below (way.rests final includes) from.0

included : (asked : List Due) → Includes asked asked
included asked d has = has

-- all entries ran
pub whole : (limit : ℕ) (r : Rules) (q : Queries) (dues : List Due) (own : Batch) (asked : List Due) (s t : State) (d : Derived) → IsUnderWay limit r q dues own asked s → SettledFrom dues s None t
    → d.batches.items ≡ t.batches → d.failures ≡ t.failures → d.asked.items ≡ asked → Makes limit r q own d
whole limit r q dues own asked s t d way from batches failures are =
    let comes = settled limit r q dues own asked asked s t None way from (included asked) in
    let bs : d.batches.items ≡ s.batches = batches ∙ from.1 in
    let fs : d.failures ≡ s.failures = failures ∙ from.2 in
    record {
      comes = subst (λ (xs : List Due). Comes limit r (among xs q) own 0 (Made d.batches.items d.failures) (length xs)) (sym are)
          (subst (λ (xs : List Batch). Comes limit r (among asked q) own 0 (Made xs d.failures) (length asked)) (sym bs) (subst (λ (ys : List Failure). Comes limit r (among asked q) own 0 (Made s.batches ys) (length asked)) (sym fs) comes));
      typed = subst (All (IsTyped r.columns)) (sym bs) way.typed;
    }

-- ---- the next entry

pub found : (limit : ℕ) (r : Rules) (q : Queries) (dues : List Due) (own : Batch) (asked final : List Due) (s t : State) (d : Due) → IsUnderWay limit r q dues own asked s → SettledFrom dues s (Some d) t → Includes asked final
    → Found (course limit r q dues own final) t.top t.below t.batches t.failures (length asked) d
found limit r q dues own asked final s t d way from includes =
    let w = course limit r q dues own final in
    let here = settled limit r q dues own asked final s t (Some d) way from includes in
    subst (λ (bs : List Batch). Found w t.top t.below bs t.failures (length asked) d) (sym from.1) (subst (λ (fs : List Failure). Found w t.top t.below s.batches fs (length asked) d) (sym from.2) here)

pub ready : (limit : ℕ) (r : Rules) (q : Queries) (dues : List Due) (own : Batch) (asked : List Due) (s t : State) (d : Due) → All (IsStanding r.policies) dues → IsUnderWay limit r q dues own asked s → SettledFrom dues s (Some d) t
    → IsReady r dues d t
ready limit r q dues own asked s t d standing way from =
    let here = found limit r q dues own asked asked s t d way from (included asked) in
    record {
      laid = record { own = here.own; noted = here.noted; below = here.below };
      within = here.within;
      is = here.due;
      source = here.source;
      standing = subst (IsStanding r.policies) (sym here.due) (standing t.top.at no_due here.within);
      typed = subst (All (IsTyped r.columns)) (sym from.1) way.typed;
    }

among-wider : (asked : List Due) (q : Queries) → Within (among asked q) q
among-wider asked q d rows given gave = gave.1

-- a query too many
pub too_many_asked : (limit : ℕ) (r : Rules) (q : Queries) (dues : List Due) (own : Batch) (asked : List Due) (s t : State) (d : Due) → IsUnderWay limit r q dues own asked s → SettledFrom dues s (Some d) t → limit ≤ length asked
    → RefusesBy limit r q own (Full limit)
too_many_asked limit r q dues own asked s t d way from full =
    let here = found limit r q dues own asked asked s t d way from (included asked) in
    let comes = Rests-too_many (course limit r q dues own asked) t.top t.below t.batches t.failures (length asked) full here.is here.rests in
    (refl, IsDerived-wider limit r (among asked q) q (among-wider asked q) own TooMany (record { queries = length asked; comes = comes }))

-- ---- its query

includes-before : (asked final : List Due) (d : Due) → Includes (asked ++ d ∷ []) final → Includes asked final
includes-before asked final d includes x has = includes x (Contains-append_left asked (d ∷ []) x has)

-- the entry was asked, so its query is one of those
failed_among : (asked final : List Due) (q : Queries) (d : Due) (rows : List Row) (cause : Cause) → Contains final d → FailsBy q d rows cause → FailsBy (among final q) d rows cause
failed_among asked final q d rows cause has (gave_none gave) = gave_none (has, gave)
failed_among asked final q d rows _ has (gave_too_many given gave many) = gave_too_many given (has, gave) many

-- a query that failed, and what it came to
fallen : (limit : ℕ) (r : Rules) (q : Queries) (dues : List Due) (own : Batch) (asked final : List Due) (s t u : State) (d : Due) (cause : Cause) (left_over : Bool) → IsUnderWay limit r q dues own asked s → SettledFrom dues s (Some d) t
    → length asked < limit → Includes (asked ++ d ∷ []) final → FailsBy q d (batch_of t).rows cause → FallsTo dues d.target cause t left_over u
    → Fallen (course limit r q dues own final) d.target cause u (length asked + 1) left_over
fallen limit r q dues own asked final s t u d cause left_over way from room includes by falls =
    let w = course limit r q dues own final in
    let n = length asked in
    let here = found limit r q dues own asked final s t d way from (includes-before asked final d includes) in
    let typed = subst (All (IsTyped r.columns)) (sym from.1) way.typed in
    let has : Contains final d = includes d (Contains-push asked d) in
    let leaves : Leaves limit r (among final q) (batch_of t) (due_at dues t.top.at) (n + 1) (Failed d.target cause) (n + 1) =
    subst (λ (x : Due). Leaves limit r (among final q) (batch_of t) x (n + 1) (Failed d.target cause) (n + 1)) here.due (fails (failed_among asked final q d (batch_of t).rows cause has by)) in
    let then = Then-left w t.top t.below t.batches t.failures n (n + 1) (Failed d.target cause) room here.is leaves here.rests in
    Falls-fallen w d.target cause t.top t.below t.batches t.failures (n + 1) left_over u here.own here.noted here.below typed then falls

counted : (asked : List Due) (d : Due) → length asked + 1 ≡ length (asked ++ d ∷ [])
counted asked d = sym (length_push asked d)

noted-under_way : (limit : ℕ) (r : Rules) (q : Queries) (dues : List Due) (own : Batch) (asked : List Due) (s t u : State) (d : Due) → IsUnderWay limit r q dues own asked s → SettledFrom dues s (Some d) t → length asked < limit
    → Notes q dues d t u → IsUnderWay limit r q dues own (asked ++ d ∷ []) u
noted-under_way limit r q dues own asked s t u d way from room notes_ =
    let all = asked ++ d ∷ [] in
    let on : (final : List Due) → Includes all final → GoesOn (course limit r q dues own final) u (length asked + 1) =
    λ final includes. fallen limit r q dues own asked final s t u d notes_.cause true way from room includes notes_.fails notes_.falls in
    let here = on all (included all) in
    record {
      laid = here.laid;
      typed = here.typed;
      rests = λ final includes. subst (λ (n : ℕ). Rests (course limit r q dues own final) u.top u.below u.batches u.failures n) (counted asked d) (on final includes).rests;
    }

opened-laid : (r : Rules) (dues : List Due) (t : State) (b : Batch) → IsLaid dues t → t.top.at < length dues → IsLaid dues (opened t b)
opened-laid r dues t b laid within = record {
  own = let n = length_push t.batches b in omega (arith, n);
  noted = omega arith;
  below = (record { own = laid.own; noted = laid.noted; within = within }, laid.below);
}

opened-under_way : (limit : ℕ) (r : Rules) (q : Queries) (dues : List Due) (own : Batch) (asked : List Due) (s t u : State) (d : Due) → dues ≡ enabled r.policies → All (IsStanding r.policies) dues → IsUnderWay limit r q dues own asked s
    → SettledFrom dues s (Some d) t → length asked < limit → Opens r q d t u → IsUnderWay limit r q dues own (asked ++ d ∷ []) u
opened-under_way limit r q dues own asked s t u d are standing way from room opened_ =
    let all = asked ++ d ∷ [] in
    let given = opened_.given in
    let b = next_batch r.columns (batch_of t) d given in
    let is_ready = ready limit r q dues own asked s t d standing way from in
    let on : (final : List Due) → Includes all final → Rests (course limit r q dues own final) (opened t b).top (opened t b).below (opened t b).batches (opened t b).failures (length asked + 1) =
    λ final includes.
    let w = course limit r q dues own final in
    let here = found limit r q dues own asked final s t d way from (includes-before asked final d includes) in
    let has : Contains final d = includes d (Contains-push asked d) in
    let gave : among final q (due_at dues t.top.at) (batch_of t).rows (Ok given) = subst (λ (x : Due). among final q x (batch_of t).rows (Ok given)) here.due (has, opened_.gave) in
    subst (λ (x : Due). Rests w (opened t b).top (opened t b).below (t.batches ++ next_batch r.columns (batch_of t) x given ∷ []) t.failures (length asked + 1)) (sym here.due)
    (Rests-opened w t.top t.below t.batches t.failures (length asked) given (agrees limit r q dues own final are) room here.is gave opened_.few here.rests) in
    subst (IsUnderWay limit r q dues own all) (sym opened_.is) (record {
      laid = opened-laid r dues t b is_ready.laid is_ready.within;
      typed = All-push (IsTyped r.columns) t.batches b is_ready.typed opened_.typed;
      rests = λ final includes. subst (λ (n : ℕ). Rests (course limit r q dues own final) (opened t b).top (opened t b).below (opened t b).batches (opened t b).failures n) (counted asked d) (on final includes);
    })

-- after its query
pub ran : (limit : ℕ) (r : Rules) (q : Queries) (dues : List Due) (own : Batch) (asked more : List Due) (s t u : State) (d : Due) → dues ≡ enabled r.policies → All (IsStanding r.policies) dues → IsUnderWay limit r q dues own asked s
    → SettledFrom dues s (Some d) t → length asked < limit → more ≡ asked ++ d ∷ [] → RunsDue r q dues d t u → IsUnderWay limit r q dues own more u
ran limit r q dues own asked more s t u d are standing way from room is (opens opened_) = subst (λ (ds : List Due). IsUnderWay limit r q dues own ds u) (sym is) (opened-under_way limit r q dues own asked s t u d are standing way from room opened_)
ran limit r q dues own asked more s t u d are standing way from room is (notes notes_) = subst (λ (ds : List Due). IsUnderWay limit r q dues own ds u) (sym is) (noted-under_way limit r q dues own asked s t u d way from room notes_)

-- where no entry is left
pub refused : (limit : ℕ) (r : Rules) (q : Queries) (dues : List Due) (own : Batch) (asked : List Due) (s t : State) (d : Due) (fault : CascadeFault) → IsUnderWay limit r q dues own asked s → SettledFrom dues s (Some d) t → length asked < limit
    → FailsWhole q dues d t fault → RefusesBy limit r q own fault
refused limit r q dues own asked s t d (PolicyFailed target cause) way from room fails_ =
    let all = asked ++ d ∷ [] in
    let comes = fallen limit r q dues own asked all s t fails_.2.state d cause false way from room (included all) fails_.1 fails_.2.falls in
    subst (λ (x : ℕ). IsDerived limit r q own (Failed x cause)) (sym fails_.0)
    (IsDerived-wider limit r (among all q) q (among-wider all q) own (Failed d.target cause) (record { queries = length asked + 1; comes = comes }))
refused limit r q dues own asked s t d (Full most) way from room fails_ = absurd fails_
refused limit r q dues own asked s t d Memory way from room fails_ = tt
