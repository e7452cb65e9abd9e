-- What holds of each batch that comes of another.
use Rattle.std.proofs.Common.{◌≡◌, ◌≤◌, ◌<◌, ◌+◌, ◌&&◌, ℕ, Bool, true, false, cond, List, [], ◌∷◌, ◌++◌, All, Ok, Some, None, length, get_or, nat_eq, refl, ap, sym, ◌∙◌, subst, arith, append_assoc}
use Rattle.std.proofs.lemmas.Bool.Decides.{nat_tests}
use Rattle.std.proofs.lemmas.List.{get_or_at, get_or_past, length-map, length_push}
use Rattle.std.proofs.lemmas.List.Elements.{All-nil, All-cons, All-head, All-tail, All-append}
use Rattle.std.specs.List.{slice_get}
use Rattle.kq_catalog_journal.specs.declared.batch.Batch.{Batch}
use Rattle.kq_catalog_journal.specs.declared.batch.Failure.{Failure}
use Rattle.kq_value.specs.Typed.{HasTypes}
use Rattle.kq_store_rows.specs.Widened.{widened}
use Rattle.kq_catalog_journal.specs.declared.policy.Due.{Due}
use Rattle.kq_catalog_journal.specs.declared.policy.Entry.{Entry}
use Rattle.kq_catalog_journal.specs.Derived.{Row, Queries, Cascade, Made, Failed, TooMany, Comes, first, Follows, no_more, too_many, ended, goes_on, Leaves, fails, gives, after, batches_of, failures_of, next_batch, IsDerived}
use Rattle.kq_catalog_journal.specs.Enabled.{enabled, enabled_from, enabled_in}
use Rattle.kq_catalog_journal.specs.Force.{Rules, due, in_force, in_force_from, in_policy, policy_at, runs_for, IsStanding}
use Rattle.kq_catalog_journal.specs.Typed.{IsLead, IsTyped}
use Rattle.kq_catalog_journal.proofs.Leading.{leads-typed}

-- ---- the entries in force

-- an enabled entry that names the source
pub record RunsFor (policies : List (List Entry)) (source : ℕ) (d : Due) : Type 0 where
  pub standing : IsStanding policies d
  pub names : d.source ≡ source

and_left : (a b : Bool) → a && b ≡ true → a ≡ true
and_left true b e = refl
and_left false b e = cc

and_right : (a b : Bool) → a && b ≡ true → b ≡ true
and_right true b e = e
and_right false b e = cc

same_number : (m n : ℕ) → nat_eq m n ≡ true → m ≡ n
same_number m n e = grind (arith, nat_tests)

at_front : {X : Type 0} (front : List X) (x : X) (back : List X) → slice_get (front ++ x ∷ back) (length front) ≡ Some x
at_front [] x back = refl
at_front (y ∷ front) x back = at_front front x back

one_more : (P : Due → Type 0) (runs : Bool) (d : Due) (ds : List Due) → (runs ≡ true → P d) → All P ds → All P (cond runs (d ∷ ds) ds)
one_more P true d ds here rest = All-cons P d ds (here refl) rest
one_more P false d ds here rest = rest

in_policy-runs : (policies : List (List Entry)) (source target place : ℕ) (front es : List Entry) → policy_at policies target ≡ front ++ es → length front ≡ place → All (RunsFor policies source) (in_policy source target place es)
in_policy-runs policies source target place front [] is at = All-nil (RunsFor policies source)
in_policy-runs policies source target place front (e ∷ es) is at =
    let stands : slice_get (policy_at policies target) place ≡ Some e = ap (λ (xs : List Entry). slice_get xs place) is ∙ ap (slice_get (front ++ e ∷ es)) (sym at) ∙ at_front front e es in
    let rest = in_policy-runs policies source target (place + 1) (front ++ e ∷ []) es (is ∙ sym (append_assoc front (e ∷ []) es)) (length_push front e ∙ ap (λ (n : ℕ). n + 1) at) in
    one_more (RunsFor policies source) (runs_for source e) (due target place e) (in_policy source target (place + 1) es)
    (λ runs. record {
      standing = record { entry = e; stands = stands; enabled = and_left e.enabled (nat_eq e.source source) runs; is = refl };
      names = same_number e.source source (and_right e.enabled (nat_eq e.source source) runs);
    }) rest

in_force_from-runs : (policies : List (List Entry)) (source target : ℕ) (front back : List (List Entry)) → policies ≡ front ++ back → length front ≡ target → All (RunsFor policies source) (in_force_from source target back)
in_force_from-runs policies source target front [] is at = All-nil (RunsFor policies source)
in_force_from-runs policies source target front (p ∷ ps) is at =
    let here : policy_at policies target ≡ p = ap (λ (xs : List (List Entry)). get_or xs target []) is ∙ get_or_at front p ps [] target at in
    All-append (RunsFor policies source) (in_policy source target 0 p) (in_force_from source (target + 1) ps) (in_policy-runs policies source target 0 [] p here refl)
    (in_force_from-runs policies source (target + 1) (front ++ p ∷ []) ps (is ∙ sym (append_assoc front (p ∷ []) ps)) (length_push front p ∙ ap (λ (n : ℕ). n + 1) at))

pub in_force-runs : (policies : List (List Entry)) (source : ℕ) → All (RunsFor policies source) (in_force policies source)
in_force-runs policies source = in_force_from-runs policies source 0 [] policies refl refl

enabled_in-standing : (policies : List (List Entry)) (target place : ℕ) (front es : List Entry) → policy_at policies target ≡ front ++ es → length front ≡ place → All (IsStanding policies) (enabled_in target place es)
enabled_in-standing policies target place front [] is at = All-nil (IsStanding policies)
enabled_in-standing policies target place front (e ∷ es) is at =
    let stands : slice_get (policy_at policies target) place ≡ Some e = ap (λ (xs : List Entry). slice_get xs place) is ∙ ap (slice_get (front ++ e ∷ es)) (sym at) ∙ at_front front e es in
    let rest = enabled_in-standing policies target (place + 1) (front ++ e ∷ []) es (is ∙ sym (append_assoc front (e ∷ []) es)) (length_push front e ∙ ap (λ (n : ℕ). n + 1) at) in
    one_more (IsStanding policies) e.enabled (due target place e) (enabled_in target (place + 1) es) (λ on. record { entry = e; stands = stands; enabled = on; is = refl }) rest

enabled_from-standing : (policies : List (List Entry)) (target : ℕ) (front back : List (List Entry)) → policies ≡ front ++ back → length front ≡ target → All (IsStanding policies) (enabled_from target back)
enabled_from-standing policies target front [] is at = All-nil (IsStanding policies)
enabled_from-standing policies target front (p ∷ ps) is at =
    let here : policy_at policies target ≡ p = ap (λ (xs : List (List Entry)). get_or xs target []) is ∙ get_or_at front p ps [] target at in
    All-append (IsStanding policies) (enabled_in target 0 p) (enabled_from (target + 1) ps) (enabled_in-standing policies target 0 [] p here refl)
    (enabled_from-standing policies (target + 1) (front ++ p ∷ []) ps (is ∙ sym (append_assoc front (p ∷ []) ps)) (length_push front p ∙ ap (λ (n : ℕ). n + 1) at))

-- the enabled entries of all policies
pub enabled-standing : (policies : List (List Entry)) → All (IsStanding policies) (enabled policies)
enabled-standing policies = enabled_from-standing policies 0 [] policies refl refl

-- ---- what passes from a batch to the next

-- where the batch has it that an entry runs for, so has the batch of what its query gives
abbrev pub Passes : Rules → Queries → (Batch → Type 0) → Type 0
Passes r q P = (b : Batch) (d : Due) (rows : List Row) → P b → RunsFor r.policies b.table d → q d b.rows (Ok rows) → length rows ≤ 1048576 → P (next_batch r.columns b d rows)

all-after : (P : Batch → Type 0) (bs : List Batch) (fs : List Failure) (o : Cascade) → All P bs → All P (batches_of o) → All P (batches_of (after bs fs o))
all-after P bs fs (Made batches failures) front back = All-append P bs batches front back
all-after P bs fs (Failed target cause) front back = All-nil P
all-after P bs fs TooMany front back = All-nil P

mutual
  Comes-all : (limit : ℕ) (r : Rules) (q : Queries) (P : Batch → Type 0) → Passes r q P → (b : Batch) (n : ℕ) (o : Cascade) (m : ℕ) → P b → Comes limit r q b n o m → All P (batches_of o)
  Comes-all limit r q P passes b n _ m has (first {o = o} follows) =
      all-after P (b ∷ []) [] o (All-cons P b [] has (All-nil P)) (Follows-all limit r q P passes b (in_force r.policies b.table) n o m has (in_force-runs r.policies b.table) follows)

  Follows-all : (limit : ℕ) (r : Rules) (q : Queries) (P : Batch → Type 0) → Passes r q P → (b : Batch) (ds : List Due) (n : ℕ) (o : Cascade) (m : ℕ) → P b → All (RunsFor r.policies b.table) ds → Follows limit r q b ds n o m → All P (batches_of o)
  Follows-all limit r q P passes b _ n _ _ has run no_more = All-nil P
  Follows-all limit r q P passes b _ n _ _ has run (too_many full) = All-nil P
  Follows-all limit r q P passes b _ n o m has run (ended {d = d} {ds = ds} room leaves end) = Leaves-all limit r q P passes b d (n + 1) o m has (All-head (RunsFor r.policies b.table) d ds run) leaves
  Follows-all limit r q P passes b _ n _ k has run (goes_on {d = d} {ds = ds} {m = m} {o = o} {rest = rest} room leaves open_ follows) =
      all-after P (batches_of o) (failures_of b d o) rest (Leaves-all limit r q P passes b d (n + 1) o m has (All-head (RunsFor r.policies b.table) d ds run) leaves)
      (Follows-all limit r q P passes b ds m rest k has (All-tail (RunsFor r.policies b.table) d ds run) follows)

  Leaves-all : (limit : ℕ) (r : Rules) (q : Queries) (P : Batch → Type 0) → Passes r q P → (b : Batch) (d : Due) (n : ℕ) (o : Cascade) (m : ℕ) → P b → RunsFor r.policies b.table d → Leaves limit r q b d n o m → All P (batches_of o)
  Leaves-all limit r q P passes b d n _ _ has run (fails by) = All-nil P
  Leaves-all limit r q P passes b d n o m has run (gives rows gave few comes) = Comes-all limit r q P passes (next_batch r.columns b d rows) n o m (passes b d rows has run gave few) comes

-- what the ingestion's own batch has, all have
pub IsDerived-all : (limit : ℕ) (r : Rules) (q : Queries) (P : Batch → Type 0) → Passes r q P → (own : Batch) (bs : List Batch) (fs : List Failure) → P own → IsDerived limit r q own (Made bs fs) → All P bs
IsDerived-all limit r q P passes own bs fs has derived = Comes-all limit r q P passes own 0 (Made bs fs) derived.queries has derived.comes

-- ---- types, tables and lengths

-- over rows of its source's types, the query of an entry gives rows that lack no column of its target's but the last ones
abbrev pub AreTyped : Rules → Queries → Type 0
AreTyped r q = (d : Due) (rows given : List Row) → IsStanding r.policies d → All (HasTypes (r.columns d.source)) rows → q d rows (Ok given) → All (IsLead (r.columns d.target)) given

pub IsDerived-typed : (limit : ℕ) (r : Rules) (q : Queries) → AreTyped r q → (own : Batch) (bs : List Batch) (fs : List Failure) → IsTyped r.columns own → IsDerived limit r q own (Made bs fs) → All (IsTyped r.columns) bs
IsDerived-typed limit r q typed = IsDerived-all limit r q (IsTyped r.columns) (λ b d rows has run gave few.
    leads-typed (r.columns d.target) rows (typed d b.rows rows run.standing (subst (λ (t : ℕ). All (HasTypes (r.columns t)) b.rows) (sym run.names) has) gave))

-- a target has a number of a table
target_within : (policies : List (List Entry)) (d : Due) → IsStanding policies d → length policies ≤ d.target → ⊥
target_within policies d standing past =
    let none : slice_get (policy_at policies d.target) d.place ≡ None = ap (λ (es : List Entry). slice_get es d.place) (get_or_past policies d.target [] past) in
    let stands = standing.stands in cc

pub IsDerived-stands : (limit : ℕ) (r : Rules) (q : Queries) (own : Batch) (bs : List Batch) (fs : List Failure) → own.table < length r.policies → IsDerived limit r q own (Made bs fs) → All (λ (b : Batch). b.table < length r.policies) bs
IsDerived-stands limit r q = IsDerived-all limit r q (λ (b : Batch). b.table < length r.policies) (λ b d rows has run gave few. within d run.standing)
  where
    within : (d : Due) → IsStanding r.policies d → d.target < length r.policies
    within d standing = let not_past = target_within r.policies d standing in omega (arith, not_past)

pub IsDerived-short : (limit : ℕ) (r : Rules) (q : Queries) (own : Batch) (bs : List Batch) (fs : List Failure) → length own.rows ≤ 1048576 → IsDerived limit r q own (Made bs fs) → All (λ (b : Batch). length b.rows ≤ 1048576) bs
IsDerived-short limit r q = IsDerived-all limit r q (λ (b : Batch). length b.rows ≤ 1048576) (λ b d rows has run gave few. let n = length-map rows (widened (r.columns d.target)) in omega (arith, n, few))
