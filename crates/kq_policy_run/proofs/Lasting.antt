-- What came of a batch comes of it still where nothing disturbs it.
use Rattle.std.proofs.Common.{◌≡◌, ◌≢◌, ◌⊎◌, ◌&&◌, ◌||◌, not, inl, inr, ◌+◌, ◌<◌, ℕ, suc, Bool, true, false, cond, drop, drop-cons, get_or, map, List, [], ◌∷◌, ◌++◌, All, Option, None, Some, length, nat_eq, refl, ap, sym, ◌∙◌, subst, arith, add-zero}
use Rattle.std.specs.List.{slice_get}
use Rattle.std.proofs.lemmas.Bool.{and_parts, false≢true}
use Rattle.std.proofs.lemmas.Bool.Decides.{eqb_tells}
use Rattle.std.proofs.lemmas.List.{get_or-map, length-map}
use Rattle.std.proofs.lemmas.List.Elements.{All-cons, All-nil}
use Rattle.kq_policy_cascade.specs.Makes.{among}
use Rattle.kq_catalog_journal.specs.declared.batch.Batch.{Batch}
use Rattle.kq_catalog_journal.specs.declared.event.Commit.TheVariants as commits
use Rattle.kq_catalog_journal.specs.declared.event.Event.{Event}
use Rattle.kq_catalog_journal.specs.declared.event.Operation.{Operation}
use Rattle.kq_catalog_journal.specs.declared.event.Operation.TheVariants as operations
use Rattle.kq_catalog_journal.specs.declared.policy.Due.{Due}
use Rattle.kq_catalog_journal.specs.declared.policy.Entry.{Entry}
use Rattle.kq_catalog_journal.specs.declared.table.Table.{Table}
use Rattle.kq_catalog_journal.specs.Beside.{DueGives}
use Rattle.kq_catalog_journal.specs.Derived.{Cascade, IsDerived}
use Rattle.kq_catalog_journal.specs.Force.{policy_at}
use Rattle.kq_catalog_journal.specs.History.{History, Log, NumberedTable, commits_of, log, tables, tables_from, tables_with}
use Rattle.kq_catalog_journal.specs.Policies.{policies, policies_from, policies_with, rules}
use Rattle.kq_catalog_journal.specs.Records.{batch_records, records_from}
use Rattle.kq_catalog_journal.proofs.Lasting.{AreKept, IsDerived-later, IsKept}
use Rattle.kq_catalog_journal.proofs.Unique.{records_from-append}
use Rattle.kq_plan.specs.declared.work.LeafKind.TheVariants as kind
use Rattle.kq_plan.specs.Plans.{Doing, Stepping, leaf, one_row, numbers, written, scalar, kept, mapped, cut, counted, sorted, topped, apart, summarized, joined, united, expanded, planned_of}
use Rattle.kq_value.specs.declared.record.Record.{Record}
use Rattle.kq_policy_run.specs.Quiet.{disturbs, gives_one, in_front, is_one_of, is_quiet, looked, looked_at, looked_by, looked_from, other_than}

-- ---- tests

not_so : (b : Bool) → not b ≡ true → b ≡ false
not_so true e = cc
not_so false e = refl

or_none : (a b : Bool) → a || b ≡ false → (a ≡ false) × (b ≡ false)
or_none true b e = absurd cc
or_none false b e = (refl, e)

or_left : (a b : Bool) → a ≡ true → a || b ≡ true
or_left true b e = refl
or_left false b e = absurd (false≢true e)

or_right : (a b : Bool) → b ≡ true → a || b ≡ true
or_right true b e = refl
or_right false b e = e

or_more : (a b c : Bool) → (b ≡ true → c ≡ true) → a || b ≡ true → a || c ≡ true
or_more true b c more e = refl
or_more false b c more e = more e

never : (b : Bool) → b ≡ false → b ≡ true → ⊥
never b is_not is = false≢true (sym is_not ∙ is)

one_left : (t : ℕ) (xs ys : List ℕ) → is_one_of t xs ≡ true → is_one_of t (xs ++ ys) ≡ true
one_left t [] ys e = absurd (false≢true e)
one_left t (x ∷ xs) ys e = or_more (nat_eq x t) (is_one_of t xs) (is_one_of t (xs ++ ys)) (one_left t xs ys) e

one_right : (t : ℕ) (xs ys : List ℕ) → is_one_of t ys ≡ true → is_one_of t (xs ++ ys) ≡ true
one_right t [] ys e = e
one_right t (x ∷ xs) ys e = or_right (nat_eq x t) (is_one_of t (xs ++ ys)) (one_right t xs ys e)

one_front : (t : ℕ) (o : Option ℕ) (ts : List ℕ) → is_one_of t ts ≡ true → is_one_of t (in_front o ts) ≡ true
one_front t None ts e = e
one_front t (Some k) ts e = or_right (nat_eq k t) (is_one_of t ts) e

itself : (t : ℕ) (ts : List ℕ) → is_one_of t (t ∷ ts) ≡ true
itself t ts = or_left (nat_eq t t) (is_one_of t ts) same
  where
    by_case : ((nat_eq t t ≡ true) × (t ≡ t)) ⊎ ((nat_eq t t ≡ false) × (t ≢ t)) → nat_eq t t ≡ true
    by_case (inl is) = is.0
    by_case (inr is) = absurd (is.1 refl)

    same : nat_eq t t ≡ true
    same = by_case (eqb_tells t t)

and_both : (a b c d : Bool) → d ≡ (b && c) → (a && d) ≡ ((a && b) && c)
and_both true b c d e = e
and_both false b c d e = refl

-- ---- walks

pub quiet-append : (ts : List ℕ) (h more : History) → is_quiet ts (h ++ more) ≡ (is_quiet ts h && is_quiet ts more)
quiet-append ts [] more = refl
quiet-append ts (e ∷ h) more = and_both (not (disturbs ts e.operation)) (is_quiet ts h) (is_quiet ts more) (is_quiet ts (h ++ more)) (quiet-append ts h more)

-- what is left of some events, and the next
pub next_event : {H : Type 0} (value : H → Event) (handles : List H) (i : ℕ) (h : H) → i < length handles → h ≡ get_or handles i h
    → drop i (map value handles) ≡ value h ∷ drop (i + 1) (map value handles)
next_event value handles i h within is =
    let es = map value handles in
    let n = length-map handles value in
    let more : suc i ≡ i + 1 = omega arith in
    drop-cons es i (value h) (omega (arith, n, within)) ∙ ap (λ (e : Event). e ∷ drop (suc i) es) (get_or-map value handles i h (value h) within ∙ ap value (sym is)) ∙ ap (λ (k : ℕ). value h ∷ drop k es) more

pub quiet-next : (ts : List ℕ) (whole before left : History) (e : Event) → before ≡ e ∷ left → disturbs ts e.operation ≡ false → is_quiet ts before ≡ is_quiet ts whole → is_quiet ts left ≡ is_quiet ts whole
quiet-next ts whole before left e is none same = ap (λ (b : Bool). not b && is_quiet ts left) (sym none) ∙ ap (is_quiet ts) (sym is) ∙ same

pub quiet-ended : (ts : List ℕ) (whole before left : History) (e : Event) → before ≡ e ∷ left → disturbs ts e.operation ≡ true → is_quiet ts before ≡ is_quiet ts whole → false ≡ is_quiet ts whole
quiet-ended ts whole before left e is one same = ap (λ (b : Bool). not b && is_quiet ts left) (sym one) ∙ ap (is_quiet ts) (sym is) ∙ same

-- the rest is as quiet as what stands in front of it lets it be
pub quiet-part : (ts : List ℕ) (whole before part left : History) → before ≡ part ++ left → is_quiet ts part ≡ true → is_quiet ts before ≡ is_quiet ts whole → is_quiet ts left ≡ is_quiet ts whole
quiet-part ts whole before part left is quiet same = ap (λ (b : Bool). b && is_quiet ts left) (sym quiet) ∙ sym (quiet-append ts part left) ∙ ap (is_quiet ts) (sym is) ∙ same

pub quiet-parted : (ts : List ℕ) (whole before part left : History) → before ≡ part ++ left → is_quiet ts part ≡ false → is_quiet ts before ≡ is_quiet ts whole → false ≡ is_quiet ts whole
quiet-parted ts whole before part left is loud same = ap (λ (b : Bool). b && is_quiet ts left) (sym loud) ∙ sym (quiet-append ts part left) ∙ ap (is_quiet ts) (sym is) ∙ same

-- ---- tables and policies

tables_from-append : (n : ℕ) (made : List Table) (l more : Log) → tables_from n made (l ++ more) ≡ tables_from (n + length l) (tables_from n made l) more
tables_from-append n made [] more = ap (λ (k : ℕ). tables_from k made more) (sym (add-zero n))
tables_from-append n made (c ∷ l) more =
    let same : n + 1 + length l ≡ n + length (c ∷ l) = omega arith in
    tables_from-append (n + 1) (tables_with (n + 1) c made) l more ∙ ap (λ (k : ℕ). tables_from k (tables_from (n + 1) (tables_with (n + 1) c made) l) more) same

tables_one : (ts : List ℕ) (o : Operation) (n : ℕ) (made : List Table) → disturbs ts o ≡ false → tables_from n made (commits_of o) ≡ made
tables_one ts (operations.Commit (commits.CreateTable name schema)) n made q = absurd cc
tables_one ts (operations.Commit (commits.SetPolicy table entries)) n made q = absurd cc
tables_one ts (operations.Commit (commits.CreateView view)) n made q = refl
tables_one ts (operations.Commit (commits.AlterMerge table columns)) n made q = absurd cc
tables_one ts (operations.Commit (commits.Ingest batches failures)) n made q = refl
tables_one ts (operations.Fold view to) n made q = refl
tables_one ts (operations.Merge table old new) n made q = refl

tables_still : (ts : List ℕ) (n : ℕ) (made : List Table) (h : History) → is_quiet ts h ≡ true → tables_from n made (log h) ≡ made
tables_still ts n made [] q = refl
tables_still ts n made (e ∷ h) q =
    let both = and_parts (not (disturbs ts e.operation)) (is_quiet ts h) q in
    let first = commits_of e.operation in
    tables_from-append n made first (log h)
    ∙ ap (λ (xs : List Table). tables_from (n + length first) xs (log h)) (tables_one ts e.operation n made (not_so (disturbs ts e.operation) both.0))
    ∙ tables_still ts (n + length first) made h both.1

-- the tables with their columns are the same
pub tables-quiet : (ts : List ℕ) (l : Log) (more : History) → is_quiet ts more ≡ true → tables (l ++ log more) ≡ tables l
tables-quiet ts l more q = tables_from-append 0 [] l (log more) ∙ tables_still ts (0 + length l) (tables l) more q

policies_from-append : (ps : List (List Entry)) (l more : Log) → policies_from ps (l ++ more) ≡ policies_from (policies_from ps l) more
policies_from-append ps [] more = refl
policies_from-append ps (c ∷ l) more = policies_from-append (policies_with c ps) l more

policies_one : (ts : List ℕ) (o : Operation) (ps : List (List Entry)) → disturbs ts o ≡ false → policies_from ps (commits_of o) ≡ ps
policies_one ts (operations.Commit (commits.CreateTable name schema)) ps q = absurd cc
policies_one ts (operations.Commit (commits.SetPolicy table entries)) ps q = absurd cc
policies_one ts (operations.Commit (commits.CreateView view)) ps q = refl
policies_one ts (operations.Commit (commits.AlterMerge table columns)) ps q = absurd cc
policies_one ts (operations.Commit (commits.Ingest batches failures)) ps q = refl
policies_one ts (operations.Fold view to) ps q = refl
policies_one ts (operations.Merge table old new) ps q = refl

policies_still : (ts : List ℕ) (ps : List (List Entry)) (h : History) → is_quiet ts h ≡ true → policies_from ps (log h) ≡ ps
policies_still ts ps [] q = refl
policies_still ts ps (e ∷ h) q =
    let both = and_parts (not (disturbs ts e.operation)) (is_quiet ts h) q in
    let first = commits_of e.operation in
    policies_from-append ps first (log h)
    ∙ ap (λ (xs : List (List Entry)). policies_from xs (log h)) (policies_one ts e.operation ps (not_so (disturbs ts e.operation) both.0))
    ∙ policies_still ts ps h both.1

policies_quiet : (ts : List ℕ) (l : Log) (more : History) → is_quiet ts more ≡ true → policies (l ++ log more) ≡ policies l
policies_quiet ts l more q = policies_from-append [] l (log more) ∙ policies_still ts (policies l) more q

-- ---- rows

passed_over : (ts : List ℕ) (t at ordinal : ℕ) (b : Batch) (bs : List Batch) → is_one_of b.table ts ≡ false → is_one_of t ts ≡ true → batch_records t at ordinal bs ≡ []
    → ((nat_eq b.table t ≡ true) × (b.table ≡ t)) ⊎ ((nat_eq b.table t ≡ false) × (b.table ≢ t)) → batch_records t at ordinal (b ∷ bs) ≡ []
passed_over ts t at ordinal b bs none one rest (inl here) = absurd (never (is_one_of t ts) (ap (λ (k : ℕ). is_one_of k ts) (sym here.1) ∙ none) one)
passed_over ts t at ordinal b bs none one rest (inr there) = rw there.0 rest

none_by : (ts : List ℕ) (t at ordinal : ℕ) (bs : List Batch) → gives_one ts bs ≡ false → is_one_of t ts ≡ true → batch_records t at ordinal bs ≡ []
none_by ts t at ordinal [] none one = refl
none_by ts t at ordinal (b ∷ bs) none one =
    let parts = or_none (is_one_of b.table ts) (gives_one ts bs) none in
    passed_over ts t at ordinal b bs parts.0 one (none_by ts t at ordinal bs parts.1 one) (eqb_tells b.table t)

none_one : (ts : List ℕ) (t n : ℕ) (o : Operation) → disturbs ts o ≡ false → is_one_of t ts ≡ true → records_from t n (commits_of o) ≡ []
none_one ts t n (operations.Commit (commits.CreateTable name schema)) q one = refl
none_one ts t n (operations.Commit (commits.SetPolicy table entries)) q one = refl
none_one ts t n (operations.Commit (commits.CreateView view)) q one = refl
none_one ts t n (operations.Commit (commits.AlterMerge table columns)) q one = refl
none_one ts t n (operations.Commit (commits.Ingest batches failures)) q one = let l : List Record = [] in ap (λ (rs : List Record). rs ++ l) (none_by ts t (n + 1) 0 batches q one)
none_one ts t n (operations.Fold view to) q one = refl
none_one ts t n (operations.Merge table old new) q one = refl

-- none of these tables was given rows
none_given : (ts : List ℕ) (t n : ℕ) (h : History) → is_quiet ts h ≡ true → is_one_of t ts ≡ true → records_from t n (log h) ≡ []
none_given ts t n [] q one = refl
none_given ts t n (e ∷ h) q one =
    let both = and_parts (not (disturbs ts e.operation)) (is_quiet ts h) q in
    let first = commits_of e.operation in
    records_from-append t n first (log h)
    ∙ ap (λ (rs : List Record). rs ++ records_from t (n + length first) (log h)) (none_one ts t n e.operation (not_so (disturbs ts e.operation) both.0) one)
    ∙ none_given ts t (n + length first) h both.1 one

-- ---- what queries look into

module _ (l more : Log) where
  abbrev GivesNone : List ℕ → Type 0
  GivesNone ts = (t : ℕ) → is_one_of t ts ≡ true → records_from t (length l) more ≡ []

  kept_found : (source : ℕ) (found : NumberedTable) (ts : List ℕ) → GivesNone (in_front (other_than source (Some found)) ts) → found.number ≢ source → records_from found.number (length l) more ≡ []
  kept_found source found ts none other = by_case (eqb_tells found.number source)
    where
      by_case : ((nat_eq found.number source ≡ true) × (found.number ≡ source)) ⊎ ((nat_eq found.number source ≡ false) × (found.number ≢ source)) → records_from found.number (length l) more ≡ []
      by_case (inl same) = absurd (other same.1)
      by_case (inr differs) =
          let here : GivesNone (found.number ∷ ts) = subst (λ (b : Bool). GivesNone (in_front (cond b None (Some found.number)) ts)) differs.0 none in
          here found.number (itself found.number ts)

  kept_step : (source : ℕ) (d : Doing) (ts : List ℕ) → GivesNone (in_front (looked_by l source d) ts) → IsKept l more source d
  kept_step source (leaf kind.Table said) ts none = λ found at other. kept_found source found ts (subst (λ (o : Option NumberedTable). GivesNone (in_front (other_than source o) ts)) at none) other
  kept_step source (leaf kind.View said) ts none = tt
  kept_step source (leaf kind.Part said) ts none = tt
  kept_step source (one_row es) ts none = tt
  kept_step source (numbers from to by) ts none = tt
  kept_step source (written ws) ts none = tt
  kept_step source (scalar e) ts none = tt
  kept_step source (kept i e) ts none = tt
  kept_step source (mapped i es) ts none = tt
  kept_step source (cut i n) ts none = tt
  kept_step source (counted i) ts none = tt
  kept_step source (sorted i ks) ts none = tt
  kept_step source (topped i n k) ts none = tt
  kept_step source (apart i is) ts none = tt
  kept_step source (summarized i es gs) ts none = tt
  kept_step source (joined k i j on) ts none = tt
  kept_step source (united arms) ts none = tt
  kept_step source (expanded i e at t) ts none = tt

  kept_steps : (source : ℕ) (steps : List Stepping) → GivesNone (looked_from l source steps) → All (λ (s : Stepping). IsKept l more source s.doing) steps
  kept_steps source [] none = All-nil (λ (s : Stepping). IsKept l more source s.doing)
  kept_steps source (s ∷ steps) none =
      All-cons (λ (x : Stepping). IsKept l more source x.doing) s steps (kept_step source s.doing (looked_from l source steps) none)
      (kept_steps source steps (λ t one. none t (one_front t (looked_by l source s.doing) (looked_from l source steps) one)))

  kept_entries : (asked : List Due) → GivesNone (looked l asked) → All (AreKept l more) asked
  kept_entries [] none = All-nil (AreKept l more)
  kept_entries (d ∷ asked) none =
      let mine = looked_at l (slice_get (policy_at (policies l) d.target) d.place) in
      All-cons (AreKept l more) d asked
      (λ e at. kept_steps e.source (planned_of e.plan).steps (subst (λ (o : Option Entry). GivesNone (looked_at l o)) at (λ t one. none t (one_left t mine (looked l asked) one))))
      (kept_entries asked (λ t one. none t (one_right t mine (looked l asked) one)))

-- ---- what comes of a batch

pub derived-still : (limit : ℕ) (l : Log) (more : History) (asked : List Due) (own : Batch) (o : Cascade) → is_quiet (looked l asked) more ≡ true → IsDerived limit (rules l) (among asked (DueGives l)) own o
    → IsDerived limit (rules (l ++ log more)) (DueGives (l ++ log more)) own o
derived-still limit l more asked own o q derived =
    let ts = looked l asked in
    IsDerived-later limit l (log more) asked own o
    (record {
      tables = tables-quiet ts l more q;
      policies = policies_quiet ts l more q;
      kept = kept_entries l (log more) asked (λ t one. none_given ts t (length l) more q one);
    })
    derived
