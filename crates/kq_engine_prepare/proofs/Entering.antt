-- A policy that is due is lawful.
use Rattle.std.proofs.Common.{◌≡◌, ◌<◌, ℕ, false, List, [], ◌∷◌, ◌++◌, length, Option, Some, None, inl, inr, refl, ap, sym, ◌∙◌, subst, arith}
use Rattle.std.proofs.lemmas.Bool.{false≢true, ltb-true}
use Rattle.std.proofs.lemmas.List.Elements.{All-cons, All-head, All-tail}
use Rattle.std.specs.List.{All, slice_get}
use Rattle.std.specs.Option.{option_map, option_or}
use Rattle.kq_read_commands.specs.declared.columns.Identifier.{Identifier}
use Rattle.kq_policy_entries.specs.Entries.{AreEntries, IsEntryFor, IsEntryFrom, IsPolicyOf, elements_in}
use Rattle.kq_policy_entries.proofs.Binding.{AreEntries-length, few_elements}
use Rattle.kq_catalog_journal.specs.declared.event.Commit.{Commit}
use Rattle.kq_catalog_journal.specs.declared.event.Commit.TheVariants as commits
use Rattle.kq_catalog_journal.specs.declared.limits.Limits.{Limits}
use Rattle.kq_catalog_journal.specs.declared.policy.Entry.{Entry}
use Rattle.kq_catalog_journal.specs.History.{History, Log, NumberedTable, log, table_numbered, tables}
use Rattle.kq_catalog_journal.specs.Lawful.{IsEntry, IsNewPolicy, tables_known}
use Rattle.kq_catalog_journal.specs.PolicyBodies.{IsPolicyBody, reads_view, view_read}
use Rattle.kq_catalog_journal.proofs.Tables.{table_numbered-at}
use Rattle.kq_plan.specs.declared.names.NameKind.TheVariants as name
use Rattle.kq_plan.specs.declared.work.LeafKind.TheVariants as kind
use Rattle.kq_plan.specs.Fits.{FitAfter, FitsNames, FitsStep}
use Rattle.kq_plan.specs.Names.{Known}
use Rattle.kq_plan.specs.Plans.{Doing, leaf, one_row, numbers, written, scalar, kept, mapped, cut, counted as totalled, sorted, topped, apart, summarized, joined, united, expanded, Planned, Stepping, planned_of}
use Rattle.kq_policy_entries.specs.declared.written.Written.{Written}
use Rattle.kq_engine_query.specs.Worlds.{NumberedView, known_in, known_table, known_view, view_found}
use Rattle.kq_reply.specs.declared.refusal.Refusal.TheVariants as refusals
use Rattle.kq_value.specs.declared.schema.Field.{Field}
use Rattle.kq_engine_prepare.specs.Due.{Commits, IsEntriesDue, IsPolicyDue, SetsPolicy}
use Rattle.kq_engine_prepare.proofs.Defining.{table_name}
use Rattle.kq_engine_prepare.proofs.Fit.{IsFit, MakesNoView, counted-commit, no_commit}

-- ---- names that are tables'

some_same : {X : Type 0} {x z : X} → Some x ≡ Some z → x ≡ z
some_same h = cc

no_table : (columns : List Field) (v : NumberedView) → Some (known_view v) ≡ Some (name.Table, columns) → ⊥
no_table columns v e = let kinds : name.View ≡ name.Table = ap (λ (k : Known). k.0) (some_same e) in cc

table_alone : (o : Option NumberedTable) (v : Option NumberedView) (columns : List Field) → option_or (option_map known_table o) (option_map known_view v) ≡ Some (name.Table, columns) → option_map known_table o ≡ Some (name.Table, columns)
table_alone (Some n) v columns e = e
table_alone None (Some v) columns e = absurd (no_table columns v e)
table_alone None None columns e = e

table_known_so : (h : History) (said : List ℕ) (columns : List Field) → known_in h said ≡ Some (name.Table, columns) → tables_known (log h) said ≡ Some (name.Table, columns)
table_known_so h said columns e = table_alone (table_numbered said (tables (log h))) (view_found h said) columns e

-- ---- plans without views

fits_step : (known other : List ℕ → Option Known) (before : List Stepping) (d : Doing) (cs : List Field) → ((said : List ℕ) (columns : List Field) → known said ≡ Some (name.Table, columns) → other said ≡ Some (name.Table, columns))
    → view_read d ≡ false → FitsStep known before d cs → FitsStep other before d cs
fits_step known other before (leaf kind.Table said) cs keeps unread is = keeps said cs is
fits_step known other before (leaf kind.View said) cs keeps unread is = absurd (false≢true (sym unread))
fits_step known other before (leaf kind.Part said) cs keeps unread is = absurd (false≢true (sym unread))
fits_step known other before (one_row es) cs keeps unread is = is
fits_step known other before (numbers a b c) cs keeps unread is = is
fits_step known other before (written rows) cs keeps unread is = is
fits_step known other before (scalar e) cs keeps unread is = is
fits_step known other before (kept i e) cs keeps unread is = is
fits_step known other before (mapped i es) cs keeps unread is = is
fits_step known other before (cut i n) cs keeps unread is = is
fits_step known other before (totalled i) cs keeps unread is = is
fits_step known other before (sorted i ks) cs keeps unread is = is
fits_step known other before (topped i n k) cs keeps unread is = is
fits_step known other before (apart i is_) cs keeps unread is = is
fits_step known other before (summarized i es gs) cs keeps unread is = is
fits_step known other before (joined k i j on) cs keeps unread is = is
fits_step known other before (united arms) cs keeps unread is = is
fits_step known other before (expanded i e at t) cs keeps unread is = is

fit_after : (known other : List ℕ → Option Known) (before ss : List Stepping) → ((said : List ℕ) (columns : List Field) → known said ≡ Some (name.Table, columns) → other said ≡ Some (name.Table, columns))
    → All (λ (s : Stepping). reads_view s ≡ false) ss → FitAfter known before ss → FitAfter other before ss
fit_after known other before [] keeps viewless fit = tt
fit_after known other before (s ∷ ss) keeps viewless fit = (
  fits_step known other before s.doing s.columns keeps (All-head (λ (t : Stepping). reads_view t ≡ false) s ss viewless) fit.0,
  fit_after known other (before ++ s ∷ []) ss keeps (All-tail (λ (t : Stepping). reads_view t ≡ false) s ss viewless) fit.1,
)

-- a plan that names no view fits the tables alone
fits_tables : (h : History) (source : List ℕ) (p : Planned) (target : List Field) → IsPolicyBody source p → FitsNames (known_in h) p target → FitsNames (tables_known (log h)) p target
fits_tables h source p target body fits = record {
  steps = fit_after (known_in h) (tables_known (log h)) [] p.steps (table_known_so h) body.no_view fits.steps;
  output = fits.output;
}

-- ---- entries

entry_from : (h : History) (target : List Field) (w : Written) (e : Entry) (o : Option NumberedTable) → table_numbered w.source (tables (log h)) ≡ o → IsEntryFrom (known_in h) target w o e → IsEntry (log h) target e
entry_from h target w e None named is = absurd is
entry_from h target w e (Some source) named is = record {
  source = source.table;
  stands = ap (slice_get (tables (log h))) is.source_so ∙ (table_numbered-at w.source (tables (log h)) source named).1;
  body = subst (λ (n : List ℕ). IsPolicyBody n (planned_of e.plan)) (sym (table_name w.source (tables (log h)) source named)) is.plan_so.plan.body;
  fits = fits_tables h w.source (planned_of e.plan) target is.plan_so.plan.body is.fits;
}

entry_lawful : (h : History) (target : List Field) (x : Option Written) (e : Entry) → IsEntryFor (known_in h) (log h) target x e → IsEntry (log h) target e
entry_lawful h target None e is = absurd is
entry_lawful h target (Some w) e is = entry_from h target w e (table_numbered w.source (tables (log h))) refl is

none_lawful : (l : Log) (target : List Field) → All (IsEntry l target) []
none_lawful l target = λ k d within. absurd (omega (arith, within))

entries_lawful : (h : History) (target : List Field) (xs : List (Option Written)) (es : List Entry) → AreEntries (known_in h) (log h) target xs es → All (IsEntry (log h) target) es
entries_lawful h target [] [] all = none_lawful (log h) target
entries_lawful h target [] (e ∷ es) all = absurd all
entries_lawful h target (x ∷ xs) [] all = absurd all
entries_lawful h target (x ∷ xs) (e ∷ es) all = All-cons (IsEntry (log h) target) e es (entry_lawful h target x e all.0) (entries_lawful h target xs es all.1)

-- ---- policies

policy_lawful : (limits : Limits) (l : Log) (name : List ℕ) (found : NumberedTable) (policy : List ℕ) (h : History) (entries : List Entry) → table_numbered name (tables l) ≡ Some found → log h ≡ l
    → IsPolicyOf (known_in h) l found.table.schema limits.policies policy entries → SetsPolicy limits l found entries (Commits (commits.SetPolicy found.number entries)) → length l < limits.commits → IsNewPolicy limits l found.number entries
policy_lawful limits l name found policy h entries named logged gives sets room =
    let few = few_elements limits.policies policy gives.sound in
    let same = AreEntries-length (known_in h) l found.table.schema (elements_in policy) entries gives.each in
    let each = subst (λ (k : Log). AreEntries (known_in h) k found.table.schema (elements_in policy) entries) (sym logged) gives.each in
    record {
      table = found.table;
      stands = (table_numbered-at name (tables l) found named).1;
      few = omega (arith, few, same);
      each = subst (λ (k : Log). All (IsEntry k found.table.schema) entries) logged (entries_lawful h found.table.schema (elements_in policy) entries each);
      no_cycle = sets.no_cycle;
      room = room;
    }

entries_fit : (limits : Limits) (l : Log) (name : List ℕ) (found : NumberedTable) (policy : List ℕ) (h : History) (entries : List Entry) (c : Commit) → table_numbered name (tables l) ≡ Some found → log h ≡ l
    → IsPolicyOf (known_in h) l found.table.schema limits.policies policy entries → IsEntriesDue limits l found entries (Commits c) → IsFit limits l c
entries_fit limits l name found policy h entries c named logged gives (inl sets) =
    let (room, is) = counted-commit limits l (commits.SetPolicy found.number entries) c sets.due_so in
    let within = ltb-true (length l) limits.commits room in
    let here = subst (λ (d : Commit). SetsPolicy limits l found entries (Commits d)) (sym is) sets in
    subst (IsFit limits l) is (record { room = within; lawful = policy_lawful limits l name found policy h entries named logged gives here within })
entries_fit limits l name found policy h entries c named logged gives (inr closes) = absurd (no_commit c (refusals.Cycle found.table.name) closes.is)

pub policy-fit : (limits : Limits) (l : Log) (target : Identifier) (policy : List ℕ) (o : Option NumberedTable) (c : Commit) → table_numbered target.text (tables l) ≡ o → IsPolicyDue limits l target policy o (Commits c) → IsFit limits l c
policy-fit limits l target policy None c named due = absurd (no_commit c (refusals.Unknown target.at) due)
policy-fit limits l target policy (Some found) c named (inl gives) = entries_fit limits l target.text found policy gives.history gives.entries c named gives.logged gives.gives gives.due_so
policy-fit limits l target policy (Some found) c named (inr none) = absurd (no_commit c none.refusal none.is)

entries-no_view : (limits : Limits) (l : Log) (found : NumberedTable) (entries : List Entry) (c : Commit) → IsEntriesDue limits l found entries (Commits c) → MakesNoView c
entries-no_view limits l found entries c (inl sets) = subst MakesNoView (counted-commit limits l (commits.SetPolicy found.number entries) c sets.due_so).1 tt
entries-no_view limits l found entries c (inr closes) = absurd (no_commit c (refusals.Cycle found.table.name) closes.is)

-- a policy that is set is no view
pub policy-no_view : (limits : Limits) (l : Log) (target : Identifier) (policy : List ℕ) (o : Option NumberedTable) (c : Commit) → IsPolicyDue limits l target policy o (Commits c) → MakesNoView c
policy-no_view limits l target policy None c due = absurd (no_commit c (refusals.Unknown target.at) due)
policy-no_view limits l target policy (Some found) c (inl gives) = entries-no_view limits l found gives.entries c gives.due_so
policy-no_view limits l target policy (Some found) c (inr none) = absurd (no_commit c none.refusal none.is)
