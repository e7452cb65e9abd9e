-- What the names of an entry's plan stand for after a longer log.
use Rattle.std.proofs.Common.{◌≡◌, ◌++◌, ◌∷◌, [], ℕ, Bool, true, false, cond, List, All, Contains, Option, Some, None, length, option_map, take, refl, ap, sym, ◌∙◌, subst, arith}
use Rattle.std.proofs.lemmas.Bool.{false≢true}
use Rattle.std.proofs.lemmas.List.Elements.{All-contains_itself, All-cons, All-head, All-nil, All-tail}
use Rattle.std.proofs.lemmas.Map.Made.{Contains-tail}
use Rattle.std.proofs.lemmas.Slice.Eq.{bytes_eq-Decides}
use Rattle.kq_catalog_journal.specs.History.{Log, NumberedTable, table_numbered, tables}
use Rattle.kq_catalog_journal.specs.Lawful.{tables_known}
use Rattle.kq_catalog_journal.proofs.Entered.{IsReadable, IsReadable-later}
use Rattle.kq_plan.specs.declared.names.NameKind.{NameKind}
use Rattle.kq_plan.specs.declared.names.NameKind.TheVariants as name
use Rattle.kq_plan.specs.declared.work.LeafKind.{LeafKind}
use Rattle.kq_plan.specs.declared.work.LeafKind.TheVariants as kind
use Rattle.kq_plan.specs.Fits.{FitAfter, FitsNames, FitsLeaf, FitsStep}
use Rattle.kq_plan.specs.Names.{Known}
use Rattle.kq_plan.specs.Plans.{Doing, Planned, Stepping, leaf, one_row, numbers, written, scalar, kept, mapped, cut, counted, sorted, topped, apart, summarized, joined, united, expanded}
use Rattle.kq_value.specs.declared.schema.Field.{Field}
use Rattle.kq_policy_run.specs.Reading.{IsFirstOf, is_leaf_of, known_as_read, known_first, width_read}
use Rattle.kq_policy_run.proofs.Cutting.{first_of}

-- ---- leaves

abbrev LeafFits : (List ℕ → Option Known) → Doing → List Field → Type 0
LeafFits known (leaf k said) cs = FitsLeaf k (known said) cs
LeafFits known d cs = Unit {0}

abbrev StepLeaf : (List ℕ → Option Known) → Stepping → Type 0
StepLeaf known s = LeafFits known s.doing s.columns

leaf_fits : (known : List ℕ → Option Known) (before : List Stepping) (d : Doing) (cs : List Field) → FitsStep known before d cs → LeafFits known d cs
leaf_fits known before (leaf k said) cs fits = fits
leaf_fits known before (one_row es) cs fits = tt
leaf_fits known before (numbers from to by) cs fits = tt
leaf_fits known before (written rows) cs fits = tt
leaf_fits known before (scalar e) cs fits = tt
leaf_fits known before (kept i e) cs fits = tt
leaf_fits known before (mapped i es) cs fits = tt
leaf_fits known before (cut i n) cs fits = tt
leaf_fits known before (counted i) cs fits = tt
leaf_fits known before (sorted i ks) cs fits = tt
leaf_fits known before (topped i n k) cs fits = tt
leaf_fits known before (apart i is) cs fits = tt
leaf_fits known before (summarized i es gs) cs fits = tt
leaf_fits known before (joined kind i j on) cs fits = tt
leaf_fits known before (united arms) cs fits = tt
leaf_fits known before (expanded i e at t) cs fits = tt

leaves_fit : (known : List ℕ → Option Known) (before steps : List Stepping) → FitAfter known before steps → All (StepLeaf known) steps
leaves_fit known before [] fits = All-nil (StepLeaf known)
leaves_fit known before (s ∷ steps) fits = All-cons (StepLeaf known) s steps (leaf_fits known before s.doing s.columns fits.0) (leaves_fit known (before ++ s ∷ []) steps fits.1)

-- ---- how many columns are read of a name

abbrev columns_known : Option Known → List Field
columns_known (Some k) = k.1
columns_known None = []

abbrev kind_known : Option Known → NameKind
kind_known (Some k) = k.0
kind_known None = name.Table

abbrev as_table : List Field → Option Known
as_table cs = Some (name.Table, cs)

abbrev as_view : List Field → Option Known
as_view cs = Some (name.View, cs)

no_table : (fs cs : List Field) → as_view fs ≡ as_table cs → ⊥
no_table fs cs is = let same : name.View ≡ name.Table = ap kind_known is in absurd cc

fits_same : (known : Option Known) (k : LeafKind) (fs cs : List Field) → FitsLeaf k known fs → known ≡ as_table cs → length fs ≡ length cs
fits_same known kind.Table fs cs fits is = ap (λ (o : Option Known). length (columns_known o)) (sym fits ∙ is)
fits_same known kind.View fs cs fits is = absurd (no_table fs cs (sym fits ∙ is))
fits_same known kind.Part fs cs fits is = absurd (no_table fs cs (sym fits ∙ is))

module _ (known : List ℕ → Option Known) (said : List ℕ) (cs : List Field) (is : known said ≡ as_table cs) where
  leaf_width : (d : Doing) (fs : List Field) → LeafFits known d fs → is_leaf_of said d ≡ true → length fs ≡ length cs
  leaf_width (leaf k other) fs fits own =
      let same : other ≡ said = (bytes_eq-Decides other said).0 own in
      fits_same (known other) k fs cs fits (ap known same ∙ is)
  leaf_width (one_row es) fs fits own = absurd (false≢true own)
  leaf_width (numbers from to by) fs fits own = absurd (false≢true own)
  leaf_width (written rows) fs fits own = absurd (false≢true own)
  leaf_width (scalar e) fs fits own = absurd (false≢true own)
  leaf_width (kept i e) fs fits own = absurd (false≢true own)
  leaf_width (mapped i es) fs fits own = absurd (false≢true own)
  leaf_width (cut i n) fs fits own = absurd (false≢true own)
  leaf_width (counted i) fs fits own = absurd (false≢true own)
  leaf_width (sorted i ks) fs fits own = absurd (false≢true own)
  leaf_width (topped i n k) fs fits own = absurd (false≢true own)
  leaf_width (apart i is) fs fits own = absurd (false≢true own)
  leaf_width (summarized i es gs) fs fits own = absurd (false≢true own)
  leaf_width (joined kind i j on) fs fits own = absurd (false≢true own)
  leaf_width (united arms) fs fits own = absurd (false≢true own)
  leaf_width (expanded i e at t) fs fits own = absurd (false≢true own)

  -- a name that a step reads is read as wide as it is known
  width_known : (steps : List Stepping) (s : Stepping) → All (StepLeaf known) steps → Contains steps s → is_leaf_of said s.doing ≡ true → width_read said steps ≡ length cs
  width_known [] s all at own = absurd (let within = at.1 in omega (arith, within))
  width_known (x ∷ steps) s all at own = by_test (is_leaf_of said x.doing) refl (λ later. width_known steps s (All-tail (StepLeaf known) x steps all) later own)
    where
      by_test : (b : Bool) → is_leaf_of said x.doing ≡ b → (Contains steps s → width_read said steps ≡ length cs) → cond b (length x.columns) (width_read said steps) ≡ length cs
      by_test true test rest = leaf_width x.doing x.columns (All-head (StepLeaf known) x steps all) test
      by_test false test rest = rest (Contains-tail x steps s (λ (same : x ≡ s). false≢true (sym test ∙ ap (λ (y : Stepping). is_leaf_of said y.doing) same ∙ own)) at)

-- ---- what the plan's names stand for

module _ (since rest : Log) (p : Planned) (fit : All (StepLeaf (tables_known since)) p.steps) where
  abbrev later : List ℕ → Option Known
  later = known_as_read (since ++ rest) p

  first_columns : (cs more : List Field) → take (length cs) (cs ++ more) ≡ cs
  first_columns [] more = refl
  first_columns (c ∷ cs) more = ap (λ (fs : List Field). c ∷ fs) (first_columns cs more)

  known_later : (said : List ℕ) (cs : List Field) → width_read said p.steps ≡ length cs → IsReadable (since ++ rest) said cs → later said ≡ as_table cs
  known_later said cs width readable =
      let found = readable.found in
      ap (option_map (known_first (width_read said p.steps))) readable.finds
      ∙ ap (λ (n : ℕ). as_table (take n found.table.schema)) width
      ∙ ap (λ (fs : List Field). as_table (take (length cs) fs)) readable.first.is
      ∙ ap as_table (first_columns cs readable.first.more)

  table_later : (k : LeafKind) (said : List ℕ) (cs : List Field) → (k ≡ kind.Table) × IsReadable (since ++ rest) said cs → width_read said p.steps ≡ length cs → FitsLeaf k (later said) cs
  table_later k said cs (is, readable) width = subst (λ (j : LeafKind). FitsLeaf j (later said) cs) (sym is) (known_later said cs width readable)

  known_since : (k : LeafKind) (said : List ℕ) (cs : List Field) → k ≡ kind.Table → FitsLeaf k (tables_known since said) cs → tables_known since said ≡ as_table cs
  known_since k said cs is fits = subst (λ (j : LeafKind). FitsLeaf j (tables_known since said) cs) is fits

  leaf_later : (s : Stepping) (d : Doing) (cs : List Field) → s.doing ≡ d → Contains p.steps s → LeafFits (tables_known since) d cs → LeafFits later d cs
  leaf_later s (leaf k said) cs is at fits =
      let readable = IsReadable-later since rest k said cs fits in
      let own : is_leaf_of said s.doing ≡ true = ap (is_leaf_of said) is ∙ (bytes_eq-Decides said said).1 refl in
      table_later k said cs readable (width_known (tables_known since) said cs (known_since k said cs readable.0 fits) p.steps s fit at own)
  leaf_later s (one_row es) cs is at fits = tt
  leaf_later s (numbers from to by) cs is at fits = tt
  leaf_later s (written rows) cs is at fits = tt
  leaf_later s (scalar e) cs is at fits = tt
  leaf_later s (kept i e) cs is at fits = tt
  leaf_later s (mapped i es) cs is at fits = tt
  leaf_later s (cut i n) cs is at fits = tt
  leaf_later s (counted i) cs is at fits = tt
  leaf_later s (sorted i ks) cs is at fits = tt
  leaf_later s (topped i n k) cs is at fits = tt
  leaf_later s (apart i is_at) cs is at fits = tt
  leaf_later s (summarized i es gs) cs is at fits = tt
  leaf_later s (joined kind i j on) cs is at fits = tt
  leaf_later s (united arms) cs is at fits = tt
  leaf_later s (expanded i e place t) cs is at fits = tt

  each_later : (steps : List Stepping) → All (Contains p.steps) steps → All (StepLeaf (tables_known since)) steps → All (StepLeaf later) steps
  each_later [] at fits = All-nil (StepLeaf later)
  each_later (s ∷ steps) at fits =
      All-cons (StepLeaf later) s steps (leaf_later s s.doing s.columns refl (All-head (Contains p.steps) s steps at) (All-head (StepLeaf (tables_known since)) s steps fits))
      (each_later steps (All-tail (Contains p.steps) s steps at) (All-tail (StepLeaf (tables_known since)) s steps fits))

-- ---- the plan

step_fits : (known other : List ℕ → Option Known) (before : List Stepping) (d : Doing) (cs : List Field) → LeafFits other d cs → FitsStep known before d cs → FitsStep other before d cs
step_fits known other before (leaf k said) cs own fits = own
step_fits known other before (one_row es) cs own fits = fits
step_fits known other before (numbers from to by) cs own fits = fits
step_fits known other before (written rows) cs own fits = fits
step_fits known other before (scalar e) cs own fits = fits
step_fits known other before (kept i e) cs own fits = fits
step_fits known other before (mapped i es) cs own fits = fits
step_fits known other before (cut i n) cs own fits = fits
step_fits known other before (counted i) cs own fits = fits
step_fits known other before (sorted i ks) cs own fits = fits
step_fits known other before (topped i n k) cs own fits = fits
step_fits known other before (apart i is) cs own fits = fits
step_fits known other before (summarized i es gs) cs own fits = fits
step_fits known other before (joined kind i j on) cs own fits = fits
step_fits known other before (united arms) cs own fits = fits
step_fits known other before (expanded i e at t) cs own fits = fits

after_fits : (known other : List ℕ → Option Known) (before steps : List Stepping) → All (StepLeaf other) steps → FitAfter known before steps → FitAfter other before steps
after_fits known other before [] own fits = tt
after_fits known other before (s ∷ steps) own fits = (
  step_fits known other before s.doing s.columns (All-head (StepLeaf other) s steps own) fits.0,
  after_fits known other (before ++ s ∷ []) steps (All-tail (StepLeaf other) s steps own) fits.1,
)

-- a plan that fitted the tables of some time fits them later, each with the columns that it reads
pub FitsNames-later : (since rest : Log) (p : Planned) (columns : List Field) → FitsNames (tables_known since) p columns → FitsNames (known_as_read (since ++ rest) p) p columns
FitsNames-later since rest p columns fits =
    let fit = leaves_fit (tables_known since) [] p.steps fits.steps in
    record {
      steps = after_fits (tables_known since) (known_as_read (since ++ rest) p) [] p.steps (each_later since rest p fit p.steps (All-contains_itself p.steps) fit) fits.steps;
      output = fits.output;
    }

-- ---- a leaf

first_found : (l : Log) (said : List ℕ) (n : ℕ) (cs : List Field) (found : Option NumberedTable) → table_numbered said (tables l) ≡ found → option_map (known_first n) found ≡ as_table cs → IsFirstOf l said cs
first_found l said n cs None at is = cc
first_found l said n cs (Some f) at is =
    let same : take n f.table.schema ≡ cs = ap columns_known is in
    record { found = f; finds = at; first = sym same ∙ first_of n f.table.schema ∙ ap (λ (fs : List Field). take (length fs) f.table.schema) same }

-- it is a table's
pub first_read : (l : Log) (p : Planned) (said : List ℕ) (cs : List Field) → FitsLeaf kind.Table (known_as_read l p said) cs → IsFirstOf l said cs
first_read l p said cs fits = first_found l said (width_read said p.steps) cs (table_numbered said (tables l)) refl fits
