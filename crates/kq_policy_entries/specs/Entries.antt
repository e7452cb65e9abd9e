-- The entries that the text of an update policy gives over the tables of a log and over what names stand for, into a table of some columns; or what
-- is wrong with it.
use Rattle.std.specs.Prelude.{◌≡◌, ◌⊎◌, ℕ, List, [], ◌∷◌, take, Option, Some, None, slice_get, unwrap_or, Result, Ok, Err}
use Rattle.kq_policy_entries.specs.Answers.{AnswersPolicy, IsPolicy}
use Rattle.kq_policy_entries.specs.declared.query_fault.PolicyFault.{PolicyFault}
use Rattle.kq_policy_entries.specs.declared.query_fault.PolicyFault.TheVariants as policy
use Rattle.kq_policy_entries.specs.declared.fault.EntriesFault.{EntriesFault}
use Rattle.kq_policy_entries.specs.declared.fault.EntriesFault.TheVariants as faults
use Rattle.kq_policy_entries.specs.declared.fault.EntryFault.{EntryFault}
use Rattle.kq_policy_entries.specs.declared.fault.EntryFault.TheVariants as fault
use Rattle.kq_store_rows.specs.declared.cause.Why.{Why}
use Rattle.kq_store_rows.specs.declared.cause.Why.TheVariants as why
use Rattle.kq_catalog_journal.specs.declared.policy.Entry.{Entry}
use Rattle.kq_catalog_journal.specs.History.{Log, NumberedTable, table_numbered, tables}
use Rattle.kq_plan.specs.Fits.{FitsNames}
use Rattle.kq_plan.specs.Names.{Known}
use Rattle.kq_plan.specs.Plans.{planned_of}
use Rattle.kq_policy_entries.specs.declared.written.Written.{Written}
use Rattle.kq_policy_entries.specs.declared.json_fault.JsonFault.{JsonFault}
use Rattle.kq_policy_entries.specs.declared.json_fault.JsonFault.TheVariants as json
use Rattle.kq_policy_entries.specs.PolicyTexts.{entries_of, fault_of}
use Rattle.kq_value.specs.declared.schema.Field.{Field}

-- ---- entries

-- what is written as an entry, with the number of its source, and its query as it is bound; its plan then fits the names and the columns of the
-- target
pub record IsEntryOf (known : List ℕ → Option Known) (target : List Field) (w : Written) (source : ℕ) (e : Entry) : Type 0 where
  pub source_so : e.source ≡ source
  pub enabled_so : e.enabled ≡ w.enabled
  pub transactional_so : e.transactional ≡ w.transactional
  pub propagate_so : e.propagate ≡ w.propagate
  pub text_so : e.text ≡ w.query
  pub plan_so : IsPolicy w.query w.source target known (planned_of e.plan)
  pub fits : FitsNames known (planned_of e.plan) target

abbrev pub IsEntryFrom : (List ℕ → Option Known) → List Field → Written → Option NumberedTable → Entry → Type 0
IsEntryFrom known target w None e = ⊥
IsEntryFrom known target w (Some source) e = IsEntryOf known target w source.number e

-- an element of the array that is an entry whose source is a table
abbrev pub IsEntryFor : (List ℕ → Option Known) → Log → List Field → Option Written → Entry → Type 0
IsEntryFor known l target None e = ⊥
IsEntryFor known l target (Some w) e = IsEntryFrom known target w (table_numbered w.source (tables l)) e

-- each element is such an entry, in order
abbrev pub AreEntries : (List ℕ → Option Known) → Log → List Field → List (Option Written) → List Entry → Type 0
AreEntries known l target [] [] = Unit {0}
AreEntries known l target [] (e ∷ es) = ⊥
AreEntries known l target (x ∷ xs) [] = ⊥
AreEntries known l target (x ∷ xs) (e ∷ es) = IsEntryFor known l target x e × AreEntries known l target xs es

-- ---- bad entries: the first of these words that is so

-- the query doesn't bind; or it has another body than one over its source; or other columns than the target's
abbrev pub IsBadQuery : (List ℕ → Option Known) → List Field → Written → Why → Type 0
IsBadQuery known target w why.Form = ⊥
IsBadQuery known target w why.Source = ⊥
IsBadQuery known target w why.Query = AnswersPolicy w.query w.source target known (Err policy.Query)
IsBadQuery known target w why.Body = AnswersPolicy w.query w.source target known (Err policy.Body)
IsBadQuery known target w why.Schema = AnswersPolicy w.query w.source target known (Err policy.Schema)

-- the source is no table
abbrev pub IsBadFrom : (List ℕ → Option Known) → List Field → Written → Option NumberedTable → Why → Type 0
IsBadFrom known target w None word = word ≡ why.Source
IsBadFrom known target w (Some source) word = IsBadQuery known target w word

-- the element is no object with the members of an entry
abbrev pub IsBad : (List ℕ → Option Known) → Log → List Field → Option Written → Why → Type 0
IsBad known l target None word = word ≡ why.Form
IsBad known l target (Some w) word = IsBadFrom known target w (table_numbered w.source (tables l)) word

-- the element at a place is bad, and those before it are entries
pub record IsFirstBad (known : List ℕ → Option Known) (l : Log) (target : List Field) (elements : List (Option Written)) (place : ℕ) (word : Why) : Type 0 where
  pub element : Option Written
  pub stands : slice_get elements place ≡ Some element
  pub bad : IsBad known l target element word
  pub before : List Entry
  pub good : AreEntries known l target (take place elements) before

-- ---- texts

-- the elements of the array that a text is
abbrev pub elements_in : List ℕ → List (Option Written)
elements_in text = unwrap_or (entries_of text) []

-- an array of no more elements than the limit, and of entries alone
pub record IsPolicyOf (known : List ℕ → Option Known) (l : Log) (target : List Field) (limit : ℕ) (text : List ℕ) (entries : List Entry) : Type 0 where
  pub sound : fault_of limit text ≡ None
  pub each : AreEntries known l target (elements_in text) entries

-- no array, which is told of entry 0
pub record IsNoArray (limit : ℕ) (text : List ℕ) (place : ℕ) (word : Why) : Type 0 where
  pub first : place ≡ 0
  pub form : word ≡ why.Form
  pub fault : fault_of limit text ≡ Some json.NoArray

-- an array with a bad element
pub record HasBadEntry (known : List ℕ → Option Known) (l : Log) (target : List Field) (limit : ℕ) (text : List ℕ) (place : ℕ) (word : Why) : Type 0 where
  pub sound : fault_of limit text ≡ None
  pub first : IsFirstBad known l target (elements_in text) place word

abbrev pub IsBadPolicy : (List ℕ → Option Known) → Log → List Field → ℕ → List ℕ → ℕ → Why → Type 0
IsBadPolicy known l target limit text place word = IsNoArray limit text place word ⊎ HasBadEntry known l target limit text place word

-- the limit comes before the entries; want of memory is free
abbrev pub RefusesEntries : (List ℕ → Option Known) → Log → List Field → ℕ → List ℕ → EntriesFault → Type 0
RefusesEntries known l target limit text (faults.Full most) = fault_of limit text ≡ Some (json.Full most)
RefusesEntries known l target limit text (faults.Bad place word) = IsBadPolicy known l target limit text place word
RefusesEntries known l target limit text faults.Memory = Unit {0}

-- ---- parts

abbrev pub RefusesAmong : (List ℕ → Option Known) → Log → List Field → List (Option Written) → EntriesFault → Type 0
RefusesAmong known l target elements (faults.Full most) = ⊥
RefusesAmong known l target elements (faults.Bad place word) = IsFirstBad known l target elements place word
RefusesAmong known l target elements faults.Memory = Unit {0}

abbrev pub BindsEntry : (List ℕ → Option Known) → Log → List Field → Option Written → Result Entry EntryFault → Type 0
BindsEntry known l target element (Ok e) = IsEntryFor known l target element e
BindsEntry known l target element (Err (fault.Bad word)) = IsBad known l target element word
BindsEntry known l target element (Err fault.Memory) = Unit {0}

abbrev pub BindsQuery : (List ℕ → Option Known) → List Field → Written → ℕ → Result Entry EntryFault → Type 0
BindsQuery known target w source (Ok e) = IsEntryOf known target w source e
BindsQuery known target w source (Err (fault.Bad word)) = IsBadQuery known target w word
BindsQuery known target w source (Err fault.Memory) = Unit {0}

abbrev pub fault_by : PolicyFault → EntryFault
fault_by policy.Query = fault.Bad why.Query
fault_by policy.Body = fault.Bad why.Body
fault_by policy.Schema = fault.Bad why.Schema
fault_by policy.Memory = fault.Memory

abbrev pub fault_read : JsonFault → EntriesFault
fault_read json.NoArray = faults.Bad 0 why.Form
fault_read (json.Full limit) = faults.Full limit
fault_read json.Memory = faults.Memory
