-- Entries one after another.
use Rattle.std.proofs.Common.{◌≡◌, ◌<◌, ◌≤◌, ◌+◌, cond, Bool, true, false, nat_lt, unwrap_or, inl, ℕ, List, [], ◌∷◌, ◌++◌, length, ltb-false, Option, Some, None, Err, refl, ap, sym, ◌∙◌, arith}
use Rattle.kq_policy_entries.specs.Answers.{AnswersPolicy}
use Rattle.kq_policy_entries.specs.declared.query_fault.PolicyFault.{PolicyFault}
use Rattle.kq_policy_entries.specs.declared.query_fault.PolicyFault.TheVariants as policy
use Rattle.kq_policy_entries.specs.Entries.{AreEntries, BindsQuery, IsEntryFor, RefusesEntries, fault_by, fault_read}
use Rattle.kq_catalog_journal.specs.declared.policy.Entry.{Entry}
use Rattle.kq_catalog_journal.specs.History.{Log}
use Rattle.kq_plan.specs.Names.{Known}
use Rattle.kq_policy_entries.specs.declared.written.Written.{Written}
use Rattle.kq_policy_entries.specs.declared.json_fault.JsonFault.{JsonFault}
use Rattle.kq_policy_entries.specs.declared.json_fault.JsonFault.TheVariants as json
use Rattle.kq_policy_entries.specs.PolicyTexts.{entries_of, fault_among, fault_of}
use Rattle.kq_value.specs.declared.schema.Field.{Field}

pub AreEntries-push : (known : List ℕ → Option Known) (l : Log) (target : List Field) (xs : List (Option Written)) (es : List Entry) (x : Option Written) (e : Entry)
    → AreEntries known l target xs es → IsEntryFor known l target x e → AreEntries known l target (xs ++ x ∷ []) (es ++ e ∷ [])
AreEntries-push known l target [] [] x e all is = (is, tt)
AreEntries-push known l target [] (d ∷ es) x e all is = absurd all
AreEntries-push known l target (y ∷ xs) [] x e all is = absurd all
AreEntries-push known l target (y ∷ xs) (d ∷ es) x e all is = (all.0, AreEntries-push known l target xs es x e all.1 is)

-- there are as many
pub AreEntries-length : (known : List ℕ → Option Known) (l : Log) (target : List Field) (xs : List (Option Written)) (es : List Entry) → AreEntries known l target xs es → length es ≡ length xs
AreEntries-length known l target [] [] all = refl
AreEntries-length known l target [] (d ∷ es) all = absurd all
AreEntries-length known l target (y ∷ xs) [] all = absurd all
AreEntries-length known l target (y ∷ xs) (d ∷ es) all = let rest = AreEntries-length known l target xs es all.1 in omega (arith, rest)

-- a fault of the binder's is a word
pub bad_query : (known : List ℕ → Option Known) (target : List Field) (w : Written) (source : ℕ) (f : PolicyFault) → AnswersPolicy w.query w.source target known (Err f) → BindsQuery known target w source (Err (fault_by f))
bad_query known target w source policy.Query is = is
bad_query known target w source policy.Body is = is
bad_query known target w source policy.Schema is = is
bad_query known target w source policy.Memory is = tt

-- what is wrong with the whole
pub read_refused : (known : List ℕ → Option Known) (l : Log) (target : List Field) (limit : ℕ) (text : List ℕ) (f : JsonFault) → ((f ≡ json.Memory → ⊥) → fault_of limit text ≡ Some f) → RefusesEntries known l target limit text (fault_read f)
read_refused known l target limit text json.NoArray so = inl (record { first = refl; form = refl; fault = so (λ e. cc) })
read_refused known l target limit text (json.Full most) so = so (λ e. cc)
read_refused known l target limit text json.Memory so = tt

few_where : (limit : ℕ) (o : Option (List (Option Written))) → fault_among limit o ≡ None → length (unwrap_or o []) ≤ limit
few_where limit None sound = omega arith
few_where limit (Some es) sound = by_test (nat_lt limit (length es)) refl sound
  where
    by_test : (over : Bool) → nat_lt limit (length es) ≡ over → cond over (Some (json.Full limit)) None ≡ None → length es ≤ limit
    by_test true is e = cc
    by_test false is e = ltb-false limit (length es) is

-- a sound text is an array of no more elements than the limit
pub few_elements : (limit : ℕ) (text : List ℕ) → fault_of limit text ≡ None → length (unwrap_or (entries_of text) []) ≤ limit
few_elements limit text sound = few_where limit (entries_of text) sound
