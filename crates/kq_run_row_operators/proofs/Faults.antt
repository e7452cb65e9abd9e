-- A fault of one thing that is one of another.
use Rattle.std.proofs.Common.{◌≡◌, Err, ap, subst}
use Rattle.kq_value.specs.Computed.{Computed, Overflow, and_then, Answers, AnswersAs}
use Rattle.kq_value.specs.declared.fault.EvalFault.{EvalFault}
use Rattle.kq_value.specs.declared.fault.EvalFault.TheVariants as faults

pub fault_seen : {A B : Type 0} (see : A → B) (o : Computed B) (fault : EvalFault) → Answers o (Err fault) → AnswersAs see o (Err fault)
fault_seen see o faults.Overflow h = h
fault_seen see o faults.Memory h = tt

-- what fails first, fails all
pub fault_first : {A B V : Type 0} (see : V → A) (o : Computed A) (f : A → Computed B) (fault : EvalFault) → AnswersAs see o (Err fault) → Answers (and_then o f) (Err fault)
fault_first see o f faults.Overflow h = ap (λ c. and_then c f) h
fault_first see o f faults.Memory h = tt

pub overflowed : {A B : Type 0} (see : A → B) (o : Computed B) (fault : EvalFault) → fault ≡ faults.Overflow → AnswersAs see o (Err fault) → o ≡ Overflow
overflowed see o fault is h = subst (λ (f : EvalFault). AnswersAs see o (Err f)) is h
