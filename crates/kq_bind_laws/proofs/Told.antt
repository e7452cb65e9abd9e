-- A verdict tells the first of some faults, one part after another.
use Rattle.std.proofs.Common.{◌≡◌, Bool, true, false, cond, not, List, [], ◌++◌, append-nil, Option, Some, None, Ok, Err, refl, sym, ap, ◌∙◌, subst}
use Rattle.kq_bind_expressions.specs.Verdicts.{Fault, Verdict, and_then, or_fault}
use Rattle.kq_bind_query.proofs.Progress.{done}
use Rattle.kq_bind_laws.specs.Told.{TellsFirst, unless_there, if_so, where_bound}

abbrev pub failed : {A : Type 0} → Fault → Verdict A
failed e = Err e

pub tells_same : {A : Type 0} (v : Verdict A) (fs gs : List Fault) → fs ≡ gs → TellsFirst v fs → TellsFirst v gs
tells_same v fs gs e h = subst (TellsFirst v) e h

-- ---- what is bound, or not

pub there_tells : {A : Type 0} (o : Option A) (e : Fault) → TellsFirst (or_fault e o) (unless_there o e)
there_tells (Some x) e = refl
there_tells None e = ([], refl)

pub if_tells : {A : Type 0} (b : Bool) (x : A) (e : Fault) → TellsFirst (cond {A = Verdict A} b (failed e) (done x)) (if_so b e)
if_tells true x e = ([], refl)
if_tells false x e = refl

pub unless_tells : {A : Type 0} (b : Bool) (x : A) (e : Fault) → TellsFirst (cond {A = Verdict A} b (done x) (failed e)) (if_so (not b) e)
unless_tells true x e = refl
unless_tells false x e = ([], refl)

-- ---- one after another

-- a part whose faults are known, and what is bound behind it
pub then_more : {A B : Type 0} (v : Verdict A) (k : A → Verdict B) (fs : List Fault) (more : Verdict A → List Fault) → TellsFirst v fs
    → ((x : A) → TellsFirst (k x) (more (Ok x))) → TellsFirst (and_then v k) (fs ++ more v)
then_more (Ok x) k fs more none behind = subst (λ (gs : List Fault). TellsFirst (k x) (gs ++ more (Ok x))) (sym none) (behind x)
then_more (Err e) k fs more (rest, is) behind = (rest ++ more (Err e), ap (λ (gs : List Fault). gs ++ more (Err e)) is)

pub then_bound : {A B : Type 0} (v : Verdict A) (k : A → Verdict B) (fs : List Fault) (more : A → List Fault) → TellsFirst v fs
    → ((x : A) → TellsFirst (k x) (more x)) → TellsFirst (and_then v k) (fs ++ where_bound v more)
then_bound v k fs more here behind = then_more v k fs (λ u. where_bound u more) here behind

pub then_these : {A B : Type 0} (v : Verdict A) (k : A → Verdict B) (fs gs : List Fault) → TellsFirst v fs
    → ((x : A) → TellsFirst (k x) gs) → TellsFirst (and_then v k) (fs ++ gs)
then_these v k fs gs here behind = then_more v k fs (λ u. gs) here behind

-- what is looked for where a part binds may stand before it
pub bound_before : {A B : Type 0} (v : Verdict A) (k : A → Verdict B) (fs : List Fault) (own : A → List Fault) → TellsFirst v fs
    → ((x : A) → TellsFirst (k x) (own x)) → TellsFirst (and_then v k) (where_bound v own ++ fs)
bound_before (Ok x) k fs own none behind =
    tells_same (k x) (own x) (own x ++ fs) (sym (append-nil (own x)) ∙ ap (λ (gs : List Fault). own x ++ gs) (sym none)) (behind x)
bound_before (Err e) k fs own here behind = here

-- what is made of it without a fault
pub then_done : {A B : Type 0} (v : Verdict A) (k : A → B) (fs : List Fault) → TellsFirst v fs → TellsFirst (and_then v (λ x. done (k x))) fs
then_done (Ok x) k fs h = h
then_done (Err e) k fs h = h
