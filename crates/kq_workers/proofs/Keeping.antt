-- What is kept up stays so, and a chore keeps it up.
use Rattle.std.proofs.Common.{◌≡◌, ◌≤◌, ◌<◌, ◌⊎◌, inl, inr, ℕ, false, [], ◌∷◌, ◌++◌, length, take, refl, ap, sym, ◌∙◌, subst, arith, append-nil, append_assoc}
use Rattle.std.proofs.lemmas.Bool.{true≢false}
use Rattle.std.proofs.lemmas.List.{length_push, take_all, take-append-le}
use mathlib.Core.List.{IsPrefix}
use Rattle.kq_lock.proofs.Beginnings.{length-IsPrefix, take-IsPrefix}
use Rattle.kq_catalog_journal.specs.declared.event.By.{By}
use Rattle.kq_catalog_journal.specs.declared.event.Event.{Event}
use Rattle.kq_catalog_journal.specs.declared.event.Operation.TheVariants as operation
use Rattle.kq_catalog_journal.specs.declared.limits.Limits.{Limits}
use Rattle.kq_catalog_journal.specs.History.{History, cursor, log, view_cursor, view_count}
use Rattle.kq_catalog_journal.specs.Lawful.{AreLawful, AreLawfulAfter}
use Rattle.kq_catalog_journal.specs.Records.{picked}
use Rattle.kq_catalog_journal.proofs.Merging.{lawful_parts}
use Rattle.kq_catalog_journal.proofs.Views.{view_cursor-rises}
use Rattle.kq_reply.specs.declared.refusal.Refusal.TheVariants as refusals
use Rattle.kq_reply.specs.declared.reply.Reply.{Reply}
use Rattle.kq_reply.specs.declared.reply.Reply.TheVariants as replies
use Rattle.kq_engine.specs.declared.upkeep.Upkeep.{Upkeep}
use Rattle.kq_engine.specs.declared.upkeep.Upkeep.TheVariants as upkeeps
use Rattle.kq_engine.specs.declared.work.Outcome.{Outcome}
use Rattle.kq_engine.specs.kq_engine_prepare.Folds.{FoldsView, OverflowsBeyond}
use Rattle.kq_engine.specs.kq_engine_prepare.Merges.{MergesTable, NamesAll}
use Rattle.kq_engine.specs.Shared.{PassView}
use Rattle.kq_engine.specs.Upkeeps.{IsIdle, IsThere, KeepsUp, TellsUpkeep}
use Rattle.kq_engine.proofs.kq_engine_prepare.Telling.{cursor_take}
use Rattle.kq_engine.proofs.Upholding.{there_later}
use Rattle.kq_workers.specs.Kept.{AreKept, IsForward, IsKept, IsLate, IsMerged}
use Rattle.kq_workers.specs.Rounds.{SeenGoesOn, wants_memory}

-- ---- histories that go on

take_first : (place : ℕ) (h later : History) → IsPrefix h later → place ≤ length h → take place later ≡ take place h
take_first place h later goes within = ap (take place) (sym goes.1) ∙ take-append-le place h goes.0 within

cursor_begins : (first h : History) → IsPrefix first h → cursor first ≤ cursor h
cursor_begins first h begins = let less = cursor_take (length first) h in let same = ap cursor (take-IsPrefix first h begins) in omega (arith, less, same)

marks_after : (limits : Limits) (h more : History) → AreLawfulAfter limits h more → (view : ℕ) → view < view_count (log h) → view_cursor h view ≤ view_cursor (h ++ more) view
marks_after limits h [] all view there = let same = ap (λ (g : History). view_cursor g view) (append-nil h) in omega (arith, same)
marks_after limits h (e ∷ more) all view there =
    let one = view_cursor-rises limits h e view all.0 there in
    let rest = marks_after limits (h ++ e ∷ []) more all.1 view (there_later h (h ++ e ∷ []) (upkeeps.Fold view) (e ∷ [], refl) there) in
    let same = ap (λ (g : History). view_cursor g view) (append_assoc h (e ∷ []) more) in
    omega (arith, one, rest, same)

-- no cursor goes back
pub marks_rise : (limits : Limits) (h later : History) → IsPrefix h later → AreLawful limits later → (view : ℕ) → view < view_count (log h) → view_cursor h view ≤ view_cursor later view
marks_rise limits h later goes lawful view there =
    let parts = lawful_parts limits h goes.0 (subst (AreLawful limits) (sym goes.1) lawful) in
    let rises = marks_after limits h goes.0 parts.1 view there in
    let same = ap (λ (g : History). view_cursor g view) goes.1 in
    omega (arith, rises, same)

-- ---- what is kept up

late_later : (first h later : History) (place : ℕ) → IsPrefix h later → IsLate first h place → IsLate first later place
late_later first h later place goes late = let longer = length-IsPrefix h later goes in let within = late.within in record { since = late.since; within = omega (arith, within, longer) }

late_earlier : (older first h : History) (place : ℕ) → IsPrefix older first → IsLate first h place → IsLate older h place
late_earlier older first h place begins late = let longer = length-IsPrefix older first begins in let since = late.since in record { since = omega (arith, since, longer); within = late.within }

forward_later : (limits : Limits) (first h later : History) (view : ℕ) → IsPrefix h later → AreLawful limits later → view < view_count (log h) → IsForward first h view → IsForward first later view
forward_later limits first h later view goes lawful there (inl up) = let rises = marks_rise limits h later goes lawful view there in inl (omega (arith, up, rises))
forward_later limits first h later view goes lawful there (inr o) = inr (record {
  place = o.place;
  late = late_later first h later o.place goes o.late;
  stage = o.stage;
  overflows = subst (λ (g : History). OverflowsBeyond g view o.stage) (sym (take_first o.place h later goes o.late.within)) o.overflows;
})

merged_later : (first h later : History) (table : ℕ) → IsPrefix h later → IsMerged first h table → IsMerged first later table
merged_later first h later table goes (inl m) =
    let e : Event = record { by = m.by; operation = operation.Merge table m.old m.new } in
    inl (record {
      before = m.before;
      by = m.by;
      old = m.old;
      new = m.new;
      after = m.after ++ goes.0;
      since = m.since;
      is = sym goes.1 ∙ ap (λ (g : History). g ++ goes.0) m.is ∙ append_assoc m.before (e ∷ m.after) goes.0;
    })
merged_later first h later table goes (inr f) = inr (record {
  place = f.place;
  late = late_later first h later f.place goes f.late;
  few = subst (λ (g : History). length (picked g table) < 2) (sym (take_first f.place h later goes f.late.within)) f.few;
})

-- it stays so as the history goes on
pub kept_later : (limits : Limits) (first h later : History) (upkeep : Upkeep) → IsPrefix first h → IsPrefix h later → AreLawful limits later → IsThere (log first) upkeep → IsKept first h upkeep → IsKept first later upkeep
kept_later limits first h later (upkeeps.Fold view) begins goes lawful there kept = forward_later limits first h later view goes lawful (there_later first h (upkeeps.Fold view) begins there) kept
kept_later limits first h later (upkeeps.Merge table) begins goes lawful there kept = merged_later first h later table goes kept

forward_earlier : (older first h : History) (view : ℕ) → IsPrefix older first → IsForward first h view → IsForward older h view
forward_earlier older first h view begins (inl up) = let low = cursor_begins older first begins in inl (omega (arith, up, low))
forward_earlier older first h view begins (inr o) = inr (record { place = o.place; late = late_earlier older first h o.place begins o.late; stage = o.stage; overflows = o.overflows })

merged_earlier : (older first h : History) (table : ℕ) → IsPrefix older first → IsMerged first h table → IsMerged older h table
merged_earlier older first h table begins (inl m) =
    let longer = length-IsPrefix older first begins in
    let since = m.since in
    inl (record { before = m.before; by = m.by; old = m.old; new = m.new; after = m.after; since = omega (arith, since, longer); is = m.is })
merged_earlier older first h table begins (inr f) = inr (record { place = f.place; late = late_earlier older first h f.place begins f.late; few = f.few })

-- what is kept up of a history is so of one that begins it
pub kept_earlier : (older first h : History) (upkeep : Upkeep) → IsPrefix older first → IsKept first h upkeep → IsKept older h upkeep
kept_earlier older first h (upkeeps.Fold view) begins kept = forward_earlier older first h view begins kept
kept_earlier older first h (upkeeps.Merge table) begins kept = merged_earlier older first h table begins kept

pub AreKept-earlier : (older first h : History) → IsPrefix older first → AreKept first h → AreKept older h
AreKept-earlier older first h begins kept upkeep there = kept_earlier older first h upkeep begins (kept upkeep (there_later older first upkeep begins there))

-- ---- without a chore

pub kept_idle : (limits : Limits) (first seen : History) (upkeep : Upkeep) → SeenGoesOn limits first seen → IsThere (log first) upkeep → IsIdle first upkeep → IsKept first seen upkeep
kept_idle limits first seen (upkeeps.Fold view) on there idle = let rises = marks_rise limits first seen on.begins on.lawful view there in inl (omega (arith, rises, idle))
kept_idle limits first seen (upkeeps.Merge table) on there idle = inr (record {
  place = length first;
  late = record { since = omega arith; within = length-IsPrefix first seen on.begins };
  few = subst (λ (g : History). length (picked g table) < 2) (sym (take-IsPrefix first seen on.begins)) idle;
})

-- ---- by a chore

at_end : (first seen new : History) → IsPrefix first seen → IsPrefix seen new → IsLate first new (length new)
at_end first seen new begins goes =
    let low = length-IsPrefix first seen begins in
    let high = length-IsPrefix seen new goes in
    record { since = omega (arith, low, high); within = omega arith }

whole : (new : History) → take (length new) new ≡ new
whole new = take_all (length new) new (omega arith)

fold_kept : (first seen new : History) (view : ℕ) (reply : Reply) → IsPrefix first seen → IsPrefix seen new → NamesAll new (length seen) reply → FoldsView new view reply → IsForward first new view
fold_kept first seen new view (replies.Folded at) begins goes names tells =
    let all = names.folded at refl in
    let same = ap cursor (take-IsPrefix seen new goes) in
    let low = cursor_begins first seen begins in
    inl (omega (arith, all, same, low, tells))
fold_kept first seen new view (replies.Refused (refusals.Overflow stage)) begins goes names tells = inr (record {
  place = length new;
  late = at_end first seen new begins goes;
  stage = stage;
  overflows = subst (λ (g : History). OverflowsBeyond g view stage) (sym (whole new)) tells;
})
fold_kept first seen new view _ begins goes names tells = absurd tells

merge_kept : (first seen new : History) (table : ℕ) (reply : Reply) → IsPrefix first seen → IsPrefix seen new → NamesAll new (length seen) reply → MergesTable new table reply → IsMerged first new table
merge_kept first seen new table (replies.Merged extents) begins goes names tells =
    let all = names.merged extents refl in
    let one = ap length tells.last ∙ length_push tells.before _ in
    let other = ap length all.last ∙ length_push all.before _ in
    let low = length-IsPrefix first seen begins in
    let since = all.since in
    let within = all.within in
    inl (record { before = tells.before; by = tells.by; old = tells.old; new = tells.new; after = []; since = omega (arith, one, other, low, since, within); is = tells.last })
merge_kept first seen new table replies.Nothing begins goes names tells = inr (record {
  place = length new;
  late = at_end first seen new begins goes;
  few = subst (λ (g : History). length (picked g table) < 2) (sym (whole new)) tells;
})
merge_kept first seen new table _ begins goes names tells = absurd tells

told_kept : (first seen new : History) (upkeep : Upkeep) (reply : Reply) → IsPrefix first seen → IsPrefix seen new → NamesAll new (length seen) reply → TellsUpkeep new upkeep reply → IsKept first new upkeep
told_kept first seen new (upkeeps.Fold view) reply begins goes names tells = fold_kept first seen new view reply begins goes names tells
told_kept first seen new (upkeeps.Merge table) reply begins goes names tells = merge_kept first seen new table reply begins goes names tells

-- a chore that isn't refused for memory keeps up what stood when it began
pub kept_chore : (limits : Limits) (first : History) (old new : PassView) (by : By) (upkeep : Upkeep) (outcome : Outcome) → IsPrefix first old.seen → KeepsUp limits old new by upkeep outcome → wants_memory outcome.reply ≡ false → IsKept first new.seen upkeep
kept_chore limits first old new by upkeep outcome begins keeps granted = by_answer keeps.last.upholds.answers
  where
    by_answer : (outcome.reply ≡ replies.Refused refusals.Memory) ⊎ TellsUpkeep new.seen upkeep outcome.reply → IsKept first new.seen upkeep
    by_answer (inl wanting) = absurd (true≢false (sym (ap wants_memory wanting) ∙ granted))
    by_answer (inr tells) = told_kept first old.seen new.seen upkeep outcome.reply begins keeps.seen keeps.last.upholds.names_all tells
