use Rattle.std.proofs.Common.{◌≡◌, ◌+◌, ◌++◌, ◌∷◌, ◌∙◌, List, [], ap, arith, false, length, refl, replicate, subst, sym, ℕ}
use Rattle.std.proofs.lemmas.Bool.{false≢true}
use Rattle.kq_catalog_journal.specs.declared.policy.Entry.{Entry}
use Rattle.kq_catalog_journal.specs.History.{log}
use Rattle.kq_catalog_journal.specs.Policies.{policies, with_policy}
use Rattle.kq_policy_entries.specs.Search.{AddsSources, HasSource, unmarked}
use Rattle.kq_policy_entries.proofs.Searching.{Searches, Searches-first, Searches-more, all_done, exhausted, fewer, found, none_where, unmarked-none}
use Rattle.kq_policy_entries.proofs.Setting.{set-past}
use Rattle.kq_policy_entries.proofs.cycle.closes_cycle.Goals as goal

pub loop-init : goal.loop-init
loop-init c =
    let l = log c.args.snapshot.now.history in
    let ps = with_policy c.args.target c.args.entries.now (policies l) in
    let count = c.table_count-count.result in
    let marked : c.in_ok-marked.marked.items ≡ replicate count false = c.in_ok-marked.ensures.items_if_clones_equal (λ y same. same) in
    let opened : c.push.new.self.items ≡ c.args.target ∷ [] = c.in_ok-push.ensures.items ∙ ap (λ (os : List ℕ). os ++ c.args.target ∷ []) c.new-open.ensures.items in
    let tables_so = c.table_count-count.ensures in
    let first = Searches-first ps c.args.target count (λ t within. set-past l c.args.target c.args.entries.now t (omega (arith, within, tables_so))) in
    let none = ap unmarked marked ∙ unmarked-none count in
    let one : length c.push.new.self.items ≡ 1 = ap length opened in
    record {
      searches = rw (marked, opened) first;
      left = omega (arith, none, one);
    }

pub returns-in_default : goal.returns-in_default
returns-in_default c =
    let ps = with_policy c.args.target c.args.entries.now (policies (log c.args.snapshot.now.history)) in
    let none = none_where c.loop.open.items (λ some. c.in_default.ensures.variant.1 (let long = c.loop.open.ok.0 in omega (arith, long, some))) in
    let searches = subst (Searches ps c.args.target c.loop.marked.items) none c.loop.invariant.searches in
    (λ is. absurd (false≢true is), λ cycle. absurd (exhausted ps c.args.target c.loop.marked.items searches cycle))

pub returns-then-branch : goal.returns-then-branch
returns-then-branch c =
    let ps = with_policy c.args.target c.args.entries.now (policies (log c.args.snapshot.now.history)) in
    let target = c.args.target in
    let t = c.in-Some.table in
    let searches = subst (Searches ps target c.loop.marked.items) c.in-Some.ensures.items c.loop.invariant.searches in
    let has = subst (λ (es : List Entry). HasSource es target) c.policy_of-policy.ensures (c.in_ok-add_sources.ensures.found c.if-branch.true) in
    (λ is. found ps target t c.loop.marked.items c.pop.new.self.items searches has, λ cycle. refl)

pub loop-preserved : goal.loop-preserved
loop-preserved c =
    let ps = with_policy c.args.target c.args.entries.now (policies (log c.args.snapshot.now.history)) in
    let target = c.args.target in
    let t = c.in-Some.table in
    let a = c.loop.marked.items in
    let b = c.add_sources.new.marked.items in
    let rest = c.pop.new.self.items in
    let o = c.add_sources.new.open.items in
    let searches = subst (Searches ps target a) c.in-Some.ensures.items c.loop.invariant.searches in
    let given = c.in_ok-add_sources.ensures.added c.if-branch.false in
    let adds = subst (λ (es : List Entry). AddsSources es target a rest b o) c.policy_of-policy.ensures given in
    let one = fewer c.policy_of-policy.result.now target t a b c.loop.open.items rest o c.in-Some.ensures.items given in
    let left = c.loop.invariant.left in
    record {
      searches = Searches-more ps target t a b rest o searches adds;
      left = omega (arith, one, left);
    }

pub returns : goal.returns
returns c =
    let l = log c.args.snapshot.now.history in
    let ps = with_policy c.args.target c.args.entries.now (policies l) in
    let over = c.loop-test.false in
    (λ is. absurd (false≢true is), λ cycle. absurd (all_done ps c.args.target c.table_count-count.result c.loop.counter c.loop.marked.items c.loop.open.items c.loop.invariant.left over c.loop.invariant.searches cycle))
