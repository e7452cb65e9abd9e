use Rattle.std.proofs.Common.{◌≡◌, ◌∷◌, Some, None, sym, ap, ◌∙◌, arith, rules}
use mir.Val.{to_z, of_z}
use Rattle.std.specs.Int.{w64}
use Rattle.json.specs.Json.{after_end_array, read_key}
use Rattle.json.specs.Reads.{token_of}
use Rattle.kq_value.specs.Tree.{long, string}
use Rattle.kq_value.specs.Seen.{tree_of, trees_of, entries_of}
use Rattle.kq_store_ingest.proofs.TokenLemmas.{value-null, value-boolean, value-number, value-string, value-array, value-object, ItemsRead-more, ItemsRead-all, EntriesRead-none, EntriesRead-more, EntriesRead-all}
use Rattle.kq_store_ingest.proofs.dynamic.+read.Goals as goal

pub read_value-returns-in-Null-clause-read : goal.read_value-returns-in-Null-clause-read
read_value-returns-in-Null-clause-read t c =
    let first : c.args.reader.now ≡ token_of c.in_ok-token.token ∷ c.next.new.self = grind arith in
    value-null c.args.depth c.args.reader.now c.next.new.self (grind (arith, first))

pub read_value-returns-in-Bool-clause-read : goal.read_value-returns-in-Bool-clause-read
read_value-returns-in-Bool-clause-read t c =
    let first : c.args.reader.now ≡ token_of c.in_ok-token.token ∷ c.next.new.self = grind arith in
    value-boolean c.args.depth c.args.reader.now c.next.new.self c.in-Bool.b (grind (arith, first))

pub read_value-returns-in-Some-clause-read : goal.read_value-returns-in-Some-clause-read
read_value-returns-in-Some-clause-read t c =
    let first : c.args.reader.now ≡ token_of c.in_ok-token.token ∷ c.next.new.self = grind arith in
    let same : c.in-Some.n ≡ to_z w64 (of_z w64 c.in-Some.n) = search rules in
    value-number c.args.depth c.args.reader.now c.next.new.self c.in-Number.text.now c.in-Some.n (grind (arith, first)) c.in-Some.ensures ∙ ap (λ z. Some (long z, c.next.new.self)) same

pub read_value-returns-in_ok-text-in-String-clause-read : goal.read_value-returns-in_ok-text-in-String-clause-read
read_value-returns-in_ok-text-in-String-clause-read t c =
    let first : c.args.reader.now ≡ token_of c.in_ok-token.token ∷ c.next.new.self = grind arith in
    value-string c.args.depth c.args.reader.now c.next.new.self c.in-String.text.now (grind (arith, first)) ∙ ap (λ s. Some (string s, c.next.new.self)) (sym c.in_ok-text-in-String.ensures)

pub read_value-returns-in_ok-read_items-in-BeginArray-clause-read : goal.read_value-returns-in_ok-read_items-in-BeginArray-clause-read
read_value-returns-in_ok-read_items-in-BeginArray-clause-read t c =
    let first : c.args.reader.now ≡ token_of c.in_ok-token.token ∷ c.next.new.self = grind arith in
    let found = c.in_ok-read_items-in-BeginArray in
    value-array c.args.depth c.args.reader.now c.next.new.self found.field-0 c.read_items.new.reader c.if-depth-gt0.true (first ∙ ap (λ k. token_of k ∷ c.next.new.self) c.in-BeginArray.is) found.ensures.read

pub read_value-returns-in_ok-read_members-in-BeginObject-clause-read : goal.read_value-returns-in_ok-read_members-in-BeginObject-clause-read
read_value-returns-in_ok-read_members-in-BeginObject-clause-read t c =
    let first : c.args.reader.now ≡ token_of c.in_ok-token.token ∷ c.next.new.self = grind arith in
    let found = c.in_ok-read_members-in-BeginObject in
    value-object c.args.depth c.args.reader.now c.next.new.self found.field-0 c.read_members.new.reader c.if-depth-gt0-2.true (first ∙ ap (λ k. token_of k ∷ c.next.new.self) c.in-BeginObject.is) found.ensures.read

pub read_items-items-preserved : goal.read_items-items-preserved
read_items-items-preserved t c =
    let l = c.items in
    let going : (after_end_array l.reader ≡ None) × (c.take_end_array.new.self ≡ l.reader) = grind arith in
    let done = c.in_ok-item.ensures in
    ItemsRead-more c.args.depth c.args.reader.now l.reader c.read_value.new.reader l.list.items c.push.new.self.items c.in_ok-item.item l.invariant going.0 (rw (← going.1) done.read) (rw (← going.1) done.shorter) done.shallow c.in_ok-push.ensures.items

pub read_items-returns-clause-read : goal.read_items-returns-clause-read
read_items-returns-clause-read t c =
    let l = c.items in
    let r = c.take_end_array.new.self in
    let over : after_end_array l.reader ≡ Some r = grind arith in
    ItemsRead-all c.args.depth c.args.reader.now l.reader r l.list.items l.invariant over ∙ ap (λ found. Some (found, r)) (ap trees_of (sym c.shrink_to_fit.ensures.items) ∙ sym c.from_vec.ensures)

pub read_members-members-init : goal.read_members-members-init
read_members-members-init t c = rw c.in_ok-bag.ensures.items (EntriesRead-none c.args.depth c.args.reader.now)

pub read_members-members-preserved : goal.read_members-members-preserved
read_members-members-preserved t c =
    let l = c.members in
    let s = c.next_key.new.self in
    let named : read_key l.reader ≡ Some (Some c.in-Some.name.now, s) = grind arith in
    let done = c.in_ok-value.ensures in
    EntriesRead-more c.args.depth c.args.reader.now l.reader s c.read_value.new.reader l.bag.items c.put.new.bag.items c.in_ok-key.key (tree_of c.in_ok-value.value) l.invariant (rw c.in_ok-key.ensures named) done.read done.shorter done.shallow c.in_ok-put.ensures

pub read_members-returns-clause-read : goal.read_members-returns-clause-read
read_members-returns-clause-read t c =
    let l = c.members in
    let r = c.next_key.new.self in
    let over : read_key l.reader ≡ Some (None, r) = grind arith in
    EntriesRead-all c.args.depth c.args.reader.now l.reader r l.bag.items l.invariant over ∙ ap (λ found. Some (found, r)) (ap entries_of (sym c.shrink_to_fit.ensures.items) ∙ sym c.from_vec.ensures)
