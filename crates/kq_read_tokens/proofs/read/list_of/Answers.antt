use Rattle.std.proofs.Common.{◌≡◌, ◌+◌, [], ◌∷◌, ◌++◌, true, subst, sym, ◌∙◌, arith, All, false}
use Rattle.kq_read_tokens.specs.Lexed.{StandsIn}
use Rattle.kq_read_tokens.specs.Reading.{Tokenizes, is_complete}
use Rattle.kq_read_tokens.proofs.ReadingLemmas.{in_reading_start, in_reading_blank, reads_token, reads_stand, complete, at_end}
use Rattle.kq_read_tokens.proofs.read.list_of.Goals as goal

pub loop-at-init : goal.loop-at-init
loop-at-init c = rw c.new-list.ensures.items (in_reading_start c.args.text.now)

pub loop-at-preserved-then-blank-ne0 : goal.loop-at-preserved-then-blank-ne0
loop-at-preserved-then-blank-ne0 c = in_reading_blank c.args.text.now c.loop-at.list.items c.loop-at.at c.blank_len-blank.result c.loop-at.invariant c.blank_len-blank.ensures.value (omega arith)

pub is_complete-requires : goal.is_complete-requires
is_complete-requires c =
    let r = reads_token c.args.text.now c.loop-at.list.items c.loop-at.at c.in-Some.n c.blank_len-blank.result c.in-Some.kind c.loop-at.invariant c.blank_len-blank.ensures.value (omega arith) c.in-Some.ensures in
    let e : c.as_slice.result.now ≡ c.loop-at.list.items ++ record { kind = c.in-Some.kind; from = c.loop-at.at; to = c.loop-at.at + c.in-Some.n } ∷ [] = c.as_slice.ensures.value ∙ c.in_ok-push.ensures.items in
    subst (λ ts. All (StandsIn c.args.text.now) ts) (sym e) (reads_stand r)

pub returns-then-is_complete : goal.returns-then-is_complete
returns-then-is_complete c =
    let r = reads_token c.args.text.now c.loop-at.list.items c.loop-at.at c.in-Some.n c.blank_len-blank.result c.in-Some.kind c.loop-at.invariant c.blank_len-blank.ensures.value (omega arith) c.in-Some.ensures in
    complete c.args.text.now c.push.new.self.items (c.loop-at.at + c.in-Some.n) (subst (λ ts. Tokenizes c.args.text.now ts (c.loop-at.at + c.in-Some.n)) (sym c.in_ok-push.ensures.items) r) (subst (λ ts. is_complete c.args.text.now ts ≡ true) c.as_slice.ensures.value (sym c.is_complete.ensures ∙ c.if-is_complete.true))

pub loop-at-preserved : goal.loop-at-preserved
loop-at-preserved c =
    let r = reads_token c.args.text.now c.loop-at.list.items c.loop-at.at c.in-Some.n c.blank_len-blank.result c.in-Some.kind c.loop-at.invariant c.blank_len-blank.ensures.value (omega arith) c.in-Some.ensures in
    record {
      reads = subst (λ ts. Tokenizes c.args.text.now ts (c.loop-at.at + c.in-Some.n)) (sym c.in_ok-push.ensures.items) r;
      incomplete = subst (λ ts. is_complete c.args.text.now ts ≡ false) c.as_slice.ensures.value (sym c.is_complete.ensures ∙ c.if-is_complete.false);
    }

pub returns : goal.returns
returns c = at_end c.args.text.now c.loop-at.list.items c.loop-at.at c.loop-at.invariant (omega arith)
