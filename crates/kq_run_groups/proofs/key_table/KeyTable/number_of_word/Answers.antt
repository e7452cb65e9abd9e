use Rattle.std.proofs.Common.{◌≡◌, ◌<◌, ◌⊎◌, ◌++◌, ◌∷◌, ◌∙◌, [], List, IfOk, OnOk, length, subst, sym}
use Rattle.kq_store_rows.specs.Chunks.{row_at}
use Rattle.kq_value.specs.declared.value.Value.{Value}
use Rattle.kq_value.specs.Same.{times}
use Rattle.kq_run_groups.proofs.ColumnKeys.{no_word_alone, word_alone}
use Rattle.kq_run_groups.proofs.key_table.KeyTable.number_of_word.Goals as goal

pub number-requires-clause-wide : goal.number-requires-clause-wide
number-requires-clause-wide c = c.from_ref.ensures.len ∙ sym c.requires.wide

pub number-requires-else-at-words-clause-wide : goal.number-requires-else-at-words-clause-wide
number-requires-else-at-words-clause-wide c = c.from_ref-else-at-words.ensures.len ∙ sym c.requires.wide

pub returns-then-at-words-clause-number : goal.returns-then-at-words-clause-number
returns-then-at-words-clause-number c =
    let keys = c.number.new.self.keys in
    subst (λ (k : List Value). IfOk c.number.result (λ n. (n < length keys) × (row_at keys n ≡ k)))
    (word_alone c.args.words.now c.args.at c.index-words-at.result c.from_ref.result.now c.if-at-words.true c.index-words-at.is c.from_ref.ensures.value) c.number.ensures.number

pub returns-then-at-words-clause-keys : goal.returns-then-at-words-clause-keys
returns-then-at-words-clause-keys c =
    let old = c.args.self.now.keys in
    let new = c.number.new.self.keys in
    subst (λ (k : List Value). OnOk c.number.result ((new ≡ old) ⊎ ((times k old ≡ 0) × (new ≡ old ++ k ∷ []))))
    (word_alone c.args.words.now c.args.at c.index-words-at.result c.from_ref.result.now c.if-at-words.true c.index-words-at.is c.from_ref.ensures.value) c.number.ensures.keys

pub returns-else-at-words-clause-number : goal.returns-else-at-words-clause-number
returns-else-at-words-clause-number c =
    let keys = c.number-else-at-words.new.self.keys in
    subst (λ (k : List Value). IfOk c.number-else-at-words.result (λ n. (n < length keys) × (row_at keys n ≡ k)))
    (no_word_alone c.args.words.now c.args.at c.from_ref-else-at-words.result.now c.if-at-words.false c.from_ref-else-at-words.ensures.value) c.number-else-at-words.ensures.number

pub returns-else-at-words-clause-keys : goal.returns-else-at-words-clause-keys
returns-else-at-words-clause-keys c =
    let old = c.args.self.now.keys in
    let new = c.number-else-at-words.new.self.keys in
    subst (λ (k : List Value). OnOk c.number-else-at-words.result ((new ≡ old) ⊎ ((times k old ≡ 0) × (new ≡ old ++ k ∷ []))))
    (no_word_alone c.args.words.now c.args.at c.from_ref-else-at-words.result.now c.if-at-words.false c.from_ref-else-at-words.ensures.value) c.number-else-at-words.ensures.keys
