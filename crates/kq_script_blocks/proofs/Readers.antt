-- A reader, a step further on.
use Rattle.std.proofs.Common.{◌≡◌, ◌⊎◌, ◌≤◌, ◌<◌, ◌+◌, ◌-◌, ◌++◌, ℕ, true, false, List, [], ◌∷◌, length, take, drop, Option, Some, None, Result, Ok, Err, Bool, ◌||◌, ◌==◌, refl, sym, ap, ◌∙◌, subst, inl, inr, arith, append-nil, append_assoc, length-append, if◌then◌else◌}
use Rattle.std.proofs.lemmas.List.{take_all, nil_from_length, take-append-drop, drop-take, drop-drop, length-take}
use Rattle.std.proofs.lemmas.Bool.Decides.{nat_tests}
use Rattle.kq_script_blocks.specs.Script.{Block, Script, script_blocks, block_of, is_blank}
use Rattle.kq_script_blocks.specs.Item.{IsItemOf}
use Rattle.kq_script_blocks.specs.Open.{IsOpen, AreItem, open_run, open_line}
use Rattle.kq_script_blocks.specs.Reading.{IsPrefix, IsReading, ItemOutcome, ReadsItem}
use Rattle.kq_script_blocks.specs.State.{IsAt, unread, HasLooked, HasEnded, GivesLast, IsDrained, IsAtEnd}
use Rattle.kq_world.specs.Told.{Loses, IsEmpty}
use Rattle.kq_world.specs.Outside.{SourceView, Delivers, DeliversFront}
use Rattle.kq_world.proofs.Told.{Delivers-none, Delivers-trans}
use Rattle.kq_script_blocks.specs.declared.block.OpenBlock.{OpenBlock}
use Rattle.kq_script_blocks.specs.declared.reader.ScriptReader.{ScriptReader}
use Rattle.kq_script_blocks.specs.declared.reader.Phase.{Phase}
use Rattle.kq_script_blocks.specs.declared.reader.Phase.TheVariants as phases
use Rattle.kq_script_blocks.specs.declared.item.ScriptFault.{ScriptFault}
use Rattle.kq_script_blocks.specs.declared.item.ScriptFault.TheVariants.{ReadFault, InputLimit}
use Rattle.kq_script_blocks.specs.declared.item.Item.{Item}
use Rattle.kq_script_blocks.specs.declared.item.Item.TheVariants.{Command, TooLong, Lost, Finished}
use Rattle.kq_script_blocks.proofs.Scripts.{script_blocks-ended, script_blocks-append, script_blocks-prefix}

-- n more bytes of a piece are looked at
pub piece-looked : (xs : List ℕ) (a e n : ℕ) → n ≤ length (take (e - a) (drop a xs)) → take (e - a) (drop a xs) ≡ take n (take (e - a) (drop a xs)) ++ take (e - (a + n)) (drop (a + n) xs)
piece-looked xs a e n h =
    let split : e - a ≡ n + (e - (a + n)) = omega (arith, length-take (e - a) (drop a xs)) in
    let rest = ap (λ m. drop n (take m (drop a xs))) split ∙ drop-take n (e - (a + n)) (drop a xs) ∙ ap (take (e - (a + n))) (drop-drop n a xs) in
    sym (take-append-drop n (take (e - a) (drop a xs))) ∙ ap (λ t. take n (take (e - a) (drop a xs)) ++ t) rest

-- nothing is left to look at
looked_all : (command : ℕ) (reader : ScriptReader) (taken : List ℕ) (given : List Block) (h : HasLooked command reader taken given) → unread reader ≡ [] → h.looked ≡ taken
looked_all command reader taken given h none = sym (h.ahead ∙ ap (λ bs. h.looked ++ bs) none ∙ append-nil h.looked)

gives_last : (command : ℕ) (item : Item) (taken : List ℕ) (given : List Block) (block : Block) → IsItemOf command item block → given ++ block ∷ [] ≡ script_blocks command taken true → GivesLast command item phases.Ended taken given
gives_last command (Command bytes) taken given block is all = (refl, block, is, all)
gives_last command (TooLong bytes) taken given block is all = (refl, block, is, all)
gives_last command Lost taken given block is all = (refl, block, is, all)
gives_last command Finished taken given block is all = absurd is

all_given : (command : ℕ) (reader : ScriptReader) (taken : List ℕ) (given blocks : List Block) (h : HasLooked command reader taken given) → unread reader ≡ []
    → block_of command (if is_blank (open_line h.looked) then open_run h.looked else (open_run h.looked ++ open_line h.looked ∷ [])) ≡ blocks → given ++ blocks ≡ script_blocks command taken true
all_given command reader taken given blocks h none e = ap (λ bs. bs ++ blocks) h.given_all ∙ ap (λ bs. script_blocks command h.looked false ++ bs) (sym e) ∙ sym (script_blocks-ended command h.looked) ∙ ap (λ bs. script_blocks command bs true) (looked_all command reader taken given h none)

pub GivesLast-some : (reader : ScriptReader) (item : Item) (taken : List ℕ) (given : List Block) (h : HasLooked reader.block.limit reader taken given) → unread reader ≡ []
    → AreItem reader.block.limit (Some item) (block_of reader.block.limit (if is_blank (open_line h.looked) then open_run h.looked else (open_run h.looked ++ open_line h.looked ∷ [])))
    → GivesLast reader.block.limit item phases.Ended taken given
GivesLast-some reader item taken given h none one = gives_last reader.block.limit item taken given one.0 one.1 (all_given reader.block.limit reader taken given (one.0 ∷ []) h none one.2)

pub GivesLast-none : (reader : ScriptReader) (taken : List ℕ) (given : List Block) (h : HasLooked reader.block.limit reader taken given) → unread reader ≡ []
    → AreItem reader.block.limit None (block_of reader.block.limit (if is_blank (open_line h.looked) then open_run h.looked else (open_run h.looked ++ open_line h.looked ∷ [])))
    → given ≡ script_blocks reader.block.limit taken true
GivesLast-none reader taken given h none one = sym (append-nil given) ∙ all_given reader.block.limit reader taken given [] h none one

-- a call that reads on: these bytes were taken so far
pub record Goes (command input : ℕ) (reader : ScriptReader) (first source source' : SourceView) (taken : List ℕ) (given : List Block) : Type 0 where
  pub before : List ℕ
  pub last : List ℕ
  pub gives : Delivers source source' (before ++ last)
  pub piece : length last ≤ 4096
  pub needed : (before ++ last ≡ []) ⊎ Script command (taken ++ before) false given
  pub reading : IsReading command input reader first source' (taken ++ (before ++ last)) given

-- what a step that only looks leaves as it was, and what it gives
abbrev pub Same : ScriptReader → ScriptReader → Type 0
Same old new = (new.taken ≡ old.taken) × (new.input ≡ old.input) × (new.phase ≡ old.phase) × (new.block.limit ≡ old.block.limit)

abbrev pub Looks : ScriptReader → ScriptReader → Option Item → Type 0
Looks old new item = (taken : List ℕ) (given : List Block) → HasLooked old.block.limit old taken given → (blocks : List Block) × AreItem old.block.limit item blocks × HasLooked old.block.limit new taken (given ++ blocks)

looked_prefix : (command : ℕ) (reader : ScriptReader) (taken : List ℕ) (given : List Block) (ended : Bool) → HasLooked command reader taken given → IsPrefix given (script_blocks command taken ended)
looked_prefix command reader taken given true h =
    let more = script_blocks-prefix command h.looked (unread reader) in
    (more.0, ap (λ bs. script_blocks command bs true) h.ahead ∙ more.1 ∙ ap (λ bs. bs ++ more.0) (sym h.given_all))
looked_prefix command reader taken given false h =
    let more = script_blocks-append command h.looked (unread reader) in
    (more.0, ap (λ bs. script_blocks command bs false) h.ahead ∙ more.1 ∙ ap (λ bs. bs ++ more.0) (sym h.given_all))

pub has_looked : (command input : ℕ) (reader : ScriptReader) (first source : SourceView) (taken : List ℕ) (given : List Block) → reader.phase ≡ phases.Reading → IsReading command input reader first source taken given
    → HasLooked command reader taken given × (source.ended ≡ first.ended)
has_looked command input reader first source taken given phase h = subst (λ p. IsAt p command input reader first source taken given) phase h.state

-- a step that only looks
pub looked_on : (command input : ℕ) (old new : ScriptReader) (item : Option Item) (first source : SourceView) (taken : List ℕ) (given : List Block) → old.phase ≡ phases.Reading → Same old new → Looks old new item
    → IsReading command input old first source taken given → (blocks : List Block) × AreItem command item blocks × HasLooked command new taken (given ++ blocks) × IsReading command input new first source taken (given ++ blocks)
looked_on command input old new item first source taken given phase same looks h =
    let At : ℕ → Type 0 = λ m. (blocks : List Block) × AreItem m item blocks × HasLooked m new taken (given ++ blocks) in
    let is_at = has_looked command input old first source taken given phase h in
    let was : HasLooked old.block.limit old taken given = subst (λ m. HasLooked m old taken given) (sym h.command_limit) is_at.0 in
    let now = subst At h.command_limit (looks taken given was) in (
      now.0,
      now.1,
      now.2,
      record {
        command_limit = same.3 ∙ h.command_limit;
        input_limit = same.1 ∙ h.input_limit;
        counted = same.0 ∙ h.counted;
        within = h.within;
        gives = h.gives;
        prefix = looked_prefix command new taken (given ++ now.0) source.ended now.2;
        state = subst (λ p. IsAt p command input new first source taken (given ++ now.0)) (sym (same.2 ∙ phase)) (now.2, is_at.1);
      },
    )

-- the fault at the limit comes wherever it is due
too_many : (given : List Block) (block : Block) (more : List Block) → given ≡ (given ++ block ∷ []) ++ more → ⊥
too_many given block more e =
    let n = ap length e in
    omega (arith, length-append (given ++ block ∷ []) more, length-append given (block ∷ []))

not_due : (p : Phase) (command input : ℕ) (reader : ScriptReader) (first source : SourceView) (taken : List ℕ) (given : List Block) (block : Block) → length taken ≡ input → given ≡ script_blocks command taken false → IsAt p command input reader first source taken (given ++ block ∷ []) → ⊥
not_due phases.Reading command input reader first source taken given block full all h =
    let more = script_blocks-append command h.0.looked (unread reader) in
    too_many given block more.0 (all ∙ ap (λ bs. script_blocks command bs false) h.0.ahead ∙ more.1 ∙ ap (λ bs. bs ++ more.0) (sym h.0.given_all))
not_due phases.Ended command input reader first source taken given block full all h = let below = h.below in omega arith
not_due phases.Closed command input reader first source taken given block full all h = h

pub due : (command input : ℕ) (result : Result Item ScriptFault) (reader : ScriptReader) (first source : SourceView) (taken : List ℕ) (given : List Block) → ItemOutcome command input result reader first source taken given
    → length taken ≡ input → given ≡ script_blocks command taken false → result ≡ Err InputLimit
due command input (Ok Finished) reader first source taken given h full all = let below = h.2 in absurd (omega arith)
due command input (Ok (Command bytes)) reader first source taken given h full all = absurd (not_due reader.phase command input reader first source taken given h.0 full all h.2.state)
due command input (Ok (TooLong bytes)) reader first source taken given h full all = absurd (not_due reader.phase command input reader first source taken given h.0 full all h.2.state)
due command input (Ok Lost) reader first source taken given h full all = absurd (not_due reader.phase command input reader first source taken given h.0 full all h.2.state)
due command input (Err ReadFault) reader first source taken given h full all = let below = h.1 in absurd (omega arith)
due command input (Err InputLimit) reader first source taken given h full all = refl

pub outcome_item : (command input : ℕ) (item : Item) (reader : ScriptReader) (first source : SourceView) (taken : List ℕ) (given : List Block) (block : Block) → IsItemOf command item block → IsReading command input reader first source taken (given ++ block ∷ []) → ItemOutcome command input (Ok item) reader first source taken given
outcome_item command input (Command bytes) reader first source taken given block is h = (block, is, h)
outcome_item command input (TooLong bytes) reader first source taken given block is h = (block, is, h)
outcome_item command input Lost reader first source taken given block is h = (block, is, h)
outcome_item command input Finished reader first source taken given block is h = absurd is

-- after a closed block
pub ReadsItem-item : (command input : ℕ) (old new : ScriptReader) (item : Item) (first source source' : SourceView) (taken : List ℕ) (given : List Block) → old.phase ≡ phases.Reading → Same old new → Looks old new (Some item)
    → Goes command input old first source source' taken given → ReadsItem command input (Ok item) new first source source' taken given
ReadsItem-item command input old new item first source source' taken given phase same looks h =
    let all = taken ++ (h.before ++ h.last) in
    let on = looked_on command input old new (Some item) first source' all given phase same looks h.reading in
    let now : IsReading command input new first source' all (given ++ on.1.0 ∷ []) = subst (λ bs. IsReading command input new first source' all (given ++ bs)) on.1.2 on.3 in
    let outcome = outcome_item command input item new first source' all given on.1.0 on.1.1 now in
    record { before = h.before; last = h.last; gives = h.gives; piece = h.piece; needed = h.needed; outcome = outcome; at_limit = due command input (Ok item) new first source' all given outcome }

-- the same where none was closed, and nothing is left to look at
pub record Waits (command input : ℕ) (reader : ScriptReader) (first source source' : SourceView) (taken : List ℕ) (given : List Block) : Type 0 where
  pub goes : Goes command input reader first source source' taken given
  pub looked : HasLooked command reader (taken ++ (goes.before ++ goes.last)) given
  pub all : looked.looked ≡ taken ++ (goes.before ++ goes.last)
  pub unmet : source'.ended ≡ first.ended

pub Waits-looked : (command input : ℕ) (old new : ScriptReader) (first source source' : SourceView) (taken : List ℕ) (given : List Block) → old.phase ≡ phases.Reading → Same old new → Looks old new None → new.at ≡ new.end
    → Goes command input old first source source' taken given → Waits command input new first source source' taken given
Waits-looked command input old new first source source' taken given phase same looks end h =
    let all = taken ++ (h.before ++ h.last) in
    let on = looked_on command input old new None first source' all given phase same looks h.reading in
    let none : given ++ on.0 ≡ given = ap (λ bs. given ++ bs) on.1 ∙ append-nil given in
    let now = subst (λ bs. IsReading command input new first source' all bs) none on.3 in
    let looked = subst (λ bs. HasLooked command new all bs) none on.2 in
    let past : new.end - new.at ≡ 0 = omega arith in
    record {
      goes = record { before = h.before; last = h.last; gives = h.gives; piece = h.piece; needed = h.needed; reading = now };
      looked = looked;
      all = looked_all command new all given looked (ap (λ m. take m (drop new.at new.piece.items)) past);
      unmet = (has_looked command input old first source' all given phase h.reading).1;
    }

-- a read gave all that the reader hasn't looked at
gave_unread : (n : ℕ) (reader : ScriptReader) (source source' : SourceView) → length (unread reader) ≡ n → DeliversFront source source' n (unread reader) → Delivers source source' (unread reader)
gave_unread n reader source source' size read = subst (Delivers source source') (take_all n (unread reader) (omega arith)) read.gives

not_met : (a b : Bool) (n : ℕ) → 0 < n → b ≡ (a || (n == 0)) → b ≡ a
not_met true b n some e = e
not_met false b n some e = e ∙ grind (arith, nat_tests)

-- then the next piece is taken
pub Goes-filled : (command input n : ℕ) (old new : ScriptReader) (first source source' source'' : SourceView) (taken : List ℕ) (given : List Block) → new.phase ≡ phases.Reading
    → (new.block ≡ old.block) × (new.input ≡ old.input) → new.taken ≡ old.taken + n → length (unread new) ≡ n → n ≤ 4096 → 0 < n → DeliversFront source' source'' n (unread new)
    → Waits command input old first source source' taken given → Goes command input new first source source'' taken given
Goes-filled command input n old new first source source' source'' taken given phase same more size small some read h =
    let before = h.goes.before ++ h.goes.last in
    let was = taken ++ before in
    let bytes = unread new in
    let gave = gave_unread n new source' source'' size read in
    let r = h.goes.reading in
    let all : (taken ++ before) ++ bytes ≡ taken ++ (before ++ bytes) = append_assoc taken before bytes in
    let looked : HasLooked command new (was ++ bytes) given = record {
      looked = h.looked.looked;
      ahead = ap (λ bs. bs ++ bytes) (sym h.all);
      given_all = h.looked.given_all;
      block = subst (λ b. IsOpen b (open_run h.looked.looked) (open_line h.looked.looked)) (sym same.0) h.looked.block;
    } in
    let count = length-append was bytes in
    let reading : IsReading command input new first source'' (was ++ bytes) given = record {
      command_limit = ap (λ (b : OpenBlock). b.limit) same.0 ∙ r.command_limit;
      input_limit = same.1 ∙ r.input_limit;
      counted = omega (arith, r.counted);
      within = omega (arith, r.counted, r.input_limit, new.within);
      gives = Delivers-trans first source' source'' was bytes r.gives gave;
      prefix = looked_prefix command new (was ++ bytes) given source''.ended looked;
      state = subst (λ p. IsAt p command input new first source'' (was ++ bytes) given) (sym phase) (looked, not_met source'.ended source''.ended n some read.ended ∙ h.unmet);
    } in
    record {
      before = before;
      last = bytes;
      gives = Delivers-trans source source' source'' before bytes h.goes.gives gave;
      piece = omega arith;
      needed = inr (h.looked.given_all ∙ ap (λ bs. script_blocks command bs false) h.all);
      reading = subst (λ bs. IsReading command input new first source'' bs given) all reading;
    }

-- or the end was read
drained : (first left left' : Option (List ℕ)) (taken : List ℕ) → Loses first left taken → Loses left left' [] → IsEmpty left → IsDrained first left'
drained None left left' taken h k e = tt
drained (Some bytes) None left' taken h k e = absurd h
drained (Some bytes) (Some xs) None taken h k e = absurd k
drained (Some bytes) (Some xs) (Some ys) taken h k e = sym k ∙ e

either_true : (a b : Bool) → b ≡ true → (a || b) ≡ true
either_true true b e = refl
either_true false b e = e

-- a read of no bytes met the end
pub met_end : (first source source' : SourceView) (taken buf : List ℕ) (n : ℕ) → Delivers first source taken → DeliversFront source source' n buf → n ≡ 0 → IsAtEnd first source'
met_end first source source' taken buf n h read none = record {
  ended = read.ended ∙ either_true source.ended (n == 0) (ap (λ m. m == 0) none);
  drained = drained first.left source.left source'.left taken h.left (subst (λ m. Loses source.left source'.left (take m buf)) none read.gives.left) (read.at_end none);
}

at_end : (command input : ℕ) (reader : ScriptReader) (first source : SourceView) (taken : List ℕ) (given : List Block) → reader.block.limit ≡ command → reader.input ≡ input → reader.taken ≡ length taken → length taken < input → Delivers first source taken → IsAtEnd first source
    → reader.phase ≡ phases.Ended → given ≡ script_blocks command taken true → IsReading command input reader first source taken given
at_end command input reader first source taken given limit max count below gives ended phase all = record {
  command_limit = limit;
  input_limit = max;
  counted = count;
  within = omega arith;
  gives = gives;
  prefix = subst (λ e. IsPrefix given (script_blocks command taken e)) (sym ended.ended) ([], sym all ∙ sym (append-nil given));
  state = subst (λ p. IsAt p command input reader first source taken given) (sym phase) (record { given_all = all; at_end = ended; below = below });
}

outcome_last : (command input : ℕ) (item : Item) (reader : ScriptReader) (first source : SourceView) (taken : List ℕ) (given : List Block) → reader.block.limit ≡ command → reader.input ≡ input → reader.taken ≡ length taken → length taken < input → Delivers first source taken → IsAtEnd first source
    → GivesLast command item reader.phase taken given → ItemOutcome command input (Ok item) reader first source taken given
outcome_last command input Finished reader first source taken given limit max count below gives ended h = (h.1, ended, below)
outcome_last command input (Command bytes) reader first source taken given limit max count below gives ended h =
    (h.1, h.2, at_end command input reader first source taken (given ++ h.1 ∷ []) limit max count below gives ended h.0 h.3)
outcome_last command input (TooLong bytes) reader first source taken given limit max count below gives ended h =
    (h.1, h.2, at_end command input reader first source taken (given ++ h.1 ∷ []) limit max count below gives ended h.0 h.3)
outcome_last command input Lost reader first source taken given limit max count below gives ended h =
    (h.1, h.2, at_end command input reader first source taken (given ++ h.1 ∷ []) limit max count below gives ended h.0 h.3)

pub ReadsItem-ended : (command input n : ℕ) (old mid new : ScriptReader) (item : Item) (first source source' source'' : SourceView) (taken : List ℕ) (given : List Block)
    → (mid.block ≡ old.block) × (mid.input ≡ old.input) → mid.taken ≡ old.taken + n → length (unread mid) ≡ n → n ≡ 0 → DeliversFront source' source'' n (unread mid)
    → (new.taken ≡ mid.taken) × (new.input ≡ mid.input) × (new.block.limit ≡ mid.block.limit)
    → ((taken : List ℕ) (given : List Block) → HasLooked mid.block.limit mid taken given → unread mid ≡ [] → GivesLast mid.block.limit item new.phase taken given)
    → mid.taken < mid.input → Waits command input old first source source' taken given → ReadsItem command input (Ok item) new first source source'' taken given
ReadsItem-ended command input n old mid new item first source source' source'' taken given filled more size zero read same gives room h =
    let r = h.goes.reading in
    let bytes = h.goes.before ++ h.goes.last in
    let all = taken ++ bytes in
    let none : unread mid ≡ [] = nil_from_length (unread mid) (size ∙ zero) in
    let gave : Delivers source' source'' [] = subst (Delivers source' source'') none (gave_unread n mid source' source'' size read) in
    let total : Delivers first source'' all = subst (Delivers first source'') (append-nil all) (Delivers-trans first source' source'' all [] r.gives gave) in
    let limit = ap (λ (b : OpenBlock). b.limit) filled.0 ∙ r.command_limit in
    let looked : HasLooked command mid all given = record {
      looked = h.looked.looked;
      ahead = sym h.all ∙ sym (append-nil h.looked.looked) ∙ ap (λ bs. h.looked.looked ++ bs) (sym none);
      given_all = h.looked.given_all;
      block = subst (λ b. IsOpen b (open_run h.looked.looked) (open_line h.looked.looked)) (sym filled.0) h.looked.block;
    } in
    let was = subst (λ m. HasLooked m mid all given) (sym limit) looked in
    let last = subst (λ m. GivesLast m item new.phase all given) limit (gives all given was none) in
    let count : new.taken ≡ length all = omega (arith, same.0, more, zero, r.counted) in
    let below : length all < input = omega (arith, count, same.0, filled.1, r.input_limit) in
    let ended = met_end first source' source'' all (unread mid) n r.gives read zero in
    let outcome = outcome_last command input item new first source'' all given (same.2 ∙ limit) (same.1 ∙ filled.1 ∙ r.input_limit) count below total ended last in
    record {
      before = h.goes.before;
      last = h.goes.last;
      gives = subst (Delivers source source'') (append-nil bytes) (Delivers-trans source source' source'' bytes [] h.goes.gives gave);
      piece = h.goes.piece;
      needed = h.goes.needed;
      outcome = outcome;
      at_limit = due command input (Ok item) new first source'' all given outcome;
    }

-- the source failed, or as much was taken as may be
pub ReadsItem-fault : (command input : ℕ) (old new : ScriptReader) (first source source' source'' : SourceView) (taken : List ℕ) (given : List Block) → source'' ≡ source' → old.taken < old.input
    → Waits command input old first source source' taken given → ReadsItem command input (Err ReadFault) new first source source'' taken given
ReadsItem-fault command input old new first source source' source'' taken given same room h =
    let r = h.goes.reading in
    let bytes = h.goes.before ++ h.goes.last in
    let below : length (taken ++ bytes) < input = omega (arith, r.counted, r.input_limit) in
    let closed : Script command (taken ++ bytes) false given = h.looked.given_all ∙ ap (λ bs. script_blocks command bs false) h.all in
    let outcome : ItemOutcome command input (Err ReadFault) new first source'' (taken ++ bytes) given = (closed, below, ap (λ (s : SourceView). s.ended) same ∙ h.unmet) in
    record {
      before = h.goes.before;
      last = h.goes.last;
      gives = subst (λ (s : SourceView). Delivers source s bytes) (sym same) h.goes.gives;
      piece = h.goes.piece;
      needed = h.goes.needed;
      outcome = outcome;
      at_limit = due command input (Err ReadFault) new first source'' (taken ++ bytes) given outcome;
    }

pub ReadsItem-full : (command input : ℕ) (old new : ScriptReader) (first source source' : SourceView) (taken : List ℕ) (given : List Block) → old.taken ≡ old.input → Waits command input old first source source' taken given → ReadsItem command input (Err InputLimit) new first source source' taken given
ReadsItem-full command input old new first source source' taken given full h =
    let r = h.goes.reading in
    let bytes = h.goes.before ++ h.goes.last in
    let all : length (taken ++ bytes) ≡ input = sym r.counted ∙ full ∙ r.input_limit in
    let closed : Script command (taken ++ bytes) false given = h.looked.given_all ∙ ap (λ bs. script_blocks command bs false) h.all in
    record { before = h.goes.before; last = h.goes.last; gives = h.goes.gives; piece = h.goes.piece; needed = h.goes.needed; outcome = (closed, all, h.unmet); at_limit = λ _ _. refl }

-- the answer after the end
pub ReadsItem-again : (command input : ℕ) (old new : ScriptReader) (first source : SourceView) (taken : List ℕ) (given : List Block) → old.phase ≡ phases.Ended → IsReading command input old first source taken given → ReadsItem command input (Ok Finished) new first source source taken given
ReadsItem-again command input old new first source taken given phase h =
    let ended : HasEnded command input first source taken given = subst (λ p. IsAt p command input old first source taken given) phase h.state in
    let all = sym (append-nil taken) in
    let outcome : ItemOutcome command input (Ok Finished) new first source (taken ++ []) given = subst (λ bs. ItemOutcome command input (Ok Finished) new first source bs given) all (ended.given_all, ended.at_end, ended.below) in
    record { before = []; last = []; gives = Delivers-none source; piece = omega arith; needed = inl refl; outcome = outcome; at_limit = due command input (Ok Finished) new first source (taken ++ []) given outcome }
