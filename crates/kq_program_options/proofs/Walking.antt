-- What the walk of `clap` comes to on words of the form, and on others.
use Rattle.std.proofs.Common.{◌≡◌, ◌∙◌, ◌==◌, ◌&&◌, ◌||◌, ℕ, Bool, cond, true, false, refl, sym, ap, ap₂, subst, List, [], ◌∷◌, map, Option, Some, None, option_map, fold, codes, length, suc, ◌+◌, take, drop, arith, one-add}
use Rattle.std.specs.Prelude.{slice_get}
use Rattle.std.specs.List.{All, position_or_len, list_any, before_first, after_first}
use Rattle.std.specs.Option.{option_map_or}
use Rattle.std.specs.Str.{bytes_eq, chars, IsUtf8, encode_utf8_all}
use Rattle.std.specs.Char.{encode_utf8}
use Rattle.std.proofs.lemmas.Str.{encodes-chars}
use Rattle.std.proofs.lemmas.Bool.{eqb-true}
use Rattle.std.proofs.lemmas.List.Elements.{All-head, All-tail}
use Rattle.std.proofs.lemmas.Bool.Decides.{nat_tests}
use Rattle.clap.specs.Lexer.{long_of, short_of, name_and_value}
use Rattle.clap.specs.Walk.{Held, Row, Rule, Waiting, Walk, idle, option, positional, value, trailing, arg_by_long, used, settled, settled_rows, walked, after_step, is_pending, positional_held, pushed, plain_word, word_met, subcommand_met, subcommand_or_other, long_or_other, short_or_plain, long_met, after_flag, done, waits, Outcome, Step, next}
use Rattle.clap.specs.Simple.{Shape, built, filled, with_index}
use Rattle.clap.specs.Kinds.{Kinds, or_else}
use Rattle.clap.specs.Faults.{settle_fault, turn_fault, use_fault, walk_fault, flags_fault, positional_fault, word_fault, other_fault, flag_word_fault, bundle_fault, bundle_step_fault, long_fault, step_fault}
use Rattle.kq_program_options.specs.Command.{console_app, workers_rule, generate_rule, feeds_rule}
use Rattle.kq_program_options.specs.Words.{WordText, Kind, workers, generate, feed, Said, as_feed, is_dashed, is_equals, name_of, attached_to, option_of, then_says, with_number, read}

-- ---- the command that is walked

abbrev pub id_of : Kind → WordText
id_of workers = codes "workers"
id_of generate = codes "generate"
id_of feed = codes "feeds"

abbrev pub rule_for : Kind → Rule
rule_for workers = filled workers_rule
rule_for generate = filled generate_rule
rule_for feed = with_index 1 (filled feeds_rule)

abbrev pub rules : List Rule
rules = rule_for workers ∷ rule_for generate ∷ rule_for feed ∷ []

abbrev pub shape : Shape
shape = (built console_app).top

-- ---- faults in a row

abbrev is_none : Kinds → Bool
is_none [] = true
is_none (k ∷ ks) = false

abbrev pub Fails : Kinds → Type 0
Fails kinds = is_none kinds ≡ false

pub or_else-assoc : (a b c : Kinds) → or_else (or_else a b) c ≡ or_else a (or_else b c)
or_else-assoc [] b c = refl
or_else-assoc (k ∷ ks) b c = refl

pub or_else-nil : (a : Kinds) → or_else a [] ≡ a
or_else-nil [] = refl
or_else-nil (k ∷ ks) = refl

pub fails_first : (a b : Kinds) → Fails a → Fails (or_else a b)
fails_first [] b h = absurd (cc)
fails_first (k ∷ ks) b h = refl

pub fails_then : (a b : Kinds) → Fails b → Fails (or_else a b)
fails_then [] b h = h
fails_then (k ∷ ks) b h = refl

-- ---- what is said, used in turn

abbrev put : Said → List Row → List Row
put s rows = used (rule_for s.kind) (s.text ∷ []) rows

abbrev fault_at : Said → List Row → Kinds
fault_at s rows = use_fault false (rule_for s.kind) (s.text ∷ []) rows

abbrev pub uses_fault : List Row → List Said → Kinds
uses_fault rows [] = []
uses_fault rows (s ∷ more) = or_else (fault_at s rows) (uses_fault (put s rows) more)

abbrev pub uses_rows : List Row → List Said → List Row
uses_rows rows [] = rows
uses_rows rows (s ∷ more) = uses_rows (put s rows) more

-- ---- the rest of a walk

abbrev held_at : List Row → Option (WordText × List WordText) → Held
held_at rows pending = record { rows = rows; pending = pending; skip = 0 }

abbrev walk_at : Bool → Waiting → List Row → Option (WordText × List WordText) → Walk
walk_at is_trailing waiting rows pending = record { held = held_at rows pending; waiting = waiting; position = 1; is_trailing = is_trailing; stopped = None }

abbrev pub walked_all : Walk → List WordText → Walk
walked_all w words = fold (walked rules []) w words

abbrev pub rest_fault : Walk → List WordText → Kinds
rest_fault w words = or_else (walk_fault shape [] w words) (settle_fault rules false (walked_all w words).held)

abbrev pub rest_rows : Walk → List WordText → List Row
rest_rows w words = settled_rows rules (walked_all w words).held.pending (walked_all w words).held.rows

-- the words come to what they say, after a first fault and from these rows, or to a fault where they aren't read
abbrev pub Agrees : Walk → List WordText → Option (List Said) → Kinds → List Row → Type 0
Agrees w words None first rows = Fails (rest_fault w words)
Agrees w words (Some said) first rows = (rest_fault w words ≡ or_else first (uses_fault rows said)) × (rest_rows w words ≡ uses_rows rows said)

rest_fault-cons : (w : Walk) (word : WordText) (rest : List WordText) → rest_fault w (word ∷ rest) ≡ or_else (turn_fault shape [] w word) (rest_fault (walked rules [] w word) rest)
unfolding walk_fault
rest_fault-cons w word rest = or_else-assoc (turn_fault shape [] w word) _ _

-- a word that passes with the fault t
passes : (w after : Walk) (word : WordText) (rest : List WordText) (t : Kinds) (r : Option (List Said)) (first : Kinds) (rows : List Row)
    → turn_fault shape [] w word ≡ t → walked rules [] w word ≡ after → Agrees after rest r first rows → Agrees w (word ∷ rest) r (or_else t first) rows
passes w after word rest t None first rows turn step later =
    subst Fails (sym (rest_fault-cons w word rest)) (fails_then (turn_fault shape [] w word) _ (subst (λ (v : Walk). Fails (rest_fault v rest)) (sym step) later))
passes w after word rest t (Some said) first rows turn step later = (
  rest_fault-cons w word rest ∙ ap₂ or_else turn (ap (λ (v : Walk). rest_fault v rest) step ∙ later.0) ∙ sym (or_else-assoc t first _),
  ap (λ (v : Walk). rest_rows v rest) step ∙ later.1,
)

stops : (w : Walk) (word : WordText) (rest : List WordText) → Fails (turn_fault shape [] w word) → Fails (rest_fault w (word ∷ rest))
stops w word rest h = subst Fails (sym (rest_fault-cons w word rest)) (fails_first _ _ h)

-- the first that is said is used
says : (w : Walk) (words : List WordText) (kind : Kind) (text : WordText) (r : Option (List Said)) (first : Kinds) (rows : List Row)
    → Agrees w words r (or_else first (fault_at (record { kind = kind; text = text }) rows)) (put (record { kind = kind; text = text }) rows) → Agrees w words (then_says kind text r) first rows
says w words kind text None first rows h = h
says w words kind text (Some said) first rows h = (h.0 ∙ or_else-assoc first _ _, h.1)

alone : (w : Walk) (words : List WordText) (r : Option (List Said)) (first : Kinds) (rows : List Row) → Agrees w words r (or_else first []) rows → Agrees w words r first rows
alone w words r first rows h = subst (λ (k : Kinds). Agrees w words r k rows) (or_else-nil first) h

-- ---- single words

cond_and_false : {A : Type 0} (b : Bool) (x y : A) → cond (b && false) x y ≡ y
cond_and_false true x y = refl
cond_and_false false x y = refl

feed_fault : (rows : List Row) (p : Option (WordText × List WordText)) → positional_fault rules false (rule_for feed) (held_at rows p) ≡ settle_fault rules false (held_at rows p)
feed_fault rows p = cond_and_false (is_pending (rule_for feed) p) [] (settle_fault rules false (held_at rows p))

feed_held : (word : WordText) (rows : List Row) (p : Option (WordText × List WordText)) → positional_held rules (rule_for feed) word (held_at rows p) ≡ held_at (settled_rows rules p rows) (Some (codes "feeds", word ∷ []))
feed_held word rows p = ap (pushed (codes "feeds") word) (cond_and_false (is_pending (rule_for feed) p) (held_at rows p) (settled rules (held_at rows p)))

feed_walk : (b : Bool) (waiting : Waiting) (word : WordText) (rows : List Row) (p : Option (WordText × List WordText))
    → after_step rules word (walk_at b waiting rows p) (held_at rows p) value ≡ walk_at (b || false) positional (settled_rows rules p rows) (Some (codes "feeds", word ∷ []))
feed_walk b waiting word rows p = ap (λ (h : Held). record { held = h; waiting = positional; position = 1; is_trailing = b || false; stopped = None }) (feed_held word rows p)

none_met : (waiting : Waiting) (word : WordText) → subcommand_met [] waiting word ≡ None
none_met idle word = refl
none_met (option id) word = refl
none_met positional word = refl

-- a word that is no flag
record IsValue (word : WordText) : Type 0 where
  no_dashes : bytes_eq word (45 ∷ 45 ∷ []) ≡ false
  no_long : long_of word ≡ None
  no_short : short_of word ≡ None

one_byte : (x : ℕ) (b : Bool) → (x == 45) ≡ b → IsValue (x ∷ [])
one_byte x true e = record { no_dashes = rw e refl; no_long = rw e refl; no_short = rw e refl }
one_byte x false e = record { no_dashes = rw e refl; no_long = rw e refl; no_short = rw e refl }

value_from : (word : WordText) → is_dashed word ≡ false → IsValue word
value_from [] h = record { no_dashes = refl; no_long = refl; no_short = refl }
value_from (x ∷ []) h = one_byte x (x == 45) refl
value_from (x ∷ y ∷ more) h = record { no_dashes = rw h refl; no_long = rw h refl; no_short = rw h refl }

value_fault : (waiting : Waiting) (word : WordText) (h : Held) → IsValue word → word_fault shape [] false waiting word h ≡ []
value_fault waiting word h v = ap (λ o. other_fault shape o word h) (none_met waiting word)
    ∙ ap (λ b. cond b [] (flag_word_fault rules false (long_of word) word h)) v.no_dashes
    ∙ ap (λ l. flag_word_fault rules false l word h) v.no_long
    ∙ ap (λ s. option_map_or (λ flags. bundle_fault rules false flags h) s []) v.no_short

value_met : (waiting : Waiting) (word : WordText) (h : Held) → IsValue word → word_met rules [] false waiting 1 word h ≡ plain_word rules waiting word h
value_met waiting word h v = ap (λ o. subcommand_or_other rules o waiting 1 word h) (none_met waiting word)
    ∙ ap (λ b. cond b (h, trailing 1) (long_or_other rules waiting word (long_of word) h)) v.no_dashes
    ∙ ap (λ l. long_or_other rules waiting word l h) v.no_long
    ∙ ap (λ s. short_or_plain rules waiting word s h) v.no_short

-- ---- words after `--`

after_dashes : (words : List WordText) (waiting : Waiting) (rows : List Row) (p : Option (WordText × List WordText))
    → Agrees (walk_at true waiting rows p) words (Some (map as_feed words)) (settle_fault rules false (held_at rows p)) (settled_rows rules p rows)
unfolding walk_fault walked
after_dashes [] waiting rows p = (sym (or_else-nil _), refl)
after_dashes (word ∷ rest) waiting rows p =
    says (walk_at true waiting rows p) (word ∷ rest) feed word (Some (map as_feed rest)) (settle_fault rules false (held_at rows p)) (settled_rows rules p rows)
    (passes (walk_at true waiting rows p) (walk_at true positional (settled_rows rules p rows) (Some (codes "feeds", word ∷ []))) word rest (settle_fault rules false (held_at rows p)) (Some (map as_feed rest)) _ _
    (feed_fault rows p) (feed_walk true waiting word rows p) (after_dashes rest positional (settled_rows rules p rows) (Some (codes "feeds", word ∷ []))))

-- ---- words that begin with `-`

-- a text has a first character
has_first : (y : ℕ) (more : List ℕ) → IsUtf8 (45 ∷ y ∷ more) → (c : ℕ) × (slice_get (chars (y ∷ more)) 0 ≡ Some c)
unfolding chars encode_utf8
has_first y more text = go (chars (y ∷ more)) (encodes-chars (45 ∷ y ∷ more) text)
  where
    go : (cs : List ℕ) → encode_utf8_all (45 ∷ cs) ≡ 45 ∷ y ∷ more → (c : ℕ) × (slice_get cs 0 ≡ Some c)
    go [] e = absurd (cc)
    go (c ∷ cs) e = (c, refl)

short_fails : (y : ℕ) (more : List ℕ) (rows : List Row) (p : Option (WordText × List WordText)) → IsUtf8 (45 ∷ y ∷ more) → Fails (bundle_fault rules false (y ∷ more) (held_at rows p))
unfolding flags_fault
short_fails y more rows p text =
    let first = has_first y more text in
    subst (λ (o : Option ℕ). Fails (bundle_step_fault rules false o (y ∷ more) 0 (held_at rows p) (flags_fault rules false (length more)))) (sym first.1) refl

record IsShort (y : ℕ) (more : List ℕ) : Type 0 where
  no_dashes : bytes_eq (45 ∷ y ∷ more) (45 ∷ 45 ∷ []) ≡ false
  no_long : long_of (45 ∷ y ∷ more) ≡ None
  is_short : short_of (45 ∷ y ∷ more) ≡ Some (y ∷ more)

short_from : (y : ℕ) (more : List ℕ) → (y == 45) ≡ false → IsShort y more
short_from y more other = record { no_dashes = rw other refl; no_long = rw other refl; is_short = rw other refl }

short_fault : (waiting : Waiting) (y : ℕ) (more : List ℕ) (h : Held) → IsShort y more → word_fault shape [] false waiting (45 ∷ y ∷ more) h ≡ bundle_fault rules false (y ∷ more) h
short_fault waiting y more h v = ap (λ o. other_fault shape o (45 ∷ y ∷ more) h) (none_met waiting (45 ∷ y ∷ more))
    ∙ ap (λ b. cond b [] (flag_word_fault rules false (long_of (45 ∷ y ∷ more)) (45 ∷ y ∷ more) h)) v.no_dashes
    ∙ ap (λ l. flag_word_fault rules false l (45 ∷ y ∷ more) h) v.no_long
    ∙ ap (λ s. option_map_or (λ flags. bundle_fault rules false flags h) s []) v.is_short

-- a word with one hyphen
short_word_fails : (waiting : Waiting) (y : ℕ) (more : List ℕ) (rows : List Row) (p : Option (WordText × List WordText)) → (y == 45) ≡ false → IsUtf8 (45 ∷ y ∷ more)
    → Fails (turn_fault shape [] (walk_at false waiting rows p) (45 ∷ y ∷ more))
short_word_fails waiting y more rows p other text =
    fails_first (word_fault shape [] false waiting (45 ∷ y ∷ more) (held_at rows p)) _
    (subst Fails (sym (short_fault waiting y more (held_at rows p) (short_from y more other))) (short_fails y more rows p text))

-- the name that `clap` looks for is that of the option
before_equals : (xs : List ℕ) → before_first is_equals (45 ∷ xs) ≡ 45 ∷ before_first is_equals xs
before_equals xs = ap (λ n. take n (45 ∷ xs)) (one-add (position_or_len is_equals xs))

after_equals : (xs : List ℕ) → after_first is_equals (45 ∷ xs) ≡ after_first is_equals xs
after_equals xs = let e : (1 + position_or_len is_equals xs) + 1 ≡ suc (position_or_len is_equals xs + 1) = omega arith in ap (λ n. drop n (45 ∷ xs)) e

named : (xs : List ℕ) → arg_by_long rules (before_first is_equals xs) ≡ option_map rule_for (option_of (45 ∷ 45 ∷ xs))
named xs = go (bytes_eq (codes "workers") (before_first is_equals xs)) (bytes_eq (codes "generate") (before_first is_equals xs)) refl refl
  where
    name : name_of (45 ∷ 45 ∷ xs) ≡ 45 ∷ 45 ∷ before_first is_equals xs
    name = before_equals (45 ∷ xs) ∙ ap (λ t. 45 ∷ t) (before_equals xs)

    go : (a b : Bool) → bytes_eq (codes "workers") (before_first is_equals xs) ≡ a → bytes_eq (codes "generate") (before_first is_equals xs) ≡ b
        → arg_by_long rules (before_first is_equals xs) ≡ option_map rule_for (option_of (45 ∷ 45 ∷ xs))
    go true b e f = rw (name, e) refl
    go false true e f = rw (name, e, f) refl
    go false false e f = rw (name, e, f) refl

given : (xs : List ℕ) → attached_to (45 ∷ 45 ∷ xs) ≡ (name_and_value xs).1
given xs = ap (λ t. cond (list_any is_equals xs) (Some t) None) (after_equals (45 ∷ xs) ∙ after_equals xs)

-- a word with two hyphens and more
long_fault_is : (waiting : Waiting) (z : ℕ) (more : List ℕ) (h : Held)
    → word_fault shape [] false waiting (45 ∷ 45 ∷ z ∷ more) h ≡ long_fault rules false (option_map rule_for (option_of (45 ∷ 45 ∷ z ∷ more))) (attached_to (45 ∷ 45 ∷ z ∷ more)) h
long_fault_is waiting z more h = ap (λ o. other_fault shape o (45 ∷ 45 ∷ z ∷ more) h) (none_met waiting (45 ∷ 45 ∷ z ∷ more))
    ∙ ap₂ (λ a v. long_fault rules false a v h) (named (z ∷ more)) (sym (given (z ∷ more)))

long_met_is : (waiting : Waiting) (z : ℕ) (more : List ℕ) (h : Held) → word_met rules [] false waiting 1 (45 ∷ 45 ∷ z ∷ more) h
    ≡ (let met = long_met rules (option_map rule_for (option_of (45 ∷ 45 ∷ z ∷ more))) (attached_to (45 ∷ 45 ∷ z ∷ more)) h in after_flag rules waiting (45 ∷ 45 ∷ z ∷ more) met.0 met.1)
long_met_is waiting z more h = ap (λ o. subcommand_or_other rules o waiting 1 (45 ∷ 45 ∷ z ∷ more) h) (none_met waiting (45 ∷ 45 ∷ z ∷ more))
    ∙ ap₂ (λ a v. let met = long_met rules a v h in after_flag rules waiting (45 ∷ 45 ∷ z ∷ more) met.0 met.1) (named (z ∷ more)) (sym (given (z ∷ more)))

-- an option and its number, and an option alone
number_fault : (kind : Kind) (v : WordText) (rows : List Row) (p : Option (WordText × List WordText)) → long_fault rules false (Some (rule_for kind)) (Some v) (held_at rows p)
    ≡ or_else (settle_fault rules false (held_at rows p)) (fault_at (record { kind = kind; text = v }) (settled_rows rules p rows))
number_fault workers v rows p = refl
number_fault generate v rows p = refl
number_fault feed v rows p = refl

alone_fault : (kind : Kind) (h : Held) → long_fault rules false (Some (rule_for kind)) None h ≡ settle_fault rules false h
alone_fault workers h = refl
alone_fault generate h = refl
alone_fault feed h = refl

number_met : (kind : Kind) (v : WordText) (rows : List Row) (p : Option (WordText × List WordText)) → long_met rules (Some (rule_for kind)) (Some v) (held_at rows p)
    ≡ (held_at (put (record { kind = kind; text = v }) (settled_rows rules p rows)) None, done)
number_met workers v rows p = refl
number_met generate v rows p = refl
number_met feed v rows p = refl

alone_met : (kind : Kind) (rows : List Row) (p : Option (WordText × List WordText)) → long_met rules (Some (rule_for kind)) None (held_at rows p)
    ≡ (held_at (settled_rows rules p rows) (Some (id_of kind, [])), waits (id_of kind))
alone_met workers rows p = refl
alone_met generate rows p = refl
alone_met feed rows p = refl

-- ---- the walk, word by word

abbrev pub open_at : Bool → Waiting
open_at false = idle
open_at true = positional

abbrev awaits : Kind → List Row → Walk
awaits kind rows = walk_at false (option (id_of kind)) rows (Some (id_of kind, []))

-- what is read of the words, where no number is awaited and where one is
pub record WalksAs (words : List WordText) : Type 0 where
  pub start : (b : Bool) (rows : List Row) (p : Option (WordText × List WordText))
      → Agrees (walk_at false (open_at b) rows p) words (read None words) (settle_fault rules false (held_at rows p)) (settled_rows rules p rows)
  pub number : (kind : Kind) (rows : List Row) → Agrees (awaits kind rows) words (read (Some kind) words) [] rows

abbrev turn_by : Held × Step → Kinds → Kinds
turn_by met fault = or_else fault (step_fault shape 1 met.0 met.1)

-- a feed
read_feed : (word : WordText) (rest : List WordText) → is_dashed word ≡ false → read None (word ∷ rest) ≡ then_says feed word (read None rest)
read_feed word rest e = rw e refl

value_open : (b : Bool) (word : WordText) (h : Held) → IsValue word → word_met rules [] false (open_at b) 1 word h ≡ (h, value)
value_open false word h v = value_met idle word h v
value_open true word h v = value_met positional word h v

feed_step : (b : Bool) (rows : List Row) (p : Option (WordText × List WordText)) (word : WordText) (rest : List WordText) → IsValue word → WalksAs rest
    → Agrees (walk_at false (open_at b) rows p) (word ∷ rest) (then_says feed word (read None rest)) (settle_fault rules false (held_at rows p)) (settled_rows rules p rows)
unfolding walked
feed_step b rows p word rest v later =
    says (walk_at false (open_at b) rows p) (word ∷ rest) feed word (read None rest) (settle_fault rules false (held_at rows p)) (settled_rows rules p rows)
    (passes (walk_at false (open_at b) rows p) (walk_at false positional (settled_rows rules p rows) (Some (codes "feeds", word ∷ []))) word rest (settle_fault rules false (held_at rows p)) (read None rest) _ _
    (ap₂ turn_by (value_open b word (held_at rows p) v) (value_fault (open_at b) word (held_at rows p) v) ∙ feed_fault rows p)
    (ap (λ met. after_step rules word (walk_at false (open_at b) rows p) met.0 met.1) (value_open b word (held_at rows p) v) ∙ feed_walk false (open_at b) word rows p)
    (later.start true (settled_rows rules p rows) (Some (codes "feeds", word ∷ []))))

-- the number of an option, as a word of its own
read_number : (kind : Kind) (word : WordText) (rest : List WordText) → is_dashed word ≡ false → read (Some kind) (word ∷ rest) ≡ then_says kind word (read None rest)
read_number kind word rest e = rw e refl

number_word : (kind : Kind) (rows : List Row) (word : WordText) → plain_word rules (option (id_of kind)) word (held_at rows (Some (id_of kind, []))) ≡ (held_at rows (Some (id_of kind, word ∷ [])), next idle)
number_word workers rows word = refl
number_word generate rows word = refl
number_word feed rows word = refl

number_settles : (kind : Kind) (rows : List Row) (word : WordText) → settle_fault rules false (held_at rows (Some (id_of kind, word ∷ []))) ≡ fault_at (record { kind = kind; text = word }) rows
number_settles workers rows word = refl
number_settles generate rows word = refl
number_settles feed rows word = refl

number_rows : (kind : Kind) (rows : List Row) (word : WordText) → settled_rows rules (Some (id_of kind, word ∷ [])) rows ≡ put (record { kind = kind; text = word }) rows
number_rows workers rows word = refl
number_rows generate rows word = refl
number_rows feed rows word = refl

number_step : (kind : Kind) (rows : List Row) (word : WordText) (rest : List WordText) → IsValue word → WalksAs rest → Agrees (awaits kind rows) (word ∷ rest) (then_says kind word (read None rest)) [] rows
unfolding walked
number_step kind rows word rest v later =
    let h = held_at rows (Some (id_of kind, [])) in
    let met = value_met (option (id_of kind)) word h v ∙ number_word kind rows word in
    says (awaits kind rows) (word ∷ rest) kind word (read None rest) [] rows
    (passes (awaits kind rows) (walk_at false idle rows (Some (id_of kind, word ∷ []))) word rest [] (read None rest) _ _
    (ap₂ turn_by met (value_fault (option (id_of kind)) word h v))
    (ap (λ m. after_step rules word (awaits kind rows) m.0 m.1) met)
    (subst (λ (k : Kinds). Agrees (walk_at false idle rows (Some (id_of kind, word ∷ []))) rest (read None rest) k (put (record { kind = kind; text = word }) rows)) (number_settles kind rows word)
    (subst (λ (now : List Row). Agrees (walk_at false idle rows (Some (id_of kind, word ∷ []))) rest (read None rest) (settle_fault rules false (held_at rows (Some (id_of kind, word ∷ [])))) now) (number_rows kind rows word)
    (later.start false rows (Some (id_of kind, word ∷ []))))))

-- `--`
dashes_turn : (waiting : Waiting) (rows : List Row) (p : Option (WordText × List WordText)) → turn_fault shape [] (walk_at false waiting rows p) (45 ∷ 45 ∷ []) ≡ []
dashes_turn waiting rows p = ap₂ turn_by
    (ap (λ o. subcommand_or_other rules o waiting 1 (45 ∷ 45 ∷ []) (held_at rows p)) (none_met waiting (45 ∷ 45 ∷ [])))
    (ap (λ o. other_fault shape o (45 ∷ 45 ∷ []) (held_at rows p)) (none_met waiting (45 ∷ 45 ∷ [])))

dashes_walk : (waiting : Waiting) (rows : List Row) (p : Option (WordText × List WordText)) → walked rules [] (walk_at false waiting rows p) (45 ∷ 45 ∷ []) ≡ walk_at true waiting rows p
unfolding walked
dashes_walk waiting rows p =
    ap (λ o. let met = subcommand_or_other rules o waiting 1 (45 ∷ 45 ∷ []) (held_at rows p) in after_step rules (45 ∷ 45 ∷ []) (walk_at false waiting rows p) met.0 met.1) (none_met waiting (45 ∷ 45 ∷ []))

-- an option whose number is missing
missing : (kind : Kind) (rows : List Row) → Fails (settle_fault rules false (held_at rows (Some (id_of kind, []))))
missing workers rows = refl
missing generate rows = refl
missing feed rows = refl

missing_later : (kind : Kind) (rows : List Row) (rest : List WordText) → Fails (rest_fault (walk_at true (option (id_of kind)) rows (Some (id_of kind, []))) rest)
unfolding walk_fault
missing_later kind rows [] = missing kind rows
missing_later kind rows (word ∷ rest) = stops (walk_at true (option (id_of kind)) rows (Some (id_of kind, []))) word rest (subst Fails (sym (feed_fault rows (Some (id_of kind, [])))) (missing kind rows))

-- `--name` and `--name=number`
abbrev long_step_of : Option Kind → Option WordText → Waiting → WordText → Held → Held × Step
long_step_of o v waiting word h =
    let met = long_met rules (option_map rule_for o) v h in after_flag rules waiting word met.0 met.1

long_turn : (o : Option Kind) (v : Option WordText) (waiting : Waiting) (z : ℕ) (more : List ℕ) (rows : List Row) (p : Option (WordText × List WordText)) → option_of (45 ∷ 45 ∷ z ∷ more) ≡ o → attached_to (45 ∷ 45 ∷ z ∷ more) ≡ v
    → turn_fault shape [] (walk_at false waiting rows p) (45 ∷ 45 ∷ z ∷ more) ≡ turn_by (long_step_of o v waiting (45 ∷ 45 ∷ z ∷ more) (held_at rows p)) (long_fault rules false (option_map rule_for o) v (held_at rows p))
long_turn o v waiting z more rows p is_option is_given = ap₂ turn_by
    (long_met_is waiting z more (held_at rows p) ∙ ap₂ (λ a b. long_step_of a b waiting (45 ∷ 45 ∷ z ∷ more) (held_at rows p)) is_option is_given)
    (long_fault_is waiting z more (held_at rows p) ∙ ap₂ (λ a b. long_fault rules false (option_map rule_for a) b (held_at rows p)) is_option is_given)

long_walk : (o : Option Kind) (v : Option WordText) (waiting : Waiting) (z : ℕ) (more : List ℕ) (rows : List Row) (p : Option (WordText × List WordText)) → option_of (45 ∷ 45 ∷ z ∷ more) ≡ o → attached_to (45 ∷ 45 ∷ z ∷ more) ≡ v
    → walked rules [] (walk_at false waiting rows p) (45 ∷ 45 ∷ z ∷ more) ≡ (let s = long_step_of o v waiting (45 ∷ 45 ∷ z ∷ more) (held_at rows p) in after_step rules (45 ∷ 45 ∷ z ∷ more) (walk_at false waiting rows p) s.0 s.1)
unfolding walked
long_walk o v waiting z more rows p is_option is_given =
    ap (λ s. after_step rules (45 ∷ 45 ∷ z ∷ more) (walk_at false waiting rows p) s.0 s.1)
    (long_met_is waiting z more (held_at rows p) ∙ ap₂ (λ a b. long_step_of a b waiting (45 ∷ 45 ∷ z ∷ more) (held_at rows p)) is_option is_given)

long_unknown : (v : Option WordText) (waiting : Waiting) (z : ℕ) (more : List ℕ) (rows : List Row) (p : Option (WordText × List WordText)) → option_of (45 ∷ 45 ∷ z ∷ more) ≡ None → attached_to (45 ∷ 45 ∷ z ∷ more) ≡ v
    → Fails (turn_fault shape [] (walk_at false waiting rows p) (45 ∷ 45 ∷ z ∷ more))
long_unknown v waiting z more rows p is_option is_given = subst Fails (sym (long_turn None v waiting z more rows p is_option is_given)) refl

attached_step : (kind : Kind) (v : WordText) (waiting : Waiting) (z : ℕ) (more : List ℕ) (rest : List WordText) (rows : List Row) (p : Option (WordText × List WordText)) → option_of (45 ∷ 45 ∷ z ∷ more) ≡ Some kind → attached_to (45 ∷ 45 ∷ z ∷ more) ≡ Some v → WalksAs rest
    → Agrees (walk_at false waiting rows p) ((45 ∷ 45 ∷ z ∷ more) ∷ rest) (then_says kind v (read None rest)) (settle_fault rules false (held_at rows p)) (settled_rows rules p rows)
attached_step kind v waiting z more rest rows p is_option is_given later =
    let word : WordText = 45 ∷ 45 ∷ z ∷ more in
    let s : Said = record { kind = kind; text = v } in
    let w = walk_at false waiting rows p in
    let t = or_else (settle_fault rules false (held_at rows p)) (fault_at s (settled_rows rules p rows)) in
    let now = put s (settled_rows rules p rows) in
    let flag = after_flag rules waiting word in
    says w (word ∷ rest) kind v (read None rest) (settle_fault rules false (held_at rows p)) (settled_rows rules p rows)
    (alone w (word ∷ rest) (read None rest) t now
    (passes w (walk_at false idle now None) word rest t (read None rest) [] now
    (long_turn (Some kind) (Some v) waiting z more rows p is_option is_given
    ∙ ap₂ (λ (m : Held × Outcome) (k : Kinds). turn_by (flag m.0 m.1) k) (number_met kind v rows p) (number_fault kind v rows p) ∙ or_else-nil t)
    (long_walk (Some kind) (Some v) waiting z more rows p is_option is_given
    ∙ ap (λ (m : Held × Outcome). after_step rules word w (flag m.0 m.1).0 (flag m.0 m.1).1) (number_met kind v rows p))
    (later.start false now None)))

alone_step : (kind : Kind) (waiting : Waiting) (z : ℕ) (more : List ℕ) (rest : List WordText) (rows : List Row) (p : Option (WordText × List WordText)) → option_of (45 ∷ 45 ∷ z ∷ more) ≡ Some kind → attached_to (45 ∷ 45 ∷ z ∷ more) ≡ None → WalksAs rest
    → Agrees (walk_at false waiting rows p) ((45 ∷ 45 ∷ z ∷ more) ∷ rest) (read (Some kind) rest) (settle_fault rules false (held_at rows p)) (settled_rows rules p rows)
alone_step kind waiting z more rest rows p is_option is_given later =
    let word : WordText = 45 ∷ 45 ∷ z ∷ more in
    let w = walk_at false waiting rows p in
    let t = settle_fault rules false (held_at rows p) in
    let now = settled_rows rules p rows in
    let flag = after_flag rules waiting word in
    alone w (word ∷ rest) (read (Some kind) rest) t now
    (passes w (awaits kind now) word rest t (read (Some kind) rest) [] now
    (long_turn (Some kind) None waiting z more rows p is_option is_given
    ∙ ap₂ (λ (m : Held × Outcome) (k : Kinds). turn_by (flag m.0 m.1) k) (alone_met kind rows p) (alone_fault kind (held_at rows p)) ∙ or_else-nil t)
    (long_walk (Some kind) None waiting z more rows p is_option is_given
    ∙ ap (λ (m : Held × Outcome). after_step rules word w (flag m.0 m.1).0 (flag m.0 m.1).1) (alone_met kind rows p))
    (later.number kind now))

long_step : (o : Option Kind) (v : Option WordText) (waiting : Waiting) (z : ℕ) (more : List ℕ) (rest : List WordText) (rows : List Row) (p : Option (WordText × List WordText)) → option_of (45 ∷ 45 ∷ z ∷ more) ≡ o → attached_to (45 ∷ 45 ∷ z ∷ more) ≡ v → WalksAs rest
    → Agrees (walk_at false waiting rows p) ((45 ∷ 45 ∷ z ∷ more) ∷ rest) (option_map_or (λ (kind : Kind). with_number kind v (read None rest) (read (Some kind) rest)) o None) (settle_fault rules false (held_at rows p)) (settled_rows rules p rows)
long_step None v waiting z more rest rows p is_option is_given later = stops (walk_at false waiting rows p) (45 ∷ 45 ∷ z ∷ more) rest (long_unknown v waiting z more rows p is_option is_given)
long_step (Some kind) (Some v) waiting z more rest rows p is_option is_given later = attached_step kind v waiting z more rest rows p is_option is_given later
long_step (Some kind) None waiting z more rest rows p is_option is_given later = alone_step kind waiting z more rest rows p is_option is_given later

-- where a number is missing every word with hyphens fails
long_missing : (o : Option Kind) (v : Option WordText) (kind : Kind) (z : ℕ) (more : List ℕ) (rows : List Row) → option_of (45 ∷ 45 ∷ z ∷ more) ≡ o → attached_to (45 ∷ 45 ∷ z ∷ more) ≡ v → Fails (turn_fault shape [] (awaits kind rows) (45 ∷ 45 ∷ z ∷ more))
long_missing o v kind z more rows is_option is_given =
    subst Fails (sym (long_turn o v (option (id_of kind)) z more rows (Some (id_of kind, [])) is_option is_given)) (fails_first (long_fault rules false (option_map rule_for o) v h) _ (go o v))
  where
    h : Held
    h = held_at rows (Some (id_of kind, []))

    go : (o : Option Kind) (v : Option WordText) → Fails (long_fault rules false (option_map rule_for o) v h)
    go None v = refl
    go (Some k) (Some n) = subst Fails (sym (number_fault k n rows (Some (id_of kind, [])))) (fails_first (settle_fault rules false h) _ (missing kind rows))
    go (Some k) None = subst Fails (sym (alone_fault k h)) (missing kind rows)

-- a word with one hyphen says nothing
other_name : (y : ℕ) (more t : List ℕ) → (y == 45) ≡ false → bytes_eq (45 ∷ t) (before_first is_equals (y ∷ more)) ≡ false
other_name y more t other = go (y == 61) refl
  where
    swapped : (45 == y) ≡ false
    swapped = grind (arith, nat_tests)

    go : (b : Bool) → (y == 61) ≡ b → bytes_eq (45 ∷ t) (before_first is_equals (y ∷ more)) ≡ false
    go true e = rw e refl
    go false e = rw (e, one-add, swapped) refl

no_option : (y : ℕ) (more : List ℕ) → (y == 45) ≡ false → option_of (45 ∷ y ∷ more) ≡ None
no_option y more other =
    ap (λ name. cond (bytes_eq (codes "--workers") name) (Some workers) (cond (bytes_eq (codes "--generate") name) (Some generate) None)) (before_equals (y ∷ more))
    ∙ ap₂ (λ a b. cond a (Some workers) (cond b (Some generate) None)) (other_name y more (codes "workers") other) (other_name y more (codes "generate") other)

read_short : (y : ℕ) (more : List ℕ) (rest : List WordText) → (y == 45) ≡ false → read None ((45 ∷ y ∷ more) ∷ rest) ≡ None
read_short y more rest other =
    let by : Option Kind → Option (List Said) = λ o. option_map_or (λ (kind : Kind). with_number kind (attached_to (45 ∷ y ∷ more)) (read None rest) (read (Some kind) rest)) o None in
    ap (λ b. cond b (Some (map as_feed rest)) (by (option_of (45 ∷ y ∷ more)))) (short_from y more other).no_dashes ∙ ap by (no_option y more other)

-- ---- all the words

dashed_start : (b : Bool) (rows : List Row) (p : Option (WordText × List WordText)) (y : ℕ) (more : List ℕ) (rest : List WordText) (c : Bool) → (y == 45) ≡ c → IsUtf8 (45 ∷ y ∷ more) → WalksAs rest
    → Agrees (walk_at false (open_at b) rows p) ((45 ∷ y ∷ more) ∷ rest) (read None ((45 ∷ y ∷ more) ∷ rest)) (settle_fault rules false (held_at rows p)) (settled_rows rules p rows)
dashed_start b rows p y more rest false other text later =
    let w = walk_at false (open_at b) rows p in
    subst (λ (r : Option (List Said)). Agrees w ((45 ∷ y ∷ more) ∷ rest) r (settle_fault rules false (held_at rows p)) (settled_rows rules p rows)) (sym (read_short y more rest other))
    (stops w (45 ∷ y ∷ more) rest (short_word_fails (open_at b) y more rows p other text))
dashed_start b rows p y more rest true same text later =
    subst (λ (x : ℕ). Agrees (walk_at false (open_at b) rows p) ((45 ∷ x ∷ more) ∷ rest) (read None ((45 ∷ x ∷ more) ∷ rest)) (settle_fault rules false (held_at rows p)) (settled_rows rules p rows)) (sym (eqb-true y 45 same)) (go more)
  where
    go : (more : List ℕ) → Agrees (walk_at false (open_at b) rows p) ((45 ∷ 45 ∷ more) ∷ rest) (read None ((45 ∷ 45 ∷ more) ∷ rest)) (settle_fault rules false (held_at rows p)) (settled_rows rules p rows)
    go [] = passes (walk_at false (open_at b) rows p) (walk_at true (open_at b) rows p) (45 ∷ 45 ∷ []) rest [] (Some (map as_feed rest)) _ _ (dashes_turn (open_at b) rows p) (dashes_walk (open_at b) rows p) (after_dashes rest (open_at b) rows p)
    go (z ∷ more) = long_step (option_of (45 ∷ 45 ∷ z ∷ more)) (attached_to (45 ∷ 45 ∷ z ∷ more)) (open_at b) z more rest rows p refl refl later

dashed_number : (kind : Kind) (rows : List Row) (y : ℕ) (more : List ℕ) (rest : List WordText) (c : Bool) → (y == 45) ≡ c → IsUtf8 (45 ∷ y ∷ more) → Fails (rest_fault (awaits kind rows) ((45 ∷ y ∷ more) ∷ rest))
dashed_number kind rows y more rest false other text = stops (awaits kind rows) (45 ∷ y ∷ more) rest (short_word_fails (option (id_of kind)) y more rows (Some (id_of kind, [])) other text)
dashed_number kind rows y more rest true same text = subst (λ (x : ℕ). Fails (rest_fault (awaits kind rows) ((45 ∷ x ∷ more) ∷ rest))) (sym (eqb-true y 45 same)) (go more)
  where
    go : (more : List ℕ) → Fails (rest_fault (awaits kind rows) ((45 ∷ 45 ∷ more) ∷ rest))
    go [] = subst Fails (sym (rest_fault-cons (awaits kind rows) (45 ∷ 45 ∷ []) rest))
        (fails_then (turn_fault shape [] (awaits kind rows) (45 ∷ 45 ∷ [])) _
        (subst (λ (w : Walk). Fails (rest_fault w rest)) (sym (dashes_walk (option (id_of kind)) rows (Some (id_of kind, [])))) (missing_later kind rows rest)))
    go (z ∷ more) = stops (awaits kind rows) (45 ∷ 45 ∷ z ∷ more) rest (long_missing (option_of (45 ∷ 45 ∷ z ∷ more)) (attached_to (45 ∷ 45 ∷ z ∷ more)) kind z more rows refl refl)

start_step : (b : Bool) (rows : List Row) (p : Option (WordText × List WordText)) (word : WordText) (rest : List WordText) (d : Bool) → is_dashed word ≡ d → IsUtf8 word → WalksAs rest
    → Agrees (walk_at false (open_at b) rows p) (word ∷ rest) (read None (word ∷ rest)) (settle_fault rules false (held_at rows p)) (settled_rows rules p rows)
start_step b rows p word rest false plain text later =
    subst (λ (r : Option (List Said)). Agrees (walk_at false (open_at b) rows p) (word ∷ rest) r (settle_fault rules false (held_at rows p)) (settled_rows rules p rows)) (sym (read_feed word rest plain)) (feed_step b rows p word rest (value_from word plain) later)
start_step b rows p [] rest true dashed text later = absurd (cc)
start_step b rows p (x ∷ []) rest true dashed text later = absurd (cc)
start_step b rows p (x ∷ y ∷ more) rest true dashed text later =
    let e : x ≡ 45 = eqb-true x 45 dashed in
    subst (λ (v : ℕ). Agrees (walk_at false (open_at b) rows p) ((v ∷ y ∷ more) ∷ rest) (read None ((v ∷ y ∷ more) ∷ rest)) (settle_fault rules false (held_at rows p)) (settled_rows rules p rows)) (sym e)
    (dashed_start b rows p y more rest (y == 45) refl (subst (λ (v : ℕ). IsUtf8 (v ∷ y ∷ more)) e text) later)

await_step : (kind : Kind) (rows : List Row) (word : WordText) (rest : List WordText) (d : Bool) → is_dashed word ≡ d → IsUtf8 word → WalksAs rest → Agrees (awaits kind rows) (word ∷ rest) (read (Some kind) (word ∷ rest)) [] rows
await_step kind rows word rest false plain text later =
    subst (λ (r : Option (List Said)). Agrees (awaits kind rows) (word ∷ rest) r [] rows) (sym (read_number kind word rest plain)) (number_step kind rows word rest (value_from word plain) later)
await_step kind rows [] rest true dashed text later = absurd (cc)
await_step kind rows (x ∷ []) rest true dashed text later = absurd (cc)
await_step kind rows (x ∷ y ∷ more) rest true dashed text later =
    let e : x ≡ 45 = eqb-true x 45 dashed in
    subst (λ (v : ℕ). Agrees (awaits kind rows) ((v ∷ y ∷ more) ∷ rest) (read (Some kind) ((v ∷ y ∷ more) ∷ rest)) [] rows) (sym e)
    (dashed_number kind rows y more rest (y == 45) refl (subst (λ (v : ℕ). IsUtf8 (v ∷ y ∷ more)) e text))

pub all_read : (words : List WordText) → All IsUtf8 words → WalksAs words
unfolding walk_fault
all_read [] texts = record { start = λ b rows p. (sym (or_else-nil _), refl); number = λ kind rows. missing kind rows }
all_read (word ∷ rest) texts =
    let text = All-head IsUtf8 word rest texts in
    let later = all_read rest (All-tail IsUtf8 word rest texts) in
    record {
      start = λ b rows p. start_step b rows p word rest (is_dashed word) refl text later;
      number = λ kind rows. await_step kind rows word rest (is_dashed word) refl text later;
    }
