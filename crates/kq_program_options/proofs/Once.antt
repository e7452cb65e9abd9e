-- What is said, used in turn: an option is taken once, and each row holds what was said.
use Rattle.std.proofs.Common.{◌≡◌, ◌∙◌, ◌≤◌, ◌||◌, ◌⊎◌, ◌≢◌, ℕ, Bool, cond, true, false, refl, sym, ap, ap₂, subst, List, [], ◌∷◌, ◌++◌, length, Option, Some, None, is_some, option_and_then, unwrap_or, append-nil, append_assoc, length-append, ◌<◌, arith, inl, inr, fold}
use Rattle.std.specs.Str.{bytes_eq}
use Rattle.std.specs.Str.{IsUtf8}
use Rattle.std.specs.List.{All}
use Rattle.std.proofs.lemmas.Slice.Eq.{bytes_eq-Decides}
use Rattle.clap.specs.Walk.{Row, all_of, has_row, with_values, without, used, with_default, finished, nothing_held, walk_from, reading_by}
use Rattle.clap.specs.Simple.{built, entered}
use Rattle.clap.specs.Kinds.{Kinds, or_else}
use Rattle.clap.specs.Faults.{use_fault, fault_of, entered_fault, default_fault, defaults_fault, check_fault, settle_fault, walk_fault}
use Rattle.clap.specs.Words.{matches_of}
use Rattle.clap.specs.declared.parser.matches.ValueSource.TheVariants.{CommandLine}
use Rattle.clap.specs.declared.builder.value_parser.Reading.{Reading}
use Rattle.kq_program_options.specs.Command.{console_app, given_to, asked_in}
use Rattle.kq_program_options.specs.Words.{WordText, Kind, workers, generate, feed, Said, is_same, texts_of, read, asked, all_asked, feeds_given, asked_by, number_given}
use Rattle.kq_program_options.proofs.Lists.{no_generate}
use Rattle.kq_program_options.proofs.Walking.{id_of, rule_for, rules, shape, Fails, uses_fault, uses_rows, fails_first, or_else-nil, rest_fault, rest_rows, walked_all, Agrees, all_read}

-- ---- rows

abbrev pub some_of : List WordText → Option (List WordText)
some_of [] = None
some_of (t ∷ ts) = Some (t ∷ ts)

has_row-is : (id : WordText) (rows : List Row) → has_row id rows ≡ is_some (all_of id rows)
has_row-is id [] = refl
has_row-is id (r ∷ rs) = go (bytes_eq r.id id) refl (has_row-is id rs)
  where
    go : (b : Bool) → bytes_eq r.id id ≡ b → has_row id rs ≡ is_some (all_of id rs) → has_row id (r ∷ rs) ≡ is_some (all_of id (r ∷ rs))
    go true e later = rw e refl
    go false e later = rw e later

without-none : (id : WordText) (rows : List Row) → all_of id rows ≡ None → without id rows ≡ rows
without-none id [] h = refl
without-none id (r ∷ rs) h = go (bytes_eq r.id id) refl (without-none id rs)
  where
    go : (b : Bool) → bytes_eq r.id id ≡ b → (all_of id rs ≡ None → without id rs ≡ rs) → without id (r ∷ rs) ≡ r ∷ rs
    go true e later = let bad = rw e at h in absurd (cc)
    go false e later = let rest = rw e at h in rw e (ap (λ l. r ∷ l) (later rest))

all_of-same : (id : WordText) (how : Reading) (values : List WordText) (rows : List Row) → bytes_eq id id ≡ true → all_of id (with_values id how CommandLine values rows) ≡ Some (unwrap_or (all_of id rows) [] ++ values)
all_of-same id how values [] self = rw self refl
all_of-same id how values (r ∷ rs) self = go (bytes_eq r.id id) refl (all_of-same id how values rs self)
  where
    go : (b : Bool) → bytes_eq r.id id ≡ b → all_of id (with_values id how CommandLine values rs) ≡ Some (unwrap_or (all_of id rs) [] ++ values) → all_of id (with_values id how CommandLine values (r ∷ rs)) ≡ Some (unwrap_or (all_of id (r ∷ rs)) [] ++ values)
    go true e later = rw (e, e) refl
    go false e later = rw (e, e) later

all_of-other : (id other : WordText) (how : Reading) (values : List WordText) (rows : List Row) → ((t : WordText) → bytes_eq t id ≡ true → bytes_eq t other ≡ false) → bytes_eq id id ≡ true
    → all_of other (with_values id how CommandLine values rows) ≡ all_of other rows
all_of-other id other how values [] apart self = let e = apart id self in rw e refl
all_of-other id other how values (r ∷ rs) apart self = go (bytes_eq r.id id) (bytes_eq r.id other) refl refl (all_of-other id other how values rs apart self)
  where
    go : (b c : Bool) → bytes_eq r.id id ≡ b → bytes_eq r.id other ≡ c → all_of other (with_values id how CommandLine values rs) ≡ all_of other rs → all_of other (with_values id how CommandLine values (r ∷ rs)) ≡ all_of other (r ∷ rs)
    go true c e f later = let n = apart r.id e in rw (e, n) refl
    go false true e f later = rw (e, f) refl
    go false false e f later = rw (e, f) later

-- ---- one more that is said

abbrev pub Given : Type 0
Given = Kind → List WordText

abbrev pub Holds : List Row → Given → Type 0
Holds rows given = (k : Kind) → all_of (id_of k) rows ≡ some_of (given k)

abbrev more_given : Given → Said → Given
more_given given s k = given k ++ texts_of k (s ∷ [])

same_kind : (a b : Kind) → is_same a b ≡ true → a ≡ b
same_kind workers workers e = refl
same_kind workers generate e = absurd (cc)
same_kind workers feed e = absurd (cc)
same_kind generate workers e = absurd (cc)
same_kind generate generate e = refl
same_kind generate feed e = absurd (cc)
same_kind feed workers e = absurd (cc)
same_kind feed generate e = absurd (cc)
same_kind feed feed e = refl

ids_apart : (a b : Kind) → is_same a b ≡ false → bytes_eq (id_of a) (id_of b) ≡ false
ids_apart workers workers e = absurd (cc)
ids_apart workers generate e = refl
ids_apart workers feed e = refl
ids_apart generate workers e = refl
ids_apart generate generate e = absurd (cc)
ids_apart generate feed e = refl
ids_apart feed workers e = refl
ids_apart feed generate e = refl
ids_apart feed feed e = absurd (cc)

self_id : (a : Kind) → bytes_eq (id_of a) (id_of a) ≡ true
self_id workers = refl
self_id generate = refl
self_id feed = refl

abbrev read_as_is : Kind → Reading
read_as_is k = reading_by (rule_for k)

abbrev put_row : Said → List Row → List Row
put_row s rows = with_values (id_of s.kind) (read_as_is s.kind) CommandLine (s.text ∷ []) rows

pushed_values : (given : List WordText) (text : WordText) → Some (unwrap_or (some_of given) [] ++ text ∷ []) ≡ some_of (given ++ text ∷ [])
pushed_values [] text = refl
pushed_values (t ∷ ts) text = refl

put_holds : (s : Said) (rows : List Row) (given : Given) → Holds rows given → Holds (put_row s rows) (more_given given s)
put_holds s rows given holds k = go (is_same s.kind k) refl
  where
    go : (b : Bool) → is_same s.kind k ≡ b → all_of (id_of k) (put_row s rows) ≡ some_of (given k ++ texts_of k (s ∷ []))
    go true e =
        let here : all_of (id_of s.kind) (put_row s rows) ≡ some_of (given s.kind ++ s.text ∷ []) =
        all_of-same (id_of s.kind) (read_as_is s.kind) (s.text ∷ []) rows (self_id s.kind) ∙ ap (λ o. Some (unwrap_or o [] ++ s.text ∷ [])) (holds s.kind) ∙ pushed_values (given s.kind) s.text in
        rw e (subst (λ (j : Kind). all_of (id_of j) (put_row s rows) ≡ some_of (given j ++ s.text ∷ [])) (same_kind s.kind k e) here)
    go false e =
        rw (e, append-nil)
        (all_of-other (id_of s.kind) (id_of k) (read_as_is s.kind) (s.text ∷ []) rows
        (λ t h. subst (λ (u : WordText). bytes_eq u (id_of k) ≡ false) (sym ((bytes_eq-Decides t (id_of s.kind)).0 h)) (ids_apart s.kind k e)) (self_id s.kind) ∙ holds k)

-- an option is put where it wasn't yet
abbrev IsFresh : Kind → List Row → Type 0
IsFresh kind rows = (kind ≡ feed) ⊎ (all_of (id_of kind) rows ≡ None)

put-is : (kind : Kind) (text : WordText) (rows : List Row) → IsFresh kind rows → used (rule_for kind) (text ∷ []) rows ≡ put_row (record { kind = kind; text = text }) rows
put-is feed text rows fresh = refl
put-is workers text rows (inl e) = absurd (cc)
put-is workers text rows (inr e) = ap (with_values (id_of workers) (read_as_is workers) CommandLine (text ∷ [])) (without-none (id_of workers) rows e)
put-is generate text rows (inl e) = absurd (cc)
put-is generate text rows (inr e) = ap (with_values (id_of generate) (read_as_is generate) CommandLine (text ∷ [])) (without-none (id_of generate) rows e)

fresh_fault : (kind : Kind) (text : WordText) (rows : List Row) → IsFresh kind rows → use_fault false (rule_for kind) (text ∷ []) rows ≡ []
fresh_fault feed text rows fresh = refl
fresh_fault workers text rows (inl e) = absurd (cc)
fresh_fault workers text rows (inr e) = rw (has_row-is (id_of workers) rows ∙ ap is_some e) refl
fresh_fault generate text rows (inl e) = absurd (cc)
fresh_fault generate text rows (inr e) = rw (has_row-is (id_of generate) rows ∙ ap is_some e) refl

again_fails : (kind : Kind) (text : WordText) (rows : List Row) → is_same kind feed ≡ false → is_some (all_of (id_of kind) rows) ≡ true → Fails (use_fault false (rule_for kind) (text ∷ []) rows)
again_fails feed text rows not_feed h = absurd (cc)
again_fails workers text rows not_feed h = rw (has_row-is (id_of workers) rows ∙ h) refl
again_fails generate text rows not_feed h = rw (has_row-is (id_of generate) rows ∙ h) refl

-- ---- all that is said

abbrev all_given : Given → List Said → Given
all_given given said k = given k ++ texts_of k said

record Once (rows : List Row) (given : Given) (said : List Said) : Type 0 where
  fault : uses_fault rows said ≡ []
  holds : Holds (uses_rows rows said) (all_given given said)

record Twice (rows : List Row) (given : Given) (said : List Said) : Type 0 where
  fails : Fails (uses_fault rows said)
  again : (2 ≤ length (all_given given said workers)) ⊎ (2 ≤ length (all_given given said generate))

given-cons : (given : Given) (s : Said) (said : List Said) (k : Kind) → all_given (more_given given s) said k ≡ all_given given (s ∷ said) k
given-cons given s said k = append_assoc (given k) (texts_of k (s ∷ [])) (texts_of k said) ∙ ap (λ l. given k ++ l) (go (is_same s.kind k) refl)
  where
    go : (b : Bool) → is_same s.kind k ≡ b → texts_of k (s ∷ []) ++ texts_of k said ≡ texts_of k (s ∷ said)
    go true e = rw e refl
    go false e = rw e refl

once-nil : (rows : List Row) (given : Given) → Holds rows given → Once rows given []
once-nil rows given holds = record {
  fault = refl;
  holds = λ k. holds k ∙ ap some_of (sym (append-nil (given k)));
}

abbrev Outcome : List Row → Given → List Said → Type 0
Outcome rows given said = Once rows given said ⊎ Twice rows given said

-- what is put where it is fresh
fresh_step : (rows : List Row) (given : Given) (s : Said) (said : List Said) → IsFresh s.kind rows → Outcome (put_row s rows) (more_given given s) said → Outcome rows given (s ∷ said)
fresh_step rows given s said fresh later =
    let fault : uses_fault rows (s ∷ said) ≡ uses_fault (put_row s rows) said = ap₂ or_else (fresh_fault s.kind s.text rows fresh) (ap (λ r. uses_fault r said) (put-is s.kind s.text rows fresh)) in
    let now : uses_rows rows (s ∷ said) ≡ uses_rows (put_row s rows) said = ap (λ r. uses_rows r said) (put-is s.kind s.text rows fresh) in
    elim later [
      | inl once ↦ inl (record {
        fault = fault ∙ once.fault;
        holds = λ k. ap (all_of (id_of k)) now ∙ once.holds k ∙ ap some_of (given-cons given s said k);
      })
      | inr twice ↦ inr (record {
        fails = subst Fails (sym fault) twice.fails;
        again = elim twice.again [
          | inl h ↦ inl (subst (λ (l : List WordText). 2 ≤ length l) (given-cons given s said workers) h)
          | inr h ↦ inr (subst (λ (l : List WordText). 2 ≤ length l) (given-cons given s said generate) h)
        ];
      })
    ]

-- one that is given already
two_given : (ts : List WordText) (t : WordText) (more : List WordText) → 0 < length ts → 2 ≤ length (ts ++ t ∷ more)
two_given ts t more some = simp length-append (omega arith)

abbrev Later : List Said → Type 0
Later said = (rows : List Row) (given : Given) → Holds rows given → Outcome rows given said

given_already : (rows : List Row) (given : Given) (k : Kind) (t : WordText) (ts : List WordText) → Holds rows given → given k ≡ t ∷ ts → is_some (all_of (id_of k) rows) ≡ true
given_already rows given k t ts holds e = ap is_some (holds k ∙ ap some_of e)

some_given : (ts : List WordText) (t : WordText) (more : List WordText) → ts ≡ t ∷ more → 0 < length ts
some_given ts t more e = subst (λ (l : List WordText). 0 < length l) (sym e) (omega arith)

outcome_step : (kind : Kind) (text : WordText) (said : List Said) (rows : List Row) (given : Given) (ws gs : List WordText) → given workers ≡ ws → given generate ≡ gs → Holds rows given → Later said
    → Outcome rows given (record { kind = kind; text = text } ∷ said)
outcome_step feed text said rows given ws gs e f holds later =
    let s : Said = record { kind = feed; text = text } in
    fresh_step rows given s said (inl refl) (later (put_row s rows) (more_given given s) (put_holds s rows given holds))
outcome_step workers text said rows given [] gs e f holds later =
    let s : Said = record { kind = workers; text = text } in
    fresh_step rows given s said (inr (holds workers ∙ ap some_of e)) (later (put_row s rows) (more_given given s) (put_holds s rows given holds))
outcome_step workers text said rows given (t ∷ ts) gs e f holds later = inr (record {
  fails = fails_first _ _ (again_fails workers text rows refl (given_already rows given workers t ts holds e));
  again = inl (two_given (given workers) text (texts_of workers said) (some_given (given workers) t ts e));
})
outcome_step generate text said rows given ws [] e f holds later =
    let s : Said = record { kind = generate; text = text } in
    fresh_step rows given s said (inr (holds generate ∙ ap some_of f)) (later (put_row s rows) (more_given given s) (put_holds s rows given holds))
outcome_step generate text said rows given ws (t ∷ ts) e f holds later = inr (record {
  fails = fails_first _ _ (again_fails generate text rows refl (given_already rows given generate t ts holds f));
  again = inr (two_given (given generate) text (texts_of generate said) (some_given (given generate) t ts f));
})

once_or_twice : (said : List Said) → Later said
once_or_twice [] rows given holds = inl (once-nil rows given holds)
once_or_twice (s ∷ said) rows given holds = outcome_step s.kind s.text said rows given (given workers) (given generate) refl refl holds (once_or_twice said)

-- ---- the parse

no_entered : (stop : Option (WordText × List WordText)) → entered (built console_app) stop ≡ None
no_entered None = refl
no_entered (Some p) = refl

no_entered_fault : (stop : Option (WordText × List WordText)) → entered_fault (built console_app) stop ≡ []
no_entered_fault None = refl
no_entered_fault (Some p) = refl

same_either : {A : Type 0} (b : Bool) (x : A) → cond b x x ≡ x
same_either true x = refl
same_either false x = refl

or_true : (b : Bool) → (b || true) ≡ true
or_true true = refl
or_true false = refl

-- no argument has a default
no_default : (kind : Kind) (rows : List Row) → default_fault rows (rule_for kind) ≡ []
no_default workers rows = rw (or_true (has_row (id_of workers) rows)) refl
no_default generate rows = rw (or_true (has_row (id_of generate) rows)) refl
no_default feed rows = rw (or_true (has_row (id_of feed) rows)) refl

as_it_is : (kind : Kind) (rows : List Row) → with_default rows (rule_for kind) ≡ rows
as_it_is workers rows = same_either (has_row (id_of workers) rows) rows
as_it_is generate rows = same_either (has_row (id_of generate) rows) rows
as_it_is feed rows = same_either (has_row (id_of feed) rows) rows

no_defaults : (rows : List Row) → defaults_fault rows rules ≡ []
unfolding defaults_fault
no_defaults rows = ap₂ or_else (no_default workers rows) (ap₂ or_else (no_default generate (with_default rows (rule_for workers))) (ap₂ or_else (no_default feed (with_default (with_default rows (rule_for workers)) (rule_for generate))) refl))

all_finished : (rows : List Row) → fold with_default rows rules ≡ rows
all_finished rows = ap (λ r. with_default (with_default r (rule_for generate)) (rule_for feed)) (as_it_is workers rows) ∙ ap (λ r. with_default r (rule_for feed)) (as_it_is generate rows) ∙ as_it_is feed rows

pub fault_of-is : (words : List WordText) → fault_of console_app words ≡ rest_fault (walk_from nothing_held) words
fault_of-is words =
    let end = walked_all (walk_from nothing_held) words in
    let rows = rest_rows (walk_from nothing_held) words in
    let walk_part = walk_fault shape [] (walk_from nothing_held) words in
    let settle_part = settle_fault rules false end.held in
    ap₂ (λ below sub. or_else walk_part (or_else below (or_else settle_part (or_else (defaults_fault rows rules) (check_fault shape (finished rules end.held) (is_some sub)))))) (no_entered_fault end.stopped) (no_entered end.stopped)
    ∙ ap (λ d. or_else walk_part (or_else settle_part (or_else d []))) (no_defaults rows)
    ∙ ap (λ k. or_else walk_part k) (or_else-nil settle_part)

pub matches_of-is : (words : List WordText) → matches_of console_app words ≡ rest_rows (walk_from nothing_held) words
matches_of-is words = all_finished (rest_rows (walk_from nothing_held) words)

-- ---- what the words come to

-- they are taken, and each row holds what was said
record Taken (words : List WordText) : Type 0 where
  said : List Said
  is_read : read None words ≡ Some said
  fault : fault_of console_app words ≡ []
  rows : (k : Kind) → all_of (id_of k) (matches_of console_app words) ≡ some_of (texts_of k said)

-- they are refused, and ask for nothing
record Refused (words : List WordText) : Type 0 where
  fails : Fails (fault_of console_app words)
  nothing : asked words ≡ None

none_given : (least most : ℕ) (ts : List WordText) → 2 ≤ length ts → number_given least most ts ≡ None
none_given least most [] h = absurd (omega arith)
none_given least most (t ∷ []) h = absurd (omega arith)
none_given least most (t ∷ u ∷ ts) h = refl

none_asked : (said : List Said) → (2 ≤ length (texts_of workers said)) ⊎ (2 ≤ length (texts_of generate said)) → asked_by said ≡ None
none_asked said again = elim again [
  | inl h ↦ ap (λ w. all_asked w (number_given 1 1000000 (texts_of generate said)) (feeds_given (texts_of feed said))) (none_given 0 8 (texts_of workers said) h)
  | inr h ↦ ap (λ g. all_asked (number_given 0 8 (texts_of workers said)) g (feeds_given (texts_of feed said))) (none_given 1 1000000 (texts_of generate said) h) ∙ no_generate (number_given 0 8 (texts_of workers said)) (feeds_given (texts_of feed said))
]

outcome_of : (words : List WordText) (r : Option (List Said)) → read None words ≡ r → Agrees (walk_from nothing_held) words r [] [] → Taken words ⊎ Refused words
outcome_of words None e h = inr (record {
  fails = subst Fails (sym (fault_of-is words)) h;
  nothing = ap (option_and_then asked_by) e;
})
outcome_of words (Some said) e h = elim (once_or_twice said [] (λ k. []) (λ k. refl)) [
  | inl once ↦ inl (record {
    said = said;
    is_read = e;
    fault = fault_of-is words ∙ h.0 ∙ once.fault;
    rows = λ k. ap (all_of (id_of k)) (matches_of-is words ∙ h.1) ∙ once.holds k;
  })
  | inr twice ↦ inr (record {
    fails = subst Fails (sym (fault_of-is words ∙ h.0)) twice.fails;
    nothing = ap (option_and_then asked_by) e ∙ none_asked said twice.again;
  })
]

taken_or_refused : (words : List WordText) → All IsUtf8 words → Taken words ⊎ Refused words
taken_or_refused words texts = outcome_of words (read None words) refl ((all_read words texts).start false [] None)

not_both : (kinds : Kinds) → kinds ≡ [] → Fails kinds → ⊥
not_both [] none fails = absurd (cc)
not_both (k ∷ ks) none fails = absurd (cc)

some_back : (ts : List WordText) → unwrap_or (some_of ts) [] ≡ ts
some_back [] = refl
some_back (t ∷ ts) = refl

-- words that are taken ask for what their rows hold
asked-taken : (words : List WordText) → All IsUtf8 words → fault_of console_app words ≡ [] → asked words ≡ asked_in (matches_of console_app words)
asked-taken words texts none = elim (taken_or_refused words texts) [
  | inl taken ↦
      let held : (k : Kind) → texts_of k taken.said ≡ given_to (id_of k) (matches_of console_app words) = λ k. sym (ap (λ o. unwrap_or o []) (taken.rows k) ∙ some_back (texts_of k taken.said)) in
      ap (option_and_then asked_by) taken.is_read
      ∙ ap₂ (λ ws gs. all_asked (number_given 0 8 ws) (number_given 1 1000000 gs) (feeds_given (texts_of feed taken.said))) (held workers) (held generate)
      ∙ ap (λ fs. all_asked (number_given 0 8 (given_to (id_of workers) (matches_of console_app words))) (number_given 1 1000000 (given_to (id_of generate) (matches_of console_app words))) (feeds_given fs)) (held feed)
  | inr refused ↦ absurd (not_both (fault_of console_app words) none refused.fails)
]

-- words that are refused ask for nothing
asked-refused : (words : List WordText) → All IsUtf8 words → fault_of console_app words ≢ [] → asked words ≡ None
asked-refused words texts some = elim (taken_or_refused words texts) [
  | inl taken ↦ absurd (some taken.fault)
  | inr refused ↦ refused.nothing
]

-- what a parse of words that are these gave
pub asked-parsed : (words given : List WordText) (rows : List Row) → given ≡ words → All IsUtf8 words → fault_of console_app given ≡ [] → rows ≡ matches_of console_app given → asked words ≡ asked_in rows
asked-parsed words given rows same texts fault is =
    asked-taken words texts (subst (λ (ws : List WordText). fault_of console_app ws ≡ []) same fault) ∙ sym (ap asked_in (is ∙ ap (matches_of console_app) same))

pub asked-unparsed : (words given : List WordText) → given ≡ words → All IsUtf8 words → fault_of console_app given ≢ [] → asked words ≡ None
asked-unparsed words given same texts some = asked-refused words texts (subst (λ (ws : List WordText). fault_of console_app ws ≢ []) same some)
