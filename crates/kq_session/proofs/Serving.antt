-- A session goes on by one exchange.
use Rattle.std.proofs.Common.{◌≡◌, ◌≤◌, ◌<◌, ◌+◌, ◌^◌, ◌&&◌, ◌||◌, ℕ, Bool, true, false, List, [], ◌∷◌, ◌++◌, length, map, take, nat_eq, All, Option, Some, None, Result, Ok, Err, ap, sym, ◌∙◌, subst, refl, arith, append-nil, append_assoc, length-append, add-zero, zero-add}
use mathlib.Core.List.{IsPrefix}
use Rattle.kq_lock.proofs.Beginnings.{IsPrefix-refl, IsPrefix-trans}
use Rattle.std.specs.List.{list_any}
use Rattle.std.proofs.lemmas.Bool.{eq-eqb}
use Rattle.std.proofs.lemmas.List.Elements.{All-append, All-cons, All-nil, All-weaker}
use Rattle.std.proofs.lemmas.List.Folds.{list_any-append}
use Rattle.std.proofs.lemmas.List.Sums.{sum_by-append}
use Rattle.std.proofs.lemmas.List.{length-map, map_push, flat_map_more, length_push, take-append-le}
use Rattle.kq_world.specs.Told.{Adds}
use Rattle.kq_world.specs.Outside.{Contents, Delivers}
use Rattle.kq_world.proofs.Told.{Adds-none, Adds-trans, Delivers-none, Delivers-trans}
use Rattle.kq_catalog_journal.specs.declared.limits.Limits.{Limits}
use Rattle.kq_catalog_journal.specs.declared.event.By.{By}
use Rattle.kq_catalog_journal.specs.declared.event.Event.{Event}
use Rattle.kq_catalog_journal.specs.declared.event.Operation.{Operation}
use Rattle.kq_catalog_journal.specs.History.{History}
use Rattle.kq_reply.specs.declared.reply.Reply.{Reply}
use Rattle.kq_reply.specs.Number.{kind_of}
use Rattle.kq_reply_print.specs.Text.{text_of}
use Rattle.kq_script_blocks.specs.Script.{Block, script_blocks}
use Rattle.kq_script_blocks.specs.Reading.{IsReading, IsPrefix as Begins}
use Rattle.kq_script_blocks.specs.declared.reader.ScriptReader.{ScriptReader}
use Rattle.kq_engine.specs.kq_engine_prepare.Fits.{event_by}
use Rattle.kq_engine.specs.kq_engine_prepare.Merges.{NamesAll}
use Rattle.kq_engine.specs.Shared.{PassView, commit_count}
use Rattle.kq_engine.proofs.kq_engine_prepare.Telling.{NamesAll-since}
use Rattle.kq_session.specs.declared.end.End.{End}
use Rattle.kq_session.specs.declared.end.End.TheVariants.{Finished, Short, SourceFault, SinkFault, InputLimit}
use Rattle.kq_session.specs.declared.receipt.Receipt.{Receipt}
use Rattle.kq_export_interface.specs.Due.{ExporterView, Holding, nothing_held}
use Rattle.kq_session.specs.Blocks.{FitsBlock, AnswersBlock, AreTakes, GoesOn, MayMakeFor}
use Rattle.kq_session.specs.Objects.{SessionView}
use Rattle.kq_session.specs.Session.{Exchange, IsExchange, ComesAfter, AreExchanges, AreLinked, AreWritten, SessionEnds, Explained, PassGoesOn, artefact_faults, blocks_of, moments_of, texts_of, owns, is_receipted, AreTaken, command_bytes, input_bytes}
use Rattle.kq_session.specs.Exchanges.{State, Progress, Went, Idle, ExchangeBy, SessionComesTo}
use Rattle.kq_session.proofs.Blocks.{FitsBlock-append, makes_granted}
use Rattle.kq_session.proofs.Exchanging.{given_at_end, open_still}
use Rattle.kq_session.proofs.Faults.{faults-push}

IsExchange-later : (limits : Limits) (actor : ℕ) (h new more : History) → new ≡ h ++ more → (t : Exchange) → IsExchange limits h actor t → IsExchange limits new actor t
IsExchange-later limits actor h new more is t exchange = subst (λ (n : History). IsExchange limits n actor t) (sym is) (record {
  fits = FitsBlock-append limits h more _ t.held t.holds t.block t.receipt.moment t.receipt.place t.receipt.own t.reply exchange.fits;
  within = omega (arith, exchange.within, length-append h more);
  kind = exchange.kind;
})

ComesAfter-later : (h new more : History) (q : ℕ) → new ≡ h ++ more → (t : Exchange) → t.receipt.place ≤ length h → ComesAfter h q t → ComesAfter new q t
ComesAfter-later h new more q is t within after = record {
  since = after.since;
  names_all = subst (λ (n : History). NamesAll n q t.reply) (sym (ap (take t.receipt.place) is ∙ take-append-le t.receipt.place h more within)) after.names_all;
}

AreExchanges-later : (limits : Limits) (actor : ℕ) (h new more : History) (n q : ℕ) → new ≡ h ++ more → (ts : List Exchange) → AreExchanges limits h actor n q ts → AreExchanges limits new actor n q ts
AreExchanges-later limits actor h new more n q is [] all = tt
AreExchanges-later limits actor h new more n q is (t ∷ ts) all = (all.0, ComesAfter-later h new more q is t all.2.within all.1, IsExchange-later limits actor h new more is t all.2, AreExchanges-later limits actor h new more (n + 1) t.receipt.place is ts all.3)

-- the place of the last exchange, or the one before the exchanges
abbrev last_place : ℕ → List Exchange → ℕ
last_place q [] = q
last_place q (t ∷ ts) = last_place t.receipt.place ts

AreExchanges-push : (limits : Limits) (actor : ℕ) (h : History) (n q : ℕ) (ts : List Exchange) (t : Exchange) → AreExchanges limits h actor n q ts → t.receipt.number ≡ n + length ts + 1 → ComesAfter h (last_place q ts) t → IsExchange limits h actor t → AreExchanges limits h actor n q (ts ++ t ∷ [])
AreExchanges-push limits actor h n q [] t all number place exchange = (omega arith, place, exchange, tt)
AreExchanges-push limits actor h n q (x ∷ ts) t all number place exchange = (all.0, all.1, all.2, AreExchanges-push limits actor h (n + 1) x.receipt.place ts t all.3 (omega arith) place exchange)

-- the last place lies within the history
last_place-within : (limits : Limits) (actor : ℕ) (h : History) (n q : ℕ) (ts : List Exchange) → q ≤ length h → AreExchanges limits h actor n q ts → last_place q ts ≤ length h
last_place-within limits actor h n q [] within all = within
last_place-within limits actor h n q (t ∷ ts) within all = last_place-within limits actor h (n + 1) t.receipt.place ts all.2.within all.3

AreTaken-push : (receipts : List Receipt) (r : Receipt) (taken takes : List ℕ) → AreTaken receipts taken → AreTakes r.kind r.place takes → AreTaken (receipts ++ r ∷ []) (taken ++ takes)
AreTaken-push [] r taken takes all last = (takes, [], rw all (sym (append-nil takes)), last, refl)
AreTaken-push (x ∷ receipts) r taken takes all last =
    let more = all.1 in
    (all.0, more ++ takes, ap (λ (l : List ℕ). l ++ takes) all.2 ∙ append_assoc all.0 more takes, all.3, AreTaken-push receipts r more takes all.4 last)

owns-push : (receipts : List Receipt) (r : Receipt) → owns (receipts ++ r ∷ []) ≡ owns receipts + commit_count r.own
owns-push receipts r = sum_by-append (λ (x : Receipt). commit_count x.own) receipts (r ∷ []) ∙ ap (λ (k : ℕ). owns receipts + k) (zero-add (commit_count r.own))

-- ---- events

and_both : (a b : Bool) → a ≡ true → b ≡ true → (a && b) ≡ true
and_both true b e f = f
and_both false b e f = e

and_weaker : (a b c : Bool) → (b ≡ true → c ≡ true) → (a && b) ≡ true → (a && c) ≡ true
and_weaker true b c f e = f e
and_weaker false b c f e = e

or_first : (a b : Bool) → a ≡ true → (a || b) ≡ true
or_first true b e = refl
or_first false b e = absurd (cc)

or_second : (a b : Bool) → b ≡ true → (a || b) ≡ true
or_second true b e = refl
or_second false b e = e

-- the receipt is of this number, and tells no refusal
abbrev is_of : ℕ → Receipt → Bool
is_of number r = nat_eq r.number number && nat_eq r.kind 0

-- what was made for a receipt was made for one of more
is_receipted-more : (actor : ℕ) (receipts : List Receipt) (r : Receipt) (e : Event) → is_receipted actor receipts e ≡ true → is_receipted actor (receipts ++ r ∷ []) e ≡ true
is_receipted-more actor receipts r e is =
    and_weaker (nat_eq e.by.actor actor) (list_any (is_of e.by.number) receipts) (list_any (is_of e.by.number) (receipts ++ r ∷ []))
    (λ here. list_any-append (is_of e.by.number) receipts (r ∷ []) ∙ or_first (list_any (is_of e.by.number) receipts) (list_any (is_of e.by.number) (r ∷ [])) here) is

-- an event with the last receipt's request id was made for it
is_receipted-last : (actor n : ℕ) (receipts : List Receipt) (r : Receipt) (made : Operation) → r.number ≡ n → r.kind ≡ 0 → is_receipted actor (receipts ++ r ∷ []) (record { by = record { actor = actor; number = n }; operation = made }) ≡ true
is_receipted-last actor n receipts r made number granted =
    let last : is_of n r ≡ true = and_both (nat_eq r.number n) (nat_eq r.kind 0) (eq-eqb r.number n number) (eq-eqb r.kind 0 granted) in
    let some : list_any (is_of n) (receipts ++ r ∷ []) ≡ true = list_any-append (is_of n) receipts (r ∷ []) ∙ or_second (list_any (is_of n) receipts) (list_any (is_of n) (r ∷ [])) (or_first (is_of n r) false last) in
    and_both (nat_eq actor actor) (list_any (is_of n) (receipts ++ r ∷ [])) (eq-eqb actor actor refl) some

event_receipted : (limits : Limits) (seen : History) (by : By) (block : Block) (actor n : ℕ) (receipts : List Receipt) (r : Receipt) (reply : Reply) (made : Option Operation) → r.number ≡ n → r.kind ≡ kind_of reply → MayMakeFor limits seen by block reply made
    → All (λ (e : Event). is_receipted actor (receipts ++ r ∷ []) e ≡ true) (event_by (record { actor = actor; number = n }) made)
event_receipted limits seen by block actor n receipts r reply None number kind may = All-nil (λ (e : Event). is_receipted actor (receipts ++ r ∷ []) e ≡ true)
event_receipted limits seen by block actor n receipts r reply (Some made) number kind may =
    let e : Event = record { by = record { actor = actor; number = n }; operation = made } in
    All-cons (λ (x : Event). is_receipted actor (receipts ++ r ∷ []) x ≡ true) e [] (is_receipted-last actor n receipts r made number (kind ∙ makes_granted limits seen by block reply made may)) (All-nil (λ (x : Event). is_receipted actor (receipts ++ r ∷ []) x ≡ true))

-- no receipt yet
pub PassGoesOn-none : (actor : ℕ) (p : PassView) → PassGoesOn actor p p []
PassGoesOn-none actor p = record {
  of = refl;
  worth = refl;
  seen = IsPrefix-refl p.seen;
  events = [];
  added = sym (append-nil p.added);
  receipted = All-nil (λ (e : Event). is_receipted actor [] e ≡ true);
  made = sym (add-zero p.made);
  more = [];
  taken = sym (append-nil p.taken);
  each_taken = refl;
}

-- one receipt more
PassGoesOn-push : (limits : Limits) (first old new : PassView) (held holds : ExporterView) (actor n : ℕ) (block : Block) (receipts : List Receipt) (r : Receipt) (reply : Reply) → PassGoesOn actor first old receipts → r.number ≡ n → r.kind ≡ kind_of reply
    → AnswersBlock limits old new held holds (record { actor = actor; number = n }) block r.moment (record { place = r.place; own = r.own; reply = reply }) → PassGoesOn actor first new (receipts ++ r ∷ [])
PassGoesOn-push limits first old new held holds actor n block receipts r reply goes_on number kind step = record {
  of = step.of ∙ goes_on.of;
  worth = step.worth ∙ goes_on.worth;
  seen = IsPrefix-trans first.seen old.seen new.seen goes_on.seen step.seen;
  events = goes_on.events ++ event_by (record { actor = actor; number = n }) step.operation;
  added = step.added ∙ ap (λ (h : History). h ++ event_by (record { actor = actor; number = n }) step.operation) goes_on.added ∙ append_assoc first.added goes_on.events (event_by (record { actor = actor; number = n }) step.operation);
  receipted = All-append (λ (e : Event). is_receipted actor (receipts ++ r ∷ []) e ≡ true) goes_on.events (event_by (record { actor = actor; number = n }) step.operation)
      (All-weaker (λ (e : Event). is_receipted actor receipts e ≡ true) (λ (e : Event). is_receipted actor (receipts ++ r ∷ []) e ≡ true) (is_receipted-more actor receipts r) goes_on.events goes_on.receipted)
      (event_receipted limits new.seen (record { actor = actor; number = n }) block actor n receipts r reply step.operation number kind step.may_make);
  made = omega (arith, step.made, goes_on.made, owns-push receipts r);
  more = goes_on.more ++ step.takes;
  taken = step.taken ∙ ap (λ (l : List ℕ). l ++ step.takes) goes_on.taken ∙ append_assoc first.taken goes_on.more step.takes;
  each_taken = AreTaken-push receipts r goes_on.more step.takes goes_on.each_taken (subst (λ (k : ℕ). AreTakes k r.place step.takes) (sym kind) step.enough);
}

linked-push : (first : Holding) (ts : List Exchange) (t : Exchange) (last now : Holding) → AreLinked first ts last → t.held ≡ last → now ≡ t.holds → AreLinked first (ts ++ t ∷ []) now
linked-push first [] t last now linked held holds = (held ∙ linked, holds)
linked-push first (x ∷ ts) t last now linked held holds = (linked.0, linked-push x.holds ts t last now linked.1 held holds)

GoesOn-trans : (early seen : History) (a b c : ExporterView) → GoesOn early a b → GoesOn seen b c → GoesOn seen a c
GoesOn-trans early seen a b c first second = record { serves = second.serves ∙ first.serves; behind = second.behind }

-- an exporter that nobody asked
pub GoesOn-unasked : (seen : History) (e : ExporterView) → e.seen ≡ [] → GoesOn seen e e
GoesOn-unasked seen e unasked = record { serves = refl; behind = (seen, ap (λ (h : History). h ++ seen) unasked) }

-- the session before its n-th block
pub record SoFar (limits : Limits) (actor : ℕ) (start now : State) (reader : ScriptReader) (n : ℕ) : Type 0 where
  pub exchanges : List Exchange
  pub bytes : List ℕ
  pub of_exchanges : now.receipts ≡ map (λ (t : Exchange). t.receipt) exchanges
  pub each : AreExchanges limits now.pass.seen actor 0 0 exchanges
  pub linked : AreLinked nothing_held exchanges now.exporter.holding
  pub exporter : GoesOn now.pass.seen start.exporter now.exporter
  pub gave : Delivers start.contents.source now.contents.source bytes
  pub reading : IsReading command_bytes input_bytes reader start.contents.source now.contents.source bytes (blocks_of exchanges)
  pub moments : Adds start.contents.readings now.contents.readings (moments_of exchanges)
  pub written : Adds start.contents.accepted now.contents.accepted (texts_of exchanges)
  pub faults : artefact_faults now.receipts ≤ now.exporter.holding.faults
  pub goes_on : PassGoesOn actor start.pass now.pass now.receipts
  pub count : length exchanges + 1 ≡ n

pub SoFar-none : (limits : Limits) (actor : ℕ) (s : State) (reader : ScriptReader) → s.receipts ≡ [] → s.exporter.holding ≡ nothing_held → s.exporter.seen ≡ [] → IsReading command_bytes input_bytes reader s.contents.source s.contents.source [] [] → SoFar limits actor s s reader 1
SoFar-none limits actor s reader fresh holds unasked reading = record {
  exchanges = [];
  bytes = [];
  of_exchanges = fresh;
  each = tt;
  linked = holds;
  exporter = GoesOn-unasked s.pass.seen s.exporter unasked;
  gave = Delivers-none s.contents.source;
  reading = reading;
  moments = Adds-none s.contents.readings;
  written = Adds-none s.contents.accepted;
  faults = subst (λ (l : List Receipt). artefact_faults l ≤ s.exporter.holding.faults) (sym fresh) (omega arith);
  goes_on = subst (PassGoesOn actor s.pass s.pass) (sym fresh) (PassGoesOn-none actor s.pass);
  count = refl;
}

-- what was read before the n-th block
abbrev pub progress : {limits : Limits} {actor : ℕ} {start now : State} {reader : ScriptReader} {n : ℕ} → SoFar limits actor start now reader n → Progress
progress {start = start} so_far = record { first = start.contents.source; taken = so_far.bytes; given = blocks_of so_far.exchanges }

texts_of-push : (exchanges : List Exchange) (t : Exchange) → texts_of (exchanges ++ t ∷ []) ≡ texts_of exchanges ++ text_of t.reply
texts_of-push exchanges t = sym (flat_map_more (λ (u : Exchange). text_of u.reply) [] exchanges t)

-- the exchanges with one more
record More (limits : Limits) (actor : ℕ) (start now : State) (reader : ScriptReader) (exchanges : List Exchange) (n : ℕ) : Type 0 where
  pub bytes : List ℕ
  pub of_exchanges : now.receipts ≡ map (λ (t : Exchange). t.receipt) exchanges
  pub each : AreExchanges limits now.pass.seen actor 0 0 exchanges
  pub linked : AreLinked nothing_held exchanges now.exporter.holding
  pub exporter : GoesOn now.pass.seen start.exporter now.exporter
  pub gave : Delivers start.contents.source now.contents.source bytes
  pub reading : IsReading command_bytes input_bytes reader start.contents.source now.contents.source bytes (blocks_of exchanges)
  pub moments : Adds start.contents.readings now.contents.readings (moments_of exchanges)
  pub faults : artefact_faults now.receipts ≤ now.exporter.holding.faults
  pub goes_on : PassGoesOn actor start.pass now.pass now.receipts
  pub count : length exchanges + 1 ≡ n

more_by : {E : Type 0} (limits : Limits) (actor n : ℕ) (start old new : State) (was reader : ScriptReader) (so_far : SoFar limits actor start old was n) (small : n < 2 ^ 64) (result : Result (Unit {0}) E)
    → (went : Went limits (record { actor = actor; number = n }) (progress so_far) old new reader result) → More limits actor start new reader (so_far.exchanges ++ went.replied.exchange ∷ []) (n + 1)
more_by limits actor n start old new was reader so_far small result went =
    let t = went.replied.exchange in
    let answered = went.replied.answered in
    let step = answered.step in
    let grown = step.seen in
    let r = t.receipt in
    let exchanges = so_far.exchanges in
    let low : last_place 0 exchanges ≤ length old.pass.seen = last_place-within limits actor old.pass.seen 0 0 exchanges (omega arith) so_far.each in
    let all : length old.receipts ≡ length exchanges = ap length so_far.of_exchanges ∙ length-map exchanges (λ (u : Exchange). u.receipt) in
    let number : t.receipt.number ≡ 0 + length exchanges + 1 = omega (arith, answered.number, so_far.count) in
    record {
      bytes = so_far.bytes ++ went.reads.bytes;
      of_exchanges = answered.receipt ∙ ap (λ (l : List Receipt). l ++ r ∷ []) so_far.of_exchanges ∙ sym (map_push (λ (u : Exchange). u.receipt) exchanges t);
      each = AreExchanges-push limits actor new.pass.seen 0 0 exchanges t (AreExchanges-later limits actor old.pass.seen new.pass.seen grown.0 0 0 (sym grown.1) exchanges so_far.each) number (record { since = omega (arith, low, step.since); names_all = NamesAll-since (take r.place new.pass.seen) (last_place 0 exchanges) (length old.pass.seen) t.reply low step.names_all })
          (record {
            fits = subst (λ (m : ℕ). FitsBlock limits new.pass.seen (record { actor = actor; number = m }) t.held t.holds t.block r.moment r.place r.own t.reply) (sym answered.number)
                (subst (λ (x : Holding). FitsBlock limits new.pass.seen (record { actor = actor; number = n }) x t.holds t.block r.moment r.place r.own t.reply) (sym answered.held)
                (subst (λ (x : Holding). FitsBlock limits new.pass.seen (record { actor = actor; number = n }) old.exporter.holding x t.block r.moment r.place r.own t.reply) (sym answered.holds) step.fits));
            within = step.within;
            kind = answered.kind;
          });
      linked = linked-push nothing_held exchanges t old.exporter.holding new.exporter.holding so_far.linked answered.held (sym answered.holds);
      exporter = GoesOn-trans old.pass.seen new.pass.seen start.exporter old.exporter new.exporter so_far.exporter step.exporter;
      gave = Delivers-trans start.contents.source old.contents.source new.contents.source so_far.bytes went.reads.bytes so_far.gave went.reads.gave;
      reading = subst (IsReading command_bytes input_bytes reader start.contents.source new.contents.source (so_far.bytes ++ went.reads.bytes)) (ap (λ (b : Block). blocks_of exchanges ++ b ∷ []) (sym went.replied.same_block) ∙ sym (map_push (λ (u : Exchange). u.block) exchanges t)) went.reads.reading;
      moments = subst (Adds start.contents.readings new.contents.readings) (sym (map_push (λ (u : Exchange). u.receipt.moment) exchanges t)) (Adds-trans start.contents.readings old.contents.readings new.contents.readings (moments_of exchanges) _ so_far.moments answered.moment);
      faults = subst (λ (l : List Receipt). artefact_faults l ≤ new.exporter.holding.faults) (sym answered.receipt)
          (faults-push limits new.pass.seen (record { actor = actor; number = n }) old.exporter.holding new.exporter.holding t.block old.receipts r t.reply n step.fits answered.kind (omega (arith, all, so_far.count)) small so_far.faults);
      goes_on = subst (PassGoesOn actor start.pass new.pass) (sym answered.receipt) (PassGoesOn-push limits start.pass old.pass new.pass old.exporter new.exporter actor n t.block old.receipts r t.reply so_far.goes_on answered.number answered.kind step);
      count = omega (arith, so_far.count, length_push exchanges t);
    }

pub SoFar-push : (limits : Limits) (actor n : ℕ) (start old new : State) (was reader : ScriptReader) (so_far : SoFar limits actor start old was n) → n < 2 ^ 64
    → ExchangeBy limits (record { actor = actor; number = n }) (progress so_far) old new reader None → SoFar limits actor start new reader (n + 1)
SoFar-push limits actor n start old new was reader so_far small went =
    let t = went.replied.exchange in
    let m = more_by limits actor n start old new was reader so_far small (Ok tt) went in
    record {
      exchanges = so_far.exchanges ++ t ∷ [];
      bytes = m.bytes;
      of_exchanges = m.of_exchanges;
      each = m.each;
      linked = m.linked;
      exporter = m.exporter;
      gave = m.gave;
      reading = m.reading;
      moments = m.moments;
      written = subst (Adds start.contents.accepted new.contents.accepted) (sym (texts_of-push so_far.exchanges t)) (Adds-trans start.contents.accepted old.contents.accepted new.contents.accepted (texts_of so_far.exchanges) (text_of t.reply) so_far.written went.replied.written);
      faults = m.faults;
      goes_on = m.goes_on;
      count = m.count;
    }

-- nothing was answered any more
SessionEnds-idle : (limits : Limits) (actor n : ℕ) (start old new : State) (was : ScriptReader) (end : End) (so_far : SoFar limits actor start old was n) → Idle (progress so_far) old new end
    → ((exchanges : List Exchange) → Adds start.contents.accepted new.contents.accepted (texts_of exchanges) → AreWritten end start.contents.accepted new.contents.accepted exchanges) → SessionEnds limits new.pass.seen actor start.contents new.contents new.receipts new.exporter.holding end
SessionEnds-idle limits actor n start old new was end so_far idle all_written = record {
  exchanges = so_far.exchanges;
  bytes = so_far.bytes ++ idle.bytes;
  of_exchanges = idle.same_receipts ∙ so_far.of_exchanges;
  each = subst (λ (p : PassView). AreExchanges limits p.seen actor 0 0 so_far.exchanges) (sym idle.same_pass) so_far.each;
  linked = subst (λ (e : ExporterView). AreLinked nothing_held so_far.exchanges e.holding) (sym idle.same_exporter) so_far.linked;
  faults = subst (λ (e : ExporterView). artefact_faults new.receipts ≤ e.holding.faults) (sym idle.same_exporter) (subst (λ (l : List Receipt). artefact_faults l ≤ old.exporter.holding.faults) (sym idle.same_receipts) so_far.faults);
  gave = Delivers-trans start.contents.source old.contents.source new.contents.source so_far.bytes idle.bytes so_far.gave idle.gave;
  blocks = idle.blocks;
  at_end = idle.at_end;
  all_at_end = idle.all_at_end;
  moments = idle.readings ∙ so_far.moments;
  written = all_written so_far.exchanges (idle.accepted ∙ so_far.written);
}

PassGoesOn-idle : (actor : ℕ) (first old new : PassView) (receipts more : List Receipt) → PassGoesOn actor first old receipts → new ≡ old → more ≡ receipts → PassGoesOn actor first new more
PassGoesOn-idle actor first old new receipts more goes_on same same_receipts = subst (λ (p : PassView). PassGoesOn actor first p more) (sym same) (subst (PassGoesOn actor first old) (sym same_receipts) goes_on)

idle_comes : (limits : Limits) (actor n : ℕ) (start old new : State) (was : ScriptReader) (end : End) (so_far : SoFar limits actor start old was n) → Idle (progress so_far) old new end
    → ((exchanges : List Exchange) → Adds start.contents.accepted new.contents.accepted (texts_of exchanges) → AreWritten end start.contents.accepted new.contents.accepted exchanges) → SessionComesTo limits actor start new end
idle_comes limits actor n start old new was end so_far idle all_written = record {
  ends = SessionEnds-idle limits actor n start old new was end so_far idle all_written;
  goes_on = PassGoesOn-idle actor start.pass old.pass new.pass old.receipts new.receipts so_far.goes_on idle.same_pass idle.same_receipts;
  exporter = subst (λ (p : PassView). GoesOn p.seen start.exporter new.exporter) (sym idle.same_pass) (subst (GoesOn old.pass.seen start.exporter) (sym idle.same_exporter) so_far.exporter);
}

pub SessionComesTo-end : (limits : Limits) (actor n : ℕ) (start old new : State) (was reader : ScriptReader) (end : End) (so_far : SoFar limits actor start old was n) → n < 2 ^ 64
    → ExchangeBy limits (record { actor = actor; number = n }) (progress so_far) old new reader (Some end) → SessionComesTo limits actor start new end
SessionComesTo-end limits actor n start old new was reader SinkFault so_far small failed =
    let went = failed.1 in
    let t = went.replied.exchange in
    let exchanges = so_far.exchanges in
    let cut = went.replied.written in
    let m = more_by limits actor n start old new was reader so_far small (Err failed.0) went in
    record {
      ends = record {
        exchanges = exchanges ++ t ∷ [];
        bytes = m.bytes;
        of_exchanges = m.of_exchanges;
        each = m.each;
        linked = m.linked;
        faults = m.faults;
        gave = m.gave;
        blocks = m.reading.prefix;
        at_end = tt;
        all_at_end = given_at_end reader start.contents.source new.contents.source m.bytes _ m.reading;
        moments = m.moments;
        written = (exchanges, t, cut.0, refl, cut.1, Adds-trans start.contents.accepted old.contents.accepted new.contents.accepted (texts_of exchanges) (take cut.0 (text_of t.reply)) so_far.written cut.2);
      };
      goes_on = m.goes_on;
      exporter = m.exporter;
    }
SessionComesTo-end limits actor n start old new was reader Finished so_far small exchange = idle_comes limits actor n start old new was Finished so_far exchange (λ exchanges w. w)
SessionComesTo-end limits actor n start old new was reader Short so_far small exchange = idle_comes limits actor n start old new was Short so_far exchange (λ exchanges w. w)
SessionComesTo-end limits actor n start old new was reader SourceFault so_far small exchange = idle_comes limits actor n start old new was SourceFault so_far exchange (λ exchanges w. w)
SessionComesTo-end limits actor n start old new was reader InputLimit so_far small exchange = idle_comes limits actor n start old new was InputLimit so_far exchange (λ exchanges w. w)

no_blocks : (ended : Bool) → Begins [] (script_blocks command_bytes [] ended)
no_blocks ended = (script_blocks command_bytes [] ended, refl)

-- there was no room for the first receipt
pub SessionEnds-none : (limits : Limits) (actor : ℕ) (h : History) (o : Contents) (x : Holding) → x ≡ nothing_held → SessionEnds limits h actor o o [] x Short
SessionEnds-none limits actor h o x holds = record {
  exchanges = [];
  bytes = [];
  of_exchanges = refl;
  each = tt;
  linked = holds;
  faults = omega arith;
  gave = Delivers-none o.source;
  blocks = no_blocks o.source.ended;
  at_end = tt;
  all_at_end = open_still o.source.ended o.source.ended [] [] refl;
  moments = Adds-none o.readings;
  written = Adds-none o.accepted;
}

pub SessionComesTo-none : (limits : Limits) (actor : ℕ) (s : State) → s.receipts ≡ [] → s.exporter.holding ≡ nothing_held → s.exporter.seen ≡ [] → SessionComesTo limits actor s s Short
SessionComesTo-none limits actor s fresh holds unasked = record {
  goes_on = subst (PassGoesOn actor s.pass s.pass) (sym fresh) (PassGoesOn-none actor s.pass);
  ends = subst (λ (rs : List Receipt). SessionEnds limits s.pass.seen actor s.contents s.contents rs s.exporter.holding Short) (sym fresh) (SessionEnds-none limits actor s.pass.seen s.contents s.exporter.holding holds);
  exporter = GoesOn-unasked s.pass.seen s.exporter unasked;
}

-- what explains a session goes on to explain it
pub Explained-later : (limits : Limits) (h new : History) (actor : ℕ) (x : Holding) (before : Contents) (s : SessionView) → IsPrefix h new → Explained limits h actor x before s → Explained limits new actor x before s
Explained-later limits h new actor x before s later explained =
    let ends = explained.ends in
    record {
      ends = record {
        exchanges = ends.exchanges;
        bytes = ends.bytes;
        of_exchanges = ends.of_exchanges;
        each = AreExchanges-later limits actor h new later.0 0 0 (sym later.1) ends.exchanges ends.each;
        linked = ends.linked;
        faults = ends.faults;
        gave = ends.gave;
        blocks = ends.blocks;
        at_end = ends.at_end;
        all_at_end = ends.all_at_end;
        moments = ends.moments;
        written = ends.written;
      };
      by_end = explained.by_end;
      short = explained.short;
    }
