-- The rows of events.
use Rattle.std.proofs.Common.{◌≡◌, ◌<◌, ℕ, suc, ◌+◌, List, [], ◌∷◌, ◌++◌, length, map, get_or, drop, drop-cons, refl, ap, sym, ◌∙◌, arith, append_assoc, length-append}
use Rattle.std.proofs.lemmas.List.{get_or-map, length-map}
use Rattle.kq_value.specs.Typed.{HasTypes}
use Rattle.kq_value.specs.declared.value.Value.{Value}
use Rattle.kq_catalog_journal.specs.declared.event.Event.{Event}
use Rattle.kq_catalog_journal.specs.History.{History, Log, commits_of, log}
use Rattle.kq_engine_show.specs.JournalRows.{cursor_after, cursor_of, event_row, journal_columns, rows_behind}
use Rattle.kq_engine_show.proofs.ExtentLemmas.{number_cell-typed}

pub event_row-typed : (l : Log) (place cursor : ℕ) (e : Event) → HasTypes journal_columns (event_row l place cursor e)
event_row-typed l place cursor e =
    (number_cell-typed place, ((refl, tt), (number_cell-typed (cursor_of cursor e.operation), (number_cell-typed e.by.actor, (number_cell-typed e.by.number, ((refl, tt), tt))))))

-- the rows of some events, and then those of the others
pub rows_behind-append : (l : Log) (place cursor : ℕ) (h g : History)
    → rows_behind l place cursor (h ++ g) ≡ rows_behind l place cursor h ++ rows_behind l (place + length h) (cursor + length (log h)) g
rows_behind-append l place cursor [] g = let p : place + 0 ≡ place = omega arith in let c : cursor + 0 ≡ cursor = omega arith in rw (p, c) refl
rows_behind-append l place cursor (e ∷ h) g =
    let p : place + length (e ∷ h) ≡ place + 1 + length h = omega arith in
    let front = length-append (commits_of e.operation) (log h) in
    let c : cursor + length (log (e ∷ h)) ≡ cursor_after cursor e + length (log h) = omega (arith, front) in
    rw (p, c) (ap (λ rs. event_row l (place + 1) (cursor_after cursor e) e ∷ rs) (rows_behind-append l (place + 1) (cursor_after cursor e) h g))

-- what is left of some events, and the next
pub next_event : {H : Type 0} (value : H → Event) (handles : List H) (i : ℕ) (h : H) → i < length handles → h ≡ get_or handles i h
    → drop i (map value handles) ≡ value h ∷ drop (i + 1) (map value handles)
next_event value handles i h within is =
    let es = map value handles in
    let n = length-map handles value in
    let more : suc i ≡ i + 1 = omega arith in
    drop-cons es i (value h) (omega (arith, n, within)) ∙ ap (λ e. e ∷ drop (suc i) es) (get_or-map value handles i h (value h) within ∙ ap value (sym is)) ∙ ap (λ k. value h ∷ drop k es) more

-- ---- one event more

pub rows-next : (l : Log) (place cursor after i : ℕ) (rows more whole : List (List Value)) (row : List Value) (e : Event) (before left : History)
    → before ≡ e ∷ left → after ≡ cursor_after cursor e → row ≡ event_row l (place + i + 1) after e → more ≡ rows ++ row ∷ []
    → rows ++ rows_behind l (place + i) cursor before ≡ whole → more ++ rows_behind l (place + (i + 1)) after left ≡ whole
rows-next l place cursor after i rows more whole row e before left b a is m h =
    let p : place + (i + 1) ≡ place + i + 1 = omega arith in
    rw (m, is, a, p) (append_assoc rows (event_row l (place + i + 1) (cursor_after cursor e) e ∷ []) (rows_behind l (place + i + 1) (cursor_after cursor e) left) ∙ rw b at h)

pub count-next : (cursor after total : ℕ) (e : Event) (before left : History) → before ≡ e ∷ left → after ≡ cursor_after cursor e → cursor + length (log before) ≡ total → after + length (log left) ≡ total
count-next cursor after total e before left b a h =
    let n = length-append (commits_of e.operation) (log left) in
    let all : cursor + length (log (e ∷ left)) ≡ total = rw b at h in
    omega (arith, n, a, all)

-- ---- some events more

pub rows-part : (l : Log) (at cursor after n : ℕ) (rows more whole : List (List Value)) (before part left : History)
    → before ≡ part ++ left → n ≡ length part → after ≡ cursor + length (log part) → more ≡ rows ++ rows_behind l at cursor part
    → rows ++ rows_behind l at cursor before ≡ whole → more ++ rows_behind l (at + n) after left ≡ whole
rows-part l at cursor after n rows more whole before part left b long a m h =
    rw (m, a, long) (append_assoc rows (rows_behind l at cursor part) (rows_behind l (at + length part) (cursor + length (log part)) left)
    ∙ ap (λ rs. rows ++ rs) (sym (rows_behind-append l at cursor part left)) ∙ rw b at h)
