-- A script's blocks, a byte further on and at its end.
use Rattle.std.proofs.Common.{◌≡◌, ℕ, ◌<◌, ◌+◌, ◌++◌, length, take, get_or, Bool, true, false, List, [], ◌∷◌, Option, None, MatchBool, if◌then◌else◌, refl, sym, ap, ◌∙◌, subst, append-nil, append_assoc}
use Rattle.std.specs.List.{flat_map, slice_split}
use Rattle.std.proofs.lemmas.List.{take_more}
use Rattle.std.proofs.lemmas.List.Concat.{flat_map-append}
use Rattle.kq_script_blocks.specs.Script.{Block, is_line_end, is_blank, block_of, all_but_last, lines_of, runs_of, script_blocks}
use Rattle.kq_script_blocks.specs.Open.{IsOpen, AreItem, AddsByte, AppendsItem, last_of, open_line, open_run}
use Rattle.kq_script_blocks.specs.Reading.{IsPrefix}
use Rattle.kq_script_blocks.specs.declared.block.OpenBlock.{OpenBlock}
use Rattle.kq_script_blocks.specs.declared.item.Item.{Item}
use Rattle.kq_script_blocks.proofs.Splits.{all_but_last-push, last_of-push, slice_split-parts, slice_split-push_yes, slice_split-push_no}

-- the lines that an LF ends, and the runs that a blank line ends
abbrev whole_lines : List ℕ → List (List ℕ)
whole_lines bytes = all_but_last (lines_of bytes)

-- the blocks of some runs, and of one more
flat_map_one : {X A : Type 0} (f : X → List A) (xs : List X) (x : X) → flat_map f (xs ++ x ∷ []) ≡ flat_map f xs ++ f x
flat_map_one f xs x = flat_map-append f xs (x ∷ []) ∙ ap (λ l. flat_map f xs ++ l) (append-nil (f x))

-- an element that splits ends the last part
front-push_yes : {X : Type 0} (p : X → Bool) (xs : List X) (x : X) → p x ≡ true → all_but_last (slice_split p (xs ++ x ∷ [])) ≡ all_but_last (slice_split p xs) ++ last_of (slice_split p xs) ∷ []
front-push_yes p xs x passes = ap all_but_last (slice_split-push_yes p xs x passes) ∙ all_but_last-push (all_but_last (slice_split p xs) ++ last_of (slice_split p xs) ∷ []) []

last-push_yes : {X : Type 0} (p : X → Bool) (xs : List X) (x : X) → p x ≡ true → last_of (slice_split p (xs ++ x ∷ [])) ≡ []
last-push_yes p xs x passes = ap last_of (slice_split-push_yes p xs x passes) ∙ last_of-push (all_but_last (slice_split p xs) ++ last_of (slice_split p xs) ∷ []) []

-- any other is added to it
front-push_no : {X : Type 0} (p : X → Bool) (xs : List X) (x : X) → p x ≡ false → all_but_last (slice_split p (xs ++ x ∷ [])) ≡ all_but_last (slice_split p xs)
front-push_no p xs x fails = ap all_but_last (slice_split-push_no p xs x fails) ∙ all_but_last-push (all_but_last (slice_split p xs)) (last_of (slice_split p xs) ++ x ∷ [])

last-push_no : {X : Type 0} (p : X → Bool) (xs : List X) (x : X) → p x ≡ false → last_of (slice_split p (xs ++ x ∷ [])) ≡ last_of (slice_split p xs) ++ x ∷ []
last-push_no p xs x fails = ap last_of (slice_split-push_no p xs x fails) ∙ last_of-push (all_but_last (slice_split p xs)) (last_of (slice_split p xs) ++ x ∷ [])

moved : (b : OpenBlock) (run run' : List (List ℕ)) (line line' : List ℕ) → run' ≡ run → line' ≡ line → IsOpen b run line → IsOpen b run' line'
moved b run run' line line' e f h = subst (λ r. IsOpen b r line') (sym e) (subst (λ l. IsOpen b run l) (sym f) h)

-- what one byte more closes
abbrev closed_by : ℕ → List ℕ → Bool → Bool → List Block
closed_by limit bytes true true = block_of limit (open_run bytes)
closed_by limit bytes true false = []
closed_by limit bytes false blank = []

push_by : (limit : ℕ) (bytes : List ℕ) (b : ℕ) (ends blank : Bool) → is_line_end b ≡ ends → is_blank (open_line bytes) ≡ blank → script_blocks limit (bytes ++ b ∷ []) false ≡ script_blocks limit bytes false ++ closed_by limit bytes ends blank
push_by limit bytes b true true e f =
    let lines = whole_lines bytes in
    let f' = ap (λ ls. all_but_last (runs_of ls)) (front-push_yes is_line_end bytes b e) ∙ front-push_yes is_blank lines (open_line bytes) f in
    ap (flat_map (block_of limit)) f' ∙ flat_map_one (block_of limit) (all_but_last (runs_of lines)) (open_run bytes)
push_by limit bytes b true false e f =
    let f' = ap (λ ls. all_but_last (runs_of ls)) (front-push_yes is_line_end bytes b e) ∙ front-push_no is_blank (whole_lines bytes) (open_line bytes) f in
    ap (flat_map (block_of limit)) f' ∙ sym (append-nil (script_blocks limit bytes false))
push_by limit bytes b false blank e f =
    ap (λ ls. flat_map (block_of limit) (all_but_last (runs_of ls))) (front-push_no is_line_end bytes b e) ∙ sym (append-nil (script_blocks limit bytes false))

no_item : (limit : ℕ) (item : Option Item) → item ≡ None → AreItem limit item []
no_item limit item none = subst (λ i. AreItem limit i []) (sym none) refl

adds_by : (limit : ℕ) (block : OpenBlock) (bytes : List ℕ) (b : ℕ) (item : Option Item) (ends blank : Bool) → is_line_end b ≡ ends → is_blank (open_line bytes) ≡ blank
    → MatchBool ends (MatchBool blank (IsOpen block [] [] × AreItem limit item (block_of limit (open_run bytes))) (IsOpen block (open_run bytes ++ open_line bytes ∷ []) [] × (item ≡ None))) (IsOpen block (open_run bytes) (open_line bytes ++ b ∷ []) × (item ≡ None))
    → IsOpen block (open_run (bytes ++ b ∷ [])) (open_line (bytes ++ b ∷ [])) × AppendsItem limit item (script_blocks limit bytes false) (script_blocks limit (bytes ++ b ∷ []) false)
adds_by limit block bytes b item true true e f h =
    let run = ap (λ ls. last_of (runs_of ls)) (front-push_yes is_line_end bytes b e) ∙ last-push_yes is_blank (whole_lines bytes) (open_line bytes) f in
    (moved block [] (open_run (bytes ++ b ∷ [])) [] (open_line (bytes ++ b ∷ [])) run (last-push_yes is_line_end bytes b e) h.0, (block_of limit (open_run bytes), h.1, push_by limit bytes b true true e f))
adds_by limit block bytes b item true false e f h =
    let run = ap (λ ls. last_of (runs_of ls)) (front-push_yes is_line_end bytes b e) ∙ last-push_no is_blank (whole_lines bytes) (open_line bytes) f in
    (moved block (open_run bytes ++ open_line bytes ∷ []) (open_run (bytes ++ b ∷ [])) [] (open_line (bytes ++ b ∷ [])) run (last-push_yes is_line_end bytes b e) h.0, ([], no_item limit item h.1, push_by limit bytes b true false e f))
adds_by limit block bytes b item false blank e f h =
    let run = ap (λ ls. last_of (runs_of ls)) (front-push_no is_line_end bytes b e) in
    (moved block (open_run bytes) (open_run (bytes ++ b ∷ [])) (open_line bytes ++ b ∷ []) (open_line (bytes ++ b ∷ [])) run (last-push_no is_line_end bytes b e) h.0, ([], no_item limit item h.1, push_by limit bytes b false blank e f))

-- one byte more, from lines and runs to the script
pub adds : (limit : ℕ) (block : OpenBlock) (bytes : List ℕ) (b : ℕ) (item : Option Item) → AddsByte limit block (open_run bytes) (open_line bytes) b item
    → IsOpen block (open_run (bytes ++ b ∷ [])) (open_line (bytes ++ b ∷ [])) × AppendsItem limit item (script_blocks limit bytes false) (script_blocks limit (bytes ++ b ∷ []) false)
adds limit block bytes b item h = adds_by limit block bytes b item (is_line_end b) (is_blank (open_line bytes)) refl refl h

-- the next of some bytes
pub adds_next : (limit : ℕ) (block : OpenBlock) (looked bytes : List ℕ) (i : ℕ) (item : Option Item) → i < length bytes → script_blocks limit (looked ++ take i bytes) false ≡ script_blocks limit looked false
    → AddsByte limit block (open_run (looked ++ take i bytes)) (open_line (looked ++ take i bytes)) (get_or bytes i 0) item
    → IsOpen block (open_run (looked ++ take (i + 1) bytes)) (open_line (looked ++ take (i + 1) bytes)) × AppendsItem limit item (script_blocks limit looked false) (script_blocks limit (looked ++ take (i + 1) bytes) false)
adds_next limit block looked bytes i item lt same h =
    let more : looked ++ take (i + 1) bytes ≡ (looked ++ take i bytes) ++ get_or bytes i 0 ∷ [] = ap (λ t. looked ++ t) (take_more bytes i 0 lt) ∙ sym (append_assoc looked (take i bytes) (get_or bytes i 0 ∷ [])) in
    let Next : List ℕ → Type 0 = λ bs. IsOpen block (open_run bs) (open_line bs) × AppendsItem limit item (script_blocks limit looked false) (script_blocks limit bs false) in
    let h = adds limit block (looked ++ take i bytes) (get_or bytes i 0) item h in
    subst Next (sym more) (h.0, (h.1.0, h.1.1, h.1.2 ∙ ap (λ bs. bs ++ h.1.0) same))

pub none_given : (limit : ℕ) (before after : List Block) → AppendsItem limit None before after → after ≡ before
none_given limit before after h = h.2 ∙ ap (λ bs. before ++ bs) h.1 ∙ append-nil before

ended : (limit : ℕ) (blank : Bool) (lines : List (List ℕ)) (line : List ℕ) → is_blank line ≡ blank
    → flat_map (block_of limit) (runs_of (lines ++ line ∷ [])) ≡ flat_map (block_of limit) (all_but_last (runs_of lines)) ++ block_of limit (if blank then last_of (runs_of lines) else (last_of (runs_of lines) ++ line ∷ []))
ended limit true lines line e =
    let runs = all_but_last (runs_of lines) in
    let f = block_of limit in
    ap (flat_map f) (slice_split-push_yes is_blank lines line e) ∙ flat_map_one f (runs ++ last_of (runs_of lines) ∷ []) [] ∙ append-nil (flat_map f (runs ++ last_of (runs_of lines) ∷ [])) ∙ flat_map_one f runs (last_of (runs_of lines))
ended limit false lines line e =
    ap (flat_map (block_of limit)) (slice_split-push_no is_blank lines line e) ∙ flat_map_one (block_of limit) (all_but_last (runs_of lines)) (last_of (runs_of lines) ++ line ∷ [])

-- the end closes the last line and the last run
pub script_blocks-ended : (limit : ℕ) (bytes : List ℕ) → script_blocks limit bytes true ≡ script_blocks limit bytes false ++ block_of limit (if is_blank (open_line bytes) then open_run bytes else (open_run bytes ++ open_line bytes ∷ []))
script_blocks-ended limit bytes =
    let lines = all_but_last (lines_of bytes) in
    let line = open_line bytes in
    let runs = all_but_last (runs_of lines) in
    ap (λ ls. flat_map (block_of limit) (runs_of ls)) (slice_split-parts is_line_end bytes) ∙ ended limit (is_blank line) lines line refl

-- each piece more adds blocks
pub script_blocks-push : (limit : ℕ) (bytes : List ℕ) (b : ℕ) → IsPrefix (script_blocks limit bytes false) (script_blocks limit (bytes ++ b ∷ []) false)
script_blocks-push limit bytes b = (closed_by limit bytes (is_line_end b) (is_blank (open_line bytes)), push_by limit bytes b (is_line_end b) (is_blank (open_line bytes)) refl refl)

pub script_blocks-append : (limit : ℕ) (bytes more : List ℕ) → IsPrefix (script_blocks limit bytes false) (script_blocks limit (bytes ++ more) false)
script_blocks-append limit bytes [] = ([], ap (λ bs. script_blocks limit bs false) (append-nil bytes) ∙ sym (append-nil (script_blocks limit bytes false)))
script_blocks-append limit bytes (b ∷ more) =
    let one = script_blocks-push limit bytes b in
    let rest = script_blocks-append limit (bytes ++ b ∷ []) more in
    (one.0 ++ rest.0, ap (λ bs. script_blocks limit bs false) (sym (append_assoc bytes (b ∷ []) more)) ∙ rest.1 ∙ ap (λ bs. bs ++ rest.0) one.1 ∙ append_assoc (script_blocks limit bytes false) one.0 rest.0)

pub script_blocks-prefix : (limit : ℕ) (bytes more : List ℕ) → IsPrefix (script_blocks limit bytes false) (script_blocks limit (bytes ++ more) true)
script_blocks-prefix limit bytes more =
    let part = script_blocks-append limit bytes more in
    let last = block_of limit (if is_blank (open_line (bytes ++ more)) then open_run (bytes ++ more) else (open_run (bytes ++ more) ++ open_line (bytes ++ more) ∷ [])) in
    (part.0 ++ last, script_blocks-ended limit (bytes ++ more) ∙ ap (λ bs. bs ++ last) part.1 ∙ append_assoc (script_blocks limit bytes false) part.0 last)
