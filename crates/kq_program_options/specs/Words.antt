-- The form of the words after the program's name, and what they ask for: `[--workers N] [--generate N] [FEED ..]`.
use Rattle.std.specs.Prelude.{◌==◌, ◌&&◌, ℕ, Bool, true, false, not, List, [], ◌∷◌, map, filter, length, Option, Some, None, option_map, option_and_then, unwrap_or, if◌then◌else◌, nat_le, codes}
use Rattle.std.specs.List.{list_all, list_any, before_first, after_first}
use Rattle.std.specs.Option.{option_map_or}
use Rattle.std.specs.Char.{is_ascii_digit}
use Rattle.std.specs.Str.{bytes_eq}
use Rattle.std.specs.Str.Parse.{digits_value}
use Rattle.kq_program_options.specs.declared.options.Options.{Options}

abbrev pub WordText : Type 0
WordText = List ℕ

-- ---- what single words are

-- a word that begins with `-` (45) and is longer than `-`
abbrev pub is_dashed : WordText → Bool
is_dashed (x ∷ y ∷ more) = x == 45
is_dashed _ = false

abbrev pub is_equals : ℕ → Bool
is_equals byte = byte == 61

-- what stands before the first `=` (61), or the whole word where it has none
abbrev pub name_of : WordText → WordText
name_of word = before_first is_equals word

-- what stands after the first `=`
abbrev pub attached_to : WordText → Option WordText
attached_to word = if list_any is_equals word then Some (after_first is_equals word) else None

-- ---- what the words say

pub data Kind : Type 0 where
  workers : Kind
  generate : Kind
  feed : Kind

abbrev pub is_same : Kind → Kind → Bool
is_same workers workers = true
is_same generate generate = true
is_same feed feed = true
is_same _ _ = false

-- the number that follows an option, or a feed
pub record Said : Type 0 where
  pub kind : Kind
  pub text : WordText

abbrev pub as_feed : WordText → Said
as_feed text = record { kind = feed; text = text }

-- the option that the word names
abbrev pub option_of : WordText → Option Kind
option_of word = if bytes_eq (codes "--workers") (name_of word) then Some workers
    else (if bytes_eq (codes "--generate") (name_of word) then Some generate else None)

-- what is said, and then what the words after it say
abbrev pub then_says : Kind → WordText → Option (List Said) → Option (List Said)
then_says kind text = option_map (λ more. record { kind = kind; text = text } ∷ more)

-- an option has its number after `=`, or as the next word
abbrev pub with_number : Kind → Option WordText → Option (List Said) → Option (List Said) → Option (List Said)
with_number kind (Some number) rest next = then_says kind number rest
with_number kind None rest next = next

-- what the words say, in order, read from left to right; None where a word is refused.
-- The first argument is the option whose number is awaited. `--` makes all later words feeds; any other word that begins
-- with `-` and is longer is an option or refused; the rest are feeds
abbrev pub read : Option Kind → List WordText → Option (List Said)
read (Some option) [] = None
read (Some option) (word ∷ rest) = if is_dashed word then None else then_says option word (read None rest)
read None [] = Some []
read None (word ∷ rest) =
    if not (is_dashed word) then then_says feed word (read None rest)
    else (if bytes_eq word (codes "--") then Some (map as_feed rest)
    else option_map_or (λ option. with_number option (attached_to word) (read None rest) (read (Some option) rest)) (option_of word) None)

-- ---- what they ask for

abbrev pub texts_of : Kind → List Said → List WordText
texts_of kind said = map (λ s. s.text) (filter (λ s. is_same s.kind kind) said)

-- one to seven ASCII digits
abbrev pub is_number : WordText → Bool
is_number text = nat_le 1 (length text) && nat_le (length text) 7 && list_all is_ascii_digit text

-- the number that they spell, where it is one from `least` to `most`
abbrev pub number_in : ℕ → ℕ → WordText → Option ℕ
number_in least most text =
    if is_number text && (nat_le least (digits_value 10 text) && nat_le (digits_value 10 text) most)
    then Some (digits_value 10 text) else None

-- the number of an option that stands at most once
abbrev pub number_given : ℕ → ℕ → List WordText → Option (Option ℕ)
number_given least most [] = Some None
number_given least most (text ∷ []) = option_map (λ n. Some n) (number_in least most text)
number_given least most (text ∷ second ∷ more) = None

abbrev pub are_distinct : List WordText → Bool
are_distinct [] = true
are_distinct (t ∷ ts) = not (list_any (λ u. bytes_eq u t) ts) && are_distinct ts

-- at most seven feeds, no two equal
abbrev pub feeds_given : List WordText → Option (List WordText)
feeds_given feeds = if nat_le (length feeds) 7 && are_distinct feeds then Some feeds else None

pub record Asked : Type 0 where
  pub workers : ℕ
  pub generate : Option ℕ
  pub feeds : List WordText

-- all of it, where each part has its form
abbrev pub all_asked : Option (Option ℕ) → Option (Option ℕ) → Option (List WordText) → Option Asked
all_asked (Some w) (Some g) (Some fs) = Some (record { workers = unwrap_or w 0; generate = g; feeds = fs })
all_asked _ _ _ = None

abbrev pub asked_by : List Said → Option Asked
asked_by said = all_asked (number_given 0 8 (texts_of workers said)) (number_given 1 1000000 (texts_of generate said)) (feeds_given (texts_of feed said))

-- what the words ask for, where they have the form
abbrev pub asked : List WordText → Option Asked
asked words = option_and_then asked_by (read None words)

-- the same, as the program holds it
abbrev pub as_asked : Options → Asked
as_asked o = record { workers = o.workers; generate = o.generate; feeds = o.feeds.items }
