-- The tags that a text gives.
use Rattle.std.specs.Prelude.{ℕ, List, [], ◌∷◌, Option, Some, option_map, option_and_then}
use Rattle.serde_json.specs.Data.{Items, no_items, item}
use Rattle.serde_json.specs.Find.{as_array, as_str}
use Rattle.serde_json.specs.Read.{read}
use Rattle.kq_value_text_sets.specs.EachOnce.{each_once}

-- the items of an array, where each is a string
abbrev pub strings_of : Items → Option (List (List ℕ))
strings_of no_items = Some []
strings_of (item first rest) = option_and_then (λ text. option_map (λ texts. text ∷ texts) (strings_of rest)) (as_str first)

-- the strings of a text that is a JSON array of strings, each once
abbrev pub tags_of : List ℕ → Option (List (List ℕ))
tags_of text = option_map each_once (option_and_then strings_of (option_and_then as_array (read text)))
