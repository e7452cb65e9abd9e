-- What the words of a run ask for, and what its status says of them.
use Rattle.std.specs.Prelude.{◌≡◌, ◌⊎◌, ℕ, List, [], Option, Some, None, String, map, string_bytes}
use Rattle.kq_program_options.specs.Words.{Asked, asked}

-- what the words ask for, where they have the form
abbrev pub asked_in : {A : Type 0} → List (String A) → Option Asked
asked_in words = asked (map string_bytes words)

-- the feeds of the words
abbrev pub feeds_of : Option Asked → List (List ℕ)
feeds_of None = []
feeds_of (Some asked) = asked.feeds

-- of how many rows the words have the script of session 0 generated
abbrev pub generate_of : Option Asked → Option ℕ
generate_of None = None
generate_of (Some asked) = asked.generate

-- how many workers the words ask for
abbrev pub workers_of : Option Asked → ℕ
workers_of None = 0
workers_of (Some asked) = asked.workers

-- the status is the code just where P holds, but that it may be 1 there, for want of memory
abbrev pub IsJustWhere : ℕ → ℕ → Type 0 → Type 0
IsJustWhere status code P = (status ≡ code → P) × (P → (status ≡ code) ⊎ (status ≡ 1))
