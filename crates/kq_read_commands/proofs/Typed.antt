-- Where no column has a fault, the word of each is a type's.
use Rattle.std.proofs.Common.{◌≡◌, ◌∷◌, [], ℕ, List, Option, Some, None, All, refl}
use Rattle.std.proofs.lemmas.List.Elements.{All-cons, All-nil}
use Rattle.kq_read_grammar.specs.declared.clause.Column.{Column}
use Rattle.kq_read_commands.specs.Unsupported.{IsTyped, column_fault, first_of, or_later}

neither : (o p : Option ℕ) → or_later o p ≡ None → (o ≡ None) × (p ≡ None)
neither None p e = (refl, e)
neither (Some place) p e = absurd (cc)

pub first_typed : (text : List ℕ) (c : Column) (cs : List Column) → first_of (column_fault text) (c ∷ cs) ≡ None → IsTyped text c
first_typed text c cs e = (neither (column_fault text c) (first_of (column_fault text) cs) e).0

all_typed : (text : List ℕ) (cs : List Column) → first_of (column_fault text) cs ≡ None → All (IsTyped text) cs
all_typed text [] e = All-nil (IsTyped text)
all_typed text (c ∷ cs) e =
    let parts = neither (column_fault text c) (first_of (column_fault text) cs) e in
    All-cons (IsTyped text) c cs parts.0 (all_typed text cs parts.1)

pub others_typed : (text : List ℕ) (c : Column) (cs : List Column) → first_of (column_fault text) (c ∷ cs) ≡ None → All (IsTyped text) cs
others_typed text c cs e = all_typed text cs (neither (column_fault text c) (first_of (column_fault text) cs) e).1
