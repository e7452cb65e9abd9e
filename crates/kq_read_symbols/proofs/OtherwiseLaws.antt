-- A choice whose second form may have texts that begin as the first one's do: those are read as the first.
use Rattle.std.proofs.Common.{◌≡◌, ℕ, Bool, true, false, if◌then◌else◌, List, [], ◌∷◌, ◌++◌, ◌⊎◌, Ok, Err, refl, sym, ◌∙◌, ap}
use Rattle.kq_read_symbols.specs.Forms.{Outcome, Parser, starts, choose}
use Rattle.kq_read_symbols.proofs.Forms.{Stops, Alike, Stuck, Meets}
use Rattle.kq_read_symbols.proofs.Laws.{Exact, Example, Leads, apart_cases, choose_left, choose_right, starts_stops}

module _ {T A : Type 0} (is : T → Bool) (form : A → List T → Type 0) (more : T → Bool) where
  -- the texts of the form that begin with no token of the class
  abbrev pub otherwise : A → List T → Type 0
  otherwise y u = form y u × (starts is u ≡ false)

  front_starts : (ts front rest : List T) → ts ≡ front ++ rest → starts is ts ≡ false → starts is front ≡ false
  front_starts ts [] rest e h = refl
  front_starts ts (t ∷ front) rest e h = sym (ap (starts is) e) ∙ h

  stuck_at : (ts rest front : List T) (value : A) (missing : List T) → ts ≡ front ++ rest → form value (front ++ missing) → ((y : A) (u z ahead : List T) → form y u → Stops more z → Alike rest ahead → u ++ z ≡ front ++ ahead → ⊥) → Example otherwise → starts is ts ≡ false → Stuck otherwise more ts rest
  stuck_at ts rest [] value missing e completed never x h = record {
    front = [];
    split = e;
    value = x.value;
    missing = x.text;
    completed = x.spelled;
    never = λ y u z ahead s stops alike eq. never y u z ahead s.0 stops alike eq;
  }
  stuck_at ts rest (t ∷ front) value missing e completed never x h = record {
    front = t ∷ front;
    split = e;
    value = value;
    missing = missing;
    completed = (completed, sym (ap (starts is) e) ∙ h);
    never = λ y u z ahead s stops alike eq. never y u z ahead s.0 stops alike eq;
  }

  pub otherwise_meets : Example otherwise → (ts : List T) (out : Outcome T A) → starts is ts ≡ false → Meets form more ts out → Meets otherwise more ts out
  otherwise_meets x ts (Ok p) h a = record {
    front = a.front;
    split = a.split;
    spelled = (a.spelled, front_starts ts a.front p.1 a.split h);
    only = λ y u z ahead s stops alike eq. a.only y u z ahead s.0 stops alike eq;
  }
  otherwise_meets x ts (Err rest) h a = stuck_at ts rest a.front a.value a.missing a.split a.completed a.never x h

module _ {T A : Type 0} (is : T → Bool) (left second form : A → List T → Type 0) (more : T → Bool) (from_left : (y : A) (u : List T) → left y u → form y u) (from_right : (y : A) (u : List T) → otherwise is second more y u → form y u) (cases : (y : A) (u : List T) → form y u → left y u ⊎ otherwise is second more y u) (leads : Leads is true left more) (stops_at : (t : T) → more t ≡ false → is t ≡ false) where
  others_lead : Leads is false (otherwise is second more) more
  others_lead y [] z s stops = starts_stops is more stops_at z stops
  others_lead y (t ∷ u) z s stops = s.1

  parted : (y : A) (u : List T) → form y u → left y u ⊎ (otherwise is second more y u × ((z : List T) → Stops more z → starts is (u ++ z) ≡ false))
  parted = apart_cases is left (otherwise is second more) form more from_left from_right cases leads others_lead

  meets_at : (p q : Parser T A) (ts : List T) (b : Bool) → starts is ts ≡ b → Meets left more ts (p ts) → Meets second more ts (q ts) → Example (otherwise is second more) → Meets form more ts (if b then p ts else q ts)
  meets_at p q ts true h a b x = choose_left is left (otherwise is second more) form more from_left from_right parted leads ts h (p ts) a
  meets_at p q ts false h a b x = choose_right is left (otherwise is second more) form more from_left from_right parted leads ts h (q ts) (otherwise_meets is second more x ts (q ts) h b)

  pub choose_otherwise : (n : ℕ) (p q : Parser T A) → Exact left more p n → Exact second more q n → Example (otherwise is second more) → Exact form more (choose is p q) n
  choose_otherwise n p q a b x = record { meets = λ ts l. meets_at p q ts (starts is ts) refl (a.meets ts l) (b.meets ts l) x }
