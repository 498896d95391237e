-- What a reader has read and written, by the definition's readers.
use Rattle.std.specs.Prelude.{◌≡◌, List, ◌∷◌, ◌++◌, ℕ, ◌+◌, ◌≤◌, ◌<◌, length, take, set, Result, Ok, Err}
use Rattle.grammar.specs.Reader as G
use Rattle.grammar.specs.Reader.{ok, bad}
use Rattle.grammar.specs.Grammar.{designator_of, type_of}
use Rattle.tape.specs.Tape.{shape, width_of}
use Rattle.readers.specs.declared.tokens.Refused.{Refused}
use Rattle.readers.specs.declared.tokens.Why.{Why}
use Rattle.readers.specs.declared.reader.Reader.{Reader}
use Rattle.readers.specs.Refusals.{number_of}

abbrev pub Answer : Type 0 → Type 0
Answer T = Result T Why

-- the definition's reader refuses, by the same number at the same token
pub record Stopped {A : Type 0} (ks : List ℕ) (i : ℕ) (e : Refused) (m : G.Result A) : Type 0 where
  pub is : m ≡ bad (number_of e.why) e.at
  pub onward : i ≤ e.at
  pub inside : e.at ≤ length ks

-- the tape is the same, whatever was written on it
abbrev pub SameTape : (old new : Reader) → Type 0
SameTape old new = new.tape.ghost_name ≡ old.tape.ghost_name

-- from token i on the definition's reader refuses, by the same number at the token at which the reader stands
pub record Refuses {A : Type 0} (ks : List ℕ) (i : ℕ) (new : Reader) (e : Why) (m : G.Result A) : Type 0 where
  pub is : m ≡ bad (number_of e) new.at
  pub same : new.kinds.now ≡ ks
  pub onward : i ≤ new.at

-- ── tokens alone, which leave the tape as it was ──

-- the reader stands at the token i
pub record Moved (old : Reader) (i : ℕ) (new : Reader) : Type 0 where
  pub same : new.kinds.now ≡ old.kinds.now
  pub tape : new.tape.now ≡ old.tape.now
  pub events : new.events ≡ old.events
  pub there : new.at ≡ i
  pub name : SameTape old new

-- the reader has gone on, read or refused, and its tape is as it was
pub record Still (old new : Reader) : Type 0 where
  pub same : new.kinds.now ≡ old.kinds.now
  pub onward : old.at ≤ new.at
  pub tape : new.tape.now ≡ old.tape.now
  pub events : new.events ≡ old.events
  pub name : SameTape old new

-- the definition's reader has read the token n
pub record Token (old new : Reader) (n : ℕ) (m : G.Result ℕ) : Type 0 where
  pub is : m ≡ ok n new.at
  pub same : new.kinds.now ≡ old.kinds.now
  pub from : old.at ≤ n
  pub onward : n < new.at

abbrev pub Took : G.Reader ℕ → (old new : Reader) → Answer ℕ → Type 0
Took m old new (Ok n) = Token old new n (m old.kinds.now old.at)
Took m old new (Err e) = Refuses old.kinds.now old.at new e (m old.kinds.now old.at)

-- it has read something of which P holds
pub record Seen {A : Type 0} (P : A → Type 0) (ks : List ℕ) (i : ℕ) (new : Reader) (m : G.Result A) : Type 0 where
  pub what : A
  pub is : m ≡ ok what new.at
  pub fits : P what
  pub same : new.kinds.now ≡ ks
  pub onward : i ≤ new.at

-- what follows the name n of a designator, as its shape
abbrev pub Designated : ℕ → (old new : Reader) → Answer ℕ → Type 0
Designated n old new (Ok v) = Seen (λ d. (d.name ≡ n) × (v ≡ shape d) × (v ≤ 3)) old.kinds.now old.at new (designator_of n old.kinds.now old.at)
Designated n old new (Err e) = Refuses old.kinds.now old.at new e (designator_of n old.kinds.now old.at)

-- a type, as its width
abbrev pub Typed : (old new : Reader) → Answer ℕ → Type 0
Typed old new (Ok v) = Seen (λ w. (v ≡ width_of w) × (v ≤ 3)) old.kinds.now old.at new (type_of old.kinds.now old.at) × (old.at < new.at)
Typed old new (Err e) = Refuses old.kinds.now old.at new e (type_of old.kinds.now old.at)

-- ── tokens and events ──

-- the tape up to q is that up to p with what was read written out behind it
abbrev pub Laid : {A : Type 0} → (A → List ℕ → List ℕ) → ℕ → List ℕ → ℕ → List ℕ → A → Type 0
Laid out p before q after a = (k : List ℕ) → take q after ++ k ≡ take p before ++ out a k

-- from token i on the definition's reader has read something, which is written on the tape from p on, never more events than tokens
pub record Written {A : Type 0} (out : A → List ℕ → List ℕ) (ks : List ℕ) (i p : ℕ) (before : List ℕ) (new : Reader) (m : G.Result A) : Type 0 where
  pub what : A
  pub is : m ≡ ok what new.at
  pub laid : Laid out p before new.events new.tape.now what
  pub same : new.kinds.now ≡ ks
  pub onward : i ≤ new.at
  pub low : new.events + i ≤ new.at + p

abbrev pub WroteFrom : {A : Type 0} → (A → List ℕ → List ℕ) → List ℕ → (i p : ℕ) → List ℕ → Reader → Answer Unit → G.Result A → Type 0
WroteFrom out ks i p before new (Ok u) m = Written out ks i p before new m
WroteFrom out ks i p before new (Err e) m = Refuses ks i new e m

abbrev pub Wrote : {A : Type 0} → (A → List ℕ → List ℕ) → G.Reader A → (old new : Reader) → Answer Unit → Type 0
Wrote out m old new r = WroteFrom out old.kinds.now old.at old.events old.tape.now new r (m old.kinds.now old.at)

-- the same of a reader that stands behind the name n, where the tokens count from the name on
abbrev pub WroteNamed : {A : Type 0} → (A → List ℕ → List ℕ) → (ℕ → G.Reader A) → (n : ℕ) (old new : Reader) → Answer Unit → Type 0
WroteNamed out m n old new r = WroteFrom out old.kinds.now n old.events old.tape.now new r (m n old.kinds.now old.at)

-- fewer events than tokens
abbrev pub WroteFewer : {A : Type 0} → (A → List ℕ → List ℕ) → G.Reader A → (old new : Reader) → Answer Unit → Type 0
WroteFewer out m old new (Ok u) = Written out old.kinds.now old.at old.events old.tape.now new (m old.kinds.now old.at) × (new.events + old.at < new.at + old.events)
WroteFewer out m old new (Err e) = Refuses old.kinds.now old.at new e (m old.kinds.now old.at)

-- an event written on a tape behind what stands before p
abbrev pub Behind : ℕ → ℕ → List ℕ → List ℕ → Type 0
Behind e p before after = (k : List ℕ) → take (p + 1) after ++ k ≡ take p before ++ (e ∷ k)

-- an event written
pub record Pushed (e : ℕ) (old new : Reader) : Type 0 where
  pub laid : (k : List ℕ) → take new.events new.tape.now ++ k ≡ take old.events old.tape.now ++ (e ∷ k)
  pub same : new.kinds.now ≡ old.kinds.now
  pub here : new.at ≡ old.at
  pub events : new.events ≡ old.events + 1
  pub name : SameTape old new

-- a place left for an event
pub record Skipped (old new : Reader) : Type 0 where
  pub same : new.kinds.now ≡ old.kinds.now
  pub tape : new.tape.now ≡ old.tape.now
  pub here : new.at ≡ old.at
  pub events : new.events ≡ old.events + 1
  pub name : SameTape old new

-- the event put at a place
pub record Put (p e : ℕ) (old new : Reader) : Type 0 where
  pub tape : new.tape.now ≡ set old.tape.now p e
  pub same : new.kinds.now ≡ old.kinds.now
  pub here : new.at ≡ old.at
  pub events : new.events ≡ old.events
  pub name : SameTape old new
