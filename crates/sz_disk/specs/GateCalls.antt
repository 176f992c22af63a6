-- What the calls promise.
use Rattle.std.specs.Prelude.{◌≡◌, ◌≢◌, ◌+◌, ◌<◌, ℕ, ⊤, List, [], ◌∷◌, ◌++◌, length, Option}
use Rattle.sz_disk.specs.Crashes.{Images}
use Rattle.sz_disk.specs.Crashing.{Rests}
use Rattle.sz_disk.specs.Entries.{with_length, opened, IsCounted, Holds}
use Rattle.sz_disk.specs.declared.reading.AtGate.{AtGate}
use Rattle.sz_disk.specs.declared.reading.AtGate.TheVariants.{Closed, Entry, Ending, Cut}

-- a crash leaves what a read gives, and that holds these entries
pub record Keeps (bytes : Option (List ℕ)) (may_leave : Images) (entries : List (List ℕ)) : Type 0 where
  pub held : List ℕ
  pub rests : Rests bytes may_leave held
  pub holds : Holds entries held

-- a gate stands in front, and it isn't open
pub record IsClosed (bytes : List ℕ) : Type 0 where
  pub gate : ℕ
  pub behind : List ℕ
  pub is : bytes ≡ gate ∷ behind
  pub closed : gate ≢ 1

-- an entry stands in front, behind an open gate
pub record Begins (entry behind bytes : List ℕ) : Type 0 where
  pub is : bytes ≡ opened entry ++ behind
  pub counted : IsCounted entry

-- an entry stands in front, behind an open gate, and the next gate behind it
pub record HasEntry (entry bytes : List ℕ) : Type 0 where
  pub gate : ℕ
  pub behind : List ℕ
  pub begins : Begins entry (gate ∷ behind) bytes

-- an open gate stands in front, and behind it no entry is whole
pub record IsCut (bytes : List ℕ) : Type 0 where
  pub behind : List ℕ
  pub is : bytes ≡ 1 ∷ behind
  pub none : (entry more : List ℕ) → IsCounted entry → behind ≢ with_length entry ++ more

-- what stands at the front of the bytes
abbrev pub StandsAt : List ℕ → AtGate → Type 0
StandsAt bytes Closed = IsClosed bytes
StandsAt bytes (Entry entry) = HasEntry entry.items bytes
StandsAt bytes (Ending entry) = Begins entry.items [] bytes
StandsAt bytes Cut = IsCut bytes

-- the gate behind an entry at this gate stands within so many bytes
abbrev pub IsWithin : ℕ → ℕ → AtGate → Type 0
IsWithin count gate (Entry entry) = gate + length (opened entry.items) < count
IsWithin count gate _ = ⊤
