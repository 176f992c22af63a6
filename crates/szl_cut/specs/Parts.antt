-- The parts of a file that is cut at places.
use Rattle.std.specs.Prelude.{◌≡◌, ℕ, ◌-◌, List, [], ◌∷◌, take, drop}
use Rattle.sz_types.specs.declared.frame.Frame.TheVariants.{Delimited}
use Rattle.sz_records.specs.declared.ending.Ending.TheVariants.{Whole}
use Rattle.sz_records.specs.Cutting.{full, IsCut}

-- the bytes from a place of a file on, cut at the places behind it
abbrev pub parts : ℕ → List ℕ → List ℕ → List (List ℕ)
parts from [] bytes = bytes ∷ []
parts from (place ∷ places) bytes = take (place - from) bytes ∷ parts place places (drop (place - from) bytes)

-- the part is a whole file by itself, of so many messages
abbrev pub IsPart : List ℕ → List (List ℕ) → Type 0
IsPart part messages = IsCut Delimited full 0 0 part messages Whole

-- each part is a whole file by itself, and the messages of all, one part after the other, are these
abbrev pub HoldTogether : List (List ℕ) → List (List ℕ) → Type 0
HoldTogether [] messages = messages ≡ []
HoldTogether (part ∷ others) messages =
    (count : ℕ) × (IsPart part (take count messages) × HoldTogether others (drop count messages))
