-- Judgements of lists, turn by turn.
use Rattle.std.specs.Prelude.{List, [], ◌∷◌, Ok}
use Rattle.sz_check_rules.specs.Refusals.{Judged, ◌>>=◌}

-- the judgement of a whole list, by its front, which is judged, and the judgement of what is after it
abbrev pub following : {A B : Type 0} → (A → B → B) → List A → Judged B → Judged B
following put [] rest = rest
following put (x ∷ front) rest = following put front rest >>= λ y. Ok (put x y)

-- elements put in front of what is after them
abbrev pub put_all : {A B : Type 0} → (A → B → B) → List A → B → B
put_all put [] y = y
put_all put (x ∷ front) y = put x (put_all put front y)
