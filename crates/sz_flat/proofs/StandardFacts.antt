-- A worked example, checked by computing both sides.
use Rattle.std.proofs.Common.{◌≡◌, [], ◌∷◌, pos, refl}
use Rattle.sz_value.specs.Data.{int, str, tuple, no_data, datum}
use Rattle.sz_flat.specs.Spelling.{spelling}

-- the tuple of the number 1 and the text a
a_tuple_spelled : spelling (tuple (datum (int (pos 1)) (datum (str (97 ∷ [])) no_data)))
    ≡ 7 ∷ 0 ∷ 0 ∷ 0 ∷ 2 ∷ 2 ∷ 0 ∷ 0 ∷ 0 ∷ 0 ∷ 0 ∷ 0 ∷ 0 ∷ 1 ∷ 4 ∷ 0 ∷ 0 ∷ 0 ∷ 1 ∷ 97 ∷ []
a_tuple_spelled = refl
