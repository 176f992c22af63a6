-- Names as contracts see them.
use Rattle.std.specs.Prelude.{ℕ, List}
use Rattle.sz_types.specs.declared.place.Place.{Place}

-- a name where it stands: the place of its first byte, and its bytes
pub record Ident : Type 0 where
  pub place : Place
  pub text : List ℕ
