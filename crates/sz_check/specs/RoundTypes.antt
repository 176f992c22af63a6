-- Types that are known round a program, by their names.
use Rattle.std.specs.Prelude.{List, ◌∷◌, map}
use Rattle.sz_protofile.specs.Types.{TypeShape}
use Rattle.sz_check_rules.specs.Scene.{Scene}
use Rattle.sz_check_names.specs.Knowledge.{Knowledge}
use Rattle.sz_check_rules.specs.JudgingWithTypes.{NamedShape, named_type}

-- a type as the judgement knows it, and types
abbrev pub named_shape : TypeShape → NamedShape
named_shape t = (t.name, t.shape)

abbrev pub named_shapes : List TypeShape → List NamedShape
named_shapes = map named_shape

-- the scene that is known, with the name of a type more in the innermost block
abbrev pub with_named_type : TypeShape → Knowledge → Scene
with_named_type t k = record { blocks = (named_type (named_shape t) ∷ k.innermost) ∷ k.outside.seen; locals = k.locals }
