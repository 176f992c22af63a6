-- What contracts see of what is known in front of a statement.
use Rattle.std.specs.Prelude.{◌≡◌, ◌<◌, ℕ, suc, List, [], ◌∷◌, length, Option}
use Rattle.std.specs.Option.{option_map}
use Rattle.sz_types.specs.Data.{Shape}
use Rattle.sz_types.specs.Seen.{seen}
use Rattle.sz_types.specs.SeenTables.{seen_table}
use Rattle.sz_scope.specs.declared.sight.Sight.{Sight}
use Rattle.sz_scope.specs.declared.sight.Sight.TheVariants.{Function}
use Rattle.sz_core.specs.View.{signature_of}
use Rattle.sz_check_names.specs.declared.site.Site.{Site}
use Rattle.sz_check_names.specs.declared.site.Site.TheVariants as sites
use Rattle.sz_check_names.specs.declared.meaning.Meaning.{Meaning as Kept}
use Rattle.sz_check_names.specs.declared.meaning.Meaning.TheVariants as stored
use Rattle.sz_check_names.specs.declared.meaning.Means.{Means}
use Rattle.sz_check_names.specs.declared.meaning.Means.TheVariants as lent
use Rattle.sz_check_rules.specs.Names.{Meaning, Block, only, predeclared_names, is_seen_by_functions, is_seen_by_statics}
use Rattle.sz_check_rules.specs.Names as names
use Rattle.sz_check_rules.specs.Scene.{Scene}
use Rattle.sz_check_names.specs.Written.{type_at}

-- what a name stands for, where types have these numbers
abbrev pub meaning_of : List Shape → Kept → Meaning
meaning_of types (stored.Variable n t) = names.variable n (seen t)
meaning_of types (stored.Quantified n t) = names.quantified n (seen t)
meaning_of types (stored.Static n t) = names.static n (seen t)
meaning_of types (stored.«Type» n) = names.type_name (type_at types n)
meaning_of types (stored.Table n d) = names.table n (seen_table d)
meaning_of types (stored.Function n s) = names.function n (signature_of s)
meaning_of types (stored.Predeclared b) = names.predeclared b
meaning_of types stored.Input = names.input

-- the same, lent
abbrev pub means_of : Means → Meaning
means_of (lent.Variable n t) = names.variable n (seen t.now)
means_of (lent.Quantified n t) = names.quantified n (seen t.now)
means_of (lent.Static n t) = names.static n (seen t.now)
means_of (lent.«Type» t) = names.type_name (type_at t.types.now t.number)
means_of (lent.Table n d) = names.table n (seen_table d.now)
means_of (lent.Function n s) = names.function n (signature_of s.now)
means_of (lent.Predeclared b) = names.predeclared b
means_of lent.Input = names.input

-- a type that is lent is one of these types, and lent with them
abbrev pub IsOfTypes : List Shape → Means → Type 0
IsOfTypes types (lent.«Type» t) = (t.types.now ≡ types) × (t.number < length types)
IsOfTypes types _ = Unit {0}

abbrev pub maybe_means_of : Option Means → Option Meaning
maybe_means_of = option_map means_of

-- what no statement changes: what is round the innermost block, and the named types
pub record Outside : Type 0 where
  -- what is seen of the blocks round the innermost one, the innermost of them first; and all that they declare
  pub seen : List Block
  pub all : List Block
  -- how many of these blocks the routine has opened
  pub own : ℕ
  -- the record or the function that looks
  pub sight : Sight
  pub types : List Shape

-- what is known in front of a statement: what the innermost block declares, what is outside it, and the types of the
-- routine's variables by number
pub record Knowledge : Type 0 where
  pub innermost : Block
  pub outside : Outside
  pub locals : List Shape

-- all blocks as far as they are seen
abbrev pub blocks_of : Knowledge → List Block
blocks_of k = k.innermost ∷ k.outside.seen

-- the same where an expression stands: the value of a static sees less
abbrev pub blocks_for : Knowledge → Site → List Block
blocks_for k sites.Statement = blocks_of k
blocks_for k sites.Condition = blocks_of k
blocks_for k sites.Static = only is_seen_by_statics (blocks_of k)

-- the scene that is known
abbrev pub scene_of : Knowledge → Scene
scene_of k = record { blocks = blocks_of k; locals = k.locals }

-- what is outside a block that is opened inside the innermost one
abbrev pub outside_of : Knowledge → Outside
outside_of k = record k.outside {
  seen = k.innermost ∷ k.outside.seen;
  all = k.innermost ∷ k.outside.all;
  own = suc k.outside.own;
}

-- what is known where a function's block is opened inside the innermost one
abbrev pub in_function : Knowledge → Knowledge
in_function k = record {
  innermost = [];
  outside = record {
    seen = only is_seen_by_functions (blocks_of k);
    all = k.innermost ∷ k.outside.all;
    own = 0;
    sight = Function (suc (length k.outside.all));
    types = k.outside.types;
  };
  locals = [];
}

-- what is after a function as it was in front of it: the two know of the same blocks and types
pub record IsRoundFunction (outside : Knowledge) (inside : Knowledge) : Type 0 where
  pub blocks : inside.outside.all ≡ outside.innermost ∷ outside.outside.all
  pub types : inside.outside.types ≡ outside.outside.types

-- the scene of the predeclared names, in a block round the program's own
abbrev pub at_first : Scene
at_first = record { blocks = [] ∷ predeclared_names ∷ []; locals = [] }
