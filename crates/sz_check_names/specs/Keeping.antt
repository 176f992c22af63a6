-- How what is known is kept: blocks whose names stand for places in a list of meanings.
use Rattle.std.specs.Prelude.{◌≡◌, ℕ, ◌-◌, ◌<◌, List, [], ◌∷◌, ◌++◌, length, map, filter, Bool, true, false, nat_le, nat_lt, if◌then◌else◌, Option, Some}
use Rattle.std.specs.Prelude.{None, slice_get, unwrap_or, Result, Ok, Err, alloc_error}
use Rattle.std.specs.Option.{option_map, option_map_or}
use Rattle.std.specs.declared.alloc.AllocError.{AllocError}
use Rattle.sz_types.specs.Data.{Shape}
use Rattle.sz_scope.specs.Blocks as scopes
use Rattle.sz_scope.specs.declared.meaning.Meaning.{Meaning as Place}
use Rattle.sz_scope.specs.declared.meaning.Meaning.TheVariants.{Var, Static, Quantified, TypeName, Table, Function, Builtin, Input}
use Rattle.sz_scope.specs.declared.error.ScopeError.{ScopeError}
use Rattle.sz_scope.specs.declared.error.ScopeError.TheVariants.{Twice, NoMemory}
use Rattle.sz_scope.specs.declared.sight.Sight.{Sight}
use Rattle.sz_scope.specs.declared.sight.Sight.TheVariants as sights
use Rattle.sz_check_names.specs.declared.site.Site.{Site}
use Rattle.sz_check_names.specs.declared.site.Site.TheVariants as sites
use Rattle.sz_check_names.specs.declared.meaning.Meaning.{Meaning as Kept}
use Rattle.sz_check_names.specs.declared.meaning.Meaning.TheVariants as stored
use Rattle.sz_check_rules.specs.Names.{Meaning, Named, Block, input, is_seen_by_functions}
use Rattle.sz_check_names.specs.Knowledge.{meaning_of, Knowledge}

-- round how many blocks the routine stands
abbrev pub floor_of : Sight → ℕ
floor_of (sights.Function outside) = outside
floor_of _ = 0

-- what is seen of blocks: the routine's own are seen whole, and of others what functions see
abbrev pub seen_from : Sight → List Block → List Block
seen_from sight [] = []
seen_from sight (block ∷ blocks) =
    (if nat_le (floor_of sight) (length blocks) then block
    else filter (λ (n : Named). is_seen_by_functions n.meaning) block) ∷ seen_from sight blocks

-- whether a routine that looks so may stand inside this many blocks; the value of a static is no routine
abbrev pub sits_in : Sight → ℕ → Bool
sits_in sights.Record count = true
sits_in (sights.Function outside) count = nat_le outside count
sits_in sights.Static count = false

-- the sight of a routine inside this many blocks, where it is one
abbrev pub fitting : Sight → ℕ → Sight
fitting (sights.Function outside) count = if nat_le outside count then sights.Function outside else sights.Record
fitting _ count = sights.Record

-- the sight of a routine's expressions, or of the value of a static
abbrev pub sight_for : Sight → Site → Sight
sight_for sight sites.Statement = sight
sight_for sight sites.Condition = sight
sight_for sight sites.Static = sights.Static

-- the place in the list of meanings by which a name's meaning goes; the record has none
abbrev pub place_of : Place → Option ℕ
place_of (Var n) = Some n
place_of (Static n) = Some n
place_of (Quantified n) = Some n
place_of (TypeName n) = Some n
place_of (Table n) = Some n
place_of (Function n) = Some n
place_of (Builtin n) = Some n
place_of Input = None

-- a meaning at a place, as the blocks keep it
abbrev pub placed : ℕ → Kept → Place
placed n (stored.Variable v t) = Var n
placed n (stored.Quantified v t) = Quantified n
placed n (stored.Static s t) = Static n
placed n (stored.«Type» t) = TypeName n
placed n (stored.Table t d) = Table n
placed n (stored.Function f s) = Function n
placed n (stored.Predeclared b) = Builtin n
placed n stored.Input = Input

-- whether a name was new in its block, unless memory ran out
abbrev pub is_new : Result Unit ScopeError → Result Bool AllocError
is_new (Ok u) = Ok true
is_new (Err Twice) = Ok false
is_new (Err NoMemory) = Err alloc_error

-- what is kept at a place, or of the record
abbrev pub kept_at : List Kept → Option ℕ → Option Kept
kept_at meanings (Some n) = slice_get meanings n
kept_at meanings None = Some stored.Input

module _ (types : List Shape) (meanings : List Kept) where
  -- what a name stands for, by the place of its meaning; there is always one where it is asked for
  abbrev pub meaning_by : Place → Meaning
  meaning_by what = option_map_or (meaning_of types) (kept_at meanings (place_of what)) input

  -- the declarations of a block, and of blocks
  abbrev pub block_by : scopes.Block → Block
  block_by = map (λ (d : scopes.Declaration). record { name = d.name; meaning = meaning_by d.what })

  abbrev pub blocks_by : List scopes.Block → List Block
  blocks_by = map block_by

-- what is known, by what is kept
abbrev pub knowledge_of : List Block → Sight → List Shape → List Shape → Knowledge
knowledge_of [] sight types locals =
    record {
      innermost = [];
      outside = record { seen = []; all = []; own = 0; sight = sight; types = types };
      locals = locals;
    }
knowledge_of (block ∷ blocks) sight types locals = record {
  innermost = block;
  outside = record {
    seen = seen_from sight blocks;
    all = blocks;
    own = length blocks - floor_of sight;
    sight = sight;
    types = types;
  };
  locals = locals;
}

-- what is known where one block is open that declares nothing
abbrev pub at_no_name : Knowledge
at_no_name = knowledge_of ([] ∷ []) sights.Record [] []

-- what is seen, and how many blocks are the routine's own, go by who looks and by all blocks
pub record IsBySight (k : Knowledge) : Type 0 where
  pub sits : sits_in k.outside.sight (length k.outside.all) ≡ true
  pub seen : k.outside.seen ≡ seen_from k.outside.sight k.outside.all
  pub own : k.outside.own ≡ length k.outside.all - floor_of k.outside.sight

-- what is known with a name more in the innermost block
abbrev pub with_name : List ℕ → Meaning → Knowledge → Knowledge
with_name name meaning k = record k { innermost = record { name = name; meaning = meaning } ∷ k.innermost }

-- what is known with a type more
abbrev pub with_type : Shape → Knowledge → Knowledge
with_type t k = record k { outside = record k.outside { types = k.outside.types ++ t ∷ [] } }

-- the place of a meaning in the list is that of a meaning of this kind
abbrev pub IsPlaced : List Kept → Place → Type 0
IsPlaced meanings what =
    option_map (placed (unwrap_or (place_of what) 0)) (kept_at meanings (place_of what)) ≡ Some what

abbrev pub ArePlacedIn : List Kept → scopes.Block → Type 0
ArePlacedIn meanings [] = Unit {0}
ArePlacedIn meanings (d ∷ block) = IsPlaced meanings d.what × ArePlacedIn meanings block

abbrev pub ArePlaced : List Kept → List scopes.Block → Type 0
ArePlaced meanings [] = Unit {0}
ArePlaced meanings (block ∷ blocks) = ArePlacedIn meanings block × ArePlaced meanings blocks

-- the number of a type is one of so many
abbrev pub IsTyped : ℕ → Kept → Type 0
IsTyped count (stored.«Type» n) = n < count
IsTyped count _ = Unit {0}

abbrev pub AreTyped : ℕ → List Kept → Type 0
AreTyped count [] = Unit {0}
AreTyped count (m ∷ meanings) = IsTyped count m × AreTyped count meanings

-- what is always true of what is kept
pub record IsKept (types : List Shape) (meanings : List Kept) (blocks : List scopes.Block)
    (sight : Sight) : Type 0 where
  pub placed : ArePlaced meanings blocks
  pub typed : AreTyped (length types) meanings
  pub some : 0 < length blocks
  pub sits : sits_in sight (length blocks - 1) ≡ true

-- the blocks without the innermost, if there are more than this many round it
abbrev pub without_innermost : ℕ → List scopes.Block → List scopes.Block
without_innermost count [] = []
without_innermost count (block ∷ blocks) = if nat_lt count (length blocks) then blocks else block ∷ blocks
