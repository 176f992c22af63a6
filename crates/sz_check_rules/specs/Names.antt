-- Names while a program is judged: blocks, the innermost first, each with what it declares.
use Rattle.std.specs.Prelude.{ℕ, List, [], ◌∷◌, map, filter, Bool, not, ◌&&◌, if◌then◌else◌, Option, Some, None, Ok, codes, bytes_eq}
use Rattle.std.specs.List.{list_any}
use Rattle.std.specs.Option.{option_or}
use Rattle.sz_types.specs.Data.{Shape}
use Rattle.sz_types.specs.Tables.{Declaration}
use Rattle.sz_types.specs.declared.operator.Builtin.{Builtin}
use Rattle.sz_types.specs.declared.operator.Builtin.TheVariants.{Len, Keys, HasKey, StrFind}
use Rattle.sz_scope.specs.declared.meaning.Meaning as scopes
use Rattle.sz_scope.specs.declared.meaning.Meaning.TheVariants as kinds
use Rattle.sz_scope.specs.Sight.{is_of_record, is_table}
use Rattle.sz_tree.specs.Names.{Ident}
use Rattle.sz_core.specs.Programs.{Signature}
use Rattle.sz_check_rules.specs.Refusals.{Judged, unseen, declared_twice}

-- what a name stands for, with its number among those of its kind
pub data Meaning : Type 0 where
  variable : ℕ → Shape → Meaning
  -- a variable that a `when` quantifies, which has a number among the variables
  quantified : ℕ → Shape → Meaning
  static : ℕ → Shape → Meaning
  type_name : Shape → Meaning
  table : ℕ → Declaration → Meaning
  function : ℕ → Signature → Meaning
  predeclared : Builtin → Meaning
  input : Meaning

-- a name with its meaning
pub record Named : Type 0 where
  pub name : List ℕ
  pub meaning : Meaning

-- a block: what is declared in it
abbrev pub Block : Type 0
Block = List Named

-- what the name stands for in a block
abbrev pub meaning_in : List ℕ → Block → Option Meaning
meaning_in name [] = None
meaning_in name (n ∷ block) = if bytes_eq name n.name then Some n.meaning else meaning_in name block

-- what the name stands for: the innermost block that has it decides
abbrev pub meaning_of : List ℕ → List Block → Option Meaning
meaning_of name [] = None
meaning_of name (block ∷ blocks) = option_or (meaning_in name block) (meaning_of name blocks)

-- whether a block has the name
abbrev pub has : List ℕ → Block → Bool
has name block = list_any (λ (n : Named). bytes_eq name n.name) block

-- the blocks with a name more in the innermost one, which must not have it already
abbrev pub declare : Ident → Meaning → List Block → Judged (List Block)
declare n m [] = Ok ((record { name = n.text; meaning = m } ∷ []) ∷ [])
declare n m (block ∷ blocks) =
    if has n.text block then declared_twice n else Ok ((record { name = n.text; meaning = m } ∷ block) ∷ blocks)

-- a meaning as scopes know it, where it is ruled who sees what
abbrev pub scoped : Meaning → scopes.Meaning
scoped (variable n t) = kinds.Var n
scoped (quantified n t) = kinds.Quantified n
scoped (static n t) = kinds.Static n
scoped (type_name t) = kinds.TypeName 0
scoped (table n d) = kinds.Table n
scoped (function n s) = kinds.Function n
scoped (predeclared b) = kinds.Builtin 0
scoped input = kinds.Input

-- whether a function sees what this name stands for outside it: not the record, and not its variables
abbrev pub is_seen_by_functions : Meaning → Bool
is_seen_by_functions m = not (is_of_record (scoped m))

-- whether a static's value sees it: statics, functions and types alone
abbrev pub is_seen_by_statics : Meaning → Bool
is_seen_by_statics m = not (is_table (scoped m)) && not (is_of_record (scoped m))

-- the blocks with what is seen of them: any other name counts as absent from its block
abbrev pub only : (Meaning → Bool) → List Block → List Block
only seen blocks = map (filter (λ (n : Named). seen n.meaning)) blocks

-- the block round each program
abbrev pub predeclared_names : Block
predeclared_names =
    record { name = codes "input"; meaning = input }
    ∷ record { name = codes "len"; meaning = predeclared Len }
    ∷ record { name = codes "keys"; meaning = predeclared Keys }
    ∷ record { name = codes "haskey"; meaning = predeclared HasKey }
    ∷ record { name = codes "strfind"; meaning = predeclared StrFind }
    ∷ []

-- what the name stands for, if anything that is seen has it
abbrev pub look_up : Ident → List Block → Judged Meaning
look_up n blocks = found (meaning_of n.text blocks)
  where
    found : Option Meaning → Judged Meaning
    found (Some m) = Ok m
    found None = unseen n
