-- Statements that declare types, in front of a program: it is judged as where the types are known round it.
use Rattle.std.proofs.Common.{◌≡◌, ℕ, true, false, List, [], ◌∷◌, ◌++◌, map, Option, Some, None, refl, sym, ap, subst, ◌∙◌, append_assoc, append-nil}
use Rattle.std.specs.Prelude.{not, Ok, Err, IfSome, IsFalse, bytes_eq}
use Rattle.std.specs.List.{list_any}
use Rattle.std.specs.Cmp.{first_so, second_so}
use Rattle.sz_types.specs.Data.{Shape}
use Rattle.sz_types.specs.declared.place.Place.{Place}
use Rattle.sz_tree.specs.Names.{Ident}
use Rattle.sz_tree.specs.Types.{Typ}
use Rattle.sz_tree.specs.Statements.{Stm, typedef, Stms, no_stms, stm}
use Rattle.sz_core.specs.WellFormed.{is_well_formed, are_well_formed, are_distinct_texts}
use Rattle.sz_check_rules.specs.Refusals.{Judged, ◌>>=◌, has_name}
use Rattle.sz_check_rules.specs.Names.{Block, has, predeclared_names}
use Rattle.sz_check_rules.specs.Names as names
use Rattle.sz_check_rules.specs.JudgingPrograms.{TopScene, Found, with_blocks, judge_top, judge_all, known_at_first, judge_program}
use Rattle.sz_check_rules.proofs.Holds.{good}
use Rattle.sz_check_rules.specs.JudgingWithTypes.{NamedShape, named_type, block_of_types, judge_from, judge_program_with}
use Rattle.sz_check_rules.specs.TypeStatements.{Spells, DeclareTypes, written_first, declared_name, DeclaresNone}
use Rattle.sz_check_rules.proofs.SpelledTypes.{spelled, left_false, right_false, not_true, neither, swap_texts}
use Rattle.sz_check_rules.proofs.TypesFirst.{AllFree, programs_so}

-- the names of types
abbrev pub names_of : List NamedShape → List (List ℕ)
names_of = map (λ (t : NamedShape). t.0)

abbrev pub shapes_of : List NamedShape → List Shape
shapes_of = map (λ (t : NamedShape). t.1)

-- ---- names that no type has

free_with : (name : List ℕ) (block : Block) (t : NamedShape) → IsFalse (has name block) → IsFalse (bytes_eq name t.0)
    → IsFalse (has name (block ++ named_type t ∷ []))
free_with name [] t h k = neither (bytes_eq name t.0) false k refl
free_with name (n ∷ block) t h k = neither (bytes_eq name n.name) (has name (block ++ named_type t ∷ []))
    (left_false (bytes_eq name n.name) (has name block) h)
    (free_with name block t (right_false (bytes_eq name n.name) (has name block) h) k)

free_of : (name : List ℕ) (types : List NamedShape) → IsFalse (has_name name (names_of types))
    → IsFalse (has name (block_of_types types))
free_of name [] h = refl
free_of name (t ∷ types) h = free_with name (block_of_types types) t
    (free_of name types (right_false (bytes_eq name t.0) (has_name name (names_of types)) h))
    (left_false (bytes_eq name t.0) (has_name name (names_of types)) h)

all_free : (types : List NamedShape) (program : Stms) → DeclaresNone (names_of types) program
    → AllFree (block_of_types types) (predeclared_names ∷ []) program
all_free types no_stms h = tt
all_free types (stm s ss) h = (by (declared_name s) h.0, all_free types ss h.1)
  where
    by : (o : Option (List ℕ)) → IfSome o (λ name. IsFalse (has_name name (names_of types)))
        → IfSome o (λ name. IsFalse (has name (block_of_types types)))
    by None h = tt
    by (Some name) h = free_of name types h

-- ---- one statement after the other

-- no type has a name that the block has
abbrev AllNew : Block → List NamedShape → Type 0
AllNew block [] = Unit {0}
AllNew block (t ∷ types) = IsFalse (has t.0 block) × AllNew block types

all_new : (types : List NamedShape) → AllNew [] types
all_new [] = tt
all_new (t ∷ types) = (refl, all_new types)

new_more : (t : NamedShape) (block : Block) (types : List NamedShape)
    → IsFalse (list_any (bytes_eq t.0) (names_of types)) → AllNew block types
    → AllNew (named_type t ∷ block) types
new_more t block [] h new = tt
new_more t block (u ∷ types) h new = (
  neither (bytes_eq u.0 t.0) (has u.0 block)
      (swap_texts t.0 u.0 (left_false (bytes_eq t.0 u.0) (list_any (bytes_eq t.0) (names_of types)) h)) new.0,
  new_more t block types (right_false (bytes_eq t.0 u.0) (list_any (bytes_eq t.0) (names_of types)) h) new.1,
)

-- a statement that declares a type
type_declared : (k : TopScene) (block : Block) (outer : List Block) (p : Place) (n : Ident) (t : Typ) (s : Shape)
    → Spells t s → is_well_formed s ≡ true → IsFalse (has n.text block)
    → judge_top (with_blocks k (block ∷ outer)) (typedef p n t)
    ≡ good (record {
      known = with_blocks k ((record { name = n.text; meaning = names.type_name s } ∷ block) ∷ outer);
      items = [];
    })
type_declared k block outer p n t s h f free = rw (spelled (block ∷ outer) t s h f, free) refl

-- the items of no statement in front
none_in_front : (m : Judged Found) → (m >>= λ rest. good (record { known = rest.known; items = rest.items })) ≡ m
none_in_front (Ok rest) = refl
none_in_front (Err r) = refl

types_declared : (k : TopScene) (block : Block) (outer : List Block) (ss : List Stm) (types : List NamedShape)
    (program : Stms) → DeclareTypes ss types
    → are_well_formed (shapes_of types) ≡ true → are_distinct_texts (names_of types) ≡ true → AllNew block types
    → judge_all (with_blocks k (block ∷ outer)) (written_first ss program)
    ≡ judge_all (with_blocks k ((block_of_types types ++ block) ∷ outer)) program
unfolding judge_all
types_declared k block outer [] [] program h formed apart new = refl
types_declared k block outer (typedef p n t ∷ ss) (named ∷ types) program h formed apart new =
    let is : n.text ≡ named.0 = h.0 in
    let one = type_declared k block outer p n t named.1 h.1 (first_so (is_well_formed named.1) _ formed)
    (subst (λ x. IsFalse (has x block)) (sym is) new.0) in
    let rest = types_declared k
    (named_type named ∷ block) outer ss types program h.2 (second_so (is_well_formed named.1) _ formed)
    (second_so (not (list_any (bytes_eq named.0) (names_of types))) _ apart)
    (new_more named block types (not_true _ (first_so _ (are_distinct_texts (names_of types)) apart)) new.1) in
    ap (λ (j : Judged Found). j >>= λ first. judge_all first.known (written_first ss program)
    >>= λ rest. good (record { known = rest.known; items = first.items ++ rest.items })) one
    ∙ none_in_front (judge_all (with_blocks k
    ((record { name = n.text; meaning = names.type_name named.1 } ∷ block) ∷ outer)) (written_first ss program))
    ∙ ap (λ (x : List ℕ). judge_all (with_blocks k
    ((record { name = x; meaning = names.type_name named.1 } ∷ block) ∷ outer)) (written_first ss program)) is
    ∙ rest
    ∙ ap (λ (b : Block). judge_all (with_blocks k (b ∷ outer)) program)
    (sym (append_assoc (block_of_types types) (named_type named ∷ []) block))
types_declared k block outer _ _ program h formed apart new = absurd h

-- types may be known round a program, or be declared by it first
pub types_first : (types : List NamedShape) (ss : List Stm) (program : Stms) → DeclareTypes ss types
    → are_well_formed (shapes_of types) ≡ true
    → are_distinct_texts (names_of types) ≡ true → DeclaresNone (names_of types) program
    → judge_program_with types program ≡ judge_program (written_first ss program)
types_first types ss program h formed apart none =
    let outer : List Block = predeclared_names ∷ [] in
    programs_so (block_of_types types) outer known_at_first [] program (all_free types program none)
    ∙ ap (λ (b : Block). judge_from (with_blocks known_at_first (b ∷ outer)) program)
    (sym (append-nil (block_of_types types)))
    ∙ ap (λ (j : Judged Found). j >>= λ found. good (record { items = found.items; locals = found.known.scene.locals }))
    (sym (types_declared known_at_first [] outer ss types program h formed apart (all_new types)))

-- where there are no types, the program is judged as it is without any
pub no_types : (program : Stms) → judge_program_with [] program ≡ judge_program program
no_types program = types_first [] [] program tt refl refl (declares_none program)
  where
    no_name : (o : Option (List ℕ)) → IfSome o (λ name. IsFalse (has_name name []))
    no_name None = tt
    no_name (Some name) = refl

    declares_none : (program : Stms) → DeclaresNone [] program
    declares_none no_stms = tt
    declares_none (stm s ss) = (no_name (declared_name s), declares_none ss)
