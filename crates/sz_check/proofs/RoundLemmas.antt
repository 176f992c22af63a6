-- Types that are put into a block under their names, one after the other.
use Rattle.std.proofs.Common.{◌≡◌, ℕ, zero, suc, ◌+◌, ◌<◌, Bool, true, false, List, [], ◌∷◌, ◌++◌, length, get_or, take, map, refl, sym, ap, ◌∙◌, arith}
use Rattle.std.specs.Prelude.{not, ◌&&◌, ◌||◌, IsFalse, IsTrue, bytes_eq}
use Rattle.std.specs.List.{Contains, list_any}
use Rattle.std.specs.Cmp.{first_so, second_so}
use Rattle.std.proofs.lemmas.List.{take_more}
use Rattle.std.proofs.lemmas.Slice.Eq.{bytes_eq-Decides}
use Rattle.std.proofs.lemmas.List.Elements.{Contains-append_right}
use Rattle.sz_core.specs.WellFormed.{is_well_formed, are_well_formed, are_distinct_texts}
use Rattle.sz_protofile.specs.Types.{TypeShape}
use Rattle.sz_check_rules.specs.Names.{Block, has}
use Rattle.sz_check_rules.specs.Scene.{Scene}
use Rattle.sz_check_rules.proofs.Holds.{good, good_is}
use Rattle.sz_check_names.specs.Knowledge.{Knowledge, scene_of}
use Rattle.sz_check_rules.specs.JudgingWithTypes.{NamedShape, named_type, block_of_types}
use Rattle.sz_check.specs.RoundTypes.{named_shape, named_shapes, with_named_type}

-- the names of types
abbrev pub names_of : List TypeShape → List (List ℕ)
names_of = map (λ (t : TypeShape). t.name)

-- a type more stands in front
pub block_more : (types : List NamedShape) (t : NamedShape)
    → block_of_types (types ++ t ∷ []) ≡ named_type t ∷ block_of_types types
block_more [] t = refl
block_more (s ∷ types) t = ap (λ (block : Block). block ++ named_type s ∷ []) (block_more types t)

-- one type more of those in a list
pub block_further : (types : List TypeShape) (i : ℕ) (t : TypeShape) → i < length types → t ≡ get_or types i t
    → block_of_types (named_shapes (take (i + 1) types))
    ≡ named_type (named_shape t) ∷ block_of_types (named_shapes (take i types))
block_further types i t within is =
    ap (λ ts. block_of_types (named_shapes ts)) (take_more types i t within ∙ ap (λ x. take i types ++ x ∷ []) (sym is))
    ∙ ap block_of_types (mapped (take i types)) ∙ block_more (named_shapes (take i types)) (named_shape t)
  where
    mapped : (types : List TypeShape) → named_shapes (types ++ t ∷ []) ≡ named_shapes types ++ named_shape t ∷ []
    mapped [] = refl
    mapped (s ∷ types) = ap (λ l. named_shape s ∷ l) (mapped types)

-- ---- names that differ

not_true : (b : Bool) → not b ≡ true → b ≡ false
not_true true h = absurd cc
not_true false h = refl

neither : (a b : Bool) → a ≡ false → b ≡ false → (a || b) ≡ false
neither a b h k = rw (h, k) refl

-- the block of types has only their names
module _ (name : List ℕ) where
  has_with : (block : Block) (t : NamedShape) → IsFalse (has name block) → IsFalse (bytes_eq name t.0)
      → IsFalse (has name (block ++ named_type t ∷ []))
  has_with [] t h k = neither (bytes_eq name t.0) false k refl
  has_with (n ∷ block) t h k = by (bytes_eq name n.name) (λ rest. has_with block t rest k) h
    where
      by : (b : Bool) → (IsFalse (has name block) → IsFalse (has name (block ++ named_type t ∷ [])))
          → (b || has name block) ≡ false → (b || has name (block ++ named_type t ∷ [])) ≡ false
      by true more h = absurd cc
      by false more h = more h

left_false : (a b : Bool) → (a || b) ≡ false → a ≡ false
left_false true b h = absurd cc
left_false false b h = refl

right_false : (a b : Bool) → (a || b) ≡ false → b ≡ false
right_false true b h = absurd cc
right_false false b h = h

other_way : (x y : List ℕ) → bytes_eq x y ≡ false → bytes_eq y x ≡ false
other_way x y h = by (bytes_eq y x) refl
  where
    both : true ≡ false → bytes_eq y x ≡ false
    both e = absurd cc

    by : (b : Bool) → bytes_eq y x ≡ b → bytes_eq y x ≡ false
    by false e = e
    by true e = both (sym ((bytes_eq-Decides x y).1 (sym ((bytes_eq-Decides y x).0 e))) ∙ h)

-- it is none of the others
is_other : (name : List ℕ) (types : List TypeShape) (i : ℕ) (t : TypeShape) → i < length types → t ≡ get_or types i t
    → list_any (bytes_eq name) (names_of types) ≡ false → bytes_eq name t.name ≡ false
is_other name [] i t within is h = absurd (omega (arith, within))
is_other name (s ∷ types) zero t within is h = ap (λ (x : TypeShape). bytes_eq name x.name) is
    ∙ left_false (bytes_eq name s.name) _ h
is_other name (s ∷ types) (suc i) t within is h =
    is_other name types i t (omega (arith, within)) is
    (right_false (bytes_eq name s.name) (list_any (bytes_eq name) (names_of types)) h)

-- a type's name is free behind those before it
pub free_name : (types : List TypeShape) (i : ℕ) (t : TypeShape) → i < length types → t ≡ get_or types i t
    → IsTrue (are_distinct_texts (names_of types))
    → IsFalse (has t.name (block_of_types (named_shapes (take i types))))
free_name [] i t within is apart = absurd (omega (arith, within))
free_name (s ∷ types) zero t within is apart = refl
free_name (s ∷ types) (suc i) t within is apart =
    let others : list_any (bytes_eq s.name) (names_of types) ≡ false =
    not_true _ (first_so _ (are_distinct_texts (names_of types)) apart) in
    has_with t.name (block_of_types (named_shapes (take i types))) (named_shape s)
    (free_name types i t (omega (arith, within)) is
    (second_so (not (list_any (bytes_eq s.name) (names_of types))) _ apart))
    (other_way s.name t.name (is_other s.name types i t (omega (arith, within)) is others))

-- the names of the types as the judgement knows them
pub names_are : (types : List TypeShape) → names_of types ≡ map (λ (t : NamedShape). t.0) (named_shapes types)
names_are [] = refl
names_are (t ∷ types) = ap (λ l. t.name ∷ l) (names_are types)

-- ---- well formed types

pub all_formed : (types : List TypeShape) → ((t : TypeShape) → Contains types t → IsTrue (is_well_formed t.shape))
    → IsTrue (are_well_formed (map (λ (t : NamedShape). t.1) (named_shapes types)))
all_formed [] formed = refl
all_formed (s ∷ types) formed = λ i. formed s (0, omega arith, refl) i
    && all_formed types (λ t c. formed t (Contains-append_right (s ∷ []) types t c)) i

-- ---- what is known

-- the block has these types, and around it all is as before
pub record HasTypes (before after : Knowledge) (types : List TypeShape) : Type 0 where
  pub block : after.innermost ≡ block_of_types (named_shapes types)
  pub outside : after.outside.seen ≡ before.outside.seen
  pub locals : after.locals ≡ before.locals

-- one type more
pub types_more : (before k after : Knowledge) (types : List TypeShape) (i : ℕ) (t : TypeShape) → i < length types
    → t ≡ get_or types i t → HasTypes before k (take i types) → good (with_named_type t k) ≡ good (scene_of after)
    → HasTypes before after (take (i + 1) types)
types_more before k after types i t within is has same =
    let scenes : with_named_type t k ≡ scene_of after = good_is same in
    record {
      block = sym (ap (λ (s : Scene). first_of s.blocks) scenes)
          ∙ ap (λ (b : Block). named_type (named_shape t) ∷ b) has.block ∙ sym (block_further types i t within is);
      outside = sym (ap (λ (s : Scene). rest_of s.blocks) scenes) ∙ has.outside;
      locals = sym (ap (λ (s : Scene). s.locals) scenes) ∙ has.locals;
    }
  where
    first_of : List Block → Block
    first_of [] = []
    first_of (b ∷ bs) = b

    rest_of : List Block → List Block
    rest_of [] = []
    rest_of (b ∷ bs) = bs
