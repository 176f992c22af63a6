-- Declarations in front of bytes.
use Rattle.std.proofs.Common.{◌≡◌, ◌∙◌, ℕ, ◌==◌, true, if◌then◌else◌, ⊎_elim, Option, Some, None, List, [], ◌∷◌, ◌++◌, length, refl, ap, eqb-true}
use Rattle.std.specs.Prelude.{⊤}
use Rattle.std.specs.List.{AllByRecursion}
use Rattle.sz_types.specs.Data.{Shape}
use Rattle.sz_types.specs.Tables.{Declaration}
use Rattle.sz_types.specs.declared.table.TableKind.{TableKind}
use Rattle.sz_types.specs.declared.table.TableKind.TheVariants.{Sum, Maximum, Minimum, Set, Collection}
use Rattle.sz_core.specs.WellFormed.{is_allowed}
use Rattle.sz_flat.specs.Spelling.{IsShort}
use Rattle.sz_save_format.specs.Names.{HasName}
use Rattle.sz_save_format.specs.Types.{type_bytes, most_height, IsSavedType}
use Rattle.sz_save_format.specs.Declarations.{kind_byte, types_bytes, weight_bytes, declaration_bytes, IsSavedWeight, IsSavedDeclaration}
use Rattle.sz_save_format.specs.Decoding.{and_then, both, only, length_at, byte_at, in_front, kind_in, kind_at, saved_type_at, types_at, name_at, weight_at, Parts, made_of, if_allowed, declaration_at}
use Rattle.sz_save_format.proofs.FrontLemmas.{Finds, none_some, some_is, then_some, only_some, only_true, found_first, first_again, same_finds, byte_some, in_front_some, if_some, carried, counted_finds, both_finds}
use Rattle.sz_save_format.proofs.NameLemmas.{length_finds, name_finds}
use Rattle.sz_save_format.proofs.TypeLemmas.{type_finds}

kind_told : (n : ℕ) (kind : TableKind) → kind_in n ≡ Some kind → n ≡ kind_byte kind
kind_told n kind e =
    ⊎_elim (λ h. eqb-true n 0 h.0 ∙ ap kind_byte (some_is Sum kind h.1))
    (λ a. ⊎_elim (λ h. eqb-true n 1 h.0 ∙ ap kind_byte (some_is Maximum kind h.1))
    (λ b. ⊎_elim (λ h. eqb-true n 2 h.0 ∙ ap kind_byte (some_is Minimum kind h.1))
    (λ c. ⊎_elim (λ h. eqb-true n 3 h.0 ∙ ap kind_byte (some_is Set kind h.1))
    (λ d. ⊎_elim (λ h. eqb-true n 4 h.0 ∙ ap kind_byte (some_is Collection kind h.1)) (λ f. absurd (none_some f.1))
    (if_some (n == 4) (Some Collection) None kind d.1))
    (if_some (n == 3) (Some Set) _ kind c.1))
    (if_some (n == 2) (Some Minimum) _ kind b.1))
    (if_some (n == 1) (Some Maximum) _ kind a.1))
    (if_some (n == 0) (Some Sum) _ kind e)

kind_again : (kind : TableKind) (rest : List ℕ) → kind_at (kind_byte kind ∷ rest) ≡ Some (kind, rest)
unfolding kind_at
kind_again Sum rest = refl
kind_again Maximum rest = refl
kind_again Minimum rest = refl
kind_again Set rest = refl
kind_again Collection rest = refl

kind_sound : (flat : List ℕ) (kind : TableKind) (rest : List ℕ) → kind_at flat ≡ Some (kind, rest)
    → ⊤ × (flat ≡ kind_byte kind ∷ rest)
unfolding kind_at
kind_sound flat kind rest e =
    let first = then_some (byte_at flat) (λ b mid. in_front (kind_in b) mid) (kind, rest) e in
    let found = in_front_some (kind_in first.0) first.1 kind rest first.3 in
    (tt, byte_some flat first.0 first.1 first.2 ∙ (λ i. kind_told first.0 kind found.0 i ∷ found.1 i))

pub kind_finds : Finds (λ kind. ⊤) (λ kind. kind_byte kind ∷ []) kind_at
kind_finds = record { sound = kind_sound; again = λ kind rest h. kind_again kind rest }

pub saved_type_finds : Finds IsSavedType type_bytes saved_type_at
saved_type_finds =
    same_finds (type_finds most_height) (λ t h. record { has = h.0; low = h.1 }) (λ t h. (h.has, h.low)) (λ t h. refl)

types_finds : Finds (λ ts. IsShort (length ts) × AllByRecursion IsSavedType ts) types_bytes types_at
types_finds = counted_finds length_finds saved_type_finds

-- what stands behind the byte before the type of weights
abbrev weight_behind : ℕ → List ℕ → Option (Option Shape × List ℕ)
weight_behind b rest = if b
    == 0 then Some (None, rest) else only (b == 1) (and_then (saved_type_at rest) (λ t more. Some (Some t, more)))

weight_sound : (flat : List ℕ) (w : Option Shape) (rest : List ℕ) → weight_at flat ≡ Some (w, rest)
    → IsSavedWeight w × (flat ≡ weight_bytes w ++ rest)
unfolding weight_at
weight_sound flat w rest e =
    let first = then_some (byte_at flat) weight_behind (w, rest) e in
    let byte = byte_some flat first.0 first.1 first.2 in
    ⊎_elim
    (λ h. carried IsSavedWeight weight_bytes flat None w first.1 rest h.1 tt
    (byte ∙ (λ i. eqb-true first.0 0 h.0 i ∷ first.1))) (λ h.
    let parts =
    only_some (first.0 == 1) (and_then (saved_type_at first.1) (λ t more. Some (Some t, more))) (w, rest) h.1 in
    let second = found_first saved_type_finds first.1 (λ t more. Some (Some t, more)) (w, rest) parts.1 in
    carried IsSavedWeight weight_bytes flat
    (Some second.0) w second.1 rest second.4 second.2 (byte ∙ (λ i. eqb-true first.0 1 parts.0 i ∷ second.3 i)))
    (if_some (first.0 == 0) (Some (None, first.1))
    (only (first.0 == 1) (and_then (saved_type_at first.1) (λ t more. Some (Some t, more)))) (w, rest) first.3)

weight_again : (w : Option Shape) (rest : List ℕ) → IsSavedWeight w
    → weight_at (weight_bytes w ++ rest) ≡ Some (w, rest)
unfolding weight_at
weight_again None rest h = refl
weight_again (Some t) rest h = first_again saved_type_finds t rest (λ t more. Some (Some t, more)) h

weight_finds : Finds IsSavedWeight weight_bytes weight_at
weight_finds = record { sound = weight_sound; again = weight_again }

-- the parts of a declaration
abbrev parts_of : Declaration → Parts
parts_of table = (table.name, (table.kind, (table.limit, (table.indexes, (table.element, table.weight)))))

abbrev HaveParts : Parts → Type 0
HaveParts p =
    HasName p.0 × (⊤ × (IsShort p.1.1.0 × ((IsShort (length p.1.1.1.0) × AllByRecursion IsSavedType p.1.1.1.0)
    × (IsSavedType p.1.1.1.1.0 × IsSavedWeight p.1.1.1.1.1))))

parts_finds : Finds HaveParts (λ p. declaration_bytes (made_of p))
    (both name_at (both kind_at (both length_at (both types_at (both saved_type_at weight_at)))))
parts_finds =
    both_finds name_finds (both_finds kind_finds
    (both_finds length_finds (both_finds types_finds (both_finds saved_type_finds weight_finds))))

declaration_sound : (flat : List ℕ) (table : Declaration) (rest : List ℕ) → declaration_at flat ≡ Some (table, rest)
    → IsSavedDeclaration table × (flat ≡ declaration_bytes table ++ rest)
unfolding declaration_at
declaration_sound flat table rest e =
    let a = found_first parts_finds flat (λ p mid. if_allowed (made_of p) mid) (table, rest) e in
    let parts = only_some (is_allowed (made_of a.0)) (Some (made_of a.0, a.1)) (table, rest) a.4 in
    carried IsSavedDeclaration declaration_bytes flat
    (made_of a.0) table a.1 rest parts.1 (saved_parts a.0 a.2 parts.0) a.3
  where
    saved_parts : (p : Parts) → HaveParts p → is_allowed (made_of p) ≡ true → IsSavedDeclaration (made_of p)
    saved_parts p h allowed = record {
      name = h.0;
      limit = h.1.1.0;
      few = h.1.1.1.0.0;
      indexes = h.1.1.1.0.1;
      element = h.1.1.1.1.0;
      weight = h.1.1.1.1.1;
      allowed = allowed;
    }

declaration_again : (table : Declaration) (rest : List ℕ) → IsSavedDeclaration table
    → declaration_at (declaration_bytes table ++ rest) ≡ Some (table, rest)
unfolding declaration_at
declaration_again table rest h =
    first_again parts_finds (parts_of table) rest (λ p mid. if_allowed (made_of p) mid)
    (h.name, (tt, (h.limit, ((h.few, h.indexes), (h.element, h.weight)))))
    ∙ only_true (is_allowed table) (Some (table, rest)) h.allowed

pub declaration_finds : Finds IsSavedDeclaration declaration_bytes declaration_at
declaration_finds = record { sound = declaration_sound; again = declaration_again }
