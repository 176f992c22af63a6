-- How the logic stores emits, rows and aggregators as plain data: what the models of their types have to give.
use Rattle.std.specs.Prelude.{◌≡◌, ◌⊎◌, ℕ, ℤ, List, [], ◌∷◌, Option, Some, None, refl}
use Rattle.std.specs.Coded.{Coded, code_by, coded×, coded⊎, coded_ℕ, coded_ℤ, coded_list, coded_option}
use Rattle.std.proofs.Common.{inl, inr}
use Rattle.sz_types.specs.Data.{Shape}
use Rattle.sz_types.specs.Tables.{Declaration}
use Rattle.sz_types.specs.Code.{declarations_code}
use Rattle.sz_types.specs.declared.table.TableKind.TheVariants.{Sum}
use Rattle.sz_value.specs.Data.{Datum}
use Rattle.sz_value.specs.Code.{datum_code, parts_code}
use Rattle.sz_tabs.specs.Data.{EmitDatum, Weighted, Shown, one, sums, overflow, RowDatum}
use Rattle.sz_tabs.specs.Listing.{Listing}

abbrev weight_code : Coded (Option ℤ)
weight_code = coded_option coded_ℤ

-- the parts of an emit as a tuple
abbrev Parts : Type 0
Parts = ℕ × (List Datum × (Datum × Option ℤ))

-- how an emit is stored
abbrev pub emit_code : Coded EmitDatum
emit_code =
    code_by Parts (coded× coded_ℕ (coded× parts_code (coded× datum_code weight_code)))
    (λ e. (e.table, (e.indexes, (e.value, e.weight))))
    (λ p. record { table = p.0; indexes = p.1.0; value = p.1.1.0; weight = p.1.1.1 })
    (λ _. refl)

-- what a row shows as a choice
abbrev Choice : Type 0
Choice = Datum ⊎ Option (List ℤ)

abbrev choice_of : Shown → Choice
choice_of (one value) = inl value
choice_of (sums numbers) = inr (Some numbers)
choice_of overflow = inr None

abbrev shown_of : Choice → Shown
shown_of (inl value) = one value
shown_of (inr (Some numbers)) = sums numbers
shown_of (inr None) = overflow

pub shown_again : (shown : Shown) → shown_of (choice_of shown) ≡ shown
shown_again (one value) = refl
shown_again (sums numbers) = refl
shown_again overflow = refl

abbrev shown_code : Coded Shown
shown_code = code_by Choice (coded⊎ datum_code (coded_option (coded_list coded_ℤ))) choice_of shown_of shown_again

-- how a row is stored
abbrev pub row_code : Coded RowDatum
row_code =
    code_by (Shown × Option ℤ) (coded× shown_code weight_code) (λ r. (r.shown, r.weight))
    (λ p. record { shown = p.0; weight = p.1 }) (λ _. refl)

-- any declaration, where a list has none
abbrev no_declaration : Declaration
no_declaration = record { name = []; kind = Sum; limit = 0; indexes = []; element = Shape.int; weight = None }

abbrev first_of : List Declaration → Declaration
first_of [] = no_declaration
first_of (d ∷ ds) = d

-- how a declaration is stored
abbrev pub declaration_code : Coded Declaration
declaration_code = code_by (List Declaration) declarations_code (λ d. d ∷ []) first_of (λ _. refl)

abbrev weighted_code : Coded Weighted
weighted_code = code_by (Datum × Option ℤ) (coded× datum_code weight_code) (λ w. (w.value, w.weight))
    (λ p. record { value = p.0; weight = p.1 }) (λ _. refl)

-- how a plain aggregator is stored
abbrev pub listing_code : Coded Listing
listing_code =
    code_by (Declaration × List Weighted) (coded× declaration_code (coded_list weighted_code))
    (λ l. (l.table, l.emits)) (λ p. record { table = p.0; emits = p.1 }) (λ _. refl)
