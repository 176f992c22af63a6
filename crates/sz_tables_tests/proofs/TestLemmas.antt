-- Whole numbers fit the tables of the tests.
use Rattle.std.proofs.Common.{◌≡◌, ◌∙◌, ◌⊎◌, ℤ, Bool, true, false, cond, Option, Some, None, is_some, List, [], ◌∷◌, ◌++◌, All, refl, sym, subst}
use Rattle.std.specs.Prelude.{slice_get}
use Rattle.std.proofs.lemmas.List.Elements.{All-push, All-nil}
use Rattle.std.proofs.lemmas.Option.{slice_get_within, get_or_from_slice_get}
use Rattle.sz_types.specs.Data.{Shape}
use Rattle.sz_types.specs.Tables.{Declaration}
use Rattle.sz_value.specs.Data.{Datum, int, data_of}
use Rattle.sz_types.specs.Types.{has_type, have_types}
use Rattle.sz_flat.specs.Spelling.{HasShortLengths, HaveShortLengths}
use Rattle.sz_tabs.specs.Aggregating.{weighted}
use Rattle.sz_tabs.specs.Data.{EmitDatum}
use Rattle.sz_tabs.specs.Fitting.{Fits, IsEmitTo}
use Rattle.sz_total.specs.Short.{HasShortParts}
use Rattle.sz_total.specs.Weights.{HasItsWeights, HaveTheirWeights}

has_weight : (b : Bool) (w : ℤ) → is_some (cond b (Some w) None) ≡ b
has_weight true w = refl
has_weight false w = refl

pub numbers_fit : (table : Declaration) (b : Bool) → table.element ≡ Shape.int → is_some table.weight ≡ b
    → (n w : ℤ) → Fits table (weighted (int n) (cond b (Some w) None))
numbers_fit table b element weight n w = record {
  element = subst (λ t. has_type (int n) t ≡ true) (sym element) refl;
  weight = has_weight b w ∙ sym weight;
}

-- the tables of the tests are of whole numbers under one whole number
abbrev pub AreOfNumbers : List Declaration → Type 0
AreOfNumbers tables =
    All (λ (table : Declaration). (table.element ≡ Shape.int) × (table.indexes ≡ Shape.int ∷ [])) tables

-- a whole number under a whole number fits such a table, if it has a weight where the table has weights
pub emit_fits : (tables : List Declaration) (emit : EmitDatum) (table : Declaration) (index number : ℤ)
    → AreOfNumbers tables
    → slice_get tables emit.table ≡ Some table → emit.indexes ≡ int index ∷ [] → emit.value ≡ int number
    → is_some emit.weight ≡ is_some table.weight → IsEmitTo tables emit
emit_fits tables emit table index number are there indexes value weight =
    let of = subst (λ (d : Declaration). (d.element ≡ Shape.int) × (d.indexes ≡ Shape.int ∷ []))
    (get_or_from_slice_get tables emit.table table table there)
    (are emit.table table (slice_get_within tables emit.table table there)) in
    record {
      table = table;
      declared = there;
      indexes = (λ i. have_types (indexes i) (of.1 i));
      fits = record { element = (λ i. has_type (value i) (of.0 i)); weight = weight };
    }

-- whole numbers have no lengths
pub emit_short : (emit : EmitDatum) (index number : ℤ) → emit.indexes ≡ int index ∷ [] → emit.value ≡ int number
    → HasShortParts emit
emit_short emit index number indexes value = record {
  indexes = subst (λ l. HaveShortLengths (data_of l)) (sym indexes) (tt, tt);
  value = subst HasShortLengths (sym value) tt;
}

pub two_short : (list : List Datum) (first second : ℤ) → list ≡ int first ∷ int second ∷ []
    → HaveShortLengths (data_of list)
two_short list first second is = subst (λ l. HaveShortLengths (data_of l)) (sym is) (tt, (tt, tt))

-- one table more
pub tables_more : (old new : List Declaration) (table : Declaration) → HaveTheirWeights old × AreOfNumbers old
    → new ≡ old ++ table ∷ [] → HasItsWeights table → table.element ≡ Shape.int → table.indexes ≡ Shape.int ∷ []
    → HaveTheirWeights new × AreOfNumbers new
tables_more old new table are more weights element indexes = (
  subst HaveTheirWeights (sym more) (All-push HasItsWeights old table are.0 weights),
  subst AreOfNumbers (sym more)
      (All-push (λ (table : Declaration). (table.element ≡ Shape.int) × (table.indexes ≡ Shape.int ∷ [])) old table
      are.1 (element, indexes)),
)

pub no_tables : HaveTheirWeights [] × AreOfNumbers []
no_tables = (
  All-nil HasItsWeights,
  All-nil (λ (table : Declaration). (table.element ≡ Shape.int) × (table.indexes ≡ Shape.int ∷ [])),
)

-- a whole number fits a table of whole numbers, if it has a weight where the table has weights
pub number_fits : (table : Declaration) (n : ℤ) (w : Option ℤ) → table.element ≡ Shape.int
    → is_some w ≡ is_some table.weight → Fits table (weighted (int n) w)
number_fits table n w element weight = record { element = (λ i. has_type (int n) (element i)); weight = weight }

-- what fits a table fits the same table
pub fit_still : (now table : Declaration) (b : Bool) (n w : ℤ) (weight : Option ℤ)
    → ((n w : ℤ) → Fits table (weighted (int n) (cond b (Some w) None))) → now ≡ table → weight ≡ cond b (Some w) None
    → Fits now (weighted (int n) weight)
fit_still now table b n w weight fit same is =
    subst (λ d. Fits d (weighted (int n) weight)) (sym same)
    (subst (λ o. Fits table (weighted (int n) o)) (sym is) (fit n w))

-- what is one of two, under another name
pub one_of_two : {A : Type 0} (now kind first second : A) → now ≡ kind → (kind ≡ first) ⊎ (kind ≡ second)
    → (now ≡ first) ⊎ (now ≡ second)
one_of_two now kind first second is which = subst (λ k. (k ≡ first) ⊎ (k ≡ second)) (sym is) which

-- a table of whole numbers under two whole numbers, alone
abbrev pub AreUnderTwo : List Declaration → Type 0
AreUnderTwo tables =
    All (λ (table : Declaration). (table.element ≡ Shape.int) × (table.indexes ≡ Shape.int ∷ Shape.int ∷ [])) tables

pub one_table : (old new : List Declaration) (table : Declaration) → old ≡ [] → new ≡ old ++ table ∷ []
    → HasItsWeights table → table.element ≡ Shape.int
    → table.indexes ≡ Shape.int ∷ Shape.int ∷ [] → HaveTheirWeights new × AreUnderTwo new
one_table old new table none more weights element indexes =
    let is : new ≡ table ∷ [] = more ∙ (λ i. none i ++ table ∷ []) in (
      subst HaveTheirWeights (sym is) (All-push HasItsWeights [] table (All-nil HasItsWeights) weights),
      subst AreUnderTwo (sym is)
          (All-push (λ (table : Declaration). (table.element ≡ Shape.int)
          × (table.indexes ≡ Shape.int ∷ Shape.int ∷ [])) [] table (All-nil (λ (table : Declaration).
          (table.element ≡ Shape.int) × (table.indexes ≡ Shape.int ∷ Shape.int ∷ []))) (element, indexes)),
    )
