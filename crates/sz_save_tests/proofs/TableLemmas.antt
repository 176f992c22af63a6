-- The tables of the tests can be saved, and numbers fit them.
use Rattle.std.proofs.Common.{◌≡◌, ℤ, true, List, [], ◌∷◌, refl, sym, subst, arith, codes}
use Rattle.std.proofs.lemmas.List.Elements.{All-cons, All-nil}
use Rattle.sz_types.specs.Tables.{Declaration}
use Rattle.sz_types.specs.declared.table.TableKind.{TableKind}
use Rattle.sz_types.specs.declared.table.TableKind.TheVariants.{Sum, Maximum, Minimum, Set, Collection}
use Rattle.sz_core.specs.WellFormed.{is_allowed}
use Rattle.sz_flat.specs.Spelling.{IsShort}
use Rattle.sz_tabs.specs.Data.{EmitDatum}
use Rattle.sz_tabs.specs.Fitting.{IsEmitTo}
use Rattle.sz_total.specs.Short.{HasShortParts}
use Rattle.sz_total.specs.Weights.{HasItsWeights, HaveTheirWeights}
use Rattle.sz_save_format.specs.Declarations.{IsSavedWeight}
use Rattle.sz_save_format.specs.Decoding.{is_name}
use Rattle.sz_save_format.proofs.NameLemmas.{name_told}
use Rattle.sz_save.specs.Saving.{HaveSpelling}
use Rattle.sz_save_tests.specs.Tables.{limit_for, numbers_table, number_emit}

allowed : (kind : TableKind) → is_allowed (numbers_table kind) ≡ true
allowed Sum = refl
allowed Maximum = refl
allowed Minimum = refl
allowed Set = refl
allowed Collection = refl

limit_short : (kind : TableKind) → IsShort (limit_for kind)
limit_short Sum = omega arith
limit_short Maximum = omega arith
limit_short Minimum = omega arith
limit_short Set = omega arith
limit_short Collection = omega arith

weight_saved : (kind : TableKind) → IsSavedWeight (numbers_table kind).weight
weight_saved Sum = tt
weight_saved Maximum = record { has = tt; low = omega arith }
weight_saved Minimum = record { has = tt; low = omega arith }
weight_saved Set = tt
weight_saved Collection = tt

-- the table can be saved
pub table_spelled : (tables : List Declaration) (kind : TableKind) → tables ≡ numbers_table kind ∷ []
    → HaveSpelling tables
unfolding is_name
table_spelled tables kind is = subst HaveSpelling (sym is) (record {
  few = omega arith;
  each = (
    record {
      name = record { short = omega arith; is = name_told (codes "t") refl };
      limit = limit_short kind;
      few = omega arith;
      indexes = (record { has = tt; low = omega arith }, tt);
      element = record { has = tt; low = omega arith };
      weight = weight_saved kind;
      allowed = allowed kind;
    },
    tt,
  );
})

has_weights : (kind : TableKind) → HasItsWeights (numbers_table kind)
has_weights Sum ranked = ranked
has_weights Maximum ranked = refl
has_weights Minimum ranked = refl
has_weights Set ranked = ranked
has_weights Collection ranked = ranked

pub table_weighted : (tables : List Declaration) (kind : TableKind) → tables ≡ numbers_table kind ∷ []
    → HaveTheirWeights tables
table_weighted tables kind is =
    subst HaveTheirWeights (sym is)
    (All-cons HasItsWeights (numbers_table kind) [] (has_weights kind) (All-nil HasItsWeights))

-- the emit goes to the table
goes : (kind : TableKind) (index number weight : ℤ)
    → IsEmitTo (numbers_table kind ∷ []) (number_emit kind index number weight)
goes Sum index number weight = record {
  table = numbers_table Sum;
  declared = refl;
  indexes = refl;
  fits = record { element = refl; weight = refl };
}
goes Maximum index number weight = record {
  table = numbers_table Maximum;
  declared = refl;
  indexes = refl;
  fits = record { element = refl; weight = refl };
}
goes Minimum index number weight = record {
  table = numbers_table Minimum;
  declared = refl;
  indexes = refl;
  fits = record { element = refl; weight = refl };
}
goes Set index number weight = record {
  table = numbers_table Set;
  declared = refl;
  indexes = refl;
  fits = record { element = refl; weight = refl };
}
goes Collection index number weight =
    record {
      table = numbers_table Collection;
      declared = refl;
      indexes = refl;
      fits = record { element = refl; weight = refl };
    }

pub emit_goes : (tables : List Declaration) (kind : TableKind) (emit : EmitDatum) (index number weight : ℤ)
    → tables ≡ numbers_table kind ∷ [] → emit ≡ number_emit kind index number weight → IsEmitTo tables emit
emit_goes tables kind emit index number weight is also =
    subst (λ ds. IsEmitTo ds emit) (sym is)
    (subst (IsEmitTo (numbers_table kind ∷ [])) (sym also) (goes kind index number weight))

pub emit_short : (kind : TableKind) (emit : EmitDatum) (index number weight : ℤ)
    → emit ≡ number_emit kind index number weight → HasShortParts emit
emit_short kind emit index number weight is = subst HasShortParts (sym is) (record { indexes = (tt, tt); value = tt })
