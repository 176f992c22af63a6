-- What weighs no more than a budget has short lengths.
use Rattle.std.proofs.Common.{ℕ, ◌≤◌, ◌^◌, List, [], ◌∷◌, length, All, sym, subst, inl, inr, arith}
use Rattle.std.proofs.lemmas.List.Elements.{All-weaker}
use Rattle.sz_value.specs.Data.{Datum, truth, int, time, str, bytes, array, tuple, mapping, Data, no_data, datum, data_of, parts_of, Entries, no_entries, entry, pairs_of}
use Rattle.sz_value.specs.Weight.{full_weight, data_weight, entries_weight, weight_of}
use Rattle.sz_flat.specs.Spelling.{HasShortLengths, HaveShortLengths, PairsHaveShortLengths}
use Rattle.sz_tabs.specs.Data.{EmitDatum}
use Rattle.sz_world_rules.specs.Ticks.{weight_of_all}
use Rattle.sz_total.specs.Short.{HasShortParts}
use Rattle.sz_attempt.proofs.PaidLemmas.{IsPaid}

some_weight : (d : Datum) → 1 ≤ full_weight d
some_weight (truth b) = omega arith
some_weight (int n) = omega arith
some_weight (time n) = omega arith
some_weight (str s) = omega arith
some_weight (bytes s) = omega arith
some_weight (array ds) = omega arith
some_weight (tuple ds) = omega arith
some_weight (mapping es) = omega arith

parts_weigh : (ds : Data) → length (parts_of ds) ≤ data_weight ds
parts_weigh no_data = omega arith
parts_weigh (datum d ds) = omega (arith, some_weight d, parts_weigh ds)

pairs_weigh : (es : Entries) → length (pairs_of es) ≤ entries_weight es
pairs_weigh no_entries = omega arith
pairs_weigh (entry k v es) = omega (arith, some_weight k, pairs_weigh es)

mutual
  short : (d : Datum) → full_weight d ≤ 2 ^ 32 → HasShortLengths d
  short (truth b) h = tt
  short (int n) h = tt
  short (time n) h = tt
  short (str s) h = omega (arith, h)
  short (bytes s) h = omega (arith, h)
  short (array ds) h = (omega (arith, h, parts_weigh ds), all_short ds (omega (arith, h)))
  short (tuple ds) h = (omega (arith, h, parts_weigh ds), all_short ds (omega (arith, h)))
  short (mapping es) h = (omega (arith, h, pairs_weigh es), pairs_short es (omega (arith, h)))

  all_short : (ds : Data) → data_weight ds ≤ 2 ^ 32 → HaveShortLengths ds
  all_short no_data h = tt
  all_short (datum d ds) h = (short d (omega (arith, h)), all_short ds (omega (arith, h)))

  pairs_short : (es : Entries) → entries_weight es ≤ 2 ^ 32 → PairsHaveShortLengths es
  pairs_short no_entries h = tt
  pairs_short (entry k v es) h =
      (short k (omega (arith, h)), short v (omega (arith, h)), pairs_short es (omega (arith, h)))

value_short : (d : Datum) → weight_of d ≤ 2 ^ 32 → HasShortLengths d
value_short d h = short d (omega (arith, h))

list_short : (ds : List Datum) → weight_of_all ds ≤ 2 ^ 32 → HaveShortLengths (data_of ds)
list_short [] h = tt
list_short (d ∷ ds) h = (value_short d (omega (arith, h)), list_short ds (omega (arith, h)))

-- emits whose ticks were within a budget have short lengths, and so has the count of a line
pub emits_short : (budget : ℕ) → budget ≤ 2 ^ 32 → (emits : List EmitDatum) → All (IsPaid budget) emits
    → All HasShortParts emits
emits_short budget most emits = All-weaker (IsPaid budget) HasShortParts parts_short emits
  where
    parts_short : (e : EmitDatum) → IsPaid budget e → HasShortParts e
    parts_short e (inl paid) =
        record {
          indexes = list_short e.indexes (omega (arith, paid, most));
          value = value_short e.value (omega (arith, paid, most));
        }
    parts_short e (inr counts) = subst HasShortParts (sym counts.2) (record { indexes = (tt, tt); value = tt })
