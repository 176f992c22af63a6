-- What has a spelling has short lengths.
use Rattle.std.proofs.Common.{List, ℕ}
use Rattle.sz_value.specs.Data.{Datum, truth, int, time, str, bytes, array, tuple, mapping, Data, no_data, datum, Entries, no_entries, entry}
use Rattle.sz_flat.specs.Spelling.{HasShortLengths, HaveShortLengths, PairsHaveShortLengths, HasSpelling, HaveSpellings, PairsHaveSpellings, Spells}

mutual
  short : (d : Datum) → HasSpelling d → HasShortLengths d
  short (truth b) h = tt
  short (int n) h = tt
  short (time n) h = tt
  short (str s) h = h.0
  short (bytes s) h = h
  short (array ds) h = (h.0, short_parts ds h.1)
  short (tuple ds) h = (h.0, short_parts ds h.1)
  short (mapping es) h = (h.0, short_pairs es h.2)

  short_parts : (ds : Data) → HaveSpellings ds → HaveShortLengths ds
  short_parts no_data h = tt
  short_parts (datum d ds) h = (short d h.0, short_parts ds h.1)

  short_pairs : (es : Entries) → PairsHaveSpellings es → PairsHaveShortLengths es
  short_pairs no_entries h = tt
  short_pairs (entry k v es) h = (short k h.0, short v h.1, short_pairs es h.2)

pub short_spelling : (flat : List ℕ) (d : Datum) → Spells flat d → HasShortLengths d
short_spelling flat d h = short d h.spelled
