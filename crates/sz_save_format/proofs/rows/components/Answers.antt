-- As many sums as fields.
use Rattle.std.proofs.Common.{◌∙◌, map, sym, ap}
use Rattle.std.proofs.lemmas.List.{length-map}
use Rattle.sz_types.specs.Seen.{seen_field}
use Rattle.sz_save_format.specs.Entries.{components}
use Rattle.sz_save_format.proofs.TypeLemmas.{count_of}
use Rattle.sz_save_format.proofs.rows.components.Goals as goal

pub returns-in-Tuple : goal.returns-in-Tuple
returns-in-Tuple c =
    let fields = c.in-Tuple.fields.now in
    record {
      value = sym
          (ap components c.in-Tuple.ensures.value ∙ count_of (map seen_field fields) ∙ length-map fields seen_field);
    }

pub returns-in-Tuple-2 : goal.returns-in-Tuple-2
returns-in-Tuple-2 c =
    let fields = c.in-Tuple.fields.now in
    record {
      value = sym
          (ap components c.in-Tuple.ensures.value ∙ count_of (map seen_field fields) ∙ length-map fields seen_field);
    }
