-- The values are spelled where there was nothing.
use Rattle.std.proofs.Common.{length, map}
use Rattle.sz_value.specs.Seen.{seen}
use Rattle.sz_flat.proofs.ListLemmas.{all_spelled}
use Rattle.sz_flat.proofs.WritingLemmas.{short_parts}
use Rattle.sz_flat.proofs.writing.spell_anew.Goals as goal

pub spell_parts-requires : goal.spell_parts-requires
spell_parts-requires c = record {
  short = short_parts c.as_slice.result.now c.args.values.now c.as_slice.ensures.value c.requires.short;
}

pub returns-in-Ok-clause-ok : goal.returns-in-Ok-clause-ok
returns-in-Ok-clause-ok c =
    let parts = c.as_slice.result.now in
    all_spelled (length parts) c.clear.new.self.items c.spell_parts.new.out.items (map seen parts)
    c.args.values.now c.clear.ensures.items c.as_slice.ensures.value c.in-Ok.ensures.value
