-- The field at a place is seen at that place.
use Rattle.sz_types.proofs.SeenLemmas.{field_at}
use Rattle.sz_types.proofs.ty.Fields.get.Goals as goal

pub returns : goal.returns
returns c =
    let within = rw (← c.as_slice.ensures.value) at c.requires.within in
    let found =
    field_at c.as_slice.result.now c.args.index c.index-as_slice-index.result c.index-as_slice-index.is within in
    record { value = rw (← c.as_slice.ensures.value) found }
