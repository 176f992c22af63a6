-- The bytes are the spellings of the values.
use Rattle.std.proofs.Common.{◌∙◌, ap}
use Rattle.sz_value.specs.Data.{data_of}
use Rattle.sz_flat.specs.Spelling.{spelled_parts}
use Rattle.sz_flat.proofs.ListLemmas.{bytes_are}
use Rattle.sz_flat.proofs.flat_list.FlatListHash.hash.Goals as goal

pub returns : goal.returns
returns g c =
    c.write.ensures
    ∙ ap (g.H.Hasher.write c.args.state.now)
    (c.as_slice.ensures.value ∙ bytes_are c.self.inside.bytes c.self.inside.spelled
    ∙ ap (λ values. spelled_parts (data_of values)) c.self.view_is)
