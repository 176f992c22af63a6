-- The file at the place is as before, after one call more.
use Rattle.std.proofs.Common.{refl, arith, get_or}
use Rattle.std.proofs.lemmas.Option.{slice_get-get_or}
use Rattle.sz_io.proofs.NamedLemmas.{counted}
use Rattle.sz_io.proofs.named_file.count_call.Goals as goal

pub returns : goal.returns
returns c =
    let file = get_or c.args.files.now c.args.file c.index-files-file.result in
    let there = slice_get-get_or c.args.files.now c.args.file c.index-files-file.result c.requires in
    counted c.args.files.now c.args.file file _ there (omega arith) (record {
      name = refl;
      bytes = refl;
      fails = refl;
      calls = c.saturating_add-called.ensures;
    })
