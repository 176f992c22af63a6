use Rattle.sz_protofile_names.proofs.WordLemmas.{stripped}
use Rattle.sz_protofile_names.proofs.words.behind.Goals as goal

pub returns : goal.returns
returns c = record {
  value = stripped c.args.front.now c.args.word.now c.strip_prefix.result c.strip_prefix.ensures.cases;
}
