-- Without a name nothing is asked for.
use Rattle.sz_words.proofs.MatchLemmas.{unnamed}
use Rattle.sz_words.proofs.reading.command_settings.Goals as goal

pub returns-in_default-clause-usage : goal.returns-in_default-clause-usage
returns-in_default-clause-usage c is = unnamed c.args.matches.now _ c.get_raw.ensures c.in_default.is c.args.command.now
