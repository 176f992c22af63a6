-- The law is proved with the lemmas on rows.
use Rattle.sz_total.proofs.TypedLemmas.{shows_what_fits}
use Rattle.sz_total.proofs.laws.what_is_shown_fits.Goals as goal

pub returns : goal.returns
returns c = record { fits = shows_what_fits }
