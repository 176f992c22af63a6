use Rattle.szl.proofs.JudgementLemmas.{every_text_is_read, one_reading}
use Rattle.szl.proofs.laws.readings_are_unique.Goals as goal

pub returns : goal.returns
returns c = record { some = every_text_is_read; one = one_reading }
