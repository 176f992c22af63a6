-- There is nothing in it that could break a rule.
use Rattle.sz_core.proofs.LawLemmas.{empty_is_sound}
use Rattle.sz_core.proofs.laws.the_empty_program_is_sound.Goals as goal

pub returns : goal.returns
returns c = record { value = empty_is_sound }
