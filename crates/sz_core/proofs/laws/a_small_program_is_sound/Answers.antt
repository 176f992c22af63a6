-- Each item of the example is sound.
use Rattle.sz_core.proofs.ExampleLemmas.{small_is_sound}
use Rattle.sz_core.proofs.laws.a_small_program_is_sound.Goals as goal

pub returns : goal.returns
returns c = record { value = small_is_sound }
