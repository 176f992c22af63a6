-- Each item of the front adds what it declares.
use Rattle.sz_core.proofs.LawLemmas.{sound_after_front}
use Rattle.sz_core.proofs.laws.items_are_sound_after_their_front.Goals as goal

pub returns : goal.returns
returns c = record { value = sound_after_front }
