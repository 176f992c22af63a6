-- The number that is read is the one that is spelled.
use Rattle.std.proofs.Common.{◌∙◌, sym, ap}
use Rattle.std.proofs.lemmas.Int.{to_z-of_z}
use Rattle.std.specs.Int.{w64}
use Rattle.sz_flat.specs.Rank.{near_number}
use Rattle.sz_flat.proofs.SpellingLemmas.{same_number}
use Rattle.sz_flat.proofs.rank.rank_number.Goals as goal

pub returns-clause-value : goal.returns-clause-value
returns-clause-value c = λ one rest h.
    let read = c.in-Ok.ensures.value in
    c.near.ensures.value ∙ ap near_number (to_z-of_z w64 c.in-Ok.number read.has)
    ∙ ap near_number (same_number c.in-Ok.number one c.in-Ok.field-0-1.now rest read.has h.has (sym read.is ∙ h.is)).0
