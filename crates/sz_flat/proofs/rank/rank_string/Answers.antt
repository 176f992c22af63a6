-- The bytes that are read are those that are spelled.
use Rattle.std.proofs.Common.{◌∙◌, ◌/◌, sym, ap, subst}
use Rattle.sz_flat.specs.Rank.{AreBytes, near_string}
use Rattle.sz_flat.proofs.SpellingLemmas.{same_string}
use Rattle.sz_flat.proofs.rank.rank_string.Goals as goal

pub returns-clause-value : goal.returns-clause-value
returns-clause-value c = λ one rest h.
    let read = c.in-Ok.ensures.value in
    let same = (same_string c.in-Ok.string.now one c.in-Ok.field-0-1.now rest read.has h.has (sym read.is ∙ h.is)).0 in
    (subst AreBytes same c.front_of.ensures.bytes, ap (λ n. n / 16) c.front_of.ensures.value ∙ ap near_string same)
