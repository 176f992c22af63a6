-- What the matches ask for is what their parts ask for.
use Rattle.std.proofs.Common.{◌∙◌, map}
use Rattle.std.specs.Prelude.{string_bytes}
use Rattle.std.proofs.lemmas.Result.{IfErr-weaker, IfOk-weaker}
use Rattle.sz_words.proofs.MatchLemmas.{line_is}
use Rattle.sz_words.proofs.reading.plain_settings.Goals as goal

pub returns-clause-value : goal.returns-clause-value
returns-clause-value c =
    let is = line_is c.args.command.now (map string_bytes c.args.words.now)
    c.in_ok-matches.matches c.in_ok-matches.ensures.value in
    IfOk-weaker c.command_settings.result _ _ (λ s h. is ∙ h) c.command_settings.ensures.value

pub returns-clause-usage : goal.returns-clause-usage
returns-clause-usage c =
    let is = line_is c.args.command.now (map string_bytes c.args.words.now)
    c.in_ok-matches.matches c.in_ok-matches.ensures.value in
    IfErr-weaker c.command_settings.result _ _ (λ e h usage. is ∙ h usage) c.command_settings.ensures.usage
