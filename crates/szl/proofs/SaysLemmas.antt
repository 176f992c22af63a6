-- An answer that says what another one does.
use Rattle.std.proofs.Common.{◌≡◌, refl, subst}
use Rattle.szl.specs.Answers.{Answer, Says}

-- one that is the other says the same
pub says : {answer told : Answer} → answer ≡ told → Says answer told
says {answer} {told} is = subst (λ t. answer ≡ record t { opens = answer.opens }) is refl
