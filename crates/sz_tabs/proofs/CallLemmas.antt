-- What is known of a call that can't fail.
use Rattle.std.proofs.Common.{Result, Ok, Err, IsOk, OnOk, true≢false, sym}

-- what holds where a call can't fail
pub surely : {T E P : Type 0} (r : Result T E) → IsOk r → OnOk r P → P
surely (Ok x) sure p = p
surely (Err e) sure p = absurd (true≢false (sym sure))
