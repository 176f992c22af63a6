use Rattle.std.proofs.Common.{ap, refl}
use Rattle.std.specs.Prelude.{Err}
use Rattle.szl.proofs.OpeningLemmas.{reads_past, reads_failed, reads_no_memory}
use Rattle.szl.proofs.opening.read_text.Goals as goal

-- the file is past the limit
pub returns-in-Err-TooLong-clause-text : goal.returns-in-Err-TooLong-clause-text
returns-in-Err-TooLong-clause-text g c =
    reads_past _ c.args.limit c.args.past _ (c.in-Err-TooLong.ensures.too_long (ap Err c.in-Err-TooLong.field-0-is)) c.requires.past

-- a read failed
pub returns-in-Err-Failed-clause-text : goal.returns-in-Err-Failed-clause-text
returns-in-Err-Failed-clause-text g c =
    reads_failed _ c.args.limit c.args.past _ (c.in-Err-Failed.ensures.failed (ap Err c.in-Err-Failed.field-0-is))

-- memory ran out
pub returns-in-Err-NoMemory-clause-text : goal.returns-in-Err-NoMemory-clause-text
returns-in-Err-NoMemory-clause-text g c = reads_no_memory _ c.args.limit c.args.past _

-- unless memory or a read failed, the file was opened
pub returns-in-Ok-clause-opened : goal.returns-in-Ok-clause-opened
returns-in-Ok-clause-opened g c read memory =
    let r = c.in-Ok.ensures.end in record { file = r.file; not_before = r.not_before; given_now = r.given_now }

pub returns-in-Err-TooLong-clause-opened : goal.returns-in-Err-TooLong-clause-opened
returns-in-Err-TooLong-clause-opened g c read memory = c.in-Err-TooLong.ensures.opened (ap Err c.in-Err-TooLong.field-0-is)

pub returns-in-Err-Failed-clause-opened : goal.returns-in-Err-Failed-clause-opened
returns-in-Err-Failed-clause-opened g c read memory = absurd (read refl)

pub returns-in-Err-NoMemory-clause-opened : goal.returns-in-Err-NoMemory-clause-opened
returns-in-Err-NoMemory-clause-opened g c read memory = absurd (memory refl)
