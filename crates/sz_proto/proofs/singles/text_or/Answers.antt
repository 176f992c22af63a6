use Rattle.std.proofs.Common.{refl}
use Rattle.std.proofs.lemmas.Str.{is_utf8-from_IsUtf8}
use Rattle.sz_wire.specs.Field.{content_in}
use Rattle.sz_proto.proofs.ElementLemmas.{not_utf8}
use Rattle.sz_proto.proofs.SingleLemmas.{text_more, text_same, text_none}
use Rattle.sz_proto.proofs.singles.text_or.Goals as goal

pub returns-in-Ok-clause-some : goal.returns-in-Ok-clause-some
returns-in-Ok-clause-some c =
    λ cs. text_more c.args.last.now (content_in c.args.bytes.now c.args.kind) cs c.in-Ok.text.now
    (rw (c.in-Span.is, c.in-Ok.ensures.0, is_utf8-from_IsUtf8 _ c.in-Ok.ensures.1) refl)

pub returns-in-Err-clause-none : goal.returns-in-Err-clause-none
returns-in-Err-clause-none c = λ cs. text_none c.args.last.now (content_in c.args.bytes.now c.args.kind) cs
    (rw (c.in-Span.is, not_utf8 _ c.in-Err.ensures) refl)

pub returns-in-Varint-clause-some : goal.returns-in-Varint-clause-some
returns-in-Varint-clause-some c =
    λ cs. text_same c.args.last.now (content_in c.args.bytes.now c.args.kind) cs (rw c.in-Varint.is refl)

pub returns-in-Eight-clause-some : goal.returns-in-Eight-clause-some
returns-in-Eight-clause-some c =
    λ cs. text_same c.args.last.now (content_in c.args.bytes.now c.args.kind) cs (rw c.in-Eight.is refl)

pub returns-in-Four-clause-some : goal.returns-in-Four-clause-some
returns-in-Four-clause-some c =
    λ cs. text_same c.args.last.now (content_in c.args.bytes.now c.args.kind) cs (rw c.in-Four.is refl)

pub returns-in-Group-clause-some : goal.returns-in-Group-clause-some
returns-in-Group-clause-some c =
    λ cs. text_same c.args.last.now (content_in c.args.bytes.now c.args.kind) cs (rw c.in-Group.is refl)
