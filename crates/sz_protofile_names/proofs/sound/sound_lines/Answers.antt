use Rattle.std.proofs.Common.{◌≡◌, sym, ap, ◌∙◌}
use Rattle.sz_protofile.specs.Names.{spelled}
use Rattle.sz_protofile.specs.Faults.{file_fault}
use Rattle.sz_protofile.specs.Types.{IsFaulty, wrong}
use Rattle.sz_protofile_names.specs.Outcome.{file_refusal}
use Rattle.sz_protofile_names.proofs.SoundLemmas.{some_is, no_some, or_fault, faulty, only_faulty, same_fault, sound_none}
use Rattle.sz_protofile_names.proofs.sound.sound_lines.Goals as goal

-- ---- something is wrong

pub returns-in-Some-clause-only_found : goal.returns-in-Some-clause-only_found
returns-in-Some-clause-only_found c = λ all s.
    absurd (no_some (sym c.in-Some.is ∙ sound_none c.args.bytes.now c.in-Ok.all.items _
    (c.in_ok-fault-in-Ok.ensures.value ∙ ap (file_fault (spelled c.args.bytes.now)) c.as_slice.ensures.value)
    c.in-Ok.ensures.only_found c.in-Ok.ensures.only_refused all s))

pub returns-in-Some-clause-refused : goal.returns-in-Some-clause-refused
returns-in-Some-clause-refused c =
    rw c.from.ensures (or_fault (IsFaulty c.args.bytes.now) c.in-Some.fault
    (wrong c.in-Ok.all.items c.in-Some.fault c.in-Ok.ensures.found
    (ap (file_fault (spelled c.args.bytes.now)) (sym c.as_slice.ensures.value) ∙ sym c.in_ok-fault-in-Ok.ensures.value
    ∙ c.in-Some.is)))

pub returns-in-Some-clause-only_refused : goal.returns-in-Some-clause-only_refused
returns-in-Some-clause-only_refused c = λ f h.
    rw c.from.ensures (or_fault (λ g. g ≡ f) c.in-Some.fault
    (some_is (sym c.in-Some.is ∙ same_fault c.args.bytes.now c.in-Ok.all.items _
    (c.in_ok-fault-in-Ok.ensures.value ∙ ap (file_fault (spelled c.args.bytes.now)) c.as_slice.ensures.value)
    c.in-Ok.ensures.only_found c.in-Ok.ensures.only_refused f h)))

-- ---- nothing is wrong

pub returns-in-None-clause-only_found : goal.returns-in-None-clause-only_found
returns-in-None-clause-only_found c = λ all s. c.in-Ok.ensures.only_found all s.lines

pub returns-in-None-clause-only_refused : goal.returns-in-None-clause-only_refused
returns-in-None-clause-only_refused c = λ f h.
    no_some (sym (same_fault c.args.bytes.now c.in-Ok.all.items _
    (c.in_ok-fault-in-Ok.ensures.value ∙ ap (file_fault (spelled c.args.bytes.now)) c.as_slice.ensures.value)
    c.in-Ok.ensures.only_found c.in-Ok.ensures.only_refused f h) ∙ c.in-None.is)

-- ---- there are no lines

pub returns-in-Err-clause-only_found : goal.returns-in-Err-clause-only_found
returns-in-Err-clause-only_found c = λ all s. c.refused.ensures.value
    ∙ ap file_refusal (c.in-Err.ensures.only_found all s.lines)

pub returns-in-Err-clause-refused : goal.returns-in-Err-clause-refused
returns-in-Err-clause-refused c =
    rw c.refused.ensures.value (faulty c.args.bytes.now c.in-Err.error c.in-Err.ensures.refused)

pub returns-in-Err-clause-only_refused : goal.returns-in-Err-clause-only_refused
returns-in-Err-clause-only_refused c = λ f h.
    rw c.refused.ensures.value
    (only_faulty c.args.bytes.now c.in-Err.error c.in-Err.ensures.only_found c.in-Err.ensures.only_refused f h)
