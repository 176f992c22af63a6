-- What the threads of a round share and give back may cross threads: jobs are read by all, and tables are handed over.
-- Each type is proved from its parts, since a search through all of them stops at its limits.
use denote.Ref.{NamedLft}
use denote.RattleType.{RattleType}
use denote.Param.Send.{IsSend, IsSync, sendable, view_sync}
use denote.Param.SendFields.{declared_send, declared_sync}
use Rattle.std.proofs.Crossing.{crosses}
use Rattle.sz_list.proofs.items.Items.TheSendSync as items
use Rattle.sz_list.proofs.seen.SeenItems.TheSendSync as seen
use Rattle.sz_types.proofs.table.TableKind.TheSendSync as kind
use Rattle.sz_types.proofs.encoding.Encoding.TheSendSync as encoding
use Rattle.sz_types.proofs.operator.BinOp.TheSendSync as bin_op
use Rattle.sz_types.proofs.operator.Builtin.TheSendSync as builtin
use Rattle.sz_types.proofs.operator.UnOp.TheSendSync as un_op
use Rattle.sz_types.proofs.place.Place.TheSendSync as place
use Rattle.sz_types.proofs.text.Text.TheSendSync as text
use Rattle.sz_types.proofs.ty.Ty.TheLaws.TheKnot as ty
use Rattle.sz_value.proofs.form.Form.TheSendSync as form
use Rattle.sz_value.proofs.marked.MarkedText.TheSendSync as marked
use Rattle.sz_value.proofs.text.Text.TheSendSync as value_text
use Rattle.sz_value.proofs.value.List.TheLaws.TheKnot as value
use Rattle.sz_instr.proofs.instr.Instr.TheSendSync as instr
use Rattle.sz_instr.proofs.line.Line.TheSendSync as line
use Rattle.sz_instr.proofs.routine.Routine.TheSendSync as routine
use Rattle.sz_instr.proofs.step.Step.TheSendSync as step
use Rattle.sz_words.proofs.settings.Kill.TheSendSync as kill
use Rattle.sz_attempt.proofs.ends.Skipped.TheSendSync as skipped
use Rattle.sz_value.specs.contracts.slots.Slots as Slots
use Rattle.sz_instr.specs.contracts.code.Code as Code
use Rattle.sz_gen_stmt.specs.contracts.compiled.Compiled as Compiled
use Rattle.sz_attempt.specs.contracts.job.Job as Job
use Rattle.sz_total.proofs.SendLemmas.{table_sync, total_send, total_sync}
use Rattle.sz_workers.specs.contracts.first_faults.FirstFaults as FirstFaults
use Rattle.sz_workers.specs.contracts.part.RoundPart as RoundPart

ruleset parts = (
  sendable,
  crosses,
  items.the_send,
  items.the_sync,
  seen.the_send,
  seen.the_sync,
  kind.the_sync,
  encoding.the_send,
  encoding.the_sync,
  bin_op.the_sync,
  builtin.the_sync,
  un_op.the_sync,
  place.the_sync,
  text.the_send,
  text.the_sync,
  form.the_send,
  form.the_sync,
  marked.the_send,
  marked.the_sync,
  value_text.the_send,
  value_text.the_sync,
  ty.crosses_both,
  value.crosses,
  instr.the_sync,
  line.the_sync,
  routine.the_sync,
  step.the_sync,
  kill.the_sync,
)

code_sync : IsSync Code.the_row
code_sync =
    declared_sync Code.the_type (
      search parts depth 30,
      (
        search parts depth 30,
        (
          search parts depth 30,
          (
            search parts depth 30,
            (
              search parts depth 30,
              (
                search parts depth 30,
                (
                  search (parts, table_sync) depth 30,
                  (search parts depth 30, tt),
                ),
              ),
            ),
          ),
        ),
      ),
    )

compiled_sync : IsSync Compiled.the_row
compiled_sync =
    view_sync _ _ _ _ _ (declared_sync Compiled.TheInside.the_type (
      code_sync,
      (search parts depth 30, (search parts depth 30, tt)),
    ))

slots_sync : IsSync Slots.the_row
slots_sync = search parts depth 30

pub job_sync : IsSync Job.the_row
job_sync =
    declared_sync Job.the_type (
      compiled_sync,
      (
        slots_sync,
        (
          search parts depth 30,
          (
            search parts depth 30,
            (
              search parts depth 30,
              (
                search parts depth 30,
                (search parts depth 30, tt),
              ),
            ),
          ),
        ),
      ),
    )

first_faults_send : IsSend FirstFaults.the_row
first_faults_send =
    declared_send FirstFaults.the_type (
      search parts depth 30,
      (search (parts, skipped.the_send) depth 30, (search parts depth 30, tt)),
    )

first_faults_sync : IsSync FirstFaults.the_row
first_faults_sync =
    declared_sync FirstFaults.the_type (
      search parts depth 30,
      (search (parts, skipped.the_sync) depth 30, (search parts depth 30, tt)),
    )

module _ (κ : NamedLft) where
  pub part_send : (N : RattleType) → IsSend N → IsSend (RoundPart.the_row κ N)
  part_send N name =
      declared_send (RoundPart.the_type κ N) (total_send κ, (first_faults_send, (search parts depth 30, tt)))

  pub part_sync : (N : RattleType) → IsSync N → IsSync (RoundPart.the_row κ N)
  part_sync N name =
      declared_sync (RoundPart.the_type κ N) (total_sync κ, (first_faults_sync, (search parts depth 30, tt)))
