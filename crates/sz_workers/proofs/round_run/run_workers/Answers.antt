use denote.Param.Send.{sendable}
use Rattle.std.proofs.Crossing.{crosses}
use Rattle.std.proofs.Common.{rules, ◌≡◌, length}
use Rattle.sz_book.proofs.lane.Lane.TheSendSync as lane
use Rattle.sz_claims.proofs.ledger.Ledger.TheSendSync as ledger
use Rattle.sz_claims.proofs.ledger.Pass.TheSendSync as pass
use Rattle.sz_workers.proofs.round.Round.TheSendSync as round
use Rattle.sz_workers.proofs.ClosingLemmas.{all_back}
use Rattle.sz_workers.proofs.SendLemmas.{job_sync, part_send, part_sync}
use Rattle.sz_workers.proofs.round_run.run_workers.Goals as goal

pub map_vec-requires-send-J : goal.map_vec-requires-send-J
map_vec-requires-send-J g c κs within =
    let gate = c.requires.send.0 in let name = c.requires.send.1 in let named = c.requires.send.2 in
    search (sendable, crosses, job_sync, part_send, part_sync, round.the_sync, ledger.the_sync, pass.the_send) depth 30

pub map_vec-requires-send-X : goal.map_vec-requires-send-X
map_vec-requires-send-X g c κs within =
    let name = c.requires.send.1 in let named = c.requires.send.2 in
    search (sendable, crosses, part_send, lane.the_send, pass.the_send) depth 30

-- each worker came back
pub returns-clause-back : goal.returns-clause-back
returns-clause-back g c =
    let long : length c.in_ok-back.back.items ≡ length c.args.ready.items =
    (let n = c.in_ok-back.ensures.len in search rules) in
    λ ledger fresh. all_back ledger 1 c.args.ready.items c.in_ok-back.back.items long fresh
    (λ i d low. let one = (c.in_ok-back.ensures.each i d low).1 in (one.job, one.job_is, one.call.met))
