use Rattle.std.proofs.Common.{rules, ◌/◌, length, arith, length-take}
use Rattle.sz_disk.specs.Stretches.{Notes}
use Rattle.sz_disk.proofs.NotedLemmas.{still_left}
use Rattle.sz_disk.proofs.mem_disk.MemDisk.write.Goals as goal

-- the first half was written, of a write that was noted
pub invariant_of-self : goal.invariant_of-self
invariant_of-self c =
    let noted : Notes c.args.self.now.kept c.note-noted.new.self c.args.self.now.bytes.items
    (record { at = c.args.at; count = length c.args.written.now }) =
    search rules in
    let half =
    c.overwrite.ensures.torn _ (omega (arith, length-take (length c.args.written.now / 2) c.args.written.now)) in
    record { read_may_stay = still_left _ _ _ _ _ noted half c.args.self.now.read_may_stay }

-- all was written
pub invariant_of-self-2 : goal.invariant_of-self-2
invariant_of-self-2 c =
    let noted : Notes c.args.self.now.kept c.note-noted.new.self c.args.self.now.bytes.items
    (record { at = c.args.at; count = length c.args.written.now }) =
    search rules in
    record {
      read_may_stay =
          still_left _ _ _ _ _ noted (c.overwrite-2.ensures.torn _ (omega arith)) c.args.self.now.read_may_stay;
    }
