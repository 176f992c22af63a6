-- The length behind an open gate, and the bytes behind that.
use Rattle.std.proofs.Common.{◌≡◌, ◌+◌, ◌-◌, ◌<◌, IfSome, List, [], ◌∷◌, ℕ, length, take, drop, subst, arith}
use Rattle.sz_disk.specs.Entries.{count_bytes}
use Rattle.sz_disk.specs.GateCalls.{Begins, HasEntry, IsCut}
use Rattle.sz_disk.proofs.LeaveLemmas.{nothing_both}
use Rattle.sz_disk.proofs.ReadLemmas.{some_if, some_both, some_three, cut_short, cut_long, ends, has_entry}
use Rattle.sz_disk.proofs.reading.read_entry.Goals as goal

pub returns-then-behind-lt-LENGTH_BYTES-clause-value : goal.returns-then-behind-lt-LENGTH_BYTES-clause-value
returns-then-behind-lt-LENGTH_BYTES-clause-value g c =
    some_if (g.K.Disk.bytes c.args.disk.now) (λ (h : List ℕ). c.args.count ≡ length h)
    (λ (h : List ℕ). IsCut (1 ∷ drop (c.args.gate + 1) h)) (λ h all.
    cut_short h c.args.count c.args.gate all c.requires.here c.if-behind-lt-LENGTH_BYTES.true) c.requires.all

pub returns-then-length-room-clause-value : goal.returns-then-length-room-clause-value
returns-then-length-room-clause-value g c =
    let n = c.in_ok-length.length in
    some_both (g.K.Disk.bytes c.args.disk.now) (λ (h : List ℕ). c.args.count ≡ length h)
    (λ (h : List ℕ). count_bytes n ≡ take 8 (drop (c.args.gate + 1) h))
    (λ (h : List ℕ). IsCut (1 ∷ drop (c.args.gate + 1) h)) (λ h all counts. cut_long h c.args.count c.args.gate all
    c.requires.here n c.in_ok-length.ensures.small counts c.if-length-room.true)
    c.requires.all c.in_ok-length.ensures.value

pub returns-in_err-entry-clause-kept : goal.returns-in_err-entry-clause-kept
returns-in_err-entry-clause-kept g c =
    nothing_both g.K.Disk.bytes g.K.Disk.may_leave g.K.Disk.time g.K.Disk.left_since g.K.Disk.faults c.args.disk.now
    c.read_length.new.disk c.read_bytes.new.disk c.read_length.ensures.kept c.read_bytes.ensures.kept

pub returns-then-length-room-2-clause-value : goal.returns-then-length-room-2-clause-value
returns-then-length-room-2-clause-value g c =
    let n = c.in_ok-length.length in
    let entry = c.in_ok-entry.entry.items in
    let read = subst (λ b. IfSome b (λ (h : List ℕ). entry ≡ take n (drop (c.args.gate + 1 + 8) h)))
    c.read_length.ensures.kept.same c.in_ok-entry.ensures.value in
    some_three (g.K.Disk.bytes c.args.disk.now) (λ (h : List ℕ). c.args.count ≡ length h)
    (λ (h : List ℕ). count_bytes n ≡ take 8 (drop (c.args.gate + 1) h))
    (λ (h : List ℕ). entry ≡ take n (drop (c.args.gate + 1 + 8) h))
    (λ (h : List ℕ). Begins entry [] (1 ∷ drop (c.args.gate + 1) h))
    (λ h all counts is. ends h c.args.count c.args.gate all c.requires.here n c.in_ok-length.ensures.small counts
    entry is c.if-length-room.false c.if-behind-lt-LENGTH_BYTES.false c.if-length-room-2.true)
    c.requires.all c.in_ok-length.ensures.value read

pub returns-then-length-room-2-clause-kept : goal.returns-then-length-room-2-clause-kept
returns-then-length-room-2-clause-kept g c =
    nothing_both g.K.Disk.bytes g.K.Disk.may_leave g.K.Disk.time g.K.Disk.left_since g.K.Disk.faults c.args.disk.now
    c.read_length.new.disk c.read_bytes.new.disk c.read_length.ensures.kept c.read_bytes.ensures.kept

pub returns-clause-value : goal.returns-clause-value
returns-clause-value g c =
    let n = c.in_ok-length.length in
    let entry = c.in_ok-entry.entry.items in
    let read = subst (λ b. IfSome b (λ (h : List ℕ). entry ≡ take n (drop (c.args.gate + 1 + 8) h)))
    c.read_length.ensures.kept.same c.in_ok-entry.ensures.value in
    let less : n < c.args.count - c.args.gate - 1 - 8 =
    omega (arith, c.if-length-room.false, c.if-length-room-2.false) in
    some_three (g.K.Disk.bytes c.args.disk.now) (λ (h : List ℕ). c.args.count ≡ length h)
    (λ (h : List ℕ). count_bytes n ≡ take 8 (drop (c.args.gate + 1) h))
    (λ (h : List ℕ). entry ≡ take n (drop (c.args.gate + 1 + 8) h))
    (λ (h : List ℕ). HasEntry entry (1 ∷ drop (c.args.gate + 1) h))
    (λ h all counts is. has_entry h c.args.count c.args.gate all c.requires.here n c.in_ok-length.ensures.small counts
    entry is c.if-length-room.false c.if-behind-lt-LENGTH_BYTES.false less)
    c.requires.all c.in_ok-length.ensures.value read

pub returns-clause-kept : goal.returns-clause-kept
returns-clause-kept g c =
    nothing_both g.K.Disk.bytes g.K.Disk.may_leave g.K.Disk.time g.K.Disk.left_since g.K.Disk.faults c.args.disk.now
    c.read_length.new.disk c.read_bytes.new.disk c.read_length.ensures.kept c.read_bytes.ensures.kept
