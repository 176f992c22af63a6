-- Each row is done, or nothing is.
use Rattle.std.proofs.Common.{rules, ◌≡◌, false}
use Rattle.sz_instr.specs.declared.instr.Instr.TheVariants as instr
use Rattle.sz_machine_rows.specs.Acting.{weighs_and_acts}
use Rattle.sz_machine.proofs.QuickLemmas.{row_done, row_left}
use Rattle.sz_machine.proofs.quick.act_quickly.Goals as goal

pub returns-in-Push-clause-done : goal.returns-in-Push-clause-done
returns-in-Push-clause-done c =
    let is : c.args.instr.now ≡ instr.Push c.in-Push.n = search rules in
    let row = weighs_and_acts c.args.code.now (instr.Push c.in-Push.n) in
    rw c.on_if.ensures.value (rw is (row_done row c.args.state.now c.push_constant.new.state c.push_constant.result
    c.args.at c.args.input.now c.push_constant.ensures.value))

pub returns-in-Push-clause-left : goal.returns-in-Push-clause-left
returns-in-Push-clause-left c =
    let row = weighs_and_acts c.args.code.now (instr.Push c.in-Push.n) in
    rw c.on_if.ensures.value
    (row_left row c.args.state.now c.push_constant.new.state c.push_constant.result c.push_constant.ensures.value)

pub returns-in-Local-clause-done : goal.returns-in-Local-clause-done
returns-in-Local-clause-done c =
    let is : c.args.instr.now ≡ instr.Local c.in-Local.n = search rules in
    let row = weighs_and_acts c.args.code.now (instr.Local c.in-Local.n) in
    rw c.on_if-in-Local.ensures.value (rw is (row_done row c.args.state.now c.push_copy_of.new.state
    c.push_copy_of.result c.args.at c.args.input.now (c.push_copy_of.ensures.value c.args.code.now)))

pub returns-in-Local-clause-left : goal.returns-in-Local-clause-left
returns-in-Local-clause-left c =
    let row = weighs_and_acts c.args.code.now (instr.Local c.in-Local.n) in
    rw c.on_if-in-Local.ensures.value (row_left row c.args.state.now c.push_copy_of.new.state c.push_copy_of.result
    (c.push_copy_of.ensures.value c.args.code.now))

pub returns-in-Input-clause-done : goal.returns-in-Input-clause-done
returns-in-Input-clause-done c =
    let is : c.args.instr.now ≡ instr.Input = search rules in
    rw is (c.push_record.ensures.done c.args.code.now c.args.at)

pub returns-in-Binary-clause-done : goal.returns-in-Binary-clause-done
returns-in-Binary-clause-done c =
    let is : c.args.instr.now ≡ instr.Binary c.in-Binary.op = search rules in
    let row = weighs_and_acts c.args.code.now (instr.Binary c.in-Binary.op) in
    rw c.on_if-in-Binary.ensures.value (rw is (row_done row c.args.state.now c.binary_of_ints.new.state
    c.binary_of_ints.result c.args.at c.args.input.now (c.binary_of_ints.ensures.value c.args.code.now)))

pub returns-in-Binary-clause-left : goal.returns-in-Binary-clause-left
returns-in-Binary-clause-left c =
    let row = weighs_and_acts c.args.code.now (instr.Binary c.in-Binary.op) in
    rw c.on_if-in-Binary.ensures.value (row_left row c.args.state.now c.binary_of_ints.new.state
    c.binary_of_ints.result (c.binary_of_ints.ensures.value c.args.code.now))

pub returns-in-Keep-clause-done : goal.returns-in-Keep-clause-done
returns-in-Keep-clause-done c =
    let is : c.args.instr.now ≡ instr.Keep c.in-Keep.n = search rules in
    let row = weighs_and_acts c.args.code.now (instr.Keep c.in-Keep.n) in
    rw c.on_if-in-Keep.ensures.value (rw is (row_done row c.args.state.now c.keep_int.new.state c.keep_int.result
    c.args.at c.args.input.now (c.keep_int.ensures.value c.args.code.now)))

pub returns-in-Keep-clause-left : goal.returns-in-Keep-clause-left
returns-in-Keep-clause-left c =
    let row = weighs_and_acts c.args.code.now (instr.Keep c.in-Keep.n) in
    rw c.on_if-in-Keep.ensures.value
    (row_left row c.args.state.now c.keep_int.new.state c.keep_int.result (c.keep_int.ensures.value c.args.code.now))

pub returns-in-Store-clause-done : goal.returns-in-Store-clause-done
returns-in-Store-clause-done c =
    let is : c.args.instr.now ≡ instr.Store c.in-Store.n c.in-Store.path = search rules in
    let row = weighs_and_acts c.args.code.now (instr.Store c.in-Store.n c.in-Store.path) in
    rw c.on_if-in-Store.ensures.value (rw is (row_done row c.args.state.now c.store_int.new.state c.store_int.result
    c.args.at c.args.input.now (c.store_int.ensures.value c.args.code.now.ignore)))

pub returns-in-Store-clause-left : goal.returns-in-Store-clause-left
returns-in-Store-clause-left c =
    let row = weighs_and_acts c.args.code.now (instr.Store c.in-Store.n c.in-Store.path) in
    rw c.on_if-in-Store.ensures.value (row_left row c.args.state.now c.store_int.new.state c.store_int.result
    (c.store_int.ensures.value c.args.code.now.ignore))

pub returns-in-Apply-clause-done : goal.returns-in-Apply-clause-done
returns-in-Apply-clause-done c =
    let is : c.args.instr.now ≡ instr.Apply c.in-Apply.which = search rules in
    let row = weighs_and_acts c.args.code.now (instr.Apply c.in-Apply.which) in
    rw c.on_if-in-Apply.ensures.value (rw is (row_done row c.args.state.now c.apply_to_octets.new.state
    c.apply_to_octets.result c.args.at c.args.input.now (c.apply_to_octets.ensures.value c.args.code.now)))

pub returns-in-Apply-clause-left : goal.returns-in-Apply-clause-left
returns-in-Apply-clause-left c =
    let row = weighs_and_acts c.args.code.now (instr.Apply c.in-Apply.which) in
    rw c.on_if-in-Apply.ensures.value (row_left row c.args.state.now c.apply_to_octets.new.state
    c.apply_to_octets.result (c.apply_to_octets.ensures.value c.args.code.now))

pub returns-in-Convert-clause-done : goal.returns-in-Convert-clause-done
returns-in-Convert-clause-done c =
    let is : c.args.instr.now ≡ instr.Convert c.in-Convert.ty = search rules in
    let row = weighs_and_acts c.args.code.now (instr.Convert c.in-Convert.ty) in
    rw c.on_if-in-Convert.ensures.value (rw is (row_done row c.args.state.now c.read_number.new.state
    c.read_number.result c.args.at c.args.input.now c.read_number.ensures.value))

pub returns-in-Convert-clause-left : goal.returns-in-Convert-clause-left
returns-in-Convert-clause-left c =
    let row = weighs_and_acts c.args.code.now (instr.Convert c.in-Convert.ty) in
    rw c.on_if-in-Convert.ensures.value
    (row_left row c.args.state.now c.read_number.new.state c.read_number.result c.read_number.ensures.value)

pub returns-in-Slice-clause-done : goal.returns-in-Slice-clause-done
returns-in-Slice-clause-done c =
    let is : c.args.instr.now ≡ instr.Slice = search rules in
    let row = weighs_and_acts c.args.code.now instr.Slice in
    rw c.on_if-in-Slice.ensures.value (rw is (row_done row
    c.args.state.now c.cut.new.state c.cut.result c.args.at c.args.input.now (c.cut.ensures.value c.args.code.now)))

pub returns-in-Slice-clause-left : goal.returns-in-Slice-clause-left
returns-in-Slice-clause-left c =
    let row = weighs_and_acts c.args.code.now instr.Slice in
    rw c.on_if-in-Slice.ensures.value
    (row_left row c.args.state.now c.cut.new.state c.cut.result (c.cut.ensures.value c.args.code.now))

pub returns-in-Emit-default-eq0-false-clause-done : goal.returns-in-Emit-default-eq0-false-clause-done
returns-in-Emit-default-eq0-false-clause-done c =
    let is : c.args.instr.now ≡ instr.Emit c.in-Emit-default-eq0-false.table 0 false = search rules in
    let row = weighs_and_acts c.args.code.now (instr.Emit c.in-Emit-default-eq0-false.table 0 false) in
    rw c.on_if-in-Emit-default-eq0-false.ensures.value (rw is (row_done row c.args.state.now c.emit_int.new.state
    c.emit_int.result c.args.at c.args.input.now (c.emit_int.ensures.value c.args.code.now)))

pub returns-in-Emit-default-eq0-false-clause-left : goal.returns-in-Emit-default-eq0-false-clause-left
returns-in-Emit-default-eq0-false-clause-left c =
    let row = weighs_and_acts c.args.code.now (instr.Emit c.in-Emit-default-eq0-false.table 0 false) in
    rw c.on_if-in-Emit-default-eq0-false.ensures.value
    (row_left row c.args.state.now c.emit_int.new.state c.emit_int.result (c.emit_int.ensures.value c.args.code.now))
