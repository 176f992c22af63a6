-- A read moves the place of one opened file.
use Rattle.std.proofs.Common.{◌≡◌, ◌∙◌, ◌<◌, min, length, Some, IfSome, sym, ap, subst, refl, arith, nat_lt, option_and_then}
use Rattle.std.proofs.Math.ListN.{length-set}
use Rattle.std.proofs.lemmas.Option.{slice_get-get_or}
use Rattle.std.proofs.lemmas.Bool.{ltb-true}
use Rattle.std.specs.List.{slice_get}
use Rattle.sz_io.specs.SureFiles.{copy_left, copy_name}
use Rattle.sz_io.proofs.Gets.{slice_get-set_other, map-set_same}
use Rattle.sz_io.proofs.sure_files.SureFilesFiles.read.Goals as goal

pub returns-clause-kept : goal.returns-clause-kept
returns-clause-kept c =
    let opened = c.args.self.now.opened.items in
    let inside : c.args.file < length opened = ltb-true c.args.file (length opened) c.requires in
    let there : slice_get opened c.args.file ≡ Some c.index_mut.result.now =
    slice_get-get_or opened c.args.file c.index_mut.result.now inside ∙ ap Some (sym c.index_mut.ensures.value) in
    record {
      held_same = λ name. refl;
      left_same = λ other apart.
          ap (option_and_then copy_left) (slice_get-set_other opened c.args.file other c.read.new.self apart);
      given_same = λ other. ap (nat_lt other) (length-set opened c.args.file c.read.new.self);
      names_same =
          map-set_same copy_name opened c.args.file c.index_mut.result.now c.read.new.self there c.read.ensures.name;
      faults_later = omega arith;
      faults_stay = λ stands. stands;
    }

pub returns-clause-moves : goal.returns-clause-moves
returns-clause-moves c =
    let opened = c.args.self.now.opened.items in
    let inside : c.args.file < length opened = ltb-true c.args.file (length opened) c.requires in
    let there : slice_get opened c.args.file ≡ Some c.index_mut.result.now =
    slice_get-get_or opened c.args.file c.index_mut.result.now inside ∙ ap Some (sym c.index_mut.ensures.value) in
    subst (λ o. IfSome (option_and_then copy_left o)
    (λ left. c.read.result ≡ min (length left) (length c.read.new.into))) (sym there)
    c.read.ensures.moves
