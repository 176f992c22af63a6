-- A read is one step at the place of the opened file.
use Rattle.std.proofs.Common.{◌≡◌, ◌∙◌, ◌<◌, ◌+◌, if◌then◌else◌, is_err, length, Some, sym, ap, subst, refl, arith, nat_lt}
use Rattle.std.proofs.Math.ListN.{length-set}
use Rattle.std.proofs.lemmas.Option.{slice_get-get_or}
use Rattle.std.proofs.lemmas.Bool.{ltb-true}
use Rattle.std.specs.List.{slice_get}
use Rattle.std.specs.Vec.{with_items}
use Rattle.std.specs.Option.{option_map}
use Rattle.sz_io.specs.NamedFiles.{CallsOneFile, is_next_listed, faults_in}
use Rattle.sz_io.specs.Placed.{IsPlaced}
use Rattle.sz_io.proofs.PlacedLemmas.{called_in, placed_in, placed_kept, placed_set, left_in-set_other, left_in-called, bytes_named-called}
use Rattle.sz_io.proofs.PlanLemmas.{file_fails, file_counted, file_others, faults_counted, following-set, listed_so}
use Rattle.sz_io.proofs.mem_files.MemFilesFiles.read.Goals as goal

pub read_at-requires : goal.read_at-requires
read_at-requires c =
    let opened = c.args.self.now.opened.items in
    let inside : c.args.file < length opened = ltb-true c.args.file (length opened) c.requires in
    let there : slice_get opened c.args.file ≡ Some c.index_mut.result.now =
    slice_get-get_or opened c.args.file c.index_mut.result.now inside ∙ ap Some (sym c.index_mut.ensures.value) in
    let placed = c.args.self.now.placed c.args.file c.index_mut.result.now there in
    subst (λ files. IsPlaced files c.index_mut.result.now) (sym c.deref_mut.ensures.value) placed

pub invariant_of-self-clause-placed : goal.invariant_of-self-clause-placed
invariant_of-self-clause-placed c =
    let files = c.args.self.now.files in
    let opened = c.args.self.now.opened.items in
    let called = called_in files _ _ _ c.deref_mut.ensures.value c.read_at.ensures.call in
    let here = placed_in files _ _ _
    c.read_at.new.place c.deref_mut.ensures.value c.read_at.ensures.call c.read_at.ensures.place in
    placed_set _ opened c.args.file c.read_at.new.place here
    (placed_kept files.items _ opened _ called c.args.self.now.placed)

pub returns-clause-kept : goal.returns-clause-kept
returns-clause-kept c =
    let files = c.args.self.now.files in
    let opened = c.args.self.now.opened.items in
    let called : CallsOneFile files.items (with_items files c.read_at.new.files).items c.index_mut.result.now.file =
    called_in files _ _ _ c.deref_mut.ensures.value c.read_at.ensures.call in
    let after = (with_items files c.read_at.new.files).items in
    record {
      held_same = λ name. bytes_named-called files.items after _ name called;
      left_same = λ other apart.
          left_in-set_other after opened c.args.file other c.read_at.new.place apart
          ∙ left_in-called files.items after opened _ other called;
      given_same = λ other. ap (nat_lt other) (length-set opened c.args.file c.read_at.new.place);
      names_same = refl;
      faults_later = let now = called.faults_now in omega (arith, now);
      faults_stay = let now = called.faults_now in λ stands. omega (arith, now, stands);
    }

pub returns-clause-plan : goal.returns-clause-plan
returns-clause-plan c =
    let self = c.args.self.now in
    let files = self.files in
    let opened = self.opened.items in
    let called : CallsOneFile files.items (with_items files c.read_at.new.files).items c.index_mut.result.now.file =
    called_in files _ _ _ c.deref_mut.ensures.value c.read_at.ensures.call in
    let inside : c.args.file < length opened = ltb-true c.args.file (length opened) c.requires in
    let there : slice_get opened c.args.file ≡ Some c.index_mut.result.now =
    slice_get-get_or opened c.args.file c.index_mut.result.now inside ∙ ap Some (sym c.index_mut.ensures.value) in
    let found = sym (ap (option_map (λ p. p.file)) there) in
    let known = (self.placed c.args.file c.index_mut.result.now there).known in
    let told : is_err c.read_at.result ≡ is_next_listed files.items c.index_mut.result.now.file =
    listed_so _ _ c.read_at.ensures.listed
    ∙ ap (λ l. is_next_listed l c.index_mut.result.now.file) c.deref_mut.ensures.value in
    let after = (with_items files c.read_at.new.files).items in
    record {
      fails = told ∙ sym (file_fails files.items after _ _ found called known);
      counted = file_counted files.items after _ _ found called;
      others_same = file_others files.items after _ _ found called;
      names_same = called.same_places;
      faults_now = faults_counted self.misses _ _ _
          (called.faults_now ∙ ap (λ b. faults_in files.items + (if b then 1 else 0)) (sym told));
    }

pub returns-clause-following : goal.returns-clause-following
returns-clause-following c number =
    let opened = c.args.self.now.opened.items in
    let inside : c.args.file < length opened = ltb-true c.args.file (length opened) c.requires in
    let there : slice_get opened c.args.file ≡ Some c.index_mut.result.now =
    slice_get-get_or opened c.args.file c.index_mut.result.now inside ∙ ap Some (sym c.index_mut.ensures.value) in
    following-set opened c.args.file number _ c.read_at.new.place there c.read_at.ensures.file
