-- An opened file stands at the start of the newest file of its name, and the others stay where they are.
use Rattle.std.proofs.Common.{◌≡◌, ◌∙◌, ◌<◌, ◌+◌, true, false, if◌then◌else◌, is_ok, Some, sym, ap, subst, arith, length, length-append, not, refl}
use Rattle.std.proofs.lemmas.Bool.{ltb-true, lt-ltb}
use Rattle.std.specs.List.{slice_get}
use Rattle.std.specs.Option.{option_map}
use Rattle.std.specs.Vec.{with_items}
use Rattle.sz_io.specs.declared.named_file.Place.{Place}
use Rattle.sz_io.specs.NamedFiles.{left_in, place_in, is_next_listed, faults_in}
use Rattle.sz_io.proofs.PlacedLemmas.{called_in, placed_kept, placed_start, placed_opened, pushed_if, left_in-opened, left_in-before, bytes_named-called}
use Rattle.sz_io.proofs.PlanLemmas.{file_fails, file_counted, file_others, faults_counted, following-push}
use Rattle.sz_io.proofs.mem_files.MemFilesFiles.open_file.Goals as goal

pub invariant_of-self-then-fails_next-clause-placed : goal.invariant_of-self-then-fails_next-clause-placed
invariant_of-self-then-fails_next-clause-placed c =
    let files = c.args.self.now in
    let called = called_in files.files _ _ _ c.deref_mut.ensures.value c.count_call.ensures in
    placed_kept files.files.items _ files.opened.items _ called files.placed

pub invariant_of-self-then-is_err-clause-placed : goal.invariant_of-self-then-is_err-clause-placed
invariant_of-self-then-is_err-clause-placed c =
    let files = c.args.self.now in
    let inside = subst (λ l. c.in-Some.file < length l) c.deref.ensures.value c.in-Some.ensures.within in
    let start = placed_start files.files.items c.in-Some.file inside in
    placed_opened files.files.items files.opened.items _ _ _ c.push-2.ensures.items start files.placed

pub invariant_of-self-2-clause-placed : goal.invariant_of-self-2-clause-placed
invariant_of-self-2-clause-placed c =
    let files = c.args.self.now in
    let inside = subst (λ l. c.in-Some.file < length l) c.deref.ensures.value c.in-Some.ensures.within in
    let start = placed_start files.files.items c.in-Some.file inside in
    let opened = placed_opened files.files.items files.opened.items _ _ _ c.push-2.ensures.items start files.placed in
    let called = called_in files.files _ _ _ c.deref_mut-2.ensures.value c.count_call-2.ensures in
    placed_kept files.files.items _ c.push-2.new.self.items _ called opened

pub returns-clause-bytes : goal.returns-clause-bytes
returns-clause-bytes c =
    let files = c.args.self.now in
    let called = called_in files.files _ _ _ c.deref_mut-2.ensures.value c.count_call-2.ensures in
    let succeeds : is_ok c.push-2.result ≡ true = c.is_err.ensures.negation ∙ ap not c.if-is_err.false in
    let pushed = pushed_if _ files.opened.items _ (record { file = c.in-Some.file; at = 0 }) succeeds c.push-2.ensures.items in
    let found = subst (λ l. Some c.in-Some.file ≡ place_in l c.args.name.now) c.deref.ensures.value c.in-Some.ensures.value in
    let next : c.len-number.result ≡ length files.opened.items = c.len-number.ensures ∙ files.opened.ok.0 in
    let all = left_in-opened files.files.items _ c.in-Some.file called
    files.opened.items c.args.name.now c.len-number.result found next in
    ap (λ l. left_in (with_items files.files c.count_call-2.new.files).items l c.len-number.result) pushed ∙ all

pub returns-clause-kept : goal.returns-clause-kept
returns-clause-kept c =
    let files = c.args.self.now in
    let called = called_in files.files _ _ _ c.deref_mut-2.ensures.value c.count_call-2.ensures in
    let succeeds : is_ok c.push-2.result ≡ true = c.is_err.ensures.negation ∙ ap not c.if-is_err.false in
    let pushed = pushed_if _ files.opened.items _ (record { file = c.in-Some.file; at = 0 }) succeeds c.push-2.ensures.items in
    let after = (with_items files.files c.count_call-2.new.files).items in
    record {
      held_same = λ name. bytes_named-called files.files.items after _ name called;
      left_same = λ number was.
          ap (λ l. left_in after l number) pushed
          ∙ left_in-before files.files.items after _ called files.opened.items _ number
          (ltb-true number (length files.opened.items) was);
      given_still = λ number was.
          let before = ltb-true number (length files.opened.items) was in
          let longer = ap length pushed ∙ length-append files.opened.items _ in
          lt-ltb number _ (omega (arith, before, longer));
      faults_later = let now = called.faults_now in omega (arith, now);
      faults_stay = let now = called.faults_now in λ stands. omega (arith, now, stands);
    }

pub returns-then-fails_next-clause-plan : goal.returns-then-fails_next-clause-plan
returns-then-fails_next-clause-plan c =
    let self = c.args.self.now in
    let files = self.files in
    let called = called_in files _ _ _ c.deref_mut.ensures.value c.count_call.ensures in
    let found = subst (λ l. Some c.in-Some.file ≡ place_in l c.args.name.now) c.deref.ensures.value c.in-Some.ensures.value in
    let inside = subst (λ l. c.in-Some.file < length l) c.deref.ensures.value c.in-Some.ensures.within in
    let fails : is_next_listed files.items c.in-Some.file ≡ true =
    ap (λ l. is_next_listed l c.in-Some.file) (sym c.deref-2.ensures.value) ∙ sym c.fails_next.ensures ∙ c.if-fails_next.true in
    let after = (with_items files c.count_call.new.files).items in
    record {
      calls = record {
        fails = sym (file_fails files.items after c.in-Some.file _ found called inside ∙ fails);
        counted = file_counted files.items after c.in-Some.file _ found called;
        others_same = file_others files.items after c.in-Some.file _ found called;
        names_same = called.same_places;
        faults_now = faults_counted self.misses _ _ true
            (called.faults_now ∙ ap (λ b. faults_in files.items + (if b then 1 else 0)) fails);
      };
      following = λ number. refl;
    }

pub returns-clause-plan : goal.returns-clause-plan
returns-clause-plan c =
    let self = c.args.self.now in
    let files = self.files in
    let called = called_in files _ _ _ c.deref_mut-2.ensures.value c.count_call-2.ensures in
    let found = subst (λ l. Some c.in-Some.file ≡ place_in l c.args.name.now) c.deref.ensures.value c.in-Some.ensures.value in
    let inside = subst (λ l. c.in-Some.file < length l) c.deref.ensures.value c.in-Some.ensures.within in
    let passes : is_next_listed files.items c.in-Some.file ≡ false =
    ap (λ l. is_next_listed l c.in-Some.file) (sym c.deref-2.ensures.value) ∙ sym c.fails_next.ensures
    ∙ c.if-fails_next.false in
    let after = (with_items files c.count_call-2.new.files).items in
    let succeeds : is_ok c.push-2.result ≡ true = c.is_err.ensures.negation ∙ ap not c.if-is_err.false in
    let place : Place = record { file = c.in-Some.file; at = 0 } in
    let pushed = pushed_if _ self.opened.items _ place succeeds c.push-2.ensures.items in
    let next : c.len-number.result ≡ length self.opened.items = c.len-number.ensures ∙ self.opened.ok.0 in
    record {
      calls = record {
        fails = sym (file_fails files.items after c.in-Some.file _ found called inside ∙ passes);
        counted = file_counted files.items after c.in-Some.file _ found called;
        others_same = file_others files.items after c.in-Some.file _ found called;
        names_same = called.same_places;
        faults_now = faults_counted self.misses _ _ false
            (called.faults_now ∙ ap (λ b. faults_in files.items + (if b then 1 else 0)) passes);
      };
      following = λ number.
          ap (λ l. option_map (λ p. p.file) (slice_get l number)) pushed
          ∙ following-push self.opened.items place number _ _ found next;
    }
