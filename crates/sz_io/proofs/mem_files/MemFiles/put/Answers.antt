-- A file more at the end is the newest one of its name, and touches no opened one.
use Rattle.std.proofs.Common.{◌∙◌, ◌+◌, ◌-◌, ◌^◌, min, length, Some, sym, ap, refl}
use Rattle.sz_io.specs.NamedFiles.{bytes_named, plan_at, place_in}
use Rattle.sz_io.proofs.PlacedLemmas.{placed_pushed, left_in-pushed}
use Rattle.sz_io.proofs.PutLemmas.{faults_in-pushed, place_in-put_same, place_in-put_other, bytes_named-put_same, bytes_named-put_other}
use Rattle.sz_io.proofs.PlanLemmas.{plan_at-push_new, plan_at-push_other, plan_at-end, plan-pushed}
use Rattle.sz_io.proofs.mem_files.MemFiles.put.Goals as goal

pub invariant_of-self-clause-placed : goal.invariant_of-self-clause-placed
invariant_of-self-clause-placed c =
    let files = c.args.self.now in
    placed_pushed files.files.items _ files.opened.items _ files.placed _ c.push.ensures.items

pub returns-clause-ok : goal.returns-clause-ok
returns-clause-ok c =
    let files = c.args.self.now.files.items in
    let named = c.in_ok-from_str.ensures.ok in
    let grown = c.in_ok-push.ensures.items in
    record {
      file = length files;
      not_before = plan_at-end files;
      file_now = ap (λ l. place_in l c.args.name.now) grown ∙ place_in-put_same files _ _ named;
      plan_now = ap (λ l. plan_at l (length files)) grown ∙ plan_at-push_new files _
          ∙ ap (λ ks. Some (record { calls = 0; fails = ks })) c.in_ok-from_slice-2.ensures.items;
      bytes_now = ap (λ l. bytes_named l c.args.name.now) grown ∙ bytes_named-put_same files _ _ named
          ∙ ap Some c.in_ok-from_slice.ensures.items;
      others_same = λ other apart.
          ap (λ l. bytes_named l other) grown ∙ bytes_named-put_other files _ other (λ same. apart (sym same ∙ named));
      other_files_same = λ other apart.
          ap (λ l. place_in l other) grown ∙ place_in-put_other files _ other (λ same. apart (sym same ∙ named));
      other_plans_same = λ other apart. ap (λ l. plan_at l other) grown ∙ plan_at-push_other files _ other apart;
    }

pub returns-clause-kept : goal.returns-clause-kept
returns-clause-kept c =
    let files = c.args.self.now in
    record {
      left_same = λ number. left_in-pushed files.files.items _ files.opened.items _ files.placed _ number
          c.push.ensures.items;
      after_same = λ number. refl;
      plans_same =
          λ number. plan-pushed files.files.items _ files.opened.items _ files.placed _ number c.push.ensures.items;
      given_same = λ number. refl;
      names_same = refl;
      faults_same = ap (λ n. min (files.misses + n) (2 ^ 64 - 1))
          (faults_in-pushed files.files.items _ _ _ refl c.push.ensures.items);
    }
