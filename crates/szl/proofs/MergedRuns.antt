-- What runs of one program saved is merged to what one run over all their records saves.
use Rattle.std.proofs.Common.{◌≡◌, ◌∙◌, ℕ, suc, ◌+◌, ◌*◌, ◌^◌, ◌≤◌, List, [], ◌∷◌, ◌++◌, length, map, Bool, true, false, refl, sym, ap, subst, arith, rules}
use Rattle.std.proofs.Common.{append_assoc, length-append, IsPermutation}
use Rattle.std.proofs.lemmas.List.Sorted.{IsPermutation-map}
use Rattle.std.specs.Prelude.{Result, Ok}
use Rattle.std.specs.List.{AllByRecursion}
use Rattle.sz_tree.specs.Statements.{Stms}
use Rattle.sz_types.specs.Tables.{Declaration}
use Rattle.sz_protofile.specs.Types.{TypeShape}
use Rattle.sz_mean.specs.Marked.{Marked, all_tables}
use Rattle.sz_mean.specs.Programs.{mean, statics}
use Rattle.sz_world_rules.specs.World.{Outcome, Done, Faulted}
use Rattle.sz_world_rules.specs.Slots.{Slot}
use Rattle.sz_tabs.specs.Data.{EmitDatum}
use Rattle.sz_attempt.specs.declared.job.Job.{Job}
use Rattle.sz_attempt.specs.Yields.{yield_of, means}
use Rattle.sz_records.proofs.CutLaws.{records_are_few}
use Rattle.sz_workers.proofs.LawLemmas.{all_emits}
use Rattle.sz_words.specs.declared.settings.RunSettings.{RunSettings}
use Rattle.sz_save_format.specs.Saved.{Saves}
use Rattle.sz_save_format.specs.Laws.{IsOneSpelling}
use Rattle.sz_merge.specs.JoiningLaws.{Joining, given, joined, given_in}
use Rattle.sz_merge.specs.Runs.{Run, saved_of, together, JoinsRuns, HasTextOfOne}
use Rattle.sz_merge.specs.Laws.{IsOneTogether}
use Rattle.szl.specs.Answers.{Answer, success}
use Rattle.szl.specs.Judgement.{spells}
use Rattle.szl.specs.Records.{Cut, IsCutInto}
use Rattle.sz_records.specs.Cutting.{full}
use Rattle.szl.specs.Shards.{shards_in, job_of}
use Rattle.szl.specs.Savable.{savable}
use Rattle.szl.specs.Outcome.{written, outcome_of_run}
use Rattle.szl.specs.Merging.{Merged, IsMerged, outcome_of_merge, merged_output}
use Rattle.szl.specs.Merging as ends
use Rattle.szl.specs.SavedRuns.{Part, EndedRun, all_records, files_of, IsPartOf, ArePartsOf, answer_of, MergesToOneRun, SavesItsAnswer}
use Rattle.szl.proofs.BoundLemmas.{low_product}
use Rattle.szl.proofs.EndedLemmas.{Finished, EndedSo, ended_so, part_finished, finished_answers, savable_of}
use Rattle.szl.proofs.JudgementLemmas.{one_reading}
use Rattle.szl.proofs.ShardLemmas.{shards_make_rounds}
use Rattle.szl.proofs.PieceLemmas.{Piece, bytes_of, runs_of, IsFile, EndsAsOne, merged_to_one, bounds_moved, emits_moved}

-- ---- the emits of records, whatever their numbers

module _ (program : Marked) (slots : List Slot) (budget : ℕ) where
  abbrev emits_of : List (List ℕ) → List EmitDatum
  emits_of [] = []
  emits_of (r ∷ rs) = (yield_of 0 (mean program slots budget r)).emits ++ emits_of rs

  emits_of_both : (rs more : List (List ℕ)) → emits_of (rs ++ more) ≡ emits_of rs ++ emits_of more
  emits_of_both [] more = refl
  emits_of_both (r ∷ rs) more =
      let first = (yield_of 0 (mean program slots budget r)).emits in
      ap (λ l. first ++ l) (emits_of_both rs more) ∙ sym (append_assoc first (emits_of rs) (emits_of more))

  any_number : (n : ℕ) (o : Outcome (List EmitDatum)) → (yield_of n o).emits ≡ (yield_of 0 o).emits
  any_number n (Done emits) = refl
  any_number n (Faulted fault) = refl

  -- what a run brings over these records
  abbrev run_over : List (List ℕ) → Run
  run_over rs = record { bound = length rs * budget; emits = emits_of rs }

means_emits : (job : Job) (n : ℕ) (rs : List (List ℕ)) → (means job n rs).emits ≡ emits_of job.compiled job.statics job.budget rs
means_emits job n [] = refl
means_emits job n (r ∷ rs) =
    let o = mean job.compiled job.statics job.budget r in
    λ i. any_number job.compiled job.statics job.budget n o i ++ means_emits job (suc n) rs i

-- the emits of a run are those of its records
module _ (s : RunSettings) (input : List ℕ) (cut : Cut) (is_cut : IsCutInto s.frame input cut) where
  few_records : length cut.records ≤ 2 ^ 31
  few_records = let counted = records_are_few s.frame full 0 0 input cut.records cut.ending (omega arith) is_cut in omega (arith, counted)

  own_emits : {types : List TypeShape} {ss : Stms} (f : Finished types s cut ss) → f.emits ≡ emits_of f.program f.slots s.budget cut.records
  own_emits f =
      let rounds = shards_make_rounds s.shard cut.records few_records in
      let job = job_of f.program f.slots s in
      let all = all_emits job 0 1 (shards_in s.shard cut.records) f.emits f.passed (rounds.follow 0) f.ends in
      sym all.0 ∙ ap (λ l. (means job 1 l).emits) (rounds.whole 0) ∙ means_emits job 1 cut.records

-- ---- two runs of one program

same_spelled : (ss others : Stms) → spells ss ≡ spells others → ss ≡ others
same_spelled ss others is = cc

same_program : {E : Type 0} (p q : Marked) (a b : Result Marked E) → a ≡ Ok p → b ≡ Ok q → a ≡ b → p ≡ q
same_program p q a b is also same = cc

same_slots : (xs ys : List Slot) → Done xs ≡ Done ys → xs ≡ ys
same_slots xs ys is = cc

module _ {types : List TypeShape} {text : List ℕ} (whole : EndedRun types text) where
  so : EndedSo whole
  so = ended_so whole

  abbrev ss : Stms
  ss = so.statements

  abbrev p : Marked
  p = so.finished.program

  abbrev slots : List Slot
  slots = so.finished.slots

  abbrev budget : ℕ
  budget = whole.settings.budget

  abbrev decls : List Declaration
  decls = all_tables p

  abbrev over : List (List ℕ) → Run
  over = run_over p slots budget

  abbrev records_of : Part types text → List (List ℕ)
  records_of part = part.run.tables.cut.records

  abbrev piece_of : Part types text → Piece
  piece_of part = record { bytes = part.bytes; run = over (records_of part) }

  module _ (part : Part types text) (of : IsPartOf whole part) where
    statements_are : part.run.statements ≡ ss
    statements_are =
        same_spelled part.run.statements ss (one_reading text (spells part.run.statements) whole.reading part.run.read whole.read ∙ so.spelled)

    program_is : part.run.program ≡ p
    program_is =
        same_program part.run.program p (savable types false part.settings.ignore_undefs part.run.statements)
        (savable types false whole.settings.ignore_undefs ss) (part_finished part).runs so.finished.runs
        (λ i. savable types false (of.ignoring i) (statements_are i))

    can_be_saved : savable types true whole.settings.ignore_undefs ss ≡ Ok p
    can_be_saved = (λ i. savable types true (sym of.ignoring i) (sym statements_are i)) ∙ part.run.is ∙ ap Ok program_is

    slots_are : part.run.tables.slots ≡ slots
    slots_are = same_slots part.run.tables.slots slots (sym part.run.tables.begun ∙ (λ i. statics (program_is i) (of.budget i)) ∙ so.finished.begun)

    low_budget : budget ≤ 2 ^ 32
    low_budget = subst (λ n. n ≤ 2 ^ 32) of.budget part.run.tables.bounds.most_budget

    is_file : IsFile decls (piece_of part)
    is_file =
        let t = part.run.tables in
        let s = part.settings in
        let own = own_emits s part.input t.cut t.is_cut (part_finished part) in
        let saves = subst (λ es. Saves part.bytes (saved_of (all_tables part.run.program) (record { bound = length t.cut.records * s.budget; emits = es })))
        own t.saves in
        record {
          short = of.short;
          saves = subst (Saves part.bytes) (λ i. saved_of (all_tables (program_is i)) (run_over (program_is i) (slots_are i) (of.budget i) t.cut.records))
              saves;
        }

  are_files : (parts : List (Part types text)) → AllByRecursion (IsPartOf whole) parts → AllByRecursion (IsFile decls) (map piece_of parts)
  are_files [] h = tt
  are_files (part ∷ parts) h = (is_file part h.0, are_files parts h.1)

  same_files : (parts : List (Part types text)) → bytes_of (map piece_of parts) ≡ files_of parts
  same_files [] = refl
  same_files (part ∷ parts) = ap (λ l. part.bytes ∷ l) (same_files parts)

  abbrev runs : List (Part types text) → List Run
  runs parts = map (λ (part : Part types text). over (records_of part)) parts

  same_runs : (parts : List (Part types text)) → runs_of (map piece_of parts) ≡ runs parts
  same_runs [] = refl
  same_runs (part ∷ parts) = ap (λ l. over (records_of part) ∷ l) (same_runs parts)

  -- runs over records, one input after the other, bring what one run brings over all of them
  all_bound : (parts : List (Part types text)) → (together (runs parts)).bound ≡ length (all_records parts) * budget
  all_bound [] = omega arith
  all_bound (part ∷ parts) =
      let later = all_bound parts in
      let rs = records_of part in
      ap (λ n. length rs * budget + n) later ∙ sym (both (length rs) (length (all_records parts)))
      ∙ ap (λ n. n * budget) (sym (length-append rs (all_records parts)))
    where
      both : (m n : ℕ) → (m + n) * budget ≡ m * budget + n * budget
      both m n = search rules

  all_emitted : (parts : List (Part types text)) → (together (runs parts)).emits ≡ emits_of p slots budget (all_records parts)
  all_emitted [] = refl
  all_emitted (part ∷ parts) =
      ap (λ l. emits_of p slots budget (records_of part) ++ l) (all_emitted parts) ∙ sym (emits_of_both p slots budget (records_of part) (all_records parts))

  module _ (parts : List (Part types text)) (are : ArePartsOf whole parts) where
    moved_runs : IsPermutation (runs parts) (runs are.inputs)
    moved_runs = IsPermutation-map (λ (part : Part types text). over (records_of part)) parts are.inputs are.moved

    whole_bound : (together (runs_of (map piece_of parts))).bound ≡ (over whole.cut.records).bound
    whole_bound =
        ap (λ l. (together l).bound) (same_runs parts) ∙ bounds_moved (runs parts) (runs are.inputs) moved_runs ∙ all_bound are.inputs
        ∙ ap (λ l. length l * budget) are.records

    whole_emits : IsPermutation (together (runs_of (map piece_of parts))).emits (over whole.cut.records).emits
    whole_emits =
        subst (λ (q : List EmitDatum × List EmitDatum). IsPermutation q.0 q.1)
        (λ i. ((together (sym (same_runs parts) i)).emits, (all_emitted are.inputs ∙ ap (emits_of p slots budget) are.records) i))
        (emits_moved (runs parts) (runs are.inputs) moved_runs)

    module _ (spelling : IsOneSpelling) (one : IsOneTogether) (joins : JoinsRuns) (texts : HasTextOfOne) where
      ends_as_one : budget ≤ 2 ^ 32 → (merged : Merged) → IsMerged (files_of parts) merged → EndsAsOne decls (over whole.cut.records) merged
      ends_as_one low merged is =
          merged_to_one decls spelling one joins texts (map piece_of parts) (over whole.cut.records) merged (are_files parts are.each) whole_bound whole_emits
          (low_product (length whole.cut.records) budget (few_records whole.settings whole.input whole.cut whole.is_cut) low)
          (subst (λ l. IsMerged l merged) (sym (same_files parts)) is)

-- ---- what is answered

-- no state is left where none is given
none_given : (j : Joining) → given_in j ≡ [] → ⊥
none_given (given s) none = absurd (cc)
none_given (joined f b s) none = by (given_in f) (none_given f) none
  where
    by : (states : List _) → (states ≡ [] → ⊥) → states ++ given_in b ≡ [] → ⊥
    by [] some both = some refl
    by (t ∷ states) some both = absurd (cc)

none_merged : (merged : Merged) → IsMerged [] merged → ⊥
none_merged (ends.together all) h = none_given h.joining h.given
none_merged (ends.too_long file) h = h
none_merged (ends.bad file) h = h
none_merged (ends.other file) h = h
none_merged (ends.past file) h = h

pub saves_its_answer : SavesItsAnswer
saves_its_answer types text s input bytes run =
    let part : Part types text = record { settings = s; input = input; bytes = bytes; run = run } in
    finished_answers (part_finished part) true run.is ∙ ap success (sym run.tables.saves.is)

module _ (spelling : IsOneSpelling) (one : IsOneTogether) (joins : JoinsRuns) (texts : HasTextOfOne) where
  pub merges_to_one_run : MergesToOneRun
  merges_to_one_run types text whole [] merged save are is = absurd (none_merged merged is)
  merges_to_one_run types text whole (part ∷ parts) merged save are is =
      let f = (so whole).finished in
      let first = are.each.0 in
      let found = ends_as_one whole (part ∷ parts) are spelling one joins texts (low_budget whole part first) merged is in
      let merges = ap (outcome_of_merge count save) found.is in
      let emits = own_emits whole.settings whole.input whole.cut whole.is_cut f in
      let answers = ap (λ reading. outcome_of_run types (record whole.settings { save = save }) whole.cut reading) (so whole).spelled
      ∙ finished_answers f save (savable_of f save (can_be_saved whole part first)) in
      merges ∙ ap (λ output. opened (success output) count) (of_output save found ∙ ap (written_of save) (sym emits))
      ∙ ap (λ answer. opened answer count) (sym answers)
      ∙ ap (opened (answer_of save whole)) (sym (ap (λ (answer : Answer). answer.opens) merges))
    where
      count : ℕ
      count = length (part ∷ parts)

      opened : Answer → ℕ → Answer
      opened answer n = record answer { opens = n }

      written_of : Bool → List EmitDatum → List ℕ
      written_of save emits = written (so whole).finished.program save (length whole.cut.records) whole.settings.budget emits

      of_output : (save : Bool) → EndsAsOne (decls whole) (over whole whole.cut.records) merged
          → merged_output save (saved_of (decls whole) (over whole whole.cut.records)) ≡ written_of save (over whole whole.cut.records).emits
      of_output true found = refl
      of_output false found = found.text
