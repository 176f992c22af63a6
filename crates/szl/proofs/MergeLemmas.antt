-- The answer to files that are merged, file by file.
use Rattle.std.proofs.Common.{◌≡◌, ◌∙◌, ℕ, suc, ◌+◌, ◌-◌, ◌<◌, ◌≤◌, ◌⊎◌, inl, inr, Bool, true, false, List, [], ◌∷◌, ◌++◌, length, take, drop, get_or}
use Rattle.std.proofs.Common.{Option, Some, None, refl, sym, ap, subst, arith, append_assoc, true≢false}
use Rattle.std.specs.Prelude.{IfSome, IsSome, IfOk, IfErr, IsTrue, unwrap_or, Result, Ok, Err, Vec, OnOk}
use Rattle.std.proofs.Math.Seq.{take-length}
use Rattle.std.specs.Io.KnownBytes.{IsAtEnd}
use Rattle.sz_io.specs.Rose.{Rose}
use Rattle.sz_io.specs.Opened.{KeepsFiles}
use Rattle.sz_io.specs.Calls.{NamesGain, OpensOne, ReadToEnd}
use Rattle.sz_io.specs.declared.files.Files as files
use Rattle.sz_io.proofs.ForCallers.{rose_later}
use Rattle.sz_save_format.specs.Saved.{SavedState}
use Rattle.sz_merge.specs.Files.{Follows}
use Rattle.szl.specs.declared.status.Status.TheVariants as status
use Rattle.szl.specs.declared.failure.Failure.{Failure}
use Rattle.szl.specs.declared.failure.Failure.TheVariants as failure
use Rattle.szl.specs.Failing.{status_of}
use Rattle.szl.specs.Merging as ends
use Rattle.szl.specs.Merging.{Merged, EndsAt, MergesFrom, AreBytesOf, outcome_of_merge, most_saved_bytes}
use Rattle.szl.specs.MergeAnswers.{IsOfFile, StandFor, AddsFile, AnswersFrom, AnswersMerge, IsOutputOf, lacks_memory}
use Rattle.szl.specs.Opening.{Decides, status_of_answer}
use Rattle.szl.specs.ProgramRuns.{vec_items_of}
use Rattle.szl.specs.Promise.{IfRead, IfTold, OpensFiles, AreReadToEnd}
use Rattle.szl.proofs.OpeningLemmas.{holds_or}
use Rattle.szl.proofs.OpenedLemmas.{none_of, new_since, opened_none, opened_one, opened_or_none, opened_then, take_none}
use Rattle.szl.proofs.SettingsLemmas.{decides_since}
use Rattle.szl.proofs.MergeEnds.{HasEnd, ends_of, one_more, longer, opens_more, opens_one_more, no_bad_words}

module _ {F : Type 0} (the_files : files.Ghosts F) (save : Bool) where
  -- some bytes for each name: those that are told
  abbrev pub some_bytes : F → List (List ℕ) → List (List ℕ)
  some_bytes old [] = []
  some_bytes old (name ∷ names) = unwrap_or (the_files.held old name) [] ∷ some_bytes old names

  pub some_held : (old : F) (names : List (List ℕ)) → AreBytesOf (the_files.held old) names (some_bytes old names)
  some_held old [] = tt
  some_held old (name ∷ names) = (holds_or (the_files.held old name) [], some_held old names)

  pub some_long : (old : F) (names : List (List ℕ)) → length (some_bytes old names) ≡ length names
  some_long old [] = refl
  some_long old (name ∷ names) = ap suc (some_long old names)

  -- the bytes under names at two moments
  held_then : (old mid : F) → ((name : List ℕ) → the_files.held mid name ≡ the_files.held old name) → (names bytes : List (List ℕ))
      → AreBytesOf (the_files.held mid) names bytes → AreBytesOf (the_files.held old) names bytes
  held_then old mid same [] [] h = tt
  held_then old mid same [] (b ∷ bytes) h = absurd h
  held_then old mid same (name ∷ names) [] h = absurd h
  held_then old mid same (name ∷ names) (b ∷ bytes) h =
      (subst (λ told. IfSome told (λ held. held ≡ b)) (same name) h.0, held_then old mid same names bytes h.1)

  -- ---- no file is left

  module _ (before : List SavedState) (done : ℕ) where
    pub none_left : (groups : List SavedState) (files : F) (output : List ℕ) → StandFor groups before done → IsOutputOf before save output
        → AnswersFrom the_files before [] save files files (Ok output)
    none_left groups files output stands is = record {
      bytes = [];
      held = tt;
      end = ends.together is.all;
      merges = is.are;
      decides = λ i. record { status = status.Done; output = sym is.is i; line = []; opens = length before + 0 };
      opened = opened_none the_files files [] ((length before + 0) - length before) status.Done (λ e. cc)
          (λ read memory. sym (take_none ((length before + 0) - length before)));
    }

    pub none_made : (groups : List SavedState) (files : F) → StandFor groups before done → 1 ≤ done → done ≤ 64
        → AnswersFrom the_files before [] save files files (Err failure.NoMemory)
    none_made groups files stands some most =
        let found = ends_of before [] stands.groups_of.can stands.each (omega (arith, some, stands.count)) (omega (arith, most, stands.count)) in
        record {
          bytes = [];
          held = tt;
          end = found.end;
          merges = found.merges;
          decides = tt;
          opened = opened_none the_files files [] ((outcome_of_merge (length before + 0) save found.end).opens - length before) status.NoMemory (λ e. cc)
              (λ read memory. absurd (memory refl));
        }

    pub rest_none : {A : Type 0} (groups : List SavedState) (names : List (List ℕ)) (files : F) (result : Result (Vec ℕ A) Failure)
        → StandFor groups before done → length names < 1 → 1 ≤ done + length names → done + length names ≤ 64
        → IfOk result (λ output. IsOutputOf before save output.items) → IfErr result (λ f. f ≡ failure.NoMemory)
        → AnswersFrom the_files before names save files files (vec_items_of result)
    rest_none groups (name ∷ names) files result stands none some most ok err = absurd (omega (arith, none))
    rest_none groups [] files (Ok output) stands none some most ok err = none_left groups files output.items stands ok
    rest_none groups [] files (Err f) stands none some most ok err =
        subst (λ e. AnswersFrom the_files before [] save files files (Err e)) (sym err)
        (none_made groups files stands (omega (arith, some)) (omega (arith, most)))

  -- ---- the first file ends it

  module _ (before : List SavedState) (done : ℕ) (groups : List SavedState) (name : List ℕ) (names : List (List ℕ)) (old new : F) where
    abbrev count : ℕ
    count = length before + length (name ∷ names)

    abbrev rose : Type 0
    rose = Rose (the_files.faults old) (the_files.faults new)

    -- merging ends at the first file, which was opened
    ended_there : (f : Failure) (end : Merged) (bytes : List ℕ) → IfSome (the_files.held old name) (λ told. told ≡ bytes)
        → EndsAt (suc (length before)) before bytes end → (outcome_of_merge count save end).opens ≡ suc (length before)
        → Decides (Err f) (outcome_of_merge count save end) rose → the_files.names new ≡ the_files.names old ++ name ∷ []
        → OpensOne the_files old new → AnswersFrom the_files before (name ∷ names) save old new (Err f)
    ended_there f end bytes holds at opens decides gained one = record {
      bytes = bytes ∷ some_bytes old names;
      held = (holds, some_held old names);
      end = end;
      merges = inl at;
      decides = decides;
      opened =
          let single : (outcome_of_merge count save end).opens - length before ≡ 1 = omega (arith, opens) in
          opened_one the_files old new name names ((outcome_of_merge count save end).opens - length before) (status_of f) (omega (arith, single)) gained
          (λ read memory. ap (λ n. take n (name ∷ names)) (sym single)) (λ read memory. one);
    }

    -- how all files end, whatever they hold
    ends_some : (bytes : List ℕ) → StandFor groups before done → done + length (name ∷ names) ≤ 64 → HasEnd before (bytes ∷ some_bytes old names)
    ends_some bytes stands most =
        ends_of before (bytes ∷ some_bytes old names) stands.groups_of.can stands.each (omega arith)
        (omega (arith, most, stands.count, some_long old names))

    at_least : (bytes : List ℕ) (end : Merged) → MergesFrom before (bytes ∷ some_bytes old names) end
        → 1 ≤ (outcome_of_merge count save end).opens - length before
    at_least bytes end merges =
        let more = opens_one_more count save before bytes (some_bytes old names) end merges (omega (arith, some_long old names)) in omega (arith, more)

    unread : (bytes : List ℕ) → IfSome (the_files.held old name) (λ told. told ≡ bytes) → StandFor groups before done → done + length (name ∷ names) ≤ 64
        → rose → the_files.names new ≡ the_files.names old ++ name ∷ [] → AnswersFrom the_files before (name ∷ names) save old new (Err failure.ReadFailed)
    unread bytes holds stands most is gained =
        let found = ends_some bytes stands most in
        record {
          bytes = bytes ∷ some_bytes old names;
          held = (holds, some_held old names);
          end = found.end;
          merges = found.merges;
          decides = (is, no_bad_words count save found.end);
          opened = opened_one the_files old new name names ((outcome_of_merge count save found.end).opens - length before) status.ReadFailed
              (at_least bytes found.end found.merges) gained (λ read memory. absurd (read refl)) (λ read memory. absurd (read refl));
        }

    no_room : (bytes : List ℕ) → IfSome (the_files.held old name) (λ told. told ≡ bytes) → StandFor groups before done → done + length (name ∷ names) ≤ 64
        → (the_files.names new ≡ the_files.names old) ⊎ (the_files.names new ≡ the_files.names old ++ name ∷ [])
        → AnswersFrom the_files before (name ∷ names) save old new (Err failure.NoMemory)
    no_room bytes holds stands most gained =
        let found = ends_some bytes stands most in
        record {
          bytes = bytes ∷ some_bytes old names;
          held = (holds, some_held old names);
          end = found.end;
          merges = found.merges;
          decides = tt;
          opened = opened_or_none the_files old new name names ((outcome_of_merge count save found.end).opens - length before)
              (at_least bytes found.end found.merges) gained;
        }

    -- the first file wasn't added
    pub not_added : (f : Failure) → AddsFile (the_files.held old name) before rose (Err f) → StandFor groups before done
        → done + length (name ∷ names) ≤ 64 → NamesGain (lacks_memory {T = List SavedState} (Err f)) (the_files.names old) (the_files.names new) name
        → IfRead (status_of f) (OpensOne the_files old new) → AnswersFrom the_files before (name ∷ names) save old new (Err f)
    not_added (failure.Limit byte) a stands most gained one =
        ended_there (failure.Limit byte) (ends.too_long (suc (length before))) a.bytes a.holds (refl, a.tells.1) refl
        (λ i. record { status = status.Limit; output = []; line = Rattle.szl.specs.Answers.limit_line (sym a.tells.0 i); opens = suc (length before) })
        gained (one (λ e. cc) (λ e. cc))
    not_added (failure.BadTables file) a stands most gained one =
        ended_there (failure.BadTables file) (ends.bad file) a.bytes a.holds a.tells a.tells.0 refl gained (one (λ e. cc) (λ e. cc))
    not_added (failure.OtherTables file) a stands most gained one =
        ended_there (failure.OtherTables file) (ends.other file) a.bytes a.holds a.tells a.tells.0 refl gained (one (λ e. cc) (λ e. cc))
    not_added (failure.TablesLimit file) a stands most gained one =
        ended_there (failure.TablesLimit file) (ends.past file) a.bytes a.holds a.tells a.tells.0 refl gained (one (λ e. cc) (λ e. cc))
    not_added failure.ReadFailed a stands most gained one = unread a.bytes a.holds stands most a.tells gained
    not_added failure.NoMemory a stands most gained one = no_room a.bytes a.holds stands most gained
    not_added _ a stands most gained one = absurd a.tells

  -- ---- the first file was added, and the rest is answered

  module _ (before : List SavedState) (name : List ℕ) (names : List (List ℕ)) (old mid new : F) (answer : Result (List ℕ) Failure) where
    pub then_rest : (bytes : List ℕ) (state : SavedState) → IfSome (the_files.held old name) (λ told. told ≡ bytes) → length bytes ≤ most_saved_bytes
        → Follows before bytes state → the_files.names mid ≡ the_files.names old ++ name ∷ []
        → KeepsFiles the_files.held the_files.left the_files.given the_files.faults old mid
        → KeepsFiles the_files.held the_files.left the_files.given the_files.faults mid new → OpensOne the_files old mid
        → AnswersFrom the_files (before ++ state ∷ []) names save mid new answer
        → AnswersFrom the_files before (name ∷ names) save old new answer
    then_rest bytes state holds short follows gained kept later one a =
        let same_count : length (before ++ state ∷ []) + length names ≡ length before + length (name ∷ names) = omega (arith, longer before state) in
        let outcome = outcome_of_merge (length before + length (name ∷ names)) save a.end in
        let decides = subst (λ n. Decides answer (outcome_of_merge n save a.end) (Rose (the_files.faults mid) (the_files.faults new))) same_count a.decides in
        let opened = subst (λ n. OpensFiles the_files mid new names ((outcome_of_merge n save a.end).opens - length (before ++ state ∷ []))
        (status_of_answer answer)) same_count a.opened in
        let one_less : outcome.opens - length (before ++ state ∷ []) ≡ (outcome.opens - length before) - 1 = omega (arith, longer before state) in
        let held = held_then old mid kept.held_same names a.bytes a.held in
        let more = opens_more (length before + length (name ∷ names)) save (before ++ state ∷ []) a.bytes a.end a.merges
        (omega (arith, longer before state, held_long (the_files.held old) names a.bytes held)) in
        record {
          bytes = bytes ∷ a.bytes;
          held = (holds, held);
          end = a.end;
          merges = inr (state, (short, follows), a.merges);
          decides = decides_since answer outcome _ _
              (rose_later (the_files.faults old) (the_files.faults mid) (the_files.faults new) kept.faults_later) decides;
          opened = opened_then the_files old mid new name names (outcome.opens - length before) (status_of_answer answer)
              (omega (arith, more, longer before state))
              gained kept later one (subst (λ n. OpensFiles the_files mid new names n (status_of_answer answer)) one_less opened);
        }
      where
        held_long : (held : List ℕ → Option (List ℕ)) (ns bs : List (List ℕ)) → AreBytesOf held ns bs → length bs ≡ length ns
        held_long held [] [] h = refl
        held_long held [] (b ∷ bs) h = absurd h
        held_long held (n ∷ ns) [] h = absurd h
        held_long held (n ∷ ns) (b ∷ bs) h = ap suc (held_long held ns bs h.1)

    -- the same by what adding the file gave
    pub file_added : (done : ℕ) (groups now : List SavedState) → StandFor groups before done
        → AddsFile (the_files.held old name) before (Rose (the_files.faults old) (the_files.faults mid)) (Ok now)
        → the_files.names mid ≡ the_files.names old ++ name ∷ []
        → KeepsFiles the_files.held the_files.left the_files.given the_files.faults old mid
        → KeepsFiles the_files.held the_files.left the_files.given the_files.faults mid new → OpensOne the_files old mid
        → ((later : List SavedState) → StandFor now later (done + 1) → AnswersFrom the_files later names save mid new answer)
        → AnswersFrom the_files before (name ∷ names) save old new answer
    file_added done groups now stands a gained kept later one rest =
        let adds = a.tells.1 in
        let state = adds.state in
        let of_file : IsOfFile state = record { bytes = a.bytes; short = a.tells.0; saves = adds.follows.saves } in
        let stand : StandFor now (before ++ state ∷ []) (done + 1) = record {
          groups_of = adds.now;
          each = one_more before state stands.each of_file;
          count = omega (arith, longer before state, stands.count);
        } in
        then_rest a.bytes state a.holds a.tells.0 adds.follows gained kept later one (rest (before ++ state ∷ []) stand)

-- ---- all files

pub all_answered : {F : Type 0} (the_files : files.Ghosts F) (save : Bool) (names : List (List ℕ)) (old new : F) (answer : Result (List ℕ) Failure)
    → AnswersFrom the_files [] names save old new answer → AnswersMerge the_files names save old new answer
all_answered the_files save names old new answer a =
    let zero_more : 0 + length names ≡ length names = omega arith in
    let opens = (outcome_of_merge (length names) save a.end).opens in
    let none_less : opens - 0 ≡ opens = omega arith in
    record {
      bytes = a.bytes;
      held = a.held;
      end = a.end;
      merged = a.merges;
      decides = subst (λ n. Decides answer (outcome_of_merge n save a.end) (Rose (the_files.faults old) (the_files.faults new))) zero_more a.decides;
      opened = subst (λ n. OpensFiles the_files old new names n (status_of_answer answer)) none_less
          (subst (λ n. OpensFiles the_files old new names ((outcome_of_merge n save a.end).opens - 0) (status_of_answer answer)) zero_more a.opened);
    }

-- ---- files read to their ends

module _ {F : Type 0} (the_files : files.Ghosts F) where
  if_both : (P Q : Type 0) (told : Option (List ℕ)) → (P → Q) → IfSome told (λ _. P) → IfSome told (λ _. Q)
  if_both P Q None step h = tt
  if_both P Q (Some bytes) step h = step h

  under : (P : Type 0) (told : Option (List ℕ)) → P → IfSome told (λ _. P)
  under P None p = tt
  under P (Some bytes) p = p

  told_then : (old mid : F) (P : Type 0) → ((name : List ℕ) → the_files.held mid name ≡ the_files.held old name) → (names : List (List ℕ))
      → IfTold (the_files.held mid) names P → IfTold (the_files.held old) names P
  told_then old mid P same [] h = h
  told_then old mid P same (name ∷ names) h =
      if_both (IfTold (the_files.held mid) names P) (IfTold (the_files.held old) names P) (the_files.held old name) (told_then old mid P same names)
      (subst (λ told. IfSome told (λ _. IfTold (the_files.held mid) names P)) (same name) h)

  told_at_all : (held : List ℕ → Option (List ℕ)) (P : Type 0) (names : List (List ℕ)) → P → IfTold held names P
  told_at_all held P [] p = p
  told_at_all held P (name ∷ names) p = under (IfTold held names P) (held name) (told_at_all held P names p)

  -- one file was read to its end, and then the rest
  pub read_then : (name : List ℕ) (names : List (List ℕ)) (old mid new : F) → the_files.names mid ≡ the_files.names old ++ name ∷ []
      → KeepsFiles the_files.held the_files.left the_files.given the_files.faults old mid
      → KeepsFiles the_files.held the_files.left the_files.given the_files.faults mid new
      → ReadToEnd the_files old mid name → AreReadToEnd the_files mid new names → AreReadToEnd the_files old new (name ∷ names)
  read_then name names old mid new first kept later r rest = record {
    all_opened = rest.all_opened ∙ ap (λ ns. ns ++ names) first ∙ append_assoc (the_files.names old) (name ∷ []) names;
    each = record {
      opened = r.file ∷ rest.each.opened;
      one_each = ap suc rest.each.one_each;
      are_new = (
        (r.not_before, later.given_still r.file r.given_now),
        (
          none_of (the_files.given mid) (the_files.given new) r.file rest.each.opened r.given_now rest.each.are_new,
          new_since (the_files.given old) (the_files.given mid) (the_files.given new) kept.given_still rest.each.opened rest.each.are_new,
        ),
      );
    };
    none_left = λ file fresh given. ended file fresh given (the_files.given mid file) refl;
    told = λ file fresh given. tells file fresh given (the_files.given mid file) refl;
  }
    where
      by_first : (file : ℕ) → (IsTrue (the_files.given old file) → ⊥) → (file ≡ r.file) ⊎ IsTrue (the_files.given old file) → file ≡ r.file
      by_first file fresh (inl is) = is
      by_first file fresh (inr was) = absurd (fresh was)

      was_given : (file : ℕ) → the_files.given mid file ≡ true → IsTrue (the_files.given mid file)
      was_given file is = is

      the_first : (file : ℕ) → (IsTrue (the_files.given old file) → ⊥) → the_files.given mid file ≡ true → file ≡ r.file
      the_first file fresh is = by_first file fresh (r.no_other file (was_given file is))

      not_given : (file : ℕ) → the_files.given mid file ≡ false → IsTrue (the_files.given mid file) → ⊥
      not_given file not was = true≢false (sym was ∙ not)

      left_first : the_files.left new r.file ≡ the_files.left mid r.file
      left_first = later.left_same r.file r.given_now

      ended : (file : ℕ) → (IsTrue (the_files.given old file) → ⊥) → IsTrue (the_files.given new file) → (b : Bool) → the_files.given mid file ≡ b
          → IsAtEnd (the_files.left new file)
      ended file fresh given true is =
          subst (λ f. IsAtEnd (the_files.left new f)) (sym (the_first file fresh is)) (subst IsAtEnd (sym left_first) r.none_left)
      ended file fresh given false is = rest.none_left file (not_given file is) given

      tells : (file : ℕ) → (IsTrue (the_files.given old file) → ⊥) → IsTrue (the_files.given new file) → (b : Bool) → the_files.given mid file ≡ b
          → IfTold (the_files.held old) (name ∷ names) (IsSome (the_files.left new file))
      tells file fresh given true is =
          subst (λ f. IfTold (the_files.held old) (name ∷ names) (IsSome (the_files.left new f))) (sym (the_first file fresh is))
          (if_both (IsSome (the_files.left new r.file)) (IfTold (the_files.held old) names (IsSome (the_files.left new r.file))) (the_files.held old name)
          (told_at_all (the_files.held old) (IsSome (the_files.left new r.file)) names)
          (subst (λ l. IfSome (the_files.held old name) (λ _. IsSome l)) (sym left_first) r.told))
      tells file fresh given false is =
          under (IfTold (the_files.held old) names (IsSome (the_files.left new file))) (the_files.held old name)
          (told_then old mid (IsSome (the_files.left new file)) kept.held_same names (rest.told file (not_given file is) given))

-- names with the first one
pub first_name : (names : List (List ℕ)) (name : List ℕ) → 1 ≤ length names → name ≡ get_or names 0 name
    → names ≡ name ∷ take (length names - 1) (drop 1 names)
first_name [] name some is = absurd (omega (arith, some))
first_name (n ∷ names) name some is =
    let count : suc (length names) - 1 ≡ length names = omega arith in
    λ i. sym is i ∷ (sym (take-length names) ∙ ap (λ k. take k names) (sym count)) i

-- where an answer is an output, what follows from what is so then
pub ok_then : {T : Type 0} (result : Result T Failure) (P Q : Type 0) → (P → Q) → OnOk result P → OnOk result Q
ok_then (Ok output) P Q step h = step h
ok_then (Err f) P Q step h = tt
