-- The answer for settings that may name a `.proto` file, from that where its types are known.
use Rattle.std.proofs.Common.{◌≡◌, ◌≢◌, ℕ, suc, ◌-◌, ◌≤◌, ◌⊎◌, inl, inr, List, [], ◌∷◌, ◌++◌, Bool, true, false, true≢false}
use Rattle.std.proofs.Common.{Option, Some, None, refl, sym, ap, ◌∙◌, subst, arith, append_assoc}
use Rattle.std.specs.Prelude.{IfSome, IsSome, IsTrue, unwrap_or, option_to_list, Result, Ok, Err, OnOk}
use Rattle.std.specs.Io.KnownBytes.{IsAtEnd}
use Rattle.sz_io.specs.Rose.{Rose}
use Rattle.sz_io.specs.Opened.{KeepsFiles}
use Rattle.sz_io.specs.Calls.{ReadToEnd}
use Rattle.sz_io.proofs.ForCallers.{rose_later}
use Rattle.sz_io.specs.declared.files.Files as files
use Rattle.sz_words.specs.declared.settings.Settings.{Settings}
use Rattle.sz_words.specs.declared.error.WordsError.{WordsError}
use Rattle.sz_words.specs.declared.error.WordsError.TheVariants as words_errors
use Rattle.sz_words.specs.Settings.{settings_in}
use Rattle.sz_protofile.specs.Types.{TypeShape}
use Rattle.sz_protofile_types.specs.Readings.{FileReading, bad_file, with_types}
use Rattle.szl.specs.declared.status.Status.{Status}
use Rattle.szl.specs.declared.status.Status.TheVariants as status
use Rattle.szl.specs.declared.failure.Failure.{Failure}
use Rattle.szl.specs.declared.failure.Failure.TheVariants as failure
use Rattle.szl.specs.Answers.{Answer}
use Rattle.szl.specs.Failing.{status_of}
use Rattle.szl.specs.Opening.{status_of_answer, Decides, AnswersWith, AnswersAfter, Answers}
use Rattle.szl.specs.Outcome.{outcome_with, outcome_after}
use Rattle.szl.specs.Judgement.{Reading}
use Rattle.szl.specs.Judging.{failure_of_words}
use Rattle.szl.specs.Merging.{Merged, bad}
use Rattle.szl.specs.Promise.{OpensFiles, later_names, AreOfFiles, AreReadToEnd, IfTold}
use Rattle.szl.specs.ProtoFiles.{IsFileRead, proto_asked, after_file}
use Rattle.szl.specs.ProtoReads.{ReadsTypes, GivesTypes}
use Rattle.szl.specs.Records.{Cut}
use Rattle.szl.specs.Settings.{frame_asked}
use Rattle.szl.proofs.JudgementLemmas.{every_text_is_read}
use Rattle.szl.proofs.OpeningLemmas.{holds_or}
use Rattle.szl.proofs.OpenedLemmas.{none_of, new_since, opened_none, opened_one, opened_or_none, opened_then}
use Rattle.szl.proofs.AnswerLemmas.{cut_of}
use Rattle.szl.proofs.JoinLemmas.{joins_few}
use Rattle.szl.proofs.ProtoLemmas.{every_file_is_read, empty_file}
use Rattle.szl.proofs.SettingsLemmas.{NamesProgram, of_run, of_check, answered, joins_nothing, input_or, files_or, decides_since, under, no_settings}
use Rattle.szl.proofs.WordsLemmas.{no_memory_for}

-- one more file is opened before an answer, which says the same
says_after : (name : List ℕ) (o : Answer) {status : Status} {output line : List ℕ}
    → o ≡ record { status = status; output = output; line = line; opens = o.opens }
    → after_file (Some name) o ≡ record { status = status; output = output; line = line; opens = suc o.opens }
says_after name o is = ap (λ (a : Answer). record a { opens = suc o.opens }) is

pub decides_after : (name : List ℕ) (answer : Result (List ℕ) Failure) (o : Answer) (rose : Type 0) → Decides answer o rose
    → Decides answer (after_file (Some name) o) rose
decides_after name (Ok output) o rose h = says_after name o h
decides_after name (Err failure.ReadFailed) o rose h = h
decides_after name (Err failure.WriteFailed) o rose h = h
decides_after name (Err failure.NoMemory) o rose h = h
decides_after name (Err failure.DiskFailed) o rose h = absurd h
decides_after name (Err _) o rose h = says_after name o h

-- the bytes that files hold for settings that name a program are those that they hold later
held_before : (held later : List ℕ → Option (List ℕ)) → ((name : List ℕ) → later name ≡ held name) → (s : Settings) (name : List ℕ) → NamesProgram s name
    → (text input : List ℕ) (saved : List (List ℕ)) → AreOfFiles (Some s) later text input saved → AreOfFiles (Some s) held text input saved
held_before held later same _ _ (of_run s) text input saved h = (
  subst (λ o. IfSome o (λ bytes. bytes ≡ text)) (same s.program) h.0,
  subst (λ o. IfSome o (λ bytes. bytes ≡ input)) (same s.input) h.1,
)
held_before held later same _ _ (of_check program proto) text input saved h = subst (λ o. IfSome o (λ bytes. bytes ≡ text)) (same program) h

-- an outcome after a file is no bad command line
other_after : (file_name : List ℕ) (file : FileReading) (s : Settings) (name : List ℕ) → NamesProgram s name → (reading : Reading) (cut : Cut)
    (merged : Merged)
    → (outcome_after (Some file_name) file (Some s) reading cut merged).status ≢ status.Usage
other_after file_name (bad_file f) s name n reading cut merged = λ e. cc
other_after file_name (with_types types) s name n reading cut merged = (answered types s name n reading cut merged).other

module _ {F : Type 0} (the_files : files.Ghosts F) (asked : Option Settings) (old new : F) (answer : Result (List ℕ) Failure) where
  -- no file is asked for
  pub no_file : AnswersWith the_files [] asked old new answer → AnswersAfter the_files None asked old new answer
  no_file a = record {
    file_bytes = [];
    file = with_types [];
    file_read = empty_file;
    of_file = refl;
    text = a.text;
    reading = a.reading;
    read = a.read;
    input = a.input;
    cut = a.cut;
    is_cut = a.is_cut;
    saved = a.saved;
    merged = a.merged;
    is_merged = a.is_merged;
    of_files = a.of_files;
    decides = a.decides;
    opened = a.opened;
  }

-- memory ran out before a file was opened
pub nothing_after : {F : Type 0} (the_files : files.Ghosts F) (name : Option (List ℕ)) (asked : Option Settings) (old : F)
    → AnswersWith the_files [] asked old old (Err failure.NoMemory) → AnswersAfter the_files name asked old old (Err failure.NoMemory)
nothing_after the_files None asked old a = no_file the_files asked old old (Err failure.NoMemory) a
nothing_after the_files (Some name) asked old a =
    let bytes = unwrap_or (the_files.held old name) [] in
    let r = every_file_is_read bytes in
    record {
      file_bytes = bytes;
      file = r.file;
      file_read = r.read;
      of_file = holds_or (the_files.held old name) [];
      text = a.text;
      reading = a.reading;
      read = a.read;
      input = a.input;
      cut = a.cut;
      is_cut = a.is_cut;
      saved = a.saved;
      merged = a.merged;
      is_merged = a.is_merged;
      of_files = a.of_files;
      decides = tt;
      opened = opened_none the_files old (name ∷ later_names asked) _ status.NoMemory (λ e. cc) (λ read memory. absurd (memory refl));
    }

-- words without settings
pub words_fail : {F : Type 0} (the_files : files.Ghosts F) (old : F) (words : List (List ℕ)) (e : WordsError)
    → (e ≡ words_errors.Usage → settings_in words ≡ None) → Answers the_files (settings_in words) old old (Err (failure_of_words e))
words_fail the_files old words words_errors.Usage none =
    subst (λ asked. Answers the_files asked old old (Err failure.Usage)) (sym (none refl))
    (no_file the_files None old old (Err failure.Usage) (no_settings the_files [] old))
words_fail the_files old words words_errors.NoMemory none =
    nothing_after the_files (proto_asked (settings_in words)) (settings_in words) old (no_memory_for the_files [] old (settings_in words) (joins_few words))

module _ {F : Type 0} (the_files : files.Ghosts F) (s : Settings) (name : List ℕ) (n : NamesProgram s name) (old : F) where
  -- the file couldn't be read, or is refused
  failed_file : (file_name : List ℕ) (new : F) (f : Failure) (r : ReadsTypes the_files file_name old new (Err f)) (file : FileReading)
      → IsFileRead r.bytes file
      → ((reading : Reading) (cut : Cut) → Decides (Err f) (outcome_after (Some file_name) file (Some s) reading cut (bad 0))
      (Rose (the_files.faults old) (the_files.faults new)))
      → ((reading : Reading) (cut : Cut) → OpensFiles the_files old new (file_name ∷ later_names (Some s))
      (outcome_after (Some file_name) file (Some s) reading cut (bad 0)).opens (status_of f))
      → AnswersAfter the_files (Some file_name) (Some s) old new (Err f)
  failed_file file_name new f r file read decides opened =
      let text = unwrap_or (the_files.held old name) [] in
      let t = every_text_is_read text in
      let input = input_or (the_files.held old) s name n in
      let c = cut_of (frame_asked (Some s)) input in
      record {
        file_bytes = r.bytes;
        file = file;
        file_read = read;
        of_file = r.holds;
        text = text;
        reading = t.reading;
        read = t.read;
        input = input;
        cut = c.cut;
        is_cut = c.is_cut;
        saved = [];
        merged = bad 0;
        is_merged = joins_nothing s name n [] (bad 0);
        of_files = files_or (the_files.held old) s name n text (holds_or (the_files.held old name) []);
        decides = decides t.reading c.cut;
        opened = opened t.reading c.cut;
      }

  opens_some : (file_name : List ℕ) (file : FileReading) (reading : Reading) (cut : Cut)
      → 1 ≤ (outcome_after (Some file_name) file (Some s) reading cut (bad 0)).opens
  opens_some file_name file reading cut = omega arith

  pub file_fails : (file_name : Option (List ℕ)) (new : F) (f : Failure) → GivesTypes the_files file_name old new (Err f)
      → AnswersAfter the_files file_name (Some s) old new (Err f)
  file_fails None new f r = let e = r.1 in absurd (cc)
  file_fails (Some file_name) new (failure.BadProtoFile f) r =
      failed_file file_name new (failure.BadProtoFile f) r (bad_file f) r.tells (λ reading cut. refl)
      (λ reading cut. opened_one the_files old new file_name (later_names (Some s)) 1 status.BadProtoFile (omega arith) r.gained
      (λ read memory. refl) r.opened)
  file_fails (Some file_name) new failure.ReadFailed r =
      let g = every_file_is_read r.bytes in
      failed_file file_name new failure.ReadFailed r g.file g.read
      (λ reading cut. (r.tells, other_after file_name g.file s name n reading cut (bad 0)))
      (λ reading cut. opened_one the_files old new file_name (later_names (Some s)) _ status.ReadFailed (opens_some file_name g.file reading cut) r.gained
      (λ read memory. absurd (read refl)) r.opened)
  file_fails (Some file_name) new failure.NoMemory r =
      let g = every_file_is_read r.bytes in
      failed_file file_name new failure.NoMemory r g.file g.read (λ reading cut. tt)
      (λ reading cut. opened_or_none the_files old new file_name (later_names (Some s)) _ (opens_some file_name g.file reading cut) r.gained)
  file_fails (Some file_name) new _ r = absurd r.tells

  -- the file's types are known, and the rest is answered with these
  pub file_known : (file_name : Option (List ℕ)) (mid new : F) (types : List TypeShape) (answer : Result (List ℕ) Failure)
      → GivesTypes the_files file_name old mid (Ok types)
      → KeepsFiles the_files.held the_files.left the_files.given the_files.faults old mid
      → KeepsFiles the_files.held the_files.left the_files.given the_files.faults mid new
      → AnswersWith the_files types (Some s) mid new answer → AnswersAfter the_files file_name (Some s) old new answer
  file_known None mid new types answer r kept after a =
      no_file the_files (Some s) old new answer
      (subst (λ ts. AnswersWith the_files ts (Some s) old new answer) (same types r.1)
      (subst (λ m. AnswersWith the_files types (Some s) m new answer) r.0 a))
    where
      same : (ts : List TypeShape) → ◌≡◌ {A = Result (List TypeShape) Failure} (Ok ts) (Ok []) → ts ≡ []
      same ts is = cc
  file_known (Some file_name) mid new types answer r kept after a =
      let o = outcome_with types (Some s) a.reading a.cut a.merged in
      let less : suc o.opens - 1 ≡ o.opens = omega arith in
      record {
        file_bytes = r.bytes;
        file = with_types types;
        file_read = r.tells;
        of_file = r.holds;
        text = a.text;
        reading = a.reading;
        read = a.read;
        input = a.input;
        cut = a.cut;
        is_cut = a.is_cut;
        saved = a.saved;
        merged = a.merged;
        is_merged = a.is_merged;
        of_files = held_before (the_files.held old) (the_files.held mid) kept.held_same s name n a.text a.input a.saved a.of_files;
        decides = decides_after file_name answer o _ (decides_since answer o _ _ (rose_later _ _ _ kept.faults_later) a.decides);
        opened = opened_then the_files old mid new file_name (later_names (Some s)) (suc o.opens) (status_of_answer answer) (omega arith) r.gained kept after
            (r.opened (λ e. cc) (λ e. cc))
            (subst (λ k. OpensFiles the_files mid new (later_names (Some s)) k (status_of_answer answer)) (sym less) a.opened);
      }

-- ---- files at their ends

-- a fact under what may be told of several
told_always : (held : List ℕ → Option (List ℕ)) (names : List (List ℕ)) (P : Type 0) → P → IfTold held names P
told_always held [] P p = p
told_always held (name ∷ names) P p = under (IfTold held names P) (held name) (told_always held names P p)

told_more : (held : List ℕ → Option (List ℕ)) (names : List (List ℕ)) (P : Type 0) (h : Option (List ℕ)) → IfSome h (λ _. P)
    → IfSome h (λ _. IfTold held names P)
told_more held names P None p = tt
told_more held names P (Some bytes) p = told_always held names P p

told_before : (held later : List ℕ → Option (List ℕ)) → ((name : List ℕ) → later name ≡ held name) → (names : List (List ℕ)) (P : Type 0)
    → IfTold later names P → IfTold held names P
told_before held later same [] P h = h
told_before held later same (name ∷ names) P h =
    by (told_before held later same names P) (held name) (subst (λ o. IfSome o (λ _. IfTold later names P)) (same name) h)
  where
    by : (IfTold later names P → IfTold held names P) → (o : Option (List ℕ)) → IfSome o (λ _. IfTold later names P) → IfSome o (λ _. IfTold held names P)
    by more None h = tt
    by more (Some bytes) h = more h

-- one file was read to its end, and then the others
pub then_read : {F : Type 0} (the_files : files.Ghosts F) (name : List ℕ) (names : List (List ℕ)) (old mid new : F)
    → the_files.names mid ≡ the_files.names old ++ name ∷ []
    → KeepsFiles the_files.held the_files.left the_files.given the_files.faults old mid
    → KeepsFiles the_files.held the_files.left the_files.given the_files.faults mid new
    → ReadToEnd the_files old mid name → AreReadToEnd the_files mid new names → AreReadToEnd the_files old new (name ∷ names)
then_read {F} the_files name names old mid new named kept later r1 rest = record {
  all_opened = rest.all_opened ∙ ap (λ ns. ns ++ names) named ∙ append_assoc (the_files.names old) (name ∷ []) names;
  each = record {
    opened = r1.file ∷ rest.each.opened;
    one_each = ap suc rest.each.one_each;
    are_new = (
      (r1.not_before, later.given_still r1.file r1.given_now),
      (
        none_of (the_files.given mid) (the_files.given new) r1.file rest.each.opened r1.given_now rest.each.are_new,
        new_since (the_files.given old) (the_files.given mid) (the_files.given new) kept.given_still rest.each.opened rest.each.are_new,
      ),
    );
  };
  none_left = λ file fresh given. ended file fresh given (the_files.given mid file) refl;
  told = λ file fresh given. tells file fresh given (the_files.given mid file) refl;
}
  where
    is_first : (file : ℕ) → (IsTrue (the_files.given old file) → ⊥) → (file ≡ r1.file) ⊎ IsTrue (the_files.given old file) → file ≡ r1.file
    is_first file fresh (inl is) = is
    is_first file fresh (inr was) = absurd (fresh was)

    first : (file : ℕ) → (IsTrue (the_files.given old file) → ⊥) → the_files.given mid file ≡ true → file ≡ r1.file
    first file fresh e = is_first file fresh (r1.no_other file (subst IsTrue (sym e) refl))

    left_first : the_files.left new r1.file ≡ the_files.left mid r1.file
    left_first = later.left_same r1.file r1.given_now

    not_given : (file : ℕ) → the_files.given mid file ≡ false → IsTrue (the_files.given mid file) → ⊥
    not_given file e g = true≢false (sym g ∙ e)

    ended : (file : ℕ) → (IsTrue (the_files.given old file) → ⊥) → IsTrue (the_files.given new file) → (b : Bool) → the_files.given mid file ≡ b
        → IsAtEnd (the_files.left new file)
    ended file fresh given true e =
        subst (λ f. IsAtEnd (the_files.left new f)) (sym (first file fresh e)) (subst IsAtEnd (sym left_first) r1.none_left)
    ended file fresh given false e = rest.none_left file (not_given file e) given

    tells : (file : ℕ) → (IsTrue (the_files.given old file) → ⊥) → IsTrue (the_files.given new file) → (b : Bool) → the_files.given mid file ≡ b
        → IfSome (the_files.held old name) (λ _. IfTold (the_files.held old) names (IsSome (the_files.left new file)))
    tells file fresh given true e =
        told_more (the_files.held old) names (IsSome (the_files.left new file)) (the_files.held old name)
        (subst (λ f. IfSome (the_files.held old name) (λ _. IsSome (the_files.left new f))) (sym (first file fresh e))
        (subst (λ h. IfSome (the_files.held old name) (λ _. IsSome h)) (sym left_first) r1.told))
    tells file fresh given false e =
        under _ (the_files.held old name)
        (told_before (the_files.held old) (the_files.held mid) kept.held_same names (IsSome (the_files.left new file))
        (rest.told file (not_given file e) given))

-- the `.proto` file, if one is named, was read to its end, and then the others
pub after_read : {F : Type 0} (the_files : files.Ghosts F) (file_name : Option (List ℕ)) (names : List (List ℕ)) (old mid new : F) (types : List TypeShape)
    → GivesTypes the_files file_name old mid (Ok types)
    → KeepsFiles the_files.held the_files.left the_files.given the_files.faults old mid
    → KeepsFiles the_files.held the_files.left the_files.given the_files.faults mid new
    → IfSome file_name (λ name. ReadToEnd the_files old mid name) → AreReadToEnd the_files mid new names
    → AreReadToEnd the_files old new (option_to_list file_name ++ names)
after_read the_files None names old mid new types r kept later first rest = subst (λ m. AreReadToEnd the_files m new names) r.0 rest
after_read the_files (Some name) names old mid new types r kept later first rest = then_read the_files name names old mid new r.gained kept later first rest

pub when_both : {T E P Q : Type 0} (r : Result T E) → (P → Q) → OnOk r P → OnOk r Q
when_both (Ok value) f p = f p
when_both (Err error) f p = tt
