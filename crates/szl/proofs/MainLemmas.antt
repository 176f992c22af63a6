-- The promise of the top call, from the answer, what was printed of it, and the line.
use Rattle.std.proofs.Common.{◌≡◌, ◌≢◌, ℕ, ◌<◌, List, [], ◌∷◌, length, Option, refl, sym, ap, ◌∙◌, subst, arith, inl, inr, ◌⊎◌}
use Rattle.std.specs.Prelude.{Result, Ok, Err}
use Rattle.std.specs.Io.KnownBytes.{Appends}
use Rattle.std.proofs.KnownBytes.{Appends-nil}
use Rattle.sz_io.specs.Calls.{GainsLine}
use Rattle.sz_io.specs.declared.files.Files as files
use Rattle.sz_io.specs.declared.sink.Sink as sink
use Rattle.szl.specs.declared.status.Status.{Status}
use Rattle.szl.specs.declared.status.Status.TheVariants as status
use Rattle.szl.specs.declared.failure.Failure.{Failure}
use Rattle.szl.specs.declared.failure.Failure.TheVariants.{DiskFailed, ReadFailed, WriteFailed, NoMemory}
use Rattle.szl.specs.Failing.{status_of, line_of_failure}
use Rattle.szl.specs.Opening.{Decides, Answers, status_of_answer}
use Rattle.szl.specs.Answers.{Answer, Says, success}
use Rattle.szl.specs.Outcome.{outcome}
use Rattle.szl.specs.Printing.{Prints, PrintsNothing}
use Rattle.szl.specs.Promise.{IsStatusOf, AppendsPrefix, GainsOutput, IsLeftAlone, MeansSource, OpensFiles, line_of, names_asked}
use Rattle.sz_words.specs.Settings.{settings_in}
use Rattle.szl.proofs.OpenedLemmas.{opened_no_memory, opened_unwritten}

-- where a place is within the bytes, there are some
pub some_bytes : (place : ℕ) (bytes : List ℕ) → place < length bytes → bytes ≢ []
some_bytes place [] within = absurd (omega (arith, within))
some_bytes place (b ∷ bytes) within = not_none
  where
    not_none : b ∷ bytes ≡ [] → ⊥
    not_none p = cc

-- what a status says of an answer, of the output and of the line
pub record Fits (answer : Answer) (s : Status) (old new : Option (List ℕ)) : Type 0 where
  pub status_is : IsStatusOf answer s
  pub output : GainsOutput s old new answer.output

prefix_none : (old : Option (List ℕ)) (bytes : List ℕ) (new : Option (List ℕ)) → Appends old new [] → AppendsPrefix old new bytes
prefix_none old bytes new h = record { count = 0; appends = h }

-- all was printed
pub fits_done : (answer : Answer) (output : List ℕ) (old new : Option (List ℕ)) → Says answer (success output) → Appends old new output → Fits answer
    status.Done old new
fits_done answer output old new is h =
    subst (λ a. Fits a status.Done old new) (sym is) (record { status_is = refl; output = h })

-- a failure before anything was printed
fits_error : (answer : Answer) (f : Failure) (rose : Type 0) (old new : Option (List ℕ)) → Decides (Err f) answer rose
    → Appends old new [] → Fits answer (status_of f) old new
fits_error answer DiskFailed rose old new decides h = absurd decides
fits_error answer ReadFailed rose old new decides h = record { status_is = decides.1; output = h }
fits_error answer WriteFailed rose old new decides h = absurd decides
fits_error answer NoMemory rose old new decides h = record { status_is = tt; output = prefix_none old answer.output new h }
fits_error answer _ rose old new decides h = record { status_is = sym (ap (λ (a : Answer). a.status) decides); output = h }

-- why printing ended in a failure: there was one before, and nothing was printed; or writing failed, or memory ran out
pub data Ended (old new : Option (List ℕ)) : Result (List ℕ) Failure → Failure → Type 0 where
  before : (f : Failure) → Appends old new [] → Ended old new (Err f) f
  unwritten : (output : List ℕ) → output ≢ [] → AppendsPrefix old new output → Ended old new (Ok output) WriteFailed
  no_room : (output : List ℕ) → AppendsPrefix old new output → Ended old new (Ok output) NoMemory

pub ended : (f : Failure) (made : Result (List ℕ) Failure) (old new : Option (List ℕ)) → Prints {T = Unit {0}} old new made (Err f) → Ended old new made f
ended f (Err g) old new printed = subst (Ended old new (Err g)) (sym printed.0) (before g printed.1)
ended WriteFailed (Ok output) old new printed = unwritten output printed.0 printed.1
ended NoMemory (Ok output) old new printed = no_room output printed
ended _ (Ok output) old new printed = absurd printed

-- a failure, before or while something was printed
pub fits_failure : (answer : Answer) (f : Failure) (made : Result (List ℕ) Failure) (rose : Type 0) (old new : Option (List ℕ))
    → Decides made answer rose → Ended old new made f → Fits answer (status_of f) old new
fits_failure answer _ _ rose old new decides (before g none) = fits_error answer g rose old new decides none
fits_failure answer _ _ rose old new decides (unwritten output some part) =
    subst (λ a. Fits a status.WriteFailed old new) (sym decides) (record { status_is = (refl, some); output = part })
fits_failure answer _ _ rose old new decides (no_room output part) =
    subst (λ a. Fits a status.NoMemory old new) (sym decides) (record { status_is = tt; output = part })

line_error : (answer : Answer) (f : Failure) (rose : Type 0) → Decides (Err f) answer rose → line_of_failure f ≡ line_of answer (status_of f)
line_error answer DiskFailed rose decides = absurd decides
line_error answer ReadFailed rose decides = refl
line_error answer WriteFailed rose decides = refl
line_error answer NoMemory rose decides = refl
line_error answer _ rose decides = sym (ap (λ (a : Answer). a.line) decides)

-- the line of a failure is that of its status
pub line_is : (answer : Answer) (f : Failure) (made : Result (List ℕ) Failure) (rose : Type 0) (old new : Option (List ℕ))
    → Decides made answer rose → Ended old new made f → line_of_failure f ≡ line_of answer (status_of f)
line_is answer _ _ rose old new decides (before g none) = line_error answer g rose decides
line_is answer _ _ rose old new decides (unwritten output some part) = refl
line_is answer _ _ rose old new decides (no_room output part) = refl

-- where printing failed, a prefix of the output is written at the most, so want of memory fits
pub fits_no_memory : (answer : Answer) (f : Failure) (made : Result (List ℕ) Failure) (rose : Type 0) (old new : Option (List ℕ))
    → Decides made answer rose → Ended old new made f → Fits answer status.NoMemory old new
fits_no_memory answer _ _ rose old new decides (before g none) = record { status_is = tt; output = prefix_none old answer.output new none }
fits_no_memory answer _ _ rose old new decides (unwritten output some part) =
    subst (λ a. Fits a status.NoMemory old new) (sym decides) (record { status_is = tt; output = part })
fits_no_memory answer _ _ rose old new decides (no_room output part) =
    subst (λ a. Fits a status.NoMemory old new) (sym decides) (record { status_is = tt; output = part })

-- a sink that is as it was is left alone at every status
alone_always : {O : Type 0} (s : Status) (output : List ℕ) (old new : O) → new ≡ old → IsLeftAlone s output old new
alone_always status.Done output old new same = λ none. same
alone_always status.WriteFailed output old new same = λ none. same
alone_always status.NoMemory output old new same = λ none. same
alone_always _ output old new same = same

-- the output is what was to be printed, so where it has no byte no call was made
pub alone_printed : {O : Type 0} (answer : Answer) (output : List ℕ) (old new : O) → Says answer (success output) → (output ≡ [] → new ≡ old)
    → answer.output ≡ [] → new ≡ old
alone_printed answer output old new is nothing none = nothing (sym (ap (λ (a : Answer). a.output) is) ∙ none)

-- a failure leaves the sink alone, and so does want of memory in its place
pub alone_failure : {O : Type 0} (answer : Answer) (f : Failure) (made : Result (List ℕ) Failure) (rose : Type 0) (told : Option (List ℕ))
    (told_now : Option (List ℕ)) (old new : O) → Decides made answer rose → Ended told told_now made f
    → PrintsNothing made old new → IsLeftAlone (status_of f) answer.output old new
alone_failure answer _ _ rose told told_now old new decides (before g none) nothing = alone_always (status_of g) answer.output old new nothing
alone_failure answer _ _ rose told told_now old new decides (unwritten output some part) nothing = alone_printed answer output old new decides nothing
alone_failure answer _ _ rose told told_now old new decides (no_room output part) nothing = alone_printed answer output old new decides nothing

pub alone_no_memory : {O : Type 0} (answer : Answer) (made : Result (List ℕ) Failure) (rose : Type 0) (old new : O) → Decides made answer rose
    → PrintsNothing made old new → IsLeftAlone status.NoMemory answer.output old new
alone_no_memory answer (Err g) rose old new decides nothing = alone_always status.NoMemory answer.output old new nothing
alone_no_memory answer (Ok output) rose old new decides nothing = alone_printed answer output old new decides nothing

-- the files are opened for the failure as they were for the answer
pub opened_failure : {F : Type 0} (the_files : files.Ghosts F) (old new : F) (asked : List (List ℕ)) (most : ℕ) (f : Failure)
    (made : Result (List ℕ) Failure) (told told_now : Option (List ℕ)) → Ended told told_now made f
    → OpensFiles the_files old new asked most (status_of_answer made) → OpensFiles the_files old new asked most (status_of f)
opened_failure the_files old new asked most _ _ told told_now (before g none) o = o
opened_failure the_files old new asked most _ _ told told_now (unwritten output some part) o = opened_unwritten the_files old new asked most o
opened_failure the_files old new asked most _ _ told told_now (no_room output part) o = opened_no_memory the_files old new asked most status.Done o

module _ {F O E : Type 0} (the_files : files.Ghosts F) (the_out : sink.Ghosts O) (the_err : sink.Ghosts E) (words : List (List ℕ))
    (old new : F) (out new_out : O) (err : E) where
  -- all was printed, and nothing is told
  pub means_done : (made : Result (List ℕ) Failure) (done : Unit {0}) → Answers the_files (settings_in words) old new made
      → Prints {T = Unit {0}} (the_out.taken out) (the_out.taken new_out) made (Ok done) → PrintsNothing made out new_out
      → MeansSource the_files the_out the_err words status.Done old new out new_out err err
  means_done (Err f) done a printed nothing = absurd printed
  means_done (Ok output) done a printed nothing =
      let o = outcome words a.file a.reading a.cut a.merged in
      let fit = fits_done o output (the_out.taken out) (the_out.taken new_out) a.decides printed in
      let no_line : [] ≡ o.line = sym (ap (λ (x : Answer). x.line) a.decides) in
      record {
        file_bytes = a.file_bytes;
        file = a.file;
        file_read = a.file_read;
        of_file = a.of_file;
        text = a.text;
        reading = a.reading;
        read = a.read;
        input = a.input;
        cut = a.cut;
        is_cut = a.is_cut;
        saved = a.saved;
        merged = a.merged;
        is_merged = a.is_merged;
        of_files = a.of_files;
        answers = fit.status_is;
        output = fit.output;
        left_alone = alone_printed o output out new_out a.decides nothing;
        line = subst (GainsLine the_err err err) no_line (record { count = 0; appends = Appends-nil (the_err.taken err); whole = inl (omega arith) });
        opened = a.opened;
      }

  -- a status that fits what was printed, and its line is told
  means : (new_err : E) (made : Result (List ℕ) Failure) (a : Answers the_files (settings_in words) old new made) (s : Status)
      → Fits (outcome words a.file a.reading a.cut a.merged) s (the_out.taken out) (the_out.taken new_out)
      → IsLeftAlone s (outcome words a.file a.reading a.cut a.merged).output out new_out
      → GainsLine the_err err new_err (line_of (outcome words a.file a.reading a.cut a.merged) s)
      → OpensFiles the_files old new (names_asked (settings_in words)) (outcome words a.file a.reading a.cut a.merged).opens s
      → MeansSource the_files the_out the_err words s old new out new_out err new_err
  means new_err made a s fit alone told opened = record {
    file_bytes = a.file_bytes;
    file = a.file;
    file_read = a.file_read;
    of_file = a.of_file;
    text = a.text;
    reading = a.reading;
    read = a.read;
    input = a.input;
    cut = a.cut;
    is_cut = a.is_cut;
    saved = a.saved;
    merged = a.merged;
    is_merged = a.is_merged;
    of_files = a.of_files;
    answers = fit.status_is;
    output = fit.output;
    left_alone = alone;
    line = told;
    opened = opened;
  }

  -- a failure, and its line is told, or that of want of memory
  pub means_failure : (new_err : E) (f told : Failure) (made : Result (List ℕ) Failure) → Answers the_files (settings_in words) old new made
      → Prints {T = Unit {0}} (the_out.taken out) (the_out.taken new_out) made (Err f) → PrintsNothing made out new_out → (told ≡ f) ⊎ (told ≡ NoMemory)
      → GainsLine the_err err new_err (line_of_failure told) → MeansSource the_files the_out the_err words (status_of told) old new out new_out err new_err
  means_failure new_err f told made a printed nothing (inl is) gained =
      let o = outcome words a.file a.reading a.cut a.merged in
      let end = ended f made (the_out.taken out) (the_out.taken new_out) printed in
      let line = ap line_of_failure is ∙ line_is o f made _ (the_out.taken out) (the_out.taken new_out) a.decides end in
      subst (λ t. MeansSource the_files the_out the_err words (status_of t) old new out new_out err new_err) (sym is)
      (means new_err made a (status_of f) (fits_failure o f made _ (the_out.taken out) (the_out.taken new_out) a.decides end)
      (alone_failure o f made _ (the_out.taken out) (the_out.taken new_out) out new_out a.decides end nothing)
      (subst (GainsLine the_err err new_err) line gained)
      (opened_failure the_files old new _ _ f made (the_out.taken out) (the_out.taken new_out) end a.opened))
  means_failure new_err f told made a printed nothing (inr is) gained =
      let o = outcome words a.file a.reading a.cut a.merged in
      let end = ended f made (the_out.taken out) (the_out.taken new_out) printed in
      subst (λ t. MeansSource the_files the_out the_err words (status_of t) old new out new_out err new_err) (sym is)
      (means new_err made a status.NoMemory (fits_no_memory o f made _ (the_out.taken out) (the_out.taken new_out) a.decides end)
      (alone_no_memory o made _ out new_out a.decides nothing)
      (subst (GainsLine the_err err new_err) (ap line_of_failure is) gained)
      (opened_no_memory the_files old new _ _ (status_of_answer made) a.opened))
