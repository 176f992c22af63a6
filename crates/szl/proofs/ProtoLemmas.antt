-- What the `.proto` file of a command line is read as, and what reading it tells.
use Rattle.std.proofs.Common.{◌≡◌, inr, ℕ, ◌<◌, ◌≤◌, Bool, true, false, nat_lt, List, [], ◌∷◌, ◌++◌, length, Option, Result, Ok, Err}
use Rattle.std.proofs.Common.{refl, sym, subst, arith}
use Rattle.std.specs.Prelude.{IfSome}
use Rattle.std.proofs.lemmas.Bool.Decides.{nat_tests}
use Rattle.sz_types.specs.Data as data_of
use Rattle.sz_types.specs.Data.{fields_of}
use Rattle.sz_io.specs.Calls.{NamesGain, OpensOne}
use Rattle.sz_io.specs.declared.files.Files as files
use Rattle.sz_io.specs.Rose.{Rose}
use Rattle.sz_protofile_lex.specs.Tokens.{tokens_from}
use Rattle.sz_protofile.specs.Lines.{Reads}
use Rattle.sz_protofile.specs.declared.fault.Fault.{Fault}
use Rattle.sz_protofile.specs.Names.{messages_in}
use Rattle.sz_protofile.specs.Faults.{first_fault}
use Rattle.sz_protofile.specs.Types.{TypeShape, HasTypes, IsRefused}
use Rattle.sz_protofile_names.specs.declared.error.ProtoError.TheVariants as proto_errors
use Rattle.sz_protofile_names.specs.Outcome.{OrNoMemory}
use Rattle.sz_protofile_types.specs.Readings.{FileReading, bad_file, with_types}
use Rattle.sz_protofile_types.proofs.ReadingLaws.{one_reading}
use Rattle.sz_protofile_types.proofs.ReadingLaws as laws
use Rattle.szl.specs.declared.failure.Failure.{Failure}
use Rattle.szl.specs.declared.failure.Failure.TheVariants as failure
use Rattle.szl.specs.Failing.{status_of}
use Rattle.szl.specs.Opening.{ReadsText, ran_out}
use Rattle.szl.specs.Promise.{IfRead}
use Rattle.szl.specs.ProtoFiles.{most_file_bytes, file_too_long, IsFileRead, long, short, HasFileReading}
use Rattle.szl.specs.ProtoReads.{past_file, TellsTypes, ReadsTypes}

-- ---- readings

pub every_file_is_read : (bytes : List ℕ) → HasFileReading bytes
every_file_is_read bytes = by_test (nat_lt most_file_bytes (length bytes)) refl
  where
    is_long : (n : ℕ) → nat_lt most_file_bytes n ≡ true → most_file_bytes < n
    is_long n e = grind (arith, nat_tests)

    is_short : (n : ℕ) → nat_lt most_file_bytes n ≡ false → n ≤ most_file_bytes
    is_short n e = grind (arith, nat_tests)

    by_test : (b : Bool) → nat_lt most_file_bytes (length bytes) ≡ b → HasFileReading bytes
    by_test true e = record { file = bad_file file_too_long; read = long (is_long (length bytes) e) }
    by_test false e =
        let r = laws.every_file_is_read bytes in
        record { file = r.reading; read = short r.reading (is_short (length bytes) e) r.read }

pub one_file_reading : (bytes : List ℕ) (a b : FileReading) → IsFileRead bytes a → IsFileRead bytes b → a ≡ b
one_file_reading bytes _ _ (long m) (long n) = refl
one_file_reading bytes _ _ (long m) (short file n h) = absurd (omega (arith, m, n))
one_file_reading bytes _ _ (short file n h) (long m) = absurd (omega (arith, m, n))
one_file_reading bytes _ _ (short file m h) (short other n k) = one_reading bytes file other h k

-- a file without bytes has no types
has_none : HasTypes [] []
unfolding tokens_from Reads first_fault messages_in
has_none = record {
  all = [];
  sound = record { lines = record { tokens = []; lexed = refl; reads = (refl, refl) }; sound = refl };
  types = λ m. data_of.proto (fields_of []);
  are = λ s c. absurd (omega (arith, c.1));
  within = omega arith;
  answer_is = refl;
}

pub empty_file : IsFileRead [] (with_types [])
empty_file = short (with_types []) (omega arith) has_none

-- ---- what reading tells

-- the types were found
pub types_found : (bytes : List ℕ) (types : List TypeShape) → length bytes ≤ most_file_bytes → HasTypes bytes types → TellsTypes bytes ⊥ (Ok types)
types_found bytes types few has = short (with_types types) few has

-- the file is refused
pub types_refused : (bytes : List ℕ) (f : Fault) → length bytes ≤ most_file_bytes → OrNoMemory (proto_errors.Refused f.number f.place f.name) (IsRefused bytes)
    → TellsTypes bytes ⊥ (Err (failure.BadProtoFile f))
types_refused bytes f few is = short (bad_file f) few is

-- what is told without a count that rose is told whatever rose
pub tells_still : (bytes : List ℕ) (rose : Type 0) (answer : Result (List TypeShape) Failure) → TellsTypes bytes ⊥ answer → TellsTypes bytes rose answer
tells_still bytes rose (Ok types) h = h
tells_still bytes rose (Err (failure.BadProtoFile f)) h = h
tells_still bytes rose (Err failure.NoMemory) h = h
tells_still bytes rose (Err _) h = absurd h

-- the file couldn't be read, or is too long
pub unread_tells : (told : Option (List ℕ)) (rose : Type 0) (f : Failure) (r : ReadsText told most_file_bytes past_file rose (Err f))
    → TellsTypes r.text rose (Err f)
unread_tells told rose (failure.BadProtoFile f) r = too_long f r.tells.0
  where
    too_long : (g : Fault) → failure.BadProtoFile g ≡ past_file → IsFileRead r.text (bad_file g)
    too_long g is = subst (λ (x : Fault). IsFileRead r.text (bad_file x)) (sym (same g is)) (long r.tells.1)
      where
        same : (g : Fault) → failure.BadProtoFile g ≡ past_file → g ≡ file_too_long
        same g is = cc
unread_tells told rose failure.ReadFailed r = r.tells
unread_tells told rose failure.NoMemory r = tt
unread_tells told rose _ r = let e = r.tells.0 in absurd (cc)

-- a file that was read holds these bytes, where they are told
pub bytes_held : (told : Option (List ℕ)) (limit : ℕ) (past : Failure) (rose : Type 0) (bytes : List ℕ) → ReadsText told limit past rose (Ok bytes)
    → IfSome told (λ held. held ≡ bytes)
bytes_held told limit past rose bytes r = subst (λ t. IfSome told (λ held. held ≡ t)) (sym r.tells.0) r.holds

module _ {F : Type 0} (the_files : files.Ghosts F) (name : List ℕ) (old new : F) where
  -- the file couldn't be read, or is too long
  pub file_unread : (f : Failure)
      → ReadsText (the_files.held old name) most_file_bytes past_file (Rose (the_files.faults old) (the_files.faults new)) (Err f)
      → NamesGain (ran_out {A = List ℕ} (Err f)) (the_files.names old) (the_files.names new) name → IfRead (status_of f) (OpensOne the_files old new)
      → ReadsTypes the_files name old new (Err f)
  file_unread f r gained opened = record {
    bytes = r.text;
    holds = r.holds;
    tells = unread_tells (the_files.held old name) _ f r;
    gained = gains f gained;
    opened = opened;
  }
    where
      gains : (f : Failure) → NamesGain (ran_out {A = List ℕ} (Err f)) (the_files.names old) (the_files.names new) name
          → NamesGain (ran_out {A = List TypeShape} (Err f)) (the_files.names old) (the_files.names new) name
      gains failure.NoMemory h = h
      gains _ h = h

  -- it was read, and this is said of its types
  pub file_told : (bytes : List ℕ) (answer : Result (List TypeShape) Failure) (rose : Type 0)
      → ReadsText (the_files.held old name) most_file_bytes past_file rose (Ok bytes)
      → the_files.names new ≡ the_files.names old ++ name ∷ [] → OpensOne the_files old new → TellsTypes bytes ⊥ answer
      → ReadsTypes the_files name old new answer
  file_told bytes answer rose r gained one h = record {
    bytes = bytes;
    holds = subst (λ t. IfSome (the_files.held old name) (λ told. told ≡ t)) (sym r.tells.0) r.holds;
    tells = tells_still bytes _ answer h;
    gained = gains answer;
    opened = λ read memory. one;
  }
    where
      gains : (a : Result (List TypeShape) Failure) → NamesGain (ran_out a) (the_files.names old) (the_files.names new) name
      gains (Err failure.NoMemory) = inr gained
      gains _ = gained
