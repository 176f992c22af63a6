-- What is known of the bytes that were read, and of each input that they may begin.
use Rattle.std.proofs.Common.{◌≡◌, ℕ, ◌+◌, ◌^◌, ◌≤◌, List, [], ◌∷◌, ◌++◌, length, Bool, true, false, Option, Some, None}
use Rattle.std.proofs.Common.{refl, sym, ap, ◌∙◌, subst, arith, append-nil, length-append}
use Rattle.std.specs.Prelude.{is_some, ◌==◌}
use Rattle.std.proofs.lemmas.Bool.{eqb-true}
use Rattle.sz_types.specs.declared.frame.Frame.{Frame}
use Rattle.sz_records.specs.declared.ending.Ending.{Ending}
use Rattle.sz_records.specs.declared.ending.Ending.TheVariants.{Whole}
use Rattle.sz_records.specs.Cutting.{full, IsCut}
use Rattle.sz_records.specs.Ends.{RecordsData}
use Rattle.sz_records.specs.Fed.{FramerData, IsCutBy, HasReadBehind, Feeds, Finishes, EndSo, EndAsFed, EndAsFinished}
use Rattle.sz_records.proofs.CutLaws.{some_cut, cut_once, records_are_few}
use Rattle.sz_stream.specs.declared.done.Done.{Done}
use Rattle.sz_stream.specs.Inputs.{GoesOn}
use Rattle.sz_stream.specs.Intakes.{IsFed, HasTaken}

-- however the file goes on, the rest of it is cut by the framer in some way
record CutsRest (framer : FramerData) (more : List ℕ) : Type 0 where
  records : List (List ℕ)
  ending : Ending
  cut : IsCutBy framer more records ending

cuts_rest : (framer : FramerData) → framer.ended ≡ None → (more : List ℕ) → CutsRest framer more
cuts_rest framer none more =
    let c = framer.cutter in
    let rest = some_cut c.limits.records c.frame c.limits c.place c.count (framer.pending ++ more) (omega arith) in
    record { records = rest.records; ending = rest.ending; cut = rw none rest.cut }

-- an input that begins with what was read has the records that were given, and perhaps more after them
pub record Begins (given records : List (List ℕ)) (known : Option Ending) (ending : Ending) : Type 0 where
  pub more : List (List ℕ)
  pub same : records ≡ given ++ more
  pub ends : is_some known ≡ true → more ≡ []
  pub ending_is : (e : Ending) → known ≡ Some e → ending ≡ e

module _ (done : Done) (frame : Frame) (framer : FramerData) (read : List ℕ) (over : Bool) (given : List (List ℕ)) where
  pub begins : (known : Option Ending) → IsFed done frame framer known read over given → (input : List ℕ)
      → GoesOn read over input → (records : List (List ℕ)) (ending : Ending)
      → IsCut frame full done.bytes done.records input records ending → Begins given records known ending
  begins None fed input on records ending cut =
      let rest = cuts_rest framer fed.1 on.more in
      let whole = fed.0.goes_on on.more rest.records rest.ending rest.cut in
      let here = subst (λ bytes. IsCut frame full done.bytes done.records bytes records ending) on.begins cut in
      let one = cut_once frame full done.bytes done.records (read ++ on.more) records
      (given ++ rest.records) ending rest.ending here whole in
      record { more = rest.records; same = one.0; ends = λ e. absurd cc; ending_is = λ e k. absurd cc }
  begins (Some w) fed input on records ending cut =
      let one = cut_once frame full done.bytes done.records input records given ending w cut (fed.0 input on) in
      record {
        more = [];
        same = one.0 ∙ sym (append-nil given);
        ends = λ e. refl;
        ending_is = λ e k. (let same : w ≡ e = cc in one.1 ∙ same);
      }

  -- no more records were given, with those that are done, than there may be
  pub few_given : (known : Option Ending) → IsFed done frame framer known read over given → done.records ≤ 2 ^ 31
      → done.records + length given ≤ 2 ^ 31
  few_given None fed low =
      let rest = cuts_rest framer fed.1 [] in
      let few = records_are_few frame full done.bytes done.records (read ++ []) (given ++ rest.records) rest.ending low
      (fed.0.goes_on [] rest.records rest.ending rest.cut) in
      omega (arith, few, length-append given rest.records)
  few_given (Some e) fed low =
      let all = fed.0 read (record { more = []; begins = sym (append-nil read); ends = λ e. refl }) in
      records_are_few frame full done.bytes done.records read given e low all

  -- a whole input was read to its end
  pub whole_is_over : (known : Option Ending) → IsFed done frame framer known read over given
      → known ≡ Some Whole → over ≡ true
  whole_is_over None fed e = absurd cc
  whole_is_over (Some w) fed e = fed.1 (some_same w e)
    where
      some_same : (w : Ending) → Some w ≡ Some Whole → w ≡ Whole
      some_same w e = cc

-- a piece was fed
pub feeds_piece : (old new : FramerData) (piece : List ℕ) (before after : RecordsData) (ended : Option Ending)
    → Feeds old new piece before.items after.items ended → EndAsFed old piece before after → ended ≡ new.ended
    → (length piece == 0) ≡ false → (done : Done) (frame : Frame) (read : List ℕ) (given : List (List ℕ))
    → HasReadBehind done.bytes done.records frame full old read given
    → old.ended ≡ None → HasTaken done frame new ended before after (read ++ piece) (length piece == 0) given
feeds_piece old new piece before after ended feeds end_so is some done frame read given h none =
    let a = feeds done.bytes done.records frame full read given h in
    record {
      added = a.added;
      gained = a.gained;
      fed = by ended is a.added a.read a.fixed;
      ends = λ rest on.
          subst (λ bytes. EndSo done.bytes done.records frame full bytes (length given) before after) (sym on.begins)
          (end_so done.bytes done.records frame full read given h on.more);
    }
  where
    by : (ended : Option Ending) → ended ≡ new.ended → (added : List (List ℕ))
        → HasReadBehind done.bytes done.records frame full new (read ++ piece) (given ++ added)
        → ((e : Ending) → ended ≡ Some e → (more : List ℕ)
        → IsCut frame full done.bytes done.records (read ++ piece ++ more) (given ++ added) e)
        → IsFed done frame new ended (read ++ piece) (length piece == 0) (given ++ added)
    by None is added h fixed = (h, sym is, some)
    by (Some e) is added h fixed = (
      λ input on. subst (λ bytes. IsCut frame full done.bytes done.records bytes (given ++ added) e) (sym on.begins)
          (fixed e refl on.more),
      λ whole. absurd (h.early (sym is ∙ ap (λ w. Some w) whole)),
    )

-- the end was read
pub ends_input : (old new : FramerData) (piece : List ℕ) (before after : RecordsData) (e : Ending)
    → Finishes old before.items after.items e → EndAsFinished old before after → (length piece == 0) ≡ true
    → (done : Done) (frame : Frame) (read : List ℕ) (given : List (List ℕ))
    → HasReadBehind done.bytes done.records frame full old read given
    → old.ended ≡ None → HasTaken done frame new (Some e) before after (read ++ piece) (length piece == 0) given
ends_input old new piece before after e finishes end_so none done frame read given h ended =
    let c = finishes done.bytes done.records frame full read given h in
    record {
      added = c.added;
      gained = c.gained;
      fed = (
        λ input on. subst (λ bytes. IsCut frame full done.bytes done.records bytes (given ++ c.added) e)
            (sym (all input piece on none)) c.cut,
        λ whole. none,
      );
      ends = λ rest on.
          subst (λ bytes. EndSo done.bytes done.records frame full bytes (length given) before after)
          (sym (all rest piece on none)) (end_so done.bytes done.records frame full read given h);
    }
  where
    all : (input : List ℕ) (piece : List ℕ) → GoesOn (read ++ piece) (length piece == 0) input
        → (length piece == 0) ≡ true → input ≡ read
    all input [] on is = on.begins ∙ ap (λ more. read ++ [] ++ more) (on.ends refl) ∙ append-nil (read ++ [])
        ∙ append-nil read
    all input (b ∷ bytes) on is = absurd (let no = eqb-true (length (b ∷ bytes)) 0 is in omega (arith, no))
