-- A file that is read in pieces is cut as the file.
use Rattle.std.proofs.Common.{◌≡◌, ◌≢◌, ℕ, zero, suc, ◌+◌, ◌-◌, ◌<◌, ◌≤◌, List, [], ◌∷◌, ◌++◌, length, take, Option, Some, None}
use Rattle.std.proofs.Common.{true, refl, sym, ap, subst, ◌∙◌, arith, append_assoc, length-append, length-take, append-nil}
use Rattle.std.specs.Prelude.{IfSome, IfErr, OnOk, Result, Ok, Err, slice_get}
use Rattle.std.specs.Io.KnownBytes.{Consumes, IsAtEnd}
use Rattle.std.proofs.KnownBytes.{Consumes-trans}
use Rattle.sz_types.specs.declared.frame.Frame.TheVariants.{Delimited}
use Rattle.sz_records.specs.declared.ending.Ending.{Ending}
use Rattle.sz_records.specs.declared.ending.Ending.TheVariants as endings
use Rattle.sz_records.specs.Cutting.{full, IsCut, place_after, places_of, ends_in}
use Rattle.sz_records.specs.Ends.{RecordsData, no_records}
use Rattle.sz_records.specs.Fed.{FramerData, HasRead, Fixes, Adds, Feeds, EndAsFed, EndAsFinished}
use Rattle.sz_records.specs.Fed as fed
use Rattle.sz_records.proofs.FedLemmas.{read_within}
use Rattle.szl_cut.specs.declared.failure.Failure.{Failure}
use Rattle.szl_cut.specs.declared.failure.Failure.TheVariants.{Usage, Damaged, Limit, ReadFailed, WriteFailed, NoMemory}
use Rattle.szl_cut.specs.declared.progress.Progress.{Progress}
use Rattle.szl_cut.specs.Cuts.{cuts, IsCutAt, Ends}
use Rattle.szl_cut.specs.Answers.{IsFor}
use Rattle.szl_cut.specs.Reading.{IsAt, Notes, ended_so, TakesIn, Takes, Finishes, FinishesNot, Reaches, ReadsOn, IsReadOut}

pub err_parts : {T E : Type 0} {a b : E} → (let r : Result T E = Err a in r) ≡ Err b → a ≡ b
err_parts e = cc

-- places, one count after the other
places_joined : (place : ℕ → ℕ) (i a b : ℕ)
    → places_of place i (a + b) ≡ places_of place i a ++ places_of place (i + a) b
places_joined place i zero b =
    ap (places_of place i) (let e : zero + b ≡ b = omega arith in e)
    ∙ ap (λ (j : ℕ). places_of place j b) (let e : i ≡ i + zero = omega arith in e)
places_joined place i (suc a) b =
    ap (places_of place i) (let e : suc a + b ≡ suc (a + b) = omega arith in e)
    ∙ ap (λ (l : List ℕ). place (suc i) ∷ l) (places_joined place (suc i) a b
    ∙ ap (λ (j : ℕ). places_of place (suc i) a ++ places_of place j b)
    (let e : suc i + a ≡ i + suc a = omega arith in e))

-- messages were noted, and then more of them
pub notes_both : (old mid new : Progress) (ends more : List ℕ) → Notes old mid ends → Notes mid new more
    → Notes old new (ends ++ more)
notes_both old mid new ends more n m = record {
  framer = m.framer ∙ n.framer;
  same_size = m.same_size ∙ n.same_size;
  cut = λ rest. (
      ap (λ (l : List ℕ). old.places.items ++ cuts old.size old.before old.start l) (append_assoc ends more rest)
      ∙ n.cut (more ++ rest)
      ∙ ap (λ (k : ℕ). mid.places.items ++ cuts k mid.before mid.start (more ++ rest)) (sym n.same_size)
      ∙ m.cut rest
      ∙ ap (λ (k : ℕ). new.places.items ++ cuts k new.before new.start rest) n.same_size);
}

-- one message more is noted
next_taken : (ends : List ℕ) (i end : ℕ) → slice_get ends i ≡ Some end → take (suc i) ends ≡ take i ends ++ end ∷ []
next_taken [] i end e = absurd cc
next_taken (x ∷ xs) zero end e = ap (λ (y : ℕ). y ∷ []) (let p : x ≡ end = cc in p)
next_taken (x ∷ xs) (suc i) end e = ap (λ (l : List ℕ). x ∷ l) (next_taken xs i end e)

pub noted_next : (old mid new : Progress) (ends : List ℕ) (i end : ℕ) → Notes old mid (take i ends)
    → slice_get ends i ≡ Some end → Notes mid new (end ∷ []) → Notes old new (take (i + 1) ends)
noted_next old mid new ends i end n there m =
    subst (Notes old new)
    (sym (ap (λ (k : ℕ). take k ends) (let e : i + 1 ≡ suc i = omega arith in e) ∙ next_taken ends i end there))
    (notes_both old mid new (take i ends) (end ∷ []) n m)

-- messages came, and were noted
module _ (size : ℕ) (old mid new : Progress) (bytes piece : List ℕ) (given added : List (List ℕ))
    (at : IsAt size old bytes given) where
  -- with the ends of those that came
  more_cut : (file : List ℕ) (ends : List ℕ) → ends ≡ ends_in 0 0 Delimited full file (length given) (length added)
      → (noted : Notes mid new ends)
      → mid.places ≡ old.places → mid.before ≡ old.before → mid.start ≡ old.start → mid.size ≡ old.size
      → (rest : List ℕ) → ((rest : List ℕ) → cuts size 0 0 (ends_in 0 0 Delimited full file 0 (length given) ++ rest)
      ≡ old.places.items ++ cuts size old.before old.start rest)
      → cuts size 0 0 (ends_in 0 0 Delimited full file 0 (length (given ++ added)) ++ rest)
      ≡ new.places.items ++ cuts size new.before new.start rest
  more_cut file ends ends_are noted same_places same_before same_start same_size rest before =
      let place = place_after Delimited full 0 0 file in
      let all : places_of place 0 (length (given ++ added)) ≡ places_of place 0 (length given) ++ ends =
      ap (places_of place 0) (length-append given added)
      ∙ places_joined place 0 (length given) (length added)
      ∙ ap (λ (j : ℕ). places_of place 0 (length given) ++ places_of place j (length added))
      (let e : 0 + length given ≡ length given = omega arith in e)
      ∙ ap (λ (l : List ℕ). places_of place 0 (length given) ++ l) (sym ends_are) in
      let size_is : mid.size ≡ size = same_size ∙ at.same_size in
      ap (λ (l : List ℕ). cuts size 0 0 (l ++ rest)) all
      ∙ ap (cuts size 0 0) (append_assoc (places_of place 0 (length given)) ends rest)
      ∙ before (ends ++ rest)
      ∙ rw (← same_places, ← same_before, ← same_start, ← size_is) (noted.cut rest)

  -- a piece was fed
  pub took : (records : RecordsData) → mid ≡ record old { framer = mid.framer; records = records }
      → EndAsFed old.framer piece old.records records
      → records.items ≡ added → HasRead Delimited full mid.framer (bytes ++ piece) (given ++ added)
      → Notes mid new records.ends → new.records ≡ no_records → IsAt size new (bytes ++ piece) (given ++ added)
  took records is ends items read noted none = record {
    read = rw noted.framer read;
    empty = none;
    same_size = noted.same_size ∙ ap (λ (p : Progress). p.size) is ∙ at.same_size;
    cut = λ more rest. more_cut (bytes ++ piece ++ more) records.ends (came more) noted
        (ap (λ (p : Progress). p.places) is) (ap (λ (p : Progress). p.before) is)
        (ap (λ (p : Progress). p.start) is) (ap (λ (p : Progress). p.size) is) rest (before more);
  }
    where
      came : (more : List ℕ)
          → records.ends ≡ ends_in 0 0 Delimited full (bytes ++ piece ++ more) (length given) (length added)
      came more =
          let count : length records.items - 0 ≡ length added = omega (arith, ap length items) in
          rw at.empty at (ends 0 0 Delimited full bytes given at.read more)
          ∙ ap (ends_in 0 0 Delimited full (bytes ++ piece ++ more) (length given)) count

      before : (more rest : List ℕ)
          → cuts size 0 0 (ends_in 0 0 Delimited full (bytes ++ piece ++ more) 0 (length given) ++ rest)
          ≡ old.places.items ++ cuts size old.before old.start rest
      before more rest =
          ap (λ (file : List ℕ). cuts size 0 0 (ends_in 0 0 Delimited full file 0 (length given) ++ rest))
          (append_assoc bytes piece more) ∙ at.cut (piece ++ more) rest

-- no message is at hand before a piece
items_came : (old : Progress) (records : RecordsData) (added : List (List ℕ)) → old.records ≡ no_records
    → records.items ≡ old.records.items ++ added → records.items ≡ added
items_came old records added none gained = gained ∙ ap (λ (r : RecordsData). r.items ++ added) none

module _ (old mid new : Progress) (piece : List ℕ) (records : RecordsData)
    (is : mid ≡ record old { framer = mid.framer; records = records })
    (noted : Notes mid new records.ends) (none : new.records ≡ no_records) where
  module _ (ending : Option Ending) (feeds : Feeds old.framer mid.framer piece old.records.items records.items ending)
      (known : ending ≡ mid.framer.ended)
      (ends : EndAsFed old.framer piece old.records records) where
    pub takes : ended_so ending ≡ Ok tt → (size : ℕ) (bytes : List ℕ) (given : List (List ℕ))
        → IsAt size old bytes given → TakesIn size new (bytes ++ piece)
    takes ok size bytes given at =
        let adds = feeds 0 0 Delimited full bytes given at.read in
        record {
          given = given ++ adds.added;
          at = took size old mid new bytes piece given adds.added at records is ends
              (items_came old records adds.added at.empty adds.gained) adds.read noted none;
          goes_on = ap (λ (f : FramerData). f.ended) noted.framer ∙ sym known
              ∙ unended ending ok (λ whole. adds.read.early (sym known ∙ whole));
        }
      where
        unended : (ending : Option Ending) → ended_so ending ≡ Ok tt → (ending ≡ Some endings.Whole → ⊥) → ending ≡ None
        unended None ok early = refl
        unended (Some endings.Whole) ok early = absurd (early refl)
        unended (Some (endings.Damaged byte)) ok early = absurd cc
        unended (Some (endings.Limit byte)) ok early = absurd cc

    pub stops : (failure : Failure) → ended_so ending ≡ Err failure
        → (size : ℕ) (bytes : List ℕ) (given : List (List ℕ)) → IsAt size old bytes given
        → (more : List ℕ) → IsFor (Some (bytes ++ piece ++ more)) failure
    stops failure err size bytes given at more = by ending err adds.fixed
      where
        adds : Adds 0 0 Delimited full mid.framer (bytes ++ piece) given old.records.items records.items ending
        adds = feeds 0 0 Delimited full bytes given at.read

        by : (ending : Option Ending) → ended_so ending ≡ Err failure
            → ((e : Ending) → ending ≡ Some e → Fixes 0 0 Delimited full (bytes ++ piece) (given ++ adds.added) e)
            → IsFor (Some (bytes ++ piece ++ more)) failure
        by None err fixed = absurd cc
        by (Some endings.Whole) err fixed = absurd cc
        by (Some (endings.Damaged byte)) err fixed = subst (IsFor (Some (bytes ++ piece ++ more))) (err_parts err)
            (let e : Ends (bytes ++ piece ++ more) (endings.Damaged byte) =
            record { messages = given ++ adds.added; cut = fixed (endings.Damaged byte) refl more } in e)
        by (Some (endings.Limit byte)) err fixed = subst (IsFor (Some (bytes ++ piece ++ more))) (err_parts err)
            (let e : Ends (bytes ++ piece ++ more) (endings.Limit byte) =
            record { messages = given ++ adds.added; cut = fixed (endings.Limit byte) refl more } in e)

  module _ (ending : Ending) (finishes : fed.Finishes old.framer old.records.items records.items ending)
      (ends : EndAsFinished old.framer old.records records) where
    pub cut_whole : ended_so (Some ending) ≡ Ok tt → (size : ℕ) (bytes : List ℕ) (given : List (List ℕ))
        → IsAt size old bytes given → IsCutAt size bytes new.places.items
    cut_whole ok size bytes given at =
        let closes = finishes 0 0 Delimited full bytes given at.read in
        let items = items_came old records closes.added at.empty closes.gained in
        let count : length records.items - 0 ≡ length closes.added = omega (arith, ap length items) in
        let came : records.ends ≡ ends_in 0 0 Delimited full bytes (length given) (length closes.added) =
        rw at.empty at (ends 0 0 Delimited full bytes given at.read)
        ∙ ap (ends_in 0 0 Delimited full bytes (length given)) count in
        let before : (rest : List ℕ) → cuts size 0 0 (ends_in 0 0 Delimited full bytes 0 (length given) ++ rest)
        ≡ old.places.items ++ cuts size old.before old.start rest =
        λ rest. ap (λ (file : List ℕ). cuts size 0 0 (ends_in 0 0 Delimited full file 0 (length given) ++ rest))
        (sym (append-nil bytes)) ∙ at.cut [] rest in
        let all = more_cut size old mid new bytes piece given closes.added at bytes records.ends came noted
        (ap (λ (p : Progress). p.places) is) (ap (λ (p : Progress). p.before) is) (ap (λ (p : Progress). p.start) is)
        (ap (λ (p : Progress). p.size) is) [] before in
        record {
          messages = given ++ closes.added;
          whole = subst (IsCut Delimited full 0 0 bytes (given ++ closes.added)) (whole ending ok) closes.cut;
          are = sym (append-nil new.places.items) ∙ sym all
              ∙ ap (cuts size 0 0) (append-nil (ends_in 0 0 Delimited full bytes 0 (length (given ++ closes.added))));
        }
      where
        whole : (ending : Ending) → ended_so (Some ending) ≡ Ok tt → ending ≡ endings.Whole
        whole endings.Whole ok = refl
        whole (endings.Damaged byte) ok = absurd cc
        whole (endings.Limit byte) ok = absurd cc

    -- the end of the file, where nothing more comes
    pub ends_otherwise : (failure : Failure) → ended_so (Some ending) ≡ Err failure
        → (size : ℕ) (bytes : List ℕ) (given : List (List ℕ)) → IsAt size old bytes given
        → IsFor (Some bytes) failure
    ends_otherwise failure err size bytes given at = by ending err (finishes 0 0 Delimited full bytes given at.read).cut
      where
        added : List (List ℕ)
        added = (finishes 0 0 Delimited full bytes given at.read).added

        by : (ending : Ending) → ended_so (Some ending) ≡ Err failure
            → IsCut Delimited full 0 0 bytes (given ++ added) ending → IsFor (Some bytes) failure
        by endings.Whole err cut = absurd cc
        by (endings.Damaged byte) err cut = subst (IsFor (Some bytes)) (err_parts err)
            (let e : Ends bytes (endings.Damaged byte) = record { messages = given ++ added; cut = cut } in e)
        by (endings.Limit byte) err cut = subst (IsFor (Some bytes)) (err_parts err)
            (let e : Ends bytes (endings.Limit byte) = record { messages = given ++ added; cut = cut } in e)

-- by the answer of a call
pub on_ok : {P : Type 0} (r : Result (Unit {0}) Failure) → (r ≡ Ok tt → P) → OnOk r P
on_ok (Ok tt) h = h refl
on_ok (Err failure) h = tt

pub if_err : {P : Failure → Type 0} (r : Result (Unit {0}) Failure)
    → ((failure : Failure) → r ≡ Err failure → P failure) → IfErr r P
if_err (Ok done) h = tt
if_err (Err failure) h = h failure refl

-- a piece was read and taken in
pub reads_more : (old new : Progress) (piece : List ℕ) (left after : Option (List ℕ)) → 0 < length piece
    → Consumes left after piece → Takes old new piece → (size : ℕ) (start : Option (List ℕ))
    → Reaches size old start left → ReadsOn size old new start after true
reads_more old new piece left after some consumed taken size start r =
    let t = taken size r.fed r.given r.at r.goes_on in
    let low = read_within 0 0 Delimited full new.framer (r.fed ++ piece) t.given t.at.read t.goes_on in
    let here = t.at.read.reached t.goes_on in
    let there = r.at.read.reached r.goes_on in
    record {
      reached = record {
        fed = r.fed ++ piece;
        given = t.given;
        at = t.at;
        goes_on = t.goes_on;
        consumed = Consumes-trans start left after r.fed piece r.consumed consumed;
      };
      at_end = λ no. absurd cc;
      less = λ more. omega (arith, low, here, there, length-append r.fed piece, some);
    }

pub reads_piece : (old new : Progress) (buffer : List ℕ) (count : ℕ) (left after : Option (List ℕ)) → count ≢ 0
    → count ≤ length buffer → Consumes left after (take count buffer) → Takes old new (take count buffer)
    → (size : ℕ) (start : Option (List ℕ)) → Reaches size old start left
    → ReadsOn size old new start after true
reads_piece old new buffer count left after some fits consumed takes size start r =
    reads_more old new (take count buffer) left after
    (omega (arith, some, fits, length-take count buffer)) consumed takes size start r

-- where the bytes aren't told, less is said
untold : (file : List ℕ) (failure : Failure) → IsFor (Some file) failure → IsFor None failure
untold file Usage h = h
untold file (Damaged byte) h = tt
untold file (Limit byte) h = tt
untold file ReadFailed h = tt
untold file WriteFailed h = h
untold file NoMemory h = tt

-- the piece that was read ends the file otherwise
pub stops_there : (old : Progress) (piece : List ℕ) (failure : Failure) (left after : Option (List ℕ))
    → Consumes left after piece → ((size : ℕ) (bytes : List ℕ) (given : List (List ℕ)) → IsAt size old bytes given
    → (more : List ℕ) → IsFor (Some (bytes ++ piece ++ more)) failure)
    → (size : ℕ) (start : Option (List ℕ)) → Reaches size old start left → IsFor start failure
stops_there old piece failure left after consumed stop size start r =
    by start after (Consumes-trans start left after r.fed piece r.consumed consumed) (stop size r.fed r.given r.at)
  where
    by : (start after : Option (List ℕ)) → Consumes start after (r.fed ++ piece)
        → ((more : List ℕ) → IsFor (Some (r.fed ++ piece ++ more)) failure)
        → IsFor start failure
    by None after c stop = untold (r.fed ++ piece ++ []) failure (stop [])
    by (Some x) None c stop = absurd c
    by (Some x) (Some y) c stop = subst (λ (file : List ℕ). IsFor (Some file) failure) (sym c) (stop y)

-- all of the file was read
pub ends_whole : (size : ℕ) (progress : Progress) (start left : Option (List ℕ)) (places : List ℕ)
    → Reaches size progress start left → IsAtEnd left
    → Finishes progress places → IfSome start (λ file. IsCutAt size file places)
ends_whole size progress start left places r end finishes = by start left r.consumed end
  where
    by : (start left : Option (List ℕ)) → Consumes start left r.fed → IsAtEnd left
        → IfSome start (λ file. IsCutAt size file places)
    by None left c e = tt
    by (Some x) None c e = absurd c
    by (Some x) (Some y) c e =
        subst (λ (file : List ℕ). IsCutAt size file places)
        (sym (c ∙ ap (λ (l : List ℕ). r.fed ++ l) e ∙ append-nil r.fed)) (finishes size r.fed r.given r.at)

pub ends_not : (size : ℕ) (progress : Progress) (start left : Option (List ℕ)) (failure : Failure)
    → Reaches size progress start left → IsAtEnd left → FinishesNot progress failure → IsFor start failure
ends_not size progress start left failure r end finishes = by start left r.consumed end
  where
    by : (start left : Option (List ℕ)) → Consumes start left r.fed → IsAtEnd left → IsFor start failure
    by None left c e = untold r.fed failure (finishes size r.fed r.given r.at)
    by (Some x) None c e = absurd c
    by (Some x) (Some y) c e =
        subst (λ (file : List ℕ). IsFor (Some file) failure)
        (sym (c ∙ ap (λ (l : List ℕ). r.fed ++ l) e ∙ append-nil r.fed)) (finishes size r.fed r.given r.at)

pub read_out : {T : Type 0} (answer : Result T Failure) (size : ℕ) (progress : Progress)
    (start left : Option (List ℕ)) → Reaches size progress start left
    → IsAtEnd left → OnOk answer (IsReadOut start left)
read_out (Ok places) size progress start left r end = record { fed = r.fed; consumed = r.consumed; at_end = end }
read_out (Err failure) size progress start left r end = tt
