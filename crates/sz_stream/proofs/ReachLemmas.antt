-- What is known of an input on the way: from piece to piece, and from round to round.
use Rattle.std.proofs.Common.{◌≡◌, ℕ, zero, suc, ◌+◌, ◌-◌, ◌^◌, ◌<◌, ◌≤◌, List, [], ◌∷◌, ◌++◌, length, take, Bool, true, false, Option, Some, None}
use Rattle.std.proofs.Common.{refl, sym, ap, ◌∙◌, subst, arith, inl, inr, append-nil, length-append, length-take}
use Rattle.std.proofs.lemmas.Bool.{eqb-true}
use Rattle.std.proofs.KnownBytes.{Consumes-trans}
use Rattle.std.specs.Prelude.{is_some, ◌==◌, Result, Ok, Err, OnOk, if◌then◌else◌}
use Rattle.std.specs.Io.KnownBytes.{Consumes, IsAtEnd}
use Rattle.sz_types.specs.declared.frame.Frame.{Frame}
use Rattle.sz_mean.specs.Marked.{all_tables}
use Rattle.sz_tabs.specs.Data.{EmitDatum}
use Rattle.sz_total.specs.States.{TotalState, declarations, emit_count, shown}
use Rattle.sz_total.specs.Totals.{IsNew, Joins}
use Rattle.sz_io.specs.Opened.{KeepsOtherFiles}
use Rattle.sz_records.specs.declared.ending.Ending.{Ending}
use Rattle.sz_records.specs.declared.ending.Ending.TheVariants as endings
use Rattle.sz_records.specs.Cutting.{full, IsCut, place_after}
use Rattle.sz_records.specs.Ends.{RecordsData}
use Rattle.sz_records.specs.Fed.{FramerData, HasReadBehind}
use Rattle.sz_records.specs.Shards.{AreShards}
use Rattle.sz_records.proofs.FedLemmas.{read_within}
use Rattle.sz_attempt.specs.declared.job.Job.{Job}
use Rattle.sz_attempt.specs.Ends.{StandForEmits}
use Rattle.sz_workers.specs.Outcomes.{emitted, outcome_from}
use Rattle.sz_workers.specs.Rounds.{shards_of}
use Rattle.sz_stream.specs.declared.done.Done.{Done}
use Rattle.sz_stream.specs.declared.intake.Intake.{Intake}
use Rattle.sz_stream.specs.declared.stop.Stop.{Stop}
use Rattle.sz_stream.specs.declared.stop.Stop.TheVariants as stops
use Rattle.sz_stream.specs.Inputs.{nothing, GoesOn, RunsInput, RunsFile}
use Rattle.sz_stream.specs.Intakes.{CanGoOn, IsFed, IsEmpty, KeepsRound, HasTaken, TakesIn, IsFilled, IsAnswered, Closes, moved_on, done_with, end_of}
use Rattle.sz_stream.specs.InputRuns.{IsRunning, Reaches, CanRead, HasRound, CanRun, Fills, left_to_read, ReadsPiece, HasTakenAll, TakesAll, IsReady}
use Rattle.sz_stream.specs.InputRuns.{Gathers, RunsRound, EndsAt, MovesOn, StopsShards, ended_so}
use Rattle.sz_stream.proofs.FedLemmas.{whole_is_over}
use Rattle.sz_stream.proofs.RunLemmas.{starts, takes, closes, round_stops, done_place, done_records, moves_on, HasEnded, has_ended, ends_run, some_closed, none_closed}

-- the end was read, so the ending is known
known_at_end : (done : Done) (frame : Frame) (framer : FramerData) (ending : Option Ending) (read : List ℕ) (over : Bool) (given : List (List ℕ))
    → IsFed done frame framer ending read over given → over ≡ true → is_some ending ≡ true
known_at_end done frame framer None read over given fed e = absurd (let no = sym fed.2 ∙ e in cc)
known_at_end done frame framer (Some w) read over given fed e = refl

-- fewer bytes may still be read, where a piece was taken in
less_to_read : (done : Done) (frame : Frame) (old new : FramerData) (ending : Option Ending) (piece read : List ℕ) (before after : RecordsData)
    (given : List (List ℕ)) → HasReadBehind done.bytes done.records frame full old read given → old.ended ≡ None
    → HasTaken done frame new ending before after (read ++ piece) (length piece == 0) given
    → left_to_read ending new < left_to_read None old
less_to_read done frame old new ending piece read before after given h none t = by ending t.fed
  where
    low : old.cutter.place + length old.pending ≤ 2 ^ 40 + 9
    low = read_within done.bytes done.records frame full old read given h none

    by : (ending : Option Ending) → IsFed done frame new ending (read ++ piece) (length piece == 0) (given ++ t.added)
        → left_to_read ending new < left_to_read None old
    by (Some e) fed = omega (arith, low)
    by None fed =
        let here = fed.0.reached fed.1 in
        let there = h.reached none in
        let within = read_within done.bytes done.records frame full new (read ++ piece) (given ++ t.added) fed.0 fed.1 in
        omega (arith, here, there, within, length-append read piece, some piece fed.2)
      where
        some : (piece : List ℕ) → (length piece == 0) ≡ false → 0 < length piece
        some [] e = absurd cc
        some (b ∷ bytes) e = omega arith

-- no byte was read
read_nothing : (start : Option (List ℕ)) → Consumes start start []
read_nothing None = tt
read_nothing (Some bytes) = refl

module _ (done : Done) (job : Job) (frame : Frame) (most : ℕ) (emits : List EmitDatum) where
  pub reach_closes : (old new : Intake) (start left : Option (List ℕ)) → Closes old new → Reaches done job frame most old emits start left
      → Reaches done job frame most new emits start left
  reach_closes old new start left c r = record {
    read = r.read;
    over = r.over;
    running = closes done job frame most old emits r.read r.over r.running new c;
    consumed = r.consumed;
    at_end = r.at_end;
  }

  reach_takes : (old new : Intake) (piece : List ℕ) (start left after : Option (List ℕ)) → old.ending ≡ None → TakesIn old new piece → KeepsRound old new
      → Consumes left after piece → (length piece ≡ 0 → IsAtEnd after) → Reaches done job frame most old emits start left
      → Reaches done job frame most new emits start after
  reach_takes old new piece start left after more taken kept consumed at_end r = record {
    read = r.read ++ piece;
    over = length piece == 0;
    running = takes done job frame most old emits r.read r.over r.running new piece more taken kept;
    consumed = Consumes-trans start left after r.read piece r.consumed consumed;
    at_end = λ over. at_end (eqb-true (length piece) 0 over);
  }

  -- records are counted from 1
  pub first_some : (intake : Intake) (start left : Option (List ℕ)) → Reaches done job frame most intake emits start left → 1 ≤ intake.first
  first_some intake start left r = omega (arith, r.running.numbers)

  -- the end behind the last round
  module _ (intake : Intake) (start left : Option (List ℕ)) (r : Reaches done job frame most intake emits start left) (ready : IsReady intake)
      (e : Ending) (is : end_of intake ≡ Some e) where
    none_left : (shards : ℕ) → (if shards == 0 then intake.ending else None) ≡ Some e → shards ≡ 0
    none_left shards known = by (shards == 0) refl known
      where
        by : (t : Bool) → (shards == 0) ≡ t → (if t then intake.ending else None) ≡ Some e → shards ≡ 0
        by true none known = eqb-true shards 0 none
        by false more known = absurd cc

    pub ending_is : intake.ending ≡ Some e
    ending_is =
        let none = none_left (length intake.round.shards) is in
        ap (λ n. if n == 0 then intake.ending else None) (sym none) ∙ is

    pub none_at_hand : length intake.round.records.items ≡ 0
    none_at_hand = (ready (none_left (length intake.round.shards) is)).1

    -- each input that goes on so has just the records that were given
    pub ends_behind : (input : List ℕ) → GoesOn r.read r.over input → (records : List (List ℕ)) (ending : Ending) (sizes : List ℕ)
        → IsCut frame full done.bytes done.records input records ending → AreShards most records sizes
        → HasEnded done job frame most intake emits r.read r.over r.running records ending sizes e
    ends_behind = has_ended done job frame most intake emits r.read r.over r.running e ending_is none_at_hand

    -- a whole input was read to its end
    pub whole_at_end : e ≡ endings.Whole → IsAtEnd left
    whole_at_end whole =
        r.at_end (whole_is_over done frame intake.framer r.read r.over r.running.given intake.ending r.running.fed
        (ending_is ∙ ap (λ w. Some w) whole))

  -- bytes that were read to their end are the input
  pub all_read : (intake : Intake) (bytes : List ℕ) (r : Reaches done job frame most intake emits (Some bytes) (Some [])) → GoesOn r.read r.over bytes
  all_read intake bytes r = record { more = []; begins = r.consumed; ends = λ over. refl }

  -- what can be read
  pub can_still : (intake : Intake) (start left : Option (List ℕ)) → Reaches done job frame most intake emits start left → CanRead intake
  can_still intake start left r =
      record { done = done; job = job; frame = frame; most = most; emits = emits; read = r.read; over = r.over; running = r.running }

  -- a round that isn't empty can be run
  pub has_round : (intake : Intake) (start left : Option (List ℕ)) → Reaches done job frame most intake emits start left → IsReady intake
      → end_of intake ≡ None → HasRound job intake emits
  has_round intake start left r ready is = record {
    done = done;
    frame = frame;
    most = most;
    read = r.read;
    over = r.over;
    running = r.running;
    some = by (length intake.round.shards) refl is;
  }
    where
      by : (n : ℕ) → length intake.round.shards ≡ n → (if n == 0 then intake.ending else None) ≡ None → 0 < length intake.round.shards
      by zero none known = absurd (let e = (ready none).0 in let no = sym (ap is_some known) ∙ e in cc)
      by (suc n) some known = omega (arith, some)

-- before anything is read
pub reach_starts : (done : Done) (job : Job) (frame : Frame) (most : ℕ) (intake : Intake) (start : Option (List ℕ)) → 1 ≤ most → CanGoOn done
    → done.passed ≤ job.skip → IsEmpty frame most done intake → Reaches done job frame most intake [] start start
reach_starts done job frame most intake start low can passed empty = record {
  read = [];
  over = false;
  running = starts done job frame most intake low can passed empty;
  consumed = read_nothing start;
  at_end = λ over. absurd cc;
}

-- so much is done of the input once the round is
pub ends_at : (intake : Intake) (passed : ℕ) → 0 < intake.closed → EndsAt intake (done_with passed intake)
ends_at intake passed some done job frame most emits read over h rest on =
    done_place done job frame most intake emits read over h some rest on
    ∙ ap (place_after frame full done.bytes done.records rest) (sym (done_records done job frame most intake emits read over h))

-- behind the round that was run
pub goes_behind : (intake : Intake) (passed : ℕ) → MovesOn passed intake (moved_on passed intake)
goes_behind intake passed done job frame most emits es start left r is = record {
  read = r.read;
  over = r.over;
  running = moves_on done job frame most intake emits r.read r.over r.running es passed is;
  consumed = r.consumed;
  at_end = r.at_end;
}

-- ---- a whole input

pub can_begin : CanGoOn nothing
can_begin = record { shards = omega arith; records = omega arith; bytes = omega arith }

-- new tables stand for no emits
pub none_stand : (job : Job) (total : TotalState) → IsNew declarations emit_count shown (all_tables job.compiled) total
    → StandForEmits job.compiled total []
none_stand job total new = record { tables = new.same_tables; stands = new.empty }

-- before anything is read
pub gathers_nothing : (job : Job) (frame : Frame) (most : ℕ) (intake : Intake) (total : TotalState) (start : Option (List ℕ)) → 1 ≤ most
    → IsEmpty frame most nothing intake → IsNew declarations emit_count shown (all_tables job.compiled) total
    → Gathers nothing job frame most intake total start start
gathers_nothing job frame most intake total start low empty new = record {
  emits = [];
  stand = none_stand job total new;
  reached = reach_starts nothing job frame most intake start low can_begin (omega arith) empty;
}

module _ (done : Done) (job : Job) (frame : Frame) (most : ℕ) (total : TotalState) (old new : Intake) (start before : Option (List ℕ))
    (g : Gathers done job frame most old total start before) where
  -- pieces were read
  pub gathers_filled : (after : Option (List ℕ)) → Fills old new before after → Gathers done job frame most new total start after
  gathers_filled after fills = record { emits = g.emits; stand = g.stand; reached = fills done job frame most g.emits start g.reached }

  -- shards were closed
  pub gathers_closed : Closes old new → Gathers done job frame most new total start before
  gathers_closed closed =
      record { emits = g.emits; stand = g.stand; reached = reach_closes done job frame most g.emits old new start before closed g.reached }

module _ (job : Job) (frame : Frame) (most : ℕ) (intake : Intake) (start left : Option (List ℕ)) where
  module _ (total : TotalState) (g : Gathers nothing job frame most intake total start left) (ready : IsReady intake) (e : Ending)
      (is : end_of intake ≡ Some e) where
    pub input_ends : (input : List ℕ) → GoesOn g.reached.read g.reached.over input → RunsInput job most frame input (ended_so total (intake.first - 1) e)
    input_ends =
        ends_run job frame most intake g.emits g.reached.read g.reached.over g.reached.running total g.stand e
        (ending_is nothing job frame most g.emits intake start left g.reached ready e is)
        (none_at_hand nothing job frame most g.emits intake start left g.reached ready e is)

    pub file_ends : RunsFile job most frame start left (ended_so total (intake.first - 1) e)
    file_ends = by e input_ends
      where
        r : Reaches nothing job frame most intake g.emits start left
        r = g.reached

        by : (e : Ending)
            → ((input : List ℕ) → GoesOn g.reached.read g.reached.over input → RunsInput job most frame input (ended_so total (intake.first - 1) e))
            → RunsFile job most frame start left (ended_so total (intake.first - 1) e)
        by endings.Whole runs = record { read = r.read; over = r.over; consumed = r.consumed; at_end = r.at_end; runs = runs }
        by (endings.Damaged byte) runs = record { read = r.read; over = r.over; consumed = r.consumed; at_end = r.at_end; runs = runs }
        by (endings.Limit byte) runs = record { read = r.read; over = r.over; consumed = r.consumed; at_end = r.at_end; runs = runs }

    -- a whole file was read to its end
    pub file_is_over : OnOk (ended_so total (intake.first - 1) e) (IsAtEnd left)
    file_is_over = by e (whole_at_end nothing job frame most g.emits intake start left g.reached ready e is)
      where
        by : (e : Ending) → (e ≡ endings.Whole → IsAtEnd left) → OnOk (ended_so total (intake.first - 1) e) (IsAtEnd left)
        by endings.Whole at_end = at_end refl
        by (endings.Damaged byte) at_end = tt
        by (endings.Limit byte) at_end = tt

  -- a shard of the round decides, or there was no memory
  pub file_stops : (emits : List EmitDatum) → Reaches nothing job frame most intake emits start left → (stop : Stop)
      → StopsShards (outcome_from job intake.round.passed (shards_of intake.round)) stop → RunsFile job most frame start left (Err stop)
  file_stops emits r stop is = by stop (round_stops nothing job frame most intake emits r.read r.over r.running stop is)
    where
      by : (stop : Stop) → ((input : List ℕ) → GoesOn r.read r.over input → RunsInput job most frame input (Err stop))
          → RunsFile job most frame start left (Err stop)
      by stops.ReadFailed runs = tt
      by stops.NoMemory runs = tt
      by (stops.Fault n f) runs = record { read = r.read; over = r.over; consumed = r.consumed; at_end = r.at_end; runs = runs }
      by (stops.Lost n) runs = record { read = r.read; over = r.over; consumed = r.consumed; at_end = r.at_end; runs = runs }
      by (stops.Damaged n) runs = record { read = r.read; over = r.over; consumed = r.consumed; at_end = r.at_end; runs = runs }
      by (stops.Limit n) runs = record { read = r.read; over = r.over; consumed = r.consumed; at_end = r.at_end; runs = runs }

-- where no more has to be read, a round is ready
pub is_ready : (intake : Intake) → CanRead intake → IsFilled intake → IsReady intake
is_ready intake can (inl (inl many)) none = absurd (omega (arith, many, none))
is_ready intake can (inl (inr full)) none = absurd (let some = full.some in omega (arith, some, none))
is_ready intake can (inr all) none =
    let closed = none_closed can.done can.job can.frame can.most intake can.emits can.read can.over can.running none in
    (all.0, omega (arith, all.1, closed))

pub ready_known : (intake : Intake) → CanRead intake → (wants : Bool) → is_some intake.ending ≡ true → IsAnswered intake wants → IsReady intake
ready_known intake can false known answer none = is_ready intake can answer none
ready_known intake can true known answer none = absurd (let no = sym (ap is_some answer.unknown) ∙ known in cc)

pub none_not : {T : Type 0} (o : Option T) → ((x : T) → o ≡ Some x → ⊥) → o ≡ None
none_not None other = refl
none_not (Some x) other = absurd (other x refl)

pub can_closed : (old new : Intake) → Closes old new → CanRead old → CanRead new
can_closed old new c can = record {
  done = can.done;
  job = can.job;
  frame = can.frame;
  most = can.most;
  emits = can.emits;
  read = can.read;
  over = can.over;
  running = closes can.done can.job can.frame can.most old can.emits can.read can.over can.running new c;
}

pub fills_closed : (first old new : Intake) (start left : Option (List ℕ)) → Closes old new → Fills first old start left → Fills first new start left
fills_closed first old new start left c fills = λ done job frame most emits from r.
    reach_closes done job frame most emits old new from left c (fills done job frame most emits from r)

-- a piece was read
pub reads_piece : (old new : Intake) (buffer : List ℕ) (count : ℕ) (left after : Option (List ℕ)) → CanRead old → old.ending ≡ None → count ≤ length buffer
    → 0 < length buffer → Consumes left after (take count buffer) × (count ≡ 0 → 0 < length buffer → IsAtEnd after) → TakesIn old new (take count buffer)
    → KeepsRound old new → ReadsPiece (length buffer) old new left after
reads_piece old new buffer count left after can more fits room read taken kept = record {
  fills = λ done job frame most emits start r.
      reach_takes done job frame most emits old new (take count buffer) start left after more taken kept read.0 at_end r;
  piece = record {
    piece = take count buffer;
    short = (let long = length-take count buffer in omega (arith, long, fits));
    consumed = read.0;
  };
  can_read = record {
    done = can.done;
    job = can.job;
    frame = can.frame;
    most = can.most;
    emits = can.emits;
    read = can.read ++ take count buffer;
    over = length (take count buffer) == 0;
    running = takes can.done can.job can.frame can.most old can.emits can.read can.over can.running new (take count buffer) more taken kept;
  };
  less =
      (let fed = subst (λ e. IsFed can.done can.frame old.framer e can.read can.over can.running.given) more can.running.fed in
      let less = less_to_read can.done can.frame old.framer new.framer new.ending (take count buffer) can.read old.round.records new.round.records
      can.running.given fed.0 fed.1 (taken can.done can.frame can.read can.running.given fed.0 fed.1) in
      subst (λ e. left_to_read new.ending new.framer < left_to_read e old.framer) (sym more) less);
}
  where
    at_end : length (take count buffer) ≡ 0 → IsAtEnd after
    at_end none = let long = length-take count buffer in read.1 (omega (arith, long, none, fits)) room

-- an input was taken in as a whole
module _ (old : Intake) (bytes : List ℕ) (more : old.ending ≡ None) where
  module _ (done : Done) (job : Job) (frame : Frame) (most : ℕ) (emits : List EmitDatum) (running : IsRunning done job frame most old emits [] false) where
    at_start : Reaches done job frame most old emits (Some bytes) (Some bytes)
    at_start = record { read = []; over = false; running = running; consumed = refl; at_end = λ e. absurd cc }

    after_all : (new : Intake) → TakesIn old new bytes → KeepsRound old new → Reaches done job frame most new emits (Some bytes) (Some [])
    after_all new taken kept =
        reach_takes done job frame most emits old new bytes (Some bytes) (Some bytes) (Some []) more taken kept (sym (append-nil bytes)) (λ none. refl)
        at_start

    all_taken : (new : Intake) (r : Reaches done job frame most new emits (Some bytes) (Some [])) → is_some new.ending ≡ true
        → HasTakenAll done job frame most new emits bytes
    all_taken new r known = record { reached = r; known = known }

    ended_all : (new : Intake) (r : Reaches done job frame most new emits (Some bytes) (Some [])) → r.over ≡ true
        → HasTakenAll done job frame most new emits bytes
    ended_all new r over = all_taken new r (known_at_end done frame new.framer new.ending r.read r.over r.running.given r.running.fed over)

  pub takes_all_known : (new : Intake) → TakesIn old new bytes → KeepsRound old new → is_some new.ending ≡ true → TakesAll old new bytes
  takes_all_known new taken kept known done job frame most emits running =
      all_taken done job frame most emits running new (after_all done job frame most emits running new taken kept) known

  pub takes_all_then : (mid new : Intake) → TakesIn old mid bytes → KeepsRound old mid → mid.ending ≡ None → TakesIn mid new [] → KeepsRound mid new
      → TakesAll old new bytes
  unfolding reach_takes
  takes_all_then mid new taken kept none over kept_then done job frame most emits running =
      ended_all done job frame most emits running new (reach_takes done job frame most emits mid new [] (Some bytes) (Some []) (Some []) none over kept_then
      refl (λ z. refl) (after_all done job frame most emits running mid taken kept)) refl

-- what a result holds
pub on_ok : {T E : Type 0} (r : Result T E) (P Q : Type 0) → (P → Q) → OnOk r P → OnOk r Q
on_ok (Ok x) P Q f p = f p
on_ok (Err e) P Q f p = tt

pub none_of : {T : Type 0} (o : Option T) → is_some o ≡ false → o ≡ None
none_of None e = refl
none_of (Some x) e = absurd cc

-- from one read to the next
pub keeps_on : {S : Type 0} (held : S → List ℕ → Option (List ℕ)) (left : S → ℕ → Option (List ℕ)) (given : S → ℕ → Bool) (names : S → List (List ℕ))
    (faults : S → ℕ) (file : ℕ) (a b c : S) → KeepsOtherFiles held left given names faults file a b → KeepsOtherFiles held left given names faults file b c
    → KeepsOtherFiles held left given names faults file a c
keeps_on held left given names faults file a b c first second = record {
  held_same = λ name. second.held_same name ∙ first.held_same name;
  left_same = λ other apart. second.left_same other apart ∙ first.left_same other apart;
  given_same = λ other. second.given_same other ∙ first.given_same other;
  names_same = second.names_same ∙ first.names_same;
  faults_later = omega (arith, first.faults_later, second.faults_later);
  faults_stay = λ full. second.faults_stay (first.faults_stay full);
}

-- tables of some emits, and those of a round, merged
pub joins_stand : (job : Job) (total part merged : TotalState) (emits es : List EmitDatum) → StandForEmits job.compiled total emits
    → StandForEmits job.compiled part es → Joins declarations emit_count shown total part merged → StandForEmits job.compiled merged (emits ++ es)
joins_stand job total part merged emits es stand standing joins = record {
  tables = joins.same_tables ∙ stand.tables;
  stands = joins.joined emits es stand.stands standing.stands;
}

-- the round was run
pub runs_round : (job : Job) (old : Intake) (total part merged : TotalState) (es : List EmitDatum) (n : ℕ) → CanRun job old total
    → outcome_from job old.round.passed (shards_of old.round) ≡ emitted es n → StandForEmits job.compiled part es
    → Joins declarations emit_count shown total part merged → RunsRound job old (moved_on n old) total merged
runs_round job old total part merged es n can is standing joins = record {
  goes_on = λ done frame most start left g. record {
    emits = g.emits ++ es;
    stand = joins_stand job total part merged g.emits es g.stand standing joins;
    reached = goes_behind old n done job frame most g.emits es start left g.reached is;
  };
  further =
      (let h = can.has_round in
      let some = some_closed h.done job h.frame h.most old can.emits h.read h.over h.running h.some in
      omega (arith, some));
  ending = refl;
}
