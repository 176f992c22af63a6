-- A file in pieces is read as the file.
use Rattle.std.proofs.Common.{◌≡◌, ◌≢◌, ℕ, suc, ◌+◌, ◌-◌, ◌^◌, ◌<◌, ◌≤◌, List, [], ◌∷◌, ◌++◌, length, Option, Some, None, refl}
use Rattle.std.proofs.Common.{subst, sym, ap, ◌∙◌, append_assoc, length-append, arith}
use Rattle.std.proofs.lemmas.List.{append-nil}
use Rattle.sz_types.specs.declared.frame.Frame.{Frame}
use Rattle.std.specs.Prelude.{IsSome}
use Rattle.sz_types.specs.declared.frame.Frame.TheVariants.{Lines, Delimited}
use Rattle.sz_records.specs.declared.ending.Ending.TheVariants.{Whole, Damaged}
use Rattle.sz_records.specs.declared.cutter.Cutter.{Cutter}
use Rattle.sz_records.specs.declared.ending.Ending.{Ending}
use Rattle.sz_records.specs.declared.limits.FrameLimits.{FrameLimits}
use Rattle.sz_records.specs.Cutting.{stopped, unfinished, at_end, standing, IsCut, place_after, places_of}
use Rattle.sz_records.specs.Ends.{RecordsData, with_record}
use Rattle.sz_records.specs.Steps.{stands, IsCutOn, place_on, IsLeft, CutsOff}
use Rattle.sz_records.specs.Fed.{FramerData, IsCutAfter, IsCutBy, IsOpen, HasReadBehind, Feeds, EndSo, EndAsFed, Finishes, EndAsFinished, CutsPending}
use Rattle.sz_records.proofs.CutLemmas.{cut_stopped, cut_end, place_ended, same_places}
use Rattle.sz_records.proofs.StayLemmas.{ending_stays}
use Rattle.sz_records.proofs.StandingLemmas.{never_whole, begun_within, lines_within}
use Rattle.sz_records.proofs.OpenLemmas.{fixes_none}

-- what was cut off, with the ending that is known or the bytes that are kept back, goes on what was there
cut_goes_on : (old new : Cutter) (pending taken left kept : List ℕ) (before after : RecordsData)
    (ending : Option Ending) (s : CutsOff old new (pending ++ taken) left before after ending)
    → (ending ≡ None → kept ≡ left) → (more : List ℕ) (rs : List (List ℕ)) (e : Ending)
    → IsCutAfter new kept ending more rs e → IsCutOn old (pending ++ (taken ++ more)) (s.front.given ++ rs) e
cut_goes_on old new pending taken left kept before after None s is more rs e h =
    let here : IsCutOn new (left ++ more) rs e = rw (is refl) at h in
    rw (← append_assoc pending taken more) (s.front.goes_on more rs e here)
cut_goes_on old new pending taken left kept before after (Some why) s is more rs e h =
    let ends : IsCutOn new (left ++ more) [] why =
    cut_stopped new.frame new.limits new.place new.count (left ++ more) why
    (ending_stays new.frame new.limits new.place new.count left more why s.over) in
    rw (← append_assoc pending taken more, h.0, h.1) (s.front.goes_on more [] why ends)

-- bytes were taken in, and records were added: however the file goes on, what is still cut of it goes on what was cut
-- before
record TakesIn (old new : FramerData) (taken : List ℕ) (before after : List (List ℕ)) : Type 0 where
  added : List (List ℕ)
  gained : after ≡ before ++ added
  goes_on : (more : List ℕ) (rs : List (List ℕ)) (e : Ending) → IsCutBy new more rs e
      → IsCutBy old (taken ++ more) (added ++ rs) e
  nothing_whole : IsOpen old → IsOpen new
  same_limits : new.cutter.limits ≡ old.cutter.limits
  later : new.ended ≡ None → (more : List ℕ) (count : ℕ)
      → place_on old.cutter (old.pending ++ (taken ++ more)) (length added + count)
      ≡ place_on new.cutter (new.pending ++ more) count
  reached : new.ended ≡ None → (old.ended ≡ None)
      × (new.cutter.place + length new.pending ≡ old.cutter.place + length old.pending + length taken)
  early : old.ended ≢ Some Whole → new.ended ≢ Some Whole

-- a piece is taken in
takes_in : (old new : FramerData) (taken left : List ℕ) (before after : RecordsData)
    → CutsOff old.cutter new.cutter (old.pending ++ taken) left before after new.ended
    → old.ended ≡ None → (new.ended ≡ None → new.pending ≡ left) → TakesIn old new taken before.items after.items
takes_in old new taken left before after s none is = record {
  added = s.front.given;
  gained = s.front.gained;
  goes_on = λ more rs e h. (
      let goes = cut_goes_on old.cutter new.cutter old.pending taken left new.pending before after new.ended s
      is more rs e h in
      rw none goes);
  nothing_whole = λ sound e. rw (is e) (left_open new.ended s.over e);
  same_limits = s.front.of.limits;
  later = λ none more count. (
      let joined = append_assoc old.pending taken more in
      ap (λ (l : List ℕ). place_on old.cutter l (length s.front.given + count)) (sym joined)
      ∙ s.front.later more count
      ∙ ap (λ (l : List ℕ). place_on new.cutter (l ++ more) count) (sym (is none)));
  reached = λ e. (none, omega (arith, s.front.passed, ap length (is e), length-append old.pending taken));
  early = λ before. left_early new.ended s.over;
}
  where
    left_early : (ending : Option Ending) → IsLeft new.cutter left ending → ending ≢ Some Whole
    left_early None h e = cc
    left_early (Some why) h e = never_whole new.cutter.frame new.cutter.limits new.cutter.place new.cutter.count left
        (h ∙ ap stopped (same_why why e))
      where
        same_why : (why : Ending) → Some why ≡ Some Whole → why ≡ Whole
        same_why why e = cc

    left_open : (ending : Option Ending) → IsLeft new.cutter left ending → ending ≡ None
        → stands new.cutter left ≡ unfinished
    left_open None h e = h
    left_open (Some why) h e = absurd cc

-- where the ending is known, it doesn't matter what comes
whatever_comes : (cutter : Cutter) (pending : List ℕ) (ended : Option Ending) (e : Ending) → ended ≡ Some e
    → (more : List ℕ) → IsCutAfter cutter pending ended more [] e
whatever_comes cutter pending None e is more = absurd cc
whatever_comes cutter pending (Some why) e is more = (refl, grind arith)

-- where the ending is known, bytes are passed over
takes_ignored : (framer : FramerData) (taken : List ℕ) (given : List (List ℕ)) → IsSome framer.ended
    → TakesIn framer framer taken given given
takes_ignored framer taken given is = by_ended framer.ended refl is
  where
    by_ended : (ended : Option Ending) → framer.ended ≡ ended → IsSome ended → TakesIn framer framer taken given given
    by_ended None e h = absurd cc
    by_ended (Some why) e h = record {
      added = [];
      gained = sym (append-nil given);
      goes_on = λ more rs end k. (let k' = rw e at k in rw e k');
      nothing_whole = λ sound. sound;
      same_limits = refl;
      later = λ none. absurd (let no = sym e ∙ none in cc);
      reached = λ none. absurd (let no = sym e ∙ none in cc);
      early = λ before. before;
    }

-- what was read goes on in what is taken in
feeds : {old new : FramerData} {piece : List ℕ} {before after : List (List ℕ)} → TakesIn old new piece before after
    → Feeds old new piece before after new.ended
feeds {old} {new} {piece} {before} {after} t = λ p n frame limits fed given h. (
    let goes : (more : List ℕ) (rs : List (List ℕ)) (e : Ending) → IsCutBy new more rs e
    → IsCut frame limits p n (fed ++ piece ++ more) (given ++ t.added ++ rs) e =
    λ more rs e k. rw (append_assoc fed piece more, append_assoc given t.added rs)
    (h.goes_on (piece ++ more) (t.added ++ rs) e (t.goes_on more rs e k)) in
    let read : HasReadBehind p n frame limits new (fed ++ piece) (given ++ t.added) = record {
      within = h.within;
      goes_on = goes;
      nothing_whole = t.nothing_whole h.nothing_whole;
      same_limits = t.same_limits ∙ h.same_limits;
      later = λ none more count. (
          let joined = append_assoc fed piece more in
          let longer : length (given ++ t.added) + count ≡ length given + (length t.added + count) =
          omega (arith, length-append given t.added) in
          ap (λ (l : List ℕ). place_after frame limits p n l (length (given ++ t.added) + count)) joined
          ∙ ap (place_after frame limits p n (fed ++ (piece ++ more))) longer
          ∙ h.later (t.reached none).0 (piece ++ more) (length t.added + count)
          ∙ t.later none more count);
      reached = λ none. (let r = t.reached none in omega (arith, r.1, h.reached r.0, length-append fed piece));
      early = t.early h.early;
    } in
    record {
      added = t.added;
      gained = t.gained;
      read = read;
      fixed = λ e is more. (let cut = goes more [] e (whatever_comes new.cutter new.pending new.ended e is more) in
          rw (append-nil (given ++ t.added)) at cut);
      unfixed = fixes_none p n frame limits new (fed ++ piece) (given ++ t.added) read;
    })

-- the file ends where its ending is known
pub closes_ended : (framer : FramerData) (into : List (List ℕ)) (e : Ending) → framer.ended ≡ Some e
    → Finishes framer into into e
closes_ended framer into e is = λ p n frame limits fed given h. record {
  added = [];
  gained = sym (append-nil into);
  cut = let cut = h.goes_on [] [] e (whatever_comes framer.cutter framer.pending framer.ended e is []) in
      rw (append-nil fed) at cut;
}

closes_open : (framer : FramerData) (before after rs : List (List ℕ)) (e : Ending) → framer.ended ≡ None
    → at_end framer.cutter.frame framer.cutter.place framer.pending ≡ (rs, e) → after ≡ before ++ rs
    → Finishes framer before after e
closes_open framer before after rs e none ends grown = λ p n frame limits fed given h. record {
  added = rs;
  gained = grown;
  cut =
      let stood : stands framer.cutter framer.pending ≡ unfinished = h.nothing_whole none in
      let c = framer.cutter in
      let here : IsCut c.frame c.limits c.place c.count framer.pending rs e =
      cut_end c.frame c.limits c.place c.count framer.pending rs e stood ends in
      let by : IsCutBy framer [] rs e = rw (none, append-nil framer.pending) here in
      let cut = h.goes_on [] rs e by in
      rw (append-nil fed) at cut;
}

end_empty : (frame : Frame) (p : ℕ) (bytes : List ℕ) → length bytes ≡ 0 → at_end frame p bytes ≡ ([], Whole)
end_empty frame p [] e = refl
end_empty frame p (b ∷ bytes) e = absurd (omega arith)

end_line : (frame : Frame) (p : ℕ) (bytes : List ℕ) → frame ≡ Lines → 0 < length bytes
    → at_end frame p bytes ≡ (bytes ∷ [], Whole)
end_line frame p [] is some = absurd (omega arith)
end_line Lines p (b ∷ bytes) is some = refl
end_line Delimited p (b ∷ bytes) is some = absurd cc

end_damaged : (frame : Frame) (p : ℕ) (bytes : List ℕ) → frame ≡ Delimited → 0 < length bytes
    → at_end frame p bytes ≡ ([], Damaged p)
end_damaged frame p [] is some = absurd (omega arith)
end_damaged Delimited p (b ∷ bytes) is some = refl
end_damaged Lines p (b ∷ bytes) is some = absurd cc

pub closes_empty : (framer : FramerData) (into : List (List ℕ)) → framer.ended ≡ None → length framer.pending ≡ 0
    → Finishes framer into into Whole
closes_empty framer into none is =
    closes_open framer into into [] Whole none (end_empty framer.cutter.frame framer.cutter.place framer.pending is)
    (sym (append-nil into))

pub closes_line : (framer : FramerData) (before after : List (List ℕ)) → framer.ended ≡ None
    → framer.cutter.frame ≡ Lines → 0 < length framer.pending → after ≡ before ++ framer.pending ∷ []
    → Finishes framer before after Whole
closes_line framer before after none is some grown =
    closes_open framer before after (framer.pending ∷ []) Whole none
    (end_line framer.cutter.frame framer.cutter.place framer.pending is some) grown

pub closes_damaged : (framer : FramerData) (into : List (List ℕ)) → framer.ended ≡ None
    → framer.cutter.frame ≡ Delimited
    → 0 < length framer.pending → Finishes framer into into (Damaged framer.cutter.place)
closes_damaged framer into none is some =
    closes_open framer into into [] (Damaged framer.cutter.place) none
    (end_damaged framer.cutter.frame framer.cutter.place framer.pending is some) (sym (append-nil into))

pub starts_reading : (p n : ℕ) (frame : Frame) (limits : FrameLimits) (framer : FramerData)
    → framer.cutter.frame ≡ frame → framer.cutter.limits ≡ limits → framer.cutter.place ≡ p → framer.cutter.count ≡ n
    → framer.pending ≡ [] → framer.ended ≡ None → HasReadBehind p n frame limits framer [] []
unfolding standing
starts_reading p n frame limits framer f l place count_is pending none = record {
  within = (let low = framer.cutter.in_input in omega (arith, low, place, ap (λ (x : FrameLimits). x.input_bytes) l));
  goes_on = λ more rs e k. (let k' = rw (none, f, l, place, count_is, pending) at k in k');
  nothing_whole = λ e. rw pending refl;
  same_limits = l;
  later = λ e more count. (
      let none_given : 0 + count ≡ count = omega arith in
      ap (place_after frame limits p n more) none_given ∙ rw (f, l, place, count_is, pending) refl);
  reached = λ e. omega (arith, place, ap length pending);
  early = λ whole. (let no = sym none ∙ whole in cc);
}

-- no more bytes are read than an input may have, and those of a length that is begun, before the ending is known
pub read_within : (p n : ℕ) (frame : Frame) (limits : FrameLimits) (framer : FramerData) (fed : List ℕ)
    (given : List (List ℕ)) → HasReadBehind p n frame limits framer fed given
    → framer.ended ≡ None → framer.cutter.place + length framer.pending ≤ limits.input_bytes + 9
read_within p n frame limits framer fed given h none =
    let c = framer.cutter in
    let within = begun_within c.frame c.limits c.place c.count framer.pending c.in_input (h.nothing_whole none) in
    omega (arith, within, ap (λ (l : FrameLimits). l.input_bytes) h.same_limits)

-- where the ending is known, a piece changes nothing
pub feeds_ended : (framer : FramerData) (piece : List ℕ) (into : List (List ℕ)) (e : Ending) → framer.ended ≡ Some e
    → Feeds framer framer piece into into (Some e)
feeds_ended framer piece into e is = rw (← is) (feeds (takes_ignored framer piece into (rw is refl)))

-- the whole records of what was kept back and a piece are cut off
pub feeds_cut : (old mid new : FramerData) (piece : List ℕ) (before after : RecordsData) → old.ended ≡ None
    → mid ≡ record old { pending = old.pending ++ piece }
    → CutsPending mid new before after → Feeds old new piece before.items after.items new.ended
feeds_cut old mid new piece before after none is c =
    let s : CutsOff old.cutter new.cutter (old.pending ++ piece) c.left before after new.ended = rw is at c.cut in
    feeds (takes_in old new piece c.left before after s none c.pending)

-- the records in what was kept back are cut off: the ending isn't known, and what is left is kept back; or it is known
pub cuts_pending : (old new : FramerData) (left : List ℕ) (before after : RecordsData)
    → CutsOff old.cutter new.cutter old.pending left before after new.ended
    → new.pending ≡ left → CutsPending old new before after
cuts_pending old new left before after s is = record { left = left; cut = s; pending = λ none. is }

-- the same of a framer that is seen from inside
pub line_closes : (framer now : FramerData) (before after : List (List ℕ)) → framer ≡ now → now.ended ≡ None
    → framer.cutter.frame ≡ Lines → 0 < length framer.pending
    → after ≡ before ++ framer.pending ∷ [] → Finishes now before after Whole
line_closes framer now before after same none is some grown =
    subst (λ (f : FramerData). Finishes f before after Whole) same
    (closes_line framer before after (ap (λ (f : FramerData). f.ended) same ∙ none) is some grown)

pub damage_closes : (framer now : FramerData) (into : List (List ℕ)) → framer ≡ now → now.ended ≡ None
    → framer.cutter.frame ≡ Delimited → 0 < length framer.pending
    → Finishes now into into (Damaged framer.cutter.place)
damage_closes framer now into same none is some =
    subst (λ (f : FramerData). Finishes f into into (Damaged framer.cutter.place)) same
    (closes_damaged framer into (ap (λ (f : FramerData). f.ended) same ∙ none) is some)

-- no record came
no_more : (p n : ℕ) (frame : Frame) (limits : FrameLimits) (file : List ℕ) (i : ℕ) (into : RecordsData)
    → EndSo p n frame limits file i into into
no_more p n frame limits file i into =
    let none : length into.items - length into.items ≡ 0 = omega arith in
    sym (append-nil into.ends)
    ∙ ap (λ (k : ℕ). into.ends ++ places_of (place_after frame limits p n file) i k) (sym none)

pub none_finished : (framer : FramerData) (into : RecordsData) → EndAsFinished framer into into
none_finished framer into = λ p n frame limits fed given h. no_more p n frame limits fed (length given) into

-- the records that were cut off end where they do in the file
pub ends_cut : (old mid new : FramerData) (piece : List ℕ) (before after : RecordsData) → old.ended ≡ None
    → mid ≡ record old { pending = old.pending ++ piece }
    → CutsPending mid new before after → EndAsFed old piece before after
ends_cut old mid new piece before after none is c = λ p n frame limits fed given h more. (
    let s : CutsOff old.cutter new.cutter (old.pending ++ piece) c.left before after new.ended = rw is at c.cut in
    let file = fed ++ piece ++ more in
    let joined : fed ++ (piece ++ more) ≡ file = sym (append_assoc fed piece more) in
    let same : (k : ℕ) → place_after frame limits p n file (length given + k)
    ≡ place_on old.cutter (old.pending ++ piece ++ more) (0 + k) =
    λ k. (let start : k ≡ 0 + k = omega arith in
    ap (λ (l : List ℕ). place_after frame limits p n l (length given + k)) (sym joined)
    ∙ h.later none (piece ++ more) k
    ∙ ap (λ (l : List ℕ). place_on old.cutter l k) (sym (append_assoc old.pending piece more))
    ∙ ap (place_on old.cutter (old.pending ++ piece ++ more)) start) in
    let came : length after.items - length before.items ≡ length s.front.given =
    omega (arith, ap length s.front.gained, length-append before.items s.front.given) in
    s.front.ends more
    ∙ ap (λ (l : List ℕ). before.ends ++ l)
    (sym (ap (places_of (place_after frame limits p n file) (length given)) came
    ∙ same_places (place_after frame limits p n file) (place_on old.cutter (old.pending ++ piece ++ more))
    (length given) 0 (length s.front.given) same)))

-- a last line ends with the file
pub line_ends : (framer now : FramerData) (before after : RecordsData) (end : ℕ) → framer ≡ now → now.ended ≡ None
    → after ≡ with_record framer.pending end before
    → (framer.cutter.place + length framer.pending < 2 ^ 64 → end ≡ framer.cutter.place + length framer.pending)
    → framer.cutter.limits.input_bytes < 2 ^ 64 → framer.cutter.frame ≡ Lines → EndAsFinished now before after
line_ends framer now before after end same none grown is small lines =
    subst (λ (f : FramerData). EndAsFinished f before after) same from_inside
  where
    from_inside : EndAsFinished framer before after
    from_inside = λ p n frame limits fed given h. (
        let c = framer.cutter in
        let unended = ap (λ (f : FramerData). f.ended) same ∙ none in
        let stood : stands c framer.pending ≡ unfinished = h.nothing_whole unended in
        let within = lines_within c.limits c.place c.count framer.pending c.in_input (rw lines at stood) in
        let one : length after.items - length before.items ≡ 1 =
        omega (
          arith,
          ap (λ (x : RecordsData). length x.items) grown,
          length-append before.items (framer.pending ∷ []),
        ) in
        let next : suc (length given) ≡ length given + 1 = omega arith in
        let there : place_after frame limits p n fed (suc (length given)) ≡ end =
        ap (place_after frame limits p n fed) next
        ∙ ap (λ (l : List ℕ). place_after frame limits p n l (length given + 1)) (sym (append-nil fed))
        ∙ h.later unended [] 1
        ∙ ap (λ (l : List ℕ). place_on c l 1) (append-nil framer.pending)
        ∙ place_ended c.frame c.limits c.place c.count framer.pending 0 stood
        ∙ sym (is (omega (arith, within, small))) in
        ap (λ (x : RecordsData). x.ends) grown
        ∙ ap (λ (e : ℕ). before.ends ++ e ∷ []) (sym there)
        ∙ ap (λ (k : ℕ). before.ends ++ places_of (place_after frame limits p n fed) (length given) k) (sym one))
