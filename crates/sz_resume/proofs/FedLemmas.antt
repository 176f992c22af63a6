-- What is known of bytes that were read after what of an input is done, and of those of them after some of their records.
use Rattle.std.proofs.Common.{◌≡◌, ℕ, ◌+◌, ◌-◌, ◌^◌, ◌<◌, ◌≤◌, List, [], ◌++◌, length, drop, Bool, true, false, Option, Some, None}
use Rattle.std.proofs.Common.{refl, sym, ap, ◌∙◌, subst, arith, append-nil, length-append, length-drop}
use Rattle.std.proofs.lemmas.List.{drop-append-le}
use Rattle.sz_types.specs.declared.frame.Frame.{Frame}
use Rattle.sz_records.specs.declared.ending.Ending.{Ending}
use Rattle.sz_records.specs.declared.limits.FrameLimits.{FrameLimits}
use Rattle.sz_records.specs.Cutting.{full, IsCut, place_after, ends_in}
use Rattle.sz_records.specs.Fed.{FramerData}
use Rattle.sz_records.proofs.CutLaws.{some_cut}
use Rattle.sz_records.proofs.CutLemmas.{same_places}
use Rattle.sz_records.proofs.BehindLemmas as behind_some
use Rattle.sz_records.proofs.BehindLemmas.{GoesOnBehind, goes_on_behind}
use Rattle.sz_stream.specs.declared.done.Done.{Done}
use Rattle.sz_stream.specs.Inputs.{GoesOn}
use Rattle.sz_stream.specs.Intakes.{IsFed}
use Rattle.sz_stream.proofs.FedLemmas.{begins}
use Rattle.sz_stream.proofs.PlaceLemmas.{places_later}

-- it is cut so
pub record CutsOn (done : Done) (frame : Frame) (given : List (List ℕ)) (input : List ℕ) : Type 0 where
  pub more : List (List ℕ)
  pub ending : Ending
  pub cut : IsCut frame full done.bytes done.records input (given ++ more) ending

-- the same cut, by other words for its parts
cut_as : {p q n m : ℕ} {bytes others : List ℕ} {rs qs : List (List ℕ)} (frame : Frame) (limits : FrameLimits) (e : Ending) → p ≡ q → n ≡ m
    → bytes ≡ others → rs ≡ qs → IsCut frame limits p n bytes rs e → IsCut frame limits q m others qs e
cut_as {p = p} {q = q} {n = n} {m = m} {bytes = bytes} {others = others} {rs = rs} {qs = qs} frame limits e place count same records cut =
    subst (λ (x : List (List ℕ)). IsCut frame limits q m others x e) records
    (subst (λ (x : List ℕ). IsCut frame limits q m x rs e) same
    (subst (λ (x : ℕ). IsCut frame limits q x bytes rs e) count (subst (λ (x : ℕ). IsCut frame limits x n bytes rs e) place cut)))

place_as : {p q n m : ℕ} {bytes others : List ℕ} (frame : Frame) (limits : FrameLimits) (count : ℕ) → p ≡ q → n ≡ m → bytes ≡ others
    → place_after frame limits p n bytes count ≡ place_after frame limits q m others count
place_as {p = p} {q = q} {n = n} {m = m} {bytes = bytes} {others = others} frame limits count place number same =
    ap (λ (x : ℕ). place_after frame limits x n bytes count) place ∙ ap (λ (x : ℕ). place_after frame limits q x bytes count) number
    ∙ ap (λ (x : List ℕ). place_after frame limits q m x count) same

module _ (done : Done) (frame : Frame) (framer : FramerData) (read : List ℕ) (over : Bool) (given : List (List ℕ)) where
  pub cuts_on : (known : Option Ending) → IsFed done frame framer known read over given → (input : List ℕ) → GoesOn read over input
      → CutsOn done frame given input
  cuts_on known fed input on =
      let some = some_cut full.records frame full done.bytes done.records input (omega arith) in
      let b = begins done frame framer read over given known fed input on some.records some.ending some.cut in
      record {
        more = b.more;
        ending = some.ending;
        cut = subst (λ rs. IsCut frame full done.bytes done.records input rs some.ending) b.same some.cut;
      }

  -- what was read may be all
  pub all_on : GoesOn read over read
  all_on = record { more = []; begins = sym (append-nil read); ends = λ e. refl }

  -- so many of the records lead to this place, in each input that goes on so
  module _ (count place : ℕ) (few : count ≤ length given)
      (leads : (input : List ℕ) → GoesOn read over input → place ≡ place_after frame full done.bytes done.records input count) where
    -- after them the input goes on as it is cut
    pub behind : (known : Option Ending) (fed : IsFed done frame framer known read over given) (input : List ℕ) (on : GoesOn read over input)
        → GoesOnBehind frame full done.bytes done.records input (given ++ (cuts_on known fed input on).more) (cuts_on known fed input on).ending count
    behind known fed input on =
        let c = cuts_on known fed input on in
        goes_on_behind frame full done.bytes done.records input (given ++ c.more) c.ending count c.cut (omega (arith, few, length-append given c.more))

    module _ (known : Option Ending) (fed : IsFed done frame framer known read over given) where
      pub place_rises : done.bytes ≤ place
      place_rises = let b = behind known fed read all_on in omega (arith, b.rises, leads read all_on)

      pub place_further : 0 < count → done.bytes < place
      place_further some =
          let c = cuts_on known fed read all_on in
          let rises = behind_some.place_rises frame full done.bytes done.records read (given ++ c.more) c.ending count c.cut some
          (omega (arith, few, length-append given c.more)) in
          omega (arith, rises, leads read all_on)

      pub place_within : place - done.bytes ≤ length read
      place_within = let b = behind known fed read all_on in omega (arith, b.within, leads read all_on)

      pub place_low : done.bytes ≤ 2 ^ 40 → place ≤ 2 ^ 40
      place_low low = let b = behind known fed read all_on in let in_input = b.in_input low in omega (arith, in_input, leads read all_on)

      -- what stands after the place
      rest_is : (input more : List ℕ) → GoesOn read over input → input ≡ read ++ more
          → drop (place_after frame full done.bytes done.records input count - done.bytes) input ≡ drop (place - done.bytes) read ++ more
      rest_is input more on is =
          let k : place_after frame full done.bytes done.records input count - done.bytes ≡ place - done.bytes = omega (arith, leads input on) in
          ap (λ n. drop n input) k ∙ ap (drop (place - done.bytes)) is ∙ drop-append-le (place - done.bytes) read more place_within

      -- places of further records
      pub later_place : (input more : List ℕ) → GoesOn read over input → input ≡ read ++ more → (j : ℕ)
          → place_after frame full done.bytes done.records input (count + j)
          ≡ place_after frame full place (done.records + count) (drop (place - done.bytes) read ++ more) j
      later_place input more on is j =
          let b = behind known fed input on in b.later j ∙ place_as frame full j (sym (leads input on)) refl (rest_is input more on is)

      -- the cut of what stands after them
      later_cut : (input more : List ℕ) → GoesOn read over input → input ≡ read ++ more → (rs : List (List ℕ)) (e : Ending)
          → IsCut frame full done.bytes done.records input (given ++ rs) e
          → IsCut frame full place (done.records + count) (drop (place - done.bytes) read ++ more) (drop count given ++ rs) e
      later_cut input more on is rs e cut =
          let b = goes_on_behind frame full done.bytes done.records input (given ++ rs) e count cut (omega (arith, few, length-append given rs)) in
          cut_as frame full e (sym (leads input on)) refl (rest_is input more on is) (drop-append-le count given rs few) b.rest

    module _ (next : Done) (bytes_are : next.bytes ≡ place) (records_are : next.records ≡ done.records + count) (low : done.bytes ≤ 2 ^ 40) where
      abbrev pub k : ℕ
      k = place - done.bytes

      onto : (more : List ℕ) → (over ≡ true → more ≡ []) → GoesOn read over (read ++ more)
      onto more ends = record { more = more; begins = refl; ends = ends }

      -- what is known of bytes after these records
      pub fed_on : (known : Option Ending) → IsFed done frame framer known read over given
          → IsFed next frame framer known (drop k read) over (drop count given)
      fed_on None fed = (
        record {
          within = omega (arith, bytes_are, place_low None fed low);
          goes_on = λ more rs e cut.
              cut_as frame full e (sym bytes_are) (sym records_are) refl refl
              (later_cut None fed (read ++ more) more (onto more (not_over fed.2 more)) refl rs e (fed.0.goes_on more rs e cut));
          nothing_whole = fed.0.nothing_whole;
          same_limits = fed.0.same_limits;
          reached = λ unended.
              (let before = fed.0.reached unended in
              omega (arith, before, bytes_are, place_within None fed, place_rises None fed, length-drop k read));
          later = λ unended more j.
              (let sum : count + (length (drop count given) + j) ≡ length given + j = omega (arith, few, length-drop count given) in
              place_as frame full (length (drop count given) + j) bytes_are records_are refl
              ∙ sym (later_place None fed (read ++ more) more (onto more (not_over fed.2 more)) refl (length (drop count given) + j))
              ∙ ap (place_after frame full done.bytes done.records (read ++ more)) sum ∙ fed.0.later unended more j);
          early = fed.0.early;
        },
        fed.1,
        fed.2,
      )
        where
          not_over : over ≡ false → (more : List ℕ) → over ≡ true → more ≡ []
          not_over goes more over_now = absurd (let e = sym goes ∙ over_now in cc)
      fed_on (Some e) fed = (
        λ input on. (
            let all = onto on.more on.ends in
            let cut = fed.0 (read ++ on.more) all in
            let none : given ++ [] ≡ given = append-nil given in
            cut_as frame full e (sym bytes_are) (sym records_are) (sym on.begins) (append-nil (drop count given))
            (later_cut (Some e) fed (read ++ on.more) on.more all refl [] e
            (subst (λ rs. IsCut frame full done.bytes done.records (read ++ on.more) rs e) (sym none) cut))),
        fed.1,
      )

-- where further records end, in other words
pub ends_on : (frame : Frame) (limits : FrameLimits) (p n q m : ℕ) (bytes others ends : List ℕ) (count all : ℕ)
    → ends ≡ ends_in p n frame limits bytes 0 all
    → ((j : ℕ) → place_after frame limits p n bytes (count + j) ≡ place_after frame limits q m others j)
    → drop count ends ≡ ends_in q m frame limits others 0 (all - count)
ends_on frame limits p n q m bytes others ends count all is later =
    ap (drop count) is ∙ places_later (place_after frame limits p n bytes) 0 count all
    ∙ same_places (place_after frame limits p n bytes) (place_after frame limits q m others) (0 + count) 0 (all - count)
    (λ j. ap (place_after frame limits p n bytes) (let same : 0 + count + j ≡ count + j = omega arith in same) ∙ later j
    ∙ ap (place_after frame limits q m others) (let same : j ≡ 0 + j = omega arith in same))
