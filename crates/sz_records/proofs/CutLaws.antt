-- Each file is cut in just one way, and into no more records than there may be.
use Rattle.std.proofs.Common.{◌≡◌, ℕ, zero, suc, ◌+◌, ◌<◌, ◌≤◌, List, [], ◌∷◌, drop, length, Bool, true, false, refl, sym, ap, ◌∙◌, arith}
use Rattle.std.specs.Prelude.{nat_lt}
use Rattle.std.proofs.lemmas.Bool.Decides.{nat_tests}
use Rattle.sz_types.specs.declared.frame.Frame.{Frame}
use Rattle.sz_types.specs.declared.frame.Frame.TheVariants.{Lines, Delimited}
use Rattle.sz_records.specs.declared.ending.Ending.{Ending}
use Rattle.sz_records.specs.declared.ending.Ending.TheVariants.{Limit}
use Rattle.sz_records.specs.declared.limits.FrameLimits.{FrameLimits}
use Rattle.sz_records.specs.Cutting.{Standing, record_of, stopped, unfinished, at_end, EndsHere, BeginsWith, standing, IsCut, HasCut}
use Rattle.sz_records.proofs.StandingLemmas.{too_many}
use Rattle.sz_records.proofs.CutLemmas.{cut_record, cut_stopped, cut_end}

-- where bytes are left and no limit is passed, there may be one record more
is_counted : (frame : Frame) (limits : FrameLimits) (p n : ℕ) (bytes : List ℕ) → 0 < length bytes
    → (standing frame limits p n bytes ≡ stopped (Limit p) → ⊥) → n < limits.records
is_counted frame limits p n bytes some within = by (nat_lt n limits.records) refl
  where
    by : (b : Bool) → nat_lt n limits.records ≡ b → n < limits.records
    by true e = grind (arith, nat_tests)
    by false e = let over : limits.records ≤ n = grind (arith, nat_tests) in
        absurd (within (too_many frame limits p n bytes some over))

some_bytes : (frame : Frame) (limits : FrameLimits) (p n : ℕ) (bytes : List ℕ) (r : List ℕ) (size : ℕ)
    → standing frame limits p n bytes ≡ record_of r size → 0 < length bytes
unfolding standing
some_bytes frame limits p n [] r size stood = absurd (cc)
some_bytes frame limits p n (b ∷ bytes) r size stood = omega arith

record_counted : (frame : Frame) (limits : FrameLimits) (p n : ℕ) (bytes : List ℕ) (r : List ℕ) (size : ℕ)
    → standing frame limits p n bytes ≡ record_of r size → n < limits.records
record_counted frame limits p n bytes r size stood =
    is_counted frame limits p n bytes (some_bytes frame limits p n bytes r size stood)
    (λ over. not_both (sym stood ∙ over))
  where
    not_both : record_of r size ≡ stopped (Limit p) → ⊥
    not_both e = cc

-- the rest is cut in some way, if it is so after each record that may stand here
cut_by : (frame : Frame) (limits : FrameLimits) (p n : ℕ) (bytes : List ℕ)
    → ((size : ℕ) → n < limits.records → HasCut frame limits (p + size) (n + 1) (drop size bytes))
    → (s : Standing) → standing frame limits p n bytes ≡ s → HasCut frame limits p n bytes
cut_by frame limits p n bytes later (record_of r size) stood =
    let rest = later size (record_counted frame limits p n bytes r size stood) in
    record {
      records = r ∷ rest.records;
      ending = rest.ending;
      cut = cut_record frame limits p n bytes r size rest.records rest.ending stood rest.cut;
    }
cut_by frame limits p n bytes later (stopped why) stood = record {
  records = [];
  ending = why;
  cut = cut_stopped frame limits p n bytes why stood;
}
cut_by frame limits p n bytes later unfinished stood =
    let end = at_end frame p bytes in
    record { records = end.0; ending = end.1; cut = cut_end frame limits p n bytes end.0 end.1 stood refl }

-- after some records, the rest of a file is cut in some way
pub some_cut : (left : ℕ) (frame : Frame) (limits : FrameLimits) (p n : ℕ) (bytes : List ℕ)
    → limits.records ≤ n + left → HasCut frame limits p n bytes
some_cut zero frame limits p n bytes few =
    cut_by frame limits p n bytes (λ size counted. absurd (omega (arith, few, counted)))
    (standing frame limits p n bytes) refl
some_cut (suc left) frame limits p n bytes few =
    cut_by frame limits p n bytes
    (λ size counted. some_cut left frame limits (p + size) (n + 1) (drop size bytes) (omega (arith, few)))
    (standing frame limits p n bytes) refl

-- each file is cut in some way
pub every_file_is_cut : (frame : Frame) (limits : FrameLimits) (file : List ℕ) → HasCut frame limits 0 0 file
every_file_is_cut frame limits file = some_cut limits.records frame limits 0 0 file (omega arith)

abbrev AreSame : List (List ℕ) → List (List ℕ) → Ending → Ending → Type 0
AreSame rs others e why = (rs ≡ others) × (e ≡ why)

-- two cuts of the rest of a file are one
pub cut_once : (frame : Frame) (limits : FrameLimits) (p n : ℕ) (bytes : List ℕ) (rs others : List (List ℕ))
    (e why : Ending)
    → IsCut frame limits p n bytes rs e → IsCut frame limits p n bytes others why → AreSame rs others e why
unfolding IsCut
cut_once frame limits p n bytes [] [] e why h k = by (standing frame limits p n bytes) h k
  where
    by : (s : Standing) → EndsHere frame p bytes e s → EndsHere frame p bytes why s → AreSame [] [] e why
    by (record_of r size) h k = absurd h
    by (stopped w) h k = (refl, h ∙ sym k)
    by unfinished h k = (refl, ap (λ (x : List (List ℕ) × Ending). x.1) (sym h ∙ k))
cut_once frame limits p n bytes [] (r ∷ rs) e why h k = by (standing frame limits p n bytes) _ h k
  where
    by : (s : Standing) (goes_on : ℕ → Type 0) → EndsHere frame p bytes e s
        → BeginsWith frame p bytes goes_on r rs why s → AreSame [] (r ∷ rs) e why
    by (record_of q size) goes_on h k = absurd h
    by (stopped w) goes_on h k = absurd k
    by unfinished goes_on h k = let one = sym h ∙ k in
        (ap (λ (x : List (List ℕ) × Ending). x.0) one, ap (λ (x : List (List ℕ) × Ending). x.1) one)
cut_once frame limits p n bytes (r ∷ rs) [] e why h k = by (standing frame limits p n bytes) _ h k
  where
    by : (s : Standing) (goes_on : ℕ → Type 0) → BeginsWith frame p bytes goes_on r rs e s
        → EndsHere frame p bytes why s → AreSame (r ∷ rs) [] e why
    by (record_of q size) goes_on h k = absurd k
    by (stopped w) goes_on h k = absurd h
    by unfinished goes_on h k = let one = sym h ∙ k in
        (ap (λ (x : List (List ℕ) × Ending). x.0) one, ap (λ (x : List (List ℕ) × Ending). x.1) one)
cut_once frame limits p n bytes (r ∷ rs) (q ∷ qs) e why h k =
    by (standing frame limits p n bytes)
    (λ size. cut_once frame limits (p + size) (n + 1) (drop size bytes) rs qs e why) h k
  where
    by : (s : Standing)
        → ((size : ℕ) → IsCut frame limits (p + size) (n + 1) (drop size bytes) rs e
        → IsCut frame limits (p + size) (n + 1) (drop size bytes) qs why
        → AreSame rs qs e why)
        → BeginsWith frame p bytes (λ size. IsCut frame limits (p + size) (n + 1) (drop size bytes) rs e) r rs e s
        → BeginsWith frame p bytes (λ size. IsCut frame limits (p + size) (n + 1) (drop size bytes) qs why) q qs why s
        → AreSame (r ∷ rs) (q ∷ qs) e why
    by (record_of t size) later h k = let rest = later size h.1 k.1 in (cc, rest.1)
    by (stopped w) later h k = absurd h
    by unfinished later h k = let one = sym h ∙ k in
        (ap (λ (x : List (List ℕ) × Ending). x.0) one, ap (λ (x : List (List ℕ) × Ending). x.1) one)

-- no file has more records than there may be
pub records_are_few : (frame : Frame) (limits : FrameLimits) (p n : ℕ) (bytes : List ℕ) (rs : List (List ℕ))
    (e : Ending) → n ≤ limits.records → IsCut frame limits p n bytes rs e → n + length rs ≤ limits.records
unfolding IsCut
records_are_few frame limits p n bytes [] e few h = omega (arith, few)
records_are_few frame limits p n bytes (r ∷ rs) e few h =
    by (λ size. records_are_few frame limits (p + size) (n + 1) (drop size bytes) rs e)
    (standing frame limits p n bytes) refl h
  where
    by : ((size : ℕ) → n + 1 ≤ limits.records → IsCut frame limits (p + size) (n + 1) (drop size bytes) rs e
        → n + 1 + length rs ≤ limits.records) → (s : Standing) → standing frame limits p n bytes ≡ s
        → BeginsWith frame p bytes (λ size. IsCut frame limits (p + size) (n + 1) (drop size bytes) rs e) r rs e s
        → n + length (r ∷ rs) ≤ limits.records
    by later (record_of t size) stood h =
        let counted = record_counted frame limits p n bytes t size stood in
        let rest = later size (omega (arith, counted)) h.1 in omega (arith, rest)
    by later (stopped w) stood h = absurd h
    by later unfinished stood h =
        last frame bytes (λ some. is_counted frame limits p n bytes some (λ over. not_both (sym stood ∙ over))) h
      where
        not_both : unfinished ≡ stopped (Limit p) → ⊥
        not_both e = cc

        no_record : [] ≡ r ∷ rs → n + length (r ∷ rs) ≤ limits.records
        no_record e = absurd (cc)

        last : (frame : Frame) (bytes : List ℕ) → (0 < length bytes → n < limits.records)
            → at_end frame p bytes ≡ (r ∷ rs, e) → n + length (r ∷ rs) ≤ limits.records
        last Lines [] counts is = no_record (ap (λ (x : List (List ℕ) × Ending). x.0) is)
        last Delimited [] counts is = no_record (ap (λ (x : List (List ℕ) × Ending). x.0) is)
        last Lines (b ∷ bytes) counts is =
            let one : (b ∷ bytes) ∷ [] ≡ r ∷ rs = ap (λ (x : List (List ℕ) × Ending). x.0) is in
            let count = ap length one in let counted = counts (omega arith) in omega (arith, count, counted)
        last Delimited (b ∷ bytes) counts is =
            no_record (ap (λ (x : List (List ℕ) × Ending). x.0) is)
