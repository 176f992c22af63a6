-- A message stands where it does by its own bytes.
use Rattle.std.proofs.Common.{◌≡◌, ℕ, zero, suc, ◌+◌, ◌-◌, ◌*◌, ◌%◌, ◌^◌, ◌<◌, ◌≤◌, List, [], ◌∷◌, ◌++◌, length, take, drop, Option, Some, None}
use Rattle.std.proofs.Common.{Bool, true, false, cond, ltb, leb, refl, sym, ap, subst, ◌∙◌, arith, length-append, length-drop}
use Rattle.std.proofs.lemmas.Bool.{ltb-true, ltb-false, leb-true, lt-ltb, le-ltb, le-leb}
use Rattle.std.proofs.lemmas.List.{take-take, drop_all, length-take-le, drop-append-le}
use Rattle.std.proofs.lemmas.Option.{some_pair_parts}
use Rattle.sz_types.specs.declared.frame.Frame.TheVariants.{Delimited}
use Rattle.sz_wire.specs.Varint.{low_bits, number_at, in_64_bits, varint_at}
use Rattle.sz_records.specs.declared.ending.Ending.{Ending}
use Rattle.sz_records.specs.declared.ending.Ending.TheVariants.{Whole, Damaged, Limit}
use Rattle.sz_records.specs.Cutting.{full, Standing, record_of, stopped, unfinished, by_limits, sized_standing, length_standing, frame_standing, standing, at_end, EndsHere, BeginsWith, IsCut}
use Rattle.sz_records.proofs.CutLemmas.{cut_record, cut_end}
use Rattle.sz_records.proofs.StayLemmas.{record_stays}
use Rattle.sz_records.proofs.StandingLemmas.{never_whole}

-- a number stands at the front of these bytes, whatever comes behind it
record ReadsFront (read : List ℕ → Option (ℕ × List ℕ)) (bytes : List ℕ) (n : ℕ) (rest : List ℕ) : Type 0 where
  front : List ℕ
  is : bytes ≡ front ++ rest
  some : 0 < length front
  reads : (more : List ℕ) → read (front ++ more) ≡ Some (n, more)

low_bits_found : (b : ℕ) (read : Option (ℕ × List ℕ)) (n : ℕ) (rest : List ℕ) → low_bits b read ≡ Some (n, rest)
    → (high : ℕ) × (read ≡ Some (high, rest)) × (n ≡ b - 128 + 128 * high)
low_bits_found b None n rest e = absurd cc
low_bits_found b (Some found) n rest e =
    let parts = some_pair_parts (b - 128 + 128 * found.0) n found.1 rest e in
    (found.0, ap (λ (r : List ℕ). Some (found.0, r)) parts.1, sym parts.0)

number_front : (most : ℕ) (bytes : List ℕ) (n : ℕ) (rest : List ℕ) → number_at most bytes ≡ Some (n, rest)
    → ReadsFront (number_at most) bytes n rest
unfolding number_at
number_front zero bytes n rest e = absurd cc
number_front (suc most) [] n rest e = absurd cc
number_front (suc most) (x ∷ xs) n rest e = by (λ k later is. number_front most xs k later is) (ltb x 128) refl e
  where
    by : ((k : ℕ) (later : List ℕ) → number_at most xs ≡ Some (k, later) → ReadsFront (number_at most) xs k later)
        → (t : Bool) → ltb x 128 ≡ t → cond t (Some (x, xs)) (low_bits x (number_at most xs)) ≡ Some (n, rest)
        → ReadsFront (number_at (suc most)) (x ∷ xs) n rest
    by further true is h =
        let parts = some_pair_parts x n xs rest h in
        record {
          front = x ∷ [];
          is = ap (λ (l : List ℕ). x ∷ l) parts.1;
          some = omega arith;
          reads = λ more. rw is (ap (λ (k : ℕ). Some (k, more)) parts.0);
        }
    by further false is h =
        let found = low_bits_found x (number_at most xs) n rest h in
        let later = further found.0 rest found.1 in
        record {
          front = x ∷ later.front;
          is = ap (λ (l : List ℕ). x ∷ l) later.is;
          some = omega arith;
          reads = λ more. rw is (ap (low_bits x) (later.reads more) ∙ ap (λ (k : ℕ). Some (k, more)) (sym found.2));
        }

varint_front : (bytes : List ℕ) (n : ℕ) (rest : List ℕ) → varint_at bytes ≡ Some (n, rest)
    → ReadsFront varint_at bytes n rest
unfolding varint_at
varint_front bytes n rest e = by (number_at 10 bytes) refl e
  where
    by : (read : Option (ℕ × List ℕ)) → number_at 10 bytes ≡ read → in_64_bits read ≡ Some (n, rest)
        → ReadsFront varint_at bytes n rest
    by None is h = absurd cc
    by (Some found) is h =
        let parts = some_pair_parts (found.0 % 2 ^ 64) n found.1 rest h in
        let front = number_front 10 bytes found.0 found.1 is in
        record {
          front = front.front;
          is = front.is ∙ ap (λ (l : List ℕ). front.front ++ l) parts.1;
          some = front.some;
          reads = λ more. ap in_64_bits (front.reads more) ∙ ap (λ (k : ℕ). Some (k, more)) parts.0;
        }

-- a message that stands at byte p after n others: its length and its bytes, within the limits
record Message (p n : ℕ) (bytes r : List ℕ) (size : ℕ) : Type 0 where
  len : ℕ
  later : List ℕ
  front : ReadsFront varint_at bytes len later
  short : len ≤ full.record_bytes
  within : p + (length front.front + len) ≤ full.input_bytes
  there : len ≤ length later
  is : r ≡ take len later
  takes : size ≡ length front.front + len
  counted : n < full.records

record_parts : (r s : List ℕ) (m k : ℕ) → record_of r m ≡ record_of s k → (r ≡ s) × (m ≡ k)
record_parts r s m k e = (cc, cc)

message_of : (p n : ℕ) (bytes r : List ℕ) (size : ℕ) → standing Delimited full p n bytes ≡ record_of r size
    → Message p n bytes r size
unfolding standing frame_standing length_standing sized_standing
message_of p n [] r size e = absurd cc
message_of p n (b ∷ bytes) r size e = by (ltb n full.records) refl e
  where
    sized : (len : ℕ) (later : List ℕ) (front : ReadsFront varint_at (b ∷ bytes) len later) → n < full.records
        → sized_standing full p (length (b ∷ bytes) - length later) len later ≡ record_of r size
        → Message p n (b ∷ bytes) r size
    sized len later front few h =
        tests (ltb full.record_bytes len) (ltb full.input_bytes (p + (length (b ∷ bytes) - length later + len)))
        (leb len (length later)) refl refl refl h
      where
        used : length (b ∷ bytes) - length later ≡ length front.front
        used = omega (arith, ap length front.is, length-append front.front later)

        tests : (long past all : Bool) → ltb full.record_bytes len ≡ long
            → ltb full.input_bytes (p + (length (b ∷ bytes) - length later + len)) ≡ past
            → leb len (length later) ≡ all → by_limits long past all p
            (record_of (take len later) (length (b ∷ bytes) - length later + len)) ≡ record_of r size
            → Message p n (b ∷ bytes) r size
        tests true past all a c d k = absurd cc
        tests false true all a c d k = absurd cc
        tests false false false a c d k = absurd cc
        tests false false true a c d k =
            let same = record_parts (take len later) r (length (b ∷ bytes) - length later + len) size k in
            let short = ltb-false _ _ a in
            let within = ltb-false _ _ c in
            let there = leb-true _ _ d in
            record {
              len = len;
              later = later;
              front = front;
              short = short;
              within = omega (arith, within, used);
              there = there;
              is = sym same.0;
              takes = omega (arith, same.1, used);
              counted = few;
            }

    told : (read : Option (ℕ × List ℕ)) → varint_at (b ∷ bytes) ≡ read → n < full.records
        → length_standing full p (b ∷ bytes) read ≡ record_of r size → Message p n (b ∷ bytes) r size
    told None is few h = no (ltb (length (b ∷ bytes)) 10) h
      where
        no : (t : Bool) → cond t unfinished (stopped (Damaged p)) ≡ record_of r size → Message p n (b ∷ bytes) r size
        no true h = absurd cc
        no false h = absurd cc
    told (Some read) is few h = sized read.0 read.1 (varint_front (b ∷ bytes) read.0 read.1 is) few h

    by : (t : Bool) → ltb n full.records ≡ t
        → cond t (length_standing full p (b ∷ bytes) (varint_at (b ∷ bytes))) (stopped (Limit p)) ≡ record_of r size
        → Message p n (b ∷ bytes) r size
    by true is h = told (varint_at (b ∷ bytes)) refl (ltb-true _ _ is) h
    by false is h = absurd cc

-- it takes some bytes, and they are there
pub message_within : (p n : ℕ) (bytes r : List ℕ) (size : ℕ) → standing Delimited full p n bytes ≡ record_of r size
    → (0 < size) × (size ≤ length bytes)
message_within p n bytes r size stood =
    let m = message_of p n bytes r size stood in
    let long = ap length m.front.is ∙ length-append m.front.front m.later in
    (omega (arith, m.takes, m.front.some), omega (arith, m.takes, m.there, long))

-- what stands where a length was read
sized_so : (q m : ℕ) (bytes : List ℕ) (len : ℕ) (rest : List ℕ) → 0 < length bytes → m < full.records
    → varint_at bytes ≡ Some (len, rest)
    → standing Delimited full q m bytes ≡ sized_standing full q (length bytes - length rest) len rest
unfolding standing frame_standing length_standing
sized_so q m [] len rest some few e = absurd (omega (arith, some))
sized_so q m (b ∷ bytes) len rest some few e = rw (lt-ltb _ _ few, e) refl

-- all of it is there, within the limits
all_there : (q used len : ℕ) (rest : List ℕ) → len ≤ full.record_bytes → q + (used + len) ≤ full.input_bytes
    → len ≤ length rest → sized_standing full q used len rest ≡ record_of (take len rest) (used + len)
unfolding sized_standing
all_there q used len rest short within there = rw (le-ltb _ _ short, le-ltb _ _ within, le-leb _ _ there) refl

-- its own bytes are the message, at any earlier place
pub stands_alone : (p q n m : ℕ) (bytes r : List ℕ) (size : ℕ)
    → standing Delimited full p n bytes ≡ record_of r size → q ≤ p → m ≤ n
    → standing Delimited full q m (take size bytes) ≡ record_of r size
stands_alone p q n m bytes r size stood earlier fewer =
    let w = message_of p n bytes r size stood in
    let own = take w.len w.later in
    let own_len = length-take-le w.len w.later w.there in
    let front = w.front.front in
    let bytes_are : take size bytes ≡ front ++ own =
    ap (take size) w.front.is ∙ ap (λ (k : ℕ). take k (front ++ w.later)) w.takes ∙ take_more front w.later w.len in
    let used : length (front ++ own) - length own ≡ length front = omega (arith, length-append front own) in
    let within = w.within in
    let counted = w.counted in
    let some = w.front.some in
    ap (standing Delimited full q m) bytes_are
    ∙ sized_so q m (front ++ own) w.len own (omega (arith, length-append front own, some))
    (omega (arith, counted, fewer)) (w.front.reads own) ∙ ap (λ (k : ℕ). sized_standing full q k w.len own) used
    ∙ all_there q (length front) w.len own w.short (omega (arith, within, earlier)) (omega (arith, own_len))
    ∙ ap (λ (l : List ℕ). record_of l (length front + w.len)) (take-take w.len w.len w.later (omega arith) ∙ sym w.is)
    ∙ ap (record_of r) (sym w.takes)
  where
    take_more : (front later : List ℕ) (k : ℕ) → take (length front + k) (front ++ later) ≡ front ++ take k later
    take_more [] later k = ap (λ (j : ℕ). take j later) (let e : 0 + k ≡ k = omega arith in e)
    take_more (x ∷ front) later k =
        ap (λ (j : ℕ). take j (x ∷ (front ++ later)))
        (let e : suc (length front) + k ≡ suc (length front + k) = omega arith in e)
        ∙ ap (λ (l : List ℕ). x ∷ l) (take_more front later k)

-- an empty rest
pub nothing_cut : (p n : ℕ) (bytes : List ℕ) → bytes ≡ [] → IsCut Delimited full p n bytes [] Whole
unfolding standing
nothing_cut p n bytes is = subst (λ (l : List ℕ). IsCut Delimited full p n l [] Whole) (sym is)
    (cut_end Delimited full p n [] [] Whole refl refl)

pub one_alone : (p q n m : ℕ) (bytes r : List ℕ) (size : ℕ)
    → standing Delimited full p n bytes ≡ record_of r size → q ≤ p → m ≤ n
    → IsCut Delimited full q m (take size bytes) (r ∷ []) Whole
one_alone p q n m bytes r size stood earlier fewer =
    let within = message_within p n bytes r size stood in
    cut_record Delimited full q m (take size bytes) r size [] Whole
    (stands_alone p q n m bytes r size stood earlier fewer) (nothing_cut (q + size) (m + 1) (drop size
    (take size bytes)) (drop_all size (take size bytes) (omega (arith, length-take-le size bytes within.1))))

-- where no message is left of a whole file, no byte is
pub none_left : (p n : ℕ) (bytes : List ℕ) → IsCut Delimited full p n bytes [] Whole → bytes ≡ []
unfolding IsCut
none_left p n bytes h = by (standing Delimited full p n bytes) refl h
  where
    empty : (bytes : List ℕ) → at_end Delimited p bytes ≡ ([], Whole) → bytes ≡ []
    empty [] e = refl
    empty (b ∷ bytes) e = absurd (let no = ap (λ (x : List (List ℕ) × Ending). x.1) e in cc)

    by : (s : Standing) → standing Delimited full p n bytes ≡ s → EndsHere Delimited p bytes Whole s → bytes ≡ []
    by (record_of r size) stood h = absurd h
    by (stopped why) stood h = absurd (never_whole Delimited full p n bytes (stood ∙ ap stopped (sym h)))
    by unfinished stood h = empty bytes h

-- the first message of a whole file, and the rest
pub record FirstStands (p n : ℕ) (bytes r : List ℕ) (rs : List (List ℕ)) : Type 0 where
  pub size : ℕ
  pub stood : standing Delimited full p n bytes ≡ record_of r size
  pub rest : IsCut Delimited full (p + size) (n + 1) (drop size bytes) rs Whole

pub first_stands : (p n : ℕ) (bytes r : List ℕ) (rs : List (List ℕ)) → IsCut Delimited full p n bytes (r ∷ rs) Whole
    → FirstStands p n bytes r rs
unfolding IsCut
first_stands p n bytes r rs h = by (standing Delimited full p n bytes) refl h
  where
    goes_on : ℕ → Type 0
    goes_on size = IsCut Delimited full (p + size) (n + 1) (drop size bytes) rs Whole

    no_line : (bytes : List ℕ) → at_end Delimited p bytes ≡ (r ∷ rs, Whole) → ⊥
    no_line [] e = (let no = ap (λ (x : List (List ℕ) × Ending). x.0) e in cc)
    no_line (b ∷ bytes) e = (let no = ap (λ (x : List (List ℕ) × Ending). x.1) e in cc)

    by : (s : Standing) → standing Delimited full p n bytes ≡ s
        → BeginsWith Delimited p bytes (λ size. IsCut Delimited full (p + size) (n + 1) (drop size bytes) rs Whole) r
        rs Whole s → FirstStands p n bytes r rs
    by (record_of q size) stood h = record {
      size = size;
      stood = stood ∙ ap (λ (l : List ℕ). record_of l size) (sym h.0);
      rest = h.1;
    }
    by (stopped why) stood h = absurd h
    by unfinished stood h = absurd (no_line bytes h)

-- two whole files, one after the other, are one
pub joined : (rs others : List (List ℕ)) (q m : ℕ) (front back : List ℕ) → IsCut Delimited full q m front rs Whole
    → IsCut Delimited full (q + length front) (m + length rs) back others Whole
    → IsCut Delimited full q m (front ++ back) (rs ++ others) Whole
joined [] others q m front back h k =
    let none = none_left q m front h in
    let place : q + length front ≡ q = omega (arith, ap length none) in
    let count : m + 0 ≡ m = omega arith in
    rw none (rw (place, count) at k)
joined (r ∷ rs) others q m front back h k =
    let first = first_stands q m front r rs h in
    let within = message_within q m front r first.size first.stood in
    let place : q + length front ≡ q + first.size + length (drop first.size front) =
    omega (arith, within.1, length-drop first.size front) in
    let count : m + suc (length rs) ≡ m + 1 + length rs = omega arith in
    let later =
    joined rs others (q + first.size) (m + 1) (drop first.size front) back first.rest (rw (place, count) at k) in
    cut_record Delimited full q m (front ++ back) r first.size (rs ++ others) Whole
    (record_stays Delimited full q m front back r first.size first.stood)
    (rw (drop-append-le first.size front back within.1) later)
