-- Readers of what stands in front of bytes, which find just what has its bytes there.
use Rattle.std.proofs.Common.{◌≡◌, ◌∙◌, ℕ, zero, suc, ◌<◌, ◌≤◌, ◌^◌, ◌+◌, ◌-◌, ◌==◌, nat_lt, Bool, true, false, true≢false, ◌&&◌, is_some, ◌⊎◌, inl, inr, ⊎_elim, if◌then◌else◌, Option, Some, None, unwrap_or, List, [], ◌∷◌, ◌++◌, length, take, drop, flat_map, refl, sym, ap, subst, append_assoc, append-nil, arith, take_at, drop_at, ltb-true, lt-ltb, eqb-true, bytes_eq}
use Rattle.std.specs.Int.{Width, to_be_bytes, from_be_bytes}
use Rattle.std.specs.List.{AllByRecursion}
use Rattle.std.proofs.lemmas.Bool.{and_parts, and_from}
use Rattle.std.proofs.lemmas.Slice.Eq.{bytes_eq-Decides}
use Rattle.sz_flat.specs.Spelling.{length_bytes, IsShort}
use Rattle.sz_save_format.specs.Decoding.{Decoder, and_then, both, only, fixed_at, length_at, byte_at, picked, in_front, put_first, many_at, counted_at, Stops}
use Rattle.sz_save_format.specs.declared.error.SavedError.{SavedError}
use Rattle.sz_save_format.specs.declared.error.SavedError.TheVariants.{NotSaved, NoMemory}

pub none_some : {X : Type 0} {x : X} → None ≡ Some x → ⊥
none_some e = true≢false (sym (ap is_some e))

pub some_is : {X : Type 0} (x y : X) → Some x ≡ Some y → x ≡ y
some_is x y e = ap (λ o. unwrap_or o x) e

-- what is found next was found from somewhere
pub then_some : {X Y : Type 0} (o : Option (X × List ℕ)) (next : X → Decoder Y) (y : Y × List ℕ)
    → and_then o next ≡ Some y → (x : X) × (mid : List ℕ) × (o ≡ Some (x, mid)) × (next x mid ≡ Some y)
then_some None next y e = absurd (none_some e)
then_some (Some found) next y e = (found.0, found.1, refl, e)

pub only_some : {X : Type 0} (b : Bool) (o : Option X) (y : X) → only b o ≡ Some y → (b ≡ true) × (o ≡ Some y)
only_some true o y e = (refl, e)
only_some false o y e = absurd (none_some e)

pub only_true : {X : Type 0} (b : Bool) (o : Option X) → b ≡ true → only b o ≡ o
only_true b o e = ap (λ c. only c o) e

-- the parts of what was found
abbrev pub SameFound : {X : Type 0} → X → X → List ℕ → List ℕ → Type 0
SameFound {X} x y r s = ◌≡◌ {A = Option (X × List ℕ)} (Some (x, r)) (Some (y, s))

pub found_is : {X : Type 0} (x y : X) (r s : List ℕ) → SameFound x y r s → (x ≡ y) × (r ≡ s)
found_is {X} x y r s e = let p : ◌≡◌ {A = X × List ℕ} (x, r) (y, s) = some_is (x, r) (y, s) e in
    ((λ i. (p i).0), (λ i. (p i).1))

-- the reader finds what has its bytes in front, and nothing else
pub record Finds {X : Type 0} (has : X → Type 0) (bytes : X → List ℕ) (read : Decoder X) : Type 0 where
  pub sound : (flat : List ℕ) (x : X) (rest : List ℕ) → read flat ≡ Some (x, rest) → has x × (flat ≡ bytes x ++ rest)
  pub again : (x : X) (rest : List ℕ) → has x → read (bytes x ++ rest) ≡ Some (x, rest)

module _ {X : Type 0} {has : X → Type 0} {bytes : X → List ℕ} {read : Decoder X} (finds : Finds has bytes read) where
  -- what was found first
  pub found_first : {Y : Type 0} (flat : List ℕ) (next : X → Decoder Y) (y : Y × List ℕ)
      → and_then (read flat) next ≡ Some y
      → (x : X) × (mid : List ℕ) × has x × (flat ≡ bytes x ++ mid) × (next x mid ≡ Some y)
  found_first flat next y e =
      let first = then_some (read flat) next y e in
      let is = finds.sound flat first.0 first.1 first.2 in
      (first.0, first.1, is.0, is.1, first.3)

  -- what stands first is found first
  pub first_again : {Y : Type 0} (x : X) (rest : List ℕ) (next : X → Decoder Y) → has x
      → and_then (read (bytes x ++ rest)) next ≡ next x rest
  first_again x rest next h = ap (λ o. and_then o next) (finds.again x rest h)

  -- the same, where the bytes are grouped otherwise
  pub first_there : {Y : Type 0} (x : X) (flat rest : List ℕ) (next : X → Decoder Y) → has x → flat ≡ bytes x ++ rest
      → and_then (read flat) next ≡ next x rest
  first_there x flat rest next h is = ap (λ l. and_then (read l) next) is ∙ first_again x rest next h

  -- no two of them are read from the same bytes
  pub unique : (x y : X) (r s : List ℕ) → has x → has y → bytes x ++ r ≡ bytes y ++ s → (x ≡ y) × (r ≡ s)
  unique x y r s h k e = found_is x y r s (sym (finds.again x r h) ∙ ap read e ∙ finds.again y s k)

  pub put_first_some : (x : X) (o : Option (List X × List ℕ)) (xs : List X) (rest : List ℕ)
      → put_first x o ≡ Some (xs, rest) → (ys : List X) × (o ≡ Some (ys, rest)) × (x ∷ ys ≡ xs)
  put_first_some x None xs rest e = absurd (none_some e)
  put_first_some x (Some found) xs rest e = let p = found_is (x ∷ found.0) xs found.1 rest e in
      (found.0, (λ i. Some (found.0, p.1 i)), p.0)

  many_sound : (n : ℕ) (flat : List ℕ) (xs : List X) (rest : List ℕ) → many_at read n flat ≡ Some (xs, rest)
      → ((length xs ≡ n) × AllByRecursion has xs) × (flat ≡ flat_map bytes xs ++ rest)
  many_sound zero flat xs rest e =
      let p = found_is [] xs flat rest e in
      (subst (λ l. (length l ≡ 0) × AllByRecursion has l) p.0 (refl, tt), λ i. flat_map bytes (p.0 i) ++ p.1 i)
  many_sound (suc n) flat xs rest e =
      let first = found_first flat (λ x mid. put_first x (many_at read n mid)) (xs, rest) e in
      let later = put_first_some first.0 (many_at read n first.1) xs rest first.4 in
      let more = many_sound n first.1 later.0 rest later.1 in (
        subst (λ l. (length l ≡ suc n) × AllByRecursion has l) later.2 (omega (arith, more.0.0), (first.2, more.0.1)),
        first.3 ∙ (λ i. bytes first.0 ++ more.1 i) ∙ sym (append_assoc (bytes first.0) (flat_map bytes later.0) rest)
            ∙ (λ i. flat_map bytes (later.2 i) ++ rest),
      )

  many_again : (xs : List X) (rest : List ℕ) → AllByRecursion has xs
      → many_at read (length xs) (flat_map bytes xs ++ rest) ≡ Some (xs, rest)
  many_again [] rest h = refl
  many_again (x ∷ xs) rest h =
      first_there x (flat_map bytes (x ∷ xs) ++ rest) (flat_map bytes xs ++ rest)
      (λ y mid. put_first y (many_at read (length xs) mid)) h.0 (append_assoc (bytes x) (flat_map bytes xs) rest)
      ∙ ap (put_first x) (many_again xs rest h.1)

  -- so many of them
  pub many_finds : (n : ℕ) → Finds (λ xs. (length xs ≡ n) × AllByRecursion has xs) (flat_map bytes) (many_at read n)
  many_finds n = record {
    sound = many_sound n;
    again = λ xs rest h. ap (λ m. many_at read m (flat_map bytes xs ++ rest)) (sym h.0) ∙ many_again xs rest h.1;
  }

-- a number in so many bytes
module _ (w : Width) (k : ℕ) (long : (n : ℕ) → length (to_be_bytes w n) ≡ k)
    (back : (n : ℕ) → n < 256 ^ k → from_be_bytes w (to_be_bytes w n) ≡ n) where
  pub fixed_finds : Finds (λ n. n < 256 ^ k) (to_be_bytes w) (fixed_at w k)
  unfolding fixed_at
  fixed_finds = record { sound = go; again = there }
    where
      go : (flat : List ℕ) (n : ℕ) (rest : List ℕ) → fixed_at w k flat ≡ Some (n, rest)
          → (n < 256 ^ k) × (flat ≡ to_be_bytes w n ++ rest)
      go flat n rest e =
          let m = from_be_bytes w (take k flat) in
          let parts = only_some (nat_lt m (256 ^ k) && bytes_eq (to_be_bytes w m ++ drop k flat) flat)
          (Some (m, drop k flat)) (n, rest) e in
          let both = and_parts (nat_lt m (256 ^ k)) (bytes_eq (to_be_bytes w m ++ drop k flat) flat) parts.0 in
          let same = found_is m n (drop k flat) rest parts.1 in (
            subst (λ j. j < 256 ^ k) same.0 (ltb-true m (256 ^ k) both.0),
            sym ((bytes_eq-Decides (to_be_bytes w m ++ drop k flat) flat).0 both.1)
                ∙ (λ i. to_be_bytes w (same.0 i) ++ same.1 i),
          )

      there : (n : ℕ) (rest : List ℕ) → n < 256 ^ k → fixed_at w k (to_be_bytes w n ++ rest) ≡ Some (n, rest)
      there n rest h =
          let flat = to_be_bytes w n ++ rest in
          let value : from_be_bytes w (take k flat) ≡ n =
          ap (from_be_bytes w) (take_at (to_be_bytes w n) rest k (long n)) ∙ back n h in
          let behind : drop k flat ≡ rest = drop_at (to_be_bytes w n) rest k (long n) in
          (λ i. only (nat_lt (value i) (256 ^ k) && bytes_eq (to_be_bytes w (value i) ++ behind i) flat)
          (Some (value i, behind i))) ∙ only_true (nat_lt n (256 ^ k) && bytes_eq flat flat) (Some (n, rest))
          (and_from (nat_lt n (256 ^ k)) (bytes_eq flat flat) (lt-ltb n (256 ^ k) h)
          ((bytes_eq-Decides flat flat).1 refl))

-- a reader that finds what has other bytes in another way, which are the same
pub same_finds : {X : Type 0} {has had : X → Type 0} {bytes spelled : X → List ℕ} {read : Decoder X}
    → Finds has bytes read → ((x : X) → has x → had x) → ((x : X) → had x → has x)
    → ((x : X) → has x → bytes x ≡ spelled x) → Finds had spelled read
same_finds {read = read} finds to from are = record {
  sound = λ flat x rest e. let is = finds.sound flat x rest e in (to x is.0, is.1 ∙ ap (λ l. l ++ rest) (are x is.0));
  again = λ x rest h. ap (λ l. read (l ++ rest)) (sym (are x (from x h))) ∙ finds.again x rest (from x h);
}

-- what stops one reader stops another
pub stops_too : {X Y : Type 0} (one : Option X) (other : Option Y) (e : SavedError) → (one ≡ None → other ≡ None)
    → Stops one e → Stops other e
stops_too one other NotSaved follows stop = follows stop
stops_too one other NoMemory follows stop = tt

-- a stop for another reason than memory
pub stopped : {X : Type 0} (found : Option X) (e : SavedError) → Stops found e → e ≡ NotSaved → found ≡ None
stopped found NotSaved stop is = stop
stopped found NoMemory stop is = absurd (cc)

-- what was read so far, in front of what is read from there on
abbrev pub after : {X : Type 0} → List X → Option (List X × List ℕ) → Option (List X × List ℕ)
after done None = None
after done (Some found) = Some (done ++ found.0, found.1)

pub after_more : {X : Type 0} (done : List X) (x : X) (o : Option (List X × List ℕ))
    → after done (put_first x o) ≡ after (done ++ x ∷ []) o
after_more done x None = refl
after_more done x (Some found) = λ i. Some (sym (append_assoc done (x ∷ []) found.0) i, found.1)

pub after_none : {X : Type 0} (o : Option (List X × List ℕ)) → o ≡ after [] o
after_none None = refl
after_none (Some found) = refl

module _ {X : Type 0} (read : Decoder X) (whole : Option (List X × List ℕ)) (done : List X)
    (rest : List ℕ) (n i : ℕ) where
  -- the last turns, one more of which is made
  turn : i < n → (m : ℕ) → n - i ≡ m → m ≡ suc (n - (i + 1))
  turn less m is = omega (arith, less, is)

  pub many_goes : (x : X) (more : List ℕ) → i < n → read rest ≡ Some (x, more)
      → whole ≡ after done (many_at read (n - i) rest)
      → whole ≡ after (done ++ x ∷ []) (many_at read (n - (i + 1)) more)
  many_goes x more less one is =
      is ∙ ap (λ m. after done (many_at read m rest)) (turn less (n - i) refl)
      ∙ ap (λ o. after done (and_then o (λ y mid. put_first y (many_at read (n - (i + 1)) mid)))) one
      ∙ after_more done x (many_at read (n - (i + 1)) more)

  pub many_stops : i < n → read rest ≡ None → whole ≡ after done (many_at read (n - i) rest) → whole ≡ None
  many_stops less none is =
      is ∙ ap (λ m. after done (many_at read m rest)) (turn less (n - i) refl)
      ∙ ap (λ o. after done (and_then o (λ y mid. put_first y (many_at read (n - (i + 1)) mid)))) none

  pub many_ends : n ≤ i → whole ≡ after done (many_at read (n - i) rest) → whole ≡ Some (done, rest)
  many_ends last is =
      let zero_left : n - i ≡ 0 = omega (arith, last) in
      is ∙ ap (λ m. after done (many_at read m rest)) zero_left ∙ (λ j. Some (append-nil done j, rest))

-- what was found is what has these bytes in front
pub carried : {X : Type 0} (has : X → Type 0) (bytes : X → List ℕ) (flat : List ℕ) (x y : X) (r s : List ℕ)
    → SameFound x y r s → has x → flat ≡ bytes x ++ r → has y × (flat ≡ bytes y ++ s)
carried has bytes flat x y r s e h is =
    let same = found_is x y r s e in
    (subst has same.0 h, is ∙ (λ i. bytes (same.0 i) ++ same.1 i))

-- parts that follow each other
pub two_parts : (flat a mid b rest : List ℕ) → flat ≡ a ++ mid → mid ≡ b ++ rest → flat ≡ (a ++ b) ++ rest
two_parts flat a mid b rest e f = e ∙ ap (λ l. a ++ l) f ∙ sym (append_assoc a b rest)

-- the first byte
pub byte_some : (flat : List ℕ) (b : ℕ) (rest : List ℕ) → byte_at flat ≡ Some (b, rest) → flat ≡ b ∷ rest
byte_some [] b rest e = absurd (none_some e)
byte_some (c ∷ flat) b rest e = let same = found_is c b flat rest e in λ i. same.0 i ∷ same.1 i

pub in_front_some : {X : Type 0} (o : Option X) (rest : List ℕ) (x : X) (more : List ℕ)
    → in_front o rest ≡ Some (x, more) → (o ≡ Some x) × (rest ≡ more)
in_front_some None rest x more e = absurd (none_some e)
in_front_some (Some y) rest x more e = let same = found_is y x rest more e in (ap Some same.0, same.1)

-- a choice between two
pub if_some : {X : Type 0} (b : Bool) (o p : Option X) (x : X) → (if b then o else p) ≡ Some x
    → ((b ≡ true) × (o ≡ Some x)) ⊎ ((b ≡ false) × (p ≡ Some x))
if_some true o p x e = inl (refl, e)
if_some false o p x e = inr (refl, e)

-- a choice by a byte
pub picked_some : {X : Type 0} (cases : List (ℕ × Decoder X)) (kind : ℕ) (flat : List ℕ) (x : X × List ℕ) (G : Type 0)
    → AllByRecursion (λ c. c.1 flat ≡ Some x → kind ≡ c.0 → G) cases → picked cases kind flat ≡ Some x → G
picked_some [] kind flat x G each e = absurd (none_some e)
picked_some (c ∷ cases) kind flat x G each e =
    ⊎_elim (λ h. each.0 h.1 (eqb-true kind c.0 h.0)) (λ h. picked_some cases kind flat x G each.1 h.1)
    (if_some (kind == c.0) (c.1 flat) (picked cases kind flat) x e)

-- as many as a number says, which stands in front of them
module _ {hasN : ℕ → Type 0} {bytesN : ℕ → List ℕ} {readN : Decoder ℕ} (numbers : Finds hasN bytesN readN)
    {X : Type 0} {has : X → Type 0} {bytes : X → List ℕ} {read : Decoder X} (finds : Finds has bytes read) where
  by_sound : (flat : List ℕ) (xs : List X) (rest : List ℕ)
      → and_then (readN flat) (λ n mid. many_at read n mid) ≡ Some (xs, rest)
      → (hasN (length xs) × AllByRecursion has xs) × (flat ≡ (bytesN (length xs) ++ flat_map bytes xs) ++ rest)
  by_sound flat xs rest e =
      let first = found_first numbers flat (λ n mid. many_at read n mid) (xs, rest) e in
      let later = (many_finds finds first.0).sound first.1 xs rest first.4 in (
        (subst hasN (sym later.0.0) first.2, later.0.1),
        two_parts flat (bytesN (length xs)) first.1 (flat_map bytes xs) rest
            (first.3 ∙ (λ i. bytesN (sym later.0.0 i) ++ first.1)) later.1,
      )

  by_again : (xs : List X) (rest : List ℕ) → hasN (length xs) × AllByRecursion has xs
      → and_then (readN ((bytesN (length xs) ++ flat_map bytes xs) ++ rest)) (λ n mid. many_at read n mid)
      ≡ Some (xs, rest)
  by_again xs rest h =
      first_there numbers (length xs) ((bytesN (length xs) ++ flat_map bytes xs) ++ rest) (flat_map bytes xs ++ rest)
      (λ n mid. many_at read n mid) h.0 (append_assoc (bytesN (length xs)) (flat_map bytes xs) rest)
      ∙ (many_finds finds (length xs)).again xs rest (refl, h.1)

  pub counted_by : Finds (λ xs. hasN (length xs) × AllByRecursion has xs)
      (λ xs. bytesN (length xs) ++ flat_map bytes xs) (λ flat. and_then (readN flat) (λ n rest. many_at read n rest))
  counted_by = record { sound = by_sound; again = by_again }

-- the same with a length in 4 bytes
pub counted_finds : {X : Type 0} {has : X → Type 0} {bytes : X → List ℕ} {read : Decoder X}
    → Finds IsShort length_bytes length_at → Finds has bytes read
    → Finds (λ xs. IsShort (length xs) × AllByRecursion has xs) (λ xs. length_bytes (length xs) ++ flat_map bytes xs)
    (counted_at read)
unfolding counted_at
counted_finds lengths finds = counted_by lengths finds

-- one after the other
module _ {X Y : Type 0} {hasX : X → Type 0} {bytesX : X → List ℕ} {readX : Decoder X} {hasY : Y → Type 0}
    {bytesY : Y → List ℕ} {readY : Decoder Y}
    (first : Finds hasX bytesX readX) (second : Finds hasY bytesY readY) where
  abbrev Both : X × Y → Type 0
  Both p = hasX p.0 × hasY p.1

  abbrev both_bytes : X × Y → List ℕ
  both_bytes p = bytesX p.0 ++ bytesY p.1

  both_sound : (flat : List ℕ) (p : X × Y) (rest : List ℕ) → both readX readY flat ≡ Some (p, rest)
      → Both p × (flat ≡ both_bytes p ++ rest)
  both_sound flat p rest e =
      let a = found_first first flat (λ x mid. and_then (readY mid) (λ y more. Some ((x, y), more))) (p, rest) e in
      let b = found_first second a.1 (λ y more. Some ((a.0, y), more)) (p, rest) a.4 in
      carried Both both_bytes flat (a.0, b.0) p b.1 rest b.4 (a.2, b.2)
      (two_parts flat (bytesX a.0) a.1 (bytesY b.0) b.1 a.3 b.3)

  both_again : (p : X × Y) (rest : List ℕ) → Both p → both readX readY (both_bytes p ++ rest) ≡ Some (p, rest)
  both_again p rest h =
      first_there first p.0 (both_bytes p ++ rest) (bytesY p.1 ++ rest)
      (λ x mid. and_then (readY mid) (λ y more. Some ((x, y), more))) h.0
      (append_assoc (bytesX p.0) (bytesY p.1) rest)
      ∙ first_again second p.1 rest (λ y more. Some ((p.0, y), more)) h.1

  pub both_finds : Finds (λ p. hasX p.0 × hasY p.1) (λ p. bytesX p.0 ++ bytesY p.1) (both readX readY)
  both_finds = record { sound = both_sound; again = both_again }
