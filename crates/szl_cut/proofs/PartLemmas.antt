-- The parts of a file hold its messages, and they are few.
use Rattle.std.proofs.Common.{◌≡◌, ℕ, suc, ◌+◌, ◌-◌, ◌/◌, ◌≤◌, List, [], ◌∷◌, ◌++◌, length, take, drop}
use Rattle.std.proofs.Common.{Bool, true, false, cond, ltb, refl, sym, ap, subst, ◌∙◌, arith, append_assoc, length-append, length-drop}
use Rattle.std.proofs.lemmas.Bool.{ltb-true}
use Rattle.std.proofs.lemmas.List.{append-nil, take-append-drop, take_at, drop_at, length-take-le}
use Rattle.std.proofs.lemmas.Nat.{le-div}
use Rattle.std.proofs.Math.Nat.{div-mul-le_self}
use Rattle.sz_types.specs.declared.frame.Frame.TheVariants.{Delimited}
use Rattle.sz_records.specs.declared.ending.Ending.TheVariants.{Whole}
use Rattle.sz_records.specs.Cutting.{full, record_of, standing, IsCut, place_after, places_of}
use Rattle.sz_records.proofs.CutLemmas.{place_now, place_passed, same_places}
use Rattle.szl_cut.specs.Cuts.{cuts}
use Rattle.szl_cut.specs.Parts.{parts, IsPart, HoldTogether}
use Rattle.szl_cut.proofs.MessageLemmas.{nothing_cut, one_alone, none_left, FirstStands, first_stands, message_within, joined}

abbrev ends_from : ℕ → ℕ → List ℕ → ℕ → List ℕ
ends_from p n bytes count = places_of (place_after Delimited full p n bytes) 0 count

-- where messages end behind the first one
ends_later : (p n : ℕ) (bytes r : List ℕ) (size count : ℕ) → standing Delimited full p n bytes ≡ record_of r size
    → ends_from p n bytes (suc count) ≡ (p + size) ∷ ends_from (p + size) (n + 1) (drop size bytes) count
ends_later p n bytes r size count stood =
    let place = place_after Delimited full p n bytes in
    let other = place_after Delimited full (p + size) (n + 1) (drop size bytes) in
    let passed : (k : ℕ) → place (suc k) ≡ other k = λ k. place_passed Delimited full p n bytes r size k stood in
    let first : place 1 ≡ p + size = passed 0 ∙ place_now Delimited full (p + size) (n + 1) (drop size bytes) in
    let rest : places_of place 1 count ≡ places_of other 0 count =
    same_places place other 1 0 count (λ k.
    (let a : 1 + k ≡ suc k = omega arith in let b : k ≡ 0 + k = omega arith in ap place a ∙ passed k ∙ ap other b)) in
    ap (λ (e : ℕ). e ∷ places_of place 1 count) first ∙ ap (λ (l : List ℕ). (p + size) ∷ l) rest

-- Whole messages at the front, which begin at place c, and those behind them: the parts hold them all
holds : (size : ℕ) (rs : List (List ℕ)) (p n before c : ℕ) (front bytes : List ℕ) (given : List (List ℕ))
    → IsCut Delimited full p n bytes rs Whole → IsPart front given → c + length front ≡ p → length given ≤ n
    → HoldTogether (parts c (cuts size before p (ends_from p n bytes (length rs))) (front ++ bytes)) (given ++ rs)
holds size [] p n before c front bytes given cut part place few =
    let none = none_left p n bytes cut in
    let all : front ++ bytes ≡ front = ap (λ (l : List ℕ). front ++ l) none ∙ append-nil front in
    (length given, (rw (all, take_at given [] (length given) refl) part, drop_at given [] (length given) refl))
holds size (r ∷ rs) p n before c front bytes given cut part place few =
    subst (λ (ends : List ℕ). HoldTogether (parts c (cuts size before p ends) (front ++ bytes)) (given ++ r ∷ rs))
    (sym (ends_later p n bytes r z (length rs) stood)) (by (λ from head have part place few. holds size rs (p + z)
    (n + 1) p from head (drop z bytes) have first.rest part place few) (ltb (before / size) (p / size)))
  where
    first : FirstStands p n bytes r rs
    first = first_stands p n bytes r rs cut

    z : ℕ
    z = first.size

    stood : standing Delimited full p n bytes ≡ record_of r z
    stood = first.stood

    own : length (take z bytes) ≡ z
    own = length-take-le z bytes (message_within p n bytes r z stood).1

    later : List ℕ
    later = cuts size p (p + z) (ends_from (p + z) (n + 1) (drop z bytes) (length rs))

    by : ((from : ℕ) (head : List ℕ) (have : List (List ℕ)) → IsPart head have → from + length head ≡ p + z
        → length have ≤ n + 1 → HoldTogether (parts from later (head ++ drop z bytes)) (have ++ rs))
        → (t : Bool) → HoldTogether (parts c (cond t (p ∷ later) later) (front ++ bytes)) (given ++ (r ∷ rs))
    by further true =
        let rest = further p (take z bytes) (r ∷ [])
        (one_alone p 0 n 0 bytes r z stood (omega arith) (omega arith)) (omega (arith, own)) (omega arith) in
        let length_is : length front ≡ p - c = omega (arith, place) in (
          length given,
          (
            rw (take_at front bytes (p - c) length_is, take_at given (r ∷ rs) (length given) refl) part,
            rw (drop_at front bytes (p - c) length_is, drop_at given (r ∷ rs) (length given) refl)
                (rw (take-append-drop z bytes) at rest),
          ),
        )
    by further false =
        let more = joined given (r ∷ []) 0 0 front (take z bytes) part
        (one_alone p (0 + length front) n (0 + length given) bytes r z stood (omega (arith, place))
        (omega (arith, few))) in
        let rest = further c (front ++ take z bytes) (given ++ r ∷ []) more
        (omega (arith, place, own, length-append front (take z bytes)))
        (omega (arith, few, length-append given (r ∷ []))) in
        let bytes_are : front ++ take z bytes ++ drop z bytes ≡ front ++ bytes =
        append_assoc front (take z bytes) (drop z bytes) ∙ ap (λ (l : List ℕ). front ++ l) (take-append-drop z bytes) in
        rw (bytes_are, append_assoc given (r ∷ []) rs) at rest

pub parts_hold : (size : ℕ) (file : List ℕ) (messages : List (List ℕ)) → IsCut Delimited full 0 0 file messages Whole
    → HoldTogether (parts 0 (cuts size 0 0 (ends_from 0 0 file (length messages))) file) messages
parts_hold size file messages cut =
    holds size messages 0 0 0 0 [] file [] cut (nothing_cut 0 0 [] refl) refl (omega arith)

-- a greater number is no fewer sizes
more_sizes : (size a b : ℕ) → 1 ≤ size → a ≤ b → a / size ≤ b / size
more_sizes size a b some le = le-div (a / size) b size some (let low = div-mul-le_self a size in omega (arith, low, le))

-- each cut passes a size
few_cuts : (size : ℕ) (rs : List (List ℕ)) (p n before : ℕ) (bytes : List ℕ) → 1 ≤ size → before ≤ p - 1
    → IsCut Delimited full p n bytes rs Whole
    → length (cuts size before p (ends_from p n bytes (length rs))) + before / size ≤ (p + length bytes - 1) / size
few_cuts size [] p n before bytes some le cut =
    let none = more_sizes size before (p + length bytes - 1) some (omega (arith, le)) in omega (arith, none)
few_cuts size (r ∷ rs) p n before bytes some le cut =
    subst (λ (ends : List ℕ). length (cuts size before p ends) + before / size ≤ (p + length bytes - 1) / size)
    (sym (ends_later p n bytes r z (length rs) stood))
    (by (rest (few_cuts size rs (p + z) (n + 1) p (drop z bytes) some below first.rest))
    (ltb (before / size) (p / size)) refl)
  where
    first : FirstStands p n bytes r rs
    first = first_stands p n bytes r rs cut

    z : ℕ
    z = first.size

    stood : standing Delimited full p n bytes ≡ record_of r z
    stood = first.stood

    later : List ℕ
    later = cuts size p (p + z) (ends_from (p + z) (n + 1) (drop z bytes) (length rs))

    end_is : p + z + length (drop z bytes) - 1 ≡ p + length bytes - 1
    end_is = let within = message_within p n bytes r z stood in omega (arith, within.1, length-drop z bytes)

    below : p ≤ p + z - 1
    below = let within = message_within p n bytes r z stood in omega (arith, within.0)

    rest : length later + p / size ≤ (p + z + length (drop z bytes) - 1) / size
        → length later + p / size ≤ (p + length bytes - 1) / size
    rest fewer = subst (λ (k : ℕ). length later + p / size ≤ k / size) end_is fewer

    by : length later + p / size ≤ (p + length bytes - 1) / size → (t : Bool) → ltb (before / size) (p / size) ≡ t
        → length (cond t (p ∷ later) later) + before / size ≤ (p + length bytes - 1) / size
    by few true is = let passed = ltb-true _ _ is in omega (arith, few, passed)
    by few false is = let no = more_sizes size before p some (omega (arith, le)) in omega (arith, few, no)

pub parts_few : (size : ℕ) (file : List ℕ) (messages : List (List ℕ)) → 1 ≤ size
    → IsCut Delimited full 0 0 file messages Whole
    → length (cuts size 0 0 (ends_from 0 0 file (length messages))) ≤ (length file - 1) / size
parts_few size file messages some cut =
    let few = few_cuts size messages 0 0 0 file some (omega arith) cut in
    let same : (0 + length file - 1) / size ≡ (length file - 1) / size =
    ap (λ (k : ℕ). k / size) (let e : 0 + length file - 1 ≡ length file - 1 = omega arith in e) in
    omega (arith, few, same)
