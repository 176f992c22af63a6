-- Lists that are kept flat: what their bytes say of their values, and reading them.
use Rattle.std.proofs.Common.{◌≡◌, ◌∙◌, ℕ, suc, ◌≤◌, ◌==◌, Bool, true, false, true≢false, Result, Ok, Err, OnOk, OnErr, List, [], ◌∷◌, ◌++◌}
use Rattle.std.proofs.Common.{length, refl, sym, ap, subst, arith, append_assoc, length-append, nat_eq}
use Rattle.std.specs.Cmp.Lexicographic.{pointwise, bytes_decides}
use Rattle.std.specs.Coded.{Coded-set, coded_list, coded_ℕ}
use Rattle.std.proofs.Math.Logic.{∥∥₁_elim}
use Rattle.std.proofs.lemmas.Bool.{eqb-true}
use Rattle.std.proofs.lemmas.List.{append-nil}
use mathlib.Core.HLevel.{⊥_prop}
use Rattle.sz_value.specs.Code.{parts_code}
use Rattle.sz_value.specs.Data.{Datum, data_of}
use Rattle.sz_flat.specs.declared.error.FlatError.{FlatError}
use Rattle.sz_flat.specs.declared.error.FlatError.TheVariants.{NotFlat, NoMemory}
use Rattle.sz_flat.specs.Spelling.{spelling, spelled_parts, HaveSpellings}
use Rattle.sz_flat.specs.Lists.{SpellsAll, SpellNone, Spelled, same_values}
use Rattle.sz_flat.specs.Kept.{one_list, some_bytes, same_values_are_one, same_values_equiv}
use Rattle.sz_flat.specs.Reading.{values, all_of, Adds, Stands, Lacks, Stops}
use Rattle.sz_flat.proofs.SpellingLemmas.{one_spelling}
use Rattle.sz_flat.proofs.FrontLemmas.{parts_spelled, parts_have}

-- no bytes spell no values
pub no_values : (flat : List ℕ) → flat ≡ [] → SpellsAll flat []
no_values flat none = record { spelled = tt; is = none }

-- the values that are kept are those that the bytes spell
pub values_are : (flat : List ℕ) (kept : Spelled flat) (ds : List Datum) → SpellsAll flat ds → kept.0 ≡ ds
values_are flat kept ds h = ∥∥₁_elim kept.1 (Coded-set parts_code kept.0 ds) (λ k. one_list flat kept.0 ds k h)

-- the same bytes have the same values
pub copy_is : (flat copy : List ℕ) (kept : Spelled flat) (other : Spelled copy) → copy ≡ flat → other.0 ≡ kept.0
copy_is flat copy kept other same =
    ∥∥₁_elim kept.1 (Coded-set parts_code other.0 kept.0)
    (λ k. values_are copy other kept.0 (subst (λ f. SpellsAll f kept.0) (sym same) k))

-- the bytes are the spellings of the values
pub bytes_are : (flat : List ℕ) (kept : Spelled flat) → flat ≡ spelled_parts (data_of kept.0)
bytes_are flat kept = ∥∥₁_elim kept.1 (Coded-set (coded_list coded_ℕ) flat (spelled_parts (data_of kept.0))) (λ k. k.is)

not_none : (n : ℕ) → 1 ≤ n → (n == 0) ≡ false
not_none n some = by (n == 0) refl
  where
    by : (b : Bool) → (n == 0) ≡ b → b ≡ false
    by true is = absurd (let zero = eqb-true n 0 is in omega (arith, zero, some))
    by false is = refl

-- there are bytes where there are values
pub empty_alike : (flat : List ℕ) (kept : Spelled flat) → (length flat == 0) ≡ (length kept.0 == 0)
empty_alike flat kept = ap (λ f. length f == 0) (bytes_are flat kept) ∙ by kept.0
  where
    by : (ds : List Datum) → (length (spelled_parts (data_of ds)) == 0) ≡ (length ds == 0)
    by [] = refl
    by (d ∷ ds) = more (spelling d) (some_bytes d)
      where
        more : (front : List ℕ) → 1 ≤ length front
            → (length (front ++ spelled_parts (data_of ds)) == 0) ≡ (suc (length ds) == 0)
        more front some =
            let long = length-append front (spelled_parts (data_of ds)) in
            not_none (length (front ++ spelled_parts (data_of ds))) (omega (arith, long, some))
            ∙ sym (not_none (suc (length ds)) (omega arith))

-- the bytes are equal just where the values are
pub same_bytes : (a b : List ℕ) (x : Spelled a) (y : Spelled b) → pointwise nat_eq a b ≡ same_values x.0 y.0
same_bytes a b x y = by (pointwise nat_eq a b) refl (same_values x.0 y.0) refl
  where
    by : (s : Bool) → pointwise nat_eq a b ≡ s → (t : Bool) → same_values x.0 y.0 ≡ t → s ≡ t
    by true s true t = refl
    by false s false t = refl
    by true s false t =
        let one = copy_is b a y x ((bytes_decides a b).0 s) in
        absurd (true≢false (sym (same_values_equiv.refl y.0) ∙ ap (λ z. same_values z y.0) (sym one) ∙ t))
    by false s true t =
        let one = bytes_are a x ∙ ap (λ z. spelled_parts (data_of z)) (same_values_are_one x.0 y.0 t)
        ∙ sym (bytes_are b y) in
        absurd (true≢false (sym ((bytes_decides a b).1 one) ∙ s))

-- what was appended to no bytes
pub all_spelled : (count : ℕ) (old new : List ℕ) (made ds : List Datum) → old ≡ [] → made ≡ ds
    → Adds (all_of values count) old new made → SpellsAll new ds
all_spelled count old new made ds none same h =
    subst (SpellsAll new) same
    (record { spelled = parts_have made h.has.1; is = h.is ∙ (λ i. none i ++ parts_spelled made i) })

-- bytes that were spelled anew, or are none
pub spelled_anyway : {T E : Type 0} (r : Result T E) (flat : List ℕ) (ds : List Datum) → OnOk r (SpellsAll flat ds)
    → OnErr r (flat ≡ []) → Spelled flat
spelled_anyway (Ok x) flat ds h none = (ds, ∣ h ∣₁)
spelled_anyway (Err e) flat ds h none = ([], ∣ no_values flat none ∣₁)

-- values were read up to the rest
abbrev pub IsReadUpTo : List ℕ → List Datum → List ℕ → Type 0
IsReadUpTo flat done rest = (count : ℕ) × Stands (all_of values count) flat done rest

-- all were read
pub all_read : (flat rest : List ℕ) (done : List Datum) → rest ≡ [] → IsReadUpTo flat done rest → SpellsAll flat done
all_read flat rest done none h = record {
  spelled = parts_have done h.1.has.1;
  is = h.1.is ∙ (λ i. parts_spelled done i ++ none i) ∙ append-nil (spelled_parts (data_of done));
}

-- what follows values that were read is spelled by the others
nothing_after : (done : List Datum) (rest : List ℕ) → HaveSpellings (data_of done) → Lacks values rest
    → 1 ≤ length rest → (ds : List Datum)
    → HaveSpellings (data_of ds) → spelled_parts (data_of done) ++ rest ≡ spelled_parts (data_of ds) → ⊥
nothing_after [] rest has lacks some [] k e = let long = ap length e in omega (arith, long, some)
nothing_after [] rest has lacks some (d ∷ ds) k e = lacks d (spelled_parts (data_of ds)) (record { has = k.0; is = e })
nothing_after (x ∷ xs) rest has lacks some [] k e =
    let long = ap length e in let front = some_bytes x in
    omega (
      arith,
      long,
      front,
      length-append (spelling x ++ spelled_parts (data_of xs)) rest,
      length-append (spelling x) (spelled_parts (data_of xs)),
    )
nothing_after (x ∷ xs) rest has lacks some (d ∷ ds) k e =
    nothing_after xs rest has.1 lacks some ds k.1
    (one_spelling x d (spelled_parts (data_of xs) ++ rest) (spelled_parts (data_of ds)) has.0 k.0
    (sym (append_assoc (spelling x) (spelled_parts (data_of xs)) rest) ∙ e)).1

-- where no value stands after those that were read, no list is spelled
pub none_read : (flat rest : List ℕ) (done : List Datum) (e : FlatError) → IsReadUpTo flat done rest → 1 ≤ length rest
    → Stops values rest e → e ≡ NotFlat → SpellNone flat
none_read flat rest done NotFlat h some stop is = λ ds k.
    nothing_after done rest (parts_have done h.1.has.1) stop some ds k.spelled
    (sym (h.1.is ∙ ap (λ l. l ++ rest) (parts_spelled done)) ∙ k.is)
none_read flat rest done NoMemory h some stop is = absurd (cc)

-- what is kept can be read
pub can_be_read : (flat : List ℕ) → Spelled flat → SpellNone flat → ⊥
can_be_read flat kept none = ∥∥₁_elim kept.1 ⊥_prop (λ k. none kept.0 k)

-- bytes are left where the rest isn't empty
pub some_left : (rest : List ℕ) → (length rest == 0) ≡ false → 1 ≤ length rest
some_left [] none = absurd (true≢false none)
some_left (b ∷ bs) none = omega arith
