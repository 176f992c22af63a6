-- The elements of arrays of scalars.
use Rattle.std.proofs.Common.{◌≡◌, ℕ, ℤ, zero, suc, pos, negsuc, ◌+◌, ◌<◌, ◌≤◌, List, [], ◌∷◌, ◌++◌, length, take, get_or, map, Option, Some, None, Bool, true, false, not, eqb, to_z, of_z, w64, refl, sym, ap, ◌∙◌}
use Rattle.std.specs.Option.{option_map}
use Rattle.std.specs.Str.{IsUtf8, is_utf8}
use Rattle.std.proofs.lemmas.Str.{IsUtf8-from_is_utf8}
use Rattle.std.proofs.lemmas.Bool.{eqb-true}
use Rattle.std.proofs.lemmas.List.{take_more}
use Rattle.sz_value.specs.Data.{Datum, data_of}
use Rattle.sz_value.specs.Data as values
use Rattle.sz_wire.specs.declared.field.WireField.{WireField}
use Rattle.sz_wire.specs.Field.{Content, varint, eight, four, span, group}
use Rattle.sz_proto.specs.Payloads.{payloads}
use Rattle.sz_proto.specs.Elements.{truths_of, in_all}
use Rattle.sz_proto.specs.Messages.{each_of}
use Rattle.sz_proto.specs.Found.{contents, array_of, octets_each}
use Rattle.sz_proto.proofs.GoingLemmas.{GoesFrom, from_end, each_in_all}

-- all elements are there, or one is lacking
pub each_end : {A : Type 0} (in_one : Content → Option (List A)) (g : A → Datum) (bytes : List ℕ)
    (run : List WireField) (i : ℕ) (got : List Datum) → GoesFrom (λ c. option_map (map g) (in_one c)) bytes run
    (in_all (λ c. option_map (map g) (in_one c)) (contents bytes run)) i got → length run ≤ i
    → array_of (each_of g (in_all in_one (contents bytes run))) ≡ Some (values.array (data_of got))
each_end in_one g bytes run i got h over = ap array_of (sym (each_in_all in_one g (contents bytes run))
    ∙ from_end (λ c. option_map (map g) (in_one c)) bytes run
    (in_all (λ c. option_map (map g) (in_one c)) (contents bytes run)) i got h over)

pub each_none : {A : Type 0} (in_one : Content → Option (List A)) (g : A → Datum) (bytes : List ℕ)
    (run : List WireField) → in_all (λ c. option_map (map g) (in_one c)) (contents bytes run) ≡ None
    → array_of (each_of g (in_all in_one (contents bytes run))) ≡ None
each_none in_one g bytes run h = ap array_of (sym (each_in_all in_one g (contents bytes run)) ∙ h)

-- all byte strings
pub all_octets : (cs : List Content) → in_all octets_each cs ≡ Some (map values.bytes (payloads cs))
unfolding in_all payloads
all_octets [] = refl
all_octets (varint n ∷ cs) = rw (all_octets cs) refl
all_octets (eight n ∷ cs) = rw (all_octets cs) refl
all_octets (four n ∷ cs) = rw (all_octets cs) refl
all_octets (group ∷ cs) = rw (all_octets cs) refl
all_octets (span p ∷ cs) = rw (all_octets cs) refl

pub truths_append : (ns ms : List ℤ) → truths_of (ns ++ ms) ≡ truths_of ns ++ truths_of ms
unfolding truths_of
truths_append [] ms = refl
truths_append (pos zero ∷ ns) ms = ap (λ (bs : List Bool). false ∷ bs) (truths_append ns ms)
truths_append (pos (suc n) ∷ ns) ms = ap (λ (bs : List Bool). true ∷ bs) (truths_append ns ms)
truths_append (negsuc n ∷ ns) ms = ap (λ (bs : List Bool). true ∷ bs) (truths_append ns ms)

-- the truth value that one more number stands for
pub truths_more : (ns : List ℤ) (i : ℕ) (d : ℤ) → i < length ns
    → truths_of (take (i + 1) ns) ≡ truths_of (take i ns) ++ truths_of (get_or ns i d ∷ [])
truths_more ns i d lt = ap truths_of (take_more ns i d lt) ∙ truths_append (take i ns) (get_or ns i d ∷ [])

pub not_utf8 : (bytes : List ℕ) → (IsUtf8 bytes → ⊥) → is_utf8 bytes ≡ false
not_utf8 bytes never = by (is_utf8 bytes) refl
  where
    by : (t : Bool) → is_utf8 bytes ≡ t → t ≡ false
    by true e = absurd (never (IsUtf8-from_is_utf8 bytes e))
    by false e = refl

-- whether a number isn't 0 is told by its bits
pub nonzero : (n : ℤ) → to_z w64 (of_z w64 n) ≡ n → truths_of (n ∷ []) ≡ not (eqb (of_z w64 n) 0) ∷ []
unfolding truths_of
nonzero (pos zero) back = refl
nonzero (pos (suc k)) back = by (eqb (of_z w64 (pos (suc k))) 0) refl
  where
    by : (t : Bool) → eqb (of_z w64 (pos (suc k))) 0 ≡ t → true ∷ [] ≡ not t ∷ []
    by true e = absurd
        (let z : pos (suc k) ≡ to_z w64 0 = sym back ∙ ap (to_z w64) (eqb-true (of_z w64 (pos (suc k))) 0 e) in cc)
    by false e = refl
nonzero (negsuc k) back = by (eqb (of_z w64 (negsuc k)) 0) refl
  where
    by : (t : Bool) → eqb (of_z w64 (negsuc k)) 0 ≡ t → true ∷ [] ≡ not t ∷ []
    by true e =
        absurd (let z : negsuc k ≡ to_z w64 0 = sym back ∙ ap (to_z w64) (eqb-true (of_z w64 (negsuc k)) 0 e) in cc)
    by false e = refl
