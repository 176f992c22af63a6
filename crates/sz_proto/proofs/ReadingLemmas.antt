-- The fields of payloads, read one after another.
use Rattle.std.proofs.Common.{◌≡◌, ℕ, zero, suc, ◌+◌, ◌-◌, ◌<◌, ◌≤◌, List, [], ◌∷◌, ◌++◌, length, take, drop, map, Option, Some, None, Bool, true, false, nat_lt, cond, refl, sym, ap, ◌∙◌, append_assoc, arith, length-drop}
use Rattle.std.specs.List.{slice_range}
use Rattle.std.specs.Option.{option_and_then, option_map}
use Rattle.std.proofs.lemmas.List.{append-nil, map-append, drop-take, length-take-le, take-take}
use Rattle.std.proofs.lemmas.List.Elements.{All-push}
use Rattle.std.proofs.lemmas.Bool.{ltb-true, ltb-false}
use Rattle.sz_wire.specs.declared.field.WireField.{WireField}
use Rattle.sz_wire.specs.declared.field.WireKind.{WireKind}
use Rattle.sz_wire.specs.declared.field.WireKind.TheVariants as kinds
use Rattle.sz_wire.specs.Field.{Content, Field, varint, eight, four, span, group, content_in, field_in, field_at, deepest, LiesBefore}
use Rattle.sz_proto.specs.Payloads.{fields_within, fields_of, fields_of_all, payloads}
use Rattle.sz_proto.specs.Elements.{in_all}
use Rattle.sz_proto.specs.Found.{AreWithin, found_within, fields_each, Takes}
use Rattle.sz_proto.proofs.GoingLemmas.{Goes, goes_start, goes_on, goes_end}

-- what lies in front of a place is the same in the bytes up to that place
range_in_front : (bytes : List ℕ) (from to place : ℕ) → from ≤ to → to ≤ place
    → slice_range (take place bytes) from to ≡ slice_range bytes from to
range_in_front bytes from to place low high =
    let left : from + (place - from) ≡ place = omega (arith, low, high) in
    let front : drop from (take place bytes) ≡ take (place - from) (drop from bytes) =
    rw left at (drop-take from (place - from) bytes) in
    ap (take (to - from)) front ∙ take-take (to - from) (place - from) (drop from bytes) (omega (arith, low, high))

content_in_front : (bytes : List ℕ) (place : ℕ) (kind : WireKind) → LiesBefore place kind
    → content_in (take place bytes) kind ≡ content_in bytes kind
content_in_front bytes place (kinds.Span from to) h = ap span (range_in_front bytes from to place h.0 h.1)
content_in_front bytes place (kinds.Varint n) h = refl
content_in_front bytes place (kinds.Eight n) h = refl
content_in_front bytes place (kinds.Four n) h = refl
content_in_front bytes place kinds.Group h = refl

pub lies_further : (low high : ℕ) (kind : WireKind) → low ≤ high → LiesBefore low kind → LiesBefore high kind
lies_further low high (kinds.Span from to) le h = let b = h.1 in (h.0, omega (arith, le, b))
lies_further low high (kinds.Varint n) le h = tt
lies_further low high (kinds.Eight n) le h = tt
lies_further low high (kinds.Four n) le h = tt
lies_further low high kinds.Group le h = tt

-- the fields of a payload are read up to a place, after those that were there
pub record IsReading (bytes : List ℕ) (depth from to at : ℕ) (before now : List WireField) : Type 0 where
  pub added : List WireField
  pub appended : now ≡ before ++ added
  pub left : ℕ
  pub enough : to - at ≤ left
  pub goes : Goes (fields_of depth (slice_range bytes from to)) (map (field_in bytes) added)
      (fields_within left depth (drop at (take to bytes)))
  pub place : at ≤ to
  pub within : AreWithin (length bytes) now

pub starts_reading : (bytes : List ℕ) (depth from to : ℕ) (before : List WireField) → from ≤ to → to ≤ length bytes
    → AreWithin (length bytes) before → IsReading bytes depth from to from before before
starts_reading bytes depth from to before le high within =
    let front : slice_range bytes from to ≡ drop from (take to bytes) =
    sym (drop-take from (to - from) bytes)
    ∙ ap (λ (n : ℕ). drop from (take n bytes)) (let e : from + (to - from) ≡ to = omega (arith, le) in e) in
    let len : length (drop from (take to bytes)) ≡ to - from =
    length-drop from (take to bytes) ∙ ap (λ (n : ℕ). n - from) (length-take-le to bytes high) in
    record {
      added = [];
      appended = sym (append-nil before);
      left = length (drop from (take to bytes));
      enough = omega (arith, len);
      goes = rw front (goes_start (fields_of depth (drop from (take to bytes))));
      place = le;
      within = within;
    }

-- one more field of the rest
one_more : (left depth : ℕ) (rest more : List ℕ) (f : Field) → 0 < length rest → length rest ≤ left
    → field_at depth rest ≡ Some (f, more) → (turns : ℕ) × (left ≡ suc turns)
    × (fields_within left depth rest ≡ option_map (λ fs. f ∷ fs) (fields_within turns depth more))
unfolding fields_within
one_more zero depth rest more f some le found = absurd (omega (arith, some, le))
one_more (suc turns) depth [] more f some le found = absurd (omega (arith, some))
one_more (suc turns) depth (b ∷ rest) more f some le found = (turns, refl, rw found refl)

none_more : (left depth : ℕ) (rest : List ℕ) → 0 < length rest → field_at depth rest ≡ None
    → fields_within left depth rest ≡ None
unfolding fields_within
none_more left depth [] some found = absurd (omega (arith, some))
none_more zero depth (b ∷ rest) some found = refl
none_more (suc turns) depth (b ∷ rest) some found = rw found refl

no_more : (left depth : ℕ) (rest : List ℕ) → length rest ≡ 0 → fields_within left depth rest ≡ Some []
unfolding fields_within
no_more left depth [] none = refl
no_more left depth (b ∷ rest) none = absurd (omega (arith, none))

front_len : (bytes : List ℕ) (to at : ℕ) → to ≤ length bytes → length (drop at (take to bytes)) ≡ to - at
front_len bytes to at high = length-drop at (take to bytes) ∙ ap (λ (n : ℕ). n - at) (length-take-le to bytes high)

pub reads_more : (bytes : List ℕ) (depth from to at : ℕ) (before now : List WireField) (f : WireField)
    → to ≤ length bytes → IsReading bytes depth from to at before now → at < f.next → f.next ≤ length (take to bytes)
    → LiesBefore f.next f.kind
    → field_at depth (drop at (take to bytes)) ≡ Some (field_in (take to bytes) f, drop f.next (take to bytes))
    → IsReading bytes depth from to f.next before (now ++ f ∷ [])
reads_more bytes depth from to at before now f high h forward there placed found =
    let within : f.next ≤ to = (let n = length-take-le to bytes high in omega (arith, n, there)) in
    let enough = h.enough in
    let len = front_len bytes to at high in
    let one = one_more h.left depth (drop at (take to bytes)) (drop f.next (take to bytes)) (field_in (take to bytes) f)
    (omega (arith, len, forward, within)) (omega (arith, len, enough)) found in
    let left = one.1 in
    let same : field_in (take to bytes) f ≡ field_in bytes f =
    ap (λ (c : Content). record { number = f.number; content = c })
    (content_in_front bytes to f.kind (lies_further f.next to f.kind within placed)) in
    let goes : Goes (fields_of depth (slice_range bytes from to)) (map (field_in bytes) h.added)
    (option_map (λ fs. field_in bytes f ∷ fs) (fields_within one.0 depth (drop f.next (take to bytes)))) =
    h.goes ∙ ap (option_map (λ fs. map (field_in bytes) h.added ++ fs)) one.2
    ∙ ap (λ (g : Field). option_map (λ fs. map (field_in bytes) h.added ++ fs)
    (option_map (λ fs. g ∷ fs) (fields_within one.0 depth (drop f.next (take to bytes))))) same in
    record {
      added = h.added ++ f ∷ [];
      appended = ap (λ (fs : List WireField). fs ++ f ∷ []) h.appended ∙ append_assoc before h.added (f ∷ []);
      left = one.0;
      enough = omega (arith, enough, left, forward);
      goes = rw (map-append (field_in bytes) h.added (f ∷ []))
          (goes_on (fields_of depth (slice_range bytes from to))
          (fields_within one.0 depth (drop f.next (take to bytes)))
          (map (field_in bytes) h.added) (field_in bytes f ∷ []) goes);
      place = within;
      within = All-push (λ (g : WireField). LiesBefore (length bytes) g.kind) now f h.within
          (lies_further f.next (length bytes) f.kind (omega (arith, within, high)) placed);
    }

pub read_all : (bytes : List ℕ) (depth from to at : ℕ) (before now : List WireField) → to ≤ length bytes
    → IsReading bytes depth from to at before now → at ≡ to → Takes (fields_of depth (slice_range bytes from to))
    (map (field_in bytes) before) (map (field_in bytes) now) true
read_all bytes depth from to at before now high h end =
    let len = front_len bytes to at high in
    let none = no_more h.left depth (drop at (take to bytes)) (omega (arith, len, end)) in (
      map (field_in bytes) h.added,
      goes_end (fields_of depth (slice_range bytes from to)) (map (field_in bytes) h.added)
          (h.goes ∙ ap (option_map (λ fs. map (field_in bytes) h.added ++ fs)) none),
      ap (map (field_in bytes)) h.appended ∙ map-append (field_in bytes) before h.added,
    )

pub read_none : (bytes : List ℕ) (depth from to at : ℕ) (before now : List WireField) → to ≤ length bytes
    → IsReading bytes depth from to at before now → at < to → field_at depth (drop at (take to bytes)) ≡ None → Takes
    (fields_of depth (slice_range bytes from to)) (map (field_in bytes) before) (map (field_in bytes) now) false
read_none bytes depth from to at before now high h lt found =
    let len = front_len bytes to at high in
    let none = none_more h.left depth (drop at (take to bytes)) (omega (arith, len, lt)) found in
    h.goes ∙ ap (option_map (λ fs. map (field_in bytes) h.added ++ fs)) none

pub skipped : {A : Type 0} (found : Option (List A))
    → option_and_then (λ first. option_map (λ more. first ++ more) found) (Some []) ≡ found
skipped None = refl
skipped (Some xs) = refl

-- the fields of all payloads among what fields hold
pub found_each : (depth : ℕ) (cs : List Content) → in_all (fields_each depth) cs ≡ found_within depth (payloads cs)
unfolding in_all found_within payloads fields_of_all
found_each depth [] = refl
found_each depth (varint n ∷ cs) = skipped {A = Field} (in_all (fields_each depth) cs) ∙ found_each depth cs
found_each depth (eight n ∷ cs) = skipped {A = Field} (in_all (fields_each depth) cs) ∙ found_each depth cs
found_each depth (four n ∷ cs) = skipped {A = Field} (in_all (fields_each depth) cs) ∙ found_each depth cs
found_each depth (group ∷ cs) = skipped {A = Field} (in_all (fields_each depth) cs) ∙ found_each depth cs
found_each depth (span p ∷ cs) = by_level (nat_lt deepest depth) refl (found_each depth cs)
  where
    not_deep : (ps : List (List ℕ)) → nat_lt deepest depth ≡ false → found_within depth ps ≡ fields_of_all depth ps
    not_deep [] e = refl
    not_deep (q ∷ qs) e = rw e refl

    by_level : (deep : Bool) → nat_lt deepest depth ≡ deep
        → in_all (fields_each depth) cs ≡ found_within depth (payloads cs)
        → option_and_then (λ first. option_map (λ more. first ++ more) (in_all (fields_each depth) cs))
        (cond deep None (fields_of depth p)) ≡ cond deep None (fields_of_all depth (p ∷ payloads cs))
    by_level true e h = refl
    by_level false e h = rw (h, not_deep (payloads cs) e) refl

pub front_end : (bytes : List ℕ) (to at : ℕ) → to ≤ length bytes → at ≡ length (take to bytes) → at ≡ to
front_end bytes to at high end = end ∙ length-take-le to bytes high

pub not_at_end : (bytes : List ℕ) (to at : ℕ) → to ≤ length bytes → at ≤ to
    → (at ≡ length (take to bytes) → ⊥) → at < to
not_at_end bytes to at high le never = by (nat_lt at to) refl
  where
    by : (t : Bool) → nat_lt at to ≡ t → at < to
    by true e = ltb-true at to e
    by false e = absurd
        (never (let n = length-take-le to bytes high in let past = ltb-false at to e in omega (arith, le, n, past)))
