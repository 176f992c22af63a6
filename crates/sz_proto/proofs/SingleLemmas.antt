-- The last thing that occurrences hold.
use Rattle.std.proofs.Common.{◌≡◌, ℕ, ℤ, ◌+◌, ◌<◌, ◌≤◌, List, [], ◌∷◌, ◌++◌, length, drop, get_or, Option, Some, None, Bool, refl, sym, ap}
use Rattle.std.specs.Option.{option_map, unwrap_or}
use Rattle.std.proofs.lemmas.List.{drop_all, at_drop_more}
use Rattle.sz_types.specs.declared.encoding.Encoding.{Encoding}
use Rattle.sz_value.specs.Data as values
use Rattle.sz_wire.specs.declared.field.WireField.{WireField}
use Rattle.sz_wire.specs.Field.{Content, varint, eight, four, span, group, content_in}
use Rattle.sz_proto.specs.Payloads.{payloads}
use Rattle.sz_proto.specs.Elements.{truth_in, truths, number_in, numbers, texts_in, in_all, last_or}
use Rattle.sz_proto.specs.Found.{contents, last_text_of, payload_or}

-- what the occurrences from a place on come to
pub from_next : {R : Type 0} (read : List Content → R) (bytes : List ℕ) (run : List WireField) (i : ℕ) (d : WireField)
    → i < length run → read (contents bytes (drop i run))
    ≡ read (content_in bytes (get_or run i d).kind ∷ contents bytes (drop (i + 1) run))
from_next read bytes run i d lt = at_drop_more (λ fs. read (contents bytes fs)) run i d lt

pub from_last : {R : Type 0} (read : List Content → R) (bytes : List ℕ) (run : List WireField) (i : ℕ) → length run ≤ i
    → read (contents bytes (drop i run)) ≡ read []
from_last read bytes run i over = ap (λ (fs : List WireField). read (contents bytes fs)) (drop_all i run over)

-- one more occurrence of a single field
pub truth_more : (last : Bool) (c : Content) (cs : List Content) (b : Bool) → truth_in c ≡ Some b
    → last_or last (truths (c ∷ cs)) ≡ last_or b (truths cs)
unfolding truths last_or
truth_more last c cs b is = rw is refl

pub truth_same : (last : Bool) (c : Content) (cs : List Content) → truth_in c ≡ None
    → last_or last (truths (c ∷ cs)) ≡ last_or last (truths cs)
unfolding truths last_or
truth_same last c cs is = rw is refl

pub number_more : (code : Encoding) (last : ℤ) (c : Content) (cs : List Content) (n : ℤ) → number_in code c ≡ Some n
    → last_or last (numbers code (c ∷ cs)) ≡ last_or n (numbers code cs)
unfolding numbers last_or
number_more code last c cs n is = rw is refl

pub number_same : (code : Encoding) (last : ℤ) (c : Content) (cs : List Content) → number_in code c ≡ None
    → last_or last (numbers code (c ∷ cs)) ≡ last_or last (numbers code cs)
unfolding numbers last_or
number_same code last c cs is = rw is refl

pub text_more : (last : List ℕ) (c : Content) (cs : List Content) (t : List ℕ) → texts_in c ≡ Some (t ∷ [])
    → last_text_of last (c ∷ cs) ≡ last_text_of t cs
unfolding in_all last_or
text_more last c cs t is = rw is (by (in_all texts_in cs))
  where
    by : (found : Option (List (List ℕ)))
        → option_map (λ (ts : List (List ℕ)). values.str (last_or last ts)) (option_map (λ more. t ∷ more) found)
        ≡ option_map (λ (ts : List (List ℕ)). values.str (last_or t ts)) found
    by None = refl
    by (Some ts) = refl

pub text_same : (last : List ℕ) (c : Content) (cs : List Content) → texts_in c ≡ Some []
    → last_text_of last (c ∷ cs) ≡ last_text_of last cs
unfolding in_all last_or
text_same last c cs is = rw is (by (in_all texts_in cs))
  where
    by : (found : Option (List (List ℕ)))
        → option_map (λ (ts : List (List ℕ)). values.str (last_or last ts)) (option_map (λ more. [] ++ more) found)
        ≡ option_map (λ (ts : List (List ℕ)). values.str (last_or last ts)) found
    by None = refl
    by (Some ts) = refl

pub text_none : (last : List ℕ) (c : Content) (cs : List Content) → texts_in c ≡ None
    → last_text_of last (c ∷ cs) ≡ None
unfolding in_all
text_none last c cs is = rw is refl

pub text_end : (last : List ℕ) → last_text_of last [] ≡ Some (values.str last)
unfolding in_all last_or
text_end last = refl

pub octets_end : (last : List ℕ) → last_or last (payloads []) ≡ last
unfolding payloads last_or
octets_end last = refl

pub truth_next : (last : Bool) (c : Content) (cs : List Content) (found : Option Bool) → found ≡ truth_in c
    → last_or (unwrap_or found last) (truths cs) ≡ last_or last (truths (c ∷ cs))
truth_next last c cs None is = sym (truth_same last c cs (sym is))
truth_next last c cs (Some b) is = sym (truth_more last c cs b (sym is))

pub number_next : (code : Encoding) (last : ℤ) (c : Content) (cs : List Content) (found : Option ℤ)
    → found ≡ number_in code c
    → last_or (unwrap_or found last) (numbers code cs) ≡ last_or last (numbers code (c ∷ cs))
number_next code last c cs None is = sym (number_same code last c cs (sym is))
number_next code last c cs (Some n) is = sym (number_more code last c cs n (sym is))

pub truth_end : (last : Bool) → last_or last (truths []) ≡ last
unfolding truths last_or
truth_end last = refl

pub number_end : (code : Encoding) (last : ℤ) → last_or last (numbers code []) ≡ last
unfolding numbers last_or
number_end code last = refl

pub payload_next : (last : List ℕ) (c : Content) (cs : List Content)
    → last_or (payload_or c last) (payloads cs) ≡ last_or last (payloads (c ∷ cs))
unfolding payloads last_or
payload_next last (span p) cs = refl
payload_next last (varint n) cs = refl
payload_next last (eight n) cs = refl
payload_next last (four n) cs = refl
payload_next last group cs = refl
