-- A list that is made front by front, of what each occurrence holds.
use Rattle.std.proofs.Common.{◌≡◌, ℕ, ◌+◌, ◌<◌, ◌≤◌, List, [], ◌∷◌, ◌++◌, length, drop, map, get_or, Option, Some, None, Bool, true, false, refl, sym, ap, ◌∙◌, append_assoc}
use Rattle.std.specs.Option.{option_and_then, option_map}
use Rattle.std.proofs.lemmas.List.{append-nil, map-append, drop_all, at_drop_more}
use Rattle.sz_wire.specs.declared.field.WireField.{WireField}
use Rattle.sz_wire.specs.Field.{Content, content_in}
use Rattle.sz_proto.specs.Elements.{in_all}
use Rattle.sz_proto.specs.Found.{contents, Takes}

-- the whole is this front, and after it the rest, if that is there
abbrev pub Goes : {A : Type 0} → Option (List A) → List A → Option (List A) → Type 0
Goes whole got rest = whole ≡ option_map (λ more. got ++ more) rest

pub goes_start : {A : Type 0} (whole : Option (List A)) → Goes whole [] whole
goes_start None = refl
goes_start (Some xs) = refl

pub goes_on : {A : Type 0} (whole rest : Option (List A)) (got first : List A)
    → Goes whole got (option_map (λ more. first ++ more) rest) → Goes whole (got ++ first) rest
goes_on whole None got first h = h
goes_on whole (Some more) got first h = h ∙ ap Some (sym (append_assoc got first more))

pub goes_end : {A : Type 0} (whole : Option (List A)) (got : List A) → Goes whole got (Some []) → whole ≡ Some got
goes_end whole got h = h ∙ ap Some (append-nil got)

module _ {A : Type 0} (in_one : Content → Option (List A)) (bytes : List ℕ) (run : List WireField)
    (whole : Option (List A)) where
  -- what the occurrences from a place on hold goes on what those before it hold
  abbrev pub GoesFrom : ℕ → List A → Type 0
  GoesFrom i got = Goes whole got (in_all in_one (contents bytes (drop i run)))

  next_is : (i : ℕ) (d : WireField) → i < length run
      → in_all in_one (contents bytes (drop i run)) ≡ in_all in_one (contents bytes (get_or run i d ∷ drop (i + 1) run))
  next_is i d lt = at_drop_more (λ fs. in_all in_one (contents bytes fs)) run i d lt

  from_more : (i : ℕ) (d : WireField) (got first : List A) → GoesFrom i got → i < length run
      → in_one (content_in bytes (get_or run i d).kind) ≡ Some first → GoesFrom (i + 1) (got ++ first)
  unfolding in_all
  from_more i d got first h lt one =
      let rest = in_all in_one (contents bytes (drop (i + 1) run)) in
      let next : in_all in_one (contents bytes (get_or run i d ∷ drop (i + 1) run))
      ≡ option_map (λ more. first ++ more) rest = rw one refl in
      goes_on whole rest got first (h ∙ ap (option_map (λ more. got ++ more)) (next_is i d lt ∙ next))

  -- the next occurrence is taken, or it has no answer
  pub from_taken : (i : ℕ) (d : WireField) (w : Bool) (before after : List A) → GoesFrom i before
      → i < length run → w ≡ true
      → Takes (in_one (content_in bytes (get_or run i d).kind)) before after w → GoesFrom (i + 1) after
  from_taken i d true before after h lt is t = rw (t.2) (from_more i d before t.0 h lt t.1)
  from_taken i d false before after h lt is t = absurd cc

  pub from_left : (i : ℕ) (d : WireField) (w : Bool) (before after : List A) → GoesFrom i before
      → i < length run → w ≡ false
      → Takes (in_one (content_in bytes (get_or run i d).kind)) before after w → whole ≡ None
  unfolding in_all
  from_left i d true before after h lt is t = absurd cc
  from_left i d false before after h lt is t =
      let next : in_all in_one (contents bytes (get_or run i d ∷ drop (i + 1) run)) ≡ None = rw t refl in
      h ∙ ap (option_map (λ more. before ++ more)) (next_is i d lt ∙ next)

  pub from_end : (i : ℕ) (got : List A) → GoesFrom i got → length run ≤ i → whole ≡ Some got
  unfolding in_all
  from_end i got h over = goes_end whole got (h ∙ ap (λ (fs : List WireField).
      option_map (λ more. got ++ more) (in_all in_one (contents bytes fs))) (drop_all i run over))

-- what all hold, each thing by a function of its own
pub each_in_all : {A B : Type 0} (in_one : Content → Option (List A)) (g : A → B) (cs : List Content)
    → in_all (λ c. option_map (map g) (in_one c)) cs ≡ option_map (map g) (in_all in_one cs)
unfolding in_all
each_in_all in_one g [] = refl
each_in_all {A} in_one g (c ∷ cs) = by_first (in_one c) (each_in_all in_one g cs)
  where
    by_rest : (first : List A) (rest : Option (List A))
        → option_map (λ more. map g first ++ more) (option_map (map g) rest)
        ≡ option_map (map g) (option_map (λ more. first ++ more) rest)
    by_rest first None = refl
    by_rest first (Some more) = ap Some (sym (map-append g first more))

    by_first : (first : Option (List A))
        → in_all (λ c. option_map (map g) (in_one c)) cs ≡ option_map (map g) (in_all in_one cs)
        → option_and_then (λ xs. option_map (λ more. xs ++ more) (in_all (λ c. option_map (map g) (in_one c)) cs))
        (option_map (map g) first)
        ≡ option_map (map g) (option_and_then (λ xs. option_map (λ more. xs ++ more) (in_all in_one cs)) first)
    by_first None h = refl
    by_first (Some xs) h = ap (option_map (λ more. map g xs ++ more)) h ∙ by_rest xs (in_all in_one cs)
