-- Which names are opened, and that each has a file which was given in the call.
use Rattle.std.proofs.Common.{◌≡◌, ◌≢◌, ℕ, zero, suc, ◌-◌, ◌≤◌, ◌⊎◌, List, [], ◌∷◌, ◌++◌, take, Bool}
use Rattle.std.proofs.Common.{refl, sym, ap, ◌∙◌, subst, arith, inl, inr, append-nil, append_assoc}
use Rattle.std.specs.Prelude.{IsTrue}
use Rattle.sz_io.specs.Opened.{KeepsFiles}
use Rattle.sz_io.specs.Calls.{OpensOne}
use Rattle.sz_io.specs.declared.files.Files as files
use Rattle.szl.specs.declared.status.Status.{Status}
use Rattle.szl.specs.declared.status.Status.TheVariants as status
use Rattle.szl.specs.Promise.{AreNew, IfRead, IsNoneOf, OpensFiles}

-- the first name, and then all but one
pub take_first : (name : List ℕ) (names : List (List ℕ)) (most : ℕ) → 1 ≤ most → name ∷ take (most - 1) names ≡ take most (name ∷ names)
take_first name names zero some = absurd (omega (arith, some))
take_first name names (suc most) some = let e : suc most - 1 ≡ most = omega arith in ap (λ n. name ∷ take n names) e

pub take_none : (count : ℕ) → take {A = List ℕ} count [] ≡ []
take_none zero = refl
take_none (suc count) = refl

-- a file that was given before is none of the new ones
pub none_of : (before now : ℕ → Bool) (file : ℕ) (files : List ℕ) → IsTrue (before file) → AreNew before now files → IsNoneOf file files
none_of before now file [] given new = tt
none_of before now file (other ∷ files) given new =
    ((λ same. new.0.0 (subst (λ f. IsTrue (before f)) same given)), none_of before now file files given new.1.1)

-- files that are new since a later moment are new
pub new_since : (first later now : ℕ → Bool) → ((file : ℕ) → IsTrue (first file) → IsTrue (later file)) → (files : List ℕ) → AreNew later now files
    → AreNew first now files
new_since first later now still [] new = tt
new_since first later now still (file ∷ files) new =
    (((λ was. new.0.0 (still file was)), new.0.1), (new.1.0, new_since first later now still files new.1.1))

module _ {F : Type 0} (the_files : files.Ghosts F) where
  -- no file was opened, and none is asked for
  pub opened_none : (old : F) (asked : List (List ℕ)) (most : ℕ) (s : Status) → s ≢ status.ReadFailed → IfRead s ([] ≡ take most asked)
      → OpensFiles the_files old old asked most s
  opened_none old asked most s other all = record {
    count = 0;
    within = omega arith;
    opened = sym (append-nil (the_files.names old));
    all = all;
    each = λ read memory. record { opened = []; one_each = refl; are_new = tt };
    of_some = λ is. absurd (other is);
  }

  -- the first name was opened
  pub opened_one : (old new : F) (name : List ℕ) (more : List (List ℕ)) (most : ℕ) (s : Status) → 1 ≤ most
      → the_files.names new ≡ the_files.names old ++ name ∷ [] → IfRead s (name ∷ [] ≡ take most (name ∷ more)) → IfRead s (OpensOne the_files old new)
      → OpensFiles the_files old new (name ∷ more) most s
  opened_one old new name more most s some names all one = record {
    count = 1;
    within = some;
    opened = names;
    all = all;
    each = λ read memory. let file = one read memory in record {
      opened = file.file ∷ [];
      one_each = refl;
      are_new = ((file.not_before, file.given_now), (tt, tt));
    };
    of_some = λ is none. absurd (cc);
  }

  -- memory ran out before or after a name was opened
  pub opened_or_none : (old new : F) (name : List ℕ) (more : List (List ℕ)) (most : ℕ) → 1 ≤ most
      → (the_files.names new ≡ the_files.names old) ⊎ (the_files.names new ≡ the_files.names old ++ name ∷ [])
      → OpensFiles the_files old new (name ∷ more) most status.NoMemory
  opened_or_none old new name more most some (inl is) = record {
    count = 0;
    within = omega arith;
    opened = is ∙ sym (append-nil (the_files.names old));
    all = λ read memory. absurd (memory refl);
    each = λ read memory. absurd (memory refl);
    of_some = λ is. absurd (cc);
  }
  opened_or_none old new name more most some (inr is) =
      opened_one old new name more most status.NoMemory some is (λ read memory. absurd (memory refl)) (λ read memory. absurd (memory refl))

  -- where memory ran out at last, it doesn't matter why there was a call before
  pub opened_no_memory : (old new : F) (asked : List (List ℕ)) (most : ℕ) (s : Status) → OpensFiles the_files old new asked most s
      → OpensFiles the_files old new asked most status.NoMemory
  opened_no_memory old new asked most s o = record {
    count = o.count;
    within = o.within;
    opened = o.opened;
    all = λ read memory. absurd (memory refl);
    each = λ read memory. absurd (memory refl);
    of_some = λ is. absurd (cc);
  }

  -- where writing failed, all was read
  pub opened_unwritten : (old new : F) (asked : List (List ℕ)) (most : ℕ) → OpensFiles the_files old new asked most status.Done
      → OpensFiles the_files old new asked most status.WriteFailed
  opened_unwritten old new asked most o = record {
    count = o.count;
    within = o.within;
    opened = o.opened;
    all = λ read memory. o.all (λ e. cc) (λ e. cc);
    each = λ read memory. o.each (λ e. cc) (λ e. cc);
    of_some = λ is. absurd (cc);
  }

  -- one was opened, and then the rest
  pub opened_then : (old mid new : F) (name : List ℕ) (names : List (List ℕ)) (most : ℕ) (s : Status) → 1 ≤ most
      → the_files.names mid ≡ the_files.names old ++ name ∷ [] → KeepsFiles the_files.held the_files.left the_files.given the_files.faults old mid
      → KeepsFiles the_files.held the_files.left the_files.given the_files.faults mid new → OpensOne the_files old mid
      → OpensFiles the_files mid new names (most - 1) s → OpensFiles the_files old new (name ∷ names) most s
  opened_then old mid new name names most s some first before after one o = record {
    count = suc o.count;
    within = omega (arith, some, o.within);
    opened = o.opened ∙ ap (λ ns. ns ++ take o.count names) first ∙ append_assoc (the_files.names old) (name ∷ []) (take o.count names);
    all = λ read memory. ap (λ ns. name ∷ ns) (o.all read memory) ∙ take_first name names most some;
    each = λ read memory. let more = o.each read memory in record {
      opened = one.file ∷ more.opened;
      one_each = ap suc more.one_each;
      are_new = (
        (one.not_before, after.given_still one.file one.given_now),
        (
          none_of (the_files.given mid) (the_files.given new) one.file more.opened one.given_now more.are_new,
          new_since (the_files.given old) (the_files.given mid) (the_files.given new) before.given_still more.opened more.are_new,
        ),
      );
    };
    of_some = λ is none. absurd (cc);
  }
