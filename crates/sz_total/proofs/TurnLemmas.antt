-- The loops of a merge over the aggregators of the other side: what one turn does, and what all of them did.
use Rattle.std.proofs.Common.{◌≡◌, ◌∙◌, ◌^◌, Option, Some, None, List, [], ◌∷◌, refl, sym, IfSome}
use Rattle.std.specs.List.{IsDistinct}
use Rattle.std.specs.Map.{keys_of, values_of, lookup}
use Rattle.std.proofs.lemmas.List.Elements.{All-head, All-tail}
use Rattle.std.proofs.lemmas.Map.Keys.{IsDistinct-head, IsDistinct-tail}
use Rattle.std.proofs.lemmas.Map.Views.{IfSome-lookup_from_All}
use Rattle.sz_value.specs.Data.{Datum}
use Rattle.sz_total.specs.Aggregates.{family_of}
use Rattle.sz_total.specs.Entries.{Entries, same_indexes}
use Rattle.sz_total.specs.Joining.{AreAlike, GainsRoom, LooksTheSame, HasRoomUnder, HaveRoomFor, AreReady, MayTakeUnder, TakesOne, JoinsEntries}
use Rattle.sz_total.specs.declared.aggregate.Aggregate.{Aggregate}
use Rattle.sz_total.proofs.JoiningLemmas.{IsRoomMade, IsTaken, looks_trans, gained_looks, room_made, ready_still, takes_all}

-- room was made for the first of all, and the rest is left
pub record IsRoomUpTo (first all current rest : Entries) : Type 0 where
  pub looks : LooksTheSame first current
  pub alike : AreAlike current rest
  pub left : (new : Entries) → IsRoomMade rest current new → IsRoomMade all first new

-- the next one is of the family of that under its index list
pub alike_under : (entries : Entries) (indexes : List Datum) (other : Aggregate) (rest : Entries)
    → AreAlike entries ((indexes, other) ∷ rest)
    → IfSome (lookup (same_indexes indexes) entries) (λ own. family_of other ≡ family_of own)
alike_under entries indexes other rest alike =
    by_found (lookup (same_indexes indexes) entries)
    (IfSome-lookup_from_All (λ (a : Aggregate). family_of a ≡ alike.family) (same_indexes indexes) entries alike.mine)
  where
    by_found : (found : Option Aggregate) → IfSome found (λ own. family_of own ≡ alike.family)
        → IfSome found (λ own. family_of other ≡ family_of own)
    by_found None is = tt
    by_found (Some own) is =
        All-head (λ (a : Aggregate). family_of a ≡ alike.family) other (values_of rest) alike.others_too ∙ sym is

module _ (first all current new : Entries) (indexes : List Datum) (other : Aggregate) (rest : Entries)
    (gains : GainsRoom indexes current new) where
  pub looks_more : LooksTheSame first current → LooksTheSame first new
  looks_more looks = looks_trans first current new looks (gained_looks indexes current new gains)

  pub room_up_to_more : IsRoomUpTo first all current ((indexes, other) ∷ rest) → HasRoomUnder new (indexes, other)
      → IsRoomUpTo first all new rest
  room_up_to_more before has = record {
    looks = looks_more before.looks;
    alike = record {
      family = before.alike.family;
      mine = (gained_looks indexes current new gains).families before.alike.family before.alike.mine;
      others_too = All-tail (λ (a : Aggregate). family_of a ≡ before.alike.family) other
          (values_of rest) before.alike.others_too;
    };
    left = λ end made. before.left end (new, gains, has, made);
  }

pub room_up_to_all : (first all current : Entries) → IsDistinct same_indexes (keys_of all)
    → IsRoomUpTo first all current [] → HaveRoomFor current all
room_up_to_all first all current apart end = room_made all apart first current (end.left current refl)

-- the first of all were taken, and the rest is left and may be taken
pub record IsTakenUpTo (first all current rest : Entries) : Type 0 where
  pub apart : IsDistinct same_indexes (keys_of rest)
  pub ready : AreReady (2 ^ 63) current rest
  pub left : (new : Entries) → IsTaken rest current new → IsTaken all first new

pub taken_up_to_none : (first all : Entries) → IsDistinct same_indexes (keys_of all) → AreReady (2 ^ 63) first all
    → IsTakenUpTo first all first all
taken_up_to_none first all apart ready = record { apart = apart; ready = ready; left = λ new taken. taken }

pub may_take_next : (first all current : Entries) (indexes : List Datum) (other : Aggregate) (rest : Entries)
    → IsTakenUpTo first all current ((indexes, other) ∷ rest) → MayTakeUnder (2 ^ 63) current (indexes, other)
may_take_next first all current indexes other rest before = before.ready.0

pub taken_up_to_more : (first all current new : Entries) (indexes : List Datum) (other : Aggregate) (rest : Entries)
    → IsTakenUpTo first all current ((indexes, other) ∷ rest) → TakesOne indexes other current new
    → IsTakenUpTo first all new rest
taken_up_to_more first all current new indexes other rest before takes = record {
  apart = IsDistinct-tail same_indexes indexes (keys_of rest) before.apart;
  ready =
      ready_still (2 ^ 63) indexes other current new takes rest
      (IsDistinct-head same_indexes indexes (keys_of rest) before.apart) before.ready.1;
  left = λ end taken. before.left end (new, takes, taken);
}

pub taken_up_to_all : (first all current : Entries) → IsDistinct same_indexes (keys_of all)
    → IsTakenUpTo first all current [] → JoinsEntries all first current
taken_up_to_all first all current apart end = record {
  takes = λ table count are beside ready.
      takes_all table count all apart first current (end.left current refl) are beside ready;
}
