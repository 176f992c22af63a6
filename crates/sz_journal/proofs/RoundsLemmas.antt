-- Rounds that are told by their bytes.
use Rattle.std.proofs.Common.{◌≡◌, ℕ, List, [], ◌∷◌, ◌++◌, map, refl, sym, ap}
use Rattle.std.specs.List.{AllByRecursion}
use Rattle.sz_journal.specs.Rounds.{round_bytes, IsSpelledRound}
use Rattle.sz_journal.specs.declared.round.RoundEntry.{RoundEntry}
use Rattle.sz_journal.proofs.EntryRoundLemmas.{one_round}
use Rattle.sz_journal.proofs.ChainLemmas.{heads, tails}

-- rounds with the same bytes are the same
pub rounds_same : (rounds others : List RoundEntry) → AllByRecursion IsSpelledRound rounds
    → AllByRecursion IsSpelledRound others → map round_bytes rounds ≡ map round_bytes others → rounds ≡ others
rounds_same [] [] h k is = refl
rounds_same [] (other ∷ others) h k is = absurd cc
rounds_same (round ∷ rounds) [] h k is = absurd cc
rounds_same (round ∷ rounds) (other ∷ others) h k is =
    let one = one_round (round_bytes round) round other (record { spelled = h.0; is = refl })
    (record { spelled = k.0; is = heads is }) in
    let more = rounds_same rounds others h.1 k.1 (tails is) in
    λ i. one i ∷ more i

-- rounds among whose bytes an entry stands have a round there
pub record HasRound (rounds : List RoundEntry) (before : List (List ℕ)) (entry : List ℕ) : Type 0 where
  pub front : List RoundEntry
  pub round : RoundEntry
  pub rest : List RoundEntry
  pub is : rounds ≡ front ++ round ∷ rest
  pub before_is : map round_bytes front ≡ before
  pub entry_is : entry ≡ round_bytes round

pub has_round : (rounds : List RoundEntry) (before : List (List ℕ)) (entry : List ℕ) (more : List (List ℕ))
    → map round_bytes rounds ≡ before ++ entry ∷ more → HasRound rounds before entry
has_round [] [] entry more is = absurd cc
has_round [] (b ∷ before) entry more is = absurd cc
has_round (round ∷ rounds) [] entry more is =
    record { front = []; round = round; rest = rounds; is = refl; before_is = refl; entry_is = sym (heads is) }
has_round (round ∷ rounds) (b ∷ before) entry more is =
    let has = has_round rounds before entry more (tails is) in
    record {
      front = round ∷ has.front;
      round = has.round;
      rest = has.rest;
      is = ap (λ l. round ∷ l) has.is;
      before_is = λ i. heads is i ∷ has.before_is i;
      entry_is = has.entry_is;
    }
