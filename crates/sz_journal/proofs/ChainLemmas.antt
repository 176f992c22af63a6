-- Entries behind their gates: two chains of the same bytes are one, or one goes on where the other ends.
use Rattle.std.proofs.Common.{◌≡◌, ◌≢◌, ◌∙◌, ◌⊎◌, inl, inr, ⊎_elim, ℕ, List, [], ◌∷◌, ◌++◌, refl, sym, append_assoc}
use Rattle.std.specs.List.{AllByRecursion}
use Rattle.sz_save_format.proofs.FrontLemmas.{unique}
use Rattle.sz_disk.specs.Entries.{with_length, opened, all_opened, IsCounted}
use Rattle.sz_journal.proofs.FindLemmas.{text_finds}

pub heads : {X : Type 0} {a b : X} {xs ys : List X} → a ∷ xs ≡ b ∷ ys → a ≡ b
heads e = cc

pub tails : {X : Type 0} {a b : X} {xs ys : List X} → a ∷ xs ≡ b ∷ ys → xs ≡ ys
tails e = cc

-- the first entry and what stands behind it are told by the bytes
pub first_entry : (entry other rest behind : List ℕ) → IsCounted entry → IsCounted other
    → opened entry ++ rest ≡ opened other ++ behind → (entry ≡ other) × (rest ≡ behind)
first_entry entry other rest behind few low is = unique text_finds entry other rest behind few low (tails is)

-- behind the entries stands a gate
pub front_gate : (entries : List (List ℕ)) (gate : ℕ) (rest : List ℕ)
    → (first : ℕ) × (behind : List ℕ) × (all_opened entries ++ gate ∷ rest ≡ first ∷ behind)
front_gate [] gate rest = (gate, rest, refl)
front_gate (entry ∷ entries) gate rest = (
  1,
  with_length entry ++ (all_opened entries ++ gate ∷ rest),
  append_assoc (opened entry) (all_opened entries) (gate ∷ rest),
)

-- entries, the gate behind them, and what stands behind that
pub record Chain : Type 0 where
  pub entries : List (List ℕ)
  pub gate : ℕ
  pub behind : List ℕ

abbrev pub bytes_of : Chain → List ℕ
bytes_of c = all_opened c.entries ++ c.gate ∷ c.behind

abbrev pub IsCountedChain : Chain → Type 0
IsCountedChain c = AllByRecursion IsCounted c.entries

-- the chain with an entry in front
abbrev with_first : List ℕ → Chain → Chain
with_first entry c = record { entries = entry ∷ c.entries; gate = c.gate; behind = c.behind }

-- two chains are the same
pub record AreSame (c d : Chain) : Type 0 where
  pub entries : c.entries ≡ d.entries
  pub gates : c.gate ≡ d.gate
  pub behind : c.behind ≡ d.behind

-- the second chain goes on behind the gate at which the first one ends
pub record IsLonger (c d : Chain) : Type 0 where
  pub entry : List ℕ
  pub more : List (List ℕ)
  pub is : d.entries ≡ c.entries ++ entry ∷ more
  pub opens : c.gate ≡ 1
  pub counted : IsCounted entry
  pub behind : c.behind ≡ with_length entry ++ (all_opened more ++ d.gate ∷ d.behind)

same_more : (e f : List ℕ) (c d : Chain) → e ≡ f → AreSame c d → AreSame (with_first e c) (with_first f d)
same_more e f c d is same = record { entries = λ i. is i ∷ same.entries i; gates = same.gates; behind = same.behind }

longer_more : (e f : List ℕ) (c d : Chain) → e ≡ f → IsLonger c d → IsLonger (with_first e c) (with_first f d)
longer_more e f c d is longer = record {
  entry = longer.entry;
  more = longer.more;
  is = λ i. sym is i ∷ longer.is i;
  opens = longer.opens;
  counted = longer.counted;
  behind = longer.behind;
}

one_longer : (g : ℕ) (r : List ℕ) (f : List ℕ) (d : Chain) → IsCounted f → g ∷ r ≡ bytes_of (with_first f d)
    → IsLonger (record { entries = []; gate = g; behind = r }) (with_first f d)
one_longer g r f d few is =
    let moved : g ∷ r ≡ opened f ++ bytes_of d =
    is ∙ append_assoc (opened f) (all_opened d.entries) (d.gate ∷ d.behind) in
    record { entry = f; more = d.entries; is = refl; opens = heads moved; counted = few; behind = tails moved }

abbrev pub Compared : Chain → Chain → Type 0
Compared c d = AreSame c d ⊎ (IsLonger c d ⊎ IsLonger d c)

compared_more : (e f : List ℕ) (c d : Chain) → e ≡ f → Compared c d → Compared (with_first e c) (with_first f d)
compared_more e f c d is both =
    ⊎_elim (λ same. inl (same_more e f c d is same))
    (λ apart. ⊎_elim (λ longer. inr (inl (longer_more e f c d is longer)))
    (λ longer. inr (inr (longer_more f e d c (sym is) longer))) apart) both

compared_from : (es fs : List (List ℕ)) (g : ℕ) (r : List ℕ) (h : ℕ) (s : List ℕ) → AllByRecursion IsCounted es
    → AllByRecursion IsCounted fs → all_opened es ++ g ∷ r ≡ all_opened fs ++ h ∷ s
    → Compared (record { entries = es; gate = g; behind = r }) (record { entries = fs; gate = h; behind = s })
compared_from [] [] g r h s few low is = inl (record { entries = refl; gates = heads is; behind = tails is })
compared_from [] (f ∷ fs) g r h s few low is =
    inr (inl (one_longer g r f (record { entries = fs; gate = h; behind = s }) low.0 is))
compared_from (e ∷ es) [] g r h s few low is =
    inr (inr (one_longer h s e (record { entries = es; gate = g; behind = r }) few.0 (sym is)))
compared_from (e ∷ es) (f ∷ fs) g r h s few low is =
    let first = first_entry e f (all_opened es ++ g ∷ r) (all_opened fs ++ h ∷ s) few.0 low.0
    (sym (append_assoc (opened e) (all_opened es) (g ∷ r)) ∙ is ∙ append_assoc (opened f) (all_opened fs) (h ∷ s)) in
    compared_more e f (record { entries = es; gate = g; behind = r })
    (record { entries = fs; gate = h; behind = s }) first.0 (compared_from es fs g r h s few.1 low.1 first.1)

pub compared : (c d : Chain) → IsCountedChain c → IsCountedChain d → bytes_of c ≡ bytes_of d → Compared c d
compared c d few low is = compared_from c.entries d.entries c.gate c.behind d.gate d.behind few low is

-- two that both end at a gate that isn't open are the same
pub both_closed : (c d : Chain) → c.gate ≢ 1 → d.gate ≢ 1 → Compared c d → AreSame c d
both_closed c d first second both =
    ⊎_elim (λ (same : AreSame c d). same)
    (λ apart. absurd (⊎_elim (λ (longer : IsLonger c d). first longer.opens)
    (λ (longer : IsLonger d c). second longer.opens) apart)) both
