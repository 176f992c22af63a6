-- Blanks and comments are passed.
use Rattle.std.proofs.Common.{◌≡◌, ℕ, suc, ◌+◌, ◌-◌, Bool, true, false, eqb, List, [], ◌∷◌, ◌++◌, length, Some, None, Result, Ok, refl, sym}
use Rattle.std.proofs.Common.{ap, ◌∙◌, arith}
use Rattle.std.proofs.lemmas.Bool.Decides.{nat_tests}
use Rattle.std.specs.List.{prefix_len}
use Rattle.sz_types.specs.declared.place.Place.{Place}
use Rattle.sz_lex.specs.declared.token.Token.{Token}
use Rattle.sz_lex.specs.declared.error.LexError.{LexError}
use Rattle.sz_lex.specs.declared.item.Item.{Item}
use Rattle.sz_lex.specs.declared.item.Item.TheVariants.{Gap}
use Rattle.sz_lex.specs.Classes.{is_blank}
use Rattle.sz_lex.specs.Tokens.{gap_from, after, later}
use Rattle.sz_lex.specs.Reading.{not_newline, item_of, act, lexed}
use Rattle.sz_lex.proofs.LiteralLemmas.{none_some}

abbrev pub Answer : Type 0
Answer = Result (List Token) LexError

-- bytes that belong to what came before are passed
pub passed : (l rest : List ℕ) (at : ℕ) (p : Place)
    → lexed (length l) at p (l ++ rest) ≡ lexed 0 (at + length l) (later l p) rest
unfolding lexed
passed [] rest at p = let e : at + 0 ≡ at = omega arith in rw e refl
passed (b ∷ l) rest at p = let e : at + 1 + length l ≡ at + suc (length l) = omega arith in
    passed l rest (at + 1) (after b p) ∙ ap (λ n. lexed 0 n (later l (after b p)) rest) e

-- how many bytes of the text belong to the comment that it begins in
abbrev pub left_of : Bool → List ℕ → ℕ
left_of false bs = 0
left_of true bs = prefix_len not_newline bs

turn_at : (b : ℕ) (bs : List ℕ) (at n : ℕ) (p : Place) → item_of b bs ≡ Gap n
    → lexed 0 at p (b ∷ bs) ≡ lexed (n - 1) (at + 1) (after b p) bs
unfolding lexed
turn_at b bs at n p e = ap (λ (x : Item). act at p x (λ k. lexed k (at + 1) (after b p) bs)) e

item_blank : (b : ℕ) (bs : List ℕ) → is_blank b ≡ true → item_of b bs ≡ Gap 1
item_blank b bs e = rw e refl

item_hash : (b : ℕ) (bs : List ℕ) → is_blank b ≡ false → eqb b 35 ≡ true
    → item_of b bs ≡ Gap (prefix_len not_newline bs + 1)
item_hash b bs e f = rw (e, f) refl

left_end : (b : ℕ) (bs : List ℕ) → eqb b 10 ≡ true → left_of true (b ∷ bs) ≡ 0
left_end b bs e = rw e refl

left_more : (b : ℕ) (bs : List ℕ) → eqb b 10 ≡ false → left_of true (b ∷ bs) ≡ suc (left_of true bs)
left_more b bs e = rw e (omega arith)

newline_blank : (b : ℕ) → eqb b 10 ≡ true → is_blank b ≡ true
newline_blank b e = grind (arith, nat_tests)

pub gap_end : (b : ℕ) (g : List ℕ) → eqb b 10 ≡ true → gap_from true (b ∷ g) ≡ gap_from false g
gap_end b g e = rw e refl

pub gap_more : (b : ℕ) (g : List ℕ) → eqb b 10 ≡ false → gap_from true (b ∷ g) ≡ gap_from true g
gap_more b g e = rw e refl

pub gap_blank : (b : ℕ) (g : List ℕ) → is_blank b ≡ true → gap_from false (b ∷ g) ≡ gap_from false g
gap_blank b g e = rw e refl

pub gap_hash : (b : ℕ) (g : List ℕ) → is_blank b ≡ false → eqb b 35 ≡ true → gap_from false (b ∷ g) ≡ gap_from true g
gap_hash b g e f = rw (e, f) refl

gap_none : (b : ℕ) (g : List ℕ) → is_blank b ≡ false → eqb b 35 ≡ false → gap_from false (b ∷ g) ≡ None
gap_none b g e f = rw (e, f) refl

blank_turn : (b : ℕ) (bs : List ℕ) (at : ℕ) (p : Place) → is_blank b ≡ true
    → lexed 0 at p (b ∷ bs) ≡ lexed 0 (at + 1) (after b p) bs
blank_turn b bs at p e = turn_at b bs at 1 p (item_blank b bs e)

hash_turn : (b : ℕ) (bs : List ℕ) (at : ℕ) (p : Place) → is_blank b ≡ false → eqb b 35 ≡ true
    → lexed 0 at p (b ∷ bs) ≡ lexed (left_of true bs) (at + 1) (after b p) bs
hash_turn b bs at p e f =
    let k : prefix_len not_newline bs + 1 - 1 ≡ prefix_len not_newline bs = omega arith in
    turn_at b bs at _ p (item_hash b bs e f) ∙ ap (λ n. lexed n (at + 1) (after b p) bs) k

end_turn : (b : ℕ) (bs : List ℕ) (at : ℕ) (p : Place) → eqb b 10 ≡ true
    → lexed (left_of true (b ∷ bs)) at p (b ∷ bs) ≡ lexed 0 (at + 1) (after b p) bs
end_turn b bs at p e = ap (λ n. lexed n at p (b ∷ bs)) (left_end b bs e) ∙ blank_turn b bs at p (newline_blank b e)

more_turn : (b : ℕ) (bs : List ℕ) (at : ℕ) (p : Place) → eqb b 10 ≡ false
    → lexed (left_of true (b ∷ bs)) at p (b ∷ bs) ≡ lexed (left_of true bs) (at + 1) (after b p) bs
unfolding lexed
more_turn b bs at p e = ap (λ n. lexed n at p (b ∷ bs)) (left_more b bs e)

-- one byte of a gap
gap_turn : (c : Bool) (b : ℕ) (g rest : List ℕ) (at : ℕ) (p : Place) (d : Bool) (r : Answer)
    → gap_from c (b ∷ g) ≡ Some d
    → ((e : Bool) → gap_from e g ≡ Some d → lexed (left_of e (g ++ rest)) (at + 1) (after b p) (g ++ rest) ≡ r)
    → lexed (left_of c (b ∷ (g ++ rest))) at p (b ∷ (g ++ rest)) ≡ r
gap_turn true b g rest at p d r h k = go (eqb b 10) refl
  where
    go : (x : Bool) → eqb b 10 ≡ x → lexed (left_of true (b ∷ (g ++ rest))) at p (b ∷ (g ++ rest)) ≡ r
    go true e = end_turn b (g ++ rest) at p e ∙ k false (sym (gap_end b g e) ∙ h)
    go false e = more_turn b (g ++ rest) at p e ∙ k true (sym (gap_more b g e) ∙ h)
gap_turn false b g rest at p d r h k = go (is_blank b) (eqb b 35) refl refl
  where
    go : (x y : Bool) → is_blank b ≡ x → eqb b 35 ≡ y → lexed 0 at p (b ∷ (g ++ rest)) ≡ r
    go true y e f = blank_turn b (g ++ rest) at p e ∙ k false (sym (gap_blank b g e) ∙ h)
    go false true e f = hash_turn b (g ++ rest) at p e f ∙ k true (sym (gap_hash b g e f) ∙ h)
    go false false e f = none_some (sym (gap_none b g e f) ∙ h)

-- a gap is passed
pub gap_passed : (c : Bool) (g rest : List ℕ) (at : ℕ) (p : Place) → gap_from c g ≡ Some false
    → lexed (left_of c (g ++ rest)) at p (g ++ rest) ≡ lexed 0 (at + length g) (later g p) rest
gap_passed true [] rest at p h = absurd cc
gap_passed false [] rest at p h = let e : at + 0 ≡ at = omega arith in rw e refl
gap_passed c (b ∷ g) rest at p h =
    let n : at + 1 + length g ≡ at + suc (length g) = omega arith in
    gap_turn c b g rest at p false _ h (λ d k. gap_passed d g rest (at + 1) (after b p) k)
    ∙ ap (λ n. lexed 0 n (later g (after b p)) rest) n

pub last_gap : (c d : Bool) (g : List ℕ) (at : ℕ) (p : Place) → gap_from c g ≡ Some d
    → lexed (left_of c (g ++ [])) at p (g ++ []) ≡ Ok []
unfolding lexed
last_gap c d [] at p h = refl
last_gap c d (b ∷ g) at p h = gap_turn c b g [] at p d _ h (λ e k. last_gap e d g (at + 1) (after b p) k)
