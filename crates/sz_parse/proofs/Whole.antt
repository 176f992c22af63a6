-- Laws of whole programs.
use Rattle.std.proofs.Common.{◌≡◌, ◌≤◌, List, [], ◌∷◌, length, refl, sym, ap, ◌∙◌, arith}
use Rattle.sz_types.specs.declared.place.Place.{Place}
use Rattle.sz_lex.specs.declared.token.Token.{Token}
use Rattle.sz_lex.specs.Lexed.{lexeme_of, Lexed}
use Rattle.sz_tree.specs.Statements.{Stm, Stms, no_stms, stm, stm_height, stm_heights}
use Rattle.sz_parse_expr.specs.Tokens.{Spelling}
use Rattle.sz_parse_expr.specs.declared.limit.TheConstants.{MAX_HEIGHT}
use Rattle.sz_parse.specs.Statements.{ReadsStm, ReadsStms}
use Rattle.sz_parse.specs.Program.{Spells, IsStuck, count_of}
use Rattle.sz_parse_expr.proofs.Holds.{some_is}
use Rattle.sz_parse.proofs.SimpleSound.{stm_shorter, stms_shorter}
use Rattle.sz_parse.proofs.StatementComplete.{stm_complete}

module _ (text : Spelling) where
  -- tokens begin with one statement at most
  one_stm : (s q : Stm) (ts a b : List Token) → ReadsStm text s ts a → stm_height s ≤ MAX_HEIGHT
      → ReadsStm text q ts b → stm_height q ≤ MAX_HEIGHT → (s ≡ q) × (a ≡ b)
  one_stm s q ts a b rs low rq lowq =
      let e : (s, a) ≡ (q, b) =
      some_is (sym (stm_complete text MAX_HEIGHT s ts a rs low) ∙ stm_complete text MAX_HEIGHT q ts b rq lowq) in
      (ap (λ (x : Stm × List Token). x.0) e, ap (λ (x : Stm × List Token). x.1) e)

  -- what stands where no statement begins
  abbrev pub IsStop : List Token → Type 0
  IsStop ts = (s : Stm) (after : List Token) → ReadsStm text s ts after → stm_height s ≤ MAX_HEIGHT → ⊥

  -- statements that end where none begins are the most that stand at the front
  pub most : (front ss : Stms) (ts stop after : List Token) → ReadsStms text front ts stop
      → stm_heights front ≤ MAX_HEIGHT → IsStop stop → ReadsStms text ss ts after → stm_heights ss ≤ MAX_HEIGHT
      → (count_of ss ≤ count_of front) × (length stop ≤ length after)
  unfolding ReadsStm stm_height
  most no_stms no_stms ts stop after rf lowf none rs low = (omega arith, omega (arith, ap length rf, ap length rs))
  most no_stms (stm s ss) ts stop after rf lowf none rs low = absurd (none s rs.0 (rw (← rf) rs.1) (omega arith))
  most (stm q front) no_stms ts stop after rf lowf none rs low =
      (omega arith, omega (arith, stm_shorter text q _ _ rf.1, stms_shorter text front rf.0 stop rf.2, ap length rs))
  most (stm q front) (stm s ss) ts stop after rf lowf none rs low =
      let same = one_stm q s ts rf.0 rs.0 rf.1 (omega arith) rs.1 (omega arith) in
      let m = most front ss rf.0 stop after rf.2 (omega arith) none (rw same.1 rs.2) (omega arith) in
      (omega (arith, m.0), m.1)

  -- of two places where none begins, both are one
  one_stop : (f g : Stms) (ts a b : List Token) → ReadsStms text f ts a → stm_heights f ≤ MAX_HEIGHT → IsStop a
      → ReadsStms text g ts b → stm_heights g ≤ MAX_HEIGHT → IsStop b → (f ≡ g) × (a ≡ b)
  unfolding ReadsStm stm_height
  one_stop no_stms no_stms ts a b rf lowf na rg lowg nb = (refl, sym rf ∙ rg)
  one_stop no_stms (stm s g) ts a b rf lowf na rg lowg nb = absurd (na s rg.0 (rw (← rf) rg.1) (omega arith))
  one_stop (stm s f) no_stms ts a b rf lowf na rg lowg nb = absurd (nb s rf.0 (rw (← rg) rf.1) (omega arith))
  one_stop (stm s f) (stm q g) ts a b rf lowf na rg lowg nb =
      let same = one_stm s q ts rf.0 rg.0 rf.1 (omega arith) rg.1 (omega arith) in
      let rest = one_stop f g rf.0 a b rf.2 (omega arith) na (rw same.1 rg.2) (omega arith) nb in
      (rw (same.0, rest.0) refl, rest.1)

  -- no statement begins at the end
  stop_end : IsStop []
  stop_end s after r low = omega (arith, stm_shorter text s [] after r)

-- tokens spell one list of statements at most
pub one_tree : (tokens : Lexed) (ss qs : Stms) → Spells tokens ss → Spells tokens qs → ss ≡ qs
one_tree tokens ss qs a b =
    let none = stop_end (lexeme_of tokens.text) in
    (one_stop (lexeme_of tokens.text) ss qs tokens.tokens [] [] a.reads a.low none b.reads b.low none).0

pub one_place : (tokens : Lexed) (p q : Place) → IsStuck tokens p → IsStuck tokens q → p ≡ q
one_place tokens p q a b =
    let same = (one_stop (lexeme_of tokens.text) a.front b.front tokens.tokens (a.here ∷ a.rest) (b.here ∷ b.rest)
    a.reads a.low a.none b.reads b.low b.none).1 in
    let here : a.here ≡ b.here = cc in
    sym a.place ∙ ap (λ (t : Token). t.place) here ∙ b.place

pub not_both : (tokens : Lexed) (ss : Stms) (p : Place) → Spells tokens ss → IsStuck tokens p → ⊥
not_both tokens ss p b a = omega (
  arith,
  (most (lexeme_of tokens.text) a.front ss tokens.tokens (a.here ∷ a.rest) [] a.reads a.low a.none b.reads b.low).1,
)
