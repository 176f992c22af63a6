-- Lists of lines that tokens begin with: one continues the other.
use Rattle.std.proofs.Common.{◌≡◌, ◌⊎◌, ℕ, ◌<◌, List, [], ◌∷◌, ◌++◌, length, Some, Result, Ok, Err, refl, sym, ap, subst, ◌∙◌, inl, inr, arith}
use Rattle.std.specs.Prelude.{MatchResult, IfOk, IfErr}
use Rattle.std.proofs.lemmas.List.{append-nil}
use Rattle.sz_types.specs.declared.place.Place.{Place}
use Rattle.sz_protofile_lex.specs.declared.token.Token.{Token}
use Rattle.sz_protofile_lex.specs.Tokens.{tokens_of}
use Rattle.sz_protofile_lex.specs.Lexemes.{lexeme_of}
use Rattle.sz_protofile.specs.declared.line.Line.{Line}
use Rattle.sz_protofile.specs.declared.error.FileError.{FileError}
use Rattle.sz_protofile.specs.declared.error.FileError.TheVariants as errors
use Rattle.sz_protofile.specs.Reading.{Spelling}
use Rattle.sz_protofile.specs.Forms.{line_at}
use Rattle.sz_protofile.specs.Lines.{depth_after, Reads, BeginsPart, IsStuckAt, HasLines, IsRefused, no_tokens, no_lines, OrNoMemory}
use Rattle.sz_protofile.proofs.Holds.{some_is}
use Rattle.sz_protofile.proofs.LengthLemmas.{line_short}

-- no line is read where no token is left
pub no_line : (text : Spelling) (depth : ℕ) (line : Line) (rest : List Token)
    → line_at text depth [] ≡ Some (line, rest) → ⊥
no_line text depth line rest e = omega (arith, (line_short 0 text depth [] (omega arith)).holds (line, rest) e)

pub line_shorter : (text : Spelling) (depth : ℕ) (ts rest : List Token) (line : Line)
    → line_at text depth ts ≡ Some (line, rest) → length rest < length ts
line_shorter text depth ts rest line e = (line_short (length ts) text depth ts (omega arith)).holds (line, rest) e

-- one more line
pub one_more : (text : Spelling) (depth end : ℕ) (front : List Line) (line : Line) (ts rest mid : List Token)
    → Reads text depth front ts end rest
    → line_at text end rest ≡ Some (line, mid) → Reads text depth (front ++ line ∷ []) ts (depth_after line end) mid
unfolding Reads
one_more text depth end [] line ts rest mid r e =
    (mid, ap (λ (d : ℕ). line_at text d ts) r.0 ∙ ap (line_at text end) r.1 ∙ e, (ap (depth_after line) r.0, refl))
one_more text depth end (l ∷ front) line ts rest mid r e =
    (r.0, r.1, one_more text (depth_after l depth) end front line r.0 rest mid r.2 e)

-- what two lists of lines leave: the second goes on after the first, or the first after the second
pub record GoesOn (text : Spelling) (first second : List Line) (depth end : ℕ) (left rest : List Token) : Type 0 where
  pub more : List Line
  pub longer : second ≡ first ++ more
  pub reads : Reads text depth more left end rest

pub continued : (text : Spelling) (depth : ℕ) (xs bs : List Line) (ts : List Token) (d e : ℕ) (left rest : List Token)
    → Reads text depth xs ts d left
    → Reads text depth bs ts e rest → GoesOn text xs bs d e left rest ⊎ GoesOn text bs xs e d rest left
unfolding Reads
continued text depth [] bs ts d e left rest r s = inl (record {
  more = bs;
  longer = refl;
  reads = subst (λ (x : ℕ). Reads text x bs left e rest) r.0
      (subst (λ (x : List Token). Reads text depth bs x e rest) r.1 s);
})
continued text depth (a ∷ xs) [] ts d e left rest r s = inr (record {
  more = a ∷ xs;
  longer = refl;
  reads = subst (λ (x : ℕ). Reads text x (a ∷ xs) rest d left) s.0
      (subst (λ (x : List Token). Reads text depth (a ∷ xs) x d left) s.1 r);
})
continued text depth (a ∷ xs) (b ∷ bs) ts d e left rest r s =
    go (continued text (depth_after a depth) xs bs r.0 d e left rest r.2 here)
  where
    same : ◌≡◌ {A = Line × List Token} (a, r.0) (b, s.0)
    same = some_is (sym r.1 ∙ s.1)

    here : Reads text (depth_after a depth) bs r.0 e rest
    here = subst (λ (x : Line). Reads text (depth_after x depth) bs r.0 e rest) (sym (ap (λ x. x.0) same))
        (subst (λ (x : List Token). Reads text (depth_after b depth) bs x e rest) (sym (ap (λ x. x.1) same)) s.2)

    go : GoesOn text xs bs d e left rest ⊎ GoesOn text bs xs e d rest left
        → GoesOn text (a ∷ xs) (b ∷ bs) d e left rest ⊎ GoesOn text (b ∷ bs) (a ∷ xs) e d rest left
    go (inl g) = inl (record { more = g.more; longer = both (sym (ap (λ x. x.0) same)) g.longer; reads = g.reads })
      where
        both : b ≡ a → bs ≡ xs ++ g.more → b ∷ bs ≡ a ∷ (xs ++ g.more)
        both p q = cc
    go (inr g) = inr (record { more = g.more; longer = both (ap (λ x. x.0) same) g.longer; reads = g.reads })
      where
        both : a ≡ b → xs ≡ bs ++ g.more → a ∷ xs ≡ b ∷ (bs ++ g.more)
        both p q = cc

-- ---- at most one answer

module _ (text : Spelling) (tokens : List Token) where
  nothing_after : (more : List Line) (depth end : ℕ) (here : Token) (rest : List Token)
      → Reads text depth more [] end (here ∷ rest) → ⊥
  unfolding Reads
  nothing_after [] depth end here rest r = let e = r.1 in absurd cc
  nothing_after (l ∷ more) depth end here rest r = no_line text depth l r.0 r.1

  nothing_left : (more : List Line) (depth end : ℕ) → Reads text depth more [] end [] → more ≡ []
  unfolding Reads
  nothing_left [] depth end r = refl
  nothing_left (l ∷ more) depth end r = absurd (no_line text depth l r.0 r.1)

  all_of : (xs bs more : List Line) → bs ≡ xs ++ more → more ≡ [] → xs ≡ bs
  all_of xs bs more e none = sym (e ∙ ap (λ (x : List Line). xs ++ x) none ∙ append-nil xs)

  pub same_lines : (xs bs : List Line) → Reads text 0 xs tokens 0 [] → Reads text 0 bs tokens 0 [] → xs ≡ bs
  same_lines xs bs r s = go (continued text 0 xs bs tokens 0 0 [] [] r s)
    where
      go : GoesOn text xs bs 0 0 [] [] ⊎ GoesOn text bs xs 0 0 [] [] → xs ≡ bs
      go (inl g) = all_of xs bs g.more g.longer (nothing_left g.more 0 0 g.reads)
      go (inr g) = sym (all_of bs xs g.more g.longer (nothing_left g.more 0 0 g.reads))

  -- what begins at a token and isn't nothing begins with a whole part
  begins : (more : List Line) (here : Token) (rest : List Token) (end : List Token)
      → Reads text 0 more (here ∷ rest) 0 end → (BeginsPart text (here ∷ rest) → ⊥)
      → here ∷ rest ≡ end
  unfolding Reads
  begins [] here rest end r none = r.1
  begins (l ∷ more) here rest end r none = absurd (none (record { line = l; more = more; rest = end; reads = r }))

  pub not_stuck : (xs : List Line) (p : Place) → Reads text 0 xs tokens 0 [] → IsStuckAt text tokens p → ⊥
  not_stuck xs p r s = go (continued text 0 xs s.front tokens 0 0 [] (s.here ∷ s.rest) r s.reads)
    where
      go : GoesOn text xs s.front 0 0 [] (s.here ∷ s.rest) ⊎ GoesOn text s.front xs 0 0 (s.here ∷ s.rest) [] → ⊥
      go (inl g) = nothing_after g.more 0 0 s.here s.rest g.reads
      go (inr g) = let e = begins g.more s.here s.rest [] g.reads s.none in absurd cc

  pub same_place : (p q : Place) → IsStuckAt text tokens p → IsStuckAt text tokens q → p ≡ q
  same_place p q r s =
      go (continued text 0 r.front s.front tokens 0 0 (r.here ∷ r.rest) (s.here ∷ s.rest) r.reads s.reads)
    where
      places : r.here ∷ r.rest ≡ s.here ∷ s.rest → p ≡ q
      places e = let h : r.here ≡ s.here = cc in sym r.place ∙ ap (λ (t : Token). t.place) h ∙ s.place

      go : GoesOn text r.front s.front 0 0 (r.here ∷ r.rest) (s.here ∷ s.rest)
          ⊎ GoesOn text s.front r.front 0 0 (s.here ∷ s.rest) (r.here ∷ r.rest) → p ≡ q
      go (inl g) = places (begins g.more r.here r.rest (s.here ∷ s.rest) g.reads r.none)
      go (inr g) = places (sym (begins g.more s.here s.rest (r.here ∷ r.rest) g.reads s.none))

-- ---- whole files

same_tokens : (bytes : List ℕ) (xs bs : List Token) → tokens_of bytes ≡ Ok xs → tokens_of bytes ≡ Ok bs → xs ≡ bs
same_tokens bytes xs bs p q = let e = sym p ∙ q in cc

pub one_list : (bytes : List ℕ) (xs bs : List Line) → HasLines bytes xs → HasLines bytes bs → xs ≡ bs
one_list bytes xs bs a b =
    same_lines (lexeme_of bytes) a.tokens xs bs a.reads
    (subst (λ (ts : List Token). Reads (lexeme_of bytes) 0 bs ts 0 [])
    (sym (same_tokens bytes a.tokens b.tokens a.lexed b.lexed)) b.reads)

pub not_both : (bytes : List ℕ) (xs : List Line) (p : Place) → HasLines bytes xs → IsRefused bytes p → ⊥
not_both bytes xs p a (no_tokens e) = let both = sym a.lexed ∙ e in absurd cc
not_both bytes xs p a (no_lines tokens e s) =
    not_stuck (lexeme_of bytes) a.tokens xs p a.reads
    (subst (λ (ts : List Token). IsStuckAt (lexeme_of bytes) ts p)
    (sym (same_tokens bytes a.tokens tokens a.lexed e)) s)

pub one_place : (bytes : List ℕ) (p q : Place) → IsRefused bytes p → IsRefused bytes q → p ≡ q
one_place bytes p q (no_tokens e) (no_tokens f) = let both = sym e ∙ f in cc
one_place bytes p q (no_tokens e) (no_lines tokens f s) = let both = sym e ∙ f in absurd cc
one_place bytes p q (no_lines tokens e r) (no_tokens f) = let both = sym e ∙ f in absurd cc
one_place bytes p q (no_lines tokens e r) (no_lines others f s) =
    same_place (lexeme_of bytes) tokens p q r
    (subst (λ (ts : List Token). IsStuckAt (lexeme_of bytes) ts q) (sym (same_tokens bytes tokens others e f)) s)

-- ---- what the call answers

module _ {V : Type 0} (view : V → List Line) (bytes : List ℕ) where
  pub only_lines : (r : Result V FileError) → IfOk r (λ v. HasLines bytes (view v))
      → IfErr r (λ e. OrNoMemory e (IsRefused bytes)) → (all : List Line)
      → HasLines bytes all → MatchResult r (λ v. view v ≡ all) (λ e. e ≡ errors.NoMemory)
  only_lines (Ok v) found refused all h = one_list bytes (view v) all found h
  only_lines (Err errors.NoMemory) found refused all h = refl
  only_lines (Err (errors.Syntax p)) found refused all h = absurd (not_both bytes all p h refused)

  pub only_refused : (r : Result V FileError) → IfOk r (λ v. HasLines bytes (view v))
      → IfErr r (λ e. OrNoMemory e (IsRefused bytes)) → (p : Place)
      → IsRefused bytes p → MatchResult r (λ _. ⊥) (λ e. OrNoMemory e (λ q. q ≡ p))
  only_refused (Ok v) found refused p h = absurd (not_both bytes (view v) p found h)
  only_refused (Err errors.NoMemory) found refused p h = tt
  only_refused (Err (errors.Syntax q)) found refused p h = one_place bytes q p refused h

-- ---- from the lines of tokens to those of their file

module _ {V : Type 0} (view : V → List Line) (bytes : List ℕ) (tokens : List Token)
    (lexed : tokens_of bytes ≡ Ok tokens) where
  pub found_lines : (r : Result V FileError) → IfOk r (λ v. Reads (lexeme_of bytes) 0 (view v) tokens 0 [])
      → IfOk r (λ v. HasLines bytes (view v))
  found_lines (Ok v) h = record { tokens = tokens; lexed = lexed; reads = h }
  found_lines (Err e) h = tt

pub refused_lines : {V : Type 0} (bytes : List ℕ) (tokens : List Token) → tokens_of bytes ≡ Ok tokens
    → (r : Result V FileError) → IfErr r (λ e. OrNoMemory e (IsStuckAt (lexeme_of bytes) tokens))
    → IfErr r (λ e. OrNoMemory e (IsRefused bytes))
refused_lines bytes tokens lexed (Ok v) h = tt
refused_lines bytes tokens lexed (Err errors.NoMemory) h = tt
refused_lines bytes tokens lexed (Err (errors.Syntax p)) h = no_lines tokens lexed h
