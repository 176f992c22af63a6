-- The loop over the tokens, line by line.
use Rattle.std.proofs.Common.{◌≡◌, ◌⊎◌, ℕ, zero, suc, ◌<◌, ◌+◌, ◌≤◌, Bool, true, false, eqb, List, [], ◌∷◌, ◌++◌, length, get_or, Some, None, refl, sym, ap, subst, ◌∙◌, inl, inr, arith}
use Rattle.std.proofs.lemmas.Bool.{eqb-true}
use Rattle.sz_types.specs.declared.place.Place.{Place}
use Rattle.sz_protofile_lex.specs.declared.token.Token.{Token}
use Rattle.sz_protofile.specs.declared.line.Line.{Line}
use Rattle.sz_protofile.specs.declared.line.Line.TheVariants as lines
use Rattle.sz_protofile.specs.Reading.{Spelling}
use Rattle.sz_protofile.specs.Forms.{line_at}
use Rattle.sz_protofile.specs.Lines.{depth_after, Reads, BeginsPart, IsStuckAt, place_in}
use Rattle.sz_protofile.proofs.Holds.{some_is}
use Rattle.sz_protofile.proofs.LineLemmas.{no_line, line_shorter, one_more}

-- from here, inside so many messages, a part of the file goes on to its end
pub record GoesToEnd (text : Spelling) (depth : ℕ) (ts : List Token) : Type 0 where
  pub line : Line
  pub more : List Line
  pub rest : List Token
  pub reads : Reads text depth (line ∷ more) ts 0 rest

-- whole parts of the file, and after them one that begins at the place p and, if it has an end, goes on to it from ts
pub record IsInside (text : Spelling) (tokens : List Token) (depth : ℕ) (ts : List Token) (p : Place) : Type 0 where
  pub front : List Line
  pub here : Token
  pub rest : List Token
  pub reads : Reads text 0 front tokens 0 (here ∷ rest)
  pub place : here.place ≡ p
  pub onward : BeginsPart text (here ∷ rest) → GoesToEnd text depth ts

-- the lines so far, and what is known of the part of the file that was begun and not ended
pub record IsAt (text : Spelling) (tokens : List Token) (all : List Line) (depth : ℕ) (ts : List Token)
    (p : Place) : Type 0 where
  pub reads : Reads text 0 all tokens depth ts
  pub part : (depth ≡ 0) ⊎ IsInside text tokens depth ts p
  pub few : depth + length ts ≤ length tokens

module _ (text : Spelling) (tokens : List Token) where
  pub starts : (p : Place) → IsAt text tokens [] 0 tokens p
  unfolding Reads
  starts p = record { reads = (refl, refl); part = inl refl; few = omega arith }

  outside : (all : List Line) (depth : ℕ) (t : Token) (ts : List Token)
      → Reads text 0 all tokens depth (t ∷ ts) → depth ≡ 0 → IsInside text tokens depth (t ∷ ts) t.place
  outside all depth t ts reads none = record {
    front = all;
    here = t;
    rest = ts;
    reads = subst (λ (d : ℕ). Reads text 0 all tokens d (t ∷ ts)) none reads;
    place = refl;
    onward = λ b. subst (λ (d : ℕ). GoesToEnd text d (t ∷ ts)) (sym none)
        (record { line = b.line; more = b.more; rest = b.rest; reads = b.reads });
  }

  -- at each token a part of the file is read that begins here, or was begun before
  pub inside : (all : List Line) (depth : ℕ) (t : Token) (ts : List Token) (p : Place)
      → IsAt text tokens all depth (t ∷ ts) p → IsInside text tokens depth (t ∷ ts) (place_in depth p t)
  inside all depth t ts p at = go (eqb depth 0) refl at.part
    where
      go : (x : Bool) → eqb depth 0 ≡ x → (depth ≡ 0) ⊎ IsInside text tokens depth (t ∷ ts) p
          → IsInside text tokens depth (t ∷ ts) (place_in depth p t)
      go true e part = rw e (outside all depth t ts at.reads (eqb-true depth 0 e))
      go false e (inl none) =
          absurd (let zero_is : eqb depth 0 ≡ true = rw none refl in let both = sym e ∙ zero_is in cc)
      go false e (inr within) = rw e within

  pub stuck : (depth : ℕ) (ts : List Token) (p : Place) → IsInside text tokens depth ts p
      → line_at text depth ts ≡ None → IsStuckAt text tokens p
  unfolding Reads
  stuck depth ts p at none = record {
    front = at.front;
    here = at.here;
    rest = at.rest;
    reads = at.reads;
    place = at.place;
    none = λ b. let e = sym none ∙ (at.onward b).reads.1 in absurd cc;
  }

  pub stuck_at_end : (all : List Line) (depth : ℕ) (p : Place) → IsAt text tokens all depth [] p → 0 < depth
      → IsStuckAt text tokens p
  unfolding Reads
  stuck_at_end all depth p at some = go at.part
    where
      go : (depth ≡ 0) ⊎ IsInside text tokens depth [] p → IsStuckAt text tokens p
      go (inl none) = absurd (omega (arith, none, some))
      go (inr within) = record {
        front = within.front;
        here = within.here;
        rest = within.rest;
        reads = within.reads;
        place = within.place;
        none = λ b. no_line text depth (within.onward b).line (within.onward b).reads.0 (within.onward b).reads.1;
      }

  pub ends : (all : List Line) (depth : ℕ) (p : Place) → IsAt text tokens all depth [] p → depth ≡ 0
      → Reads text 0 all tokens 0 []
  ends all depth p at none = subst (λ (d : ℕ). Reads text 0 all tokens d []) none at.reads

  deeper : (line : Line) (depth : ℕ) → depth_after line depth ≤ depth + 1
  deeper (lines.Message name) depth = omega arith
  deeper lines.End zero = omega arith
  deeper lines.End (suc depth) = omega arith
  deeper lines.Passed depth = omega arith
  deeper (lines.Package name) depth = omega arith
  deeper (lines.Enum name) depth = omega arith
  deeper (lines.Field field) depth = omega arith
  deeper (lines.Unread member) depth = omega arith

  -- the part goes on after its next line too
  further : (depth d : ℕ) (line : Line) (ts mid : List Token) → line_at text depth ts ≡ Some (line, mid)
      → depth_after line depth ≡ suc d → GoesToEnd text depth ts → GoesToEnd text (suc d) mid
  unfolding Reads
  further depth d line ts mid e deep g = go g.more (subst (λ (x : ℕ). Reads text x g.more mid 0 g.rest) deep after)
    where
      same : ◌≡◌ {A = Line × List Token} (line, mid) (g.line, g.reads.0)
      same = some_is (sym e ∙ g.reads.1)

      after : Reads text (depth_after line depth) g.more mid 0 g.rest
      after = subst (λ (x : Line). Reads text (depth_after x depth) g.more mid 0 g.rest) (sym (ap (λ x. x.0) same))
          (subst (λ (x : List Token). Reads text (depth_after g.line depth) g.more x 0 g.rest)
          (sym (ap (λ x. x.1) same)) g.reads.2)

      go : (more : List Line) → Reads text (suc d) more mid 0 g.rest → GoesToEnd text (suc d) mid
      go [] r = absurd (omega (arith, r.0))
      go (l ∷ more) r = record { line = l; more = more; rest = g.rest; reads = r }

  pub goes_on : (all : List Line) (depth : ℕ) (ts mid : List Token) (p q : Place) (line : Line)
      → IsAt text tokens all depth ts q → IsInside text tokens depth ts p → line_at text depth ts ≡ Some (line, mid)
      → IsAt text tokens (all ++ line ∷ []) (depth_after line depth) mid p
  goes_on all depth ts mid p q line at within e = record {
    reads = one_more text 0 depth all line tokens ts mid at.reads e;
    part = go (depth_after line depth) refl;
    few = omega (arith, at.few, deeper line depth, line_shorter text depth ts mid line e);
  }
    where
      go : (d : ℕ) → depth_after line depth ≡ d
          → (depth_after line depth ≡ 0) ⊎ IsInside text tokens (depth_after line depth) mid p
      go zero deep = inl deep
      go (suc d) deep = inr (subst (λ (x : ℕ). IsInside text tokens x mid p) (sym deep) (record {
        front = within.front;
        here = within.here;
        rest = within.rest;
        reads = within.reads;
        place = within.place;
        onward = λ b. further depth d line ts mid e deep (within.onward b);
      }))

  -- the same at the first of some tokens
  pub inside_at : (all : List Line) (depth : ℕ) (ts : List Token) (p : Place) (d : Token) → 1 ≤ length ts
      → IsAt text tokens all depth ts p → IsInside text tokens depth ts (place_in depth p (get_or ts 0 d))
  inside_at all depth [] p d some at = absurd (omega (arith, some))
  inside_at all depth (t ∷ ts) p d some at = inside all depth t ts p at

  -- the same where no token is left
  pub stuck_after : (all : List Line) (depth : ℕ) (ts : List Token) (p : Place) → length ts < 1
      → IsAt text tokens all depth ts p → 0 < depth → IsStuckAt text tokens p
  stuck_after all depth [] p none at some = stuck_at_end all depth p at some
  stuck_after all depth (t ∷ ts) p none at some = absurd (omega (arith, none))

  pub ends_after : (all : List Line) (depth : ℕ) (ts : List Token) (p : Place) → length ts < 1
      → IsAt text tokens all depth ts p → depth ≤ 0 → Reads text 0 all tokens 0 []
  ends_after all depth [] p none at low = ends all depth p at (omega (arith, low))
  ends_after all depth (t ∷ ts) p none at low = absurd (omega (arith, none))
