-- What is seen of what is known in front of a statement, and what stays so after it.
use Rattle.std.proofs.Common.{◌≡◌, ℕ, zero, suc, ◌+◌, ◌≤◌, ◌<◌, true, List, [], ◌∷◌, ◌++◌, length, Option, Some, None, refl, sym, ap, ◌∙◌, subst, append_assoc}
use Rattle.std.proofs.Common.{arith}
use Rattle.std.specs.Prelude.{◌&&◌, slice_get, slice_index_or, IfSome}
use Rattle.std.specs.List.{Contains}
use Rattle.std.specs.Cmp.{first_so, second_so}
use Rattle.std.proofs.lemmas.List.{append-nil, length-append}
use Rattle.std.proofs.lemmas.List.Elements.{Contains-append_right}
use Rattle.sz_types.specs.Data.{Shape}
use Rattle.sz_tree.specs.Names.{Ident}
use Rattle.sz_tree.specs.Expressions.{Exp}
use Rattle.sz_core.specs.Statements.{Stm, clear, keep, block, store, evaluate, no_stms}
use Rattle.sz_core.specs.WellFormed.{is_well_formed, are_well_formed}
use Rattle.sz_core.specs.Typing.{Sight}
use Rattle.sz_core.specs.Sound.{seen_after, BeginsWith, Around, IsStm, AreStms, IsFree, IsBetweenTurns}
use Rattle.sz_check_rules.specs.Names.{variable, declare}
use Rattle.sz_check_rules.specs.JudgingExpressions.{judge_exp}
use Rattle.sz_check_rules.specs.Scene.{Scene, opened, with_variable}
use Rattle.sz_check_rules.specs.Scenes.{Later, AllAfter, judge, closed}
use Rattle.sz_check_rules.proofs.Holds.{Holds, good, ok_holds, bind_holds, known}
use Rattle.sz_check_rules.proofs.Meanings.{declared}
use Rattle.sz_check_rules.proofs.Sights.{IsFormed, AreFormed, IsVariable, Fits, AllFit, IsWider, all_fit_wider}
use Rattle.sz_check_rules.proofs.AgreeLemmas.{IsTyped}
use Rattle.sz_check_rules.proofs.ExpressionSound.{expression_typed}

-- ---- lists that go on

-- a list begins itself, a longer one, and what that begins
pub begins_itself : (ts : List Shape) → BeginsWith ts ts
begins_itself ts = ([], sym (append-nil ts))

pub begins_more : (ts : List Shape) (t : Shape) → BeginsWith ts (ts ++ t ∷ [])
begins_more ts t = (t ∷ [], refl)

pub begins_on : (a b c : List Shape) → BeginsWith a b → BeginsWith b c → BeginsWith a c
begins_on a b c h k = (h.0 ++ k.0, k.1 ∙ ap (λ x. x ++ k.0) h.1 ∙ append_assoc a h.0 k.0)

none_is_some : {A : Type 0} {x : A} → ◌≡◌ {A = Option A} None (Some x) → ⊥
none_is_some e = cc

-- what a list has after its front, and in it
pub get_after : {A : Type 0} (ts rest : List A) (t : A) → slice_get (ts ++ t ∷ rest) (length ts) ≡ Some t
get_after [] rest t = refl
get_after (s ∷ ts) rest t = get_after ts rest t

pub get_before : {A : Type 0} (ts rest : List A) (n : ℕ) (t : A) → slice_get ts n ≡ Some t
    → slice_get (ts ++ rest) n ≡ Some t
get_before [] rest n t h = absurd (none_is_some h)
get_before (s ∷ ts) rest zero t h = h
get_before (s ∷ ts) rest (suc n) t h = get_before ts rest n t h

pub get_next : (ts whole : List Shape) (t : Shape) → BeginsWith (ts ++ t ∷ []) whole
    → slice_get whole (length ts) ≡ Some t
get_next ts whole t h = ap (λ x. slice_get x (length ts)) (h.1 ∙ append_assoc ts (t ∷ []) h.0) ∙ get_after ts h.0 t

pub begins_length : (a b : List Shape) → BeginsWith a b → length a ≤ length b
begins_length a b h = omega (arith, ap length h.1, length-append a h.0)

-- a list of well-formed types with one more
pub formed_more : (ts : List Shape) (t : Shape) → AreFormed ts → IsFormed t → AreFormed (ts ++ t ∷ [])
formed_more [] t h k = λ i. k i && h i
formed_more (s ∷ ts) t h k =
    λ i. first_so _ (are_well_formed ts) h i && formed_more ts t (second_so (is_well_formed s) _ h) k i

-- ---- numbers that are seen

-- each number is below the first
abbrev pub AreBelow : ℕ → List ℕ → Type 0
AreBelow most [] = Unit {0}
AreBelow most (n ∷ ns) = (n < most) × AreBelow most ns

pub below_more : (most more : ℕ) (ns : List ℕ) → most ≤ more → AreBelow most ns → AreBelow more ns
below_more most more [] h k = tt
below_more most more (n ∷ ns) h k = (omega (arith, h, k.0), below_more most more ns h k.1)

-- so it is none of them
pub is_none : (most : ℕ) (ns : List ℕ) → AreBelow most ns → Contains ns most → ⊥
is_none most ns below c = at ns below c.0 c.1 c.2
  where
    at : (ns : List ℕ) → AreBelow most ns → (k : ℕ) → k < length ns → slice_index_or ns k most ≡ most → ⊥
    at [] below k within is = omega (arith, within)
    at (n ∷ ns) below zero within is = omega (arith, below.0, is)
    at (n ∷ ns) below (suc k) within is = at ns below.1 k (omega (arith, within)) is

-- ---- what is seen

-- what is known in front of a statement is true of what is seen, where a function that emits may be called
pub record Sees (g : Sight) (s : Scene) : Type 0 where
  pub fit : AllFit g s.blocks
  pub formed : AreFormed s.locals
  pub emits : g.may_emit ≡ true
  pub numbers : AreBelow (length s.locals) g.seen
  pub fixed : AreBelow (length s.locals) g.fixed

-- what is seen, with a variable more
abbrev pub with_seen : ℕ → Sight → Sight
with_seen n g = record g { seen = n ∷ g.seen }

fits_more : (g : Sight) (n : ℕ) (s : Scene) → AllFit g s.blocks → AllFit (with_seen n g) s.blocks
fits_more g n s h = all_fit_wider g (with_seen n g) s.blocks wider h
  where
    wider : IsWider g (with_seen n g)
    wider = record {
      seen = λ k c. Contains-append_right (n ∷ []) g.seen k c;
      locals = λ k t e. e;
      statics = λ k t e. e;
      functions = λ k f e. e;
      tables = λ k d e. e;
      input = refl;
      free = λ k c f. f;
    }

-- the variables are the same after a statement
pub locals_after : (g : Sight) (m : Stm) → (seen_after g m).locals ≡ g.locals
locals_after g (clear n) = refl
locals_after g (keep p n e) = refl
locals_after g _ = refl

-- the same in a block, and after it
pub sees_opened : (g : Sight) (s : Scene) → Sees g s → Sees g (opened s)
sees_opened g s h = record {
  fit = (tt, h.fit);
  formed = h.formed;
  emits = h.emits;
  numbers = h.numbers;
  fixed = h.fixed;
}

pub sees_closed : (g : Sight) (s inside : Scene) → Sees g s → BeginsWith s.locals inside.locals
    → AreFormed inside.locals → Sees g (closed s inside)
sees_closed g s inside h grows formed = record {
  fit = h.fit;
  formed = formed;
  emits = h.emits;
  numbers = below_more (length s.locals)
      (length inside.locals) g.seen (begins_length s.locals inside.locals grows) h.numbers;
  fixed = below_more (length s.locals)
      (length inside.locals) g.fixed (begins_length s.locals inside.locals grows) h.fixed;
}

-- an expression in a statement has its type
pub judged : (g : Sight) (s : Scene) → Sees g s → (asked : Option Shape) (e : Exp) → IfSome asked IsFormed
    → Holds (judge s asked e) (IsTyped g)
judged g s h asked e ask = subst (λ b. Holds (judge_exp s.blocks b asked e) (IsTyped g)) h.emits
    (expression_typed g s.blocks h.fit asked e ask)

-- ---- a variable more

-- what is known with a variable of this type more
pub record HasVariable (n : Ident) (t : Shape) (s after : Scene) : Type 0 where
  pub locals : after.locals ≡ s.locals ++ t ∷ []
  pub blocks : declare n (variable (length s.locals) t) s.blocks ≡ good after.blocks

pub variable_added : (n : Ident) (t : Shape) (s : Scene) → Holds (with_variable n t s) (HasVariable n t s)
variable_added n t s = bind_holds (known (declare n (variable (length s.locals) t) s.blocks))
    (λ blocks is. ok_holds (HasVariable n t s) (record { blocks = blocks; locals = s.locals ++ t ∷ [] })
    (record { locals = refl; blocks = is }))

-- the variable has its type, and is seen after the statement that declares it
pub record IsAdded (g : Sight) (t : Shape) (s after : Scene) : Type 0 where
  pub here : slice_get g.locals (length s.locals) ≡ Some t
  pub free : IsFree g (length s.locals)
  pub sees : Sees (with_seen (length s.locals) g) after

-- what is known with a variable more is seen after its statement
pub added : (g : Sight) (n : Ident) (t : Shape) (s after : Scene) → HasVariable n t s after → Sees g s → IsFormed t
    → BeginsWith after.locals g.locals → IsAdded g t s after
added g n t s after h sees formed final =
    let more = with_seen (length s.locals) g in
    let here : slice_get g.locals (length s.locals) ≡ Some t =
    get_next s.locals g.locals t (subst (λ x. BeginsWith x g.locals) h.locals final) in
    let is : IsVariable more (length s.locals) t = record {
      readable = record { seen = (0, omega arith, refl); here = here; formed = formed };
      free = is_none (length s.locals) g.fixed sees.fixed;
    } in
    let longer : length after.locals ≡ length s.locals + 1 = ap length h.locals ∙ length-append s.locals (t ∷ []) in
    record {
      here = here;
      free = is_none (length s.locals) g.seen sees.numbers;
      sees = record {
        fit = (declared (Fits more) n (variable (length s.locals) t) s.blocks is
            (fits_more g (length s.locals) s sees.fit)).holds after.blocks h.blocks;
        formed = subst AreFormed (sym h.locals) (formed_more s.locals t sees.formed formed);
        emits = sees.emits;
        numbers = (
          omega (arith, longer),
          below_more (length s.locals) (length after.locals) g.seen (omega (arith, longer)) sees.numbers,
        );
        fixed = below_more (length s.locals) (length after.locals) g.fixed (omega (arith, longer)) sees.fixed;
      };
    }

-- ---- statements

-- the statement is sound, and declares nothing
pub record IsDone (g : Sight) (a : Around) (m : Stm) : Type 0 where
  pub stm : IsStm g a m
  pub same : seen_after g m ≡ g

-- the statement is sound, and can be done between the turns of a `for`
pub record IsSimple (g : Sight) (a : Around) (m : Stm) : Type 0 where
  pub stm : IsStm g a m
  pub between : IsBetweenTurns m

-- such a statement declares nothing
pub simple_done : (g : Sight) (a : Around) (m : Stm) → IsSimple g a m → IsDone g a m
simple_done g a m h = record { stm = h.stm; same = same m h.between }
  where
    same : (m : Stm) → IsBetweenTurns m → seen_after g m ≡ g
    same (store p n steps e) h = refl
    same (evaluate p e) h = refl
    same (block no_stms) h = refl
    same _ h = absurd h

-- the statement is sound wherever the variables go on as they do after it, and what is known after it is seen there
pub record IsSoundHere (g : Sight) (a : Around) (b : Later) : Type 0 where
  pub stm : IsStm g a b.stm
  pub sees : Sees (seen_after g b.stm) b.scene

-- what is known in front goes on after the statement, which is sound
pub record IsLater (a : Around) (s : Scene) (b : Later) : Type 0 where
  pub grows : BeginsWith s.locals b.scene.locals
  pub is_sound : (g : Sight) → Sees g s → BeginsWith b.scene.locals g.locals → IsSoundHere g a b

-- the same of a part statement, after which nothing more is seen
pub record IsSoundPart (g : Sight) (a : Around) (b : Later) : Type 0 where
  pub stm : IsStm g a b.stm
  pub sees : Sees g b.scene

-- the same of a part
pub record IsInside (a : Around) (s : Scene) (b : Later) : Type 0 where
  pub grows : BeginsWith s.locals b.scene.locals
  pub is_sound : (g : Sight) → Sees g s → BeginsWith b.scene.locals g.locals → IsSoundPart g a b

-- the same of statements in order
pub record AreSoundHere (g : Sight) (a : Around) (b : AllAfter) : Type 0 where
  pub stms : AreStms g a b.stms
  pub formed : AreFormed b.scene.locals

-- the same of all
pub record AreAfter (a : Around) (s : Scene) (b : AllAfter) : Type 0 where
  pub grows : BeginsWith s.locals b.scene.locals
  pub are_sound : (g : Sight) → Sees g s → BeginsWith b.scene.locals g.locals → AreSoundHere g a b
