-- Code in the making that is cut back to what it was.
use Rattle.std.proofs.Common.{◌≡◌, ◌∙◌, ℕ, zero, suc, ◌≤◌, List, [], ◌∷◌, ◌++◌, length, take, Option, refl, sym, ap, subst, append-nil, length-append, arith}
use Rattle.std.proofs.Math.Seq.{take-append_seam}
use Rattle.sz_core.specs.Sound.{BeginsWith}
use Rattle.sz_instr.specs.declared.instr.Instr.{Instr}
use Rattle.sz_instr.specs.declared.line.Line.{Line}
use Rattle.sz_gen_expr.specs.declared.builder.Builder.{Builder}
use Rattle.sz_gen_expr.specs.declared.mark.Mark.{Mark}
use Rattle.sz_gen_expr.specs.Building.{changed, LandsBy, GoesOn, StillGoesOn, mark_of, cut_to}
use Rattle.sz_gen_expr.proofs.Builds.{begins_itself, begins_on}

-- each list as before
pub as_before : (old new : Builder) → new.lines ≡ old.lines → new.functions ≡ old.functions → new.statics ≡ old.statics
    → new.constants ≡ old.constants → new.types ≡ old.types → new ≡ old
as_before old new lines functions statics constants types = λ j. record {
  lines = lines j;
  functions = functions j;
  statics = statics j;
  constants = constants j;
  types = types j;
}

pub begins_same : {A : Type 0} (xs ys : List A) → ys ≡ xs → BeginsWith xs ys
begins_same xs ys same = ([], same ∙ sym (append-nil xs))

goes_on_itself : (b : Builder) → GoesOn b b
goes_on_itself b = record {
  lines = begins_itself b.lines;
  constants = begins_itself b.constants;
  types = begins_itself b.types;
  functions = refl;
  statics = refl;
}

goes_on_on : {a b c : Builder} → GoesOn a b → GoesOn b c → GoesOn a c
goes_on_on {a} {b} {c} h k = record {
  lines = begins_on a.lines b.lines c.lines h.lines k.lines;
  constants = begins_on a.constants b.constants c.constants h.constants k.constants;
  types = begins_on a.types b.types c.types h.types k.types;
  functions = k.functions ∙ h.functions;
  statics = k.statics ∙ h.statics;
}

-- more lines, or constants, or types
pub still : {old new : Builder} → GoesOn old new → StillGoesOn old new
still h = λ first g. goes_on_on g h

-- all as before
pub still_same : (old new : Builder) → new.lines ≡ old.lines → new.functions ≡ old.functions → new.statics ≡ old.statics
    → new.constants ≡ old.constants → new.types ≡ old.types → StillGoesOn old new
still_same old new lines functions statics constants types = still (record {
  lines = begins_same old.lines new.lines lines;
  constants = begins_same old.constants new.constants constants;
  types = begins_same old.types new.types types;
  functions = functions;
  statics = statics;
})

-- a line more
pub still_longer : (old new : Builder) (l : Line) → new.lines ≡ old.lines ++ l ∷ [] → new.functions ≡ old.functions
    → new.statics ≡ old.statics → new.constants ≡ old.constants → new.types ≡ old.types → StillGoesOn old new
still_longer old new l lines functions statics constants types = still (record {
  lines = (l ∷ [], lines);
  constants = begins_same old.constants new.constants constants;
  types = begins_same old.types new.types types;
  functions = functions;
  statics = statics;
})

-- constants more
pub more_constants : (old new : Builder) → BeginsWith old.constants new.constants → new.lines ≡ old.lines
    → new.functions ≡ old.functions → new.statics ≡ old.statics → new.types ≡ old.types → StillGoesOn old new
more_constants old new constants lines functions statics types = still (record {
  lines = begins_same old.lines new.lines lines;
  constants = constants;
  types = begins_same old.types new.types types;
  functions = functions;
  statics = statics;
})

-- types more
pub more_types : (old new : Builder) → BeginsWith old.types new.types → new.lines ≡ old.lines
    → new.functions ≡ old.functions → new.statics ≡ old.statics → new.constants ≡ old.constants → StillGoesOn old new
more_types old new types lines functions statics constants = still (record {
  lines = begins_same old.lines new.lines lines;
  constants = begins_same old.constants new.constants constants;
  types = types;
  functions = functions;
  statics = statics;
})

-- a line behind the front is given a target
module _ (change : Instr → ℕ → Option Instr) where
  changed_behind : (front rest : List Line) (at to : ℕ) → length front ≤ at
      → BeginsWith front (changed change (front ++ rest) at to)
  changed_behind [] rest at to h = (changed change rest at to, refl)
  changed_behind (l ∷ front) rest zero to h = absurd (omega (arith, h))
  changed_behind (l ∷ front) rest (suc at) to h =
      let so = changed_behind front rest at to (omega (arith, h)) in
      (so.0, ap (λ ls. l ∷ ls) so.1)

pub landed_behind : {change : Instr → ℕ → Option Instr} {first old new : Builder} {at : ℕ} → length first.lines ≤ at
    → LandsBy change old new at → GoesOn first old → GoesOn first new
landed_behind {change} {first} {old} {new} {at} behind h g =
    let so = changed_behind change first.lines g.lines.0 at (length old.lines) behind in
    record {
      lines = (so.0, h.lines ∙ ap (λ ls. changed change ls at (length old.lines)) g.lines.1 ∙ so.1);
      constants = subst (BeginsWith first.constants) (sym h.constants) g.constants;
      types = subst (BeginsWith first.types) (sym h.types) g.types;
      functions = h.functions ∙ g.functions;
      statics = h.statics ∙ g.statics;
    }

-- a line that comes next stands behind what the code goes on from
pub behind : {first old : Builder} {at : ℕ} → at ≡ length old.lines → GoesOn first old → length first.lines ≤ at
behind {first} {old} {at} is g = omega (arith, is, ap length g.lines.1, length-append first.lines g.lines.0)

cut_list : {A : Type 0} (xs ys : List A) → BeginsWith xs ys → take (length xs) ys ≡ xs
cut_list xs ys h = ap (take (length xs)) h.1 ∙ take-append_seam xs h.0

-- what goes on from code is that code again, once cut back to where it was
pub undone : {old between new : Builder} {mark : Mark} → mark ≡ mark_of old → StillGoesOn old between
    → new ≡ cut_to mark between → new ≡ old
undone {old} {between} {new} {mark} marked keeps cut =
    let g = keeps old (goes_on_itself old) in
    cut ∙ ap (λ m. cut_to m between) marked
    ∙ as_before old (cut_to (mark_of old) between) (cut_list old.lines between.lines g.lines) g.functions g.statics
    (cut_list old.constants between.constants g.constants) (cut_list old.types between.types g.types)
