-- Code in the making: what it has so far stays, and more comes after it.
use Rattle.std.specs.Prelude.{◌≡◌, ℕ, zero, suc, List, [], ◌∷◌, ◌++◌, length, Option, Some, None, unwrap_or, if◌then◌else◌, take}
use Rattle.std.specs.List.{list_any}
use Rattle.std.specs.Ordering.{is_eq}
use Rattle.sz_types.specs.Data.{Shape}
use Rattle.sz_types.specs.Same.{alike}
use Rattle.sz_types.specs.declared.place.Place.{Place}
use Rattle.sz_value.specs.Data.{Datum}
use Rattle.sz_value.specs.Order.{compare}
use Rattle.sz_core.specs.Nodes.{Node, Nodes, Pairings}
use Rattle.sz_core.specs.Sound.{BeginsWith}
use Rattle.sz_instr.specs.declared.instr.Instr.{Instr}
use Rattle.sz_instr.specs.declared.instr.Instr.TheVariants.{Jump, Test, AndTest, OrTest, Next, Meets, Fails, MakeMap}
use Rattle.sz_instr.specs.declared.line.Line.{Line}
use Rattle.sz_gen_expr.specs.declared.builder.Builder.{Builder}
use Rattle.sz_gen_expr.specs.declared.mark.Mark.{Mark}
use Rattle.sz_gen_rules.specs.Tables.{Tables, line}
use Rattle.sz_gen_rules.specs.ExpressionCode.{closed, decided, pair_count_of, expression_code, expressions_code, pairings_code}
use Rattle.sz_gen_rules.specs.Named.{HasNames, HaveNames, PairingsHaveNames}

-- constants with one more, unless it is there
abbrev pub with_constant : List Datum → Datum → List Datum
with_constant ds d = if list_any (λ c. is_eq (compare d c)) ds then ds else ds ++ d ∷ []

-- types with one more, unless it is there
abbrev pub with_type : List Shape → Shape → List Shape
with_type ts t = if list_any (λ s. alike s t) ts then ts else ts ++ t ∷ []

-- the instruction with another target, if it has one
abbrev pub with_target : Instr → ℕ → Option Instr
with_target (Jump p) to = Some (Jump to)
with_target (Test p past) to = Some (Test to past)
with_target (AndTest p) to = Some (AndTest to)
with_target (OrTest p) to = Some (OrTest to)
with_target (Next n p) to = Some (Next n to)
with_target (Meets p) to = Some (Meets to)
with_target (Fails p) to = Some (Fails to)
with_target i to = None

-- the test with another place for where it is undefined, if it is a test
abbrev pub with_past : Instr → ℕ → Option Instr
with_past (Test p past) to = Some (Test p to)
with_past i to = None

-- the instruction with this target, if it has one
abbrev pub aimed : Instr → ℕ → Instr
aimed i to = unwrap_or (with_target i to) i

-- the line with another instruction, if there is one
abbrev pub with_instr : Option Instr → Line → Line
with_instr None l = l
with_instr (Some i) l = line i l.charge l.place

-- the lines with the instruction at a place changed to lead to a line, if it can be
abbrev pub changed : (Instr → ℕ → Option Instr) → List Line → ℕ → ℕ → List Line
changed change [] at to = []
changed change (l ∷ lines) zero to = with_instr (change l.instr to) l ∷ lines
changed change (l ∷ lines) (suc at) to = l ∷ changed change lines at to

-- the lines with another target in the one at a place
abbrev pub patched : List Line → ℕ → ℕ → List Line
patched lines at to = changed with_target lines at to

-- the tables of code in the making
abbrev pub tables_made : Builder → Tables
tables_made b = record { constants = b.constants; types = b.types }

-- the tables have at least what others have, under the same numbers
pub record Grows (before after : Tables) : Type 0 where
  pub constants : BeginsWith before.constants after.constants
  pub types : BeginsWith before.types after.types

-- after the lines there is code that begins where they ended. It names what it names by the numbers of all tables
-- that the new ones grow to, and these have what it names.
pub record Appends (old new : Builder) (code : Tables → ℕ → List Line) (named : Tables → Type 0) : Type 0 where
  pub grows : Grows (tables_made old) (tables_made new)
  pub lines : (tables : Tables) → Grows (tables_made new) tables
      → new.lines ≡ old.lines ++ code tables (length old.lines)
  pub names : (tables : Tables) → Grows (tables_made new) tables → named tables
  pub functions : new.functions ≡ old.functions
  pub statics : new.statics ≡ old.statics

-- the line at the place is changed to lead to the next line, if it can be, and all else is as before
pub record LandsBy (change : Instr → ℕ → Option Instr) (old new : Builder) (at : ℕ) : Type 0 where
  pub lines : new.lines ≡ changed change old.lines at (length old.lines)
  pub functions : new.functions ≡ old.functions
  pub statics : new.statics ≡ old.statics
  pub constants : new.constants ≡ old.constants
  pub types : new.types ≡ old.types

-- the line at the place leads to the next line now, if it leads anywhere
abbrev pub Lands : Builder → Builder → ℕ → Type 0
Lands old new at = LandsBy with_target old new at

-- the test at the place leads to the next line now where it is undefined
abbrev pub LandsPast : Builder → Builder → ℕ → Type 0
LandsPast old new at = LandsBy with_past old new at

-- one line more, which may name something
abbrev pub AppendsLine : Builder → Builder → (Tables → Instr) → (charge : ℕ) → Place → (Tables → Type 0) → Type 0
AppendsLine old new instr charge place names =
    Appends old new (λ tables at. line (instr tables) charge place ∷ []) names

-- the code of an expression more
abbrev pub AppendsNode : Builder → Builder → Node → Type 0
AppendsNode old new e = Appends old new (λ tables at. expression_code tables e at) (λ tables. HasNames tables e)

-- the same of expressions
abbrev pub AppendsNodes : Builder → Builder → Nodes → Type 0
AppendsNodes old new es = Appends old new (λ tables at. expressions_code tables es at) (λ tables. HaveNames tables es)

-- the same of keys and values
abbrev pub AppendsPairings : Builder → Builder → Pairings → Type 0
AppendsPairings old new ps =
    Appends old new (λ tables at. pairings_code tables ps at) (λ tables. PairingsHaveNames tables ps)

-- the code of an expression more, and the line that closes it
abbrev pub AppendsClosed : Builder → Builder → Node → Instr → Place → Type 0
AppendsClosed old new e instr place =
    Appends old new (λ tables at. closed (expression_code tables e at) instr place) (λ tables. HasNames tables e)

-- the same of expressions
abbrev pub AppendsList : Builder → Builder → Nodes → Instr → Place → Type 0
AppendsList old new es instr place =
    Appends old new (λ tables at. closed (expressions_code tables es at) instr place) (λ tables. HaveNames tables es)

-- the same of keys and values, of which the line makes a map
abbrev pub AppendsMap : Builder → Builder → Pairings → Place → Type 0
AppendsMap old new ps place =
    Appends old new (λ tables at. closed (pairings_code tables ps at) (MakeMap (pair_count_of ps)) place)
    (λ tables. PairingsHaveNames tables ps)

-- the code of the right operand of `&&` or `||` more, with the test that passes over it
abbrev pub AppendsDecided : Builder → Builder → Instr → Place → Node → Type 0
AppendsDecided old new test place e = Appends old new
    (λ tables at. decided (aimed test) place (expression_code tables e) at) (λ tables. HasNames tables e)

-- names nothing
abbrev pub Nothing : Tables → Type 0
Nothing tables = Unit {0}

-- ---- the way back

-- all that the code in the making had stands in front of what it has now, and no routine began
pub record GoesOn (old new : Builder) : Type 0 where
  pub lines : BeginsWith old.lines new.lines
  pub constants : BeginsWith old.constants new.constants
  pub types : BeginsWith old.types new.types
  pub functions : new.functions ≡ old.functions
  pub statics : new.statics ≡ old.statics

-- whatever it went on from, it goes on from still
abbrev pub StillGoesOn : Builder → Builder → Type 0
StillGoesOn old new = (first : Builder) → GoesOn first old → GoesOn first new

-- how far it has come
abbrev pub mark_of : Builder → Mark
mark_of b = record { lines = length b.lines; constants = length b.constants; types = length b.types }

-- cut back to a mark
abbrev pub cut_to : Mark → Builder → Builder
cut_to m b = record {
  lines = take m.lines b.lines;
  functions = b.functions;
  statics = b.statics;
  constants = take m.constants b.constants;
  types = take m.types b.types;
}
