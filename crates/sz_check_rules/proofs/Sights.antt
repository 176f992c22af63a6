-- When what the blocks say of names is true of what is seen.
use Rattle.std.proofs.Common.{◌≡◌, ℕ, true, List, Some, sym, ◌∙◌}
use Rattle.std.specs.Prelude.{slice_get, IfSome}
use Rattle.std.specs.List.{Contains}
use Rattle.sz_types.specs.Data.{Shape}
use Rattle.sz_types.specs.Tables.{Declaration}
use Rattle.sz_core.specs.Programs.{Signature}
use Rattle.sz_core.specs.Typing.{Sight}
pub use Rattle.sz_core.proofs.ForCallers.{IsFormed, AreFormed}
use Rattle.sz_check_rules.specs.Names.{Block, Meaning, variable, quantified, static, type_name, table, function, predeclared, input}
use Rattle.sz_check_rules.proofs.Meanings.{Mean, all_follow}

-- a function with this number is seen, which has this signature
pub record IsCalled (g : Sight) (n : ℕ) (s : Signature) : Type 0 where
  pub here : slice_get g.functions n ≡ Some s
  pub takes : AreFormed s.parameters
  pub gives : IsFormed s.result

-- a variable with this number is seen, and has this type
pub record IsReadable (g : Sight) (n : ℕ) (t : Shape) : Type 0 where
  pub seen : Contains g.seen n
  pub here : slice_get g.locals n ≡ Some t
  pub formed : IsFormed t

-- it can be assigned, too
pub record IsVariable (g : Sight) (n : ℕ) (t : Shape) : Type 0 where
  pub readable : IsReadable g n t
  pub free : Contains g.fixed n → ⊥

-- a static with this number is seen, and has this type
pub record IsStaticOf (g : Sight) (n : ℕ) (t : Shape) : Type 0 where
  pub here : slice_get g.statics n ≡ Some t
  pub formed : IsFormed t

-- a table with this number is seen, and is so declared
pub record IsTableOf (g : Sight) (n : ℕ) (d : Declaration) : Type 0 where
  pub here : slice_get g.tables n ≡ Some d
  pub indexes : AreFormed d.indexes
  pub element : IsFormed d.element
  pub weight : IfSome d.weight IsFormed

-- what a name stands for is true of what is seen
abbrev pub Fits : Sight → Meaning → Type 0
Fits g (variable n t) = IsVariable g n t
Fits g (quantified n t) = IsReadable g n t
Fits g (static n t) = IsStaticOf g n t
Fits g (type_name t) = IsFormed t
Fits g (table n d) = IsTableOf g n d
Fits g (function n s) = IsCalled g n s
Fits g (predeclared b) = Unit {0}
Fits g input = g.input ≡ true

-- so is all that the blocks say
abbrev pub AllFit : Sight → List Block → Type 0
AllFit g blocks = Mean (Fits g) blocks

-- what is seen in the first is seen in the second, and can be assigned there if it can be in the first
pub record IsWider (g h : Sight) : Type 0 where
  pub seen : (n : ℕ) → Contains g.seen n → Contains h.seen n
  pub locals : (n : ℕ) (t : Shape) → slice_get g.locals n ≡ Some t → slice_get h.locals n ≡ Some t
  pub statics : (n : ℕ) (t : Shape) → slice_get g.statics n ≡ Some t → slice_get h.statics n ≡ Some t
  pub functions : (n : ℕ) (s : Signature) → slice_get g.functions n ≡ Some s → slice_get h.functions n ≡ Some s
  pub tables : (n : ℕ) (d : Declaration) → slice_get g.tables n ≡ Some d → slice_get h.tables n ≡ Some d
  pub input : g.input ≡ h.input
  pub free : (n : ℕ) → Contains g.seen n → Contains h.fixed n → Contains g.fixed n

readable_wider : (g h : Sight) → IsWider g h → (n : ℕ) (t : Shape) → IsReadable g n t → IsReadable h n t
readable_wider g h w n t r = record { seen = w.seen n r.seen; here = w.locals n t r.here; formed = r.formed }

-- what is true of what is seen is true where more is seen
pub fits_wider : (g h : Sight) → IsWider g h → (m : Meaning) → Fits g m → Fits h m
fits_wider g h w (variable k t) f =
    record { readable = readable_wider g h w k t f.readable; free = λ fixed. f.free (w.free k f.readable.seen fixed) }
fits_wider g h w (quantified k t) f = readable_wider g h w k t f
fits_wider g h w (static k t) f = record { here = w.statics k t f.here; formed = f.formed }
fits_wider g h w (type_name t) f = f
fits_wider g h w (table k d) f = record {
  here = w.tables k d f.here;
  indexes = f.indexes;
  element = f.element;
  weight = f.weight;
}
fits_wider g h w (function k s) f = record { here = w.functions k s f.here; takes = f.takes; gives = f.gives }
fits_wider g h w (predeclared b) f = tt
fits_wider g h w input f = sym w.input ∙ f

pub all_fit_wider : (g h : Sight) (blocks : List Block) → IsWider g h → AllFit g blocks → AllFit h blocks
all_fit_wider g h blocks w f = all_follow (Fits g) (Fits h) (fits_wider g h w) blocks f
