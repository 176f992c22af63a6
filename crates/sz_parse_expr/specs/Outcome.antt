-- What a function that reads returned, against what reading gives.
use Rattle.std.specs.Prelude.{◌≡◌, ◌≤◌, ℕ, Option, Some, None, Result, Ok, Err}
use Rattle.sz_parse_expr.specs.declared.failed.Failed.{Failed}
use Rattle.sz_parse_expr.specs.declared.failed.Failed.TheVariants as failures
use Rattle.sz_parse_expr.specs.declared.reader.Parsed.{Parsed}
use Rattle.sz_parse_expr.specs.Reading.{Read}

-- nothing is read, unless memory ran out
abbrev pub Fails : {Y : Type 0} → Failed → Option Y → Type 0
Fails failures.Memory read = Unit {0}
Fails failures.Syntax read = read ≡ None

-- the result, seen by view, is what is read, unless memory ran out
abbrev pub Gives : {X Y : Type 0} → (X → Y) → Result X Failed → Option Y → Type 0
Gives view (Ok x) read = read ≡ Some (view x)
Gives view (Err e) read = Fails e read

-- the same where no memory is taken
abbrev pub Sees : {X Y : Type 0} → (X → Y) → Option X → Option Y → Type 0
Sees view (Some x) read = read ≡ Some (view x)
Sees view None read = read ≡ None

-- the height that stands beside what was read is its height, and at most this
pub record Fits {X Y : Type 0} (view : X → Y) (high : Y → ℕ) (most : ℕ) (x : Parsed X) : Type 0 where
  pub measured : x.height ≡ high (view x.tree)
  pub low : x.height ≤ most

-- the result, seen by view, is what is read, with its height, which is at most this, unless memory ran out
abbrev pub Parses : {X Y : Type 0} → (X → Y) → (Y → ℕ) → ℕ → Result (Parsed X) Failed → Read Y → Type 0
Parses view high most (Ok x) read = (read ≡ Some (view x.tree, x.rest.now)) × Fits view high most x
Parses view high most (Err e) read = Fails e read
