-- Which part of a condition bounds a quantified variable. Variables are a list, the one whose bound is looked for
-- first and then the later ones.
use Rattle.std.specs.Prelude.{ℕ, List, [], ◌∷◌, ◌||◌, Bool, true, false, if◌then◌else◌, Option, Some, None, bytes_eq}
use Rattle.std.specs.List.{list_any, filter_map, slice_get}
use Rattle.sz_tree.specs.Expressions.{Exp, named, call, index, slice}
use Rattle.sz_quant.specs.Parts.{parts}

-- what bounds a variable: the expression in front of the brackets, and whether the brackets are those of a slice
pub record BoundForm : Type 0 where
  pub base : Exp
  pub slice : Bool

-- a list of names has this one
abbrev pub has_name : List ℕ → List (List ℕ) → Bool
has_name name names = list_any (λ other. bytes_eq other name) names

-- the expression is the first of the variables, standing alone
abbrev pub is_first : List (List ℕ) → Exp → Bool
is_first (v ∷ later) (named n) = bytes_eq v n.text
is_first variables e = false

-- the expression is one of the variables, or a call by the name of one
abbrev pub is_one_of : List (List ℕ) → Exp → Bool
is_one_of variables (named n) = has_name n.text variables
is_one_of variables (call n es) = has_name n.text variables
is_one_of variables e = false

-- the expression names one of the variables: some part of it is one, or calls by its name; the name of a field is
-- neither
abbrev pub names_one_of : List (List ℕ) → Exp → Bool
names_one_of variables e = list_any (is_one_of variables) (parts e)

-- the bound with this base, unless that names one of the variables
abbrev pub unnamed : List (List ℕ) → Exp → Bool → Option BoundForm
unnamed variables base in_slice =
    if names_one_of variables base then None else Some (record { base = base; slice = in_slice })

-- the expression as a bound of the first of the variables, where it fits: the variable stands alone as the index or
-- as an end of the slice, and what is indexed or sliced names neither it nor a later variable
abbrev pub fit : List (List ℕ) → Exp → Option BoundForm
fit variables (index p base i) = if is_first variables i then unnamed variables base false else None
fit variables (slice p base i j) =
    if is_first variables i || is_first variables j then unnamed variables base true else None
fit variables e = None

-- the first of the parts that fits the first of the variables, as its bound
abbrev pub first_fit : List (List ℕ) → List Exp → Option BoundForm
first_fit variables es = slice_get (filter_map (fit variables) es) 0

-- the bound of each variable of a condition, where it has one
abbrev pub bounds_of : List (List ℕ) → Exp → List (Option BoundForm)
bounds_of [] condition = []
bounds_of (v ∷ later) condition = first_fit (v ∷ later) (parts condition) ∷ bounds_of later condition
