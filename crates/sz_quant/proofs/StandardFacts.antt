-- Conditions, and what bounds their variables.
use Rattle.std.proofs.Common.{◌≡◌, ℕ, List, [], ◌∷◌, refl, true, false, pos}
use Rattle.std.specs.Prelude.{Option, Some, None, codes}
use Rattle.std.specs.List.{position}
use Rattle.std.specs.Option.{is_none}
use Rattle.sz_types.specs.declared.place.Place.{Place}
use Rattle.sz_tree.specs.declared.operator.BinaryOp.TheVariants as ops
use Rattle.sz_tree.specs.Names.{Ident}
use Rattle.sz_tree.specs.Expressions.{Exp, literal, named, call, def, paren, list, mapping, index, slice, field, binary, number, string, end, more, no_pairs, pair}
use Rattle.sz_quant.specs.Parts.{parts}
use Rattle.sz_quant.specs.Fitting.{BoundForm, bounds_of}

-- ---- expressions, all at one place

abbrev here : Place
here = record { line = 1; column = 1 }

abbrev ident : List ℕ → Ident
ident text = record { place = here; text = text }

abbrev a : Exp
a = named (ident (codes "a"))

abbrev b : Exp
b = named (ident (codes "b"))

abbrev i : Exp
i = named (ident (codes "i"))

abbrev j : Exp
j = named (ident (codes "j"))

abbrev one : Exp
one = literal here (number (pos 1))

-- e[k], and e[k:l]
abbrev element : Exp → Exp → Exp
element e k = index here e k

abbrev from_to : Exp → Exp → Exp → Exp
from_to e k l = slice here e k l

-- bounds by an index and by a slice
abbrev by_index : Exp → Option BoundForm
by_index e = Some (record { base = e; slice = false })

abbrev by_slice : Exp → Option BoundForm
by_slice e = Some (record { base = e; slice = true })

-- one variable, and two
abbrev only_i : List (List ℕ)
only_i = codes "i" ∷ []

abbrev i_and_j : List (List ℕ)
i_and_j = codes "i" ∷ codes "j" ∷ []

abbrev j_and_i : List (List ℕ)
j_and_i = codes "j" ∷ codes "i" ∷ []

-- ---- reading order

-- a[i] + b: the whole, a[i], a, i, b
in_reading_order : parts (binary here ops.Add (element a i) b)
    ≡ binary here ops.Add (element a i) b ∷ element a i ∷ a ∷ i ∷ b ∷ []
in_reading_order = refl

-- ---- variables with a bound

-- a[i] == b[j]
two_arrays : bounds_of i_and_j (binary here ops.Equal (element a i) (element b j)) ≡ by_index a ∷ by_index b ∷ []
two_arrays = refl

-- a[i:j] == "ab": both ends have the same bound
both_ends : bounds_of i_and_j (binary here ops.Equal (from_to a i j) (literal here (string (codes "ab"))))
    ≡ by_slice a ∷ by_slice a ∷ []
both_ends = refl

-- b[i] < b[i + 1]
neighbours : bounds_of only_i (binary here ops.Less (element b i) (element b (binary here ops.Add i one)))
    ≡ by_index b ∷ []
neighbours = refl

-- a[i] && b[i]: the first that fits
the_first : bounds_of only_i (binary here ops.And (element a i) (element b i)) ≡ by_index a ∷ []
the_first = refl

-- a[b[i]:i]: a part comes before its own parts
before_its_own_parts : bounds_of only_i (from_to a (element b i) i) ≡ by_slice a ∷ []
before_its_own_parts = refl

-- a[i][i]: a base that names the variable is none
its_own_name : bounds_of only_i (element (element a i) i) ≡ by_index a ∷ []
its_own_name = refl

-- a.i[i]: the name of a field names no variable
a_field : bounds_of only_i (element (field here a (ident (codes "i"))) i)
    ≡ by_index (field here a (ident (codes "i"))) ∷ []
a_field = refl

-- a[j] && a[j][i]: a base may name an earlier variable
an_earlier_variable : bounds_of j_and_i (binary here ops.And (element a j) (element (element a j) i))
    ≡ by_index a ∷ by_index (element a j) ∷ []
an_earlier_variable = refl

-- def(a[i]), f(a[i]), {a[i]} and {1: a[i]}
within : bounds_of only_i (def here (element a i)) ≡ by_index a ∷ []
within = refl

in_a_call : bounds_of only_i (call (ident (codes "f")) (more (element a i) end)) ≡ by_index a ∷ []
in_a_call = refl

in_a_list : bounds_of only_i (list here (more (element a i) end)) ≡ by_index a ∷ []
in_a_list = refl

in_a_map : bounds_of only_i (mapping here (pair one (element a i) no_pairs)) ≡ by_index a ∷ []
in_a_map = refl

-- ---- variables without one

-- i > 1
no_bound : bounds_of only_i (binary here ops.Greater i one) ≡ None ∷ []
no_bound = refl

-- a[(i)]: the variable doesn't stand alone
in_parentheses : bounds_of only_i (element a (paren here i)) ≡ None ∷ []
in_parentheses = refl

-- a[j] && a[j][i]: a base doesn't name a later variable
a_later_variable : bounds_of i_and_j (binary here ops.And (element a j) (element (element a j) i))
    ≡ None ∷ by_index a ∷ []
a_later_variable = refl

-- i(1)[i]: a call names what it calls
a_call : bounds_of only_i (element (call (ident (codes "i")) (more one end)) i) ≡ None ∷ []
a_call = refl

-- the first without a bound is the one that is named
the_first_lack : position is_none (bounds_of j_and_i (binary here ops.Greater (element a j) i)) ≡ Some 1
the_first_lack = refl
