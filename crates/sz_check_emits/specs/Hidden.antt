-- What contracts see of the names that variables hide.
use Rattle.std.specs.Prelude.{ℕ, List, map}
use Rattle.std.specs.Borrow.{Bor}
use Rattle.sz_tree.specs.declared.name.Name.{Name}

-- the names that are lent
abbrev pub hidden_of : List (Bor Name) → List (List ℕ)
hidden_of = map (λ (n : Bor Name). n.now.text)
