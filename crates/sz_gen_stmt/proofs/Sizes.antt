-- The sizes of statements, by which the making of their code ends.
use Rattle.std.proofs.Common.{◌≡◌, ℕ, zero, suc, ◌+◌, ◌*◌, ◌<◌, List, [], ◌∷◌, Option, None, Some, length, map, arith, ap, get_or}
use Rattle.sz_core.specs.Statements.{Stm, block, branch, while, do_while, for_loop, when, Stms, no_stms, with_stm, stms_of}
use Rattle.sz_core.specs.declared.stmt.CoreStmt.{CoreStmt}
use Rattle.sz_core.specs.View.{stm_of}

abbrev mutual
  pub stm_size : Stm → ℕ
  stm_size (block ss) = suc (stms_size ss)
  stm_size (branch p e s t) = suc (suc (stm_size s + stm_size t))
  stm_size (while p e s) = suc (suc (suc (stm_size s)))
  stm_size (do_while p s e) = suc (suc (stm_size s))
  stm_size (for_loop p e t s) = suc (suc (suc (stm_size t + stm_size s)))
  stm_size (when p vs c s) = suc (suc (suc (stm_size s + 2 * length vs)))
  stm_size _ = 0

  pub stms_size : Stms → ℕ
  stms_size no_stms = 0
  stms_size (with_stm s ss) = suc (stm_size s + stms_size ss)

-- a statement, where there is one
abbrev pub size_if_any : Option Stm → ℕ
size_if_any None = 0
size_if_any (Some s) = stm_size s

-- a statement among others
pub item_size : (all : List CoreStmt) (i : ℕ) (s : CoreStmt) → i < length all → s ≡ get_or all i s
    → stm_size (stm_of s) < stms_size (stms_of (map stm_of all))
item_size [] i s lt e = absurd (omega arith)
item_size (x ∷ all) zero s lt e = omega (arith, ap (λ (y : CoreStmt). stm_size (stm_of y)) e)
item_size (x ∷ all) (suc i) s lt e = omega (arith, item_size all i s (omega arith) e)
