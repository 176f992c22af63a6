-- Types by their levels.
use Rattle.std.proofs.Common.{◌≡◌, Bool, true, false, sym, refl}
use Rattle.std.specs.Prelude.{◌↔◌, IsTrue}
use Rattle.sz_types.specs.Data.{Shape}
use Rattle.sz_types.specs.Same.{alike}
use Rattle.sz_types.proofs.ForCallers.{alike_equal, alike_itself}

by_test : (c : Bool) (s t : Shape) → alike s t ≡ c → (s ≡ t → IsTrue false) → false ≡ c
by_test true s t e h = h (alike_equal s t e)
by_test false s t e h = refl

-- a test of equality is that of being alike
pub alike_when : (b : Bool) (s t : Shape) → IsTrue b ↔ (s ≡ t) → b ≡ alike s t
alike_when true s t h = rw (h.0 refl) (sym (alike_itself t))
alike_when false s t h = by_test (alike s t) s t refl h.1
