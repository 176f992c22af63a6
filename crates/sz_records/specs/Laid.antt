-- What the functions on laid records promise each other.
use Rattle.std.specs.Prelude.{◌≡◌, ℕ, ◌+◌, ◌*◌, List, ◌∷◌, length, get_or}
use Rattle.sz_records.specs.declared.laid.Laid.{Laid}
use Rattle.sz_records.specs.Ends.{laid_ends}

-- the records are laid so with the next one too
pub record Continues (laid : Laid) (ends placed : List ℕ) (next all : Laid) : Type 0 where
  pub alone : length placed ≡ 0
  pub same : laid_ends all.from all.more 0 ends ≡ laid_ends laid.from laid.more 0 ends
  pub more : all.more ≡ next.more
  pub reached : all.from + get_or (0 ∷ ends) (length ends) 0 + all.more * length ends ≡ next.from
