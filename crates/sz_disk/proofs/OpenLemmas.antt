-- How the two writes of an entry and its gate follow each other.
use Rattle.std.proofs.Common.{◌≡◌, inl, inr, ℕ, ◌+◌, List, [], ◌∷◌, ◌++◌, length, drop, get_or, Option, Some, IfSome, ◌∙◌, ap}
use Rattle.sz_disk.specs.Crashes.{Torn, Images, IsTheImage}
use Rattle.sz_disk.specs.Calls.{overwritten, overwrites}
use Rattle.sz_disk.specs.Crashing.{Rests, LeavesOnly}
use Rattle.sz_disk.specs.Gates.{IsBeforeOrBehind}
use Rattle.sz_disk.proofs.LeaveLemmas.{rests_synced, leaves_if, leaves_both}
use Rattle.sz_disk.proofs.GateLemmas.{torn_behind, written_behind, torn_gate}

-- what a read gives after a write
pub overwrites_some : (old new : Option (List ℕ)) (at : ℕ) (written held : List ℕ) → old ≡ Some held
    → new ≡ overwrites at written old → new ≡ Some (overwritten at written held)
overwrites_some old new at written held read is = is ∙ ap (λ (b : Option (List ℕ)). overwrites at written b) read

module _ (front : List ℕ) (gate : ℕ) (rest written : List ℕ) (at : ℕ) (here : at ≡ length front) where
  abbrev file : List ℕ
  file = front ++ gate ∷ rest

  -- what stands behind what was written
  abbrev pub behind : List ℕ
  behind = drop (at + 1 + length written) file

  abbrev pub staged : List ℕ
  staged = front ++ gate ∷ (written ++ behind)

  pub staged_rests : (old new : Option (List ℕ)) (may_leave : Images) → old ≡ Some file
      → new ≡ overwrites (at + 1) written old → IfSome new (IsTheImage may_leave) → Rests new may_leave staged
  staged_rests old new may_leave read is synced =
      rests_synced new may_leave staged
      (overwrites_some old new (at + 1) written file read is
      ∙ ap (λ (l : List ℕ). Some l) (written_behind front gate rest at here written)) synced

  module _ {D : Type 0} (time : D → ℕ) (left_since : D → ℕ → Images) where
    pub leaves_behind : (old mid : D)
        → LeavesOnly time left_since old mid (Torn (record { at = at + 1; count = length written } ∷ []) file)
        → LeavesOnly time left_since old mid (IsBeforeOrBehind front gate written)
    leaves_behind old mid leaves =
        leaves_if time left_since old mid (Torn (record { at = at + 1; count = length written } ∷ []) file)
        (IsBeforeOrBehind front gate written)
        (λ image torn. inl (record {
          behind = drop (at + 1) image;
          is = torn_behind front gate rest at here (length written) image torn;
        })) leaves

    pub leaves_open : (old mid new : D)
        → LeavesOnly time left_since old mid (Torn (record { at = at + 1; count = length written } ∷ []) file)
        → LeavesOnly time left_since mid new (Torn (record { at = at; count = 1 } ∷ []) staged)
        → LeavesOnly time left_since old new (IsBeforeOrBehind front gate written)
    leaves_open old mid new first second =
        leaves_both time left_since old mid new (IsBeforeOrBehind front gate written) (leaves_behind old mid first)
        (leaves_if time left_since mid new (Torn (record { at = at; count = 1 } ∷ []) staged)
        (IsBeforeOrBehind front gate written)
        (λ image torn. inr (record {
          gate = get_or image at 0;
          behind = behind;
          is = torn_gate front gate (written ++ behind) at here image torn;
        })) second)
