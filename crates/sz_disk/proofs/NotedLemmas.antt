-- What a read gives after a write that was noted may be left by a crash.
use Rattle.std.proofs.Common.{◌≡◌, ◌⊎◌, inl, inr, ◌≤◌, ℕ, List, [], ◌∷◌, length, sym, subst, Result, Ok, Err, OnOk, OnErr}
use Rattle.std.specs.Bool.{⊤}
use Rattle.sz_disk.specs.declared.span.Span.{Span}
use Rattle.sz_disk.specs.declared.record.Record.{Record}
use Rattle.sz_disk.specs.Crashes.{Torn}
use Rattle.sz_disk.specs.Calls.{overwritten}
use Rattle.sz_disk.specs.Stretches.{Writes, LeftBy, at_hand, and_also, Notes}
use Rattle.sz_disk.proofs.TornLemmas.{torn_then, torn_overwritten, torn_split, torn_refl}

pub still_left : (old new : Record) (bytes after : List ℕ) (span : Span) → Notes old new bytes span
    → Torn (span ∷ []) bytes after → LeftBy (at_hand old bytes) bytes → LeftBy (at_hand new after) after
still_left old new bytes after span noted torn left =
    let before = at_hand old bytes in
    subst (λ writes. LeftBy writes after) (sym (noted.one_more after))
    (torn_then before.spans span before.synced bytes after left torn)

-- bytes that were written over, or stayed without memory, are torn in each span that reaches so far
pub torn_by : {E : Type 0} (result : Result ⊤ E) (at count : ℕ) (written old new : List ℕ) → at ≤ length old
    → length written ≤ count → OnOk result (new ≡ overwritten at written old) → OnErr result (new ≡ old)
    → Torn (record { at = at; count = count } ∷ []) old new
torn_by (Ok done) at count written old new within fits ok err =
    subst (Torn (record { at = at; count = count } ∷ []) old) (sym ok)
    (torn_overwritten at count written old within fits)
torn_by (Err e) at count written old new within fits ok err =
    subst (Torn (record { at = at; count = count } ∷ []) old) (sym err) (torn_refl _ old)

-- a crash after a write may leave what one before it might have left, torn in its span
pub noted_tears : (old new : Writes) (span : Span) → (new ≡ and_also old span) ⊎ (new ≡ old) → (image : List ℕ)
    → LeftBy new image → (before : List ℕ) × LeftBy old before × Torn (span ∷ []) before image
noted_tears old new span (inl more) image left =
    torn_split old.spans span old.synced image (subst (λ writes. LeftBy writes image) more left)
noted_tears old new span (inr same) image left =
    (image, subst (λ writes. LeftBy writes image) same left, torn_refl (span ∷ []) image)
