-- What a crash since a time might have left, before and after a call.
use Rattle.std.proofs.Common.{◌≡◌, ◌⊎◌, ⊎_elim, inl, inr, ℕ, zero, suc, ◌-◌, ◌^◌, ◌≤◌, List, [], ◌∷◌, ◌++◌, length, drop, refl, sym, ap, subst, arith}
use Rattle.std.proofs.Common.{length-append}
use Rattle.sz_disk.specs.declared.span.Span.{Span}
use Rattle.sz_disk.specs.Stretches.{Writes, LeftBy, MightHaveLeft, and_also}
use Rattle.sz_disk.specs.MemDisk.{writes_since, ended_stretches, disk_faults, DiskGoesOn}
use Rattle.sz_disk.specs.declared.mem_disk.MemDisk.{MemDisk}
use Rattle.sz_disk.proofs.TornLemmas.{torn_more}

drop_push : (t : ℕ) (ended : List Writes) (last : Writes) → t ≤ length ended
    → drop t (ended ++ last ∷ []) ≡ drop t ended ++ last ∷ []
drop_push zero ended last le = refl
drop_push (suc t) [] last le = absurd (omega arith)
drop_push (suc t) (writes ∷ ended) last le = drop_push t ended last (omega arith)

either : (ended : List Writes) (last : Writes) (image : List ℕ) → MightHaveLeft (ended ++ last ∷ []) image
    → MightHaveLeft ended image ⊎ LeftBy last image
either [] last image (inl here) = inr here
either [] last image (inr none) = absurd none
either (writes ∷ ended) last image (inl here) = inl (inl here)
either (writes ∷ ended) last image (inr later) =
    ⊎_elim (λ before. inl (inr before)) (λ new. inr new) (either ended last image later)

earlier : (ended : List Writes) (last : Writes) (image : List ℕ) → MightHaveLeft ended image
    → MightHaveLeft (ended ++ last ∷ []) image
earlier [] last image none = absurd none
earlier (writes ∷ ended) last image (inl here) = inl here
earlier (writes ∷ ended) last image (inr later) = inr (earlier ended last image later)

newest : (ended : List Writes) (last : Writes) (image : List ℕ) → LeftBy last image
    → MightHaveLeft (ended ++ last ∷ []) image
newest [] last image left = inl left
newest (writes ∷ ended) last image left = inr (newest ended last image left)

-- a crash since the time might have left this
abbrev Since : List Writes → Writes → ℕ → List ℕ → Type 0
Since ended now t image = LeftBy now image ⊎ MightHaveLeft (drop t ended) image

sync_else : (ended : List Writes) (now after : Writes) (t : ℕ) (image : List ℕ) → t ≤ length ended
    → Since (ended ++ now ∷ []) after t image → Since ended now t image ⊎ LeftBy after image
sync_else ended now after t image le (inl left) = inr left
sync_else ended now after t image le (inr before) =
    let parts = either (drop t ended) now image
    (subst (λ (l : List Writes). MightHaveLeft l image) (drop_push t ended now le) before) in
    inl (⊎_elim (λ old. inr old) (λ last. inl last) parts)

sync_lost : (ended : List Writes) (now after : Writes) (t : ℕ) (image : List ℕ) → t ≤ length ended
    → Since ended now t image → Since (ended ++ now ∷ []) after t image
sync_lost ended now after t image le since =
    let joined = ⊎_elim (newest (drop t ended) now image) (earlier (drop t ended) now image) since in
    inr (subst (λ (l : List Writes). MightHaveLeft l image) (sym (drop_push t ended now le)) joined)

written_lost : (ended : List Writes) (now : Writes) (span : Span) (t : ℕ) (image : List ℕ) → Since ended now t image
    → Since ended (and_also now span) t image
written_lost ended now span t image (inl left) = inl (torn_more now.spans span now.synced image left)
written_lost ended now span t image (inr before) = inr before

moved : (w v : Writes) (e f : List Writes) (t : ℕ) (image : List ℕ) → w ≡ v → e ≡ f → Since e w t image
    → Since f v t image
moved w v e f t image same_writes same_ended since =
    subst (λ x. Since f x t image) same_writes (subst (λ x. Since x w t image) same_ended since)

module _ (old new : MemDisk) (later : disk_faults old ≤ disk_faults new)
    (stay : disk_faults old ≡ 2 ^ 64 - 1 → disk_faults new ≡ 2 ^ 64 - 1) where
  -- the record says the same
  pub goes_on_same : writes_since new ≡ writes_since old → ended_stretches new ≡ ended_stretches old
      → DiskGoesOn old new
  goes_on_same same_writes same_ended = record {
    later = omega (arith, ap length same_ended);
    nothing_else = λ t image le left. inl (moved _ _ _ _ t image same_writes same_ended left);
    nothing_lost = λ t image le left. moved _ _ _ _ t image (sym same_writes) (sym same_ended) left;
    told_now = refl;
    told_since = λ t. refl;
    faults_later = later;
    faults_stay = stay;
  }

  -- a write was noted
  pub goes_on_written : (span : Span) → writes_since new ≡ and_also (writes_since old) span
      → ended_stretches new ≡ ended_stretches old → DiskGoesOn old new
  goes_on_written span more same_ended = record {
    later = omega (arith, ap length same_ended);
    nothing_else = λ t image le left. ⊎_elim (λ now. inr now)
        (λ before. inl (moved (writes_since old) _ _ _ t image refl same_ended (inr before))) left;
    nothing_lost = λ t image le left.
        moved _ _ _ _ t image (sym more) (sym same_ended)
        (written_lost (ended_stretches old) (writes_since old) span t image left);
    told_now = refl;
    told_since = λ t. refl;
    faults_later = later;
    faults_stay = stay;
  }

  -- a sync has ended a stretch
  pub goes_on_synced : ended_stretches new ≡ ended_stretches old ++ writes_since old ∷ [] → DiskGoesOn old new
  goes_on_synced more =
      let now = writes_since old in
      let after = writes_since new in
      record {
        later = omega (arith, ap length more, length-append (ended_stretches old) (now ∷ []));
        nothing_else = λ t image le left.
            sync_else (ended_stretches old) now after t image le (moved after after _ _ t image refl more left);
        nothing_lost = λ t image le left.
            moved after after _ _ t image refl (sym more) (sync_lost (ended_stretches old) now after t image le left);
        told_now = refl;
        told_since = λ t. refl;
        faults_later = later;
        faults_stay = stay;
      }
