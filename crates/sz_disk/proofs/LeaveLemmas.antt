-- How what a crash might have left goes on from call to call.
use Rattle.std.proofs.Common.{◌≡◌, ◌⊎◌, ⊎_elim, inl, inr, ℕ, true, true≢false, List, [], ◌∷◌, Option, Some, None, IfSome, refl, sym, ◌∙◌, subst, arith}
use Rattle.sz_disk.specs.declared.span.Span.{Span}
use Rattle.sz_disk.specs.Crashes.{Torn, Images, untold, told, are_told, MayBe, IsTheImage}
use Rattle.sz_disk.specs.Calls.{MayTear, NoMore, AreAmong, GoesOn}
use Rattle.sz_disk.specs.Crashing.{Rests, AreAll, LeavesOnly, DoesNotFall, WritesNothing}

-- a disk that was synced
pub rests_synced : (bytes : Option (List ℕ)) (may_leave : Images) (held : List ℕ) → bytes ≡ Some held
    → IfSome bytes (IsTheImage may_leave) → Rests bytes may_leave held
rests_synced bytes may_leave held read synced = record {
  read = read;
  only = subst (λ b. IfSome b (IsTheImage may_leave)) read synced;
}

-- a crash leaves the one image, where that is told
pub the_image : (may_leave : Images) (held image : List ℕ) → are_told may_leave ≡ true → IsTheImage may_leave held
    → MayBe may_leave image → image ≡ held
the_image untold held image is_told only left = absurd (true≢false (sym is_told))
the_image (told images) held image is_told only left = only image left

-- a disk at rest stays so while nothing more may be left
no_more_image : (old new : Images) (held : List ℕ) → are_told new ≡ are_told old → NoMore old new
    → IsTheImage old held → IsTheImage new held
no_more_image old untold held same no_more only = tt
no_more_image untold (told images) held same no_more only = absurd (true≢false same)
no_more_image (told others) (told images) held same no_more only = λ image left. only image (no_more image left)

-- what was synced stays so
pub synced_still : (old new : Option (List ℕ)) (before after : Images) → new ≡ old → are_told after ≡ are_told before
    → NoMore before after → IfSome old (IsTheImage before) → IfSome new (IsTheImage after)
synced_still None new before after same told_now no_more synced = subst (λ b. IfSome b (IsTheImage after)) (sym same) tt
synced_still (Some held) new before after same told_now no_more synced =
    subst (λ b. IfSome b (IsTheImage after)) (sym same) (no_more_image before after held told_now no_more synced)

-- a write of a span that was lost leaves what there was
torn_lost : (span : Span) (bytes : List ℕ) → Torn (span ∷ []) bytes bytes
torn_lost span bytes = record { no_shorter = omega arith; no_longer = omega arith; same = λ place lt out. refl }

all_of : (since before : Images) (P : List ℕ → Type 0) → are_told since ≡ are_told before → AreAll before P
    → ((image : List ℕ) → MayBe since image → MayBe before image ⊎ P image) → AreAll since P
all_of untold before P same each from = tt
all_of (told images) untold P same each from = absurd (true≢false same)
all_of (told images) (told others) P same each from = λ image left. ⊎_elim (each image) (λ has. has) (from image left)

all_among : (since now : Images) (P : List ℕ → Type 0) → AreAmong since now
    → ((image : List ℕ) → MayBe now image → P image) → AreAll since P
all_among untold now P are each = tt
all_among (told images) now P are each = λ image left. each image (are image left)

all_if : (since : Images) (P Q : List ℕ → Type 0) → ((image : List ℕ) → P image → Q image) → AreAll since P
    → AreAll since Q
all_if untold P Q follows each = tt
all_if (told images) P Q follows each = λ image left. follows image (each image left)

pub falls_not_refl : (n : ℕ) → DoesNotFall n n
falls_not_refl n = record { later = omega arith; stays = λ e. e }

pub falls_not_both : (a b c : ℕ) → DoesNotFall a b → DoesNotFall b c → DoesNotFall a c
falls_not_both a b c first second = record {
  later = omega (arith, first.later, second.later);
  stays = λ e. second.stays (first.stays e);
}

module _ {D : Type 0} (time : D → ℕ) (left_since : D → ℕ → Images) where
  pub leaves_if : (old new : D) (P Q : List ℕ → Type 0) → ((image : List ℕ) → P image → Q image)
      → LeavesOnly time left_since old new P → LeavesOnly time left_since old new Q
  leaves_if old new P Q follows leaves = record {
    later = leaves.later;
    each = all_if (left_since new (time old)) P Q follows leaves.each;
    nothing_else = λ t image le left.
        ⊎_elim (λ before. inl before) (λ has. inr (follows image has)) (leaves.nothing_else t image le left);
    told_since = leaves.told_since;
  }

  -- two calls, one after the other
  pub leaves_both : (old mid new : D) (P : List ℕ → Type 0) → LeavesOnly time left_since old mid P
      → LeavesOnly time left_since mid new P → LeavesOnly time left_since old new P
  leaves_both old mid new P first second = record {
    later = omega (arith, first.later, second.later);
    each = all_of (left_since new (time old)) (left_since mid (time old)) P (second.told_since (time old)) first.each
        (λ image left. second.nothing_else (time old) image first.later left);
    nothing_else = λ t image le left.
        ⊎_elim (first.nothing_else t image le) (λ has. inr has)
        (second.nothing_else t image (omega (arith, le, first.later)) left);
    told_since = λ t. second.told_since t ∙ first.told_since t;
  }

module _ {D : Type 0} (may_leave : D → Images) (time : D → ℕ) (left_since : D → ℕ → Images) (faults : D → ℕ) where
  -- what a crash at the start may leave has P, and so has what one may leave after a call
  pub leaves_call : (old new : D) (P : List ℕ → Type 0) → AreAmong (left_since old (time old)) (may_leave old)
      → GoesOn may_leave time left_since faults old new → ((image : List ℕ) → MayBe (may_leave old) image → P image)
      → ((image : List ℕ) → MayBe (may_leave new) image → P image) → LeavesOnly time left_since old new P
  leaves_call old new P now on first after = record {
    later = on.later;
    each = all_of (left_since new (time old)) (left_since old (time old)) P (on.told_since (time old))
        (all_among (left_since old (time old)) (may_leave old) P now first)
        (λ image left.
        ⊎_elim (λ before. inl before) (λ left_now. inr (after image left_now))
        (on.nothing_else (time old) image (omega arith) left));
    nothing_else = λ t image le left.
        ⊎_elim (λ before. inl before) (λ left_now. inr (after image left_now)) (on.nothing_else t image le left);
    told_since = on.told_since;
  }

  -- no call
  pub leaves_none : (old : D) (P : List ℕ → Type 0) → AreAmong (left_since old (time old)) (may_leave old)
      → ((image : List ℕ) → MayBe (may_leave old) image → P image) → LeavesOnly time left_since old old P
  leaves_none old P now first = record {
    later = omega arith;
    each = all_among (left_since old (time old)) (may_leave old) P now first;
    nothing_else = λ t image le left. inl left;
    told_since = λ t. refl;
  }

  -- what a write may leave of a disk at rest
  torn_of : (old new : D) (bytes : Option (List ℕ)) (held : List ℕ) (span : Span) → Rests bytes (may_leave old) held
      → are_told (may_leave old) ≡ true → MayTear span (may_leave old) (may_leave new) → (image : List ℕ)
      → MayBe (may_leave new) image → Torn (span ∷ []) held image
  torn_of old new bytes held span rests is_told tears image left =
      let from = tears image left in
      subst (λ (b : List ℕ). Torn (span ∷ []) b image)
      (the_image (may_leave old) held from.0 is_told rests.only from.1) from.2

  -- a write to a disk at rest
  pub leaves_write : (old new : D) (bytes : Option (List ℕ)) (held : List ℕ) (span : Span)
      → AreAmong (left_since old (time old)) (may_leave old) → Rests bytes (may_leave old) held
      → are_told (may_leave old) ≡ true → MayTear span (may_leave old) (may_leave new)
      → GoesOn may_leave time left_since faults old new → LeavesOnly time left_since old new (Torn (span ∷ []) held)
  leaves_write old new bytes held span now rests is_told tears on =
      leaves_call old new (Torn (span ∷ []) held) now on
      (λ image left.
      let is = the_image (may_leave old) held image is_told rests.only left in
      subst (λ (b : List ℕ). Torn (span ∷ []) held b) (sym is) (torn_lost span held))
      (torn_of old new bytes held span rests is_told tears)

  -- and a sync behind it, whatever it answers
  pub leaves_put : (old mid new : D) (bytes : D → Option (List ℕ)) (held : List ℕ) (span : Span)
      → AreAmong (left_since old (time old)) (may_leave old) → Rests (bytes old) (may_leave old) held
      → are_told (may_leave old) ≡ true → MayTear span (may_leave old) (may_leave mid)
      → GoesOn may_leave time left_since faults old mid → WritesNothing bytes may_leave time left_since mid new
      → LeavesOnly time left_since old new (Torn (span ∷ []) held)
  leaves_put old mid new bytes held span now rests is_told tears on synced =
      leaves_both time left_since old mid new (Torn (span ∷ []) held)
      (leaves_write old mid (bytes old) held span now rests is_told tears on)
      (leaves_if time left_since mid new (MayBe (may_leave mid)) (Torn (span ∷ []) held)
      (torn_of old mid (bytes old) held span rests is_told tears) synced.leaves)

module _ {D : Type 0} (bytes : D → Option (List ℕ)) (may_leave : D → Images) (time : D → ℕ)
    (left_since : D → ℕ → Images) (faults : D → ℕ) where
  -- a call that writes nothing
  pub nothing_by_call : (old new : D) → AreAmong (left_since old (time old)) (may_leave old) → bytes new ≡ bytes old
      → NoMore (may_leave old) (may_leave new) → GoesOn may_leave time left_since faults old new
      → WritesNothing bytes may_leave time left_since old new
  nothing_by_call old new now same no_more on = record {
    same = same;
    no_more = no_more;
    told_now = on.told_now;
    leaves = leaves_call may_leave time left_since faults old new (MayBe (may_leave old)) now on
        (λ image left. left) no_more;
  }

  pub nothing_both : (old mid new : D) → WritesNothing bytes may_leave time left_since old mid
      → WritesNothing bytes may_leave time left_since mid new → WritesNothing bytes may_leave time left_since old new
  nothing_both old mid new first second = record {
    same = second.same ∙ first.same;
    no_more = λ image left. first.no_more image (second.no_more image left);
    told_now = second.told_now ∙ first.told_now;
    leaves = leaves_both time left_since old mid new (MayBe (may_leave old)) first.leaves
        (leaves_if time left_since mid new (MayBe (may_leave mid)) (MayBe (may_leave old)) first.no_more second.leaves);
  }

  pub rests_still : (old new : D) (held : List ℕ) → WritesNothing bytes may_leave time left_since old new
      → Rests (bytes old) (may_leave old) held → Rests (bytes new) (may_leave new) held
  rests_still old new held none rests = record {
    read = none.same ∙ rests.read;
    only = no_more_image (may_leave old) (may_leave new) held none.told_now none.no_more rests.only;
  }
