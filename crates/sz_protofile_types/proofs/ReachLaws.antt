-- Whether a message reaches another is decided, and how many fields stand in messages that it reaches is a rank.
use Rattle.std.proofs.Common.{◌≡◌, ◌⊎◌, inl, inr, ℕ, zero, suc, ◌+◌, ◌<◌, ◌≤◌, Bool, true, false, if◌then◌else◌, List, [], ◌∷◌, ◌++◌, length, map, get_or}
use Rattle.std.proofs.Common.{Option, Some, None, bytes_eq, refl, sym, ap, subst, ◌∙◌, arith}
use Rattle.std.specs.Prelude.{slice_index_or}
use Rattle.std.specs.List.{Contains}
use Rattle.std.specs.Option.{option_map, option_map_or}
use Rattle.std.proofs.lemmas.List.Elements.{Contains-append_left, Contains-append_right}
use Rattle.std.proofs.lemmas.Slice.Eq.{bytes_eq-Decides}
use Rattle.sz_protofile.specs.declared.field.Plain.{Plain}
use Rattle.sz_protofile.specs.declared.field.FieldIn.{FieldIn}
use Rattle.sz_protofile.specs.declared.field.Sort.{Sort}
use Rattle.sz_protofile.specs.declared.field.Sort.TheVariants as sorts
use Rattle.sz_protofile.specs.Fields.{Reaches, itself, further}
use Rattle.sz_scope.specs.Names.{place_of}
use Rattle.sz_protofile_types.specs.Ranks.{Ranking, ranking, rank, IsRanking}

same_message : (m n : List ℕ) → sorts.Message m ≡ sorts.Message n → m ≡ n
same_message m n e = cc

unkept_message : (m : List ℕ) → sorts.Unkept ≡ sorts.Message m → ⊥
unkept_message m e = absurd cc

kept_message : (p : Plain) (m : List ℕ) → sorts.Kept p ≡ sorts.Message m → ⊥
kept_message p m e = absurd cc

-- ---- ways

along : (fields : List FieldIn) (a b c : List ℕ) → Reaches fields a b → Reaches fields b c → Reaches fields a c
along fields _ _ c (itself m) s = s
along fields _ _ c (further f m n d e r) s = further f m c d e (along fields m n c r s)

with_more : (f : FieldIn) (fields : List FieldIn) (a b : List ℕ) → Reaches fields a b → Reaches (f ∷ fields) a b
with_more f fields _ _ (itself m) = itself m
with_more f fields _ _ (further g m n d e r) =
    further g m n (suc d.0, omega (arith, d.1), d.2) e (with_more f fields m n r)

-- a field is the first one, or one of the others
first_or_other : (f : FieldIn) (fields : List FieldIn) (g : FieldIn) → Contains (f ∷ fields) g
    → (f ≡ g) ⊎ Contains fields g
first_or_other f fields g c = by c.0 c.1 c.2
  where
    by : (i : ℕ) → i < suc (length fields) → get_or (f ∷ fields) i g ≡ g → (f ≡ g) ⊎ Contains fields g
    by zero l is = inl is
    by (suc i) l is = inr (i, omega (arith, l), is)

-- a way that may take the first field, which is to the message t: it takes it once, or not at all
abbrev OnceThrough : FieldIn → List FieldIn → List ℕ → List ℕ → List ℕ → Type 0
OnceThrough f fields t a b = Reaches fields a b ⊎ (Reaches fields a f.owner × Reaches fields t b)

module _ (f : FieldIn) (fields : List FieldIn) where
  one_step : (t m n : List ℕ) (g : FieldIn) → f.sort ≡ sorts.Message t → g.sort ≡ sorts.Message m
      → (f ≡ g) ⊎ Contains fields g → OnceThrough f fields t m n → OnceThrough f fields t g.owner n
  one_step t m n g is e (inl same) (inl w) =
      let there : m ≡ t = same_message m t (sym e ∙ ap (λ (x : FieldIn). x.sort) (sym same) ∙ is) in
      inr (
        subst (λ x. Reaches fields x f.owner) (ap (λ (x : FieldIn). x.owner) same) (itself f.owner),
        subst (λ x. Reaches fields x n) there w,
      )
  one_step t m n g is e (inl same) (inr w) =
      inr (subst (λ x. Reaches fields x f.owner) (ap (λ (x : FieldIn). x.owner) same) (itself f.owner), w.1)
  one_step t m n g is e (inr c) (inl w) = inl (further g m n c e w)
  one_step t m n g is e (inr c) (inr w) = inr (further g m f.owner c e w.0, w.1)

  once_through : (t a b : List ℕ) → f.sort ≡ sorts.Message t → Reaches (f ∷ fields) a b → OnceThrough f fields t a b
  once_through t _ _ is (itself m) = inl (itself m)
  once_through t _ _ is (further g m n c e r) =
      one_step t m n g is e (first_or_other f fields g c) (once_through t m n is r)

  not_through : (a b : List ℕ) → ((t : List ℕ) → f.sort ≡ sorts.Message t → ⊥) → Reaches (f ∷ fields) a b
      → Reaches fields a b
  not_through _ _ never (itself m) = itself m
  not_through _ _ never (further g m n c e r) = by (first_or_other f fields g c) (not_through m n never r)
    where
      by : (f ≡ g) ⊎ Contains fields g → Reaches fields m n → Reaches fields g.owner n
      by (inl same) w = absurd (never m (ap (λ (x : FieldIn). x.sort) same ∙ e))
      by (inr d) w = further g m n d e w

  through : (t a b : List ℕ) → f.sort ≡ sorts.Message t → Reaches fields a f.owner → Reaches fields t b
      → Reaches (f ∷ fields) a b
  through t a b is before after =
      along (f ∷ fields) a f.owner b (with_more f fields a f.owner before)
      (further f t b (0, omega arith, refl) is (with_more f fields t b after))

-- whether a message reaches another
abbrev pub Decided : List FieldIn → List ℕ → List ℕ → Type 0
Decided fields a b = Reaches fields a b ⊎ (Reaches fields a b → ⊥)

no_field : (a b : List ℕ) → Reaches [] a b → a ≡ b
no_field _ _ (itself m) = refl
no_field _ _ (further f m n c e r) = absurd (omega (arith, c.1))

decided_first : (f : FieldIn) (fields : List FieldIn) (t a b : List ℕ) → f.sort ≡ sorts.Message t → Decided fields a b
    → Decided fields a f.owner → Decided fields t b → Decided (f ∷ fields) a b
decided_first f fields t a b is (inl w) x y = inl (with_more f fields a b w)
decided_first f fields t a b is (inr n) (inl x) (inl y) = inl (through f fields t a b is x y)
decided_first f fields t a b is (inr n) (inr x) y = inr (λ w. by (once_through f fields t a b is w))
  where
    by : OnceThrough f fields t a b → ⊥
    by (inl v) = n v
    by (inr v) = x v.0
decided_first f fields t a b is (inr n) x (inr y) = inr (λ w. by (once_through f fields t a b is w))
  where
    by : OnceThrough f fields t a b → ⊥
    by (inl v) = n v
    by (inr v) = y v.1

decided_other : (f : FieldIn) (fields : List FieldIn) (a b : List ℕ) → ((t : List ℕ) → f.sort ≡ sorts.Message t → ⊥)
    → Decided fields a b → Decided (f ∷ fields) a b
decided_other f fields a b never (inl w) = inl (with_more f fields a b w)
decided_other f fields a b never (inr n) = inr (λ w. n (not_through f fields a b never w))

pub decided : (fields : List FieldIn) (a b : List ℕ) → Decided fields a b
decided [] a b = by (bytes_eq a b) refl
  where
    by : (t : Bool) → bytes_eq a b ≡ t → Decided [] a b
    by true e = inl (subst (λ x. Reaches [] a x) ((bytes_eq-Decides a b).0 e) (itself a))
    by false e = inr (λ w. let d = (bytes_eq-Decides a b).1 (no_field a b w) in let x = sym e ∙ d in absurd cc)
decided (f ∷ fields) a b = by f.sort refl (λ (x y : List ℕ). decided fields x y)
  where
    by : (s : Sort) → f.sort ≡ s → ((x y : List ℕ) → Decided fields x y) → Decided (f ∷ fields) a b
    by (sorts.Message t) is go = decided_first f fields t a b is (go a b) (go a f.owner) (go t b)
    by (sorts.Kept p) is go = decided_other f fields a b (λ t e. kept_message p t (sym is ∙ e)) (go a b)
    by sorts.Unkept is go = decided_other f fields a b (λ t e. unkept_message t (sym is ∙ e)) (go a b)

-- ---- ranks

abbrev pub one : {P : Type 0} → P ⊎ (P → ⊥) → ℕ
one (inl p) = 1
one (inr n) = 0

module _ (all : List FieldIn) where
  -- how many of these fields stand in messages that a message reaches
  unfoldable pub reached : List FieldIn → List ℕ → ℕ
  reached [] m = 0
  reached (f ∷ fields) m = one (decided all m f.owner) + reached fields m

  pub few_reached : (fields : List FieldIn) (m : List ℕ) → reached fields m ≤ length fields
  unfolding reached
  few_reached [] m = omega arith
  few_reached (f ∷ fields) m = by (decided all m f.owner) (few_reached fields m)
    where
      by : (d : Decided all m f.owner) → reached fields m ≤ length fields
          → one d + reached fields m ≤ suc (length fields)
      by (inl w) h = omega (arith, h)
      by (inr n) h = omega (arith, h)

  -- what one message reaches, the other reaches
  abbrev Covers : List ℕ → List ℕ → Type 0
  Covers a b = (x : List ℕ) → Reaches all a x → Reaches all b x

  one_covered : (a b x : List ℕ) → Covers a b → (d : Decided all a x) (e : Decided all b x) → one d ≤ one e
  one_covered a b x c (inl w) (inl v) = omega arith
  one_covered a b x c (inl w) (inr n) = absurd (n (c x w))
  one_covered a b x c (inr n) e = omega arith

  covered : (fields : List FieldIn) (a b : List ℕ) → Covers a b → reached fields a ≤ reached fields b
  unfolding reached
  covered [] a b c = omega arith
  covered (f ∷ fields) a b c =
      let h = one_covered a b f.owner c (decided all a f.owner) (decided all b f.owner) in
      let t = covered fields a b c in
      omega (arith, h, t)

  -- and more than that one does
  one_more : (a b x : List ℕ) → (Reaches all a x → ⊥) → Reaches all b x
      → (d : Decided all a x) (e : Decided all b x) → one d < one e
  one_more a b x never reaches (inl w) e = absurd (never w)
  one_more a b x never reaches (inr n) (inl v) = omega arith
  one_more a b x never reaches (inr n) (inr m) = absurd (m reaches)

  more_reached : (fields : List FieldIn) (a b : List ℕ) (f : FieldIn) → Covers a b → Contains fields f
      → (Reaches all a f.owner → ⊥) → Reaches all b f.owner → reached fields a < reached fields b
  unfolding reached
  more_reached [] a b f c at never reaches = absurd (omega (arith, at.1))
  more_reached (g ∷ fields) a b f c at never reaches = by (first_or_other g fields f at) (more_reached fields a b f c)
    where
      by : (g ≡ f) ⊎ Contains fields f
          → (Contains fields f → (Reaches all a f.owner → ⊥) → Reaches all b f.owner
          → reached fields a < reached fields b) → reached (g ∷ fields) a < reached (g ∷ fields) b
      by (inl same) rest =
          let h = one_more a b g.owner (subst (λ (x : FieldIn). Reaches all a x.owner → ⊥) (sym same) never)
          (subst (λ (x : FieldIn). Reaches all b x.owner) (sym same) reaches) (decided all a g.owner)
          (decided all b g.owner) in
          let t = covered fields a b c in
          omega (arith, h, t)
      by (inr d) rest =
          let h = one_covered a b g.owner c (decided all a g.owner) (decided all b g.owner) in
          let t = rest d never reaches in
          omega (arith, h, t)

  -- the message of a field's type reaches no more than that in which it stands, and less where it doesn't lead back
  target_covered : (f : FieldIn) (m : List ℕ) → Contains all f → f.sort ≡ sorts.Message m → Covers m f.owner
  target_covered f m c e = λ x w. further f m x c e w

  pub not_higher : (f : FieldIn) (m : List ℕ) → Contains all f → f.sort ≡ sorts.Message m
      → reached all m ≤ reached all f.owner
  not_higher f m c e = covered all m f.owner (target_covered f m c e)

  pub is_lower : (f : FieldIn) (m : List ℕ) → Contains all f → f.sort ≡ sorts.Message m → (Reaches all m f.owner → ⊥)
      → reached all m < reached all f.owner
  is_lower f m c e never = more_reached all m f.owner f (target_covered f m c e) c never (itself f.owner)

-- ---- numbers by names

module _ (number : List ℕ → ℕ) where
  abbrev numbered : List (List ℕ) → Ranking
  numbered names = ranking names (map number names)

  later_place : (x : List ℕ) (names : List (List ℕ)) (o : Option ℕ)
      → option_map_or (λ place. slice_index_or (map number (x ∷ names)) place 0) (option_map (λ place. suc place) o) 0
      ≡ option_map_or (λ place. slice_index_or (map number names) place 0) o 0
  later_place x names None = refl
  later_place x names (Some place) = refl

  pub rank_is : (names : List (List ℕ)) (name : List ℕ) → Contains names name → rank (numbered names) name ≡ number name
  rank_is [] name c = absurd (omega (arith, c.1))
  rank_is (x ∷ names) name c = by (bytes_eq name x) refl c.0 c.1 c.2 (rank_is names name)
    where
      by : (b : Bool) → bytes_eq name x ≡ b → (i : ℕ) → i < suc (length names) → get_or (x ∷ names) i name ≡ name
          → (Contains names name → rank (numbered names) name ≡ number name)
          → option_map_or (λ place. slice_index_or (map number (x ∷ names)) place 0)
          (if b then Some 0 else option_map (λ place. suc place) (place_of name names)) 0 ≡ number name
      by true e i l is rest = ap number (sym ((bytes_eq-Decides name x).0 e))
      by false e zero l is rest = let d = (bytes_eq-Decides name x).1 (sym is) in let w = sym e ∙ d in absurd cc
      by false e (suc i) l is rest = later_place x names (place_of name names) ∙ rest (i, omega (arith, l), is)

-- ---- all fields have ranks

-- the messages of these fields: those in which they stand, and those of their types
abbrev names_as : Sort → List (List ℕ)
names_as (sorts.Message m) = m ∷ []
names_as sorts.Unkept = []
names_as (sorts.Kept p) = []

abbrev names_of : List FieldIn → List (List ℕ)
names_of [] = []
names_of (f ∷ fields) = f.owner ∷ (names_as f.sort ++ names_of fields)

later_name : (f : FieldIn) (fields : List FieldIn) (m : List ℕ) → Contains (names_of fields) m
    → Contains (names_of (f ∷ fields)) m
later_name f fields m c =
    let d = Contains-append_right (names_as f.sort) (names_of fields) m c in (suc d.0, omega (arith, d.1), d.2)

owner_named : (fields : List FieldIn) (f : FieldIn) → Contains fields f → Contains (names_of fields) f.owner
owner_named [] f c = absurd (omega (arith, c.1))
owner_named (g ∷ fields) f c = by (first_or_other g fields f c) (owner_named fields f)
  where
    by : (g ≡ f) ⊎ Contains fields f → (Contains fields f → Contains (names_of fields) f.owner)
        → Contains (names_of (g ∷ fields)) f.owner
    by (inl same) rest = (0, omega arith, ap (λ (x : FieldIn). x.owner) same)
    by (inr d) rest = later_name g fields f.owner (rest d)

target_named : (fields : List FieldIn) (f : FieldIn) (m : List ℕ) → Contains fields f → f.sort ≡ sorts.Message m
    → Contains (names_of fields) m
target_named [] f m c e = absurd (omega (arith, c.1))
target_named (g ∷ fields) f m c e = by (first_or_other g fields f c) (target_named fields f m)
  where
    here : (s : Sort) → s ≡ sorts.Message m → Contains (names_as s) m
    here s is = subst (λ x. Contains (names_as x) m) (sym is) (0, omega arith, refl)

    by : (g ≡ f) ⊎ Contains fields f → (Contains fields f → f.sort ≡ sorts.Message m → Contains (names_of fields) m)
        → Contains (names_of (g ∷ fields)) m
    by (inl same) rest =
        let d = Contains-append_left (names_as g.sort) (names_of fields) m
        (here g.sort (ap (λ (x : FieldIn). x.sort) same ∙ e)) in
        (suc d.0, omega (arith, d.1), d.2)
    by (inr d) rest = later_name g fields m (rest d e)

-- the ranking by what is reached
abbrev pub by_reached : List FieldIn → Ranking
by_reached all = ranking (names_of all) (map (reached all all) (names_of all))

pub is_ranking : (all : List FieldIn) → IsRanking all (by_reached all)
is_ranking all = record {
  falling = λ f m c e.
      let a = rank_is (reached all all) (names_of all) m (target_named all f m c e) in
      let b = rank_is (reached all all) (names_of all) f.owner (owner_named all f c) in
      let h = not_higher all f m c e in
      omega (arith, a, b, h);
  together = λ f m c e same. by f m c e same (decided all m f.owner);
}
  where
    by : (f : FieldIn) (m : List ℕ) → Contains all f → f.sort ≡ sorts.Message m
        → rank (by_reached all) m ≡ rank (by_reached all) f.owner → Decided all m f.owner → Reaches all m f.owner
    by f m c e same (inl w) = w
    by f m c e same (inr never) =
        let a = rank_is (reached all all) (names_of all) m (target_named all f m c e) in
        let b = rank_is (reached all all) (names_of all) f.owner (owner_named all f c) in
        let h = is_lower all f m c e never in
        absurd (omega (arith, a, b, h, same))
