-- How the logic stores checked statements.
use Rattle.std.specs.Prelude.{◌≡◌, ℕ, zero, suc, List, Option, Bool, ◌⊎◌}
use Rattle.std.proofs.Common.{refl, ap, arith, inl, inr}
use Rattle.std.specs.Coded.{Coded, code_by, coded_ℕ, coded_bool, coded_list, coded_option, coded×, coded⊎}
use base.Stored.{Gv, gnil, gnum, gcons, num}
use Rattle.sz_core.specs.OperatorCode.{place_code}
use Rattle.sz_core.specs.Nodes.{Node}
use Rattle.sz_core.specs.NodeCode.{head, tail, is_pair, node_tree, node_apart, nodes_tree, nodes_apart, node_code}
use Rattle.sz_core.specs.Statements.{Step, at_index, at_field, Stm, block, clear, keep, store, evaluate, branch, while, do_while, for_loop, break, continue}
use Rattle.sz_core.specs.Statements.{Quantity, some, each, all, Quantified, when, return_value, end_record, emit, Stms, no_stms, with_stm}

-- a step as an expression or a place
abbrev step_parts : Step → Node ⊎ ℕ
step_parts (at_index e) = inl e
step_parts (at_field n) = inr n

abbrev step_of_parts : Node ⊎ ℕ → Step
step_of_parts (inl e) = at_index e
step_of_parts (inr n) = at_field n

pub step_again : (s : Step) → step_of_parts (step_parts s) ≡ s
step_again (at_index e) = refl
step_again (at_field n) = refl

abbrev steps_code : Coded (List Step)
steps_code = coded_list (code_by (Node ⊎ ℕ) (coded⊎ node_code coded_ℕ) step_parts step_of_parts step_again)

abbrev option_code : Coded (Option Node)
option_code = coded_option node_code

-- how a variable is quantified, as a number
abbrev quantity_number : Quantity → ℕ
quantity_number some = 0
quantity_number each = 1
quantity_number all = 2

abbrev quantity_at : ℕ → Quantity
quantity_at zero = some
quantity_at (suc zero) = each
quantity_at (suc (suc n)) = all

pub quantity_again : (q : Quantity) → quantity_at (quantity_number q) ≡ q
quantity_again some = refl
quantity_again each = refl
quantity_again all = refl

abbrev quantified_code : Coded (List Quantified)
quantified_code =
    coded_list (code_by (ℕ × (ℕ × (Node × Bool))) (coded× coded_ℕ (coded× coded_ℕ (coded× node_code coded_bool)))
    (λ v. (quantity_number v.quantity, (v.local, (v.base, v.slice))))
    (λ p. record { quantity = quantity_at p.0; local = p.1.0; base = p.1.1.0; slice = p.1.1.1 })
    (λ v i. record { quantity = quantity_again v.quantity i; local = v.local; base = v.base; slice = v.slice }))

abbrev mutual
  pub stm_tree : Stm → Gv
  stm_tree (block ss) = gcons (gnum 0) (stms_tree ss)
  stm_tree (clear n) = gcons (gnum 1) (gnum n)
  stm_tree (keep p n e) = gcons (gnum 2) (gcons (place_code.code p) (gcons (gnum n) (node_tree e)))
  stm_tree (store p n ss e) =
      gcons (gnum 3) (gcons (place_code.code p) (gcons (gnum n) (gcons (steps_code.code ss) (node_tree e))))
  stm_tree (evaluate p e) = gcons (gnum 4) (gcons (place_code.code p) (node_tree e))
  stm_tree (branch p c s t) =
      gcons (gnum 5) (gcons (place_code.code p) (gcons (node_tree c) (gcons (stm_tree s) (stm_tree t))))
  stm_tree (while p c s) = gcons (gnum 6) (gcons (place_code.code p) (gcons (node_tree c) (stm_tree s)))
  stm_tree (do_while p s c) = gcons (gnum 7) (gcons (place_code.code p) (gcons (stm_tree s) (node_tree c)))
  stm_tree (for_loop p c t s) =
      gcons (gnum 8) (gcons (place_code.code p) (gcons (option_code.code c) (gcons (stm_tree t) (stm_tree s))))
  stm_tree break = gnum 9
  stm_tree continue = gnum 10
  stm_tree (return_value p e) = gcons (gnum 11) (gcons (place_code.code p) (node_tree e))
  stm_tree (end_record p) = gcons (gnum 12) (place_code.code p)
  stm_tree (emit p n es e w) =
      gcons (gnum 13)
      (gcons (place_code.code p) (gcons (gnum n) (gcons (nodes_tree es) (gcons (node_tree e) (option_code.code w)))))
  stm_tree (when p vs c s) =
      gcons (gnum 14) (gcons (place_code.code p) (gcons (quantified_code.code vs) (gcons (node_tree c) (stm_tree s))))

  pub stms_tree : Stms → Gv
  stms_tree no_stms = gnil
  stms_tree (with_stm s ss) = gcons (stm_tree s) (stms_tree ss)

-- the parts of a tree after its kind
abbrev first : Gv → Gv
first g = head (tail g)

abbrev second : Gv → Gv
second g = head (tail (tail g))

abbrev third : Gv → Gv
third g = head (tail (tail (tail g)))

abbrev fourth : Gv → Gv
fourth g = head (tail (tail (tail (tail g))))

mutual
  pub stm_apart : (x y : Stm) → stm_tree x ≡ stm_tree y → x ≡ y
  stm_apart (block ss) (block ts) h = ap block (stms_apart ss ts (ap tail h))
  stm_apart (clear m) (clear n) h = ap clear (ap (λ g. num (tail g)) h)
  stm_apart (keep p m e) (keep q n f) h =
      λ i. keep (place_code.inj p q (ap first h) i) (num (second (h i)))
      (node_apart e f (ap (λ g. tail (tail (tail g))) h) i)
  stm_apart (store p m ss e) (store q n ts f) h =
      λ i. store (place_code.inj p q (ap first h) i) (num (second (h i))) (steps_code.inj ss ts (ap third h) i)
      (node_apart e f (ap (λ g. tail (tail (tail (tail g)))) h) i)
  stm_apart (evaluate p e) (evaluate q f) h =
      λ i. evaluate (place_code.inj p q (ap first h) i) (node_apart e f (ap (λ g. tail (tail g)) h) i)
  stm_apart (branch p c s t) (branch q d u v) h =
      λ i. branch (place_code.inj p q (ap first h) i) (node_apart c d (ap second h) i) (stm_apart s u (ap third h) i)
      (stm_apart t v (ap (λ g. tail (tail (tail (tail g)))) h) i)
  stm_apart (while p c s) (while q d u) h =
      λ i. while (place_code.inj p q (ap first h) i) (node_apart c d (ap second h) i)
      (stm_apart s u (ap (λ g. tail (tail (tail g))) h) i)
  stm_apart (do_while p s c) (do_while q u d) h =
      λ i. do_while (place_code.inj p q (ap first h) i) (stm_apart s u (ap second h) i)
      (node_apart c d (ap (λ g. tail (tail (tail g))) h) i)
  stm_apart (for_loop p c t s) (for_loop q d u v) h =
      λ i. for_loop (place_code.inj p q (ap first h) i) (option_code.inj c d (ap second h) i)
      (stm_apart t u (ap third h) i) (stm_apart s v (ap (λ g. tail (tail (tail (tail g)))) h) i)
  stm_apart break break h = λ i. break
  stm_apart continue continue h = λ i. continue
  stm_apart (return_value p e) (return_value q f) h =
      λ i. return_value (place_code.inj p q (ap first h) i) (node_apart e f (ap (λ g. tail (tail g)) h) i)
  stm_apart (end_record p) (end_record q) h = ap end_record (place_code.inj p q (ap tail h))
  stm_apart (emit p m es e w) (emit q n fs f x) h =
      λ i. emit (place_code.inj p q (ap first h) i) (num (second (h i))) (nodes_apart es fs (ap third h) i)
      (node_apart e f (ap fourth h) i) (option_code.inj w x (ap (λ g. tail (tail (tail (tail (tail g))))) h) i)
  stm_apart (when p vs c s) (when q ws d t) h =
      λ i. when (place_code.inj p q (ap first h) i) (quantified_code.inj vs ws (ap second h) i)
      (node_apart c d (ap third h) i) (stm_apart s t (ap (λ g. tail (tail (tail (tail g)))) h) i)
  stm_apart s t h = absurd (let kinds = ap (λ g. num (head g)) h in omega arith)

  pub stms_apart : (x y : Stms) → stms_tree x ≡ stms_tree y → x ≡ y
  stms_apart no_stms no_stms h = λ i. no_stms
  stms_apart (with_stm s ss) (with_stm t ts) h =
      λ i. with_stm (stm_apart s t (ap head h) i) (stms_apart ss ts (ap tail h) i)
  stms_apart x y h = absurd (let sizes = ap is_pair h in omega arith)

-- how a statement and several are stored
abbrev pub stm_code : Coded Stm
stm_code = record { code = stm_tree; inj = stm_apart }

abbrev pub stms_code : Coded Stms
stms_code = record { code = stms_tree; inj = stms_apart }
