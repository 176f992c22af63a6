-- How the logic stores checked expressions.
use Rattle.std.specs.Prelude.{◌≡◌, ℕ}
use Rattle.std.proofs.Common.{ap, arith}
use Rattle.std.specs.Coded.{Coded}
use base.Stored.{Gv, gnil, gnum, gcons, num}
use Rattle.sz_types.specs.Code.{shape_code}
use Rattle.sz_value.specs.Code.{datum_code}
use Rattle.sz_core.specs.OperatorCode.{place_code, unary_code, binary_code, builtin_code}
use Rattle.sz_core.specs.Nodes.{Node, node, Form, constant, local, static, input, call, builtin, def, convert, array, tuple, mapping, index, slice, field}
use Rattle.sz_core.specs.Nodes.{unary, binary, both, either, Nodes, no_nodes, with_node, Pairings, no_pairings, with_pairing}

-- the first part of a pair, else the tree itself
abbrev pub head : Gv → Gv
head gnil = gnil
head (gnum n) = gnum n
head (gcons a b) = a

-- the second part of a pair, else nothing
abbrev pub tail : Gv → Gv
tail gnil = gnil
tail (gnum n) = gnil
tail (gcons a b) = b

-- 1 for a pair, else 0
abbrev pub is_pair : Gv → ℕ
is_pair gnil = 0
is_pair (gnum n) = 0
is_pair (gcons a b) = 1

abbrev mutual
  pub node_tree : Node → Gv
  node_tree (node p t f) = gcons (place_code.code p) (gcons (shape_code.code t) (form_tree f))

  form_tree : Form → Gv
  form_tree (constant d) = gcons (gnum 0) (datum_code.code d)
  form_tree (local n) = gcons (gnum 1) (gnum n)
  form_tree (static n) = gcons (gnum 2) (gnum n)
  form_tree input = gnum 3
  form_tree (call f es) = gcons (gnum 4) (gcons (gnum f) (nodes_tree es))
  form_tree (builtin b es) = gcons (gnum 5) (gcons (builtin_code.code b) (nodes_tree es))
  form_tree (def e) = gcons (gnum 6) (node_tree e)
  form_tree (convert e) = gcons (gnum 7) (node_tree e)
  form_tree (array es) = gcons (gnum 8) (nodes_tree es)
  form_tree (tuple es) = gcons (gnum 9) (nodes_tree es)
  form_tree (mapping ps) = gcons (gnum 10) (pairings_tree ps)
  form_tree (index e i) = gcons (gnum 11) (gcons (node_tree e) (node_tree i))
  form_tree (slice e i j) = gcons (gnum 12) (gcons (node_tree e) (gcons (node_tree i) (node_tree j)))
  form_tree (field e n) = gcons (gnum 13) (gcons (node_tree e) (gnum n))
  form_tree (unary o e) = gcons (gnum 14) (gcons (unary_code.code o) (node_tree e))
  form_tree (binary o a b) = gcons (gnum 15) (gcons (binary_code.code o) (gcons (node_tree a) (node_tree b)))
  form_tree (both a b) = gcons (gnum 16) (gcons (node_tree a) (node_tree b))
  form_tree (either a b) = gcons (gnum 17) (gcons (node_tree a) (node_tree b))

  pub nodes_tree : Nodes → Gv
  nodes_tree no_nodes = gnil
  nodes_tree (with_node e es) = gcons (node_tree e) (nodes_tree es)

  pairings_tree : Pairings → Gv
  pairings_tree no_pairings = gnil
  pairings_tree (with_pairing k v ps) = gcons (gcons (node_tree k) (node_tree v)) (pairings_tree ps)

mutual
  pub node_apart : (x y : Node) → node_tree x ≡ node_tree y → x ≡ y
  node_apart (node p t f) (node q u g) h =
      λ i. node (place_code.inj p q (ap head h) i) (shape_code.inj t u (ap (λ g. head (tail g)) h) i)
      (form_apart f g (ap (λ g. tail (tail g)) h) i)

  form_apart : (f g : Form) → form_tree f ≡ form_tree g → f ≡ g
  form_apart (constant d) (constant e) h = ap constant (datum_code.inj d e (ap tail h))
  form_apart (local m) (local n) h = ap local (ap (λ g. num (tail g)) h)
  form_apart (static m) (static n) h = ap static (ap (λ g. num (tail g)) h)
  form_apart input input h = λ i. input
  form_apart (call m es) (call n fs) h =
      λ i. call (num (head (tail (h i)))) (nodes_apart es fs (ap (λ g. tail (tail g)) h) i)
  form_apart (builtin b es) (builtin c fs) h =
      λ i. builtin (builtin_code.inj b c (ap (λ g. head (tail g)) h) i)
      (nodes_apart es fs (ap (λ g. tail (tail g)) h) i)
  form_apart (def e) (def f) h = ap def (node_apart e f (ap tail h))
  form_apart (convert e) (convert f) h = ap convert (node_apart e f (ap tail h))
  form_apart (array es) (array fs) h = ap array (nodes_apart es fs (ap tail h))
  form_apart (tuple es) (tuple fs) h = ap tuple (nodes_apart es fs (ap tail h))
  form_apart (mapping ps) (mapping qs) h = ap mapping (pairings_apart ps qs (ap tail h))
  form_apart (index a b) (index c d) h =
      λ i. index (node_apart a c (ap (λ g. head (tail g)) h) i) (node_apart b d (ap (λ g. tail (tail g)) h) i)
  form_apart (slice a b c) (slice d e f) h =
      λ i. slice (node_apart a d (ap (λ g. head (tail g)) h) i) (node_apart b e (ap (λ g. head (tail (tail g))) h) i)
      (node_apart c f (ap (λ g. tail (tail (tail g))) h) i)
  form_apart (field e m) (field f n) h =
      λ i. field (node_apart e f (ap (λ g. head (tail g)) h) i) (num (tail (tail (h i))))
  form_apart (unary o e) (unary p f) h =
      λ i. unary (unary_code.inj o p (ap (λ g. head (tail g)) h) i) (node_apart e f (ap (λ g. tail (tail g)) h) i)
  form_apart (binary o a b) (binary p c d) h =
      λ i. binary (binary_code.inj o p (ap (λ g. head (tail g)) h) i)
      (node_apart a c (ap (λ g. head (tail (tail g))) h) i) (node_apart b d (ap (λ g. tail (tail (tail g))) h) i)
  form_apart (both a b) (both c d) h =
      λ i. both (node_apart a c (ap (λ g. head (tail g)) h) i) (node_apart b d (ap (λ g. tail (tail g)) h) i)
  form_apart (either a b) (either c d) h =
      λ i. either (node_apart a c (ap (λ g. head (tail g)) h) i) (node_apart b d (ap (λ g. tail (tail g)) h) i)
  form_apart f g h = absurd (let kinds = ap (λ g. num (head g)) h in omega arith)

  pub nodes_apart : (x y : Nodes) → nodes_tree x ≡ nodes_tree y → x ≡ y
  nodes_apart no_nodes no_nodes h = λ i. no_nodes
  nodes_apart (with_node e es) (with_node f fs) h =
      λ i. with_node (node_apart e f (ap head h) i) (nodes_apart es fs (ap tail h) i)
  nodes_apart x y h = absurd (let sizes = ap is_pair h in omega arith)

  pairings_apart : (x y : Pairings) → pairings_tree x ≡ pairings_tree y → x ≡ y
  pairings_apart no_pairings no_pairings h = λ i. no_pairings
  pairings_apart (with_pairing k v ps) (with_pairing l w qs) h =
      λ i. with_pairing (node_apart k l (ap (λ g. head (head g)) h) i) (node_apart v w (ap (λ g. tail (head g)) h) i)
      (pairings_apart ps qs (ap tail h) i)
  pairings_apart x y h = absurd (let sizes = ap is_pair h in omega arith)

-- how an expression is stored
abbrev pub node_code : Coded Node
node_code = record { code = node_tree; inj = node_apart }
