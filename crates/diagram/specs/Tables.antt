-- What a run has written so far: node rows, edge rows, stored layers, the last exact layer, and the coming layer's first row.
use Rattle.std.specs.Prelude.{cond, List, [], ◌∷◌, ℕ, zero, suc, ◌-◌, eqb, length}
use Rattle.diagram.specs.Node.{Node, Edge, edge_at}

-- a layer's row range, from .. to
pub record Range : Type 0 where
  pub lo : ℕ
  pub hi : ℕ

-- 'The first squash names the layer before it the last exact layer': its rows, once there was a squash.
pub data LastExact : Type 0 where
  unsquashed : LastExact
  squashed_after : Range → LastExact

-- The rows written so far, the stored layers (newest first), the last exact layer, and the coming layer's first row.
pub record Diagram : Type 0 where
  pub nodes : List Node
  pub edges : List Edge
  pub layers : List Range
  pub last : LastExact
  pub start : ℕ

-- A row's number, or none.
pub data Found : Type 0 where
  at : ℕ → Found
  nowhere : Found

unfoldable pub with_nodes : Diagram → List Node → Diagram
with_nodes d ns = record { nodes = ns; edges = d.edges; layers = d.layers; last = d.last; start = d.start }

-- the n row numbers from r on
unfoldable pub rows_from : ℕ → ℕ → List ℕ
rows_from r zero = []
rows_from r (suc n) = r ∷ rows_from (suc r) n

unfoldable pub rows_of : Range → List ℕ
rows_of s = rows_from s.lo (s.hi - s.lo)

-- the coming layer's rows
unfoldable pub coming : Diagram → Range
coming d = record { lo = d.start; hi = length d.nodes }

-- The inbound edges of row r among the first n edges, newest first.
unfoldable pub inbound_below : ℕ → List Edge → ℕ → List ℕ
inbound_below zero es r = []
inbound_below (suc e) es r = cond (eqb (edge_at es e).to r) (e ∷ inbound_below e es r) (inbound_below e es r)

unfoldable pub inbound : List Edge → ℕ → List ℕ
inbound es r = inbound_below (length es) es r
