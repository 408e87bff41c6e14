-- What each function of `expand` promises: the definition's run, in its answer and in the tables.
use Rattle.std.specs.Prelude.{◌≡◌, List, ◌∷◌, ℕ, ◌<◌, length, get_or, drop}
use Rattle.knapsack.specs.Items as Blocks
use Rattle.knapsack.specs.Items.{items_of, counted}
use Rattle.diagram.specs.Node.{node_at}
use Rattle.diagram.specs.Tables.{Diagram}
use Rattle.diagram.specs.Run.{Settings}
use Rattle.diagram.specs.Rule3.{branch_take, branch_both, expand, expand_all}
use Rattle.branch.specs.declared.Counts.{Counts}
use Rattle.branch.specs.declared.Rooms.{Rooms}
use Rattle.branch.specs.State.{Said, StillFit, Stands, Held, Stepped}
use Rattle.expand.specs.declared.Item.{Item}

-- The code's item is the definition's: its profit, and its weight as it counts.
pub record Decides (i : Item) (item : Blocks.Item) (k : ℕ) : Type 0 where
  pub depth_is : i.depth ≡ k
  pub weight_is : i.weight ≡ counted item.weight
  pub profit_is : i.profit ≡ item.profit

pub record Taken (start : ℕ) (k : Counts) (rooms : Rooms) (n capacity : ℕ) (i : Item) (ns es : List ℕ) (r : Said) (ns' es' : List ℕ) : Type 0 where
  pub fits : StillFit start rooms r
  pub does : (s : Settings) (d : Diagram) (old_n old_e : List ℕ) (item : Blocks.Item) (depth : ℕ) → Stands s d old_n old_e start k rooms → Held d old_n old_e ns es → Decides i item depth → (node_at d.nodes n).depth ≡ depth → Stepped (branch_take s item depth n capacity d) old_n old_e r ns' es'

pub record Both (start : ℕ) (k : Counts) (rooms : Rooms) (n capacity : ℕ) (i : Item) (ns es : List ℕ) (r : Said) (ns' es' : List ℕ) : Type 0 where
  pub fits : StillFit start rooms r
  pub does : (s : Settings) (d : Diagram) (old_n old_e : List ℕ) (item : Blocks.Item) (depth : ℕ) → Stands s d old_n old_e start k rooms → Held d old_n old_e ns es → Decides i item depth → n < start → (node_at d.nodes n).depth ≡ depth → Stepped (branch_both s item depth n capacity d) old_n old_e r ns' es'

-- Node n is expanded: the items left are those from the depth on, the first of them is decided.
pub record Expanded (weights profits : List ℕ) (start : ℕ) (k : Counts) (rooms : Rooms) (depth lower n : ℕ) (ns es : List ℕ) (r : Said) (ns' es' : List ℕ) : Type 0 where
  pub fits : StillFit start rooms r
  pub does : (s : Settings) (d : Diagram) (old_n old_e : List ℕ) (item : Blocks.Item) (rest : List Blocks.Item) → Stands s d old_n old_e start k rooms → Held d old_n old_e ns es → s.lower ≡ lower → drop depth (items_of weights profits) ≡ item ∷ rest → n < start → (node_at d.nodes n).depth ≡ depth → Stepped (expand s (item ∷ rest) item depth d n) old_n old_e r ns' es'

-- What a whole layer's expansion starts from: the diagram, its items, and rows that stand in finished layers at that depth.
pub record Layer (weights profits rows : List ℕ) (start : ℕ) (k : Counts) (rooms : Rooms) (depth lower : ℕ) (ns es : List ℕ) (s : Settings) (d : Diagram) (old_n old_e : List ℕ) (item : Blocks.Item) (rest : List Blocks.Item) : Type 0 where
  pub stands : Stands s d old_n old_e start k rooms
  pub held : Held d old_n old_e ns es
  pub lower_is : s.lower ≡ lower
  pub left : drop depth (items_of weights profits) ≡ item ∷ rest
  pub deep : (j : ℕ) → j < length rows → (node_at d.nodes (get_or rows j 0)).depth ≡ depth

pub record AllExpanded (weights profits rows : List ℕ) (start : ℕ) (k : Counts) (rooms : Rooms) (depth lower : ℕ) (ns es : List ℕ) (r : Said) (ns' es' : List ℕ) : Type 0 where
  pub fits : StillFit start rooms r
  pub does : (s : Settings) (d : Diagram) (old_n old_e : List ℕ) (item : Blocks.Item) (rest : List Blocks.Item) → Layer weights profits rows start k rooms depth lower ns es s d old_n old_e item rest → Stepped (expand_all s (item ∷ rest) item depth rows d) old_n old_e r ns' es'
