-- The layout's figures: which word holds which field, which number a flag has, and how rows stand in a table over what was there.
use Rattle.std.specs.Prelude.{◌≡◌, Bool, true, false, List, [], ◌∷◌, ◌++◌, map, ℕ, replicate}
use Rattle.diagram.specs.Node.{Node, Edge}
use Rattle.diagram.specs.Record.{Record}
use Rattle.layout.specs.Table.{over}
use Rattle.layout.specs.Rows.{encode_node, encode_edge, node_table, edge_table}
use Rattle.layout.specs.Records.{encode_record, record_table}

-- a node whose fields are numbered from 1 on in the order of rule 1, with those flags
abbrev pub numbered : Bool → Bool → Bool → Bool → Bool → Node
numbered exact relaxed marked cutset deleted =
    record {
      capacity = 1;
      depth = 2;
      value = 3;
      bottom = 4;
      best = 5;
      newest = 6;
      fast = 7;
      exact = exact;
      relaxed = relaxed;
      marked = marked;
      cutset = cutset;
      deleted = deleted;
    }

-- an edge; a record with a path of two bytes, 5 and 4, and one with an empty path
abbrev pub edge_of : ℕ → ℕ → ℕ → ℕ → ℕ → Edge
edge_of from to decision cost next = record { from = from; to = to; decision = decision; cost = cost; next = next }

abbrev pub deep_record : Record
deep_record = record { capacity = 1; value = 2; bound = 3; depth = 2; path = 5 ∷ 4 ∷ [] }

abbrev pub flat_record : Record
flat_record = record { capacity = 6; value = 7; bound = 8; depth = 0; path = [] }

-- words that are computed, and what they are
pub record Figure : Type 0 where
  pub computed : List ℕ
  pub literally : List ℕ

abbrev stands : List ℕ → List ℕ → Figure
stands computed literally = record { computed = computed; literally = literally }

unfoldable pub figures : List Figure
figures =
    -- a node row, with each flag alone and with all of them
    stands (encode_node (numbered true false false false false)) (1 ∷ 2 ∷ 3 ∷ 4 ∷ 5 ∷ 6 ∷ 7 ∷ 1 ∷ [])
    ∷ stands (encode_node (numbered false true false false false)) (1 ∷ 2 ∷ 3 ∷ 4 ∷ 5 ∷ 6 ∷ 7 ∷ 2 ∷ [])
    ∷ stands (encode_node (numbered false false true false false)) (1 ∷ 2 ∷ 3 ∷ 4 ∷ 5 ∷ 6 ∷ 7 ∷ 4 ∷ [])
    ∷ stands (encode_node (numbered false false false true false)) (1 ∷ 2 ∷ 3 ∷ 4 ∷ 5 ∷ 6 ∷ 7 ∷ 8 ∷ [])
    ∷ stands (encode_node (numbered false false false false true)) (1 ∷ 2 ∷ 3 ∷ 4 ∷ 5 ∷ 6 ∷ 7 ∷ 16 ∷ [])
    ∷ stands (encode_node (numbered true true true true true)) (1 ∷ 2 ∷ 3 ∷ 4 ∷ 5 ∷ 6 ∷ 7 ∷ 31 ∷ [])
    -- an edge row
    ∷ stands (encode_edge (edge_of 1 2 3 4 5)) (1 ∷ 2 ∷ 3 ∷ 4 ∷ 5 ∷ [])
    -- a record: four words, the path's bytes, and 0 in the places past them
    ∷ stands (encode_record deep_record) (1 ∷ 2 ∷ 3 ∷ 2 ∷ 5 ∷ 4 ∷ replicate 62 0)
    -- tables: the first row first
    ∷ stands (node_table (numbered true false false false false ∷ numbered false false false false false ∷ [])) (1 ∷ 2 ∷ 3 ∷ 4 ∷ 5 ∷ 6 ∷ 7 ∷ 1 ∷ 1 ∷ 2 ∷ 3 ∷ 4 ∷ 5 ∷ 6 ∷ 7 ∷ 0 ∷ [])
    ∷ stands (edge_table (edge_of 1 2 3 4 5 ∷ edge_of 6 7 8 9 10 ∷ [])) (1 ∷ 2 ∷ 3 ∷ 4 ∷ 5 ∷ 6 ∷ 7 ∷ 8 ∷ 9 ∷ 10 ∷ [])
    ∷ stands (record_table (deep_record ∷ flat_record ∷ [])) ((1 ∷ 2 ∷ 3 ∷ 2 ∷ 5 ∷ 4 ∷ replicate 62 0) ++ (6 ∷ 7 ∷ 8 ∷ 0 ∷ replicate 64 0))
    -- words over what was there: the rest stays
    ∷ stands (over (1 ∷ 2 ∷ []) (5 ∷ 6 ∷ 7 ∷ 8 ∷ [])) (1 ∷ 2 ∷ 7 ∷ 8 ∷ [])
    ∷ stands (over [] (5 ∷ 6 ∷ [])) (5 ∷ 6 ∷ [])
    ∷ []

-- the table statement
abbrev pub Figures : Type 0
Figures = map (λ f. f.computed) figures ≡ map (λ f. f.literally) figures
