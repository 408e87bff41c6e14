-- What the words that the code reads and writes mean for the rows that a table holds.
use mathlib.Core.Path.{◌≡◌, sym, ap, ◌∙◌}
use mathlib.Core.List.{List, [], ◌∷◌, ◌++◌}
use Prim.Native.Nat.{ℕ, suc, ◌+◌, ◌*◌, ◌/◌, ◌%◌, ◌<◌, ◌≤◌}
use native.Mathlib.Omega.{arith}
use lib.Dec.{eqb, lit<}
use lib.ListN.{length, get_or, take, drop}
use lib.Seq.{sets, sets-eq, paste, length-sets, take_all}
use Rattle.diagram.specs.Node.{Node, Edge, no_node, no_edge, node_at, edge_at}
use Rattle.diagram.specs.Record.{Record, path_room, padded}
use Rattle.layout.specs.Table.{over}
use Rattle.layout.specs.Rows.{node_words, edge_words, flags_word, has_flag, decode_node, encode_node, encode_edge, node_table, edge_table}
use Rattle.layout.specs.Records.{encode_record, record_table}
use Rattle.layout.proofs.Rows.{node_width, edge_width, node_back}
use Rattle.layout.proofs.Records.{padded_length, record_behind}
use Rattle.layout.proofs.Table.{word_at, stored_replaced, stored_appended}
use Rattle.rows.specs.Access.{NodeRead, FieldRead, EdgeRead, NodeWritten, EdgeWritten, RecordWritten}

-- word k of row r of a node table
node_word : (ns : List Node) (old : List ℕ) (t : List ℕ) (r k : ℕ) → t ≡ over (node_table ns) old → r < length ns → k < node_words → get_or t (r * node_words + k) 0 ≡ get_or (encode_node (node_at ns r)) k 0
unfolding node_table over
node_word ns old t r k e h l = ap (λ (u : List ℕ). get_or u (r * node_words + k) 0) e ∙ word_at encode_node node_words node_width no_node ns _ r k h l

-- the row that eight words at at = r * 8 hold, the last of them its flags
abbrev held_node : List ℕ → ℕ → Node
held_node t at =
    record {
      capacity = get_or t at 0;
      depth = get_or t (at + 1) 0;
      value = get_or t (at + 2) 0;
      bottom = get_or t (at + 3) 0;
      best = get_or t (at + 4) 0;
      newest = get_or t (at + 5) 0;
      fast = get_or t (at + 6) 0;
      exact = eqb (get_or t (at + 7) 0 % 2) 1;
      relaxed = eqb (get_or t (at + 7) 0 / 2 % 2) 1;
      marked = eqb (get_or t (at + 7) 0 / 4 % 2) 1;
      cutset = eqb (get_or t (at + 7) 0 / 8 % 2) 1;
      deleted = eqb (get_or t (at + 7) 0 / 16 % 2) 1;
    }

back : (n : Node) → held_node (encode_node n) 0 ≡ n
unfolding encode_node has_flag decode_node
back n =
    let f = flags_word n.exact n.relaxed n.marked n.cutset n.deleted in
    let e : f % 2 ≡ f / 1 % 2 = omega arith in
    rw e (node_back n)

pub node_read : (t : List ℕ) (r : ℕ) → NodeRead t r (held_node t (r * 8))
node_read t r =
    record {
      is_row = λ ns old e h.
          let z : r * 8 ≡ r * 8 + 0 = omega arith in
          let word : (k : ℕ) → k < 8 → get_or t (r * 8 + k) 0 ≡ get_or (encode_node (node_at ns r)) k 0 = λ k l. node_word ns old t r k e h l in
          let first : get_or t (r * 8) 0 ≡ get_or (encode_node (node_at ns r)) 0 0 = ap (λ (i : ℕ). get_or t i 0) z ∙ word 0 (lit< tt) in
          rw (first, word 1 (lit< tt), word 2 (lit< tt), word 3 (lit< tt), word 4 (lit< tt), word 5 (lit< tt), word 6 (lit< tt), word 7 (lit< tt)) (back (node_at ns r));
    }

-- one field read alone: the word at place k of a row, where the row's words have the field there
pub field_read : (field : Node → ℕ) (k : ℕ) → k < node_words → ((n : Node) → get_or (encode_node n) k 0 ≡ field n) → (t : List ℕ) (r at : ℕ) → at ≡ r * node_words + k → FieldRead t r field (get_or t at 0)
field_read field k l place t r at i =
    record {
      is_field = λ ns old e h. ap (λ (j : ℕ). get_or t j 0) i ∙ node_word ns old t r k e h l ∙ place (node_at ns r);
    }

-- word k of row r of an edge table
edge_word : (es : List Edge) (old : List ℕ) (t : List ℕ) (r k : ℕ) → t ≡ over (edge_table es) old → r < length es → k < edge_words → get_or t (r * edge_words + k) 0 ≡ get_or (encode_edge (edge_at es r)) k 0
unfolding edge_table over
edge_word es old t r k e h l = ap (λ (u : List ℕ). get_or u (r * edge_words + k) 0) e ∙ word_at encode_edge edge_words edge_width no_edge es _ r k h l

pub edge_read : (t : List ℕ) (r : ℕ) → EdgeRead t r (record { from = get_or t (r * 5) 0; to = get_or t (r * 5 + 1) 0; decision = get_or t (r * 5 + 2) 0; cost = get_or t (r * 5 + 3) 0; next = get_or t (r * 5 + 4) 0 })
unfolding encode_edge
edge_read t r =
    record {
      is_row = λ es old e h.
          let z : r * 5 ≡ r * 5 + 0 = omega arith in
          let word : (k : ℕ) → k < 5 → get_or t (r * 5 + k) 0 ≡ get_or (encode_edge (edge_at es r)) k 0 = λ k l. edge_word es old t r k e h l in
          let first : get_or t (r * 5) 0 ≡ get_or (encode_edge (edge_at es r)) 0 0 = ap (λ (i : ℕ). get_or t i 0) z ∙ word 0 (lit< tt) in
          rw (first, word 1 (lit< tt), word 2 (lit< tt), word 3 (lit< tt), word 4 (lit< tt));
    }

-- the words of a row stored one by one
pub node_written : (t : List ℕ) (r : ℕ) (n : Node) (u : List ℕ) → u ≡ sets t (r * 8) (encode_node n) → NodeWritten t r n u
unfolding node_table
node_written t r n u q =
    record {
      replaced = λ ns old e h. q ∙ ap (λ (l : List ℕ). sets l (r * 8) (encode_node n)) e ∙ stored_replaced encode_node node_words node_width ns old r n h;
      appended = λ ns old e h room. q ∙ rw (e, h) (stored_appended encode_node node_words node_width ns old n (rw h at room));
    }

pub edge_written : (t : List ℕ) (r : ℕ) (x : Edge) (u : List ℕ) → u ≡ sets t (r * 5) (encode_edge x) → EdgeWritten t r x u
unfolding edge_table
edge_written t r x u q =
    record {
      replaced = λ es old e h. q ∙ ap (λ (l : List ℕ). sets l (r * 5) (encode_edge x)) e ∙ stored_replaced encode_edge edge_words edge_width es old r x h;
      appended = λ es old e h room. q ∙ rw (e, h) (stored_appended encode_edge edge_words edge_width es old x (rw h at room));
    }

-- a path in its 64 places behind the record's numbers
pasted : (t : List ℕ) (at : ℕ) (x : Record) (bytes : List ℕ) → at + 68 ≤ length t → length x.path ≤ path_room → bytes ≡ padded x.path → paste (sets t at (x.capacity ∷ x.value ∷ x.bound ∷ x.depth ∷ [])) (at + 4) bytes 64 ≡ sets t at (encode_record x)
unfolding encode_record
pasted t at x bytes fits k b =
    let u = sets t at (x.capacity ∷ x.value ∷ x.bound ∷ x.depth ∷ []) in
    let l : length (padded x.path) ≡ 64 = padded_length x.path k in
    let n : length u ≡ length t = length-sets t at (x.capacity ∷ x.value ∷ x.bound ∷ x.depth ∷ []) in
    let z : at + 4 ≡ suc (suc (suc (suc at))) = omega arith in
    let p = padded x.path in
    let e : paste u (at + 4) p 64 ≡ sets u (at + 4) p = rw (take_all 64 p (omega arith)) (sym (sets-eq p u (at + 4) (omega arith) ∙ ap (λ (k : ℕ). take (at + 4) u ++ p ++ drop (at + 4 + k) u) l)) in
    ap (λ (q : List ℕ). paste u (at + 4) q 64) b ∙ e ∙ ap (λ (k : ℕ). sets u k p) z

-- four numbers stored one by one, and the path's places behind them
pub record_written : (t : List ℕ) (r capacity value bound depth : ℕ) (bytes u : List ℕ) → r * 68 + 68 ≤ length t → u ≡ paste (sets t (r * 68) (capacity ∷ value ∷ bound ∷ depth ∷ [])) (r * 68 + 4) bytes 64 → RecordWritten t r capacity value bound depth bytes u
record_written t r capacity value bound depth bytes u fits q =
    record {
      appended = λ rs old path e all h room k b.
          let x : Record = record { capacity = capacity; value = value; bound = bound; depth = depth; path = path } in
          let w : sets t (r * 68) (encode_record x) ≡ over (record_table (rs ++ (x ∷ []))) old = rw (e, h) (record_behind rs old x all k (rw h at room)) in
          q ∙ pasted t (r * 68) x bytes fits k b ∙ w;
    }
