-- Steps of a traversal one after the other, and that the count of listed rows stays below the number of rows.
use mathlib.Core.Path.{◌≡◌, refl, sym, ap, ◌∙◌}
use mathlib.Core.Bool.{Bool, true, false, not, ◌&&◌}
use mathlib.Core.List.{List, [], ◌∷◌, ◌++◌}
use Prim.Native.Nat.{ℕ, zero, suc, ◌+◌, ◌-◌, ◌*◌, ◌<◌, ◌≤◌}
use native.Mathlib.Nat.{add-zero}
use native.Mathlib.Omega.{arith}
use lib.ListN.{length, set}
use Rattle.diagram.specs.Node.{Node, node_at, in_cutset}
use Rattle.diagram.specs.Tables.{Diagram, rows_from}
use Rattle.diagram.specs.After4.{Cutset, list_row, list_rows, frontier_rows}
use Rattle.layout.specs.Table.{over}
use Rattle.layout.specs.Rows.{node_words, node_table}
use Rattle.rows.specs.Access.{NodeRead, NodeWritten}
use Rattle.theorems.proofs.Once.{flags_few, Few, drain_few}
use Rattle.cutset.specs.declared.Wanted.{Wanted}
use Rattle.cutset.specs.Views.{with_cutset}
use Rattle.cutset.specs.Trace.{record_path, Tracing, Traced, Inside, HandedOn, FewInside, listing, listings, adding, of_row, of_rows}
use Rattle.cutset.proofs.Commute.{row_flags}
use Rattle.cutset.proofs.Handing.{rows_are, node_words_lem, row_is}

-- ---- one step behind another

traced_none : (P : Diagram → Cutset → Type 0) (w : Wanted) (count : ℕ) (ns es rs : List ℕ) → Traced P (λ d c. c) w count ns es rs count ns rs
traced_none P w count ns es rs = record { does = λ d old_n old_e old_r c z t p. t }

traced_then : (P Q : Diagram → Cutset → Type 0) (f g h : Diagram → Cutset → Cutset) (w : Wanted) (k₀ : ℕ) (ns₀ es rs₀ : List ℕ) (k : ℕ) (ns rs : List ℕ) (k' : ℕ) (ns' rs' : List ℕ) → ((d : Diagram) (c : Cutset) → P d c → Q d (f d c)) → ((d : Diagram) (c : Cutset) → h d c ≡ g d (f d c)) → Traced P f w k₀ ns₀ es rs₀ k ns rs → Traced Q g w k ns es rs k' ns' rs' → Traced P h w k₀ ns₀ es rs₀ k' ns' rs'
traced_then P Q f g h w k₀ ns₀ es rs₀ k ns rs k' ns' rs' q e a b =
    record { does = λ d old_n old_e old_r c z t p. rw (e d c) (b.does d old_n old_e old_r (f d c) z (a.does d old_n old_e old_r c z t p) (q d c p)) }

-- what the next step asks
pub tracing_then : (P Q : Diagram → Cutset → Type 0) (f : Diagram → Cutset → Cutset) (w : Wanted) (k₀ : ℕ) (ns₀ es rs₀ : List ℕ) (k : ℕ) (ns rs : List ℕ) → ((d : Diagram) (c : Cutset) → P d c → Q d (f d c)) → Tracing P w k₀ ns₀ es rs₀ → Traced P f w k₀ ns₀ es rs₀ k ns rs → Tracing Q w k ns es rs
tracing_then P Q f w k₀ ns₀ es rs₀ k ns rs q x a =
    record {
      diagram = x.diagram;
      old_n = x.old_n;
      old_e = x.old_e;
      old_r = x.old_r;
      cut = f x.diagram x.cut;
      settled = x.settled;
      trace = a.does x.diagram x.old_n x.old_e x.old_r x.cut x.settled x.trace x.asked;
      asked = q x.diagram x.cut x.asked;
    }

pub tracing_as : (P Q : Diagram → Cutset → Type 0) (w : Wanted) (k : ℕ) (ns es rs : List ℕ) → ((d : Diagram) (c : Cutset) → P d c → Q d c) → Tracing P w k ns es rs → Tracing Q w k ns es rs
tracing_as P Q w k ns es rs q x = tracing_then P Q (λ d c. c) w k ns es rs k ns rs q x (traced_none P w k ns es rs)

-- row r of the tables can be read
pub row_asked : (P : Diagram → Cutset → Type 0) (w : Wanted) (k : ℕ) (ns es rs : List ℕ) (r : ℕ) → ((d : Diagram) (c : Cutset) → P d c → r < length d.nodes) → Tracing P w k ns es rs → r * node_words + node_words ≤ length ns
row_asked P w k ns es rs r q x =
    let n = node_words_lem w x.diagram x.old_n x.old_e x.old_r x.cut k ns es rs x.settled x.trace in
    let h = q x.diagram x.cut x.asked in
    omega arith

-- ---- a row is listed

flag_is : (n : Node) → with_cutset true n ≡ in_cutset n
unfolding with_cutset in_cutset
flag_is n = refl

pub row_listed : (w : Wanted) (r count : ℕ) (ns es rs : List ℕ) (n x : Node) (count' : ℕ) (ns' rs' : List ℕ) → NodeRead ns r n → x ≡ with_cutset true n → HandedOn w r count ns es rs count' rs' → NodeWritten ns r x ns' → Traced (Inside r) (listing r) w count ns es rs count' ns' rs'
unfolding list_row
row_listed w r count ns es rs n x count' ns' rs' read e h g =
    record {
      does = λ d old_n old_e old_r c z t i.
          let q = row_is w d old_n old_e old_r c count ns es rs z t r n i read in
          let y : x ≡ in_cutset (node_at c.nodes r) = e ∙ flag_is n ∙ ap in_cutset q in
          record {
            nodes_are = g.replaced c.nodes old_n t.nodes_are (omega (arith, rows_are w d old_n old_e old_r c count ns es rs z t)) ∙ ap (λ (m : Node). over (node_table (set c.nodes r m)) old_n) y;
            edges_are = t.edges_are;
            same = row_flags r c ∙ t.same;
            handed = h.does d old_n old_e old_r c z t i;
          };
    }

-- ---- the count of listed rows

pub count_asked : (P : Diagram → Cutset → Type 0) (w : Wanted) (count : ℕ) (ns es rs : List ℕ) → ((d : Diagram) (c : Cutset) → P d c → Few c) → Tracing P w count ns es rs → count * node_words ≤ length ns
count_asked P w count ns es rs q x =
    let d = x.diagram in
    let c = x.cut in
    let n = node_words_lem w d x.old_n x.old_e x.old_r c count ns es rs x.settled x.trace in
    let l = rows_are w d x.old_n x.old_e x.old_r c count ns es rs x.settled x.trace in
    let few = q d c x.asked in
    omega (arith, x.trace.handed.count_is, drain_few (record_path w) d w.best c.listed, flags_few c.nodes)

-- ---- a parent is listed or passed over

unlisted : (a b : Bool) → b ≡ true → (a && not b) ≡ false
unlisted true b e = rw e
unlisted false b e = refl

pub inexact_passed : (w : Wanted) (r count : ℕ) (ns es rs : List ℕ) (n : Node) → NodeRead ns r n → n.exact ≡ false → Traced (FewInside r) (adding r) w count ns es rs count ns rs
inexact_passed w r count ns es rs n read x =
    record {
      does = λ d old_n old_e old_r c z t i.
          let e : (node_at c.nodes r).exact ≡ false = ap (λ (m : Node). m.exact) (sym (row_is w d old_n old_e old_r c count ns es rs z t r n i.0 read)) ∙ x in
          rw e t;
    }

pub listed_passed : (w : Wanted) (r count : ℕ) (ns es rs : List ℕ) (n : Node) → NodeRead ns r n → n.cutset ≡ true → Traced (FewInside r) (adding r) w count ns es rs count ns rs
listed_passed w r count ns es rs n read x =
    record {
      does = λ d old_n old_e old_r c z t i.
          let e : (node_at c.nodes r).cutset ≡ true = ap (λ (m : Node). m.cutset) (sym (row_is w d old_n old_e old_r c count ns es rs z t r n i.0 read)) ∙ x in
          rw (unlisted (node_at c.nodes r).exact (node_at c.nodes r).cutset e) t;
    }

pub parent_listed : (w : Wanted) (r count : ℕ) (ns es rs : List ℕ) (n : Node) (count' : ℕ) (ns' rs' : List ℕ) → NodeRead ns r n → n.exact ≡ true → n.cutset ≡ false → Traced (Inside r) (listing r) w count ns es rs count' ns' rs' → Traced (FewInside r) (adding r) w count ns es rs count' ns' rs'
parent_listed w r count ns es rs n count' ns' rs' read x u g =
    record {
      does = λ d old_n old_e old_r c z t i.
          let q = sym (row_is w d old_n old_e old_r c count ns es rs z t r n i.0 read) in
          let e : (node_at c.nodes r).exact ≡ true = ap (λ (m : Node). m.exact) q ∙ x in
          let f : (node_at c.nodes r).cutset ≡ false = ap (λ (m : Node). m.cutset) q ∙ u in
          rw (e, f) (g.does d old_n old_e old_r c z t i.0);
    }

-- ---- row after row

rows_snoc : (lo n : ℕ) → rows_from lo (suc n) ≡ rows_from lo n ++ ((lo + n) ∷ [])
unfolding rows_from
rows_snoc lo zero = rw add-zero
rows_snoc lo (suc n) =
    let z : lo + suc n ≡ suc lo + n = omega arith in
    rw z (ap (λ (l : List ℕ). lo ∷ l) (rows_snoc (suc lo) n))

list_append : (rs : List ℕ) (r : ℕ) (c : Cutset) → list_rows (rs ++ (r ∷ [])) c ≡ list_row r (list_rows rs c)
unfolding list_rows
list_append [] r c = refl
list_append (q ∷ rs) r c = list_append rs r (list_row q c)

frontier_append : (d : Diagram) (rs : List ℕ) (r : ℕ) (c : Cutset) → frontier_rows d.edges (rs ++ (r ∷ [])) c ≡ of_row r d (frontier_rows d.edges rs c)
unfolding frontier_rows
frontier_append d [] r c = refl
frontier_append d (q ∷ rs) r c = frontier_append d rs r (of_row q d c)

pub listings_more : (lo n : ℕ) (d : Diagram) (c : Cutset) → listings lo (suc n) d c ≡ listing (lo + n) d (listings lo n d c)
listings_more lo n d c = rw (rows_snoc lo n) (list_append (rows_from lo n) (lo + n) c)

pub rows_more : (lo n : ℕ) (d : Diagram) (c : Cutset) → of_rows lo (suc n) d c ≡ of_row (lo + n) d (of_rows lo n d c)
rows_more lo n d c = rw (rows_snoc lo n) (frontier_append d (rows_from lo n) (lo + n) c)

-- a loop over rows from lo on: the rows before r are done, and then r is
pub rows_step : (P Q : Diagram → Cutset → Type 0) (F : ℕ → ℕ → Diagram → Cutset → Cutset) (G : ℕ → Diagram → Cutset → Cutset) → ((lo n : ℕ) (d : Diagram) (c : Cutset) → F lo (suc n) d c ≡ G (lo + n) d (F lo n d c)) → (w : Wanted) (lo r : ℕ) (k₀ : ℕ) (ns₀ es rs₀ : List ℕ) (k : ℕ) (ns rs : List ℕ) (k' : ℕ) (ns' rs' : List ℕ) → lo ≤ r → ((d : Diagram) (c : Cutset) → P d c → Q d (F lo (r - lo) d c)) → Traced P (F lo (r - lo)) w k₀ ns₀ es rs₀ k ns rs → Traced Q (G r) w k ns es rs k' ns' rs' → Traced P (F lo (r + 1 - lo)) w k₀ ns₀ es rs₀ k' ns' rs'
rows_step P Q F G more w lo r k₀ ns₀ es rs₀ k ns rs k' ns' rs' h q a b =
    let z : r + 1 - lo ≡ suc (r - lo) = omega arith in
    let y : lo + (r - lo) ≡ r = omega arith in
    traced_then P Q (F lo (r - lo)) (G r) (F lo (r + 1 - lo)) w k₀ ns₀ es rs₀ k ns rs k' ns' rs' q
    (λ d c. ap (λ (n : ℕ). F lo n d c) z ∙ more lo (r - lo) d c ∙ ap (λ (x : ℕ). G x d (F lo (r - lo) d c)) y) a b

-- nothing is done where no row was passed, and all is done where the loop ends
pub rows_none : (P : Diagram → Cutset → Type 0) (F : ℕ → ℕ → Diagram → Cutset → Cutset) → ((lo : ℕ) (d : Diagram) (c : Cutset) → F lo 0 d c ≡ c) → (w : Wanted) (lo k : ℕ) (ns es rs : List ℕ) → Traced P (F lo (lo - lo)) w k ns es rs k ns rs
rows_none P F none w lo k ns es rs =
    let z : lo - lo ≡ 0 = omega arith in
    record { does = λ d old_n old_e old_r c s t p. rw (z, none lo d c) t }

pub rows_all : (P : Diagram → Cutset → Type 0) (F : ℕ → ℕ → Diagram → Cutset → Cutset) (w : Wanted) (lo hi r k₀ : ℕ) (ns₀ es rs₀ : List ℕ) (k : ℕ) (ns rs : List ℕ) → lo ≤ r → r - lo ≤ hi - lo → hi ≤ r → Traced P (F lo (r - lo)) w k₀ ns₀ es rs₀ k ns rs → Traced P (F lo (hi - lo)) w k₀ ns₀ es rs₀ k ns rs
rows_all P F w lo hi r k₀ ns₀ es rs₀ k ns rs a b h t =
    let z : hi - lo ≡ r - lo = omega arith in
    rw z t

pub listings_none : (lo : ℕ) (d : Diagram) (c : Cutset) → listings lo 0 d c ≡ c
unfolding list_rows rows_from
listings_none lo d c = refl

pub ofrows_none : (lo : ℕ) (d : Diagram) (c : Cutset) → of_rows lo 0 d c ≡ c
unfolding frontier_rows rows_from
ofrows_none lo d c = refl
