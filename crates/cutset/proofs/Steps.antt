-- The steps of a traversal, of the traversal as the code holds it: it goes on, row after row, edge after edge and layer after layer.
use mathlib.Core.Path.{◌≡◌, refl, ◌∙◌}
use mathlib.Core.List.{List}
use Prim.Native.Nat.{ℕ, suc, ◌+◌, ◌-◌, ◌≤◌, ◌<◌}
use Rattle.diagram.specs.Node.{Edge}
use Rattle.diagram.specs.Tables.{Diagram}
use Rattle.diagram.specs.After4.{Cutset}
use lib.ListN.{get_or}
use Rattle.layers.specs.declared.Layer.{Layer}
use Rattle.layers.specs.declared.Layers.{Layers}
use Rattle.layers.specs.Layer.{no_layer}
use Rattle.layers.specs.Stored.{stored}
use Rattle.rows.specs.Access.{EdgeRead}
use Rattle.cutset.specs.declared.Traversal.{Traversal}
use Rattle.cutset.specs.Trace.{Traced, FewInside, FewLink, FewUpto, FewRanges, adding, of_rows, of_layers, along_edges}
use Rattle.cutset.specs.Steps.{Going, Stays, Listed}
use Rattle.cutset.proofs.Listing.{tracing_then, rows_step, rows_none, rows_all}
use Rattle.cutset.proofs.Inbound.{Walking, walk_starts, walk_on, walk_ends, Standing, standing}
use Rattle.cutset.proofs.Layered.{Descending, at_last, one_down, past_first, layer_asked}

pub stays_none : (t : Traversal) → Stays t t
stays_none t = record { wanted = refl; edges = refl; records = refl }

pub stays_then : (t u v : Traversal) → Stays t u → Stays u v → Stays t v
stays_then t u v a b = record { wanted = b.wanted ∙ a.wanted; edges = b.edges ∙ a.edges; records = b.records ∙ a.records }

-- a later step, seen from the first one
seen_back : (Q : Diagram → Cutset → Type 0) (g : Diagram → Cutset → Cutset) (t u : Traversal) (us : List ℕ) (v : Traversal) (vs : List ℕ) → Stays t u → Listed Q g u us v vs → Traced Q g t.wanted u.count us t.edges.now u.records.now v.count vs v.records.now
seen_back Q g t u us v vs s l = rw (s.wanted, s.edges) at l.traced

-- what the next step asks
pub going_then : (P Q : Diagram → Cutset → Type 0) (f : Diagram → Cutset → Cutset) (t : Traversal) (ns : List ℕ) (u : Traversal) (us : List ℕ) → ((d : Diagram) (c : Cutset) → P d c → Q d (f d c)) → Going P t ns → Listed P f t ns u us → Going Q u us
going_then P Q f t ns u us q x a =
    record { tracing = rw (a.stays.wanted, a.stays.edges) (tracing_then P Q f t.wanted t.count ns t.edges.now t.records.now u.count us u.records.now q x.tracing a.traced) }

-- ---- row after row

pub rows_on : (P Q : Diagram → Cutset → Type 0) (F : ℕ → ℕ → Diagram → Cutset → Cutset) (G : ℕ → Diagram → Cutset → Cutset) → ((lo n : ℕ) (d : Diagram) (c : Cutset) → F lo (suc n) d c ≡ G (lo + n) d (F lo n d c)) → (lo r : ℕ) (t : Traversal) (ns : List ℕ) (u : Traversal) (us : List ℕ) (v : Traversal) (vs : List ℕ) → lo ≤ r → ((d : Diagram) (c : Cutset) → P d c → Q d (F lo (r - lo) d c)) → Listed P (F lo (r - lo)) t ns u us → Listed Q (G r) u us v vs → Listed P (F lo (r + 1 - lo)) t ns v vs
rows_on P Q F G more lo r t ns u us v vs h q a b =
    record {
      traced = rows_step P Q F G more t.wanted lo r t.count ns t.edges.now t.records.now u.count us u.records.now v.count vs v.records.now h q a.traced (seen_back Q (G r) t u us v vs a.stays b);
      stays = stays_then t u v a.stays b.stays;
    }

pub rows_begin : (P : Diagram → Cutset → Type 0) (F : ℕ → ℕ → Diagram → Cutset → Cutset) → ((lo : ℕ) (d : Diagram) (c : Cutset) → F lo 0 d c ≡ c) → (lo : ℕ) (t : Traversal) (ns : List ℕ) → Listed P (F lo (lo - lo)) t ns t ns
rows_begin P F none lo t ns =
    record { traced = rows_none P F none t.wanted lo t.count ns t.edges.now t.records.now; stays = stays_none t }

pub rows_end : (P : Diagram → Cutset → Type 0) (F : ℕ → ℕ → Diagram → Cutset → Cutset) (lo hi r : ℕ) (t : Traversal) (ns : List ℕ) (u : Traversal) (us : List ℕ) → lo ≤ r → r - lo ≤ hi - lo → hi ≤ r → Listed P (F lo (r - lo)) t ns u us → Listed P (F lo (hi - lo)) t ns u us
rows_end P F lo hi r t ns u us a b h l =
    record { traced = rows_all P F t.wanted lo hi r t.count ns t.edges.now t.records.now u.count us u.records.now a b h l.traced; stays = l.stays }

-- ---- edge after edge

-- the walk from link e₀ stands at link e
pub record AtLink (e₀ : ℕ) (t : Traversal) (ns : List ℕ) (e : ℕ) (u : Traversal) (us : List ℕ) : Type 0 where
  pub walking : Walking t.wanted e₀ t.count ns t.edges.now t.records.now e u.count us u.records.now
  pub stays : Stays t u

pub links_begin : (e : ℕ) (t : Traversal) (ns : List ℕ) → AtLink e t ns e t ns
links_begin e t ns = record { walking = walk_starts t.wanted e t.count ns t.edges.now t.records.now; stays = stays_none t }

pub at_edge : (e₀ : ℕ) (t : Traversal) (ns : List ℕ) (e : ℕ) (u : Traversal) (us : List ℕ) → Going (FewLink e₀) t ns → AtLink e₀ t ns e u us → Standing u.wanted e u.count us u.edges.now u.records.now
at_edge e₀ t ns e u us x a =
    rw (a.stays.wanted, a.stays.edges) (standing t.wanted e₀ t.count ns t.edges.now t.records.now e u.count us u.records.now x.tracing a.walking)

pub links_on : (e₀ : ℕ) (t : Traversal) (ns : List ℕ) (e : ℕ) (u : Traversal) (us : List ℕ) (i : ℕ) (x : Edge) (v : Traversal) (vs : List ℕ) → e ≡ i + 1 → EdgeRead u.edges.now i x → AtLink e₀ t ns e u us → Listed (FewInside x.from) (adding x.from) u us v vs → AtLink e₀ t ns x.next v vs
links_on e₀ t ns e u us i x v vs h read a l =
    record {
      walking = walk_on t.wanted e₀ t.count ns t.edges.now t.records.now e u.count us u.records.now i x v.count vs v.records.now h (rw a.stays.edges at read) a.walking (seen_back (FewInside x.from) (adding x.from) t u us v vs a.stays l);
      stays = stays_then t u v a.stays l.stays;
    }

pub links_end : (e₀ : ℕ) (t : Traversal) (ns : List ℕ) (e : ℕ) (u : Traversal) (us : List ℕ) → e ≡ 0 → AtLink e₀ t ns e u us → Listed (FewLink e₀) (along_edges e₀) t ns u us
links_end e₀ t ns e u us h a =
    record { traced = walk_ends t.wanted e₀ t.count ns t.edges.now t.records.now e u.count us u.records.now h a.walking; stays = a.stays }

-- ---- layer after layer

-- the first i stored layers are left
pub record AtLayer (l : Layers) (t : Traversal) (ns : List ℕ) (i : ℕ) (u : Traversal) (us : List ℕ) : Type 0 where
  pub descending : Descending t.wanted l t.count ns t.edges.now t.records.now i u.count us u.records.now
  pub stays : Stays t u

pub layers_begin : (l : Layers) (t : Traversal) (ns : List ℕ) → AtLayer l t ns l.count t ns
layers_begin l t ns = record { descending = at_last t.wanted l t.count ns t.edges.now t.records.now; stays = stays_none t }

pub next_layer : (l : Layers) (t : Traversal) (ns : List ℕ) (i : ℕ) (u : Traversal) (us : List ℕ) (y : Layer) → 0 < i → y ≡ get_or l.rows (i - 1) no_layer → Going (FewRanges (stored l)) t ns → AtLayer l t ns i u us → Going (FewUpto y.to) u us
next_layer l t ns i u us y h e x a =
    record { tracing = rw (a.stays.wanted, a.stays.edges) (layer_asked t.wanted l t.count ns t.edges.now t.records.now i u.count us u.records.now y h e x.tracing a.descending) }

pub layers_on : (l : Layers) (t : Traversal) (ns : List ℕ) (i : ℕ) (u : Traversal) (us : List ℕ) (y : Layer) (v : Traversal) (vs : List ℕ) → 0 < i → y ≡ get_or l.rows (i - 1) no_layer → AtLayer l t ns i u us → Listed (FewUpto y.to) (of_rows y.from (y.to - y.from)) u us v vs → AtLayer l t ns (i - 1) v vs
layers_on l t ns i u us y v vs h e a b =
    record {
      descending = one_down t.wanted l t.count ns t.edges.now t.records.now i u.count us u.records.now y v.count vs v.records.now h e a.descending (seen_back (FewUpto y.to) (of_rows y.from (y.to - y.from)) t u us v vs a.stays b);
      stays = stays_then t u v a.stays b.stays;
    }

pub layers_end : (l : Layers) (t : Traversal) (ns : List ℕ) (i : ℕ) (u : Traversal) (us : List ℕ) → i ≤ 0 → AtLayer l t ns i u us → Listed (FewRanges (stored l)) (of_layers (stored l)) t ns u us
layers_end l t ns i u us h a =
    record { traced = past_first t.wanted l t.count ns t.edges.now t.records.now i u.count us u.records.now h a.descending; stays = a.stays }

-- what the walk along the edges needs
pub ruleset edges = (links_begin, links_end)

-- what the descent through the layers needs
pub ruleset layers = (layers_begin, next_layer, layers_end)
