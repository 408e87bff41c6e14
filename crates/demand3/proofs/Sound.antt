-- The invariant of a search over its open records: `Stands` without the list around them, and what the proofs need beside it. A dropped record leaves it.
use mathlib.Core.Path.{◌≡◌, refl, sym, subst, ◌∙◌}
use mathlib.Core.Bool.{Bool, true, false}
use mathlib.Core.List.{List, Memᴰ}
use mathlib.Core.Logic.{◌⊎◌, inl, inr, ⊎_elim}
use Prim.Native.Nat.{ℕ, ◌≤◌, ◌<◌}
use lib.IntN.{ℤ, pos}
use lib.ListN.{length}
use lib.Signed.{◌≤ℤ◌, ◌<ℤ◌, ≤ℤ_refl, clash_ℤ, <ℤ-≤ℤ_trans}
use Rattle.words.specs.I64.{InI64}
use Rattle.knapsack.specs.Knapsack.{Optimum}
use Rattle.demand2.specs.Records.{items_in, Allowed, Valid}
use Rattle.searches.specs.Places.{Place, given_at}
use Rattle.searches.specs.Search.{Search, open_in, without}
use Rattle.searches.specs.Trace.{Blocks}
use Rattle.demand3.specs.Searches.{problem_of, Leads, IsSelection}
use Rattle.demand3.specs.Statements.{Stands}
use Rattle.demand3.proofs.Order.{at_most_of_below}
use Rattle.demand3.proofs.Lists.{place_in, stays_or_picked, without_in}

-- of a search and its open records
pub record Sound (b : Blocks) (bound : ℤ) (s : Search) (ps : List Place) : Type 0 where
  -- the start passed 1 to 6, and best stays an i64
  pub allowed : Allowed (problem_of b)
  pub best_is_i64 : InI64 s.best
  pub valid : (p : Place) → Memᴰ p ps → Valid (problem_of b) (given_at p)
  pub selection : s.held ≡ true → IsSelection b s.path s.best
  pub beats : s.held ≡ true → bound <ℤ s.best
  pub unheld : s.held ≡ false → s.best ≡ bound
  pub leads : (x : ℕ) → Optimum (items_in (problem_of b)) b.page x → s.best <ℤ pos x → Leads b ps (pos x)

-- of a search and its list
pub record Holds (b : Blocks) (bound : ℤ) (s : Search) (list : List Place) : Type 0 where
  pub listed : s.opened ≤ length list
  pub sound : Sound b bound s (open_in s list)

pub stands : (b : Blocks) (bound : ℤ) (s : Search) (list : List Place) → Holds b bound s list → Stands b bound s list
stands b bound s list h =
    let z = h.sound in
    record { listed = h.listed; valid = z.valid; selection = z.selection; beats = z.beats; unheld = z.unheld; leads = z.leads }

pub true_or_false : (t : Bool) → (t ≡ true) ⊎ (t ≡ false)
true_or_false true = inl refl
true_or_false false = inr refl

-- best is at least the starting bound
pub bound_at_most : (b : Blocks) (bound : ℤ) (s : Search) (ps : List Place) → Sound b bound s ps → bound ≤ℤ s.best
bound_at_most b bound s ps z =
    ⊎_elim (λ h. at_most_of_below bound s.best (z.beats h)) (λ h. subst (λ (x : ℤ). bound ≤ℤ x) (sym (z.unheld h)) (≤ℤ_refl bound)) (true_or_false s.held)

-- The invariant speaks of best, of what is held and of the open records alone.
pub sound_as : (b : Blocks) (bound : ℤ) (s t : Search) (ps rs : List Place) → t.best ≡ s.best → t.held ≡ s.held → t.path ≡ s.path → rs ≡ ps → Sound b bound s ps → Sound b bound t rs
sound_as b bound s t ps rs e f g r z =
    let same : Sound b bound t ps =
    record {
      allowed = z.allowed;
      best_is_i64 = subst (λ (x : ℤ). InI64 x) (sym e) z.best_is_i64;
      valid = z.valid;
      selection = λ h. subst (λ (x : ℤ). IsSelection b t.path x) (sym e) (subst (λ (l : List ℕ). IsSelection b l s.best) (sym g) (z.selection (sym f ∙ h)));
      beats = λ h. subst (λ (x : ℤ). bound <ℤ x) (sym e) (z.beats (sym f ∙ h));
      unheld = λ h. e ∙ z.unheld (sym f ∙ h);
      leads = λ x o h. z.leads x o (subst (λ (y : ℤ). y <ℤ pos x) e h);
    } in
    subst (λ (l : List Place). Sound b bound t l) (sym r) same

-- A record whose bound is at most best may go: it doesn't lead to anything above best.
pub sound_dropped : (b : Blocks) (bound : ℤ) (s : Search) (ps : List Place) (k : ℕ) → k < length ps → (place_in ps k).bound ≤ℤ s.best → Sound b bound s ps → Sound b bound s (without k ps)
sound_dropped b bound s ps k h low z =
    record {
      allowed = z.allowed;
      best_is_i64 = z.best_is_i64;
      valid = λ p i. z.valid p (without_in ps k p h i);
      selection = z.selection;
      beats = z.beats;
      unheld = z.unheld;
      leads = λ x o above. still x above (z.leads x o above);
    }
  where
    still : (x : ℕ) → s.best <ℤ pos x → Leads b ps (pos x) → Leads b (without k ps) (pos x)
    still x above l =
        ⊎_elim
        (λ i. record { place = l.place; is_open = i; bound = l.bound; selection = l.selection; completes = l.completes; earned = l.earned })
        (λ e. clash_ℤ (<ℤ-≤ℤ_trans above l.bound) (subst (λ (p : Place). p.bound ≤ℤ s.best) (sym e) low))
        (stays_or_picked ps k l.place h l.is_open)
