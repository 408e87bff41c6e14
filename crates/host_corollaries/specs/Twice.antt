-- Two compiles, two starts, two picks or two jobs of a host on equal input return equal numbers, leave equal structs and write the same over the lent tables and lists, whatever else these hold.
use Rattle.std.specs.Prelude.{◌≡◌, List, ℕ, ℤ, length}
use Rattle.calls.specs.Asked.{Problem}
use Rattle.calls.specs.Compile.{Request, Lent, rooms_of, Effect, after, compile}
use Rattle.compile.specs.Asked.{lent_of}
use Rattle.searches.specs.Places.{Place, over_places}
use Rattle.searches.specs.Search.{Search}
use Rattle.searches.specs.Start.{start}
use Rattle.searches.specs.Pick as Pick
use Rattle.searches.specs.Pick.{pick}
use Rattle.pick_steps.specs.Tried.{held_in}
use Rattle.search_corollaries.specs.Twice.{SameInput}
use Rattle.job_run.specs.Twice.{SameSizes, LeftAlike}
use Rattle.border.specs.declared.Found.{Found}
use Rattle.border.specs.declared.HostSearch.{HostSearch}
use Rattle.border.specs.declared.Page.{Page}
use Rattle.host.specs.Promises.{CompilesFor, StartsFor, PicksFor, RunsFor}

-- the same is written over two tables and a list, from their starts on
pub record WrittenAlike (t t' before before' : Lent) : Type 0 where
  pub written : Effect
  pub first : t ≡ (after written before).lent
  pub second : t' ≡ (after written before').lent

-- the same for a list alone
pub record PlacedAlike (m m' before before' : List Place) : Type 0 where
  pub placed : List Place
  pub first : m ≡ over_places placed before
  pub second : m' ≡ over_places placed before'

abbrev pub OneCompile : Type 0
OneCompile =
    (q : Request) (t t' : Lent) → rooms_of t ≡ rooms_of t' → (n n' : ℕ) (found found' : Found) (ns es r ns' es' r' : List ℕ) →
    CompilesFor (compile q t) n found ns es r → CompilesFor (compile q t') n' found' ns' es' r' → (n ≡ n') × (found ≡ found') × WrittenAlike (lent_of ns es r) (lent_of ns' es' r') t t'

abbrev pub OneStart : Type 0
OneStart =
    (p : Problem) (bound : ℤ) (l l' : List Place) → length l ≡ length l' → (n n' : ℕ) (old s s' : HostSearch) (m m' : List Place) →
    StartsFor (start p bound l) n old s m → StartsFor (start p bound l') n' old s' m' → (n ≡ n') × (s ≡ s') × PlacedAlike m m' l l'

abbrev pub OnePick : Type 0
OnePick =
    (q : Pick.Asked) (t : Search) (h k : Pick.Held) → SameInput t h k → (n n' : ℕ) (old s s' : HostSearch) (ns es r ns' es' r' : List ℕ) (l l' : List Place) →
    PicksFor (pick q t h) n old s ns es l r → PicksFor (pick q t k) n' old s' ns' es' l' r' → (n ≡ n') × (s ≡ s') × LeftAlike (held_in l ns es r) (held_in l' ns' es' r') h k

-- of one job's text
abbrev pub OneJob : Type 0
OneJob =
    (text : List ℕ) (h k : Pick.Held) → rooms_of h.lent ≡ rooms_of k.lent → length h.list ≡ length k.list → (n n' : ℕ) (page page' : Page) (after after' : Pick.Held) →
    RunsFor text h n page after → RunsFor text k n' page' after' → (n ≡ n') × (page ≡ page')

-- In tables of one length, and not only of as many rows, what is left is the same writing over what each held.
abbrev pub OneJobLeaves : Type 0
OneJobLeaves =
    (text : List ℕ) (h k : Pick.Held) → SameSizes h k → (n n' : ℕ) (page page' : Page) (after after' : Pick.Held) →
    RunsFor text h n page after → RunsFor text k n' page' after' → LeftAlike after after' h k
