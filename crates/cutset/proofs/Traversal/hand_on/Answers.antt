-- `hand_on` meets its contract: a row that isn't marked changes nothing, a marked one counts, and if the list has room its record is written.
use mathlib.Core.Path.{refl}
use borrow.Author.Tests.{not-true, not-false}
use Rattle.cutset.proofs.Handing.{unmarked_on, behind_on, written_on, path_asked, place_asked}
use Rattle.cutset.proofs.Steps.{stays_none}
use Rattle.cutset.proofs.Traversal.hand_on.Goals as goal
use Rattle.cutset.proofs.Traversal.hand_on.Goals.{then-self, else-self}

pub returns-then-not-n : goal.returns-then-not-n
returns-then-not-n c =
    record { handed = unmarked_on _ _ _ _ _ _ _ c.requires.read (not-true _ c.if-not-n.true); stays = stays_none _ }

pub best_path-best-requires : goal.best_path-best-requires
best_path-best-requires c = path_asked _ _ _ _ _ _ c.requires.going.tracing

pub write_record-requires : goal.write_record-requires
write_record-requires c = place_asked _ _ _ _ _ _ c.requires.going.tracing c.if-self.true

pub returns : goal.returns
returns c =
    elim c.if-self.branch [
      | then-self w ↦ rw w.self-is (record {
        handed = written_on _ _ _ _ _ _ _ _ _ _ c.requires.read (not-false _ c.if-not-n.false) w.if-self.true w.best_path-best.ensures w.drained_bound.ensures w.write_record.ensures;
        stays = record { wanted = refl; edges = refl; records = refl };
      })
      | else-self w ↦ rw w.self-is (record {
        handed = behind_on _ _ _ _ _ _ _ c.requires.read (not-false _ c.if-not-n.false) w.if-self.false;
        stays = record { wanted = refl; edges = refl; records = refl };
      })
    ]
