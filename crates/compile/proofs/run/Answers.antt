-- `run` meets its contract: growth, then its end, or the refusal that it stopped with.
use mathlib.Core.Path.{refl, ◌≡◌}
use Rattle.std.proofs.Common.{rules, Result, Ok, Err}
use Rattle.reasons.specs.Numbers.{numbered}
use Rattle.calls.specs.Compile.{rooms_of}
use Rattle.branch.specs.declared.Stop.{Stop}
use Rattle.grow.specs.declared.Growth.{Growth}
use Rattle.compile.specs.Asked.{request_of, lent_of}
use Rattle.compile.specs.Answered.{ran_effect, Effected}
use Rattle.compile.proofs.Running.{short, told_growable, told_finalizable, told_stopped, told_ended}
use Rattle.compile.proofs.run.Goals as goal

pub grow-requires : goal.grow-requires
grow-requires c = told_growable _ _ c.args.q c.args.path.now _ _ c.args.records.now c.requires _ _ c.task_of-t.ensures c.root_of-r.ensures

pub returns-in_err-g : goal.returns-in_err-g
returns-in_err-g c = go c.grow.result refl
  where
    go : (r : Result Growth Stop) → c.grow.result ≡ r → Effected (ran_effect (request_of c.args.items.weights.now c.args.items.profits.now c.args.q c.args.path.now) (rooms_of (lent_of c.args.nodes.now c.args.edges.now c.args.records.now))) c.args.nodes.now c.args.edges.now c.args.records.now (numbered c.from_residual.result) c.grow.new.nodes c.grow.new.edges c.args.records.now
    go (Ok g) e = search rules
    go (Err stop) e = told_stopped _ _ c.args.q c.args.path.now c.args.nodes.now c.args.edges.now c.args.records.now c.requires _ _ c.task_of-t.ensures c.root_of-r.ensures _ _ _ c.grow.ensures stop _ e (search rules)

pub given_of-given-requires : goal.given_of-given-requires
given_of-given-requires c = short _ _ c.args.q _ c.requires

pub conclude-requires : goal.conclude-requires
conclude-requires c =
    told_finalizable _ _ c.args.q c.args.path.now c.args.nodes.now c.args.edges.now _ c.requires _ _ c.task_of-t.ensures c.root_of-r.ensures _ _ _ c.grow.ensures _ _ (search rules) c.given_of-given.ensures

pub returns : goal.returns
returns c =
    told_ended _ _ c.args.q c.args.path.now c.args.nodes.now c.args.edges.now c.args.records.now c.requires _ _ c.task_of-t.ensures c.root_of-r.ensures _ _ _ c.grow.ensures _ _ _ _ _ _ (search rules) c.given_of-given.ensures c.relaxes.ensures c.conclude.ensures
