-- `rows::write_path` meets its contract: after i turns the list holds the path's first i bytes from the place on.
use Rattle.std.proofs.Common.{◌+◌, ◌<◌, length, ◌∙◌, arith, add-one}
use Rattle.std.proofs.Math.ListN.{length-set}
use Rattle.std.proofs.Math.Seq.{paste-suc}
use Rattle.rows.proofs.write_path.Goals as goal

pub loop-i-preserved : goal.loop-i-preserved
loop-i-preserved c =
    let L = c.loop-i in
    let s = c.args in
    let h : L.i < length s.bytes = omega arith in
    let l : s.from + L.i < length s.list.now = omega arith in
    record {
      sized = length-set L.list (s.from + L.i) c.from.result ∙ L.invariant.sized;
      pasted = rw (L.invariant.pasted, c.from.ensures, add-one) (paste-suc s.list.now s.from s.bytes L.i 0 l h);
    }
