-- `compile_record` meets its contract: the record's path is lent to the compile.
use Rattle.std.proofs.Common.{◌≡◌, rules, length}
use Rattle.query.proofs.Paths.{answers_asked}
use Rattle.query.proofs.compile_record.Goals as goal

pub returns : goal.returns
returns c =
    let long : length c.args.q.root.path ≡ 64 = search rules in
    answers_asked c.args.q _ _ c.request_in.ensures c.path_length.ensures long _ _ _ _ _ _ _ c.compile.ensures
