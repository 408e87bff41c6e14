-- `given_of` meets its contract: the path in its 64 places, and how many records the list's words make.
use Rattle.compile.proofs.Values.{given_made}
use Rattle.compile.proofs.given_of.Goals as goal

pub returns : goal.returns
returns c = given_made c.args.q _ _ c.args.record_words c.places_of.ensures
